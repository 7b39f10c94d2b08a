use Rattle.std.proofs.Common.{ℕ, List, All, Contains, get_or, subst}
use Rattle.std.proofs.lemmas.Bool.{eqb-true}
use Rattle.std.proofs.lemmas.List.{take_all}
use Rattle.std.proofs.lemmas.List.Elements.{All-more}
use Rattle.hs_keyed.proofs.indexes.are_among.Goals as goal

pub loop-column-preserved : goal.loop-column-preserved
loop-column-preserved c =
    let column = get_or c.args.own.now c.loop-column.column-index 0 in
    let found = c.if-not-contains.ensures.cases in
    All-more (Contains c.args.columns.now) c.args.own.now c.loop-column.column-index 0 c.loop-column-test.true c.loop-column.invariant
    (found.0, found.1, eqb-true (get_or c.args.columns.now found.0 column) column (found.2 column))

pub returns : goal.returns
returns c = λ is. subst (λ (xs : List ℕ). All (Contains c.args.columns.now) xs) (take_all c.loop-column.column-index c.args.own.now c.loop-column-test.false) c.loop-column.invariant
