use Rattle.std.proofs.Common.{◌≡◌, ℕ, List, [], ◌++◌, map, sym, ap, ◌∙◌}
use Rattle.std.proofs.lemmas.List.{append-nil}
use Rattle.std.proofs.lemmas.Map.Iter.{rest_all}
use Rattle.std.specs.Map.Iter.{deref_pair}
use Rattle.hs_base.specs.declared.numbers.RowNo.{RowNo}
use Rattle.hs_rows.specs.Numbers.{numbers_among}
use Rattle.hs_keyed.proofs.Stored.{Entries, entries-rows_of}
use Rattle.hs_keyed.proofs.scan.numbers_in.Goals as goal

pub returns : goal.returns
returns c =
    let columns = c.args.columns.now in
    let key = c.args.key.now in
    let found : List ℕ = map (λ (r : RowNo). r.0) c.loop-number.found in
    let none : c.loop-number.number-iterator ≡ [] = rest_all deref_pair c.loop-number.number-iterator c.next.new.self c.next.result c.in-None.is c.next.ensures.steps in
    sym (append-nil found)
    ∙ ap (λ (es : Entries). found ++ numbers_among columns key es) (sym none)
    ∙ c.loop-number.invariant
    ∙ ap (numbers_among columns key) (sym (entries-rows_of c.args.rows.now.entries c.into_iter-number-iterator.ensures.into_iter_gives.5))
