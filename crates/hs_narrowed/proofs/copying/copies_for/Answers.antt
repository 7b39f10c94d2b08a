use Rattle.std.proofs.Common.{List, [], subst}
use Rattle.std.proofs.lemmas.Result.{IfOk-weaker}
use Rattle.hs_base.specs.declared.numbers.TableNo.{TableNo}
use Rattle.hs_changes.specs.Settings.{Maps}
use Rattle.hs_copied.specs.Copies.{Stand, with_rows}
use Rattle.hs_narrowed.proofs.Serving.{beside_serve, copies_serve, handed_on, serves_from}
use Rattle.hs_narrowed.proofs.copying.copies_for.Goals as goal

pub returns-in_err-kept-in-Some-clause-answer : goal.returns-in_err-kept-in-Some-clause-answer
returns-in_err-kept-in-Some-clause-answer g c = λ t.
    let tables = g.R.Rows.tables c.args.rows.now in
    let choice = c.in-Some.choice in
    handed_on c.args.query.now choice.table choice.condition.now c.in-Some.ensures tables c.in_err-kept-in-Some.field-0.0 c.from_residual.result c.from_residual.ensures.1 (c.in_err-kept-in-Some.ensures.rows t tables)

pub returns-in_ok-kept-in-Some-clause-answer : goal.returns-in_ok-kept-in-Some-clause-answer
returns-in_ok-kept-in-Some-clause-answer g c = λ t.
    let rows = g.R.Rows in
    let query = c.args.query.now in
    let tables = rows.tables c.args.rows.now in
    let choice = c.in-Some.choice in
    let looks = c.in_ok-kept-in-Some.ensures.looks in
    let kept = c.in_ok-kept-in-Some.kept in
    let told = g.met.R.Rows.tells_on c.args.rows.now c.rows_to_choose.new.rows looks.looked t in
    let same = c.in_ok-kept-in-Some.ensures.rows t tables in
    let through = c.in-Some.ensures in
    serves_from query tables c.copies_beside.result c.copies_beside.ensures.err
    (IfOk-weaker c.copies_beside.result _ _
    (λ copies stand.
    let then : Stand (with_rows tables choice.table kept) c.args.named.now copies = subst (λ (m : Maps). Stand (with_rows m choice.table kept) c.args.named.now copies) looks.tables stand in
    beside_serve query choice.table choice.condition.now through tables kept copies same (subst (λ (l : List TableNo). Stand (with_rows tables choice.table kept) l copies) c.requires.named then))
    (c.copies_beside.ensures.rows told))

pub returns-in-None-clause-answer : goal.returns-in-None-clause-answer
returns-in-None-clause-answer g c = λ t.
    let query = c.args.query.now in
    let tables = g.R.Rows.tables c.args.rows.now in
    serves_from query tables c.copies_of.result c.copies_of.ensures.err
    (IfOk-weaker c.copies_of.result _ _
    (λ copies stand. copies_serve query tables copies (subst (λ (l : List TableNo). Stand tables l copies) c.requires.named stand))
    (c.copies_of.ensures.rows t))
