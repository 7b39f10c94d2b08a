use Rattle.std.proofs.Common.{List, map, sym, ap, subst, ◌∙◌}
use Rattle.std.proofs.lemmas.Result.{IfOk-weaker}
use Rattle.hs_base.specs.declared.numbers.RowNo.{RowNo}
use Rattle.hs_index.specs.RowSets.{IsAscending}
use Rattle.hs_keyed.specs.declared.indexes.KeyIndex.{KeyIndex}
use Rattle.hs_keyed.specs.Kept.{rows_of, AreOf}
use Rattle.hs_keyed.proofs.Indexed.{index_numbers}
use Rattle.hs_rows.specs.Numbers.{numbers_with}
use Rattle.hs_keyed.proofs.keyed_rows.KeyedRows.rows_with.Goals as goal

pub returns-in_ok-from_slice-in-Some : goal.returns-in_ok-from_slice-in-Some
returns-in_ok-from_slice-in-Some c =
    let rows = rows_of c.self.inside.rows.entries in
    let is = c.in-Some.ensures rows (subst (λ (all : List KeyIndex). AreOf rows all) (sym c.deref.ensures.value) c.self.invariant) in
    ap (map (λ (r : RowNo). r.0)) (c.from_vec.ensures ∙ c.in_ok-from_slice-in-Some.ensures.items ∙ c.find.ensures.rows)
    ∙ index_numbers c.args.columns.now rows c.in-Some.index.now is c.args.key.now (subst IsAscending c.find.ensures.rows c.find.ensures.ascending)
    ∙ ap (numbers_with c.args.columns.now c.args.key.now) c.self.view_is

pub returns-in-None : goal.returns-in-None
returns-in-None c =
    IfOk-weaker c.numbers_in.result _ _
    (λ found same. same ∙ ap (numbers_with c.args.columns.now c.args.key.now) c.self.view_is)
    c.numbers_in.ensures
