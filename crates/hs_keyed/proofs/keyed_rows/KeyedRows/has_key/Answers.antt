use Rattle.std.proofs.Common.{not, true, List, sym, ap, subst, ◌∙◌}
use Rattle.std.specs.List.{list_any}
use Rattle.hs_base.specs.declared.numbers.RowNo.{RowNo}
use Rattle.hs_sentences.specs.Asking.{any_row}
use Rattle.hs_sentences.specs.Sentences.{carries}
use Rattle.hs_keyed.specs.declared.indexes.KeyIndex.{KeyIndex}
use Rattle.hs_keyed.specs.Kept.{rows_of, AreOf}
use Rattle.hs_keyed.proofs.Indexed.{not_empty, index_tells}
use Rattle.hs_keyed.proofs.keyed_rows.KeyedRows.has_key.Goals as goal

pub returns-in-Some : goal.returns-in-Some
returns-in-Some c =
    let rows = rows_of c.self.inside.rows.entries in
    let is = c.in-Some.ensures rows (subst (λ (all : List KeyIndex). AreOf rows all) (sym c.deref.ensures.value) c.self.invariant) in
    ap not c.is_empty.ensures
    ∙ not_empty c.find.result.now
    ∙ ap (list_any (λ (r : RowNo). true)) c.find.ensures.rows
    ∙ index_tells c.args.columns.now rows c.in-Some.index.now is c.args.key.now (λ n. true)
    ∙ ap (any_row (carries c.args.columns.now c.args.key.now)) c.self.view_is
