use Rattle.std.proofs.Common.{not, ◌==◌, List, sym, ap, subst, ◌∙◌}
use Rattle.hs_sentences.specs.Asking.{any_row}
use Rattle.hs_keyed.specs.declared.indexes.KeyIndex.{KeyIndex}
use Rattle.hs_keyed.specs.Found.{carries_too}
use Rattle.hs_keyed.specs.Kept.{rows_of, AreOf}
use Rattle.hs_keyed.proofs.Indexed.{index_tells}
use Rattle.hs_keyed.proofs.keyed_rows.KeyedRows.has_other.Goals as goal

pub returns-in-Some : goal.returns-in-Some
returns-in-Some c =
    let rows = rows_of c.self.inside.rows.entries in
    let is = c.in-Some.ensures rows (subst (λ (all : List KeyIndex). AreOf rows all) (sym c.deref.ensures.value) c.self.invariant) in
    c.has_another.ensures
    ∙ index_tells c.args.columns.now rows c.in-Some.index.now is c.args.key.now (λ n. not (n == c.args.number.0))
    ∙ ap (any_row (carries_too c.args.columns.now c.args.key.now c.args.number.0)) c.self.view_is
