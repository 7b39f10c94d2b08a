-- Rows of which those of one table are changed up to a number.
use Rattle.std.proofs.Common.{◌≡◌, ℕ, suc, [], ◌∷◌, Option, Some, None, sym, ap, subst, ◌∙◌}
use Rattle.std.specs.FinMap.{empty, get}
use Rattle.hs_base.specs.declared.numbers.RowNo.{RowNo}
use Rattle.hs_changes.specs.Settings.{Maps, set_row, with_values}
use Rattle.hs_turns.specs.Definitions.{lengthened, with_rows}
use Rattle.hs_draft.specs.Drafted.{after}
use Rattle.hs_index.specs.Table.{Rows}
use Rattle.hs_rows.specs.Numbers.{next_in, start}
use Rattle.hs_seated.specs.declared.seated_rows.SeatedRows.{SeatedRows}
use Rattle.hs_seated.specs.Rows.{AreRows}
use Rattle.hs_values.specs.declared.value.Value.{Value}
use Rattle.hs_redefining.specs.Longer.{AreWithin, longer}
use Rattle.hs_redefining.proofs.ByNumber.{AreMixed, none_mixed, same_rows, set_in}
use Rattle.hs_redefining.proofs.Effects.{its_rows}
use Rattle.hs_redefining.proofs.Mixed.{changed_all, cleared_on, lengthened_on}

-- the table has these rows up to a number, and its own from it on; the others are as they were
pub record ArePartly (table : ℕ) (target : Rows) (maps : Maps) (n : ℕ) (seated : SeatedRows) : Type 0 where
  pub held : Rows
  pub rows : AreRows (with_rows table held maps) seated
  pub mixed : AreMixed target (maps table) n held

pub partly_none : (table : ℕ) (target : Rows) (maps : Maps) (rows : SeatedRows) → AreRows maps rows → ArePartly table target maps (start None) rows
partly_none table target maps rows are = record {
  held = maps table;
  rows = subst (λ (m : Maps). AreRows m rows) (sym (same_rows table maps)) are;
  mixed = none_mixed target (maps table);
}

module _ (table : ℕ) (maps : Maps) (rows : SeatedRows) where
  -- what the rows of the table are
  now_held : (held : Rows) → AreRows (with_rows table held maps) rows → after rows.draft table ≡ held
  now_held held are = are.draft table ∙ its_rows table held maps

  next_held : (held : Rows) (last : Option RowNo) (next : Option RowNo) → AreRows (with_rows table held maps) rows → next ≡ next_in (after rows.draft table) last → next ≡ next_in held last
  next_held held last next are is = is ∙ ap (λ (m : Rows). next_in m last) (now_held held are)

  pub partly_all : (target : Rows) (last : Option RowNo) → AreWithin target (maps table) → None ≡ next_in (after rows.draft table) last → ArePartly table target maps (start last) rows → AreRows (with_rows table target maps) rows
  partly_all target last within none partly =
      subst (λ (m : Rows). AreRows (with_rows table m maps) rows) (changed_all target (maps table) partly.held last within (next_held partly.held last None partly.rows none) partly.mixed) partly.rows

  pub partly_cleared : (last : Option RowNo) (r : RowNo) (new : SeatedRows) → Some r ≡ next_in (after rows.draft table) last
      → ((m : Maps) → AreRows m rows → AreRows (set_row m (record { table = table; row = r.0; values = None })) new)
      → ArePartly table empty maps (start last) rows → ArePartly table empty maps (suc r.0) new
  partly_cleared last r new next set partly = record {
    held = with_values partly.held r.0 None;
    rows = subst (λ (m : Maps). AreRows m new) (set_in table r.0 None partly.held maps) (set (with_rows table partly.held maps) partly.rows);
    mixed = cleared_on (maps table) partly.held last r (next_held partly.held last (Some r) partly.rows next) partly.mixed;
  }

  pub partly_lengthened : (value : Value) (last : Option RowNo) (r : RowNo) (new : SeatedRows) → Some r ≡ next_in (after rows.draft table) last
      → ((m : Maps) → AreRows m rows → AreRows (set_row m (record { table = table; row = r.0; values = longer (value ∷ []) (get (m table) r.0) })) new)
      → ArePartly table (lengthened value (maps table)) maps (start last) rows → ArePartly table (lengthened value (maps table)) maps (suc r.0) new
  partly_lengthened value last r new next set partly = record {
    held = with_values partly.held r.0 (longer (value ∷ []) (get partly.held r.0));
    rows = subst (λ (m : Maps). AreRows m new)
        (ap (λ (m : Rows). set_row (with_rows table partly.held maps) (record { table = table; row = r.0; values = longer (value ∷ []) (get m r.0) })) (its_rows table partly.held maps)
        ∙ set_in table r.0 (longer (value ∷ []) (get partly.held r.0)) partly.held maps)
        (set (with_rows table partly.held maps) partly.rows);
    mixed = lengthened_on value (maps table) partly.held last r (next_held partly.held last (Some r) partly.rows next) partly.mixed;
  }
