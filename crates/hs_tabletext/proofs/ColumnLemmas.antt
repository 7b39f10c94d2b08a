-- Columns that are added, as they are read.
use Rattle.std.proofs.Common.{◌≡◌, ℕ, Bool, true, false, List, ◌++◌, length, refl, sym, ap, subst, ◌∙◌}
use Rattle.std.specs.List.{list_all}
use Rattle.hs_plan.specs.declared.definition.Column.{Column}
use Rattle.hs_plan.specs.declared.definition.Constraint.{Constraint}
use Rattle.hs_valuetext.proofs.Bits.{not_both}
use Rattle.hs_columntext.specs.Columns.{column_text, IsLastColumn}
use Rattle.hs_columnlaws.proofs.CleanColumns.{clean_column}
use Rattle.hs_keytext.specs.Owners.{Owner}
use Rattle.hs_tabletext.specs.Conditions.{Wording}
use Rattle.hs_parttext.specs.Lines.{IsFirstLine}
use Rattle.hs_parttext.proofs.FeedLemmas.{one_line, lines_end}
use Rattle.hs_tabletext.specs.Constraints.{constraint_text, front_text, constraint_lines, AreConstraintLines}
use Rattle.hs_tabletext.proofs.CleanRules.{feedless}
use Rattle.hs_tabletext.specs.declared.definition.AddedColumn.{AddedColumn}
use Rattle.hs_tabletext.specs.Columns.{is_own, with_column, IsBehindColumn, IsAddedText}

-- ---- constraints of its own

-- all of these can be the column's own
abbrev pub are_own : Owner → List Constraint → Bool
are_own table constraints = list_all (λ c. is_own (length table.columns) c.rule) constraints

lines_of : (wording : Wording) (table : Owner) (column : Column) (text : List ℕ) (cs : List Constraint) → IsBehindColumn wording table column text cs → AreConstraintLines wording (with_column table column) text cs
lines_of wording table column text cs h = record { lawful = h.lawful.lawful; written = h.written }

pub own_found : (wording : Wording) (table : Owner) (column : Column) (text : List ℕ) (constraints : List Constraint) → AreConstraintLines wording (with_column table column) text constraints × ((cs : List Constraint) → AreConstraintLines wording (with_column table column) text cs → cs ≡ constraints) → are_own table constraints ≡ true → IsBehindColumn wording table column text constraints × ((cs : List Constraint) → IsBehindColumn wording table column text cs → cs ≡ constraints)
own_found wording table column text constraints known own = (
  record { lawful = record { lawful = known.0.lawful; own = own }; written = known.0.written },
  λ cs h. known.1 cs (lines_of wording table column text cs h),
)

pub own_other : (wording : Wording) (table : Owner) (column : Column) (text : List ℕ) (constraints : List Constraint) → AreConstraintLines wording (with_column table column) text constraints × ((cs : List Constraint) → AreConstraintLines wording (with_column table column) text cs → cs ≡ constraints) → are_own table constraints ≡ false → (cs : List Constraint) → ¬ (IsBehindColumn wording table column text cs)
own_other wording table column text constraints known other cs h = not_both (are_own table cs) h.lawful.own (ap (are_own table) (known.1 cs (lines_of wording table column text cs h)) ∙ other)

pub own_none : (wording : Wording) (table : Owner) (column : Column) (text : List ℕ) → ((cs : List Constraint) → ¬ (AreConstraintLines wording (with_column table column) text cs)) → (cs : List Constraint) → ¬ (IsBehindColumn wording table column text cs)
own_none wording table column text none cs h = none cs (lines_of wording table column text cs h)

-- ---- the whole

-- a text is cut behind its column in one way
cut : (wording : Wording) (table : Owner) (text line rest : List ℕ) → IsFirstLine text line rest → (a : AddedColumn) → IsAddedText wording table text a → (column_text a.column ≡ line) × (constraint_lines wording (with_column table a.column) a.constraints ≡ rest)
cut wording table text line rest first a h =
    let owner = with_column table a.column in
    one_line line rest (column_text a.column) (constraint_lines wording owner a.constraints) (sym first.parts ∙ h.written) first.before (feedless (column_text a.column) (clean_column a.column h.lawful.column)) first.ends
    (lines_end (front_text table.name) (constraint_text wording owner) a.constraints refl)

its_column : (wording : Wording) (table : Owner) (text line rest : List ℕ) → IsFirstLine text line rest → (a : AddedColumn) → IsAddedText wording table text a → IsLastColumn line a.column
its_column wording table text line rest first a h = record { lawful = h.lawful.column; written = sym (cut wording table text line rest first a h).0 }

its_own : (wording : Wording) (table : Owner) (text line rest : List ℕ) → IsFirstLine text line rest → (a : AddedColumn) → IsAddedText wording table text a → (column : Column) → a.column ≡ column → IsBehindColumn wording table column rest a.constraints
its_own wording table text line rest first a h column is =
    subst (λ (c : Column). IsBehindColumn wording table c rest a.constraints) is (record { lawful = h.lawful.constraints; written = sym (cut wording table text line rest first a h).1 })

pub added_found : (wording : Wording) (table : Owner) (text line rest : List ℕ) (a : AddedColumn) → IsFirstLine text line rest → IsLastColumn line a.column × ((c : Column) → IsLastColumn line c → c ≡ a.column) → IsBehindColumn wording table a.column rest a.constraints × ((cs : List Constraint) → IsBehindColumn wording table a.column rest cs → cs ≡ a.constraints) → IsAddedText wording table text a × ((b : AddedColumn) → IsAddedText wording table text b → b ≡ a)
added_found wording table text line rest a first column known = (
  record {
    lawful = record { column = column.0.lawful; constraints = known.0.lawful };
    written = first.parts ∙ (λ i. column.0.written i ++ known.0.written i);
  },
  λ b h.
      let its : b.column ≡ a.column = column.1 b.column (its_column wording table text line rest first b h) in
      let own : b.constraints ≡ a.constraints = known.1 b.constraints (its_own wording table text line rest first b h a.column its) in
      λ i. record { column = its i; constraints = own i },
)

pub added_ownless : (wording : Wording) (table : Owner) (text line rest : List ℕ) (column : Column) → IsFirstLine text line rest → IsLastColumn line column × ((c : Column) → IsLastColumn line c → c ≡ column) → ((cs : List Constraint) → ¬ (IsBehindColumn wording table column rest cs)) → (a : AddedColumn) → ¬ (IsAddedText wording table text a)
added_ownless wording table text line rest column first known none a h = none a.constraints (its_own wording table text line rest first a h column (known.1 a.column (its_column wording table text line rest first a h)))

pub added_columnless : (wording : Wording) (table : Owner) (text line rest : List ℕ) → IsFirstLine text line rest → ((c : Column) → ¬ (IsLastColumn line c)) → (a : AddedColumn) → ¬ (IsAddedText wording table text a)
added_columnless wording table text line rest first none a h = none a.column (its_column wording table text line rest first a h)
