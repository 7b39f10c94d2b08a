-- Commits that are known to be read as they again.
use Rattle.std.proofs.Common.{◌≡◌, ◌≢◌, ℕ, ◌≤◌, List, [], ◌∷◌, ◌++◌, length, refl, ap, ◌∙◌, append_assoc, arith}
use Rattle.std.specs.Prelude.{Option, Some, IsUtf8}
use Rattle.std.specs.List.{All}
use Rattle.std.specs.Option.{option_map_or}
use Rattle.std.proofs.lemmas.List.Elements.{All-head, All-tail, All-weaker}
use Rattle.hs_base.specs.declared.numbers.SessionNo.{SessionNo}
use Rattle.hs_base.specs.declared.numbers.TableNo.{TableNo}
use Rattle.hs_committext.proofs.FormLemmas.{of_rows, AreRows}
use Rattle.hs_committext.specs.Changes.{change_text, table_name, IsPrintable}
use Rattle.hs_committext.specs.Commits.{changes_text, commit_text}
use Rattle.hs_knowntext.specs.Known.{IsKnown, IsKnownChange}
use Rattle.hs_nametext.specs.Names.{name_text}
use Rattle.hs_plan.specs.declared.change.Change.{Change}
use Rattle.hs_plan.specs.declared.change.Change.TheVariants as c
use Rattle.hs_rowtext.specs.Lines.{row_line, IsRowLine}
use Rattle.hs_rowtext.specs.Rows.{types_of}
use Rattle.hs_schema.specs.declared.table.Table.{Table}
use Rattle.hs_schema.specs.Catalogue.{Things, table_numbered}
use Rattle.hs_tabletext.specs.Conditions.{Wording}
use Rattle.hs_values.proofs.OneType.{row_lawful}
use Rattle.hs_logged.specs.Entered.{HasText, IsTextIn}

module _ (wording : Wording) (things : Things) where
  -- ---- one change

  one_printable : (x : Change) → IsKnownChange things x → IsPrintable wording things x
  one_printable (c.Insert t row) known = row_lawful (types_of known.table.columns) row known.of.1.fits
  one_printable (c.Put t at row) known = row_lawful (types_of known.table.columns) row known.of.2.fits
  one_printable (c.Delete t at) known = tt
  one_printable (c.Define definition) known = absurd known.of

  name_is : (table : Table) (t : TableNo) → table_numbered things table.number ≡ Some table → t ≡ table.number → table_name things t ≡ table.name
  name_is table t numbered same = ap (table_name things) same ∙ ap (λ (o : Option Table). option_map_or (λ (u : Table). u.name) o []) numbered

  line_is : (x : Change) (known : IsKnownChange things x) → change_text wording things x ≡ row_line (name_text known.table.name) x
  line_is (c.Insert t row) known = ap (λ (n : List ℕ). row_line (name_text n) (c.Insert t row)) (name_is known.table t known.found.numbered known.of.0)
  line_is (c.Put t at row) known = ap (λ (n : List ℕ). row_line (name_text n) (c.Put t at row)) (name_is known.table t known.found.numbered known.of.0)
  line_is (c.Delete t at) known = ap (λ (n : List ℕ). row_line (name_text n) (c.Delete t at)) (name_is known.table t known.found.numbered known.of.0)
  line_is (c.Define definition) known = absurd known.of

  has_line : (x : Change) → IsKnownChange things x → IsRowLine things (change_text wording things x) x
  has_line x known = record { name = known.table.name; table = known.table; names = known.found.named; of = known.of; written = line_is x known }

  -- ---- all of them

  have_lines : (changes : List Change) → All (IsKnownChange things) changes → AreRows things (changes_text wording things changes) changes
  have_lines [] h = refl
  have_lines (x ∷ xs) h = record {
    line = change_text wording things x;
    rest = changes_text wording things xs;
    is = has_line x (All-head (IsKnownChange things) x xs h);
    others = have_lines xs (All-tail (IsKnownChange things) x xs h);
    written = append_assoc (change_text wording things x) (10 ∷ []) (changes_text wording things xs);
  }

  some_line : (line rest : List ℕ) → (line ++ 10 ∷ []) ++ rest ≢ []
  some_line [] rest e = cc
  some_line (b ∷ line) rest e = cc

  some_lines : (changes : List Change) → 1 ≤ length changes → changes_text wording things changes ≢ []
  some_lines [] some = absurd (omega (arith, some))
  some_lines (x ∷ xs) some = some_line (change_text wording things x) (changes_text wording things xs)

  module _ (session : SessionNo) (changes : List Change) (known : IsKnown things session changes) where
    pub known_printable : All (IsPrintable wording things) changes
    known_printable = All-weaker (IsKnownChange things) (IsPrintable wording things) one_printable changes known.each

    known_read : (before : Option SessionNo) → IsUtf8 (changes_text wording things changes) → HasText wording things before session changes
    known_read before utf8 = record {
      lawful = known.lawful;
      lines = changes_text wording things changes;
      of = of_rows wording things (changes_text wording things changes) changes utf8 (some_lines changes known.some) (have_lines changes known.each);
      written = refl;
    }

    pub known_text : (before : Option SessionNo) (text : List ℕ) → IsUtf8 (changes_text wording things changes) → text ≡ commit_text wording things before session changes → IsTextIn wording things before session changes (Some text)
    known_text before text utf8 is = (is, known_read before utf8)
