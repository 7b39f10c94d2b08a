-- Changes as they are read. The third byte tells changes of rows from definitions.
use Rattle.std.proofs.Common.{◌≡◌, ℕ, Bool, true, false, eqb, ◌||◌, get_or, List, refl, ap, ◌∙◌}
use Rattle.hs_plan.specs.declared.change.Change.{Change}
use Rattle.hs_plan.specs.declared.change.Change.TheVariants as c
use Rattle.hs_plan.specs.declared.definition.Definition.{Definition}
use Rattle.hs_plan.specs.declared.definition.Definition.TheVariants as d
use Rattle.hs_schema.specs.declared.table.Table.{Table}
use Rattle.hs_schema.specs.Catalogue.{Things}
use Rattle.hs_valuetext.proofs.Bits.{not_both}
use Rattle.hs_nametext.specs.Names.{name_text}
use Rattle.hs_tabletext.specs.Conditions.{Wording}
use Rattle.hs_rowtext.specs.Lines.{row_line, IsChangeOf, IsRowLine}
use Rattle.hs_committext.specs.Definitions.{definition_text, IsDefinitionText}
use Rattle.hs_committext.specs.Changes.{IsChangeText}

-- ---- the third byte

abbrev is_row_byte : ℕ → Bool
is_row_byte b = eqb b 83 || (eqb b 68 || eqb b 76)

abbrev begins_row : List ℕ → Bool
begins_row text = is_row_byte (get_or text 2 0)

row_begins : (table : Table) (change : Change) (written : List ℕ) → IsChangeOf table change → begins_row (row_line written change) ≡ true
row_begins table (c.Insert number row) written h = refl
row_begins table (c.Put number at row) written h = refl
row_begins table (c.Delete number at) written h = refl
row_begins table (c.Define definition) written h = absurd h

definition_begins : (wording : Wording) (things : Things) (e : Definition) → begins_row (definition_text wording things e) ≡ false
definition_begins wording things (d.CreateTable storage name columns constraints) = refl
definition_begins wording things (d.DropTable name) = refl
definition_begins wording things (d.AddColumn table column constraints) = refl
definition_begins wording things (d.AddConstraint table constraint) = refl
definition_begins wording things (d.DropConstraint table name) = refl
definition_begins wording things (d.CreateIndex table name columns) = refl
definition_begins wording things (d.DropIndex name) = refl
definition_begins wording things (d.SetControl control) = refl
definition_begins wording things (d.SetDefaultLevel serializable) = refl

pub no_definition : (wording : Wording) (things : Things) (text : List ℕ) (change : Change) (e : Definition) → IsRowLine things text change → IsDefinitionText wording things text e → ⊥
no_definition wording things text change e row h = not_both (begins_row text) (ap begins_row row.written ∙ row_begins row.table change (name_text row.name) row.of) (ap begins_row h.written ∙ definition_begins wording things e)

-- ---- changes of rows

row_of : (wording : Wording) (things : Things) (text : List ℕ) (change : Change) → IsRowLine things text change → IsChangeText wording things text change
row_of wording things text (c.Insert number row) h = h
row_of wording things text (c.Put number at row) h = h
row_of wording things text (c.Delete number at) h = h
row_of wording things text (c.Define definition) h = absurd h.of

pub row_found : (wording : Wording) (things : Things) (text : List ℕ) (change : Change) → IsRowLine things text change × ((x : Change) → IsRowLine things text x → x ≡ change) → IsChangeText wording things text change × ((x : Change) → IsChangeText wording things text x → x ≡ change)
row_found wording things text change known = (row_of wording things text change known.0, only)
  where
    only : (x : Change) → IsChangeText wording things text x → x ≡ change
    only (c.Insert number row) h = known.1 (c.Insert number row) h
    only (c.Put number at row) h = known.1 (c.Put number at row) h
    only (c.Delete number at) h = known.1 (c.Delete number at) h
    only (c.Define definition) h = absurd (no_definition wording things text change definition known.0 h)

-- ---- definitions

pub definition_found : (wording : Wording) (things : Things) (text : List ℕ) (e : Definition) → ((x : Change) → ¬ (IsRowLine things text x)) → IsDefinitionText wording things text e × ((q : Definition) → IsDefinitionText wording things text q → q ≡ e) → IsChangeText wording things text (c.Define e) × ((x : Change) → IsChangeText wording things text x → x ≡ c.Define e)
definition_found wording things text e none known = (known.0, only)
  where
    only : (x : Change) → IsChangeText wording things text x → x ≡ c.Define e
    only (c.Insert number row) h = absurd (none (c.Insert number row) h)
    only (c.Put number at row) h = absurd (none (c.Put number at row) h)
    only (c.Delete number at) h = absurd (none (c.Delete number at) h)
    only (c.Define definition) h = ap c.Define (known.1 definition h)

pub change_none : (wording : Wording) (things : Things) (text : List ℕ) → ((x : Change) → ¬ (IsRowLine things text x)) → ((q : Definition) → ¬ (IsDefinitionText wording things text q)) → (x : Change) → ¬ (IsChangeText wording things text x)
change_none wording things text row definition (c.Insert number values) h = row (c.Insert number values) h
change_none wording things text row definition (c.Put number at values) h = row (c.Put number at values) h
change_none wording things text row definition (c.Delete number at) h = row (c.Delete number at) h
change_none wording things text row definition (c.Define e) h = definition e h
