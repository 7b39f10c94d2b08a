-- The changes of a commit are one definition or changes of rows.
use Rattle.std.proofs.Common.{◌≡◌, ◌≢◌, ◌⊎◌, ℕ, ◌≤◌, Bool, true, false, eqb, ◌||◌, get_or, List, [], ◌∷◌, ◌++◌, length, inl, inr, refl, sym, ap, subst, ◌∙◌, arith}
use Rattle.std.specs.Prelude.{IsUtf8}
use Rattle.std.specs.List.{list_any}
use Rattle.std.proofs.lemmas.Bool.{cases_Bool}
use Rattle.hs_plan.specs.declared.change.Change.{Change}
use Rattle.hs_plan.specs.declared.change.Change.TheVariants as c
use Rattle.hs_plan.specs.declared.definition.Definition.{Definition}
use Rattle.hs_plan.specs.declared.definition.Definition.TheVariants as d
use Rattle.hs_schema.specs.declared.table.Table.{Table}
use Rattle.hs_schema.specs.Catalogue.{Things}
use Rattle.hs_turns.specs.Database.{is_definition}
use Rattle.hs_valuetext.proofs.Bits.{or_false, not_both}
use Rattle.hs_nametext.specs.Names.{name_text}
use Rattle.hs_tabletext.specs.Conditions.{Wording}
use Rattle.hs_rowtext.specs.Lines.{row_line, IsChangeOf, IsRowLine}
use Rattle.hs_committext.specs.Definitions.{definition_text, IsDefinitionText}
use Rattle.hs_committext.specs.Changes.{IsChangeText}
use Rattle.hs_committext.specs.Lines.{AreLinesOf}
use Rattle.hs_committext.specs.Commits.{AreCommitted, AreChangesIn, IsLoneDefinition}

abbrev pub AreRows : Things → List ℕ → List Change → Type 0
AreRows things = AreLinesOf (IsRowLine things)

-- ---- one change

row_change : (wording : Wording) (things : Things) (line : List ℕ) (change : Change) → IsRowLine things line change → IsChangeText wording things line change
row_change wording things line (c.Insert number row) h = h
row_change wording things line (c.Put number at row) h = h
row_change wording things line (c.Delete number at) h = h
row_change wording things line (c.Define definition) h = absurd h.of

row_plain : (things : Things) (line : List ℕ) (change : Change) → IsRowLine things line change → is_definition change ≡ false
row_plain things line (c.Insert number row) h = refl
row_plain things line (c.Put number at row) h = refl
row_plain things line (c.Delete number at) h = refl
row_plain things line (c.Define definition) h = absurd h.of

change_row : (wording : Wording) (things : Things) (line : List ℕ) (change : Change) → is_definition change ≡ false → IsChangeText wording things line change → IsRowLine things line change
change_row wording things line (c.Insert number row) plain h = h
change_row wording things line (c.Put number at row) plain h = h
change_row wording things line (c.Delete number at) plain h = h
change_row wording things line (c.Define definition) plain h = absurd cc

-- ---- changes of rows

rows_changes : (wording : Wording) (things : Things) (text : List ℕ) (changes : List Change) → AreRows things text changes → AreLinesOf (IsChangeText wording things) text changes
rows_changes wording things text [] h = h
rows_changes wording things text (x ∷ xs) h = record { line = h.line; rest = h.rest; is = row_change wording things h.line x h.is; others = rows_changes wording things h.rest xs h.others; written = h.written }

rows_plain : (things : Things) (text : List ℕ) (changes : List Change) → AreRows things text changes → list_any is_definition changes ≡ false
rows_plain things text [] h = refl
rows_plain things text (x ∷ xs) h = rw (row_plain things h.line x h.is) (rows_plain things h.rest xs h.others)

changes_rows : (wording : Wording) (things : Things) (text : List ℕ) (changes : List Change) → list_any is_definition changes ≡ false → AreLinesOf (IsChangeText wording things) text changes → AreRows things text changes
changes_rows wording things text [] plain h = h
changes_rows wording things text (x ∷ xs) plain h =
    let parts = or_false (is_definition x) (list_any is_definition xs) plain in
    record { line = h.line; rest = h.rest; is = change_row wording things h.line x parts.0 h.is; others = changes_rows wording things h.rest xs parts.1 h.others; written = h.written }

some_rows : (things : Things) (text : List ℕ) (changes : List Change) → text ≢ [] → AreRows things text changes → 1 ≤ length changes
some_rows things text [] some h = absurd (some h)
some_rows things text (x ∷ xs) some h = omega arith

pub of_rows : (wording : Wording) (things : Things) (text : List ℕ) (changes : List Change) → IsUtf8 text → text ≢ [] → AreRows things text changes → AreChangesIn wording things text changes
of_rows wording things text changes utf8 some h = record {
  committed = record { some = some_rows things text changes some h; alone = λ any. absurd (not_both (list_any is_definition changes) any (rows_plain things text changes h)) };
  utf8 = utf8;
  each = rows_changes wording things text changes h;
}

-- ---- a definition

pub of_lone : (wording : Wording) (things : Things) (text : List ℕ) (changes : List Change) → IsUtf8 text → IsLoneDefinition wording things text changes → AreChangesIn wording things text changes
of_lone wording things text changes utf8 h = subst (AreChangesIn wording things text) (sym h.is) (record {
  committed = record { some = omega arith; alone = λ any. refl };
  utf8 = utf8;
  each = record { line = h.lines; rest = []; is = h.of; others = refl; written = h.written };
})

lone : (wording : Wording) (things : Things) (text : List ℕ) (change : Change) (others : List Change) → list_any is_definition (change ∷ others) ≡ true → length (change ∷ others) ≡ 1 → AreLinesOf (IsChangeText wording things) text (change ∷ others) → IsLoneDefinition wording things text (change ∷ others)
lone wording things text (c.Insert number row) [] any one h = absurd cc
lone wording things text (c.Put number at row) [] any one h = absurd cc
lone wording things text (c.Delete number at) [] any one h = absurd cc
lone wording things text (c.Define definition) [] any one h = record { definition = definition; lines = h.line; is = refl; of = h.is; written = h.written ∙ ap (λ (r : List ℕ). h.line ++ 10 ∷ r) h.others }
lone wording things text change (x ∷ xs) any one h = absurd (omega (arith, one))

forms : (wording : Wording) (things : Things) (text : List ℕ) (changes : List Change) → AreCommitted changes → AreLinesOf (IsChangeText wording things) text changes → AreRows things text changes ⊎ IsLoneDefinition wording things text changes
forms wording things text [] committed h = absurd (omega (arith, committed.some))
forms wording things text (x ∷ xs) committed h = elim (cases_Bool (list_any is_definition (x ∷ xs))) [
  | inl any ↦ inr (lone wording things text x xs any (committed.alone any) h)
  | inr plain ↦ inl (changes_rows wording things text (x ∷ xs) plain h)
]

-- ---- never both

-- the third byte tells changes of rows from definitions
abbrev is_row_byte : ℕ → Bool
is_row_byte b = eqb b 83 || (eqb b 68 || eqb b 76)

abbrev begins_row : List ℕ → Bool
begins_row text = is_row_byte (get_or text 2 0)

row_begins : (table : Table) (change : Change) (written rest : List ℕ) → IsChangeOf table change → begins_row (row_line written change ++ rest) ≡ true
row_begins table (c.Insert number row) written rest h = refl
row_begins table (c.Put number at row) written rest h = refl
row_begins table (c.Delete number at) written rest h = refl
row_begins table (c.Define definition) written rest h = absurd h

definition_begins : (wording : Wording) (things : Things) (e : Definition) (rest : List ℕ) → begins_row (definition_text wording things e ++ rest) ≡ false
definition_begins wording things (d.CreateTable storage name columns constraints) rest = refl
definition_begins wording things (d.DropTable name) rest = refl
definition_begins wording things (d.AddColumn table column constraints) rest = refl
definition_begins wording things (d.AddConstraint table constraint) rest = refl
definition_begins wording things (d.DropConstraint table name) rest = refl
definition_begins wording things (d.CreateIndex table name columns) rest = refl
definition_begins wording things (d.DropIndex name) rest = refl
definition_begins wording things (d.SetControl control) rest = refl
definition_begins wording things (d.SetDefaultLevel serializable) rest = refl

no_rows : (wording : Wording) (things : Things) (text : List ℕ) (changes rows : List Change) → IsLoneDefinition wording things text changes → AreRows things text rows → ⊥
no_rows wording things text changes [] h none = empty h.lines (sym none ∙ h.written)
  where
    empty : (front : List ℕ) → (let none : List ℕ = [] in none) ≡ front ++ 10 ∷ [] → ⊥
    empty [] e = absurd cc
    empty (b ∷ front) e = absurd cc
no_rows wording things text changes (x ∷ xs) h rows =
    let row = rows.is in
    not_both (begins_row text)
    (ap begins_row (rows.written ∙ ap (λ (l : List ℕ). l ++ 10 ∷ rows.rest) row.written) ∙ row_begins row.table x (name_text row.name) (10 ∷ rows.rest) row.of)
    (ap begins_row (h.written ∙ ap (λ (l : List ℕ). l ++ 10 ∷ []) h.of.written) ∙ definition_begins wording things h.definition (10 ∷ []))

-- ---- what a text has

pub no_changes : (wording : Wording) (things : Things) (text : List ℕ) → text ≡ [] → (x : List Change) → ¬ (AreChangesIn wording things text x)
no_changes wording things text none [] h = absurd (omega (arith, h.committed.some))
no_changes wording things text none (x ∷ xs) h = empty h.each.line h.each.rest (sym none ∙ h.each.written)
  where
    empty : (front rest : List ℕ) → (let none : List ℕ = [] in none) ≡ front ++ 10 ∷ rest → ⊥
    empty [] rest e = absurd cc
    empty (b ∷ front) rest e = absurd cc

pub rows_alone : (wording : Wording) (things : Things) (text : List ℕ) (changes : List Change) → IsUtf8 text → text ≢ [] → AreRows things text changes × ((x : List Change) → AreRows things text x → x ≡ changes) → AreChangesIn wording things text changes × ((x : List Change) → AreChangesIn wording things text x → x ≡ changes)
rows_alone wording things text changes utf8 some known = (
  of_rows wording things text changes utf8 some known.0,
  λ x h. elim (forms wording things text x h.committed h.each) [
    | inl rows ↦ known.1 x rows
    | inr one ↦ absurd (no_rows wording things text x changes one known.0)
  ],
)

pub lone_from : (wording : Wording) (things : Things) (text : List ℕ) → ((x : List Change) → ¬ (AreRows things text x)) → (x : List Change) → AreChangesIn wording things text x → IsLoneDefinition wording things text x
lone_from wording things text none x h = elim (forms wording things text x h.committed h.each) [
  | inl rows ↦ absurd (none x rows)
  | inr one ↦ one
]

-- ---- the definition alone

longer : (y : ℕ) (ys : List ℕ) → 10 ∷ [] ≡ y ∷ (ys ++ 10 ∷ []) → ⊥
longer y [] e = absurd cc
longer y (z ∷ ys) e = absurd cc

heads : (x y : ℕ) (front more xs ys : List ℕ) → x ∷ front ≡ y ∷ more → (front ≡ more → xs ≡ ys) → x ∷ xs ≡ y ∷ ys
heads x y front more xs ys e then =
    let head : x ≡ y = cc in
    let tail : front ≡ more = cc in
    (λ i. head i ∷ then tail i)

ends_same : (xs ys : List ℕ) → xs ++ 10 ∷ [] ≡ ys ++ 10 ∷ [] → xs ≡ ys
ends_same [] [] e = refl
ends_same [] (y ∷ ys) e = absurd (longer y ys e)
ends_same (x ∷ xs) [] e = absurd (longer x xs (sym e))
ends_same (x ∷ xs) (y ∷ ys) e = heads x y (xs ++ 10 ∷ []) (ys ++ 10 ∷ []) xs ys e (ends_same xs ys)

pub lone_found : (wording : Wording) (things : Things) (text lines : List ℕ) (definition : Definition) (changes : List Change) → text ≡ lines ++ 10 ∷ [] → IsDefinitionText wording things lines definition × ((q : Definition) → IsDefinitionText wording things lines q → q ≡ definition) → changes ≡ c.Define definition ∷ [] → IsLoneDefinition wording things text changes × ((x : List Change) → IsLoneDefinition wording things text x → x ≡ changes)
lone_found wording things text lines definition changes written known made = (
  record { definition = definition; lines = lines; is = made; of = known.0; written = written },
  λ x h.
      let same : h.lines ≡ lines = ends_same h.lines lines (sym h.written ∙ written) in
      h.is ∙ ap (λ (q : Definition). c.Define q ∷ []) (known.1 h.definition (subst (λ (l : List ℕ). IsDefinitionText wording things l h.definition) same h.of)) ∙ sym made,
)

pub lone_missing : (wording : Wording) (things : Things) (text lines : List ℕ) → text ≡ lines ++ 10 ∷ [] → ((q : Definition) → ¬ (IsDefinitionText wording things lines q)) → (x : List Change) → ¬ (IsLoneDefinition wording things text x)
lone_missing wording things text lines written none x h =
    let same : h.lines ≡ lines = ends_same h.lines lines (sym h.written ∙ written) in
    none h.definition (subst (λ (l : List ℕ). IsDefinitionText wording things l h.definition) same h.of)

pub lone_unended : (wording : Wording) (things : Things) (text : List ℕ) → ((xs : List ℕ) → text ≢ xs ++ 10 ∷ []) → (x : List Change) → ¬ (IsLoneDefinition wording things text x)
lone_unended wording things text other x h = other h.lines h.written
