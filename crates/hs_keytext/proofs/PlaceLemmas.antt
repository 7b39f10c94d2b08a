-- Columns by their names, as they are read.
use Rattle.std.proofs.Common.{◌≡◌, ◌≢◌, ℕ, suc, ◌+◌, ◌<◌, ◌^◌, ◌||◌, true, false, eqb, List, [], ◌∷◌, ◌++◌, Option, None, Some, inl, inr, refl, sym, ap, subst, ◌∙◌, IsUtf8, arith}
use Rattle.std.specs.List.{position_from}
use Rattle.std.specs.Str.{bytes_eq}
use Rattle.std.proofs.lemmas.Bool.{cases_Bool, or_cases, eqb-true}
use Rattle.std.proofs.lemmas.Slice.Eq.{bytes_eq-Decides}
use Rattle.hs_plan.specs.declared.definition.Column.{Column}
use Rattle.hs_valuetext.specs.Values.{begins_end}
use Rattle.hs_valuetext.proofs.Bits.{not_both}
use Rattle.hs_valuetext.proofs.TextLemmas.{Alone}
use Rattle.hs_nametext.specs.Names.{is_in_word, name_text, is_name, goes_on, IsNameAt}
use Rattle.hs_columntext.specs.Lists.{AreSome}
use Rattle.hs_keytext.specs.Places.{name_at, place_of, place_text, IsPlace, IsPlaceAt, IsPlaceOf, are_distinct, AreColumnsAt}

-- ---- the first column of a name

record Named (columns : List Column) (name : List ℕ) (from place : ℕ) : Type 0 where
  at : ℕ
  is : place ≡ from + at
  named : name_at columns at ≡ name

position_named : (name : List ℕ) (columns : List Column) (from place : ℕ) → position_from (λ (c : Column). bytes_eq name c.name) from columns ≡ Some place → Named columns name from place
position_named name [] from place e = absurd cc
position_named name (c ∷ columns) from place e = elim (cases_Bool (bytes_eq name c.name)) [
  | inl holds ↦
      let here : Some from ≡ Some place = rw holds at e in
      record { at = 0; is = let same : from ≡ place = cc in omega (arith, same); named = sym ((bytes_eq-Decides name c.name).0 holds) }
  | inr fails ↦
      let later = position_named name columns (from + 1) place (rw fails at e) in
      record { at = suc later.at; is = omega (arith, later.is); named = later.named }
]

pub place_named : (columns : List Column) (name : List ℕ) (place : ℕ) → place_of columns name ≡ Some place → name_at columns place ≡ name
place_named columns name place e =
    let found = position_named name columns 0 place e in
    let same : place ≡ found.at = omega (arith, found.is) in
    ap (name_at columns) same ∙ found.named

pub place_known : (columns : List Column) (name : List ℕ) (at : ℕ) (o : Option ℕ) → o ≡ place_of columns name → o ≡ Some at → at < 2 ^ 32 → IsPlaceOf columns name at × ((q : ℕ) → IsPlaceOf columns name q → q ≡ at)
place_known columns name at o looked is small = (
  record { is = sym looked ∙ is; small = small },
  λ q h. let both : Some q ≡ Some at = sym h.is ∙ sym looked ∙ is in cc,
)

pub place_wide : (columns : List Column) (name : List ℕ) (at : ℕ) (o : Option ℕ) → o ≡ place_of columns name → o ≡ Some at → (at < 2 ^ 32 → ⊥) → (q : ℕ) → ¬ (IsPlaceOf columns name q)
place_wide columns name at o looked is wide q h =
    let both : Some q ≡ Some at = sym h.is ∙ sym looked ∙ is in
    let same : q ≡ at = cc in
    wide (subst (λ (k : ℕ). k < 2 ^ 32) same h.small)

pub place_none : (columns : List Column) (name : List ℕ) (o : Option ℕ) → o ≡ place_of columns name → o ≡ None → (q : ℕ) → ¬ (IsPlaceOf columns name q)
place_none columns name o looked none q h = let both : Some q ≡ None = sym h.is ∙ sym looked ∙ none in absurd cc

-- ---- one column

-- behind a comma or a closing parenthesis no name goes on
pub end_apart : (rest : List ℕ) → begins_end rest ≡ true → goes_on rest ≡ false
end_apart [] h = absurd cc
end_apart (b ∷ rest) h = elim (or_cases (eqb b 44) (eqb b 41) h) [
  | inl comma ↦ ap (λ (x : ℕ). is_in_word x || eqb x 34) (eqb-true b 44 comma)
  | inr close ↦ ap (λ (x : ℕ). is_in_word x || eqb x 34) (eqb-true b 41 close)
]

its_name : (columns : List Column) (text : List ℕ) (place : ℕ) (rest : List ℕ) → IsPlaceAt columns text place rest → IsNameAt text (name_at columns place) rest
its_name columns text place rest h = record { lawful = h.lawful.named; utf8 = h.lawful.utf8; written = h.written; ends = end_apart rest h.ends }

pub place_found : (columns : List Column) (text name rest : List ℕ) (place : ℕ) → Alone (IsNameAt text) name rest → begins_end rest ≡ true → IsPlaceOf columns name place × ((q : ℕ) → IsPlaceOf columns name q → q ≡ place) → Alone (IsPlaceAt columns text) place rest
place_found columns text name rest place found ends known =
    let is : name_at columns place ≡ name = place_named columns name place known.0.is in (
      record {
        lawful = record { named = ap is_name is ∙ found.0.lawful; utf8 = subst IsUtf8 (sym is) found.0.utf8; first = ap (place_of columns) is ∙ known.0.is; small = known.0.small };
        written = found.0.written ∙ ap (λ (n : List ℕ). name_text n ++ rest) (sym is);
        ends = ends;
      },
      λ q others h.
          let same = found.1 (name_at columns q) others (its_name columns text q others h) in
          (known.1 q (record { is = ap (place_of columns) (sym same.0) ∙ h.lawful.first; small = h.lawful.small }), same.1),
    )

pub place_unknown : (columns : List Column) (text name rest : List ℕ) → Alone (IsNameAt text) name rest → ((q : ℕ) → ¬ (IsPlaceOf columns name q)) → (place : ℕ) (others : List ℕ) → ¬ (IsPlaceAt columns text place others)
place_unknown columns text name rest found none place others h =
    let same = found.1 (name_at columns place) others (its_name columns text place others h) in
    none place (record { is = ap (place_of columns) (sym same.0) ∙ h.lawful.first; small = h.lawful.small })

pub place_unended : (columns : List Column) (text name rest : List ℕ) → Alone (IsNameAt text) name rest → begins_end rest ≡ false → (place : ℕ) (others : List ℕ) → ¬ (IsPlaceAt columns text place others)
place_unended columns text name rest found open_end place others h =
    let same = found.1 (name_at columns place) others (its_name columns text place others h) in
    not_both (begins_end others) h.ends (ap begins_end same.1 ∙ open_end)

pub place_nameless : (columns : List Column) (text : List ℕ) → ((name rest : List ℕ) → ¬ (IsNameAt text name rest)) → (place : ℕ) (others : List ℕ) → ¬ (IsPlaceAt columns text place others)
place_nameless columns text none place others h = none (name_at columns place) others (its_name columns text place others h)

-- ---- lists of columns

pub columns_found : (columns : List Column) (text : List ℕ) (places : List ℕ) (rest : List ℕ) → Alone (AreSome (IsPlace columns) (place_text columns) text) places rest → are_distinct places ≡ true → Alone (AreColumnsAt columns text) places rest
columns_found columns text places rest found distinct = (
  record { lawful = record { each = found.0.at.lawful; some = found.0.some; distinct = distinct }; written = found.0.at.written },
  λ q others h. found.1 q others (record { at = record { lawful = h.lawful.each; written = h.written }; some = h.lawful.some }),
)

pub columns_twice : (columns : List Column) (text : List ℕ) (places : List ℕ) (rest : List ℕ) → Alone (AreSome (IsPlace columns) (place_text columns) text) places rest → are_distinct places ≡ false → (q : List ℕ) (others : List ℕ) → ¬ (AreColumnsAt columns text q others)
columns_twice columns text places rest found twice q others h =
    let same = found.1 q others (record { at = record { lawful = h.lawful.each; written = h.written }; some = h.lawful.some }) in
    not_both (are_distinct q) h.lawful.distinct (ap are_distinct same.0 ∙ twice)

pub columns_missing : (columns : List Column) (text : List ℕ) → ((q : List ℕ) (others : List ℕ) → ¬ (AreSome (IsPlace columns) (place_text columns) text q others)) → (q : List ℕ) (others : List ℕ) → ¬ (AreColumnsAt columns text q others)
columns_missing columns text none q others h = none q others (record { at = record { lawful = h.lawful.each; written = h.written }; some = h.lawful.some })
