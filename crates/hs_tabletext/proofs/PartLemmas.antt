-- Rules of one kind as they are read.
use Rattle.std.proofs.Common.{◌≡◌, ◌≢◌, ℕ, List, [], ◌∷◌, ◌++◌, refl, sym, ap, ◌∙◌}
use Rattle.std.specs.Prelude.{codes}
use Rattle.std.proofs.lemmas.List.{append_cancel_right}
use Rattle.hs_plan.specs.declared.definition.Column.{Column}
use Rattle.hs_plan.specs.declared.expression.Expr.{Expr}
use Rattle.hs_valuetext.proofs.NumberLemmas.{same_front}
use Rattle.hs_valuetext.proofs.TextLemmas.{Alone}
use Rattle.hs_keytext.specs.Places.{place_text, places_text, IsPlaceAt, AreColumnsAt}
use Rattle.hs_tabletext.specs.Conditions.{Wording, IsConditionText}
use Rattle.hs_tabletext.specs.Rules.{IsNotNullText, IsKeyText, IsCheckText}

-- ---- NOT NULL

its_place : (columns : List Column) (text inner : List ℕ) → text ≡ codes "NOT NULL(" ++ inner → (place : ℕ) → IsNotNullText columns text place → IsPlaceAt columns inner place (codes ")")
its_place columns text inner e place h = record { lawful = h.lawful; written = same_front (codes "NOT NULL(") inner (place_text columns place ++ codes ")") (sym e ∙ h.written); ends = refl }

pub not_null_found : (columns : List Column) (text inner rest : List ℕ) (place : ℕ) → text ≡ codes "NOT NULL(" ++ inner → Alone (IsPlaceAt columns inner) place rest → rest ≡ codes ")" → IsNotNullText columns text place × ((q : ℕ) → IsNotNullText columns text q → q ≡ place)
not_null_found columns text inner rest place e found close = (
  record { lawful = found.0.lawful; written = e ∙ ap (λ (xs : List ℕ). codes "NOT NULL(" ++ xs) (found.0.written ∙ ap (λ (xs : List ℕ). place_text columns place ++ xs) close) },
  λ q h. (found.1 q (codes ")") (its_place columns text inner e q h)).0,
)

pub not_null_more : (columns : List Column) (text inner rest : List ℕ) (place : ℕ) → text ≡ codes "NOT NULL(" ++ inner → Alone (IsPlaceAt columns inner) place rest → rest ≢ codes ")" → (q : ℕ) → ¬ (IsNotNullText columns text q)
not_null_more columns text inner rest place e found other q h = other (sym (found.1 q (codes ")") (its_place columns text inner e q h)).1)

pub not_null_placeless : (columns : List Column) (text inner : List ℕ) → text ≡ codes "NOT NULL(" ++ inner → ((place : ℕ) (rest : List ℕ) → ¬ (IsPlaceAt columns inner place rest)) → (q : ℕ) → ¬ (IsNotNullText columns text q)
not_null_placeless columns text inner e none q h = none q (codes ")") (its_place columns text inner e q h)

pub not_null_unbegun : (columns : List Column) (text : List ℕ) → ((r : List ℕ) → text ≢ codes "NOT NULL(" ++ r) → (q : ℕ) → ¬ (IsNotNullText columns text q)
not_null_unbegun columns text other q h = other (place_text columns q ++ codes ")") h.written

-- ---- keys

its_columns : (front : List ℕ) (columns : List Column) (text inner : List ℕ) → text ≡ front ++ inner → (places : List ℕ) → IsKeyText front columns text places → AreColumnsAt columns inner places []
its_columns front columns text inner e places h = record { lawful = h.lawful; written = same_front front inner (places_text columns places ++ codes ")") (sym e ∙ h.written) }

pub key_found : (front : List ℕ) (columns : List Column) (text inner rest : List ℕ) (places : List ℕ) → text ≡ front ++ inner → Alone (AreColumnsAt columns inner) places rest → rest ≡ [] → IsKeyText front columns text places × ((q : List ℕ) → IsKeyText front columns text q → q ≡ places)
key_found front columns text inner rest places e found none = (
  record { lawful = found.0.lawful; written = e ∙ ap (λ (xs : List ℕ). front ++ xs) (found.0.written ∙ ap (λ (xs : List ℕ). places_text columns places ++ (codes ")" ++ xs)) none) },
  λ q h. (found.1 q [] (its_columns front columns text inner e q h)).0,
)

pub key_more : (front : List ℕ) (columns : List Column) (text inner rest : List ℕ) (places : List ℕ) → text ≡ front ++ inner → Alone (AreColumnsAt columns inner) places rest → rest ≢ [] → (q : List ℕ) → ¬ (IsKeyText front columns text q)
key_more front columns text inner rest places e found some q h = some (sym (found.1 q [] (its_columns front columns text inner e q h)).1)

pub key_columnless : (front : List ℕ) (columns : List Column) (text inner : List ℕ) → text ≡ front ++ inner → ((places : List ℕ) (rest : List ℕ) → ¬ (AreColumnsAt columns inner places rest)) → (q : List ℕ) → ¬ (IsKeyText front columns text q)
key_columnless front columns text inner e none q h = none q [] (its_columns front columns text inner e q h)

pub key_unbegun : (front : List ℕ) (columns : List Column) (text : List ℕ) → ((r : List ℕ) → text ≢ front ++ r) → (q : List ℕ) → ¬ (IsKeyText front columns text q)
key_unbegun front columns text other q h = other (places_text columns q ++ codes ")") h.written

-- ---- CHECK

pub check_from : (wording : Wording) (columns : List Column) (text inner between : List ℕ) → text ≡ codes "CHECK(" ++ inner → inner ≡ between ++ codes ")" → (e : Expr) → IsConditionText wording columns between e → IsCheckText wording columns text e
check_from wording columns text inner between first last e h = record { lawful = h.lawful; written = first ∙ ap (λ (xs : List ℕ). codes "CHECK(" ++ xs) (last ∙ ap (λ (xs : List ℕ). xs ++ codes ")") h.written) }

pub from_check : (wording : Wording) (columns : List Column) (text inner between : List ℕ) → text ≡ codes "CHECK(" ++ inner → inner ≡ between ++ codes ")" → (e : Expr) → IsCheckText wording columns text e → IsConditionText wording columns between e
from_check wording columns text inner between first last e h = record {
  lawful = h.lawful;
  written = append_cancel_right between (wording.text columns e) (codes ")") (sym last ∙ same_front (codes "CHECK(") inner (wording.text columns e ++ codes ")") (sym first ∙ h.written));
}

pub check_unclosed : (wording : Wording) (columns : List Column) (text inner : List ℕ) → text ≡ codes "CHECK(" ++ inner → ((xs : List ℕ) → inner ≢ xs ++ codes ")") → (e : Expr) → ¬ (IsCheckText wording columns text e)
check_unclosed wording columns text inner first other e h = other (wording.text columns e) (same_front (codes "CHECK(") inner (wording.text columns e ++ codes ")") (sym first ∙ h.written))

pub check_unbegun : (wording : Wording) (columns : List Column) (text : List ℕ) → ((r : List ℕ) → text ≢ codes "CHECK(" ++ r) → (e : Expr) → ¬ (IsCheckText wording columns text e)
check_unbegun wording columns text other e h = other (wording.text columns e ++ codes ")") h.written
