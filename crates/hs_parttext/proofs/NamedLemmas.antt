-- Names and fronts of texts, as they are read.
use Rattle.std.proofs.Common.{◌≡◌, ◌≢◌, ℕ, false, List, [], ◌++◌, refl, sym, ap, subst, ◌∙◌, IsUtf8, append-nil}
use Rattle.hs_valuetext.proofs.NumberLemmas.{same_front}
use Rattle.hs_valuetext.proofs.TextLemmas.{Alone}
use Rattle.hs_nametext.specs.Names.{name_text, is_name, goes_on, IsNameAt}
use Rattle.hs_parttext.specs.Named.{IsWholeName, IsNamed, IsOf, IsBehind}

-- ---- behind a front

pub behind_from : {X : Type 0} (front : List ℕ) (Is : List ℕ → X → Type 0) (text inner : List ℕ) → text ≡ front ++ inner → (x : X) → Is inner x → IsBehind front Is text x
behind_from front Is text inner e x h = record { rest = inner; at = h; written = e }

pub from_behind : {X : Type 0} (front : List ℕ) (Is : List ℕ → X → Type 0) (text inner : List ℕ) → text ≡ front ++ inner → (x : X) → IsBehind front Is text x → Is inner x
from_behind front Is text inner e x h = subst (λ (r : List ℕ). Is r x) (same_front front h.rest inner (sym h.written ∙ e)) h.at

pub behind_unbegun : {X : Type 0} (front : List ℕ) (Is : List ℕ → X → Type 0) (text : List ℕ) → ((r : List ℕ) → text ≢ front ++ r) → (x : X) → ¬ (IsBehind front Is text x)
behind_unbegun front Is text other x h = other h.rest h.written

-- ---- a name, and what is behind it

pub named_from : {X : Type 0} (Is : List ℕ → List ℕ → X → Type 0) (text name middle : List ℕ) → Alone (IsNameAt text) name middle → (p : List ℕ × X) → IsOf Is name middle p → IsNamed Is text p
named_from Is text name middle found p h = record {
  named = record { lawful = ap is_name h.is ∙ found.0.lawful; utf8 = subst IsUtf8 (sym h.is) found.0.utf8 };
  rest = middle;
  at = subst (λ (n : List ℕ). Is n middle p.1) (sym h.is) h.at;
  written = found.0.written ∙ ap (λ (n : List ℕ). name_text n ++ middle) (sym h.is);
}

-- no name goes on in what stands behind it
abbrev pub Ends : {X : Type 0} → (List ℕ → List ℕ → X → Type 0) → Type 0
Ends {X} Is = (name text : List ℕ) (x : X) → Is name text x → goes_on text ≡ false

pub from_named : {X : Type 0} (Is : List ℕ → List ℕ → X → Type 0) → Ends Is → (text name middle : List ℕ) → Alone (IsNameAt text) name middle → (p : List ℕ × X) → IsNamed Is text p → IsOf Is name middle p
from_named Is ends text name middle found p h =
    let same = found.1 p.0 h.rest (record { lawful = h.named.lawful; utf8 = h.named.utf8; written = h.written; ends = ends p.0 h.rest p.1 h.at }) in
    record { is = same.0; at = subst (λ (r : List ℕ). Is name r p.1) same.1 (subst (λ (n : List ℕ). Is n h.rest p.1) same.0 h.at) }

pub named_nameless : {X : Type 0} (Is : List ℕ → List ℕ → X → Type 0) → Ends Is → (text : List ℕ) → ((name rest : List ℕ) → ¬ (IsNameAt text name rest)) → (p : List ℕ × X) → ¬ (IsNamed Is text p)
named_nameless Is ends text none p h = none p.0 h.rest (record { lawful = h.named.lawful; utf8 = h.named.utf8; written = h.written; ends = ends p.0 h.rest p.1 h.at })

-- ---- a thing of this name

pub of_found : {X : Type 0} (Is : List ℕ → List ℕ → X → Type 0) (name text made : List ℕ) (x : X) → Is name text x × ((y : X) → Is name text y → y ≡ x) → made ≡ name → IsOf Is name text (made, x) × ((p : List ℕ × X) → IsOf Is name text p → p ≡ (made, x))
of_found Is name text made x known is = (
  record { is = is; at = known.0 },
  λ p h.
      let first : p.0 ≡ made = h.is ∙ sym is in
      let second = known.1 p.1 h.at in
      λ i. (first i, second i),
)

pub of_none : {X : Type 0} (Is : List ℕ → List ℕ → X → Type 0) (name text : List ℕ) → ((y : X) → ¬ (Is name text y)) → (p : List ℕ × X) → ¬ (IsOf Is name text p)
of_none Is name text none p h = none p.1 h.at

-- ---- a name that is all of the text

whole_at : (text name : List ℕ) → IsWholeName text name → IsNameAt text name []
whole_at text name h = record { lawful = h.named.lawful; utf8 = h.named.utf8; written = h.written ∙ sym (append-nil (name_text name)); ends = refl }

pub whole_found : (text name rest made : List ℕ) → Alone (IsNameAt text) name rest → rest ≡ [] → made ≡ name → IsWholeName text made × ((n : List ℕ) → IsWholeName text n → n ≡ made)
whole_found text name rest made found none is = (
  record {
    named = record { lawful = ap is_name is ∙ found.0.lawful; utf8 = subst IsUtf8 (sym is) found.0.utf8 };
    written = found.0.written ∙ ap (λ (xs : List ℕ). name_text name ++ xs) none ∙ append-nil (name_text name) ∙ ap name_text (sym is);
  },
  λ n h. (found.1 n [] (whole_at text n h)).0 ∙ sym is,
)

pub whole_more : (text name rest : List ℕ) → Alone (IsNameAt text) name rest → rest ≢ [] → (n : List ℕ) → ¬ (IsWholeName text n)
whole_more text name rest found some n h = some (sym (found.1 n [] (whole_at text n h)).1)

pub whole_nameless : (text : List ℕ) → ((name rest : List ℕ) → ¬ (IsNameAt text name rest)) → (n : List ℕ) → ¬ (IsWholeName text n)
whole_nameless text none n h = none n [] (whole_at text n h)
