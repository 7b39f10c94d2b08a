-- Names with what stands behind them, as they are read.
use Rattle.std.proofs.Common.{◌≡◌, ℕ, List}
use Rattle.hs_valuetext.proofs.TextLemmas.{Alone}
use Rattle.hs_nametext.specs.Names.{IsNameAt}
use Rattle.hs_parttext.specs.Named.{IsNamed}
use Rattle.hs_parttext.proofs.NamedLemmas.{Ends, of_found, named_from, from_named}

pub named_read : {X : Type 0} (Is : List ℕ → List ℕ → X → Type 0) → Ends Is → (text name rest made : List ℕ) (x : X) → Alone (IsNameAt text) name rest → Is name rest x × ((y : X) → Is name rest y → y ≡ x) → made ≡ name → IsNamed Is text (made, x) × ((p : List ℕ × X) → IsNamed Is text p → p ≡ (made, x))
named_read Is ends text name rest made x found known is =
    let of = of_found Is name rest made x known is in
    (named_from Is text name rest found (made, x) of.0, λ p h. of.1 p (from_named Is ends text name rest found p h))

pub named_none : {X : Type 0} (Is : List ℕ → List ℕ → X → Type 0) → Ends Is → (text name rest : List ℕ) → Alone (IsNameAt text) name rest → ((y : X) → ¬ (Is name rest y)) → (p : List ℕ × X) → ¬ (IsNamed Is text p)
named_none Is ends text name rest found none p h = none p.1 (from_named Is ends text name rest found p h).at
