-- Lists of claims that go together, claim by claim.
use Rattle.std.specs.Prelude.{◌≡◌, ◌&&◌, Bool, true, false, List, [], ◌∷◌, ◌++◌, refl}
use Rattle.std.proofs.Common.{inl, inr, ap, ap₂, subst, sym, ◌∙◌}
use Rattle.std.specs.List.{list_all}
use Rattle.hs_claims.specs.declared.claim.Claim.{Claim}
use Rattle.hs_claims.specs.Compatible.{compatible, fits_one, fits}
use Rattle.hs_claims.specs.Wants.{IsIn}

pub in_front : {X : Type 0} (x : X) → (xs ys : List X) → IsIn x xs → IsIn x (xs ++ ys)
in_front x [] ys h = absurd h
in_front x (y ∷ xs) ys (inl is) = inl is
in_front x (y ∷ xs) ys (inr later) = inr (in_front x xs ys later)

pub in_back : {X : Type 0} (x : X) → (xs ys : List X) → IsIn x ys → IsIn x (xs ++ ys)
in_back x [] ys h = h
in_back x (y ∷ xs) ys h = inr (in_back x xs ys h)

pub and_both : (a b : Bool) → (a && b) ≡ true → (a ≡ true) × (b ≡ true)
and_both true b h = (refl, h)
and_both false b h = absurd cc

pub from_both : (a b : Bool) → a ≡ true → b ≡ true → (a && b) ≡ true
from_both a b h k = ap₂ (λ (x y : Bool). x && y) h k

-- what a test finds in all it finds in each
pub all_in : {X : Type 0} (p : X → Bool) (x : X) → (xs : List X) → list_all p xs ≡ true → IsIn x xs → p x ≡ true
all_in p x [] h at = absurd at
all_in p x (y ∷ ys) h (inl is) = ap p is ∙ (and_both (p y) (list_all p ys) h).0
all_in p x (y ∷ ys) h (inr later) = all_in p x ys (and_both (p y) (list_all p ys) h).1 later

pub in_all : {X : Type 0} (p : X → Bool) → (xs : List X) → ((x : X) → IsIn x xs → p x ≡ true) → list_all p xs ≡ true
in_all p [] h = refl
in_all p (y ∷ ys) h = from_both (p y) (list_all p ys) (h y (inl refl)) (in_all p ys (λ x at. h x (inr at)))

-- a claim of each list
pub both_fit : (wanted held : List Claim) → fits wanted held ≡ true → (want hold : Claim) → IsIn want wanted → IsIn hold held → compatible want hold ≡ true
both_fit wanted held h want hold at there = all_in (λ c. compatible c hold) want wanted (all_in (fits_one wanted) hold held h there) at

pub fit_all : (wanted held : List Claim) → ((want hold : Claim) → IsIn want wanted → IsIn hold held → compatible want hold ≡ true) → fits wanted held ≡ true
fit_all wanted held h = in_all (fits_one wanted) held (λ hold there. in_all (λ c. compatible c hold) wanted (λ want at. h want hold at there))

-- so do their rests
pub fits_tails : (want hold : Claim) (wanted held : List Claim) → fits (want ∷ wanted) (hold ∷ held) ≡ true → fits wanted held ≡ true
fits_tails want hold wanted held h = fit_all wanted held (λ w k at there. both_fit (want ∷ wanted) (hold ∷ held) h w k (inr at) (inr there))
