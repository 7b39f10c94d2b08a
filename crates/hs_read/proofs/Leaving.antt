-- Classes are a statement, or no statement begins with them from one place on, and not both.
use Rattle.std.proofs.Common.{◌≡◌, ◌⊎◌, ℕ, zero, suc, ◌<◌, ◌≤◌, List, [], ◌∷◌, ◌++◌, length, take, drop, refl, ap, sym, ◌∙◌, subst, inl, inr, arith, append_assoc, append-nil}
use Rattle.std.proofs.Math.Nat.{eq-or-lt_of_le}
use Rattle.std.proofs.lemmas.List.{take-append-drop}
use Rattle.hs_syntax.specs.Literal.{IsStatement}
use Rattle.hs_syntax.specs.Statement.{LeavesAt, NoneGoesOn}

-- what is left behind a place that isn't the end
next_of : (ts : List ℕ) (p : ℕ) → p < length ts → (c : ℕ) × (rest : List ℕ) × (drop p ts ≡ c ∷ rest)
next_of [] p l = absurd (omega (arith, l))
next_of (x ∷ ts) zero l = (x, ts, refl)
next_of (x ∷ ts) (suc p) l = next_of ts p (omega (arith, l))

none_goes : (front rest more : List ℕ) → NoneGoesOn front rest → ¬ IsStatement (front ++ rest)
none_goes front [] more h s = h (subst IsStatement (append-nil front) s)
none_goes front (c ∷ rest) more h s = h rest s

pub not_both : (ts : List ℕ) (p : ℕ) → LeavesAt ts p → ¬ IsStatement ts
not_both ts p l s = none_goes (take p ts) (drop p ts) [] l.leaves (subst IsStatement (sym (take-append-drop p ts)) s)

-- a later front goes on as the tokens do
front_of : (ts : List ℕ) (p q c : ℕ) (rest : List ℕ) → drop p ts ≡ c ∷ rest → p < q → (more : List ℕ) × (take q ts ≡ take p ts ++ c ∷ more)
front_of [] zero q c rest e l = absurd (let no : [] ≡ c ∷ rest = e in cc)
front_of [] (suc p) q c rest e l = absurd (let no : [] ≡ c ∷ rest = e in cc)
front_of (x ∷ ts) zero zero c rest e l = absurd (omega (arith, l))
front_of (x ∷ ts) zero (suc q) c rest e l = (take q ts, let same : x ≡ c = cc in ap (λ z. z ∷ take q ts) same)
front_of (x ∷ ts) (suc p) zero c rest e l = absurd (omega (arith, l))
front_of (x ∷ ts) (suc p) (suc q) c rest e l = let h = front_of ts p q c rest e (omega (arith, l)) in (h.0, ap (λ z. x ∷ z) h.1)

not_before : (ts : List ℕ) (p q : ℕ) → LeavesAt ts p → LeavesAt ts q → p < q → ⊥
not_before ts p q a b l =
    let n = next_of ts p (let high = b.in_range in omega (arith, l, high)) in
    let f = front_of ts p q n.0 n.1 n.2 l in
    let none : NoneGoesOn (take p ts) (n.0 ∷ n.1) = subst (NoneGoesOn (take p ts)) n.2 a.leaves in
    none (f.0 ++ b.begins.0) (subst IsStatement (ap (λ z. z ++ b.begins.0) f.1 ∙ append_assoc (take p ts) (n.0 ∷ f.0) b.begins.0) b.begins.1)

at_once : (ts : List ℕ) (p q : ℕ) → LeavesAt ts p → LeavesAt ts q → (p < q) ⊎ (q ≤ p) → p ≡ q
at_once ts p q a b (inl less) = absurd (not_before ts p q a b less)
at_once ts p q a b (inr least) = elim (eq-or-lt_of_le least) [ inl same ↦ sym same | inr less ↦ absurd (not_before ts q p b a less) ]

either : (p q : ℕ) → (p < q) ⊎ (q ≤ p)
either p zero = inr (omega arith)
either zero (suc q) = inl (omega arith)
either (suc p) (suc q) = elim (either p q) [ inl l ↦ inl (omega (arith, l)) | inr h ↦ inr (omega (arith, h)) ]

pub one_place : (ts : List ℕ) (p q : ℕ) → LeavesAt ts p → LeavesAt ts q → p ≡ q
one_place ts p q a b = at_once ts p q a b (either p q)
