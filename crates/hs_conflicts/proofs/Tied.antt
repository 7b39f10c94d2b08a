-- Claims that are tied to commits.
use Rattle.std.proofs.Common.{◌≡◌, ℕ, zero, suc, ◌+◌, ◌&&◌, Bool, true, false, List, [], ◌∷◌, ◌++◌, drop, None, Some, refl, sym, ap, ◌∙◌, arith}
use Rattle.std.specs.Prelude.{if◌then◌else◌}
use Rattle.std.specs.List.{list_all}
use Rattle.hs_claims.specs.declared.claim.Claim.{Claim}
use Rattle.hs_claims.specs.declared.model.ControlKind.{ControlKind}
use Rattle.hs_claims.specs.Compatible.{fits}
use Rattle.hs_turns.specs.Attempts.{clear_commits}
use Rattle.hs_turns.specs.Histories.{Commit, held}
use Rattle.hs_conflicts.specs.Conflicts.{AreTied, IsTied, conflict_from}

pub tied_drop : (kind : ControlKind) → (n : ℕ) (claims : List (List Claim)) (commits : List Commit) → AreTied kind claims commits → AreTied kind (drop n claims) (drop n commits)
tied_drop kind zero claims commits h = h
tied_drop kind (suc n) [] [] h = h
tied_drop kind (suc n) [] (k ∷ ks) h = absurd h
tied_drop kind (suc n) (c ∷ cs) [] h = absurd h
tied_drop kind (suc n) (c ∷ cs) (k ∷ ks) h = tied_drop kind n cs ks h.1

pub tied_push : (kind : ControlKind) → (claims : List (List Claim)) (commits : List Commit) (c : List Claim) (k : Commit) → AreTied kind claims commits → IsTied kind c k → AreTied kind (claims ++ c ∷ []) (commits ++ k ∷ [])
tied_push kind [] [] c k h is = (is, tt)
tied_push kind [] (j ∷ js) c k h is = absurd h
tied_push kind (b ∷ bs) [] c k h is = absurd h
tied_push kind (b ∷ bs) (j ∷ js) c k h is = (h.0, tied_push kind bs js c k h.1 is)

-- each commit goes together with what is wanted
abbrev pub all_clear : ControlKind → List Claim → List Commit → Bool
all_clear kind wanted commits = list_all (λ k. fits wanted (held kind k.level k.read_only k.feet)) commits

pub none_from_clear : (kind : ControlKind) (wanted : List Claim) → (claims : List (List Claim)) (commits : List Commit) (n : ℕ) → AreTied kind claims commits → all_clear kind wanted commits ≡ true → conflict_from wanted n claims ≡ None
none_from_clear kind wanted [] [] n h clear = refl
none_from_clear kind wanted [] (k ∷ ks) n h clear = absurd h
none_from_clear kind wanted (c ∷ cs) [] n h clear = absurd h
none_from_clear kind wanted (c ∷ cs) (k ∷ ks) n h clear = by (fits wanted c) (ap (λ (b : Bool). b && all_clear kind wanted ks) (h.0 wanted) ∙ clear) (none_from_clear kind wanted cs ks (n + 1) h.1)
  where
    by : (t : Bool) → (t && all_clear kind wanted ks) ≡ true → (all_clear kind wanted ks ≡ true → conflict_from wanted (n + 1) cs ≡ None) → (if t then conflict_from wanted (n + 1) cs else Some (n + 1)) ≡ None
    by true both rest = rest both
    by false both rest = absurd cc

pub clear_from_none : (kind : ControlKind) (wanted : List Claim) → (claims : List (List Claim)) (commits : List Commit) (n : ℕ) → AreTied kind claims commits → conflict_from wanted n claims ≡ None → all_clear kind wanted commits ≡ true
clear_from_none kind wanted [] [] n h none = refl
clear_from_none kind wanted [] (k ∷ ks) n h none = absurd h
clear_from_none kind wanted (c ∷ cs) [] n h none = absurd h
clear_from_none kind wanted (c ∷ cs) (k ∷ ks) n h none = ap (λ (b : Bool). b && all_clear kind wanted ks) (sym (h.0 wanted)) ∙ by (fits wanted c) none (clear_from_none kind wanted cs ks (n + 1) h.1)
  where
    by : (t : Bool) → (if t then conflict_from wanted (n + 1) cs else Some (n + 1)) ≡ None → (conflict_from wanted (n + 1) cs ≡ None → all_clear kind wanted ks ≡ true) → (t && all_clear kind wanted ks) ≡ true
    by true found rest = rest found
    by false found rest = absurd cc

some_is : (a b : ℕ) → Some a ≡ Some b → a ≡ b
some_is a b e = cc

-- the first that conflicts is the one behind those that go together with what is wanted
pub first_conflict : (kind : ControlKind) (wanted : List Claim) → (claims : List (List Claim)) (commits : List Commit) (n number : ℕ) → AreTied kind claims commits → conflict_from wanted n claims ≡ Some number
    → (number ≡ n + clear_commits kind wanted commits + 1) × (all_clear kind wanted commits ≡ false)
first_conflict kind wanted [] [] n number h found = absurd cc
first_conflict kind wanted [] (k ∷ ks) n number h found = absurd h
first_conflict kind wanted (c ∷ cs) [] n number h found = absurd h
first_conflict kind wanted (c ∷ cs) (k ∷ ks) n number h found =
    by (fits wanted (held kind k.level k.read_only k.feet)) (ap (λ (b : Bool). if b then conflict_from wanted (n + 1) cs else Some (n + 1)) (sym (h.0 wanted)) ∙ found) (first_conflict kind wanted cs ks (n + 1) number h.1)
  where
    by : (t : Bool) → (if t then conflict_from wanted (n + 1) cs else Some (n + 1)) ≡ Some number
        → (conflict_from wanted (n + 1) cs ≡ Some number → (number ≡ n + 1 + clear_commits kind wanted ks + 1) × (all_clear kind wanted ks ≡ false))
        → (number ≡ n + (if t then clear_commits kind wanted ks + 1 else 0) + 1) × ((t && all_clear kind wanted ks) ≡ false)
    by true is rest = let both : (number ≡ n + 1 + clear_commits kind wanted ks + 1) × (all_clear kind wanted ks ≡ false) = rest is in (omega arith, both.1)
    by false is rest = let same : n + 1 ≡ number = some_is (n + 1) number is in (omega arith, refl)
