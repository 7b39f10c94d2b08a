-- The marks of places, after those of one changed.
use Rattle.std.proofs.Common.{◌≡◌, ℕ, ◌==◌, ◌&&◌, ◌||◌, not, Bool, true, false, cond, if◌then◌else◌, Option, Some, None, refl, sym, ap, ◌∙◌}
use Rattle.std.specs.BTreeMap.{BTreeMap, get}
use Rattle.std.specs.Cmp.{IsTotalOrder, eq_by_cmp_equiv}
use Rattle.std.specs.HashMap.Eq.{lookup_congr}
use Rattle.std.specs.Option.{unwrap_or}
use Rattle.std.specs.Ordering.{is_eq, eq_by_cmp}
use Rattle.std.specs.declared.cmp.Ordering.{Ordering}
use Rattle.hs_claims.specs.Session.{IsSession}
use Rattle.hs_claims.proofs.Bits.{is_set-none}
use Rattle.hs_claims.specs.Blockers.{has}
use Rattle.hs_claimtable.specs.declared.marks.Marks.{Marks}
use Rattle.hs_claimtable.specs.Marks.{no_marks, is_marked, marks_at}

pub nobody : (only : Bool) (s : ℕ) → is_marked only no_marks s ≡ false
nobody true s = is_set-none s
nobody false s = is_set-none s

-- ---- one more session, and one less

module _ (old new : Marks) (session : ℕ) (all : (s : ℕ) → IsSession s → has new.all s ≡ ((s == session) || has old.all s)) where
  pub with_exclusive : (exclusive : Bool) → exclusive ≡ true → ((s : ℕ) → IsSession s → has new.exclusive s ≡ ((s == session) || has old.exclusive s))
      → (only : Bool) (s : ℕ) → IsSession s → is_marked only new s ≡ (((not only || exclusive) && (s == session)) || is_marked only old s)
  with_exclusive true is one true s h = one s h
  with_exclusive true is one false s h = all s h
  with_exclusive false is one only s h = absurd cc

  pub with_shared : (exclusive : Bool) → exclusive ≡ false → new.exclusive ≡ old.exclusive
      → (only : Bool) (s : ℕ) → IsSession s → is_marked only new s ≡ (((not only || exclusive) && (s == session)) || is_marked only old s)
  with_shared false is same true s h = ap (λ b. has b s) same
  with_shared false is same false s h = all s h
  with_shared true is same only s h = absurd cc

pub without_both : (old new : Marks) (session : ℕ) → ((s : ℕ) → IsSession s → has new.all s ≡ (not (s == session) && has old.all s)) → ((s : ℕ) → IsSession s → has new.exclusive s ≡ (not (s == session) && has old.exclusive s))
    → (only : Bool) (s : ℕ) → IsSession s → is_marked only new s ≡ (not (s == session) && is_marked only old s)
without_both old new session all one true s h = one s h
without_both old new session all one false s h = all s h

pub none_left : (m : Marks) → ((s : ℕ) → IsSession s → has m.all s ≡ false) → ((s : ℕ) → IsSession s → has m.exclusive s ≡ false) → (only : Bool) (s : ℕ) → IsSession s → is_marked only m s ≡ false
none_left m all one true s h = one s h
none_left m all one false s h = all s h

and_false : (a : Bool) → (a && false) ≡ false
and_false true = refl
and_false false = refl

-- a false answer stays false, whatever else is asked
pub still_false : (a b : Bool) → b ≡ false → b ≡ (a && b)
still_false a b e = e ∙ sym (ap (λ x. a && x) e ∙ and_false a)

module _ {K : Type 0} (cmp : K → K → Ordering) (total : IsTotalOrder cmp) where
  -- equal places have the same marks
  pub marks_same : (m : BTreeMap K Marks) (a b : K) → is_eq (cmp a b) ≡ true → marks_at cmp m a ≡ marks_at cmp m b
  marks_same m a b h = ap (λ o. unwrap_or o no_marks) (lookup_congr (eq_by_cmp cmp) (eq_by_cmp_equiv total).congr m.entries a b h)

  module _ (old new : BTreeMap K Marks) (place : K) where
    -- what the map has afterwards, where a place got marks, or went
    abbrev pub Sets : Option Marks → Type 0
    Sets marks = (q : K) → get cmp new q ≡ cond (is_eq (cmp place q)) marks (get cmp old q)

    marks_by : (marks : Option Marks) (q : K) (b : Bool) → unwrap_or (cond b marks (get cmp old q)) no_marks ≡ (if b then unwrap_or marks no_marks else marks_at cmp old q)
    marks_by marks q true = refl
    marks_by marks q false = refl

    marks_after : (marks : Option Marks) → Sets marks → (q : K) → marks_at cmp new q ≡ (if is_eq (cmp place q) then unwrap_or marks no_marks else marks_at cmp old q)
    marks_after marks sets q = ap (λ o. unwrap_or o no_marks) (sets q) ∙ marks_by marks q (is_eq (cmp place q))

    pub marked_after : (session : ℕ) (counted : Bool → Bool) (marks : Marks) → Sets (Some marks) → ((only : Bool) (s : ℕ) → IsSession s → is_marked only marks s ≡ ((counted only && (s == session)) || is_marked only (marks_at cmp old place) s))
        → (only : Bool) (p : K) (s : ℕ) → IsSession s → is_marked only (marks_at cmp new p) s ≡ ((is_eq (cmp place p) && counted only && (s == session)) || is_marked only (marks_at cmp old p) s)
    marked_after session counted marks sets is only p s h = ap (λ m. is_marked only m s) (marks_after (Some marks) sets p) ∙ by (is_eq (cmp place p)) refl
      where
        by : (b : Bool) → is_eq (cmp place p) ≡ b → is_marked only (if b then marks else marks_at cmp old p) s ≡ ((b && counted only && (s == session)) || is_marked only (marks_at cmp old p) s)
        by true same = is only s h ∙ ap (λ m. (counted only && (s == session)) || is_marked only m s) (marks_same old place p same)
        by false other = refl

    pub unmarked_after : (session : ℕ) (marks : Marks) → Sets (Some marks) → ((only : Bool) (s : ℕ) → IsSession s → is_marked only marks s ≡ (not (s == session) && is_marked only (marks_at cmp old place) s))
        → (only : Bool) (p : K) (s : ℕ) → IsSession s → is_marked only (marks_at cmp new p) s ≡ (not (is_eq (cmp place p) && (s == session)) && is_marked only (marks_at cmp old p) s)
    unmarked_after session marks sets is only p s h = ap (λ m. is_marked only m s) (marks_after (Some marks) sets p) ∙ by (is_eq (cmp place p)) refl
      where
        by : (b : Bool) → is_eq (cmp place p) ≡ b → is_marked only (if b then marks else marks_at cmp old p) s ≡ (not (b && (s == session)) && is_marked only (marks_at cmp old p) s)
        by true same = is only s h ∙ ap (λ m. not (s == session) && is_marked only m s) (marks_same old place p same)
        by false other = refl

    -- a place that nobody marks any more goes
    pub gone_after : ((only : Bool) (s : ℕ) → IsSession s → is_marked only (marks_at cmp old place) s ≡ false) → Sets None
        → (only : Bool) (p : K) (s : ℕ) → IsSession s → is_marked only (marks_at cmp new p) s ≡ is_marked only (marks_at cmp old p) s
    gone_after none sets only p s h = ap (λ m. is_marked only m s) (marks_after None sets p) ∙ by (is_eq (cmp place p)) refl
      where
        by : (b : Bool) → is_eq (cmp place p) ≡ b → is_marked only (if b then no_marks else marks_at cmp old p) s ≡ is_marked only (marks_at cmp old p) s
        by true same = nobody only s ∙ sym (ap (λ m. is_marked only m s) (sym (marks_same old place p same)) ∙ none only s h)
        by false other = refl

  -- a place that isn't there has no marks to lose
  pub nothing_lost : (m : BTreeMap K Marks) (place : K) (session : ℕ) → get cmp m place ≡ None
      → (only : Bool) (p : K) (s : ℕ) → is_marked only (marks_at cmp m p) s ≡ (not (is_eq (cmp place p) && (s == session)) && is_marked only (marks_at cmp m p) s)
  nothing_lost m place session none only p s = by (is_eq (cmp place p)) refl
    where
      by : (b : Bool) → is_eq (cmp place p) ≡ b → is_marked only (marks_at cmp m p) s ≡ (not (b && (s == session)) && is_marked only (marks_at cmp m p) s)
      by true same = still_false (not (s == session)) (is_marked only (marks_at cmp m p) s) (ap (λ k. is_marked only k s) (sym (marks_same m place p same) ∙ ap (λ o. unwrap_or o no_marks) none) ∙ nobody only s)
      by false other = refl
