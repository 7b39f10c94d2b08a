-- What holds of the changes of a transaction, and of those that each of its savepoints keeps.
use Rattle.std.proofs.Common.{◌≡◌, ℕ, zero, suc, ◌+◌, ◌≤◌, ◌<◌, Bool, true, false, cond, List, [], ◌∷◌, ◌++◌, length, take, refl, sym, subst, arith, le_refl, length-append}
use Rattle.std.specs.Prelude.{Option, None, Some, position}
use Rattle.std.specs.Set.{remove_key}
use Rattle.std.proofs.lemmas.List.{take-append-le, take_all, take-take, length-take-le}
use Rattle.std.proofs.lemmas.List.Quantifiers.{position-Some}
use Rattle.hs_plan.specs.declared.change.Change.{Change}
use Rattle.hs_sessions.specs.declared.control.Control.{Control}
use Rattle.hs_sessions.specs.declared.control.Control.TheVariants as control
use Rattle.hs_sessions.specs.declared.savepoints.Savepoint.{Savepoint}
use Rattle.hs_sessions.specs.Savepoints.{is_called, changes_at}
use Rattle.hs_sessions.specs.Settings.{gone_back, released, controlled}
use Rattle.hs_turns.specs.Each.{Each}
use Rattle.hs_turns.specs.Language.{Outcome}
use Rattle.hs_turns.specs.Transactions.{Trace, answered, session_in, with_session}
use Rattle.hs_turns.proofs.Lists.{each_map, each_append}

abbrev pub Changes : Type 0
Changes = List Change

-- P holds of the changes that stood when a savepoint was made
pub record KeptAt (P : Changes → Type 0) (changes : Changes) (point : Savepoint) : Type 0 where
  pub within : point.changes ≤ length changes
  pub holds : P (take point.changes changes)

-- no savepoint has fewer changes than an older one
abbrev pub Ascends : List Savepoint → Type 0
Ascends [] = Unit {0}
Ascends (p ∷ ps) = Each (λ (q : Savepoint). p.changes ≤ q.changes) ps × Ascends ps

pub record KeptBy (P : Changes → Type 0) (changes : Changes) (savepoints : List Savepoint) : Type 0 where
  pub stands : P changes
  pub points : Each (KeptAt P changes) savepoints
  pub ordered : Ascends savepoints

abbrev pub Kept : (Changes → Type 0) → Trace → Type 0
Kept P t = KeptBy P t.changes t.savepoints

pub kept_map : (P Q : Changes → Type 0) → ((cs : Changes) → P cs → Q cs) → (cs : Changes) (points : List Savepoint) → KeptBy P cs points → KeptBy Q cs points
kept_map P Q f cs points h = record {
  stands = f cs h.stands;
  points = each_map (KeptAt P cs) (KeptAt Q cs) (λ p k. record { within = k.within; holds = f (take p.changes cs) k.holds }) points h.points;
  ordered = h.ordered;
}

-- ---- more changes

longer : (P : Changes → Type 0) (cs more : Changes) (p : Savepoint) → KeptAt P cs p → KeptAt P (cs ++ more) p
longer P cs more p k = record {
  within = let len = length-append cs more in let w = k.within in omega (arith, len, w);
  holds = subst P (sym (take-append-le p.changes cs more k.within)) k.holds;
}

pub answered_kept : (P : Changes → Type 0) (o : Outcome) (t : Trace) → P (t.changes ++ o.changes) → Kept P t → Kept P (answered o t)
answered_kept P o t more h = record {
  stands = more;
  points = each_map (KeptAt P t.changes) (KeptAt P (t.changes ++ o.changes)) (longer P t.changes o.changes) t.savepoints h.points;
  ordered = h.ordered;
}

-- ---- a savepoint more

module _ (P : Savepoint → Type 0) (test : Savepoint → Bool) where
  without_cond : (b : Bool) (p : Savepoint) (ps rest : List Savepoint) → Each P (p ∷ ps) → Each P rest → Each P (cond b ps (p ∷ rest))
  without_cond true p ps rest h k = h.1
  without_cond false p ps rest h k = (h.0, k)

  each_without : (ps : List Savepoint) → Each P ps → Each P (remove_key test ps)
  each_without [] h = tt
  each_without (p ∷ ps) h = without_cond (test p) p ps (remove_key test ps) h (each_without ps h.1)

ascends_cond : (b : Bool) (p : Savepoint) (ps rest : List Savepoint) → Ascends (p ∷ ps) → Each (λ (q : Savepoint). p.changes ≤ q.changes) rest → Ascends rest → Ascends (cond b ps (p ∷ rest))
ascends_cond true p ps rest h k l = h.1
ascends_cond false p ps rest h k l = (k, l)

ascends_without : (test : Savepoint → Bool) → (ps : List Savepoint) → Ascends ps → Ascends (remove_key test ps)
ascends_without test [] h = tt
ascends_without test (p ∷ ps) h =
    ascends_cond (test p) p ps (remove_key test ps) h (each_without (λ (q : Savepoint). p.changes ≤ q.changes) test ps h.0) (ascends_without test ps h.1)

ascends_push : (new : Savepoint) → (ps : List Savepoint) → Each (λ (p : Savepoint). p.changes ≤ new.changes) ps → Ascends ps → Ascends (ps ++ new ∷ [])
ascends_push new [] h k = (tt, tt)
ascends_push new (p ∷ ps) h k = (each_append (λ (q : Savepoint). p.changes ≤ q.changes) ps (new ∷ []) k.0 (h.0, tt), ascends_push new ps h.1 k.1)

marked_kept : (P : Changes → Type 0) (name : List ℕ) (cs : Changes) (ps : List Savepoint) → KeptBy P cs ps → KeptBy P cs (remove_key (is_called name) ps ++ record { name = name; changes = length cs } ∷ [])
marked_kept P name cs ps h =
    let new : Savepoint = record { name = name; changes = length cs } in
    let old = each_without (KeptAt P cs) (is_called name) ps h.points in
    record {
      stands = h.stands;
      points = each_append (KeptAt P cs) (remove_key (is_called name) ps) (new ∷ []) old
          (record { within = le_refl (length cs); holds = subst P (sym (take_all (length cs) cs (le_refl (length cs)))) h.stands }, tt);
      ordered = ascends_push new (remove_key (is_called name) ps) (each_map (KeptAt P cs) (λ (p : Savepoint). p.changes ≤ length cs) (λ p k. k.within) (remove_key (is_called name) ps) old) (ascends_without (is_called name) ps h.ordered);
    }

-- ---- back to a savepoint, and without it

each_take : (P : Savepoint → Type 0) → (n : ℕ) (ps : List Savepoint) → Each P ps → Each P (take n ps)
each_take P zero ps h = tt
each_take P (suc n) [] h = tt
each_take P (suc n) (p ∷ ps) h = (h.0, each_take P n ps h.1)

ascends_take : (n : ℕ) (ps : List Savepoint) → Ascends ps → Ascends (take n ps)
ascends_take zero ps h = tt
ascends_take (suc n) [] h = tt
ascends_take (suc n) (p ∷ ps) h = (each_take (λ (q : Savepoint). p.changes ≤ q.changes) n ps h.0, ascends_take n ps h.1)

module _ (P : Changes → Type 0) (cs : Changes) where
  -- a savepoint that isn't beyond the place where the changes are cut
  cut : (n : ℕ) (p : Savepoint) → n ≤ length cs → p.changes ≤ n → KeptAt P cs p → KeptAt P (take n cs) p
  cut n p most before k = record {
    within = let len = length-take-le n cs most in omega (arith, len, before);
    holds = subst P (sym (take-take p.changes n cs before)) k.holds;
  }

  found : (ps : List Savepoint) (place : ℕ) → place < length ps → Each (KeptAt P cs) ps → (changes_at place ps ≤ length cs) × P (take (changes_at place ps) cs)
  found [] place lt h = absurd (omega (arith, lt))
  found (p ∷ ps) zero lt h = (h.0.within, h.0.holds)
  found (p ∷ ps) (suc place) lt h = found ps place (omega (arith, lt)) h.1

  above : (n : ℕ) (ps : List Savepoint) (place : ℕ) → place < length ps → Each (λ (q : Savepoint). n ≤ q.changes) ps → n ≤ changes_at place ps
  above n [] place lt h = absurd (omega (arith, lt))
  above n (p ∷ ps) zero lt h = h.0
  above n (p ∷ ps) (suc place) lt h = above n ps place (omega (arith, lt)) h.1

  -- the savepoints up to this place keep what they kept
  before : (ps : List Savepoint) (place : ℕ) → place < length ps → Each (KeptAt P cs) ps → Ascends ps → Each (KeptAt P (take (changes_at place ps) cs)) (take (suc place) ps)
  before [] place lt h k = tt
  before (p ∷ ps) zero lt h k = (cut p.changes p h.0.within (le_refl p.changes) h.0, tt)
  before (p ∷ ps) (suc place) lt h k =
      let later : place < length ps = omega (arith, lt) in
      (cut (changes_at place ps) p (found ps place later h.1).0 (above p.changes ps place later k.0) h.0, before ps place later h.1 k.1)

  back_to : (ps : List Savepoint) (place : ℕ) → place < length ps → KeptBy P cs ps → KeptBy P (take (changes_at place ps) cs) (take (place + 1) ps)
  back_to ps place lt h =
      let n : suc place ≡ place + 1 = omega arith in
      subst (λ (k : ℕ). KeptBy P (take (changes_at place ps) cs) (take k ps)) n (record {
        stands = (found ps place lt h.points).1;
        points = before ps place lt h.points h.ordered;
        ordered = ascends_take (suc place) ps h.ordered;
      })

  released_kept : (ps : List Savepoint) (place : ℕ) → KeptBy P cs ps → KeptBy P cs (take place ps)
  released_kept ps place h = record { stands = h.stands; points = each_take (KeptAt P cs) place ps h.points; ordered = ascends_take place ps h.ordered }

-- ---- statements on a session

back_kept : (P : Changes → Type 0) (name : List ℕ) (t : Trace) → Kept P t → (place : Option ℕ) → position (is_called name) t.savepoints ≡ place → Kept P (with_session (gone_back place (session_in t)) t)
back_kept P name t h None is = h
back_kept P name t h (Some place) is = back_to P t.changes t.savepoints place (position-Some (is_called name) t.savepoints place (record { name = name; changes = 0 }) is).0 h

release_kept : (P : Changes → Type 0) (t : Trace) → Kept P t → (place : Option ℕ) → Kept P (with_session (released place (session_in t)) t)
release_kept P t h None = h
release_kept P t h (Some place) = released_kept P t.changes t.savepoints place h

pub control_kept : (P : Changes → Type 0) (c : Control) (t : Trace) → Kept P t → Kept P (with_session (controlled c (session_in t)) t)
control_kept P (control.Autocommit on) t h = h
control_kept P (control.Characteristics new) t h = h
control_kept P (control.Transaction new) t h = h
control_kept P (control.Savepoint name) t h = marked_kept P name t.changes t.savepoints h
control_kept P (control.RollbackTo name) t h = back_kept P name t h (position (is_called name) t.savepoints) refl
control_kept P (control.Release name) t h = release_kept P t h (position (is_called name) t.savepoints)
control_kept P control.WriteDelayFalse t h = h
