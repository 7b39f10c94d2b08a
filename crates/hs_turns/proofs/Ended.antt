-- Ended transactions answer as their models say.
use Rattle.std.proofs.Common.{◌≡◌, ℕ, zero, suc, ◌+◌, ◌≤◌, Bool, List, [], ◌∷◌, ◌++◌, length, drop, Some, slice_get, refl, sym, ap, ◌∙◌, subst, arith, length-append, le_refl}
use Rattle.std.proofs.lemmas.List.{take-append-le, take_all}
use Rattle.std.proofs.lemmas.List.Sums.{fold_more}
use Rattle.std.proofs.lemmas.Option.{slice_get_within, get_or_from_slice_get}
use Rattle.hs_plan.specs.declared.change.Change.{Change}
use Rattle.hs_claims.specs.declared.model.ControlKind.{ControlKind}
use Rattle.hs_claims.specs.Footprint.{IsClear}
use Rattle.hs_turns.specs.Database.{Database, committed}
use Rattle.hs_turns.specs.Each.{Each, Across}
use Rattle.hs_turns.specs.Language.{Language}
use Rattle.hs_turns.specs.Transactions.{Trace}
use Rattle.hs_turns.specs.Histories.{Open, Commit, Ended, commit_of, make, state}
use Rattle.hs_turns.specs.Promises.{IsAlone, IsSerial, IsSnapshot, IsCommitted, IsInOrder, IsFirst, NoCommonRow}
use Rattle.hs_turns.proofs.Lists.{each_both, each_drop}
use Rattle.hs_turns.proofs.Sound.{Sound, state_more, state_now}
use Rattle.hs_turns.proofs.Within.{NamesWithin, names_within, other_rows}

pub record Right (lang : Language) (opening : Database) (commits : List Commit) (e : Ended) : Type 0 where
  pub started : e.txn.start ≤ e.at
  pub ended : e.at ≤ length commits
  pub snapshot : IsSnapshot lang opening commits e
  pub serial : IsSerial lang opening commits e
  pub first : IsFirst commits e

abbrev pub RowsWithin : Commit → Type 0
RowsWithin k = NamesWithin k.feet k.changes

module _ (lang : Language) (opening : Database) where
  -- one that ended before stays right
  pub right_more : (commits more : List Commit) (e : Ended) → Right lang opening commits e → Right lang opening (commits ++ more) e
  right_more commits more e r =
      let started = r.started in
      let ended = r.ended in
      let len = length-append commits more in
      let before : e.txn.start ≤ length commits = omega (arith, started, ended) in
      record {
        started = r.started;
        ended = omega (arith, ended, len);
        snapshot = λ rs. subst (λ (d : Database). IsAlone lang d e) (sym (state_more opening commits more e.txn.start before)) (r.snapshot rs);
        serial = λ rs at. subst (λ (d : Database). IsAlone lang d e) (sym (state_more opening commits more e.at r.ended)) (r.serial rs at);
        first = λ at. subst (λ (cs : List Commit). Each (λ k. NoCommonRow e.txn.trace.changes k.changes) (drop e.txn.start cs)) (sym (take-append-le e.at commits more r.ended)) (r.first at);
      }

  -- one that ends now
  pub right_now : (keep : Bool) (kind : ControlKind) (commits : List Commit) (o : Open) → Sound lang kind opening commits o → Each RowsWithin commits → Right lang opening commits (record { txn = o; kind = kind; at = length commits; kept = keep })
  right_now keep kind commits o s w = record {
    started = s.started;
    ended = le_refl (length commits);
    snapshot = λ rs. (ap (λ (t : Trace). t.replies) (s.snapshot rs), ap (λ (t : Trace). t.changes) (s.snapshot rs));
    serial = λ rs at. subst (λ (d : Database). IsAlone lang d (record { txn = o; kind = kind; at = length commits; kept = keep })) (sym (state_now opening commits))
        (ap (λ (t : Trace). t.replies) (s.serial rs at), ap (λ (t : Trace). t.changes) (s.serial rs at));
    first = λ at. subst (λ (cs : List Commit). Each (λ k. NoCommonRow o.trace.changes k.changes) (drop o.start cs)) (sym (take_all (length commits) commits (le_refl (length commits))))
        (each_both (λ (k : Commit). Across IsClear o.trace.feet k.feet) RowsWithin (λ (k : Commit). NoCommonRow o.trace.changes k.changes)
        (λ k clear within. other_rows o.trace.feet k.feet o.trace.changes k.changes clear (names_within o.trace.feet o.trace.changes s.within.stands) within) (drop o.start commits) (s.first at) (each_drop RowsWithin o.start commits w));
  }

-- ---- commits at their places

more_after : {X : Type 0} (ys : List X) (x : X) → (xs : List X) (i : ℕ) → slice_get xs i ≡ Some x → slice_get (xs ++ ys) i ≡ Some x
more_after ys x [] i h = absurd cc
more_after ys x (y ∷ xs) zero h = h
more_after ys x (y ∷ xs) (suc i) h = more_after ys x xs i h

pub last_at : {X : Type 0} (x : X) → (xs : List X) → slice_get (xs ++ x ∷ []) (length xs) ≡ Some x
last_at x [] = refl
last_at x (y ∷ xs) = last_at x xs

pub committed_more : (commits more : List Commit) (e : Ended) → IsCommitted commits e → IsCommitted (commits ++ more) e
committed_more commits more e h = λ kept. more_after more (commit_of e.txn) commits e.at (h kept)

next_state : (opening : Database) (commits : List Commit) (k : ℕ) (commit : Commit) → slice_get commits k ≡ Some commit → state opening commits (k + 1) ≡ make (state opening commits k) commit
next_state opening commits k commit is =
    fold_more make opening commits k commit (slice_get_within commits k commit is)
    ∙ ap (make (state opening commits k)) (get_or_from_slice_get commits k commit commit is)

-- a serializable transaction that committed leaves what it would leave alone
pub in_order : (lang : Language) (opening : Database) (commits : List Commit) (e : Ended) → Right lang opening commits e → IsCommitted commits e → IsInOrder lang opening commits e
in_order lang opening commits e r c = λ kept rs at.
    next_state opening commits e.at (commit_of e.txn) (c kept)
    ∙ ap (λ (cs : List Change). committed (state opening commits e.at) cs) (r.serial rs at).1
