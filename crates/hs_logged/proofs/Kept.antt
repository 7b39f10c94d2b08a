-- The texts of a run's commits, made again.
use Rattle.std.proofs.Common.{◌≡◌, true, List, [], ◌∷◌, ◌++◌, sym, ap, subst, append_assoc, append-nil}
use Rattle.std.specs.Prelude.{ℕ}
use Rattle.std.proofs.lemmas.List.Sums.{fold-append}
use Rattle.hs_committext.specs.Commits.{IsCommitText}
use Rattle.hs_turns.specs.Histories.{Commit, make}
use Rattle.hs_logged.specs.Entered.{Decides}
use Rattle.hs_logged.specs.Logged.{HasRoom, IsLogged, changes_behind, last_behind, session_of}
use Rattle.hs_logged.specs.declared.logbook.Logbook.{Logbook}
use Rattle.hs_logged.proofs.Worlds.{last_more}
use Rattle.hs_tabletext.specs.Conditions.{Wording}
use Rattle.hs_seams.specs.Stores.{present}
use Rattle.hs_seams.specs.World.{World, texts_from}
use Rattle.hs_logged.specs.Kept.{AreKept, left_by}
use Rattle.hs_logged.specs.Redone.{AreRedone, IsRedone, Takes, after}

left_more : (start : Logbook) (w : World) (before : List Commit) (k : Commit) → left_by start w (before ++ k ∷ []) ≡ after (left_by start w before) (session_of k) (changes_behind w before k)
left_more start w before k = λ i. record { database = fold-append make w.run.opening before (k ∷ []) i; last = last_more start.last before k i }

module _ (wording : Wording) (takes : Takes) (start : Logbook) (w : World) (logged : IsLogged wording start w) where
  one : (before : List Commit) (k : Commit) → w.run.dialect.has_log_room before k ≡ true → takes (present w before) (changes_behind w before k) → IsRedone wording takes (left_by start w before) (w.text before k) (left_by start w (before ++ k ∷ []))
  one before k room may =
      let has = subst (Decides (HasRoom wording start w before k)) room (logged.room before k) in
      record {
        session = session_of k;
        changes = changes_behind w before k;
        of = subst (λ (t : List ℕ). IsCommitText wording (present w before).things (last_behind start.last before) t (session_of k) (changes_behind w before k)) (sym (logged.text before k)) has.text;
        may = may;
        is = left_more start w before k;
      }

  pub kept_redone : (before commits : List Commit) → AreKept w takes before commits → AreRedone wording takes (left_by start w before) (texts_from w before commits) (left_by start w (before ++ commits))
  kept_redone before [] all = ap (left_by start w) (append-nil before)
  kept_redone before (k ∷ ks) all = (
    left_by start w (before ++ k ∷ []),
    one before k all.0 all.1,
    subst (λ (l : List Commit). AreRedone wording takes (left_by start w (before ++ k ∷ [])) (texts_from w (before ++ k ∷ []) ks) (left_by start w l)) (append_assoc before (k ∷ []) ks)
        (kept_redone (before ++ k ∷ []) ks all.2),
  )
