-- Commits of a run, as they are entered.
use Rattle.std.proofs.Common.{◌≡◌, ℕ, ◌+◌, Bool, true, false, List, [], ◌∷◌, ◌++◌, length, refl, sym, ap, subst, ◌∙◌, arith, append_assoc, append-nil}
use Rattle.std.specs.Prelude.{Option, Some}
use Rattle.std.proofs.lemmas.List.Sums.{fold-append}
use Rattle.hs_base.specs.declared.numbers.SessionNo.{SessionNo}
use Rattle.hs_committext.specs.Commits.{commit_text}
use Rattle.hs_gate.specs.Groups.{spelled}
use Rattle.hs_gate.proofs.Numbers.{length-spelled, length-spelled_append}
use Rattle.hs_turns.specs.Histories.{Commit}
use Rattle.hs_tabletext.specs.Conditions.{Wording}
use Rattle.hs_seams.specs.Stores.{present}
use Rattle.hs_seams.specs.World.{World, texts_from}
use Rattle.hs_logged.specs.Entered.{Decides, Enters, HasRoomIn, HasText, with_text}
use Rattle.hs_logged.specs.Logged.{HasRoom, IsBehind, IsEntered, IsLogged, changes_behind, last_behind, session_of, size_behind, with_session}
use Rattle.hs_logged.specs.declared.logbook.Logbook.{Logbook}

-- ---- one commit more

pub texts_more : (w : World) (before commits : List Commit) (k : Commit) → texts_from w before (commits ++ k ∷ []) ≡ texts_from w before commits ++ w.text (before ++ commits) k ∷ []
texts_more w before [] k = ap (λ (b : List Commit). w.text b k ∷ []) (sym (append-nil before))
texts_more w before (x ∷ xs) k =
    ap (λ (ts : List (List ℕ)). w.text before x ∷ ts)
    (texts_more w (before ++ x ∷ []) xs k ∙ ap (λ (b : List Commit). texts_from w (before ++ x ∷ []) xs ++ w.text b k ∷ []) (append_assoc before (x ∷ []) xs))

pub size_more : (start : Logbook) (w : World) (commits : List Commit) (k : Commit) → size_behind start w (commits ++ k ∷ []) ≡ size_behind start w commits + (9 + length (w.text commits k))
size_more start w commits k =
    let texts = ap (λ (ts : List (List ℕ)). length (spelled ts)) (texts_more w [] commits k) in
    let sum = length-spelled_append (texts_from w [] commits) (w.text commits k ∷ []) in
    let one = length-spelled (w.text commits k) [] in
    omega (arith, texts, sum, one)

pub last_more : (before : Option SessionNo) (commits : List Commit) (k : Commit) → last_behind before (commits ++ k ∷ []) ≡ Some (session_of k)
last_more before commits k = fold-append with_session before commits (k ∷ [])

pub begun : (start : Logbook) (w : World) → IsBehind start w [] start
begun start w = record { last = refl; size = omega arith; limit = refl }

-- ---- what is told of a commit

alike : (P Q : Type 0) (a b : Bool) → (P → Q) → (Q → P) → Decides P a → Decides Q b → a ≡ b
alike P Q true true f g p q = refl
alike P Q true false f g p q = absurd (q (f p))
alike P Q false true f g p q = absurd (p (g q))
alike P Q false false f g p q = refl

module _ (wording : Wording) (start old : Logbook) (w : World) (commits : List Commit) (k : Commit) (logged : IsLogged wording start w) (behind : IsBehind start w commits old) where
  text_is : commit_text wording (present w commits).things old.last (session_of k) (changes_behind w commits k) ≡ w.text commits k
  text_is = ap (λ (b : Option SessionNo). commit_text wording (present w commits).things b (session_of k) (changes_behind w commits k)) behind.last ∙ sym (logged.text commits k)

  onward : HasRoomIn wording (present w commits).things old (session_of k) (changes_behind w commits k) → HasRoom wording start w commits k
  onward room = record {
    text = subst (λ (b : Option SessionNo). HasText wording (present w commits).things b (session_of k) (changes_behind w commits k)) behind.last room.text;
    fits = let fits = room.fits in let text = ap length text_is in let more = size_more start w commits k in omega (arith, fits, text, more, behind.size, behind.limit);
  }

  back : HasRoom wording start w commits k → HasRoomIn wording (present w commits).things old (session_of k) (changes_behind w commits k)
  back room = record {
    text = subst (λ (b : Option SessionNo). HasText wording (present w commits).things b (session_of k) (changes_behind w commits k)) (sym behind.last) room.text;
    fits = let fits = room.fits in let text = ap length text_is in let more = size_more start w commits k in omega (arith, fits, text, more, behind.size, behind.limit);
  }

  behind_more : (new : Logbook) → new ≡ with_text (session_of k) (commit_text wording (present w commits).things old.last (session_of k) (changes_behind w commits k)) old → IsBehind start w (commits ++ k ∷ []) new
  behind_more new is = record {
    last = ap (λ (b : Logbook). b.last) is ∙ sym (last_more start.last commits k);
    size = let size = ap (λ (b : Logbook). b.size) is in let text = ap length text_is in let more = size_more start w commits k in omega (arith, size, text, more, behind.size);
    limit = ap (λ (b : Logbook). b.limit) is ∙ behind.limit;
  }

  pub entered : (new : Logbook) (old_made made : List (List ℕ)) (is_made : Bool) → Enters wording (present w commits).things (session_of k) (changes_behind w commits k) old new old_made made is_made → IsEntered start w commits k old new old_made made is_made
  entered new old_made made true enters = record {
    room = alike (HasRoomIn wording (present w commits).things old (session_of k) (changes_behind w commits k)) (HasRoom wording start w commits k) true (w.run.dialect.has_log_room commits k) onward back enters.0 (logged.room commits k);
    done = λ h. (behind_more new enters.1.0, enters.1.1 ∙ ap (λ (t : List ℕ). old_made ++ t ∷ []) text_is);
    kept = λ h. absurd (let other : true ≡ false = h in cc);
  }
  entered new old_made made false enters = record {
    room = alike (HasRoomIn wording (present w commits).things old (session_of k) (changes_behind w commits k)) (HasRoom wording start w commits k) false (w.run.dialect.has_log_room commits k) onward back enters.0 (logged.room commits k);
    done = λ h. absurd (let other : false ≡ true = h in cc);
    kept = λ h. enters.1;
  }
