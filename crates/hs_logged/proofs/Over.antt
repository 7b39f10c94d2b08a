-- A world that is made over its opening database.
use Rattle.std.proofs.Common.{◌≡◌, ℕ, ◌+◌, ◌≤◌, Bool, true, false, ◌&&◌, nat_le, List, [], ◌∷◌, ◌++◌, length, refl, sym, ap, ap₂, subst}
use Rattle.std.proofs.lemmas.Bool.{leb-true, le-leb}
use Rattle.hs_gate.specs.Groups.{spelled}
use Rattle.hs_turns.specs.Histories.{Commit}
use Rattle.hs_tabletext.specs.Conditions.{Wording}
use Rattle.hs_seams.specs.Stores.{present}
use Rattle.hs_seams.specs.World.{World, texts_from}
use Rattle.hs_logged.specs.Entered.{Decides, HasText}
use Rattle.hs_logged.specs.Logged.{HasRoom, IsLogged, changes_behind, last_behind, session_of, size_behind}
use Rattle.hs_logged.specs.Over.{IsMadeOver, TestsTexts, TextTest, room_over, text_over, texts_by}
use Rattle.hs_logged.specs.declared.logbook.Logbook.{Logbook}

texts_alike : (w : World) (text : List Commit → Commit → List ℕ) → ((commits : List Commit) (k : Commit) → w.text commits k ≡ text commits k) → (before commits : List Commit) → texts_from w before commits ≡ texts_by text before commits
texts_alike w text same before [] = refl
texts_alike w text same before (k ∷ ks) = ap₂ (λ (t : List ℕ) (ts : List (List ℕ)). t ∷ ts) (same before k) (texts_alike w text same (before ++ k ∷ []) ks)

-- a sentence of two parts, each of which is tested
both : (P Q : Type 0) (R : Type 0) (a b : Bool) → Decides P a → (b ≡ true → Q) → (Q → b ≡ true) → (P → Q → R) → (R → P × Q) → Decides R (a && b)
both P Q R true true p to from make parts = make p (to refl)
both P Q R true false p to from make parts = λ r. let no : false ≡ true = from (parts r).1 in cc
both P Q R false b p to from make parts = λ r. p (parts r).0

-- how many bytes stand behind a commit before the one that ends the log
abbrev bytes : Wording → Logbook → World → List Commit → Commit → ℕ
bytes wording start w commits k = start.size + length (spelled (texts_by (text_over wording start w.run.opening) [] (commits ++ k ∷ [])))

size_is : (wording : Wording) (test : TextTest) (start : Logbook) (w : World) → IsMadeOver wording test start w → (commits : List Commit) (k : Commit) → size_behind start w (commits ++ k ∷ []) ≡ bytes wording start w commits k
size_is wording test start w over commits k = ap (λ (ts : List (List ℕ)). start.size + length (spelled ts)) (texts_alike w (text_over wording start w.run.opening) over.text [] (commits ++ k ∷ []))

room_is : (wording : Wording) (test : TextTest) (start : Logbook) (w : World) → TestsTexts wording test → IsMadeOver wording test start w → (commits : List Commit) (k : Commit) → Decides (HasRoom wording start w commits k) (room_over wording test start w.run.opening commits k)
room_is wording test start w tests over commits k =
    let size = size_is wording test start w over commits k in
    both (HasText wording (present w commits).things (last_behind start.last commits) (session_of k) (changes_behind w commits k)) (bytes wording start w commits k + 1 ≤ start.limit) (HasRoom wording start w commits k)
    (test (present w commits).things (last_behind start.last commits) (session_of k) (changes_behind w commits k)) (nat_le (bytes wording start w commits k + 1) start.limit)
    (tests (present w commits).things (last_behind start.last commits) (session_of k) (changes_behind w commits k))
    (leb-true (bytes wording start w commits k + 1) start.limit) (le-leb (bytes wording start w commits k + 1) start.limit)
    (λ text fits. record { text = text; fits = subst (λ (n : ℕ). n + 1 ≤ start.limit) (sym size) fits })
    (λ room. (room.text, subst (λ (n : ℕ). n + 1 ≤ start.limit) size room.fits))

pub made : (wording : Wording) (test : TextTest) (start : Logbook) (w : World) → TestsTexts wording test → IsMadeOver wording test start w → IsLogged wording start w
made wording test start w tests over = record {
  text = over.text;
  room = λ commits k. subst (Decides (HasRoom wording start w commits k)) (sym (over.room commits k)) (room_is wording test start w tests over commits k);
}
