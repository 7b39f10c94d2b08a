-- Commits that a log takes, and those that it doesn't.
use Rattle.std.proofs.Common.{◌≡◌, ℕ, Bool, true, false, List, [], ◌∷◌, ◌++◌, length, refl, sym, ap, subst, ◌∙◌, arith}
use Rattle.std.specs.Prelude.{Option}
use Rattle.std.specs.List.{All}
use Rattle.std.proofs.lemmas.List.Elements.{All-cons, All-head, All-nil}
use Rattle.std.proofs.lemmas.List.Sums.{fold-append}
use Rattle.hs_base.specs.declared.numbers.SessionNo.{SessionNo}
use Rattle.hs_committext.specs.Commits.{commit_text}
use Rattle.hs_committext.proofs.OneText.{read_printable}
use Rattle.hs_turns.specs.Database.{Database, apply}
use Rattle.hs_turns.specs.Numbers.{numbered}
use Rattle.hs_committext.specs.Changes as changes
use Rattle.hs_committext.specs.Definitions as definitions
use Rattle.hs_entering.specs.Taken.{IsKept, IsSettled, IsTaken}
use Rattle.hs_turns.specs.Histories.{Commit, make}
use Rattle.hs_logged.specs.Entered.{Decides, Enters, HasRoomIn, HasText, with_text}
use Rattle.hs_logged.specs.Logged.{HasRoom, IsBehind, changes_behind, session_of}
use Rattle.hs_logged.specs.Writable.{IsWritable}
use Rattle.hs_logged.specs.declared.logbook.Logbook.{Logbook}
use Rattle.hs_logged.proofs.Worlds.{last_more, size_more}
use Rattle.hs_plan.specs.declared.change.Change.{Change}
use Rattle.hs_plan.specs.declared.change.Change.TheVariants as change
use Rattle.hs_plan.specs.declared.definition.Definition.{Definition}
use Rattle.hs_logged.specs.Made.{Makes}
use Rattle.hs_logged.specs.Redone.{Takes}
use Rattle.hs_tabletext.specs.Conditions.{Wording}
use Rattle.hs_schema.specs.Catalogue.{Things}
use Rattle.hs_seams.specs.Stores.{present}
use Rattle.hs_seams.specs.World.{World}

-- ---- what a test says

decided_true : (P : Type 0) (b : Bool) → P → Decides P b → b ≡ true
decided_true P true p d = refl
decided_true P false p d = absurd (d p)

decided_false : (P : Type 0) (b : Bool) → ¬ P → Decides P b → b ≡ false
decided_false P true lacks d = absurd (lacks d)
decided_false P false lacks d = refl

-- ---- one commit behind others

pub present_more : (w : World) (commits : List Commit) (k : Commit) → present w (commits ++ k ∷ []) ≡ apply (present w commits) (changes_behind w commits k)
present_more w commits k = fold-append make w.run.opening commits (k ∷ [])

-- what a text is of: the things before it, its session and its changes
abbrev pub Of : Type 0
Of = Things × SessionNo × List Change

pub same_of : (w : World) (commits : List Commit) (k : Commit) (things : Things) (session : SessionNo) (all : List Change) → things ≡ (present w commits).things → k.session ≡ session.0 → changes_behind w commits k ≡ all
    → ◌≡◌ {A = Of} (things, session, all) ((present w commits).things, session_of k, changes_behind w commits k)
same_of w commits k things session all there by is = λ i. (there i, record { 0 = sym by i }, sym is i)

module _ (wording : Wording) (takes : Takes) (start book : Logbook) (w : World) (commits : List Commit) (k : Commit) (kept : IsKept wording takes start w) (behind : IsBehind start w commits book) where
  abbrev text_in : List ℕ
  text_in = commit_text wording (present w commits).things book.last (session_of k) (changes_behind w commits k)

  abbrev RoomIn : Type 0
  RoomIn = HasRoomIn wording (present w commits).things book (session_of k) (changes_behind w commits k)

  text_is : text_in ≡ w.text commits k
  text_is = ap (λ (b : Option SessionNo). commit_text wording (present w commits).things b (session_of k) (changes_behind w commits k)) behind.last ∙ sym (kept.text commits k)

  onward : RoomIn → HasRoom wording start w commits k
  onward room = record {
    text = subst (λ (b : Option SessionNo). HasText wording (present w commits).things b (session_of k) (changes_behind w commits k)) behind.last room.text;
    fits = let fits = room.fits in let text = ap length text_is in let more = size_more start w commits k in omega (arith, fits, text, more, behind.size, behind.limit);
  }

  back : HasRoom wording start w commits k → RoomIn
  back room = record {
    text = subst (λ (b : Option SessionNo). HasText wording (present w commits).things b (session_of k) (changes_behind w commits k)) (sym behind.last) room.text;
    fits = let fits = room.fits in let text = ap length text_is in let more = size_more start w commits k in omega (arith, fits, text, more, behind.size, behind.limit);
  }

  behind_more : (new : Logbook) → new ≡ with_text (session_of k) text_in book → IsBehind start w (commits ++ k ∷ []) new
  behind_more new is = record {
    last = ap (λ (b : Logbook). b.last) is ∙ sym (last_more start.last commits k);
    size = let size = ap (λ (b : Logbook). b.size) is in let text = ap length text_is in let more = size_more start w commits k in omega (arith, size, text, more, behind.size);
    limit = ap (λ (b : Logbook). b.limit) is ∙ behind.limit;
  }

  -- ---- it is refused

  pub left : {D : Type 0} (stands : D → Database → Type 0) (database : D) (made : List (List ℕ)) → ¬ RoomIn → IsSettled stands start w commits k database database book book made made false
  left stands database made lacks = record {
    room = sym (decided_false (IsTaken wording takes start w commits k) (w.run.dialect.has_log_room commits k) (λ taken. lacks (back taken.room)) (kept.room commits k));
    done = λ e. absurd (let other : false ≡ true = e in cc);
    kept = λ e. (refl, refl, refl);
  }

  -- ---- it is made

  settled_in : {D : Type 0} (stands : D → Database → Type 0) (old new : D) (entered : Logbook) (old_text text old_made made : List (List ℕ)) → Enters wording (present w commits).things (session_of k) (changes_behind w commits k) book entered old_text text true
      → Makes takes (stands new) (present w commits) (changes_behind w commits k) true → old_text ≡ [] → made ≡ old_made ++ text → IsSettled stands start w commits k old new book entered old_made made true
  settled_in stands old new entered old_text text old_made made enters makes none all = record {
    room = sym (decided_true (IsTaken wording takes start w commits k) (w.run.dialect.has_log_room commits k) (record { room = onward enters.0; may = makes.0 }) (kept.room commits k));
    done = λ e. (
      subst (stands new) (sym (present_more w commits k)) makes.1,
      behind_more entered enters.1.0,
      all ∙ ap (λ (l : List (List ℕ)). old_made ++ l) (enters.1.1 ∙ (λ i. none i ++ text_is i ∷ [])),
    );
    kept = λ e. absurd (let other : true ≡ false = e in cc);
  }

  -- ---- as it is entered and made of these

  pub left_by : (things : Things) (session : SessionNo) (all : List Change) → things ≡ (present w commits).things → k.session ≡ session.0 → changes_behind w commits k ≡ all → {D : Type 0} (stands : D → Database → Type 0) (database : D) (made : List (List ℕ))
      → ¬ (HasRoomIn wording things book session all) → IsSettled stands start w commits k database database book book made made false
  left_by things session all there by is stands database made lacks =
      left stands database made (λ room. lacks (subst (λ (p : Of). HasRoomIn wording p.0 book p.1 p.2) (sym (same_of w commits k things session all there by is)) room))

  pub settled_by : (things : Things) (session : SessionNo) (all : List Change) → things ≡ (present w commits).things → k.session ≡ session.0 → changes_behind w commits k ≡ all → {D : Type 0} (stands : D → Database → Type 0) (old new : D) (entered : Logbook) (old_text text old_made made : List (List ℕ))
      → Enters wording things session all book entered old_text text true → Makes takes (stands new) (present w commits) all true → old_text ≡ [] → made ≡ old_made ++ text → IsSettled stands start w commits k old new book entered old_made made true
  settled_by things session all there by is stands old new entered old_text text old_made made enters makes none more =
      settled_in stands old new entered old_text text old_made made
      (subst (λ (p : Of). Enters wording p.0 p.1 p.2 book entered old_text text true) (same_of w commits k things session all there by is) enters)
      (subst (λ (l : List Change). Makes takes (stands new) (present w commits) l true) (sym is) makes) none more

-- ---- definitions

abbrev pub lone : Definition → List Change
lone definition = change.Define definition ∷ []

pub lone_behind : (w : World) (commits : List Commit) (k : Commit) (definition : Definition) → k.changes ≡ lone definition → changes_behind w commits k ≡ lone definition
lone_behind w commits k definition is = ap (numbered (present w commits).count) is

pub lone_writable : (wording : Wording) (things : Things) (definition : Definition) → definitions.IsPrintable wording things definition → All (IsWritable wording things) (lone definition)
lone_writable wording things definition h = All-cons (IsWritable wording things) (change.Define definition) [] h (All-nil (IsWritable wording things))

pub lone_without : (wording : Wording) (things : Things) (book : Logbook) (session : SessionNo) (definition : Definition) → ¬ (definitions.IsPrintable wording things definition) → ¬ (HasRoomIn wording things book session (lone definition))
lone_without wording things book session definition lacks =
    λ room.
    lacks (All-head (changes.IsPrintable wording things) (change.Define definition) [] (read_printable wording things book.last (commit_text wording things book.last session (lone definition)) session (lone definition) room.text))
