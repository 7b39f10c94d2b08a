-- That a log with a front of a run's texts has the run's first commits.
use Rattle.std.proofs.Common.{◌≡◌, ◌⊎◌, ℕ, true, false, List, [], ◌++◌, length, take, None, inl, inr, refl, sym, ap, subst, ◌∙◌, arith, append-nil, length-append}
use Rattle.std.proofs.Math.Seq.{take-append_seam}
use Rattle.hs_entries.specs.Items.{items}
use Rattle.hs_host.specs.declared.file_kind.FileKind.TheVariants.{Log}
use Rattle.hs_host.specs.Disk.{Pending, Leaves}
use Rattle.hs_host.specs.Files.{Five, of}
use Rattle.hs_host.specs.declared.file_kind.FileKind.{FileKind}
use Rattle.hs_host.specs.Moments.{Moment, History, Since, disk_of}
use Rattle.hs_host.proofs.Passing.{since_now}
use Rattle.hs_log.specs.declared.log.Log.{Log as Kept}
use Rattle.hs_log.specs.Log.{IsLog, IsLogOf, IsWholeLog, IsUnbornOrNew, epoch_in, is_born, size_in}
use Rattle.hs_log.proofs.Logs.{log_left, log_of, log_parts, same_is, whole_log}
use Rattle.hs_machine.proofs.Acknowledged.{tells_nothing}
use Rattle.hs_run.specs.Crash.{AcknowledgesBehind, Holds, IsHeld, texts_in}
use Rattle.hs_run.proofs.Given.{items_told}
use Rattle.hs_run.proofs.Prefixes.{split_front}
use Rattle.hs_gate.specs.Groups.{end_of}
use Rattle.hs_program.specs.Ahead.{after_commits, ahead, ended_with, texts_from}
use Rattle.hs_program.specs.Crash.{GivesSame, IsFound, IsKept, IsQuiet, IsSafe, Survives}
use Rattle.hs_program.specs.Lawful.{IsLawful}
use Rattle.hs_program.specs.Meaning.{Meaning, Opened, nothing_logged}
use Rattle.hs_program.specs.Opening.{AreRedone, IsOpened, size_at, texts_at}
use Rattle.hs_program.proofs.Openings.{same_gives}
use Rattle.hs_program.proofs.Replayed.{born_texts, counted, log_gives, new_same, opened_sound, redone_behind, unborn_gives}

-- how many bytes stand in a log that is kept, with the texts of an old one
pub size_is : (h : History) (files : Five (List ℕ)) (log : Kept) (old : List ℕ) → IsLog h files log → texts_in files ≡ texts_at old → size_in log ≡ size_at old
size_is h files log old is texts =
    let ends : end_of (texts_in files) ≡ size_at old = ap end_of texts in
    let long : length (of files log.gated.file) ≡ length files.log = ap (λ (k : FileKind). length (of files k)) is.file in
    omega (arith, ends, long, (whole_log h files log is).last, is.rest.last)

-- when the log is open nothing is told yet
pub held_opened : (files : Five (List ℕ)) (h : History) (log : Kept) → IsLog h files log → epoch_in log ≡ 1 → (before : List ℕ) (rest : List (List ℕ)) → h.now.out ≡ before
    → IsHeld (length (texts_in files)) (texts_in files ++ rest) before h.now
held_opened files h log is first before rest out left leaves = record {
  texts = texts_in files;
  is = same_is 1 (texts_in files) files.log left (subst (λ (n : ℕ). IsLogOf n (texts_in files) files.log) first (log_of h files log is)) (log_left h files log left is leaves);
  enough = omega arith;
  rest = rest;
  prefix = refl;
  told = record { written = []; is = out ∙ sym (append-nil before); told = tells_nothing _ };
  begun = λ none. refl;
}

module _ (m : Meaning) where
  -- a log that was born is not being made
  born_kept : (files : Five (List ℕ)) (opened : Opened) (input before : List ℕ) (start at : Moment) → is_born files.log ≡ true → IsKept m files opened input before start at → IsSafe m files.log opened input before at
  born_kept files opened input before start at born (inl birth) = absurd (let e : true ≡ false = sym born ∙ birth.unborn in cc)
  born_kept files opened input before start at born (inr safe) = safe

  -- what is safe at a moment, and at each moment after, is so now
  pub safe_now : {old : List ℕ} {opened : Opened} {input before : List ℕ} {a b : History} → IsSafe m old opened input before a.now → Since (IsSafe m old opened input before) a b → IsSafe m old opened input before b.now
  safe_now {old} {opened} {input} {before} first each = elim (since_now each) [ inl is ↦ subst (IsSafe m old opened input before) (sym is) first | inr safe ↦ safe ]

  -- and the log as a read gives it is among what a crash may leave
  pub left_now : (old : List ℕ) (opened : Opened) (input before : List ℕ) (at : Moment) (written log : List ℕ) → IsSafe m old opened input before at → at.out ≡ written → Leaves (disk_of at Log) log → Survives m old opened input before written log
  left_now old opened input before at written log safe out leaves = subst (λ (o : List ℕ). Survives m old opened input before o log) out (safe log leaves)

  module _ (law : IsLawful m) where
    -- what the first texts of a run make again is what there is behind its first commits, and violates nothing
    first_made : (old : List ℕ) (opened : Opened) (input : List ℕ) → IsOpened m old opened → (front rest : List (List ℕ)) → texts_from (ahead m old opened) input ≡ front ++ rest
        → AreRedone m opened front (after_commits m old opened input (length front)) × (m.violated (after_commits m old opened input (length front)) ≡ None)
    first_made old opened input is front rest all = law.remade opened (size_at old) (opened_sound m old opened is) (items 1 input) (items_told 1 input) front rest all

    -- behind none of them it is what the run found
    none_made : (old : List ℕ) (opened : Opened) (input : List ℕ) → IsOpened m old opened → after_commits m old opened input 0 ≡ opened
    none_made old opened input is = (first_made old opened input is [] (texts_from (ahead m old opened) input) refl).0

    -- a log that gives what the old one gives, while nothing is told
    pub same_survives : (old : List ℕ) (opened : Opened) (input before out log : List ℕ) → IsOpened m old opened → out ≡ before → GivesSame m old log → Survives m old opened input before out log
    same_survives old opened input before out log is told same = record {
      by = record { count = 0; enough = omega arith; within = omega arith; is = ap (λ (l : List (List ℕ)). record { epoch = 1; logged = l }) (same.1 ∙ sym (append-nil (texts_at old))) };
      made = none_made old opened input is;
      reopens = subst (IsOpened m log) (sym (none_made old opened input is)) (same.0 opened is);
      told = record { written = []; is = told ∙ sym (append-nil before); told = tells_nothing _ };
      begun = λ none. refl;
    }

    -- before anything is done all is safe
    pub start_safe : (files : Five (List ℕ)) (opened : Opened) (input before : List ℕ) (at : Moment) → IsOpened m files.log opened → IsQuiet files at → at.out ≡ before → IsSafe m files.log opened input before at
    start_safe files opened input before at is quiet out log leaves =
        same_survives files.log opened input before at.out log is out (same_gives m files.log log (subst (λ (p : Pending). Leaves p log) quiet leaves))

    -- and while the log is opened, or it is being born
    pub found_kept : (files : Five (List ℕ)) (opened : Opened) (input before : List ℕ) (start at : Moment) → IsOpened m files.log opened → start.out ≡ before → IsFound m files start at → IsKept m files opened input before start at
    found_kept files opened input before start at is out found = elim found.left [
      | inl birth ↦ inl birth
      | inr left ↦ inr (λ log leaves. same_survives files.log opened input before at.out log is (found.out ∙ out) (left log leaves))
    ]

    -- over a born log the present moment is safe in any case
    pub born_safe : (files : Five (List ℕ)) (opened : Opened) (input before : List ℕ) (start now : History) → IsOpened m files.log opened → is_born files.log ≡ true → IsQuiet files start.now → start.now.out ≡ before
        → Since (IsKept m files opened input before start.now) start now → IsSafe m files.log opened input before now.now
    born_safe files opened input before start now is born quiet out each = elim (since_now each) [
      | inl same ↦ subst (IsSafe m files.log opened input before) (sym same) (start_safe files opened input before start.now is quiet out)
      | inr kept ↦ born_kept files opened input before start.now now.now born kept
    ]

    -- where the log could not be opened, it isn't born or a new one
    pub unborn_or_new : (old input before out log : List ℕ) → is_born old ≡ false → out ≡ before → IsUnbornOrNew log → (is_born log ≡ false) ⊎ Survives m old (nothing_logged m) input before out log
    unborn_or_new old input before out log unborn told (inl still) = inl still
    unborn_or_new old input before out log unborn told (inr made) =
        inr (same_survives old (nothing_logged m) input before out log (unborn_gives m law old unborn) told (new_same m law old log unborn made))

    -- a log of all that a run makes gives what there is when it has ended
    pub reopened : (old new : List ℕ) (opened : Opened) (input : List ℕ) → IsOpened m old opened → IsWholeLog 1 (texts_at old ++ texts_from (ahead m old opened) input) new → IsOpened m new (ended_with m old opened input)
    reopened old new opened input is whole =
        let all = texts_from (ahead m old opened) input in
        let end = ended_with m old opened input in
        let made = first_made old opened input is all [] (sym (append-nil all)) in
        log_gives m new (texts_at old ++ all) end whole.log (redone_behind m (texts_at old) all (nothing_logged m) opened end is.made.made made.0) made.1

    -- such a log survives: it has the first so many commits of the run
    survives : (old : List ℕ) (opened : Opened) (input before out log : List ℕ) → IsOpened m old opened
        → Holds (length (texts_at old)) (texts_at old ++ texts_from (ahead m old opened) input) before out log → Survives m old opened input before out log
    survives old opened input before out log is held =
        let all = texts_from (ahead m old opened) input in
        let parts = log_parts 1 held.texts log held.is in
        let split = split_front held.texts held.rest (texts_at old) all held.prefix held.enough in
        let front = split.0 in
        let taken : take (length front) all ≡ front = ap (λ ts. take (length front) ts) (sym split.1.1) ∙ take-append_seam front held.rest in
        let made = first_made old opened input is front held.rest (sym split.1.1) in
        let state = after_commits m old opened input (length front) in
        let behind : AreRedone m (nothing_logged m) held.texts state =
        subst (λ ts. AreRedone m (nothing_logged m) ts state) (sym split.1.0) (redone_behind m (texts_at old) front (nothing_logged m) opened state is.made.made made.0) in
        record {
          by = record {
            count = length front;
            enough = omega arith;
            within = omega (arith, ap length split.1.1, length-append front held.rest);
            is = ap (λ (l : List (List ℕ)). record { epoch = 1; logged = l }) (born_texts log parts.0 ∙ parts.2 ∙ split.1.0 ∙ ap (λ ts. texts_at old ++ ts) (sym taken));
          };
          made = subst (λ ts. AreRedone m opened ts state) (sym taken) made.0;
          reopens = log_gives m log held.texts state held.is behind made.1;
          told = subst (AcknowledgesBehind before out) (let n : length held.texts ≡ state.commits = omega (arith, counted m law held.texts (nothing_logged m) state behind) in n) held.told;
          begun = λ none. omega (arith, held.begun none, ap length split.1.0, length-append (texts_at old) front);
        }

    pub safe : (old : List ℕ) (opened : Opened) (input before : List ℕ) (at : Moment) → IsOpened m old opened
        → IsHeld (length (texts_at old)) (texts_at old ++ texts_from (ahead m old opened) input) before at → IsSafe m old opened input before at
    safe old opened input before at is held log left = survives old opened input before at.out log is (held log left)
