-- What a crash leaves of a log while it is opened.
use Rattle.std.proofs.Common.{◌≡◌, ℕ, cond, List, [], inl, inr, sym, ◌∙◌, ap, subst}
use Rattle.hs_host.specs.declared.file_kind.FileKind.TheVariants.{Log}
use Rattle.hs_host.specs.Disk.{Pending, Leaves, settled}
use Rattle.hs_host.specs.Files.{Five}
use Rattle.hs_host.specs.Moments.{Moment, History, Since, OneFile, IsStill, disk_of, with_disk}
use Rattle.hs_host.proofs.Changing.{disk_is}
use Rattle.hs_host.proofs.Passing.{since_weaker, since_join, since_now, still_disks}
use Rattle.hs_log.specs.Log.{IsSameLog, IsOpening, is_born, texts_of}
use Rattle.hs_program.specs.Crash.{GivesSame, IsFound, IsQuiet}
use Rattle.hs_program.specs.Meaning.{Meaning, nothing_logged}
use Rattle.hs_program.specs.Opening.{AreRedone, IsOpened, texts_at}

module _ (m : Meaning) where
  -- the same bytes give the same, and so does what is read as the log was
  pub same_gives : (old log : List ℕ) → log ≡ old → GivesSame m old log
  same_gives old log same = (λ opened is. subst (λ l. IsOpened m l opened) (sym same) is, ap texts_at same)

  same_texts : (old left : List ℕ) → IsSameLog old left → texts_at left ≡ texts_at old
  same_texts old left same = ap (λ b. cond b (texts_of left) []) same.born ∙ ap (λ ts. cond (is_born old) ts []) same.texts

  same_log_gives : (old left : List ℕ) → IsSameLog old left → GivesSame m old left
  same_log_gives old left same = (
    λ opened is. record {
      made = record {
        header = λ born. same.header 1 ∙ is.made.header (sym same.born ∙ born);
        whole = λ born. same.broken ∙ is.made.whole (sym same.born ∙ born);
        made = subst (λ ts. AreRedone m (nothing_logged m) ts opened) (sym (same_texts old left same)) is.made.made;
      };
      valid = is.valid;
    },
    same_texts old left same,
  )

  -- while files are only read nothing is told
  still_out : {a b : History} → Since (IsStill a.now) a b → b.now.out ≡ a.now.out
  still_out ab = elim (since_now ab) [ inl is ↦ ap (λ (x : Moment). x.out) is | inr still ↦ ap (λ (x : Moment). x.out) still ]

  still_at : (files : Five (List ℕ)) (start at : Moment) → IsQuiet files start → IsStill start at → IsFound m files start at
  still_at files start at quiet is = record {
    out = ap (λ (x : Moment). x.out) is;
    left = inr (λ log leaves. same_gives files.log log (subst (λ (p : Pending). Leaves p log) (ap (λ (x : Moment). disk_of x Log) is ∙ quiet) leaves));
  }

  -- while it is only read
  pub still_opening : {a b : History} (files : Five (List ℕ)) → IsQuiet files a.now → Since (IsStill a.now) a b → Since (IsFound m files a.now) a b
  still_opening {a} {b} files quiet ab = since_weaker ab (λ at is. still_at files a.now at quiet is)

  -- a change behind that is one from the start
  still_with : {a b : History} (d : Pending) → Since (IsStill a.now) a b → with_disk b.now Log d ≡ with_disk a.now Log d
  still_with d ab = elim (since_now ab) [ inl is ↦ ap (λ (x : Moment). with_disk x Log d) is | inr is ↦ ap (λ (x : Moment). with_disk x Log d) is ]

  -- while it is read, or made
  opening_at : (files : Five (List ℕ)) (start at : Moment) → IsQuiet files start → IsOpening files start at → IsFound m files start at
  opening_at files start at quiet (inl still) = still_at files start at quiet still
  opening_at files start at quiet (inr birth) = record { out = ap (λ (x : Moment). x.out) birth.log.is; left = inl birth }

  pub opening_found : {a b : History} (files : Five (List ℕ)) → IsQuiet files a.now → Since (IsOpening files a.now) a b → Since (IsFound m files a.now) a b
  opening_found {a} {b} files quiet ab = since_weaker ab (λ at is. opening_at files a.now at quiet is)

  -- while a log that was only read until then is settled
  settle_at : (old files : Five (List ℕ)) (start before at : Moment) → files ≡ old → before.out ≡ start.out → IsQuiet files before
      → OneFile before Log (λ left. disk_of before Log ≡ settled files.log → IsSameLog files.log left) at → IsFound m old start at
  settle_at old files start before at same told quiet one = record {
    out = ap (λ (x : Moment). x.out) one.is ∙ told;
    left = inr (λ left leaves. same_log_gives old.log left
        (subst (λ (f : Five (List ℕ)). IsSameLog f.log left) same (one.each left (subst (λ (p : Pending). Leaves p left) (disk_is before at Log one.disk one.is) leaves) quiet)));
  }

  pub settle_opening : {a b c : History} (old files : Five (List ℕ)) → files ≡ old → IsQuiet old a.now → Since (IsStill a.now) a b
      → Since (OneFile b.now Log (λ left. disk_of b.now Log ≡ settled files.log → IsSameLog files.log left)) b c → Since (IsFound m old a.now) a c
  settle_opening {a} {b} {c} old files same quiet ab bc =
      let there : IsQuiet files b.now =
      ap (λ (d : Five Pending). d.log) (still_disks ab) ∙ quiet ∙ ap (λ (f : Five (List ℕ)). settled f.log) (sym same) in
      since_join (still_opening old quiet ab) (since_weaker bc (λ at one. settle_at old files a.now b.now at same (still_out ab) there one))

  -- an opening behind reads
  found_on : {a b : History} (old files : Five (List ℕ)) (at : Moment) → files ≡ old → Since (IsStill a.now) a b → IsFound m files b.now at → IsFound m old a.now at
  found_on {a} {b} old files at same ab found = record {
    out = found.out ∙ still_out ab;
    left = elim found.left [
      | inl birth ↦ inl (record {
        unborn = ap (λ (f : Five (List ℕ)). is_born f.log) (sym same) ∙ birth.unborn;
        log = record { disk = birth.log.disk; is = birth.log.is ∙ still_with birth.log.disk ab; each = birth.log.each };
      })
      | inr left ↦ inr (subst (λ (f : Five (List ℕ)). (log : List ℕ) → Leaves (disk_of at Log) log → GivesSame m f.log log) same left)
    ];
  }

  pub opening_on : {a b c : History} (old files : Five (List ℕ)) → files ≡ old → IsQuiet old a.now → Since (IsStill a.now) a b
      → (IsQuiet files b.now → Since (IsFound m files b.now) b c) → Since (IsFound m old a.now) a c
  opening_on {a} {b} {c} old files same quiet ab opens =
      let log : files.log ≡ old.log = ap (λ (f : Five (List ℕ)). f.log) same in
      since_join (still_opening old quiet ab)
      (since_weaker (opens (ap (λ (d : Five Pending). d.log) (still_disks ab) ∙ quiet ∙ ap settled (sym log))) (λ at. found_on old files at same ab))
