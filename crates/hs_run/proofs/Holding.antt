-- What holds of the log and of the output at each moment, from what a call does.
use Rattle.std.proofs.Common.{◌≡◌, ℕ, ◌≤◌, Bool, true, false, List, [], ◌∷◌, ◌++◌, length, inl, inr, refl, sym, ap, subst, ◌∙◌, arith, append_assoc, length-append, append-nil}
use Rattle.std.specs.Prelude.{◌==◌, ◌&&◌, not}
use Rattle.std.proofs.lemmas.List.{append_cancel_left}
use Rattle.hs_entries.specs.Parts.{lacks}
use Rattle.hs_host.specs.declared.file_kind.FileKind.TheVariants.{Log}
use Rattle.hs_host.specs.Disk.{Pending, Leaves}
use Rattle.hs_host.specs.Files.{Five, of}
use Rattle.hs_host.specs.Moments.{Moment, History, Since, IsPrinted, IsReading, disk_of}
use Rattle.hs_host.proofs.Passing.{since_weaker, since_join, since_now}
use Rattle.hs_log.specs.declared.log.Log.{Log as Kept}
use Rattle.hs_log.specs.Log.{IsLogOf, IsLog, epoch_in}
use Rattle.hs_log.proofs.Logs.{log_of, log_left, log_on, same_is}
use Rattle.hs_machine.specs.Acknowledged.{AcknowledgesAtMost, AcknowledgesLines}
use Rattle.hs_machine.proofs.Acknowledged.{fewer, more}
use Rattle.hs_run.specs.Crash.{AcknowledgesBehind, HasNoLine, IsHeld, texts_in}
use Rattle.hs_run.specs.Holding.{IsGathered, IsHandedOver}
use Rattle.hs_run.specs.Outgoing.{IsLogging}
use Rattle.hs_run.proofs.Prefixes.{split_front}

-- handing over nothing, and what the disk has all the while
pub handed_nothing : (m : Moment) (bytes : List ℕ) → IsHandedOver m bytes m
handed_nothing m bytes = record { disks = refl; piece = []; rest = bytes; out = sym (append-nil m.out); whole = refl }

-- and nothing is told while input is read
pub handed_reading : (before m : Moment) (bytes : List ℕ) → IsReading before m → IsHandedOver before bytes m
handed_reading before m bytes reading = record { disks = ap (λ (x : Moment). x.disks) reading.is; piece = []; rest = bytes; out = ap (λ (x : Moment). x.out) reading.is ∙ sym (append-nil before.out); whole = refl }

pub handed_disks : {a b : History} {bytes : List ℕ} → Since (IsHandedOver a.now bytes) a b → b.now.disks ≡ a.now.disks
handed_disks s = elim (since_now s) [ inl is ↦ ap (λ (m : Moment). m.disks) is | inr t ↦ t.disks ]

pub handed_printed : {a b : History} (bytes : List ℕ) → Since (IsPrinted a.now bytes) a b → Since (IsHandedOver a.now bytes) a b
handed_printed {a} {b} bytes ab = since_weaker ab (λ m p. record { disks = ap (λ (x : Moment). x.disks) p.is; piece = p.piece; rest = p.rest; out = ap (λ (x : Moment). x.out) p.is; whole = p.whole })

-- what is told behind what was handed over before is told of the whole
told_through : (before mid m : Moment) (gathered rest whole : List ℕ) → mid.disks ≡ before.disks → mid.out ++ (gathered ++ rest) ≡ before.out ++ whole → length before.out ≤ length mid.out
    → IsHandedOver mid gathered m → IsHandedOver before whole m
told_through before mid m gathered rest whole disks left grown t =
    let parts = split_front mid.out (gathered ++ rest) before.out whole left grown in
    record {
      disks = t.disks ∙ disks;
      piece = parts.0 ++ t.piece;
      rest = t.rest ++ rest;
      out = t.out ∙ ap (λ (l : List ℕ). l ++ t.piece) parts.1.0 ∙ append_assoc before.out parts.0 t.piece;
      whole = append_assoc parts.0 t.piece (t.rest ++ rest) ∙ ap (λ (l : List ℕ). parts.0 ++ l) (sym (append_assoc t.piece t.rest rest) ∙ ap (λ (l : List ℕ). l ++ rest) t.whole) ∙ parts.1.1;
    }

-- so it is of all moments, by the bytes that were written
pub told_join : {a b c : History} (old new gathered rest whole : List ℕ) → a.now.out ≡ old → b.now.out ≡ new → Since (IsHandedOver a.now whole) a b → new ++ (gathered ++ rest) ≡ old ++ whole → length old ≤ length new
    → Since (IsHandedOver b.now gathered) b c → Since (IsHandedOver a.now whole) a c
told_join {a} {b} {c} old new gathered rest whole old_is new_is ab left grown bc =
    since_join ab (since_weaker bc (λ m t.
    told_through a.now b.now m gathered rest whole (handed_disks ab)
    (ap (λ (l : List ℕ). l ++ (gathered ++ rest)) new_is ∙ left ∙ sym (ap (λ (l : List ℕ). l ++ whole) old_is))
    (omega (arith, grown, ap length old_is, ap length new_is)) t))

-- a line stays a line
has_line_more : (xs ys : List ℕ) → lacks 10 xs ≡ false → lacks 10 (xs ++ ys) ≡ false
has_line_more [] ys line = absurd (cc)
has_line_more (x ∷ xs) ys line = by (not (x == 10)) (has_line_more xs ys) line
  where
    by : (b : Bool) → (lacks 10 xs ≡ false → lacks 10 (xs ++ ys) ≡ false) → (b && lacks 10 xs) ≡ false → (b && lacks 10 (xs ++ ys)) ≡ false
    by true more none = more none
    by false more none = refl

-- what is gathered goes on where some of it was handed over
pub gathered_on : (before old new whole gathered : List ℕ) (commits : ℕ) → new ++ gathered ≡ old ++ whole → length old ≤ length new → IsGathered before old whole commits → IsGathered before new gathered commits
gathered_on before old new whole gathered commits is grown all =
    let parts = split_front new gathered old whole is grown in
    record {
      written = all.written ++ parts.0;
      begun = has_line_more all.written parts.0 all.begun;
      is = parts.1.0 ∙ ap (λ (l : List ℕ). l ++ parts.0) all.is ∙ append_assoc before all.written parts.0;
      lines = subst (λ (l : List ℕ). AcknowledgesLines l commits) (sym (append_assoc all.written parts.0 gathered ∙ ap (λ (l : List ℕ). all.written ++ l) parts.1.1)) all.lines;
    }

-- handing over leaves the log as it is kept
pub log_handed : {a b : History} {bytes : List ℕ} (old new : Five (List ℕ)) (log : Kept) → Since (IsHandedOver a.now bytes) a b → new ≡ old → IsLog a old log → IsLog b new log
log_handed {a} {b} {bytes} old new log s same is = log_on a b old new log (handed_disks s) same is

-- what a crash leaves of the log as it is kept
pub kept_left : (files : Five (List ℕ)) (h : History) (log : Kept) (left : List ℕ) → IsLog h files log → epoch_in log ≡ 1 → Leaves (disk_of h.now Log) left → IsLogOf 1 (texts_in files) left
kept_left files h log left is first leaves =
    subst (λ (n : ℕ). IsLogOf n (texts_in files) left) first (same_is (epoch_in log) (texts_in files) files.log left (log_of h files log is) (log_left h files log left is leaves))

-- a prefix of what was gathered tells of no more
told_behind : (before : List ℕ) (mid m : Moment) (gathered : List ℕ) (commits : ℕ) → IsGathered before mid.out gathered commits → IsHandedOver mid gathered m → AcknowledgesBehind before m.out commits
told_behind before mid m gathered commits all t = record {
  written = all.written ++ t.piece;
  is = t.out ∙ ap (λ (l : List ℕ). l ++ t.piece) all.is ∙ append_assoc before all.written t.piece;
  told = fewer (all.written ++ t.piece) t.rest commits
      (subst (λ (l : List ℕ). AcknowledgesAtMost l commits)
      (ap (λ (l : List ℕ). all.written ++ l) (sym t.whole) ∙ sym (append_assoc all.written t.piece t.rest))
      all.lines.told);
}

-- a whole line was written by then
line_behind : (before : List ℕ) (mid m : Moment) (gathered : List ℕ) (commits : ℕ) → IsGathered before mid.out gathered commits → IsHandedOver mid gathered m → HasNoLine before m.out → ⊥
line_behind before mid m gathered commits all t none =
    let both : before ++ (all.written ++ t.piece) ≡ before ++ none.written = sym (append_assoc before all.written t.piece) ∙ ap (λ (l : List ℕ). l ++ t.piece) (sym all.is) ∙ sym t.out ∙ none.is in
    let same : all.written ++ t.piece ≡ none.written = append_cancel_left before (all.written ++ t.piece) none.written both in
    let e : true ≡ false = sym (ap (lacks 10) same ∙ none.none) ∙ has_line_more all.written t.piece all.begun in
    cc

module _ (files : Five (List ℕ)) (h : History) (log : Kept) (is : IsLog h files log) (first : epoch_in log ≡ 1) (least : ℕ) (before : List ℕ) (enough : least ≤ length (texts_in files)) where
  -- while output is handed over
  pub held_telling : (gathered : List ℕ) (rest : List (List ℕ)) (m : Moment) → IsGathered before h.now.out gathered (length (texts_in files)) → IsHandedOver h.now gathered m → IsHeld least (texts_in files ++ rest) before m
  held_telling gathered rest m all t left leaves = record {
    texts = texts_in files;
    is = kept_left files h log left is first (subst (λ (d : Five Pending). Leaves (of d Log) left) t.disks leaves);
    enough = enough;
    rest = rest;
    prefix = refl;
    told = told_behind before h.now m gathered (length (texts_in files)) all t;
    begun = λ none. absurd (line_behind before h.now m gathered (length (texts_in files)) all t none);
  }

  -- while texts are logged, and while what was gathered is handed over behind that
  pub held_logged : (gathered : List ℕ) (texts rest : List (List ℕ)) (mid m : Moment) → IsGathered before h.now.out gathered (length (texts_in files)) → IsLogging h.now (texts_in files) texts mid → IsHandedOver mid gathered m → IsHeld least (texts_in files ++ (texts ++ rest)) before m
  held_logged gathered texts rest mid m all l t left leaves =
      let disk_is : disk_of m Log ≡ l.disk = ap (λ (d : Five Pending). of d Log) t.disks ∙ ap (λ (x : Moment). disk_of x Log) l.is in
      let out : mid.out ≡ h.now.out = ap (λ (x : Moment). x.out) l.is in
      let now : IsGathered before mid.out gathered (length (texts_in files)) = subst (λ (o : List ℕ). IsGathered before o gathered (length (texts_in files))) (sym out) all in
      let told = told_behind before mid m gathered (length (texts_in files)) now t in
      elim (l.each left (subst (λ (p : Pending). Leaves p left) disk_is leaves)) [
        | inl same ↦ record { texts = texts_in files; is = same; enough = enough; rest = texts ++ rest; prefix = refl; told = told; begun = λ none. absurd (line_behind before mid m gathered (length (texts_in files)) now t none) }
        | inr one ↦ record {
          texts = texts_in files ++ texts;
          is = one;
          enough = omega (arith, enough, length-append (texts_in files) texts);
          rest = rest;
          prefix = append_assoc (texts_in files) texts rest;
          told = record { written = told.written; is = told.is; told = more told.written _ _ told.told (omega (arith, length-append (texts_in files) texts)) };
          begun = λ none. absurd (line_behind before mid m gathered (length (texts_in files)) now t none);
        }
      ]
