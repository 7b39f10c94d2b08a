-- The first line of a run, and the last one.
use Rattle.std.proofs.Common.{◌≡◌, ℕ, ◌+◌, ◌≤◌, false, List, [], ◌++◌, length, take, codes, Result, Ok, Err, OnOk, refl, sym, ap, subst, ◌∙◌, arith, append_assoc, append-nil}
use Rattle.std.specs.Fmt.{decimal}
use Rattle.std.specs.Result.{IsErrAnd}
use Rattle.std.proofs.lemmas.List.{take-append-le}
use Rattle.hs_entries.specs.Parts.{lacks}
use Rattle.hs_host.specs.declared.file_kind.FileKind.TheVariants.{Log}
use Rattle.hs_host.specs.declared.source.Source as source
use Rattle.hs_host.specs.declared.host.Host as host
use Rattle.hs_host.specs.Disk.{Pending, Leaves}
use Rattle.hs_host.specs.Files.{Five, of, IsHonest, IsOpen}
use Rattle.hs_host.specs.Moments.{Since}
use Rattle.hs_host.specs.Used.{Told}
use Rattle.hs_host.proofs.Passing.{since_none, since_weaker}
use Rattle.hs_log.specs.Log.{IsLog, IsWholeLog, epoch_in}
use Rattle.hs_log.proofs.Logs.{whole_log}
use Rattle.hs_machine.specs.Acknowledged.{AcknowledgesAtMost, AcknowledgesLines}
use Rattle.hs_machine.proofs.Acknowledged.{fewer, lacks_not, nothing_tells}
use Rattle.hs_run.specs.declared.outgoing.Outgoing.{Outgoing}
use Rattle.hs_run.specs.declared.stop.Stop.{Stop}
use Rattle.hs_run.specs.declared.stop.Stop.TheVariants.{NoMemory}
use Rattle.hs_run.specs.Crash.{IsHeld, texts_in}
use Rattle.hs_run.specs.Holding.{IsGathered, IsHandedOver, WritesPrefix}
use Rattle.hs_run.specs.Lines.{closed_line, opened_line}
use Rattle.hs_run.specs.Outgoing.{Closes, HandsOn, IsServing, IsTelling, Opens, failing}
use Rattle.hs_run.specs.Used.{HandsOver}
use Rattle.hs_run.proofs.Holding.{kept_left, log_handed}
use Rattle.hs_run.proofs.Lines.{closed_tells, opened_tells}
use Rattle.hs_run.proofs.Prefixes.{front_behind, nothing_yet}
use Rattle.hs_run.proofs.Stops.{any_ok, no_faults, ok_weaker}
use Rattle.hs_run.proofs.Used.{hands_turns, log_none}

module _ {H : Type 0} (s : source.Ghosts H) (g : host.Ghosts H) where
  -- memory was wanted for the first line
  pub opens_wanting : {R : Type 0} (commits : ℕ) (o o1 : Outgoing) (h : H) → Opens {R = R} s g commits o h o1 h (Err NoMemory)
  opens_wanting {R} commits o o1 h = record {
    serving = tt;
    told = λ _. tt;
    none_told = tt;
    none_made = tt;
    files = λ _. refl;
    telling = λ _. tt;
    front = λ _. nothing_yet (g.written h) (opened_line commits);
    moments = λ _ rest. since_none _ (g.history h);
    ends = record { uses = log_none h; calm = tt; stops = no_faults h };
  }

  pub opens_failing : {R : Type 0} (commits : ℕ) (o o1 : Outgoing) (h : H) (result : Result R Stop) → IsErrAnd result (λ e. e ≡ NoMemory) → Opens s g commits o h o1 h result
  opens_failing {R} commits o o1 h (Ok x) is = absurd is
  opens_failing {R} commits o o1 h (Err e) is = subst (λ (stop : Stop). Opens {R = R} s g commits o h o1 h (Err stop)) (sym is) (opens_wanting commits o o1 h)

  -- it is handed over, or a part of it
  module _ (commits : ℕ) (o o1 : Outgoing) (h h1 : H) (serving : IsServing s g o h) (out : s.tells → (g.history h).now.out ≡ g.written h) (log : o1.log ≡ o.log) (standing : o1.standing ≡ 0) (none_told : o1.gathered.told ≡ []) (none_made : o1.gathered.made ≡ []) (result : Result (Unit {0}) Stop) (ends : HandsOver s g h h1 result) (done : s.tells → OnOk result (g.written h1 ≡ g.written h ++ opened_line commits)) (front : s.tells → WritesPrefix (g.written h) (g.written h1) (opened_line commits)) (handed : s.tells → Since (IsHandedOver (g.history h).now (opened_line commits)) (g.history h) (g.history h1)) where
    still : Told s g h1 → Told s g h
    still told = record { tells = told.tells; honest = subst IsHonest ends.uses.standing told.honest }

    first : (gathered : List ℕ) (count : ℕ) → gathered ≡ [] → g.written h1 ≡ g.written h ++ opened_line commits → IsGathered (g.written h) (g.written h1) gathered count
    first gathered count none is = record {
      written = opened_line commits;
      is = is;
      begun = subst (λ (l : List ℕ). lacks 10 l ≡ false) (append_assoc (codes "opened at ") (decimal commits) (codes "\n")) (lacks_not 10 (codes "opened at " ++ decimal commits) []);
      lines = subst (λ (l : List ℕ). AcknowledgesLines (opened_line commits ++ l) count) (sym none) (subst (λ (l : List ℕ). AcknowledgesLines l count) (sym (append-nil (opened_line commits))) (opened_tells [] count commits (nothing_tells count)));
    }

    pub opens_by : Opens s g commits o h o1 h1 result
    opens_by = record {
      serving = any_ok result (record {
        opened = subst IsOpen (sym ends.uses.standing) serving.opened;
        epoch = ap epoch_in log ∙ serving.epoch;
        log = λ told. subst (IsLog (g.history h1) (g.files h1)) (sym log) (log_handed (g.files h) (g.files h1) o.log (handed told.tells) ends.uses.files (serving.log (still told)));
        within = omega (arith, standing);
      });
      told = done;
      none_told = any_ok result none_told;
      none_made = any_ok result none_made;
      files = λ _. ends.uses.files;
      telling = λ told. ok_weaker result (λ is. record {
        enough = omega (arith, ap (λ (f : Five (List ℕ)). length (texts_in f)) ends.uses.files);
        stands = first (take o1.standing o1.gathered.told) (length (texts_in (g.files h1))) (ap (take o1.standing) none_told ∙ ap (λ (k : ℕ). take k []) standing) is;
        gathered = first o1.gathered.told (length (texts_in (g.files h1)) + length o1.gathered.made) none_told is;
      }) (done told.tells);
      front = front;
      moments = λ told rest. since_weaker (handed told.tells) (λ m t left leaves. record {
        texts = texts_in (g.files h);
        is = kept_left (g.files h) (g.history h) o.log left (serving.log told) serving.epoch (subst (λ (d : Five Pending). Leaves (of d Log) left) t.disks leaves);
        enough = omega arith;
        rest = rest;
        prefix = refl;
        told = record {
          written = t.piece;
          is = t.out ∙ ap (λ (l : List ℕ). l ++ t.piece) (out told.tells);
          told = fewer t.piece t.rest (length (texts_in (g.files h)))
              (subst (λ (l : List ℕ). AcknowledgesAtMost l (length (texts_in (g.files h)))) (sym t.whole) (opened_tells [] (length (texts_in (g.files h))) commits (nothing_tells (length (texts_in (g.files h))))).told);
        };
        begun = λ none. refl;
      });
      ends = hands_turns result (log_none h) (no_faults h) ends handed;
    }

  -- memory was wanted for the last line, and what was gathered went out
  pub closes_wanting : (commits : ℕ) (o o1 : Outgoing) (h h1 : H) (stop : Stop) → HandsOn s g o h o1 h1 (failing stop) → Closes s g commits o h h1 (failing stop)
  closes_wanting commits o o1 h h1 stop hands = record {
    told = λ _. tt;
    log = λ _. tt;
    front = λ tells. front_behind (g.written h) (g.written h1) o.gathered.told (closed_line commits) (hands.front tells);
    moments = λ told least before tell. subst (λ (ts : List (List ℕ)). Since (IsHeld least (texts_in (g.files h) ++ ts) before) (g.history h) (g.history h1)) (append-nil o.gathered.made) (hands.moments told least before tell []);
    ends = hands.ends;
  }

  -- with the last line more is gathered, which tells of nothing
  with_last : (commits : ℕ) (o o1 : Outgoing) (h : H) → o1.standing ≡ o.standing → o1.gathered.made ≡ o.gathered.made → o1.gathered.told ≡ o.gathered.told ++ closed_line commits → o.standing ≤ length o.gathered.told
      → (least : ℕ) (before : List ℕ) → IsTelling least before g o h → IsTelling least before g o1 h
  with_last commits o o1 h standing made told within least before tell = record {
    enough = tell.enough;
    stands = subst (λ (l : List ℕ). IsGathered before (g.written h) l (length (texts_in (g.files h))))
        (sym (ap (λ (k : ℕ). take k o1.gathered.told) standing ∙ ap (take o.standing) told ∙ take-append-le o.standing o.gathered.told (closed_line commits) within)) tell.stands;
    gathered = record {
      written = tell.gathered.written;
      is = tell.gathered.is;
      begun = tell.gathered.begun;
      lines = subst (λ (l : List ℕ). AcknowledgesLines l (length (texts_in (g.files h)) + length o1.gathered.made)) (append_assoc tell.gathered.written o.gathered.told (closed_line commits) ∙ ap (λ (l : List ℕ). tell.gathered.written ++ l) (sym told))
          (subst (λ (ts : List (List ℕ)). AcknowledgesLines ((tell.gathered.written ++ o.gathered.told) ++ closed_line commits) (length (texts_in (g.files h)) + length ts)) (sym made)
          (closed_tells (tell.gathered.written ++ o.gathered.told) (length (texts_in (g.files h)) + length o.gathered.made) commits tell.gathered.lines));
    };
  }

  -- it went out with all else, or a part of that did
  pub closes_by : (commits : ℕ) (o o1 o2 : Outgoing) (h h1 : H) (result : Result (Unit {0}) Stop) → o1.standing ≡ o.standing → o1.gathered.made ≡ o.gathered.made → o1.gathered.told ≡ o.gathered.told ++ closed_line commits → o.standing ≤ length o.gathered.told
      → HandsOn s g o1 h o2 h1 result → (s.tells → OnOk result (g.written h1 ≡ g.written h ++ o1.gathered.told)) → OnOk result (o2.gathered.made ≡ []) → Closes s g commits o h h1 result
  closes_by commits o o1 o2 h h1 (Err stop) standing made told within hands done logged = record {
    told = λ _. tt;
    log = λ _. tt;
    front = λ tells. subst (WritesPrefix (g.written h) (g.written h1)) told (hands.front tells);
    moments = λ honest least before tell. subst (λ (ts : List (List ℕ)). Since (IsHeld least (texts_in (g.files h) ++ ts) before) (g.history h) (g.history h1)) (append-nil o1.gathered.made ∙ made)
        (hands.moments honest least before (with_last commits o o1 h standing made told within least before tell) []);
    ends = hands.ends;
  }
  closes_by commits o o1 o2 h h1 (Ok x) standing made told within hands done logged = record {
    told = λ tells. done tells ∙ ap (λ (l : List ℕ). g.written h ++ l) told;
    log = λ honest.
        let after : Told s g h1 = record { tells = honest.tells; honest = subst IsHonest (sym hands.ends.uses.all.standing) honest.honest } in
        let all : texts_in (g.files h1) ≡ texts_in (g.files h) ++ o.gathered.made = sym (ap (λ (ts : List (List ℕ)). texts_in (g.files h1) ++ ts) logged ∙ append-nil (texts_in (g.files h1))) ∙ hands.made honest ∙ ap (λ (ts : List (List ℕ)). texts_in (g.files h) ++ ts) made in
        subst (λ (ts : List (List ℕ)). IsWholeLog 1 ts (g.files h1).log) all
        (subst (λ (n : ℕ). IsWholeLog n (texts_in (g.files h1)) (g.files h1).log) hands.serving.epoch (whole_log (g.history h1) (g.files h1) o2.log (hands.serving.log after)));
    front = λ tells. subst (WritesPrefix (g.written h) (g.written h1)) told (hands.front tells);
    moments = λ honest least before tell. subst (λ (ts : List (List ℕ)). Since (IsHeld least (texts_in (g.files h) ++ ts) before) (g.history h) (g.history h1)) (append-nil o1.gathered.made ∙ made)
        (hands.moments honest least before (with_last commits o o1 h standing made told within least before tell) []);
    ends = hands.ends;
  }
