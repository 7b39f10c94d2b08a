-- What goes out, put together from its parts.
use Rattle.std.proofs.Common.{◌≡◌, ℕ, ◌+◌, ◌≤◌, List, [], ◌++◌, length, take, drop, Result, Ok, Err, OnOk, inl, inr, refl, sym, ap, subst, ◌∙◌, arith, append_assoc, append-nil, length-append}
use Rattle.std.proofs.lemmas.List.{take-append-drop}
use Rattle.hs_host.specs.declared.file_kind.FileKind.TheVariants.{Log}
use Rattle.hs_host.specs.declared.source.Source as source
use Rattle.hs_host.specs.declared.host.Host as host
use Rattle.hs_host.specs.Files.{Five, IsHonest, IsOpen}
use Rattle.hs_host.specs.Moments.{Moment, Since}
use Rattle.hs_host.specs.Host.{Rose}
use Rattle.hs_host.specs.Used.{Told, UsesInput, UsesOutput, Moves}
use Rattle.hs_host.proofs.Passing.{read_disks, since_none, since_now, since_join, since_weaker}
use Rattle.hs_host.proofs.Used.{told_on}
use Rattle.hs_log.specs.declared.log.Log.{Log as Kept}
use Rattle.hs_log.specs.Log.{IsLog, epoch_in}
use Rattle.hs_log.proofs.Logs.{log_on as log_stays}
use Rattle.hs_run.specs.declared.outgoing.Outgoing.{Outgoing}
use Rattle.hs_run.specs.declared.stop.Stop.{Stop}
use Rattle.hs_run.specs.declared.stop.Stop.TheVariants.{Input, NoMemory}
use Rattle.hs_run.specs.Crash.{IsHeld, texts_in}
use Rattle.hs_run.specs.Holding.{IsGathered, IsHandedOver, WritesPrefix}
use Rattle.hs_run.specs.Outgoing.{HandsOn, IsLogging, IsServing, IsTelling, failing}
use Rattle.hs_run.specs.Stop.{NoFaults, RunStops}
use Rattle.hs_run.specs.Used.{HandsOver}
use Rattle.hs_run.proofs.Holding.{gathered_on, handed_nothing, handed_reading, held_logged, held_telling, log_handed}
use Rattle.hs_run.proofs.Prefixes.{front_after, front_on, nothing_yet}
use Rattle.hs_run.proofs.Stops.{any_ok, ok_weaker}
use Rattle.hs_run.proofs.Used.{disk_log, hands_turns, input_log, log_on, output_log, told_on_log, turns_none, turns_on}

module _ {H : Type 0} (s : source.Ghosts H) (g : host.Ghosts H) where
  -- where only the input was used, what goes out stands as before
  pub serving_read : (o : Outgoing) (h h1 : H) → IsServing s g o h → UsesInput s g h h1 → IsServing s g o h1
  serving_read o h h1 serving input = record {
    opened = subst IsOpen (sym input.standing) serving.opened;
    epoch = serving.epoch;
    log = λ told. log_stays (g.history h) (g.history h1) (g.files h) (g.files h1) o.log (read_disks (input.moments told.tells)) input.files (serving.log (record { tells = told.tells; honest = subst IsHonest input.standing told.honest }));
    within = serving.within;
  }

  telling_read : (o : Outgoing) (h h1 : H) → UsesInput s g h h1 → (least : ℕ) (before : List ℕ) → IsTelling least before g o h → IsTelling least before g o h1
  telling_read o h h1 input least before tell =
      let texts : length (texts_in (g.files h)) ≡ length (texts_in (g.files h1)) = ap (λ (f : Five (List ℕ)). length (texts_in f)) (sym input.files) in
      record {
        enough = omega (arith, tell.enough, texts);
        stands = subst (λ (w : List ℕ). IsGathered before w (take o.standing o.gathered.told) (length (texts_in (g.files h1)))) (sym input.written)
            (subst (IsGathered before (g.written h) (take o.standing o.gathered.told)) texts tell.stands);
        gathered = subst (λ (w : List ℕ). IsGathered before w o.gathered.told (length (texts_in (g.files h1)) + length o.gathered.made)) (sym input.written)
            (subst (IsGathered before (g.written h) o.gathered.told) (ap (λ (n : ℕ). n + length o.gathered.made) texts) tell.gathered);
      }

  pub held_reading : (o : Outgoing) (h h1 : H) → IsServing s g o h → (s.tells → (g.history h).now.out ≡ g.written h) → UsesInput s g h h1 → Told s g h → (least : ℕ) (before : List ℕ) → IsTelling least before g o h → (rest : List (List ℕ))
      → Since (IsHeld least (texts_in (g.files h) ++ (o.gathered.made ++ rest)) before) (g.history h) (g.history h1)
  held_reading o h h1 serving out input told least before tell rest =
      let part = take o.standing o.gathered.told in
      let now = subst (λ (w : List ℕ). IsGathered before w part (length (texts_in (g.files h)))) (sym (out told.tells)) tell.stands in
      since_weaker (input.moments told.tells)
      (λ m reading. held_telling (g.files h) (g.history h) o.log (serving.log told) serving.epoch least before tell.enough part (o.gathered.made ++ rest) m now (handed_reading (g.history h).now m part reading))

  -- nothing goes out
  pub hands_none : (o : Outgoing) (h : H) → IsServing s g o h → HandsOn {R = Unit {0}} s g o h o h (Ok tt)
  hands_none o h serving = record {
    serving = serving;
    told = λ _. refl;
    made = λ _. refl;
    telling = λ _ least before tell. tell;
    front = λ _. nothing_yet (g.written h) o.gathered.told;
    moments = λ _ least before tell rest. since_none _ (g.history h);
    ends = turns_none h tt;
  }

  -- a run that ends for want of memory, where all went out
  pub hands_wanting : (o o1 : Outgoing) (h h1 : H) → HandsOn {R = Unit {0}} s g o h o1 h1 (Ok tt) → HandsOn s g o h o1 h1 (failing NoMemory)
  hands_wanting o o1 h h1 all = record {
    serving = tt;
    told = λ _. tt;
    made = λ _. tt;
    telling = λ _ least before tell. tt;
    front = all.front;
    moments = all.moments;
    ends = record { uses = all.ends.uses; calm = tt; stops = all.ends.calm };
  }

  -- commits are logged, and then output is handed over
  module _ (o : Outgoing) (h h1 h2 : H) (serving : IsServing s g o h) (out : s.tells → (g.history h).now.out ≡ g.written h) (out1 : s.tells → (g.history h1).now.out ≡ g.written h1) (moves : Moves s g Log (IsLogging (g.history h).now (texts_in (g.files h)) o.gathered.made) h h1) where
    still : Told s g h → Told s g h1
    still told = told_on moves.uses told

    -- while they are logged
    logging : Told s g h → (least : ℕ) (before : List ℕ) → IsTelling least before g o h → (rest : List (List ℕ)) → Since (IsHeld least (texts_in (g.files h) ++ (o.gathered.made ++ rest)) before) (g.history h) (g.history h1)
    logging told least before tell rest =
        let part = take o.standing o.gathered.told in
        let all = subst (λ (w : List ℕ). IsGathered before w part (length (texts_in (g.files h)))) (sym (out told.tells)) tell.stands in
        since_weaker (moves.moments told)
        (λ m l. held_logged (g.files h) (g.history h) o.log (serving.log told) serving.epoch least before tell.enough part o.gathered.made rest m m all l (handed_nothing m part))

    -- a part of what is gathered is a front of it
    front_of : (new : List ℕ) → WritesPrefix (g.written h1) new (take o.standing o.gathered.told) → WritesPrefix (g.written h) new o.gathered.told
    front_of new front =
        front_on (g.written h) (g.written h1) new (take o.standing o.gathered.told) (drop o.standing o.gathered.told) o.gathered.told
        (ap (λ (w : List ℕ). w ++ (take o.standing o.gathered.told ++ drop o.standing o.gathered.told)) moves.uses.written ∙ ap (λ (l : List ℕ). g.written h ++ l) (take-append-drop o.standing o.gathered.told))
        (omega (arith, ap length moves.uses.written)) front

    -- they can't be logged, and what stands is handed over
    pub hands_standing : (o2 : Outgoing) (stop : Stop) → (s.tells → WritesPrefix (g.written h1) (g.written h2) (take o.standing o.gathered.told))
        → (s.tells → Since (IsHandedOver (g.history h1).now (take o.standing o.gathered.told)) (g.history h1) (g.history h2)) → UsesOutput s g h1 h2 → RunStops s g h h2 stop → HandsOn s g o h o2 h2 (failing stop)
    hands_standing o2 stop front handed uses stops = record {
      serving = tt;
      told = λ _. tt;
      made = λ _. tt;
      telling = λ _ least before tell. tt;
      front = λ tells. front_of (g.written h2) (front tells);
      moments = λ told least before tell rest.
          let part = take o.standing o.gathered.told in
          let all = subst (λ (w : List ℕ). IsGathered before w part (length (texts_in (g.files h)))) (sym (out told.tells)) tell.stands in
          since_join (logging told least before tell rest)
          (since_weaker (handed told.tells) (λ m t. elim (since_now (moves.moments told)) [
            | inl same ↦ held_telling (g.files h) (g.history h) o.log (serving.log told) serving.epoch least before tell.enough part (o.gathered.made ++ rest) m all (subst (λ (x : Moment). IsHandedOver x part m) same t)
            | inr l ↦ held_logged (g.files h) (g.history h) o.log (serving.log told) serving.epoch least before tell.enough part o.gathered.made rest (g.history h1).now m all l t
          ]));
      ends = record { uses = log_on (disk_log moves) (output_log uses handed); calm = tt; stops = stops };
    }

    -- they are logged, and what was told is handed over, or a part of it
    module _ (log : Kept) (epoch : epoch_in log ≡ 1) (kept : Told s g h → IsLog (g.history h1) (g.files h1) log) (texts : Told s g h → texts_in (g.files h1) ≡ texts_in (g.files h) ++ o.gathered.made) (calm : NoFaults s g h h1) (result : Result (Unit {0}) Stop) (ends : HandsOver s g h1 h2 result) (handed : s.tells → Since (IsHandedOver (g.history h1).now o.gathered.told) (g.history h1) (g.history h2)) (front : s.tells → WritesPrefix (g.written h1) (g.written h2) o.gathered.told) (done : s.tells → OnOk result (g.written h2 ≡ g.written h1 ++ o.gathered.told)) where
      count : Told s g h → length (texts_in (g.files h1)) ≡ length (texts_in (g.files h)) + length o.gathered.made
      count told = ap length (texts told) ∙ length-append (texts_in (g.files h)) o.gathered.made

      all_at : Told s g h → (least : ℕ) (before : List ℕ) → IsTelling least before g o h → IsGathered before (g.written h1) o.gathered.told (length (texts_in (g.files h1)))
      all_at told least before tell =
          subst (λ (w : List ℕ). IsGathered before w o.gathered.told (length (texts_in (g.files h1)))) (sym moves.uses.written)
          (subst (IsGathered before (g.written h) o.gathered.told) (sym (count told)) tell.gathered)

      left_at : Told s g h → (least : ℕ) (before : List ℕ) → IsTelling least before g o h → g.written h2 ≡ g.written h1 ++ o.gathered.told → (gathered : List ℕ) → gathered ≡ []
          → IsGathered before (g.written h2) gathered (length (texts_in (g.files h2)))
      left_at told least before tell all gathered none =
          subst (IsGathered before (g.written h2) gathered) (ap (λ (f : Five (List ℕ)). length (texts_in f)) (sym ends.uses.files))
          (gathered_on before (g.written h1) (g.written h2) o.gathered.told gathered (length (texts_in (g.files h1)))
          (ap (λ (l : List ℕ). g.written h2 ++ l) none ∙ append-nil (g.written h2) ∙ all) (front told.tells).grown (all_at told least before tell))

      pub hands_all : (o2 : Outgoing) → o2.log ≡ log → o2.standing ≡ 0 → o2.gathered.told ≡ [] → o2.gathered.made ≡ [] → HandsOn s g o h o2 h2 result
      hands_all o2 log_is none_stands none_told none_made = record {
        serving = any_ok result (record {
          opened = subst IsOpen (sym (ends.uses.standing ∙ moves.uses.standing)) serving.opened;
          epoch = ap epoch_in log_is ∙ epoch;
          log = λ told.
              let before : Told s g h = record { tells = told.tells; honest = subst IsHonest (ends.uses.standing ∙ moves.uses.standing) told.honest } in
              subst (IsLog (g.history h2) (g.files h2)) (sym log_is) (log_handed (g.files h1) (g.files h2) log (handed told.tells) ends.uses.files (kept before));
          within = omega (arith, none_stands);
        });
        told = λ tells. ok_weaker result (λ all. ap (λ (l : List ℕ). g.written h2 ++ l) none_told ∙ append-nil (g.written h2) ∙ all ∙ ap (λ (w : List ℕ). w ++ o.gathered.told) moves.uses.written) (done tells);
        made = λ told. any_ok result (ap (λ (l : List (List ℕ)). texts_in (g.files h2) ++ l) none_made ∙ append-nil (texts_in (g.files h2)) ∙ ap texts_in ends.uses.files ∙ texts told);
        telling = λ told least before tell. ok_weaker result (λ all. record {
          enough = omega (arith, tell.enough, count told, ap (λ (f : Five (List ℕ)). length (texts_in f)) ends.uses.files);
          stands = left_at told least before tell all (take o2.standing o2.gathered.told) (ap (take o2.standing) none_told ∙ ap (λ (k : ℕ). take k []) none_stands);
          gathered = subst (IsGathered before (g.written h2) o2.gathered.told) (omega (arith, ap length none_made)) (left_at told least before tell all o2.gathered.told none_told);
        }) (done told.tells);
        front = λ tells. subst (λ (w : List ℕ). WritesPrefix w (g.written h2) o.gathered.told) moves.uses.written (front tells);
        moments = λ told least before tell rest.
            let whole : texts_in (g.files h1) ++ rest ≡ texts_in (g.files h) ++ (o.gathered.made ++ rest) = ap (λ (ts : List (List ℕ)). ts ++ rest) (texts told) ∙ append_assoc (texts_in (g.files h)) o.gathered.made rest in
            let all = subst (λ (w : List ℕ). IsGathered before w o.gathered.told (length (texts_in (g.files h1)))) (sym (out1 told.tells)) (all_at told least before tell) in
            since_join (logging told least before tell rest)
            (since_weaker (handed told.tells) (λ m t. subst (λ (ts : List (List ℕ)). IsHeld least ts before m) whole
            (held_telling (g.files h1) (g.history h1) log (kept told) epoch least before (omega (arith, tell.enough, count told)) o.gathered.told rest m all t)));
        ends = hands_turns result (disk_log moves) calm ends handed;
      }

  -- only the input was used
  pub hands_reading : (o : Outgoing) (h h1 : H) → IsServing s g o h → (s.tells → (g.history h).now.out ≡ g.written h) → UsesInput s g h h1 → s.input_faults h ≤ s.input_faults h1 → NoFaults s g h h1 → HandsOn {R = Unit {0}} s g o h o h1 (Ok tt)
  hands_reading o h h1 serving out input later calm = record {
    serving = serving_read o h h1 serving input;
    told = λ _. ap (λ (w : List ℕ). w ++ o.gathered.told) input.written;
    made = λ _. ap (λ (f : Five (List ℕ)). texts_in f ++ o.gathered.made) input.files;
    telling = λ told least before tell. telling_read o h h1 input least before tell;
    front = λ _. subst (λ (w : List ℕ). WritesPrefix (g.written h) w o.gathered.told) (sym input.written) (nothing_yet (g.written h) o.gathered.told);
    moments = λ told least before tell rest. held_reading o h h1 serving out input told least before tell rest;
    ends = record { uses = input_log input later; calm = calm; stops = tt };
  }

  -- and the input failed
  pub hands_fault : {R : Type 0} (o : Outgoing) (h h1 : H) → IsServing s g o h → (s.tells → (g.history h).now.out ≡ g.written h) → UsesInput s g h h1 → s.input_faults h ≤ s.input_faults h1 → Rose (s.input_faults h) (s.input_faults h1) → HandsOn {R = R} s g o h o h1 (Err Input)
  hands_fault {R} o h h1 serving out input later rose = record {
    serving = tt;
    told = λ _. tt;
    made = λ _. tt;
    telling = λ _ least before tell. tt;
    front = λ _. subst (λ (w : List ℕ). WritesPrefix (g.written h) w o.gathered.told) (sym input.written) (nothing_yet (g.written h) o.gathered.told);
    moments = λ told least before tell rest. held_reading o h h1 serving out input told least before tell rest;
    ends = record { uses = input_log input later; calm = tt; stops = rose };
  }

  -- one behind the other
  pub hands_on : {R S : Type 0} (o o1 o2 : Outgoing) (h h1 h2 : H) (x : S) (result : Result R Stop) → HandsOn {R = S} s g o h o1 h1 (Ok x) → HandsOn s g o1 h1 o2 h2 result → HandsOn s g o h o2 h2 result
  hands_on {R} {S} o o1 o2 h h1 h2 x result ab bc =
      let still : Told s g h → Told s g h1 = told_on_log ab.ends.uses in
      record {
        serving = bc.serving;
        told = λ tells. ok_weaker result (λ is. is ∙ ab.told tells) (bc.told tells);
        made = λ told. ok_weaker result (λ is. is ∙ ab.made told) (bc.made (still told));
        telling = λ told least before tell. bc.telling (still told) least before (ab.telling told least before tell);
        front = λ tells. front_after (g.written h) (g.written h1) (g.written h2) o1.gathered.told o.gathered.told (ab.told tells) (ab.front tells).grown (bc.front tells);
        moments = λ told least before tell rest.
            let whole : texts_in (g.files h1) ++ (o1.gathered.made ++ rest) ≡ texts_in (g.files h) ++ (o.gathered.made ++ rest) =
            sym (append_assoc (texts_in (g.files h1)) o1.gathered.made rest) ∙ ap (λ (ts : List (List ℕ)). ts ++ rest) (ab.made told) ∙ append_assoc (texts_in (g.files h)) o.gathered.made rest in
            since_join (ab.moments told least before tell rest)
            (subst (λ (ts : List (List ℕ)). Since (IsHeld least ts before) (g.history h1) (g.history h2)) whole (bc.moments (still told) least before (ab.telling told least before tell) rest));
        ends = turns_on result ab.ends.uses ab.ends.calm bc.ends;
      }
