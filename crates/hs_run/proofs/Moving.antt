-- How a run goes on, part after part.
use Rattle.std.proofs.Common.{◌≡◌, ℕ, ◌+◌, ◌≤◌, List, [], ◌∷◌, ◌++◌, length, take, Result, Ok, Err, refl, sym, ap, subst, ◌∙◌, arith, append_assoc, length-append}
use Rattle.std.specs.Result.{IsErrAnd}
use Rattle.std.proofs.lemmas.List.{take-append-le, take_all}
use Rattle.hs_host.specs.declared.source.Source as source
use Rattle.hs_host.specs.declared.host.Host as host
use Rattle.hs_host.specs.Files.{Five, IsHonest, IsOpen}
use Rattle.hs_host.specs.Moments.{Moment, Since}
use Rattle.hs_host.specs.Used.{Told, UsesInput}
use Rattle.hs_host.proofs.Passing.{since_none, since_join, since_weaker, read_disks}
use Rattle.hs_log.specs.Log.{IsLog, epoch_in}
use Rattle.hs_log.proofs.Logs.{log_on as log_stays}
use Rattle.hs_entries.specs.Left.{KeepsRoom, Left}
use Rattle.hs_entries.specs.Left.{whole_of}
use Rattle.hs_entries.specs.Reader.{ahead as reader_ahead, has_ended, left as input_left, left_items, left_over, left_whole, next_number, room}
use Rattle.hs_machine.specs.Acknowledged.{AcknowledgesLines}
use Rattle.hs_run.specs.declared.outgoing.Outgoing.{Outgoing}
use Rattle.hs_run.specs.declared.running.Running.{Running}
use Rattle.hs_run.specs.declared.stop.Stop.{Stop}
use Rattle.hs_run.specs.declared.turns.Turns as turns
use Rattle.hs_run.specs.Crash.{IsHeld, texts_in}
use Rattle.hs_run.specs.Holding.{IsGathered, WritesPrefix}
use Rattle.hs_run.specs.Outgoing.{HandsOn, IsServing, IsTelling, failing, standing_with}
use Rattle.hs_run.specs.Pieces.{AreTrue, Gives, Piece, told_by, made_by}
use Rattle.hs_run.specs.Future.{Counts, Future}
use Rattle.hs_run.specs.declared.gathered.Gathered.{Gathered}
use Rattle.hs_run.specs.Prompt.{AsksNothing, Due, IsOnTime}
use Rattle.hs_run.specs.Running.{EndsWithin, Follows, GoesOn, HasNext, IsDue, IsSane, IsTooLong, MovesOn, ahead, ahead_within, pieces}
use Rattle.hs_run.specs.Stop.{NoFaults, RunStops}
use Rattle.hs_run.proofs.Holding.{handed_reading, held_telling}
use Rattle.hs_run.proofs.Lines.{append_tells}
use Rattle.hs_run.proofs.Prefixes.{front_after, front_behind, nothing_yet}
use Rattle.hs_run.proofs.Prompt.{unasked_prompt, unasked_taken}
use Rattle.hs_run.proofs.Stops.{not_ok, ok_weaker, stopped_by}
use Rattle.hs_run.proofs.Used.{input_log, told_on_log, turns_none, turns_on}

-- what is written and gathered goes on in front of what is left
behind : {A : Type 0} (w0 g0 w1 g1 rest : List A) → w1 ++ g1 ≡ w0 ++ g0 → w1 ++ (g1 ++ rest) ≡ w0 ++ (g0 ++ rest)
behind {A} w0 g0 w1 g1 rest is = sym (append_assoc w1 g1 rest) ∙ ap (λ (l : List A). l ++ rest) is ∙ append_assoc w0 g0 rest

module _ {T H : Type 0} (t : turns.Ghosts T) (s : source.Ghosts H) (g : host.Ghosts H) where
  abbrev pub done : {R : Type 0} → R → Result R Stop
  done x = Ok x

  -- ---- what is due

  -- in a part of a run input is asked for when that is written and logged
  abbrev pub Prompts : Running T → H → H → Type 0
  Prompts a h0 h1 = (f : Future) → IsSane t s g f a h0 → Told s g h0 → (due : Due) (start : Moment) → IsDue g due start f a h0 → Since (IsOnTime due start) (g.history h0) (g.history h1)

  pub prompts_silent : (a : Running T) (h0 h1 : H) → AsksNothing s g h0 h1 → Prompts a h0 h1
  prompts_silent a h0 h1 silent f sane told due start is_due = unasked_prompt due start (silent told)

  pub prompts_then : (a : Running T) (h0 h1 h2 : H) → (Told s g h0 → Told s g h1) → Prompts a h0 h1 → AsksNothing s g h1 h2 → Prompts a h0 h2
  prompts_then a h0 h1 h2 still first silent f sane told due start is_due = since_join (first f sane told due start is_due) (unasked_prompt due start (silent (still told)))

  -- what is gathered goes out
  pub record KeepsAll (a b : Running T) (h0 h1 : H) : Type 0 where
    pub told : g.written h1 ++ b.outgoing.gathered.told ≡ g.written h0 ++ a.outgoing.gathered.told
    pub made : texts_in (g.files h1) ++ b.outgoing.gathered.made ≡ texts_in (g.files h0) ++ a.outgoing.gathered.made

  -- and the reader has the same before it
  pub due_handing : (f : Future) (a b : Running T) (h0 h1 : H) → reader_ahead b.reader ≡ reader_ahead a.reader → room b.reader ≡ room a.reader → next_number b.reader ≡ next_number a.reader → has_ended b.reader ≡ has_ended a.reader
      → (g.history h1).now.taken ≡ (g.history h0).now.taken → KeepsAll a b h0 h1 → (due : Due) (start : Moment) → IsDue g due start f a h0 → IsDue g due start f b h1
  due_handing f a b h0 h1 ahead_is room_is number ended taken keeps due start is_due =
      let same : (rest : List ℕ) → left_over b.reader rest ≡ left_over a.reader rest = λ rest. rw (ahead_is, room_is, number) refl in
      let fits : (rest : List ℕ) → length (reader_ahead b.reader ++ rest) ≤ room b.reader → length (reader_ahead a.reader ++ rest) ≤ room a.reader =
      λ rest within. omega (arith, within, room_is, ap (λ (l : List ℕ). length (l ++ rest)) ahead_is) in
      record {
        given = is_due.given;
        taken = taken ∙ is_due.taken;
        told = λ on rest within.
            ap (λ (l : Left). g.written h1 ++ (b.outgoing.gathered.told ++ told_by (f.taken (whole_of l)))) (same rest)
            ∙ behind (g.written h0) a.outgoing.gathered.told (g.written h1) b.outgoing.gathered.told (told_by (f.taken (whole_of (left_over a.reader rest)))) keeps.told
            ∙ is_due.told (sym ended ∙ on) rest (fits rest within);
        made = λ on rest within.
            ap (λ (l : Left). texts_in (g.files h1) ++ (b.outgoing.gathered.made ++ made_by (f.taken (whole_of l)))) (same rest)
            ∙ behind (texts_in (g.files h0)) a.outgoing.gathered.made (texts_in (g.files h1)) b.outgoing.gathered.made (made_by (f.taken (whole_of (left_over a.reader rest)))) keeps.made
            ∙ is_due.made (sym ended ∙ on) rest (fits rest within);
      }

  -- a piece is gathered
  pub told_gives : (w : List ℕ) (old new : Gathered) (before after : List Piece) → Gives before after old new → w ++ (new.told ++ told_by after) ≡ w ++ (old.told ++ told_by before)
  told_gives w old new before after gives =
      ap (λ (l : List ℕ). w ++ l) (ap (λ (l : List ℕ). l ++ told_by after) gives.told ∙ append_assoc old.told gives.piece.told (told_by after) ∙ ap (λ (l : List ℕ). old.told ++ l) (sym (ap told_by gives.is)))

  pub made_gives : (ts : List (List ℕ)) (old new : Gathered) (before after : List Piece) → Gives before after old new → ts ++ (new.made ++ made_by after) ≡ ts ++ (old.made ++ made_by before)
  made_gives ts old new before after gives =
      ap (λ (l : List (List ℕ)). ts ++ l) (ap (λ (l : List (List ℕ)). l ++ made_by after) gives.made ∙ append_assoc old.made gives.piece.made (made_by after) ∙ ap (λ (l : List (List ℕ)). old.made ++ l) (sym (ap made_by gives.is)))

  -- ---- parts

  -- nothing is done
  pub moves_none : {R : Type 0} (r : Running T) (h : H) (x : R) → MovesOn t s g r h r h (done x)
  moves_none {R} r h x = λ f sane. record {
    next = record { future = f; sane = sane; goes_on = record { told = λ _. refl; within = λ _ _. refl; made = λ _. refl; commits = λ _. refl; count = λ _. omega arith; due = λ _ due start is_due. is_due } };
    telling = λ _ least before tell. tell;
    front = λ _. nothing_yet (g.written h) _;
    moments = λ _ least before tell. since_none _ (g.history h);
    prompt = λ _ due start is_due. since_none _ (g.history h);
    ends = turns_none h x;
  }

  goes_further : (f0 f1 f2 : Future) (a b c : Running T) (h0 h1 h2 : H) → (Told s g h0 → Told s g h1) → GoesOn s g f0 a h0 f1 b h1 → GoesOn s g f1 b h1 f2 c h2 → GoesOn s g f0 a h0 f2 c h2
  goes_further f0 f1 f2 a b c h0 h1 h2 still ab bc = record {
    told = λ tells. bc.told tells ∙ ab.told tells;
    within = λ tells more. let later : IsTooLong b (s.unread h1) = omega (arith, more, ab.count tells) in bc.within tells later ∙ ab.within tells more;
    made = λ told. bc.made (still told) ∙ ab.made told;
    commits = λ tells. bc.commits tells ∙ ab.commits tells;
    count = λ tells. omega (arith, ab.count tells, bc.count tells);
    due = λ told due start is_due. bc.due (still told) due start (ab.due told due start is_due);
  }

  next_on : (f : Future) (a b c : Running T) (h0 h1 h2 : H) → (Told s g h0 → Told s g h1) → (ab : HasNext t s g f a h0 b h1) → HasNext t s g ab.future b h1 c h2 → HasNext t s g f a h0 c h2
  next_on f a b c h0 h1 h2 still ab bc = record { future = bc.future; sane = bc.sane; goes_on = goes_further f ab.future bc.future a b c h0 h1 h2 still ab.goes_on bc.goes_on }

  -- one part behind another that didn't stop
  pub moves_on : {R S : Type 0} (a b c : Running T) (h0 h1 h2 : H) (x : S) (result : Result R Stop) → MovesOn t s g a h0 b h1 (done x) → MovesOn t s g b h1 c h2 result → MovesOn t s g a h0 c h2 result
  moves_on {R} {S} a b c h0 h1 h2 x result first then = λ f sane.
      let ab = first f sane in
      let bc = then ab.next.future ab.next.sane in
      record {
        next = ok_weaker result (next_on f a b c h0 h1 h2 (told_on_log ab.ends.uses) ab.next) bc.next;
        telling = λ told least before tell. bc.telling (told_on_log ab.ends.uses told) least before (ab.telling told least before tell);
        front = λ tells. front_after (g.written h0) (g.written h1) (g.written h2) _ _ (ab.next.goes_on.told tells) (ab.front tells).grown (bc.front tells);
        moments = λ told least before tell.
            since_join (ab.moments told least before tell)
            (subst (λ (ts : List (List ℕ)). Since (IsHeld least ts before) (g.history h1) (g.history h2)) (ab.next.goes_on.made told) (bc.moments (told_on_log ab.ends.uses told) least before (ab.telling told least before tell)));
        prompt = λ told due start is_due. since_join (ab.prompt told due start is_due) (bc.prompt (told_on_log ab.ends.uses told) due start (ab.next.goes_on.due told due start is_due));
        ends = turns_on result ab.ends.uses ab.ends.calm bc.ends;
      }

  -- the input is too long behind a part that didn't stop
  pub ends_on : {S : Type 0} (a b : Running T) (h0 h1 h2 : H) (x : S) → s.tells → MovesOn t s g a h0 b h1 (done x) → EndsWithin t s g b h1 h2 → EndsWithin t s g a h0 h2
  ends_on {S} a b h0 h1 h2 x tells first then = λ f sane.
      let ab = (first f sane).next in
      let long = then ab.future ab.sane in
      let more : IsTooLong a (s.unread h0) = omega (arith, long.0, ab.goes_on.count tells) in
      (more, long.1 ∙ ab.goes_on.within tells more)

  -- an error that is handed on
  pub moves_failing : {R S : Type 0} (a b : Running T) (h0 h1 : H) (stop : Stop) (result : Result R Stop) → IsErrAnd result (λ e. e ≡ stop) → MovesOn {R = S} t s g a h0 b h1 (Err stop) → MovesOn t s g a h0 b h1 result
  moves_failing a b h0 h1 stop result is moves = λ f sane.
      let ab = moves f sane in
      record {
        next = not_ok _ result stop is;
        telling = λ told least before tell. not_ok _ result stop is;
        front = ab.front;
        moments = ab.moments;
        prompt = ab.prompt;
        ends = record { uses = ab.ends.uses; calm = not_ok _ result stop is; stops = stopped_by (RunStops s g h0 h1) result stop is ab.ends.stops };
      }

  -- with another answer
  pub moves_over : {R S : Type 0} (a b : Running T) (h0 h1 : H) (x : S) (y : R) → MovesOn t s g a h0 b h1 (done x) → MovesOn t s g a h0 b h1 (done y)
  moves_over a b h0 h1 x y moves = λ f sane.
      let ab = moves f sane in
      record {
        next = ab.next;
        telling = ab.telling;
        front = ab.front;
        moments = ab.moments;
        prompt = ab.prompt;
        ends = record { uses = ab.ends.uses; calm = ab.ends.calm; stops = tt };
      }

  -- commits that are counted stay counted where what is gathered goes out
  counted_on : (old new : List (List ℕ)) (made left : List (List ℕ)) (commits : ℕ) → commits ≡ length old + length made → new ++ left ≡ old ++ made → commits ≡ length new + length left
  counted_on old new made left commits counted is = omega (arith, counted, ap length is, length-append new left, length-append old made)

  -- what is gathered goes out, where the same items are left
  pub moves_with : {R : Type 0} (a b : Running T) (h0 h1 : H) (result : Result R Stop) → b.turns ≡ a.turns → (s.tells → left_items b.reader (s.unread h1) ≡ left_items a.reader (s.unread h0))
      → (s.tells → IsTooLong a (s.unread h0) → left_whole b.reader (s.unread h1) ≡ left_whole a.reader (s.unread h0)) → (s.tells → KeepsRoom (input_left a.reader (s.unread h0)) (input_left b.reader (s.unread h1)))
      → HandsOn s g a.outgoing h0 b.outgoing h1 result → Prompts a h0 h1
      → (Told s g h0 → KeepsAll a b h0 h1 → (f : Future) (due : Due) (start : Moment) → IsDue g due start f a h0 → IsDue g due start f b h1)
      → MovesOn t s g a h0 b h1 result
  moves_with {R} a b h0 h1 (Err e) turns same_items same_whole count hands prompts due_on = λ f sane. record {
    next = tt;
    telling = hands.telling;
    front = λ tells. front_behind (g.written h0) (g.written h1) a.outgoing.gathered.told (told_by (ahead f a (s.unread h0))) (hands.front tells);
    moments = λ told least before tell. hands.moments told least before tell (made_by (ahead f a (s.unread h0)));
    prompt = prompts f sane;
    ends = hands.ends;
  }
  moves_with {R} a b h0 h1 (Ok x) turns same_items same_whole count hands prompts due_on = λ f sane.
      let items : s.tells → ahead f b (s.unread h1) ≡ ahead f a (s.unread h0) = λ tells. ap (pieces f) (same_items tells) in
      let whole : s.tells → IsTooLong a (s.unread h0) → ahead_within f b (s.unread h1) ≡ ahead_within f a (s.unread h0) = λ tells more. ap f.taken (same_whole tells more) in
      record {
        next = record {
          future = f;
          sane = record {
            at = subst (λ (y : T). t.has_ahead y f) (sym turns) sane.at;
            serving = hands.serving;
            is_true = λ tells. subst (AreTrue f.commits) (sym (items tells)) (sane.is_true tells);
            counted = λ told.
                let before : Told s g h0 = record { tells = told.tells; honest = subst IsHonest hands.ends.uses.all.standing told.honest } in
                counted_on (texts_in (g.files h0)) (texts_in (g.files h1)) a.outgoing.gathered.made b.outgoing.gathered.made f.commits (sane.counted before) (hands.made before);
          };
          goes_on = record {
            told = λ tells. ap (λ (p : List Piece). g.written h1 ++ (b.outgoing.gathered.told ++ told_by p)) (items tells) ∙ behind (g.written h0) a.outgoing.gathered.told (g.written h1) b.outgoing.gathered.told (told_by (ahead f a (s.unread h0))) (hands.told tells);
            within = λ tells more. ap (λ (p : List Piece). g.written h1 ++ (b.outgoing.gathered.told ++ told_by p)) (whole tells more) ∙ behind (g.written h0) a.outgoing.gathered.told (g.written h1) b.outgoing.gathered.told (told_by (ahead_within f a (s.unread h0))) (hands.told tells);
            made = λ told. ap (λ (p : List Piece). texts_in (g.files h1) ++ (b.outgoing.gathered.made ++ made_by p)) (items told.tells) ∙ behind (texts_in (g.files h0)) a.outgoing.gathered.made (texts_in (g.files h1)) b.outgoing.gathered.made (made_by (ahead f a (s.unread h0))) (hands.made told);
            commits = λ tells. ap (λ (p : List Piece). f.commits + length (made_by p)) (items tells);
            count = count;
            due = λ told. due_on told (record { told = hands.told told.tells; made = hands.made told }) f;
          };
        };
        telling = hands.telling;
        front = λ tells. front_behind (g.written h0) (g.written h1) a.outgoing.gathered.told (told_by (ahead f a (s.unread h0))) (hands.front tells);
        moments = λ told least before tell. hands.moments told least before tell (made_by (ahead f a (s.unread h0)));
        prompt = prompts f sane;
        ends = hands.ends;
      }

  -- the same where the reader is as it was
  pub moves_handing : {R : Type 0} (a b : Running T) (h0 h1 : H) (result : Result R Stop) → b.reader ≡ a.reader → b.turns ≡ a.turns → s.unread h1 ≡ s.unread h0 → HandsOn s g a.outgoing h0 b.outgoing h1 result → AsksNothing s g h0 h1 → MovesOn t s g a h0 b h1 result
  moves_handing {R} a b h0 h1 result reader turns unread hands silent =
      moves_with a b h0 h1 result turns (λ _. rw (reader, unread) refl) (λ _ _. rw (reader, unread) refl)
      (λ _. let room : input_left b.reader (s.unread h1) ≡ input_left a.reader (s.unread h0) = rw (reader, unread) refl in omega (arith, ap (λ (l : Left). l.room) room, ap (λ (l : Left). length l.input) room)) hands
      (prompts_silent a h0 h1 silent)
      (λ told keeps f due start. due_handing f a b h0 h1 (ap reader_ahead reader) (ap room reader) (ap next_number reader) (ap has_ended reader) (unasked_taken (silent told)) keeps due start)

  -- a run ends for want of memory, whatever takes turns has become
  pub moves_wanting : {R : Type 0} (a b : Running T) (o o1 : Outgoing) (h0 h1 : H) (stop : Stop) → o ≡ a.outgoing → HandsOn s g o h0 o1 h1 (failing stop) → Prompts a h0 h1 → MovesOn {R = R} t s g a h0 b h1 (Err stop)
  moves_wanting {R} a b o o1 h0 h1 stop same hands prompts = λ f sane.
      let all : HandsOn s g a.outgoing h0 o1 h1 (failing stop) = subst (λ (x : Outgoing). HandsOn s g x h0 o1 h1 (failing stop)) same hands in
      record {
        next = tt;
        telling = λ _ least before tell. tt;
        front = λ tells. front_behind (g.written h0) (g.written h1) a.outgoing.gathered.told (told_by (ahead f a (s.unread h0))) (all.front tells);
        moments = λ told least before tell. all.moments told least before tell (made_by (ahead f a (s.unread h0)));
        prompt = prompts f sane;
        ends = record { uses = all.ends.uses; calm = tt; stops = all.ends.stops };
      }

  -- with one piece more what is gathered goes on as before
  on_told : (w g0 p rest all : List ℕ) → all ≡ p ++ rest → w ++ ((g0 ++ p) ++ rest) ≡ w ++ (g0 ++ all)
  on_told w g0 p rest all is = ap (λ (l : List ℕ). w ++ l) (append_assoc g0 p rest ∙ ap (λ (l : List ℕ). g0 ++ l) (sym is))

  on_made : (w g0 p rest all : List (List ℕ)) → all ≡ p ++ rest → w ++ ((g0 ++ p) ++ rest) ≡ w ++ (g0 ++ all)
  on_made w g0 p rest all is = ap (λ (l : List (List ℕ)). w ++ l) (append_assoc g0 p rest ∙ ap (λ (l : List (List ℕ)). g0 ++ l) (sym is))

  -- no more stands than there is
  pub marked_within : (made : List (List ℕ)) (all before : ℕ) → before ≤ all → standing_with made all before ≤ all
  marked_within [] all before within = omega arith
  marked_within (x ∷ made) all before within = within

  -- Only the input was used, and a piece was gathered.
  module _ (f next : Future) (a b : Running T) (h0 h1 : H) (sane : IsSane t s g f a h0) (at : t.has_ahead b.turns next) (input : UsesInput s g h0 h1) (later : s.input_faults h0 ≤ s.input_faults h1) (calm : NoFaults s g h0 h1) (out : s.tells → (g.history h0).now.out ≡ g.written h0) (log : b.outgoing.log ≡ a.outgoing.log) (marked : b.outgoing.standing ≡ standing_with b.outgoing.gathered.made (length b.outgoing.gathered.told) a.outgoing.standing) (grown : length a.outgoing.gathered.told ≤ length b.outgoing.gathered.told) (commits : Counts f next a.outgoing.gathered b.outgoing.gathered) (all : s.tells → Gives (ahead f a (s.unread h0)) (ahead next b (s.unread h1)) a.outgoing.gathered b.outgoing.gathered) (whole : s.tells → IsTooLong a (s.unread h0) → Gives (ahead_within f a (s.unread h0)) (ahead_within next b (s.unread h1)) a.outgoing.gathered b.outgoing.gathered) (count : s.tells → KeepsRoom (input_left a.reader (s.unread h0)) (input_left b.reader (s.unread h1))) (prompts : Prompts a h0 h1) (due_on : Told s g h0 → (due : Due) (start : Moment) → IsDue g due start f a h0 → IsDue g due start next b h1) where
    still : Told s g h1 → Told s g h0
    still told = record { tells = told.tells; honest = subst IsHonest input.standing told.honest }

    made_count : (tells : s.tells) → length b.outgoing.gathered.made ≡ length a.outgoing.gathered.made + length (all tells).piece.made
    made_count tells = ap length (all tells).made ∙ length-append a.outgoing.gathered.made (all tells).piece.made

    -- what is left begins with the piece
    parts : (tells : s.tells) → AcknowledgesLines (all tells).piece.told (f.commits + length (all tells).piece.made) × AreTrue (f.commits + length (all tells).piece.made) (ahead next b (s.unread h1))
    parts tells = subst (AreTrue f.commits) (all tells).is (sane.is_true tells)

    serving : IsServing s g b.outgoing h1
    serving = record {
      opened = subst IsOpen (sym input.standing) sane.serving.opened;
      epoch = ap epoch_in log ∙ sane.serving.epoch;
      log = λ told. subst (IsLog (g.history h1) (g.files h1)) (sym log) (log_stays (g.history h0) (g.history h1) (g.files h0) (g.files h1) a.outgoing.log (read_disks (input.moments told.tells)) input.files (sane.serving.log (still told)));
      within = subst (λ (n : ℕ). n ≤ length b.outgoing.gathered.told) (sym marked) (marked_within b.outgoing.gathered.made (length b.outgoing.gathered.told) a.outgoing.standing (omega (arith, grown, sane.serving.within)));
    }

    gathered : Told s g h0 → (least : ℕ) (before : List ℕ) → IsTelling least before g a.outgoing h0 → IsGathered before (g.written h1) b.outgoing.gathered.told (length (texts_in (g.files h1)) + length b.outgoing.gathered.made)
    gathered told least before tell =
        let p = (all told.tells).piece in
        let texts = ap (λ (f : Five (List ℕ)). length (texts_in f)) input.files in
        record {
          written = tell.gathered.written;
          is = input.written ∙ tell.gathered.is;
          begun = tell.gathered.begun;
          lines = subst (λ (l : List ℕ). AcknowledgesLines l (length (texts_in (g.files h1)) + length b.outgoing.gathered.made))
              (append_assoc tell.gathered.written a.outgoing.gathered.told p.told ∙ ap (λ (l : List ℕ). tell.gathered.written ++ l) (sym (all told.tells).told))
              (append_tells (tell.gathered.written ++ a.outgoing.gathered.told) p.told _ _ tell.gathered.lines
              (subst (AcknowledgesLines p.told) (omega (arith, texts, made_count told.tells, sane.counted told)) (parts told.tells).0)
              (omega (arith, texts, made_count told.tells)));
        }

    -- what stands is what stood, or all where no commit is to be logged
    stands : Told s g h0 → (least : ℕ) (before : List ℕ) → IsTelling least before g a.outgoing h0 → (made : List (List ℕ)) → made ≡ b.outgoing.gathered.made
        → IsGathered before (g.written h1) (take (standing_with made (length b.outgoing.gathered.told) a.outgoing.standing) b.outgoing.gathered.told) (length (texts_in (g.files h1)))
    stands told least before tell [] none =
        let now = gathered told least before tell in
        subst (λ (l : List ℕ). IsGathered before (g.written h1) l (length (texts_in (g.files h1)))) (sym (take_all (length b.outgoing.gathered.told) b.outgoing.gathered.told (omega arith)))
        (subst (IsGathered before (g.written h1) b.outgoing.gathered.told) (omega (arith, ap length none)) now)
    stands told least before tell (x ∷ made) some =
        subst (λ (l : List ℕ). IsGathered before (g.written h1) l (length (texts_in (g.files h1))))
        (sym (ap (take a.outgoing.standing) (all told.tells).told ∙ take-append-le a.outgoing.standing a.outgoing.gathered.told (all told.tells).piece.told sane.serving.within))
        (subst (λ (w : List ℕ). IsGathered before w (take a.outgoing.standing a.outgoing.gathered.told) (length (texts_in (g.files h1)))) (sym input.written)
        (subst (λ (n : ℕ). IsGathered before (g.written h0) (take a.outgoing.standing a.outgoing.gathered.told) n) (ap (λ (f : Five (List ℕ)). length (texts_in f)) (sym input.files)) tell.stands))

    pub moves_gathered : {R : Type 0} (x : R) → Follows t s g f a h0 b h1 (done x)
    moves_gathered {R} x = record {
      next = record {
        future = next;
        sane = record {
          at = at;
          serving = serving;
          is_true = λ tells. subst (λ (n : ℕ). AreTrue n (ahead next b (s.unread h1))) (omega (arith, commits, made_count tells)) (parts tells).1;
          counted = λ told. omega (arith, commits, sane.counted (still told), ap (λ (f : Five (List ℕ)). length (texts_in f)) input.files, made_count told.tells);
        };
        goes_on = record {
          told = λ tells.
              ap (λ (l : List ℕ). g.written h1 ++ (l ++ told_by (ahead next b (s.unread h1)))) (all tells).told
              ∙ on_told (g.written h1) a.outgoing.gathered.told (all tells).piece.told (told_by (ahead next b (s.unread h1))) (told_by (ahead f a (s.unread h0))) (ap told_by (all tells).is)
              ∙ ap (λ (w : List ℕ). w ++ (a.outgoing.gathered.told ++ told_by (ahead f a (s.unread h0)))) input.written;
          within = λ tells more.
              ap (λ (l : List ℕ). g.written h1 ++ (l ++ told_by (ahead_within next b (s.unread h1)))) (whole tells more).told
              ∙ on_told (g.written h1) a.outgoing.gathered.told (whole tells more).piece.told (told_by (ahead_within next b (s.unread h1))) (told_by (ahead_within f a (s.unread h0))) (ap told_by (whole tells more).is)
              ∙ ap (λ (w : List ℕ). w ++ (a.outgoing.gathered.told ++ told_by (ahead_within f a (s.unread h0)))) input.written;
          made = λ told.
              ap (λ (l : List (List ℕ)). texts_in (g.files h1) ++ (l ++ made_by (ahead next b (s.unread h1)))) (all told.tells).made
              ∙ on_made (texts_in (g.files h1)) a.outgoing.gathered.made (all told.tells).piece.made (made_by (ahead next b (s.unread h1))) (made_by (ahead f a (s.unread h0))) (ap made_by (all told.tells).is)
              ∙ ap (λ (x : Five (List ℕ)). texts_in x ++ (a.outgoing.gathered.made ++ made_by (ahead f a (s.unread h0)))) input.files;
          commits = λ tells.
              omega (arith, commits, made_count tells, ap (λ (p : List Piece). length (made_by p)) (all tells).is, length-append (all tells).piece.made (made_by (ahead next b (s.unread h1))));
          count = count;
          due = due_on;
        };
      };
      telling = λ told least before tell. record {
        enough = omega (arith, tell.enough, ap (λ (f : Five (List ℕ)). length (texts_in f)) input.files);
        stands = subst (λ (n : ℕ). IsGathered before (g.written h1) (take n b.outgoing.gathered.told) (length (texts_in (g.files h1)))) (sym marked) (stands told least before tell b.outgoing.gathered.made refl);
        gathered = gathered told least before tell;
      };
      front = λ tells. subst (λ (w : List ℕ). WritesPrefix (g.written h0) w (a.outgoing.gathered.told ++ told_by (ahead f a (s.unread h0)))) (sym input.written) (nothing_yet (g.written h0) _);
      moments = λ told least before tell.
          let part = take a.outgoing.standing a.outgoing.gathered.told in
          let now = subst (λ (w : List ℕ). IsGathered before w part (length (texts_in (g.files h0)))) (sym (out told.tells)) tell.stands in
          since_weaker (input.moments told.tells)
          (λ m reading. held_telling (g.files h0) (g.history h0) a.outgoing.log (sane.serving.log told) sane.serving.epoch least before tell.enough part (a.outgoing.gathered.made ++ made_by (ahead f a (s.unread h0))) m now (handed_reading (g.history h0).now m part reading));
      prompt = prompts f sane;
      ends = record { uses = input_log input later; calm = calm; stops = tt };
    }
