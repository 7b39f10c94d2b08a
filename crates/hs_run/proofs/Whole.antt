-- A run from its first line to its last, put together from its parts.
use Rattle.std.proofs.Common.{◌≡◌, ℕ, ◌+◌, ◌≤◌, ◌<◌, ◌^◌, false, List, [], ◌++◌, length, take, None, Result, Ok, Err, OnOk, refl, sym, ap, subst, ◌∙◌, arith, append_assoc, append-nil, length-append}
use Rattle.hs_host.specs.declared.source.Source as source
use Rattle.hs_host.specs.declared.host.Host as host
use Rattle.hs_host.specs.Files.{Five, IsHonest}
use Rattle.hs_host.specs.Moments.{Since}
use Rattle.hs_host.specs.Used.{Told}
use Rattle.hs_host.proofs.Passing.{since_join}
use Rattle.hs_entries.specs.declared.item.Item.{Item}
use Rattle.hs_entries.specs.Items.{items, whole_items}
use Rattle.hs_entries.specs.Left.{whole_of}
use Rattle.hs_entries.specs.Reader.{ahead as reader_ahead, has_ended, kept as fault_kept, left_items, left_over, next_number, room}
use Rattle.hs_log.specs.declared.log.Log.{Log}
use Rattle.hs_log.specs.Log.{IsWholeLog}
use Rattle.hs_run.specs.declared.outgoing.Outgoing.{Outgoing}
use Rattle.hs_run.specs.declared.running.Running.{Running}
use Rattle.hs_run.specs.declared.stop.Stop.{Stop}
use Rattle.hs_run.specs.declared.turns.Turns as turns
use Rattle.hs_run.specs.Crash.{IsHeld, texts_in}
use Rattle.hs_run.specs.Holding.{WritesPrefix}
use Rattle.hs_run.specs.Lines.{closed_line, opened_line}
use Rattle.hs_run.specs.Outgoing.{Closes, Opens}
use Rattle.hs_run.specs.Pieces.{AreTrue, Piece, made_by, told_by, transcript, transcript_within}
use Rattle.hs_run.specs.Future.{Future}
use Rattle.hs_run.specs.Prompt.{AsksNothing, Due, IsOnTime, due_of}
use Rattle.hs_run.specs.Running.{EndsWithin, Follows, HasNoneAhead, IsBeginning, IsDue, IsOver, IsReading, IsSane, ahead, ahead_within, pieces}
use Rattle.hs_run.specs.Used.{TakesTurns}
use Rattle.hs_run.proofs.Moving.{done}
use Rattle.hs_run.proofs.Given.{items_told}
use Rattle.hs_run.proofs.Prefixes.{front_after, front_on}
use Rattle.hs_run.proofs.Prompt.{unasked_prompt, unasked_taken}
use Rattle.hs_run.proofs.Taken.{begun_not_ended, fresh_input, fresh_items, fresh_over, fresh_whole, none_left, over_input}
use Rattle.hs_run.proofs.Used.{told_on_log, turns_on}

-- what is written, what a crash leaves, when input is asked for, and what is used, of a whole run
pub record Runs {R H : Type 0} (s : source.Ghosts H) (g : host.Ghosts H) (f : Future) (old new : H) (result : Result R Stop) : Type 0 where
  pub front : s.tells → WritesPrefix (g.written old) (g.written new) (transcript f.commits (pieces f (items 1 (s.unread old))))
  pub moments : Told s g old → Since (IsHeld (length (texts_in (g.files old))) (texts_in (g.files old) ++ made_by (pieces f (items 1 (s.unread old)))) (g.written old)) (g.history old) (g.history new)
  pub prompt : Told s g old → Since (IsOnTime (due_of (texts_in (g.files old)) f) (g.history old).now) (g.history old) (g.history new)
  pub ends : TakesTurns s g old new result

-- the first line was written, and a new reader has the whole input before it
pub record IsStarted {T H : Type 0} (s : source.Ghosts H) (g : host.Ghosts H) (f : Future) (turns : T) (h : H) (o : Outgoing) (r : Running T) (h1 : H) : Type 0 where
  pub opens : Opens {R = Unit {0}} s g f.commits o h r.outgoing h1 (Ok tt)
  pub out : s.tells → (g.history h).now.out ≡ g.written h
  pub silent : AsksNothing s g h h1
  pub unread : s.unread h1 ≡ s.unread h
  pub turns_is : r.turns ≡ turns
  pub kept : fault_kept r.reader ≡ None
  pub not_ended : has_ended r.reader ≡ false
  pub none : reader_ahead r.reader ≡ []
  pub first : next_number r.reader ≡ 1
  pub limit : room r.reader ≡ 2 ^ 30

module _ {T H : Type 0} (t : turns.Ghosts T) (s : source.Ghosts H) (g : host.Ghosts H) (f : Future) (turns : T) (log : Log) (h : H) (begins : IsBeginning t s g f turns log h) where
  abbrev commits : ℕ
  commits = f.commits

  abbrev all : List Piece
  all = pieces f (items 1 (s.unread h))

  abbrev due : Due
  due = due_of (texts_in (g.files h)) f

  -- the first line couldn't be written
  pub runs_opening : {R : Type 0} (o o1 : Outgoing) (h1 : H) (result : Result R Stop) → Opens s g commits o h o1 h1 result → AsksNothing s g h h1 → Runs s g f h h1 result
  runs_opening o o1 h1 result opens silent = record {
    front = λ tells. front_on (g.written h) (g.written h) (g.written h1) (opened_line commits) (told_by all ++ closed_line (commits + length (made_by all))) _ refl (omega arith) (opens.front tells);
    moments = λ told. opens.moments told (made_by all);
    prompt = λ told. unasked_prompt due (g.history h).now (silent told);
    ends = opens.ends;
  }

  -- the first line was written
  module _ (o : Outgoing) (r : Running T) (h1 : H) (started : IsStarted s g f turns h o r h1) where
    left_is : left_items r.reader (s.unread h1) ≡ items 1 (s.unread h)
    left_is = fresh_items r.reader (s.unread h1) started.not_ended started.none started.first ∙ ap (items 1) started.unread

    ahead_is : ahead f r (s.unread h1) ≡ all
    ahead_is = ap (pieces f) left_is

    within_is : ahead_within f r (s.unread h1) ≡ f.taken (whole_items 1 (take (2 ^ 30) (s.unread h)))
    within_is = ap f.taken (fresh_whole r.reader (s.unread h1) (2 ^ 30) started.not_ended started.none started.first started.limit ∙ ap (λ (l : List ℕ). whole_items 1 (take (2 ^ 30) l)) started.unread)

    pub sane : IsSane t s g f r h1
    sane = record {
      at = subst (λ (x : T). t.has_ahead x f) (sym started.turns_is) begins.at;
      serving = started.opens.serving;
      is_true = λ _. subst (AreTrue commits) (sym ahead_is) (begins.is_true (items 1 (s.unread h)) (items_told 1 (s.unread h)));
      counted = λ told.
          let before : Told s g h = record { tells = told.tells; honest = subst IsHonest started.opens.ends.uses.all.standing told.honest } in
          omega (arith, begins.counted before, ap (λ (f : Five (List ℕ)). length (texts_in f)) (started.opens.files before), ap length started.opens.none_made);
    }

    pub reading : IsReading s r h1
    reading = record { kept = started.kept; agrees = λ _ ended. absurd (begun_not_ended r.reader started.not_ended ended) }

    -- what is told and logged so far
    so_told : s.tells → g.written h1 ++ (r.outgoing.gathered.told ++ told_by (ahead f r (s.unread h1))) ≡ g.written h ++ (opened_line commits ++ told_by all)
    so_told tells =
        ap (λ (l : List ℕ). g.written h1 ++ (l ++ told_by (ahead f r (s.unread h1)))) started.opens.none_told ∙ ap (λ (p : List Piece). g.written h1 ++ told_by p) ahead_is
        ∙ ap (λ (w : List ℕ). w ++ told_by all) (started.opens.told tells) ∙ append_assoc (g.written h) (opened_line commits) (told_by all)

    so_made : Told s g h → texts_in (g.files h1) ++ (r.outgoing.gathered.made ++ made_by (ahead f r (s.unread h1))) ≡ texts_in (g.files h) ++ made_by all
    so_made told =
        ap (λ (l : List (List ℕ)). texts_in (g.files h1) ++ (l ++ made_by (ahead f r (s.unread h1)))) started.opens.none_made ∙ ap (λ (p : List Piece). texts_in (g.files h1) ++ made_by p) ahead_is ∙ ap (λ (f : Five (List ℕ)). texts_in f ++ made_by all) (started.opens.files told)

    moved : {R : Type 0} (r2 : Running T) (h2 : H) (result : Result R Stop) → Follows t s g f r h1 r2 h2 result → Told s g h → Since (IsHeld (length (texts_in (g.files h))) (texts_in (g.files h) ++ made_by all) (g.written h)) (g.history h) (g.history h2)
    moved r2 h2 result moves told =
        since_join (started.opens.moments told (made_by all))
        (subst (λ (ts : List (List ℕ)). Since (IsHeld (length (texts_in (g.files h))) ts (g.written h)) (g.history h1) (g.history h2)) (so_made told) (moves.moments (told_on_log started.opens.ends.uses told) _ _ (started.opens.telling told)))

    -- before any input was taken the first line is due, and was written, and the log is as it was
    first_due : Told s g h → IsDue g due (g.history h).now f r h1
    first_due told = record {
      given = [];
      taken = unasked_taken (started.silent told) ∙ sym (append-nil (g.history h).now.taken);
      told = λ goes_on rest within.
          ap (λ (l : List ℕ). g.written h1 ++ (l ++ told_by (f.taken (whole_of (left_over r.reader rest))))) started.opens.none_told
          ∙ ap (λ (is : List Item). g.written h1 ++ told_by (f.taken is)) (fresh_over r.reader rest started.none started.first within)
          ∙ ap (λ (w : List ℕ). w ++ told_by (f.taken (whole_items 1 rest))) (started.opens.told told.tells ∙ ap (λ (w : List ℕ). w ++ opened_line commits) (sym (started.out told.tells)))
          ∙ append_assoc (g.history h).now.out (opened_line commits) (told_by (f.taken (whole_items 1 rest)));
      made = λ goes_on rest within.
          ap (λ (l : List (List ℕ)). texts_in (g.files h1) ++ (l ++ made_by (f.taken (whole_of (left_over r.reader rest))))) started.opens.none_made
          ∙ ap (λ (is : List Item). texts_in (g.files h1) ++ made_by (f.taken is)) (fresh_over r.reader rest started.none started.first within)
          ∙ ap (λ (x : Five (List ℕ)). texts_in x ++ made_by (f.taken (whole_items 1 rest))) (started.opens.files told);
    }

    prompted : {R : Type 0} (r2 : Running T) (h2 : H) (result : Result R Stop) → Follows t s g f r h1 r2 h2 result → Told s g h → Since (IsOnTime due (g.history h).now) (g.history h) (g.history h2)
    prompted r2 h2 result moves told =
        since_join (unasked_prompt due (g.history h).now (started.silent told)) (moves.prompt (told_on_log started.opens.ends.uses told) due (g.history h).now (first_due told))

    -- the run stopped before its last line
    pub runs_moving : {R : Type 0} (r2 : Running T) (h2 : H) (result : Result R Stop) → Follows t s g f r h1 r2 h2 result → Runs s g f h h2 result
    runs_moving r2 h2 result moves = record {
      front = λ tells.
          front_on (g.written h) (g.written h1) (g.written h2) (r.outgoing.gathered.told ++ told_by (ahead f r (s.unread h1))) (closed_line (commits + length (made_by all))) _
          (sym (append_assoc (g.written h1) (r.outgoing.gathered.told ++ told_by (ahead f r (s.unread h1))) (closed_line (commits + length (made_by all)))) ∙ ap (λ (l : List ℕ). l ++ closed_line (commits + length (made_by all))) (so_told tells)
          ∙ append_assoc (g.written h) (opened_line commits ++ told_by all) (closed_line (commits + length (made_by all))) ∙ ap (λ (l : List ℕ). g.written h ++ l) (append_assoc (opened_line commits) (told_by all) (closed_line (commits + length (made_by all)))))
          (omega (arith, ap length (started.opens.told tells), length-append (g.written h) (opened_line commits))) (moves.front tells);
      moments = moved r2 h2 result moves;
      prompt = prompted r2 h2 result moves;
      ends = turns_on result started.opens.ends.uses started.opens.ends.calm moves.ends;
    }

    -- the input was too long
    pub too_long : (h2 : H) → s.tells → EndsWithin t s g r h1 h2
        → (2 ^ 30 < length (s.unread h)) × (g.written h2 ≡ g.written h ++ transcript_within commits (f.taken (whole_items 1 (take (2 ^ 30) (s.unread h)))))
    too_long h2 tells ends = let long = ends f sane in (
      omega (arith, long.0, started.limit, ap length (fresh_input r.reader (s.unread h1) started.not_ended started.none), ap length started.unread),
      long.1 ∙ ap (λ (l : List ℕ). g.written h1 ++ (l ++ told_by (ahead_within f r (s.unread h1)))) started.opens.none_told ∙ ap (λ (p : List Piece). g.written h1 ++ told_by p) within_is
          ∙ ap (λ (v : List ℕ). v ++ told_by (f.taken (whole_items 1 (take (2 ^ 30) (s.unread h))))) (started.opens.told tells) ∙ append_assoc (g.written h) (opened_line commits) (told_by (f.taken (whole_items 1 (take (2 ^ 30) (s.unread h))))),
    )

    -- all turns were taken
    module _ (r3 : Running T) (h3 : H) (moves : Follows {R = Unit {0}} t s g f r h1 r3 h3 (Ok tt)) (over : IsOver r3.reader) (none : HasNoneAhead t r3.turns) (count : ℕ) (counted : (f3 : Future) → t.has_ahead r3.turns f3 → count ≡ f3.commits) where
      abbrev last : Future
      last = moves.next.future

      is_last : count ≡ last.commits
      is_last = counted last moves.next.sane.at

      nothing : ahead last r3 (s.unread h3) ≡ []
      nothing = ap (pieces last) (none_left r3.reader (s.unread h3) over.ended over.none) ∙ none last moves.next.sane.at

      last_commits : s.tells → count ≡ commits + length (made_by all)
      last_commits tells =
          omega (arith, is_last, moves.next.goes_on.commits tells, ap (λ (p : List Piece). length (made_by p)) nothing, ap (λ (p : List Piece). length (made_by p)) ahead_is)

      told_all : s.tells → g.written h3 ++ r3.outgoing.gathered.told ≡ g.written h ++ (opened_line commits ++ told_by all)
      told_all tells =
          sym (ap (λ (p : List Piece). g.written h3 ++ (r3.outgoing.gathered.told ++ told_by p)) nothing ∙ ap (λ (l : List ℕ). g.written h3 ++ l) (append-nil r3.outgoing.gathered.told)) ∙ moves.next.goes_on.told tells ∙ so_told tells

      made_all : Told s g h → texts_in (g.files h3) ++ r3.outgoing.gathered.made ≡ texts_in (g.files h) ++ made_by all
      made_all told =
          sym (ap (λ (p : List Piece). texts_in (g.files h3) ++ (r3.outgoing.gathered.made ++ made_by p)) nothing ∙ ap (λ (l : List (List ℕ)). texts_in (g.files h3) ++ l) (append-nil r3.outgoing.gathered.made))
          ∙ moves.next.goes_on.made (told_on_log started.opens.ends.uses told) ∙ so_made told

      whole : s.tells → g.written h3 ++ (r3.outgoing.gathered.told ++ closed_line count) ≡ g.written h ++ transcript commits all
      whole tells =
          sym (append_assoc (g.written h3) r3.outgoing.gathered.told (closed_line count)) ∙ ap (λ (l : List ℕ). l ++ closed_line count) (told_all tells)
          ∙ append_assoc (g.written h) (opened_line commits ++ told_by all) (closed_line count) ∙ ap (λ (l : List ℕ). g.written h ++ l) (append_assoc (opened_line commits) (told_by all) (closed_line count))
          ∙ ap (λ (n : ℕ). g.written h ++ (opened_line commits ++ (told_by all ++ closed_line n))) (last_commits tells)

      pub runs_closing : {R : Type 0} (h4 : H) (result : Result R Stop) → Closes s g count r3.outgoing h3 h4 result → AsksNothing s g h3 h4 → Runs s g f h h4 result
      runs_closing h4 result closes silent =
          let so_far = turns_on (done t s g tt) started.opens.ends.uses started.opens.ends.calm moves.ends in
          record {
            front = λ tells. front_after (g.written h) (g.written h3) (g.written h4) (r3.outgoing.gathered.told ++ closed_line count) _ (whole tells)
                (omega (arith, ap length (started.opens.told tells), length-append (g.written h) (opened_line commits), (moves.front tells).grown)) (closes.front tells);
            moments = λ told.
                since_join (moved r3 h3 (done t s g tt) moves told)
                (subst (λ (ts : List (List ℕ)). Since (IsHeld (length (texts_in (g.files h))) ts (g.written h)) (g.history h3) (g.history h4)) (made_all told)
                (closes.moments (told_on_log so_far.uses told) _ _ (moves.telling (told_on_log started.opens.ends.uses told) _ _ (started.opens.telling told))));
            prompt = λ told. since_join (prompted r3 h3 (done t s g tt) moves told) (unasked_prompt due (g.history h).now (silent (told_on_log so_far.uses told)));
            ends = turns_on result so_far.uses so_far.calm closes.ends;
          }

      pub done_closing : {R : Type 0} (h4 : H) (result : Result R Stop) → Closes s g count r3.outgoing h3 h4 result → s.tells → OnOk result (g.written h4 ≡ g.written h ++ transcript commits all)
      done_closing h4 (Ok x) closes tells = closes.told tells ∙ whole tells
      done_closing h4 (Err e) closes tells = tt

      pub log_closing : {R : Type 0} (h4 : H) (result : Result R Stop) → Closes s g count r3.outgoing h3 h4 result → Told s g h → OnOk result (IsWholeLog 1 (texts_in (g.files h) ++ made_by all) (g.files h4).log)
      log_closing h4 (Ok x) closes told =
          let so_far = turns_on (done t s g tt) started.opens.ends.uses started.opens.ends.calm moves.ends in
          subst (λ (ts : List (List ℕ)). IsWholeLog 1 ts (g.files h4).log) (made_all told) (closes.log (told_on_log so_far.uses told))
      log_closing h4 (Err e) closes told = tt

      pub read_all : s.tells → length (s.unread h) ≤ 2 ^ 30
      read_all tells =
          omega (arith, moves.next.goes_on.count tells, started.limit, ap length (fresh_input r.reader (s.unread h1) started.not_ended started.none), ap length started.unread, ap length (over_input r3.reader (s.unread h3) over.ended over.none))
