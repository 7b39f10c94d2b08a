-- A whole run: what its pieces tell is the transcript of the machine, and they make the texts of its commits.
use Rattle.std.proofs.Common.{◌≡◌, ℕ, zero, suc, ◌+◌, Bool, true, false, List, [], ◌∷◌, ◌++◌, length, refl, sym, ap, ap₂, ◌∙◌, arith, subst, append_assoc, append-nil}
use Rattle.std.specs.Prelude.{Option, None, Some, if◌then◌else◌, nat_lt, codes}
use Rattle.hs_entries.specs.declared.item.Item.{Item}
use Rattle.hs_entries.specs.declared.item.Item.TheVariants as item
use Rattle.hs_machine.specs.Acknowledged.{AcknowledgesLines}
use Rattle.hs_schema.specs.Catalogue.{Text}
use Rattle.hs_sessions.specs.Book.{number_from}
use Rattle.hs_turns.specs.Histories.{Commit}
use Rattle.hs_run.specs.Items.{AreTold}
use Rattle.hs_run.specs.Pieces.{AreTrue, Piece, made_by, told_by}
use Rattle.hs_seams.specs.World.{World, texts_from, texts_since}
use Rattle.hs_turns.specs.Attempts.{Attempt, attempt, present}
use Rattle.hs_turns.specs.Laws.{history_after}
use Rattle.hs_turns.specs.Lines.{Line, line_text, printed}
use Rattle.hs_turns.specs.Machine.{Machine, is_open, start, with_session}
use Rattle.hs_turns.specs.Turns.{Turned, admits, after, after_pass, begins, begun_by, closes, closes_next, closing, from_input, from_queue, in_pass, lines, of_session, ready_among, reads, retried_by, retries, turn, weight, whole_text}
use Rattle.hs_turns.specs.Waiting.{Entry, is_waiting}
use Rattle.hs_futures.specs.Futures.{future_of, piece_of, pieces_by, turns}
use Rattle.hs_futures.specs.Laws.{IsTold}
use Rattle.hs_futures.proofs.Ahead.{all_ahead}
use Rattle.hs_futures.proofs.Grows.{Adds, attempts as grown, leaves}
use Rattle.hs_futures.proofs.Texts.{length-added, texts_added, texts_on}

-- ---- what is told

printed-append : (xs ys : List Line) → printed (xs ++ ys) ≡ printed xs ++ printed ys
printed-append [] ys = refl
printed-append (x ∷ xs) ys = ap (λ (l : List ℕ). line_text x ++ codes "\n" ++ l) (printed-append xs ys) ∙ sym (append_assoc (line_text x ++ codes "\n") (printed xs) (printed ys))

module _ (w : World) where
  tells_by : (n : ℕ) (m : Machine) (r : Option Turned) → ((x : Machine) → told_by (pieces_by (turns w) w n x) ≡ printed (lines w.run.dialect w.run.opening w.run.made n x))
      → told_by (elim r as (λ _. List Piece) [ None ↦ [] | Some t ↦ piece_of w m t ∷ pieces_by (turns w) w n t.next ]) ≡ printed (elim r as (λ _. List Line) [ None ↦ [] | Some t ↦ t.lines ++ lines w.run.dialect w.run.opening w.run.made n t.next ])
  tells_by n m None more = refl
  tells_by n m (Some t) more = ap (λ (l : List ℕ). printed t.lines ++ l) (more t.next) ∙ sym (printed-append t.lines (lines w.run.dialect w.run.opening w.run.made n t.next))

  tells : (n : ℕ) (m : Machine) → told_by (pieces_by (turns w) w n m) ≡ printed (lines w.run.dialect w.run.opening w.run.made n m)
  unfolding pieces_by lines turns
  tells zero m = refl
  tells (suc n) m = tells_by n m (turn w.run.dialect w.run.opening w.run.made m) (tells n)

  -- ---- commits of a turn

  abbrev G : Machine → Machine → Type 0
  G m n = Adds m.history.commits n.history.commits

  same_g : (m : Machine) → G m m
  same_g m = record { more = []; is = sym (append-nil m.history.commits) }

  begun_g : (b : Bool) (entry : Entry) (a : Attempt) (m : Machine) → G m a.next → G m (begun_by b entry a).next
  begun_g true entry a m g = g
  begun_g false entry a m g = g

  retried_g : (b : Bool) (entry : Entry) (a : Attempt) (m : Machine) → G m a.next → G m (retried_by b entry a).next
  retried_g true entry a m g = g
  retried_g false entry a m g = g

  tried_g : (is_first : Bool) (entry : Entry) (m : Machine) → G m (attempt w.run.dialect w.run.opening w.run.made is_first entry m).next
  tried_g is_first entry m = let f = grown w.run.dialect w.run.opening w.run.made is_first entry m in record { more = f.more; is = f.commits }

  begins_g : (entry : Entry) (m : Machine) → G m (begins w.run.dialect w.run.opening w.run.made entry m).next
  begins_g entry m = let a = attempt w.run.dialect w.run.opening w.run.made true entry m in begun_g a.final entry a m (tried_g true entry m)

  retries_g : (entry : Entry) (m : Machine) → G m (retries w.run.dialect w.run.opening w.run.made entry m).next
  retries_g entry m = let a = attempt w.run.dialect w.run.opening w.run.made false entry m in retried_g a.final entry a m (tried_g false entry m)

  admits_g : (b : Bool) (entry : Entry) (m : Machine) → G m (admits w.run.dialect w.run.opening w.run.made b entry m).next
  admits_g true entry m = same_g m
  admits_g false entry m = begins_g entry m

  either_g : (b : Bool) (m : Machine) (x y : Turned) → G m x.next → G m y.next → G m (if b then x else y).next
  either_g true m x y p q = p
  either_g false m x y p q = q

  session_g : (found : Option ℕ) (number : ℕ) (name statement : Text) (m : Machine) → G m (of_session w.run.dialect w.run.opening w.run.made found number name statement m).next
  session_g (Some s) number name statement m = admits_g (is_waiting s m.seen) (record { number = number; session = s; text = whole_text name statement }) m
  session_g None number name statement m =
      either_g (nat_lt (length m.names) 64) m _ _ (begins_g (record { number = number; session = length m.names + 1; text = whole_text name statement }) (with_session name (present w.run.dialect w.run.opening w.run.made m).level m)) (same_g m)

  reads_g : (i : Item) (m : Machine) → G m (reads w.run.dialect w.run.opening w.run.made i m).next
  reads_g (item.Entry number name statement at) m = session_g (number_from 1 name m.names) number name statement m
  reads_g (item.Bad number) m = same_g m
  reads_g (item.TooLong number) m = same_g m
  reads_g item.End m = same_g m

  closes_g : (b : Bool) (s : ℕ) (m : Machine) → G m (closes w.run.dialect w.run.opening w.run.made b s m).next
  closes_g true s m = let f = leaves w.run.dialect w.run.opening w.run.made s m in record { more = f.more; is = f.commits }
  closes_g false s m = same_g m

  abbrev GO : Machine → Option Turned → Type 0
  GO m None = Unit {0}
  GO m (Some t) = G m t.next

  closing_g : (found : Option ℕ) (m : Machine) → GO m (closing w.run.dialect w.run.opening w.run.made found m)
  closing_g None m = tt
  closing_g (Some s) m = closes_g (is_open m s) s m

  input_g : (items : List Item) (m : Machine) → GO m (from_input w.run.dialect w.run.opening w.run.made items m)
  input_g (i ∷ items) m = reads_g i (record m { unread = items })
  input_g [] m = closing_g (closes_next m) m

  queue_g : (found : Option (Entry × List Entry)) (m : Machine) → GO m (from_queue w.run.dialect w.run.opening w.run.made found m)
  queue_g (Some found) m = begins_g found.0 (record m { queue = found.1 })
  queue_g None m = input_g m.unread m

  pass_g : (again : Bool) (m : Machine) → GO m (after_pass w.run.dialect w.run.opening w.run.made again m)
  pass_g true m = same_g m
  pass_g false m = queue_g (ready_among m.seen m.queue) m

  in_pass_g : (ws : List Entry) (m : Machine) → GO m (in_pass w.run.dialect w.run.opening w.run.made ws m)
  in_pass_g (e ∷ es) m = retries_g e (record m { pass = es })
  in_pass_g [] m = pass_g m.again m

  turn_g : (m : Machine) (t : Turned) → turn w.run.dialect w.run.opening w.run.made m ≡ Some t → G m t.next
  turn_g m t is = subst (GO m) is (in_pass_g m.pass m)

  -- ---- texts of a run

  -- the commits of a run are some behind those before, and its pieces make their texts
  record Makes (m n : Machine) (pieces : List Piece) : Type 0 where
    more : List Commit
    commits : n.history.commits ≡ m.history.commits ++ more
    texts : made_by pieces ≡ texts_from w m.history.commits more

  makes_by : (n : ℕ) (m : Machine) (r : Option Turned) → turn w.run.dialect w.run.opening w.run.made m ≡ r → ((x : Machine) → Makes x (after w.run.dialect w.run.opening w.run.made n x) (pieces_by (turns w) w n x))
      → Makes m (elim r as (λ _. Machine) [ None ↦ m | Some t ↦ after w.run.dialect w.run.opening w.run.made n t.next ]) (elim r as (λ _. List Piece) [ None ↦ [] | Some t ↦ piece_of w m t ∷ pieces_by (turns w) w n t.next ])
  makes_by n m None is more = record { more = []; commits = sym (append-nil m.history.commits); texts = refl }
  makes_by n m (Some t) is more =
      let g = turn_g m t is in
      let r = more t.next in record {
        more = g.more ++ r.more;
        commits = r.commits ∙ ap (λ (l : List Commit). l ++ r.more) g.is ∙ append_assoc m.history.commits g.more r.more;
        texts =
            ap₂ (λ (a b : List (List ℕ)). a ++ b) (texts_added w m.history.commits g.more t.next.history.commits g.is) r.texts
            ∙ texts_on w m.history.commits g.more r.more t.next.history.commits g.is;
      }

  makes : (n : ℕ) (m : Machine) → Makes m (after w.run.dialect w.run.opening w.run.made n m) (pieces_by (turns w) w n m)
  unfolding pieces_by after turns
  makes zero m = record { more = []; commits = sym (append-nil m.history.commits); texts = refl }
  makes (suc n) m = makes_by n m (turn w.run.dialect w.run.opening w.run.made m) refl (makes n)

  -- ---- a run from its start

  abbrev begun : List Item → Machine
  begun items = start w.run.opening items

  pub whole_ahead : (items : List Item) → (future_of w (begun [])).taken items ++ (future_of w (begun [])).closing items ≡ pieces_by (turns w) w (weight (begun items)) (begun items)
  unfolding future_of
  whole_ahead items = all_ahead w (begun items)

  pub whole_told : (items : List Item) → told_by ((future_of w (begun [])).taken items ++ (future_of w (begun [])).closing items) ≡ printed (lines w.run.dialect w.run.opening w.run.made (weight (begun items)) (begun items))
  whole_told items = ap told_by (whole_ahead items) ∙ tells (weight (begun items)) (begun items)

  pub whole_made : (items : List Item) → made_by ((future_of w (begun [])).taken items ++ (future_of w (begun [])).closing items) ≡ texts_from w [] (history_after w.run.dialect w.run.opening w.run.made items (weight (begun items))).commits
  whole_made items = let k = makes (weight (begun items)) (begun items) in ap made_by (whole_ahead items) ∙ k.texts ∙ ap (texts_from w []) (sym k.commits)

  -- ---- what is told is true

  abbrev Tells : Machine → Type 0
  Tells m = (n : ℕ) (t : Turned) → turn w.run.dialect w.run.opening w.run.made (after w.run.dialect w.run.opening w.run.made n m) ≡ Some t → AcknowledgesLines (printed t.lines) (w.run.made + length t.next.history.commits)

  one_further : (n : ℕ) (m : Machine) (t : Turned) → turn w.run.dialect w.run.opening w.run.made m ≡ Some t → after w.run.dialect w.run.opening w.run.made (suc n) m ≡ after w.run.dialect w.run.opening w.run.made n t.next
  unfolding after
  one_further n m t is = ap (λ (r : Option Turned). elim r as (λ _. Machine) [ None ↦ m | Some u ↦ after w.run.dialect w.run.opening w.run.made n u.next ]) is

  no_further : (m : Machine) → after w.run.dialect w.run.opening w.run.made zero m ≡ m
  unfolding after
  no_further m = refl

  further : (m : Machine) (t : Turned) → turn w.run.dialect w.run.opening w.run.made m ≡ Some t → Tells m → Tells t.next
  further m t is tells_ n u e = tells_ (suc n) u (ap (turn w.run.dialect w.run.opening w.run.made) (one_further n m t is) ∙ e)

  true_by : (n : ℕ) (m : Machine) (r : Option Turned) → turn w.run.dialect w.run.opening w.run.made m ≡ r → Tells m → ((x : Machine) → Tells x → AreTrue (w.run.made + length x.history.commits) (pieces_by (turns w) w n x))
      → AreTrue (w.run.made + length m.history.commits) (elim r as (λ _. List Piece) [ None ↦ [] | Some t ↦ piece_of w m t ∷ pieces_by (turns w) w n t.next ])
  true_by n m None is tells_ more = tt
  true_by n m (Some t) is tells_ more =
      let g = turn_g m t is in
      let count : w.run.made + length t.next.history.commits ≡ w.run.made + length m.history.commits + length (texts_since w m.history.commits t.next.history.commits) = omega (arith, length-added w m.history.commits g.more t.next.history.commits g.is) in (
        subst (λ (k : ℕ). AcknowledgesLines (printed t.lines) k) count (tells_ zero t (ap (turn w.run.dialect w.run.opening w.run.made) (no_further m) ∙ is)),
        subst (λ (k : ℕ). AreTrue k (pieces_by (turns w) w n t.next)) count (more t.next (further m t is tells_)),
      )

  true_ : (n : ℕ) (m : Machine) → Tells m → AreTrue (w.run.made + length m.history.commits) (pieces_by (turns w) w n m)
  unfolding pieces_by turns
  true_ zero m tells_ = tt
  true_ (suc n) m tells_ = true_by n m (turn w.run.dialect w.run.opening w.run.made m) refl tells_ (true_ n)

  pub whole_true : IsTold w → (items : List Item) → AreTold items → AreTrue (future_of w (begun [])).commits ((future_of w (begun [])).taken items ++ (future_of w (begun [])).closing items)
  unfolding future_of
  whole_true told items taken = subst (AreTrue (w.run.made + 0)) (sym (whole_ahead items)) (true_ (weight (begun items)) (begun items) (λ n t e. told items n t taken e))
