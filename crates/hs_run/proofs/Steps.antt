-- A piece that takes turns gathers, as a part of a run.
use Rattle.std.proofs.Common.{◌≡◌, ◌⊎◌, ◌≤◌, ℕ, Bool, true, false, Ok, List, [], ◌∷◌, ◌++◌, length, refl, sym, ap, subst, ◌∙◌, arith, append_assoc, length-append}
use Rattle.hs_host.specs.declared.source.Source as source
use Rattle.hs_host.specs.declared.host.Host as host
use Rattle.hs_host.specs.Files.{Five}
use Rattle.hs_host.specs.Moments.{IsAsked, Moment, Next}
use Rattle.hs_host.specs.Used.{Told, UsesInput}
use Rattle.hs_host.proofs.Passing.{since_none}
use Rattle.hs_entries.specs.declared.item.Item.{Item}
use Rattle.hs_entries.specs.declared.reader.EntryReader.{EntryReader}
use Rattle.hs_entries.specs.Asking.{AreNeeded, Asks, given_by}
use Rattle.hs_entries.specs.Left.{Left, items_of, whole_of}
use Rattle.hs_entries.specs.Reader.{ahead as reader_ahead, has_ended, is_ready, is_ready_with, kept as fault_kept, left_items, left_over, left_whole, next_number, rests as reader_rests, room}
use Rattle.hs_entries.specs.Taking.{IsGiven, TakesItem}
use Rattle.hs_run.specs.declared.gathered.Gathered.{Gathered}
use Rattle.hs_run.specs.declared.running.Running.{Running}
use Rattle.hs_run.specs.declared.turns.Turns as turns
use Rattle.hs_run.specs.declared.outgoing.Outgoing.{Outgoing}
use Rattle.hs_run.specs.Future.{ClosesOn, Future, StepsOn, TakesOn}
use Rattle.hs_run.specs.Outgoing.{HandsOn, IsEmpty, IsServing, marked}
use Rattle.hs_run.specs.Pieces.{Gives, Piece, made_by, told_by}
use Rattle.hs_run.specs.Prompt.{Due}
use Rattle.hs_run.specs.Crash.{texts_in}
use Rattle.hs_run.specs.Items.{is_end}
use Rattle.hs_run.specs.Running.{IsDue, IsOver, IsSameReader, MovesOn, pieces}
use Rattle.hs_run.specs.Stop.{NoFaults}
use Rattle.hs_run.proofs.Handing.{hands_none, hands_reading}
use Rattle.hs_run.proofs.Moving.{Prompts, done, due_handing, made_gives, moves_gathered, moves_over, moves_with, told_gives}
use Rattle.hs_run.proofs.Prompt.{read_all, reading_prompt}
use Rattle.hs_run.proofs.Stops.{no_faults}
use Rattle.hs_run.proofs.Taken.{begun_not_ended, none_before, none_left, over_input, taken, taken_none, taken_whole}

-- pieces stand behind
pub gives_with : {old new : Gathered} (xs ys xs1 ys1 : List Piece) → Gives xs xs1 old new → ys1 ≡ ys → Gives (xs ++ ys) (xs1 ++ ys1) old new
gives_with xs ys xs1 ys1 gives same = record {
  piece = gives.piece;
  is = ap (λ (l : List Piece). l ++ ys) gives.is ∙ ap (λ (l : List Piece). gives.piece ∷ (xs1 ++ l)) (sym same);
  told = gives.told;
  made = gives.made;
}

pub grown_by : {old new : Gathered} (xs xs1 : List Piece) → Gives xs xs1 old new → length old.told ≤ length new.told
grown_by {old} {new} xs xs1 gives = omega (arith, ap length gives.told, length-append old.told gives.piece.told)

begun_before : (old new : EntryReader) → (has_ended old ≡ true → has_ended new ≡ true) → has_ended new ≡ false → has_ended old ≡ false
begun_before old new stays goes_on = by (has_ended old) refl
  where
    by : (e : Bool) → has_ended old ≡ e → has_ended old ≡ false
    by true was = absurd (begun_not_ended new goes_on (stays was))
    by false was = was

pub same_reader : (old new : EntryReader) → reader_ahead new ≡ reader_ahead old → room new ≡ room old → next_number new ≡ next_number old → fault_kept new ≡ fault_kept old → has_ended new ≡ has_ended old → IsSameReader old new
same_reader old new ahead left_room number kept ended = record { left = λ rest. rw (ahead, left_room, number, ended) refl; ahead = ahead; room = left_room; number = number; kept = kept; ended = ended }

module _ {T H : Type 0} (t : turns.Ghosts T) (s : source.Ghosts H) (g : host.Ghosts H) where
  input_none : (h : H) → UsesInput s g h h
  input_none h = record { standing = refl; written = refl; output_faults = refl; files = refl; disk_faults = refl; moments = λ _. since_none _ (g.history h); taken = λ _. refl }

  -- the run with what was gathered, which is marked
  abbrev pub with_gathered : Running T → T → Gathered → Outgoing → Running T
  with_gathered a turns new o = record { reader = a.reader; turns = turns; outgoing = o }

  -- one that needs no more of the input
  pub stepped : {R : Type 0} (a : Running T) (turns : T) (new : Gathered) (o : Outgoing) (h : H) (x : R) → o ≡ marked (record a.outgoing { gathered = new }) → (s.tells → (g.history h).now.out ≡ g.written h)
      → ((f : Future) → t.has_ahead a.turns f → StepsOn (t.has_ahead turns) f a.outgoing.gathered new) → MovesOn t s g a h (with_gathered a turns new o) h (done t s g x)
  stepped {R} a turns new o h x is out steps =
      let unread = s.unread h in
      let items = left_items a.reader unread in
      let b : Running T = record { reader = a.reader; turns = turns; outgoing = marked (record a.outgoing { gathered = new }) } in
      subst (λ (o : Outgoing). MovesOn t s g a h (record { reader = a.reader; turns = turns; outgoing = o }) h (done t s g x)) (sym is) λ f sane.
      let on = steps f sane.at in
      moves_gathered t s g f on.next a b h h sane on.at (input_none h) (omega arith) (no_faults h) out refl refl (grown_by _ _ (on.piece [])) on.commits
      (λ _. gives_with (f.taken items) (f.closing items) (on.next.taken items) (on.next.closing items) (on.piece items) (on.closing items))
      (λ _ more. on.piece (left_whole a.reader unread))
      (λ _. omega arith)
      (λ f sane _ due start is_due. since_none _ (g.history h))
      (λ _ due start is_due. record {
        given = is_due.given;
        taken = is_due.taken;
        told = λ goes_on rest within.
            let whole = whole_of (left_over a.reader rest) in
            told_gives t s g (g.written h) a.outgoing.gathered new (f.taken whole) (on.next.taken whole) (on.piece whole) ∙ is_due.told goes_on rest within;
        made = λ goes_on rest within.
            let whole = whole_of (left_over a.reader rest) in
            made_gives t s g (texts_in (g.files h)) a.outgoing.gathered new (f.taken whole) (on.next.taken whole) (on.piece whole) ∙ is_due.made goes_on rest within;
      })
      x

  -- a reader that has the same ahead of it
  pub moves_reader : (a b : Running T) (h : H) → IsServing s g a.outgoing h → b.turns ≡ a.turns → b.outgoing ≡ a.outgoing → IsSameReader a.reader b.reader → MovesOn {R = Unit {0}} t s g a h b h (Ok tt)
  moves_reader a b h serving turns outgoing same =
      let room = same.left (s.unread h) in
      moves_with t s g a b h h (Ok tt) turns (λ _. ap items_of room) (λ _ _. ap whole_of room) (λ _. omega (arith, ap (λ (l : Left). l.room) room, ap (λ (l : Left). length l.input) room))
      (subst (λ (o : Outgoing). HandsOn {R = Unit {0}} s g a.outgoing h o h (Ok tt)) (sym outgoing) (hands_none s g a.outgoing h serving))
      (λ f sane _ due start is_due. since_none _ (g.history h))
      (λ _ keeps f due start. due_handing t s g f a b h h same.ahead same.room same.number same.ended refl keeps due start)

  -- ---- the next item is read

  -- What the reader of a run asks for: nothing where it is ready, and else nothing is gathered, and each read is needed.
  pub record IsAsking (a : Running T) (reader : EntryReader) (h0 h1 : H) : Type 0 where
    pub resting : (f : Future) → t.has_ahead a.turns f → f.taken [] ≡ []
    pub out : s.tells → (g.history h0).now.out ≡ g.written h0
    pub stays : is_ready a.reader ≡ true → h1 ≡ h0
    pub nothing : is_ready a.reader ≡ false → IsEmpty a.outgoing.gathered
    pub needed : Asks s.reads (λ more. is_ready_with a.reader more ≡ false) (reader_rests reader) h0 h1
    pub law : (a b : H) (bytes : List ℕ) → s.tells → s.reads a b bytes → ((bytes ≡ []) × (g.history b ≡ g.history a)) ⊎ Next (IsAsked (g.history a).now bytes) (g.history a) (g.history b)

  pub prompts_asking : (a : Running T) (reader : EntryReader) (h0 h1 : H) → IsAsking a reader h0 h1 → Prompts t s g a h0 h1
  prompts_asking a reader h0 h1 asking f sane told due start is_due =
      reading_prompt s g due start f a h0 (asking.resting f sane.at) (asking.out told.tells) sane.serving told is_due asking.law h1 asking.stays asking.nothing asking.needed.made asking.needed.needed

  -- so much was taken
  taken_with : (a : Running T) (reader : EntryReader) (h0 h1 : H) → IsAsking a reader h0 h1 → s.tells → (made : List (H × List ℕ)) → AreNeeded s.reads (λ more. is_ready_with a.reader more ≡ false) made h0 h1 → (start : Moment) (given : List ℕ)
      → (g.history h0).now.taken ≡ start.taken ++ given → (g.history h1).now.taken ≡ start.taken ++ (given ++ given_by made)
  taken_with a reader h0 h1 asking tells made needed start given taken =
      (read_all s g asking.law tells (λ more. is_ready_with a.reader more ≡ false) made h0 h1 needed).taken ∙ ap (λ (l : List ℕ). l ++ given_by made) taken ∙ append_assoc start.taken given (given_by made)

  -- once the input has ended nothing more is due
  due_ended : (f next : Future) (a b : Running T) (h0 h1 : H) → IsAsking a b.reader h0 h1 → has_ended b.reader ≡ true → Told s g h0 → (due : Due) (start : Moment) → IsDue g due start f a h0 → IsDue g due start next b h1
  due_ended f next a b h0 h1 asking ended told due start is_due = record {
    given = is_due.given ++ given_by asking.needed.made;
    taken = taken_with a b.reader h0 h1 asking told.tells asking.needed.made asking.needed.needed start is_due.given is_due.taken;
    told = λ goes_on rest within. absurd (begun_not_ended b.reader goes_on ended);
    made = λ goes_on rest within. absurd (begun_not_ended b.reader goes_on ended);
  }

  -- an item is taken that is whole in what was given
  due_given : (f next : Future) (a b : Running T) (h0 h1 : H) (item : Item) → IsAsking a b.reader h0 h1 → has_ended a.reader ≡ false → IsGiven s.reads a.reader item b.reader h0 h1 → UsesInput s g h0 h1
      → ((items : List Item) → Gives (f.taken (item ∷ items)) (next.taken items) a.outgoing.gathered b.outgoing.gathered) → Told s g h0 → (due : Due) (start : Moment) → IsDue g due start f a h0 → IsDue g due start next b h1
  due_given f next a b h0 h1 item asking begun given input pieces_are told due start is_due =
      let bytes = given_by given.made in
      let whole : (rest : List ℕ) → List Item = λ rest. whole_of (left_over b.reader rest) in
      let first : (rest : List ℕ) → whole_of (left_over a.reader (bytes ++ rest)) ≡ item ∷ whole rest = λ rest. taken_whole item _ _ (given.whole rest) in
      let fits : (rest : List ℕ) → length (reader_ahead b.reader ++ rest) ≤ room b.reader → length (reader_ahead a.reader ++ (bytes ++ rest)) ≤ room a.reader = λ rest within. omega (
        arith,
        within,
        given.room,
        length-append (reader_ahead b.reader) rest,
        length-append (reader_ahead b.reader) [],
        length-append (reader_ahead a.reader) (bytes ++ rest),
        length-append (reader_ahead a.reader) bytes,
        length-append bytes rest,
      ) in
      record {
        given = is_due.given ++ bytes;
        taken = taken_with a b.reader h0 h1 asking told.tells given.made given.needed start is_due.given is_due.taken;
        told = λ goes_on rest within.
            told_gives t s g (g.written h1) a.outgoing.gathered b.outgoing.gathered (f.taken (item ∷ whole rest)) (next.taken (whole rest)) (pieces_are (whole rest))
            ∙ ap (λ (w : List ℕ). w ++ (a.outgoing.gathered.told ++ told_by (f.taken (item ∷ whole rest)))) input.written
            ∙ ap (λ (l : List Item). g.written h0 ++ (a.outgoing.gathered.told ++ told_by (f.taken l))) (sym (first rest))
            ∙ is_due.told begun (bytes ++ rest) (fits rest within)
            ∙ ap (λ (l : List ℕ). start.out ++ due.told l) (sym (append_assoc is_due.given bytes rest));
        made = λ goes_on rest within.
            made_gives t s g (texts_in (g.files h1)) a.outgoing.gathered b.outgoing.gathered (f.taken (item ∷ whole rest)) (next.taken (whole rest)) (pieces_are (whole rest))
            ∙ ap (λ (x : Five (List ℕ)). texts_in x ++ (a.outgoing.gathered.made ++ made_by (f.taken (item ∷ whole rest)))) input.files
            ∙ ap (λ (l : List Item). texts_in (g.files h0) ++ (a.outgoing.gathered.made ++ made_by (f.taken l))) (sym (first rest))
            ∙ is_due.made begun (bytes ++ rest) (fits rest within)
            ∙ ap due.made (sym (append_assoc is_due.given bytes rest));
      }

  due_taken : (f next : Future) (a b : Running T) (h0 h1 : H) (item : Item) → IsAsking a b.reader h0 h1 → (has_ended a.reader ≡ true → has_ended b.reader ≡ true) → (has_ended b.reader ≡ false → IsGiven s.reads a.reader item b.reader h0 h1)
      → UsesInput s g h0 h1 → ((items : List Item) → Gives (f.taken (item ∷ items)) (next.taken items) a.outgoing.gathered b.outgoing.gathered) → Told s g h0 → (due : Due) (start : Moment) → IsDue g due start f a h0 → IsDue g due start next b h1
  due_taken f next a b h0 h1 item asking stays given input pieces_are told due start is_due = by (has_ended b.reader) refl
    where
      by : (e : Bool) → has_ended b.reader ≡ e → IsDue g due start next b h1
      by true ended = due_ended f next a b h0 h1 asking ended told due start is_due
      by false goes_on = due_given f next a b h0 h1 item asking (begun_before a.reader b.reader stays goes_on) (given goes_on) input pieces_are told due start is_due

  -- the next item was read, which is the end
  pub moves_ended : (a b : Running T) (h0 h1 : H) (item : Item) → IsServing s g a.outgoing h0 → (s.tells → (g.history h0).now.out ≡ g.written h0) → UsesInput s g h0 h1 → s.input_faults h0 ≤ s.input_faults h1 → NoFaults s g h0 h1 → b.turns ≡ a.turns → b.outgoing ≡ a.outgoing → is_end item ≡ true
      → (s.tells → TakesItem a.reader (s.unread h0) item b.reader (s.unread h1)) → IsOver b.reader → IsAsking a b.reader h0 h1 → MovesOn t s g a h0 b h1 (done t s g false)
  moves_ended a b h0 h1 item serving out input later calm turns outgoing end takes over asking =
      moves_over t s g a b h0 h1 tt false
      (moves_with t s g a b h0 h1 (Ok tt) turns
      (λ tells. none_left b.reader (s.unread h1) over.ended over.none ∙ sym (none_before item _ _ end (takes tells).first))
      (λ tells more. absurd (taken_none item _ _ end ((takes tells).whole more)))
      (λ tells. (takes tells).used)
      (subst (λ (o : Outgoing). HandsOn {R = Unit {0}} s g a.outgoing h0 o h1 (Ok tt)) (sym outgoing) (hands_reading s g a.outgoing h0 h1 serving out input later calm))
      (prompts_asking a b.reader h0 h1 asking)
      (λ told keeps f due start. due_ended f f a b h0 h1 asking over.ended told due start))

  -- it is taken, and a piece was gathered
  pub moves_taken : {R : Type 0} (a : Running T) (reader : EntryReader) (turns : T) (new : Gathered) (o : Outgoing) (h0 h1 : H) (x : R) (item : Item) → o ≡ marked (record a.outgoing { gathered = new }) → (s.tells → (g.history h0).now.out ≡ g.written h0)
      → UsesInput s g h0 h1 → s.input_faults h0 ≤ s.input_faults h1 → NoFaults s g h0 h1 → is_end item ≡ false → (s.tells → TakesItem a.reader (s.unread h0) item reader (s.unread h1))
      → ((f : Future) → t.has_ahead a.turns f → TakesOn (t.has_ahead turns) f item a.outgoing.gathered new) → IsAsking a reader h0 h1 → (has_ended a.reader ≡ true → has_ended reader ≡ true)
      → (has_ended reader ≡ false → IsGiven s.reads a.reader item reader h0 h1) → MovesOn t s g a h0 (record { reader = reader; turns = turns; outgoing = o }) h1 (done t s g x)
  moves_taken {R} a reader turns new o h0 h1 x item is out input later calm more takes takes_on asking stays_ended given =
      let unread = s.unread h1 in
      let items = left_items reader unread in
      let b : Running T = record { reader = reader; turns = turns; outgoing = marked (record a.outgoing { gathered = new }) } in
      subst (λ (o : Outgoing). MovesOn t s g a h0 (record { reader = reader; turns = turns; outgoing = o }) h1 (done t s g x)) (sym is) λ f sane.
      let on = takes_on f sane.at in
      moves_gathered t s g f on.next a b h0 h1 sane on.at input later calm out refl refl (grown_by _ _ (on.piece [])) on.commits
      (λ tells. subst (λ (l : List Item). Gives (pieces f l) (pieces on.next items) a.outgoing.gathered new) (sym (taken item _ _ more (takes tells).first))
      (gives_with (f.taken (item ∷ items)) (f.closing (item ∷ items)) (on.next.taken items) (on.next.closing items) (on.piece items) (on.closing items)))
      (λ tells long. subst (λ (l : List Item). Gives (f.taken l) (on.next.taken (left_whole reader unread)) a.outgoing.gathered new) (sym (taken_whole item _ _ ((takes tells).whole long))) (on.piece (left_whole reader unread)))
      (λ tells. (takes tells).used)
      (prompts_asking a reader h0 h1 asking)
      (due_taken f on.next a b h0 h1 item asking stays_ended given input on.piece)
      x

  -- a piece was gathered at the end of the input
  pub moves_closed : {R : Type 0} (a : Running T) (turns : T) (new : Gathered) (o : Outgoing) (h : H) (x : R) → o ≡ marked (record a.outgoing { gathered = new }) → (s.tells → (g.history h).now.out ≡ g.written h) → IsOver a.reader → ((f : Future) → t.has_ahead a.turns f → f.taken [] ≡ [])
      → ((f : Future) → t.has_ahead a.turns f → ClosesOn (t.has_ahead turns) f a.outgoing.gathered new) → MovesOn t s g a h (record { reader = a.reader; turns = turns; outgoing = o }) h (done t s g x)
  moves_closed {R} a turns new o h x is out over none closes =
      let unread = s.unread h in
      let b : Running T = record { reader = a.reader; turns = turns; outgoing = marked (record a.outgoing { gathered = new }) } in
      let empty : left_items a.reader unread ≡ [] = none_left a.reader unread over.ended over.none in
      subst (λ (o : Outgoing). MovesOn t s g a h (record { reader = a.reader; turns = turns; outgoing = o }) h (done t s g x)) (sym is) λ f sane.
      let on = closes f sane.at in
      let all : Gives (pieces f []) (pieces on.next []) a.outgoing.gathered new = subst (λ (l : List Piece). Gives (l ++ f.closing []) (pieces on.next []) a.outgoing.gathered new) (sym (none f sane.at)) on.piece in
      moves_gathered t s g f on.next a b h h sane on.at (input_none h) (omega arith) (no_faults h) out refl refl (grown_by _ _ on.piece) on.commits
      (λ _. subst (λ (l : List Item). Gives (pieces f l) (pieces on.next l) a.outgoing.gathered new) (sym empty) all)
      (λ _ more. absurd (omega (arith, more, ap length (over_input a.reader unread over.ended over.none))))
      (λ _. omega arith)
      (λ f sane _ due start is_due. since_none _ (g.history h))
      (λ _ due start is_due. record {
        given = is_due.given;
        taken = is_due.taken;
        told = λ goes_on rest within. absurd (begun_not_ended a.reader goes_on over.ended);
        made = λ goes_on rest within. absurd (begun_not_ended a.reader goes_on over.ended);
      })
      x
