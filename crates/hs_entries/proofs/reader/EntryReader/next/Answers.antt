use Rattle.std.proofs.Common.{rules, ◌≡◌, ◌∙◌, ◌++◌, ℕ, List, [], false, true, None, is_some, if◌then◌else◌, length, Bool, Result, Ok, Err, MatchResult, IfOk, refl, ap, subst, append-nil, arith}
use Rattle.hs_entries.specs.declared.reader.EntryReader.{EntryReader}
use Rattle.hs_entries.specs.declared.place.Place.TheVariants.{Between}
use Rattle.hs_entries.specs.Items.{items_from, cut_items}
use Rattle.hs_entries.specs.Place.{is_entry}
use Rattle.hs_entries.specs.Reader.{ahead, has_ended, left_items, left_over, rests, is_ready_with, next_number}
use Rattle.hs_entries.specs.Asking.{Asks, Gets, NeedsMore, given_by}
use Rattle.hs_entries.specs.declared.input_fault.InputFault.{InputFault}
use Rattle.hs_entries.specs.declared.item.Item.{Item}
use Rattle.hs_entries.specs.Left.{KeepsRoom, Left}
use Rattle.hs_entries.specs.Taking.{IsGiven}
use Rattle.hs_entries.proofs.Asking.{or_false, asks_weaker, gets_asks, needed_weaker}
use Rattle.hs_entries.proofs.Behind.{whole_taken}
use Rattle.hs_entries.proofs.reader.EntryReader.next.Goals as goal

-- nothing is left for a reader that has ended
none_over : (r : EntryReader) (rest : List ℕ) → has_ended r ≡ true → ahead r ++ (if has_ended r then [] else rest) ≡ []
none_over r rest ended =
    ap (λ (l : List ℕ). l ++ (if has_ended r then [] else rest)) (r.rested ended) ∙ rw ended refl

none_left : (r : EntryReader) (rest : List ℕ) → has_ended r ≡ true → left_items r rest ≡ []
unfolding is_entry
none_left r rest ended = ap (λ (l : List ℕ). items_from cut_items (next_number r) Between [] l) (none_over r rest ended)

pub returns-then-self-clause-items : goal.returns-then-self-clause-items
returns-then-self-clause-items g c = λ told.
    record {
      first = none_left c.args.self.now (g.S.Source.unread c.args.source.now) c.if-self.true;
      whole = λ out.
          let none = ap (λ (l : List ℕ). length l) (none_over c.args.self.now (g.S.Source.unread c.args.source.now) c.if-self.true) in
          absurd (omega (arith, none, out));
      used = search rules;
    }

pub returns-then-self-clause-counts : goal.returns-then-self-clause-counts
returns-then-self-clause-counts g c =
    record { number = search rules; shrinks = search rules; end = λ _. (c.if-self.true, c.args.self.now.rested c.if-self.true) }

pub returns-in-Err-clause-needed : goal.returns-in-Err-clause-needed
returns-in-Err-clause-needed g c =
    let r = c.args.self.now in
    let none : r.kept ≡ None = search rules in
    let on : r.has_ended ≡ false = search rules in
    asks_weaker g.S.Source.reads (λ more. NeedsMore (left_over r more)) (λ more. is_ready_with r more ≡ false) true _ c.args.source.now c.read_item-item.new.source
    (λ more needs. or_false (rests r) _ (or_false (is_some r.kept) r.has_ended (ap is_some none) on) needs) (λ _. search rules) (search rules)

-- that one needs more says that its answer isn't ready
needs_ready : (r : EntryReader) → r.kept ≡ None → r.has_ended ≡ false → (more : List ℕ) → NeedsMore (left_over r more) → is_ready_with r more ≡ false
needs_ready r none on more needs = or_false (rests r) _ (or_false (is_some r.kept) r.has_ended (ap is_some none) on) needs

-- what was asked for where there was no fault
ok_asks : {T : Type 0} (reads : T → T → List ℕ → Type 0) (old new : List ℕ → Left) (ended : Bool) (result : Result Item InputFault) (a c : T) → ((e : InputFault) → result ≡ Err e → ⊥)
    → MatchResult result (λ item. Gets reads old item new ended a c) (λ _. Asks reads (λ given. NeedsMore (old given)) true a c) → Asks reads (λ given. NeedsMore (old given)) ended a c
ok_asks reads old new ended (Ok item) a c none gets = gets_asks reads old new item ended a c gets
ok_asks reads old new ended (Err e) a c none asks = absurd (none e refl)

pub returns-in_default-item-clause-needed : goal.returns-in_default-item-clause-needed
returns-in_default-item-clause-needed g c =
    let r = c.args.self.now in
    let new = c.read_item-item.new.self in
    let none : r.kept ≡ None = search rules in
    let on : r.has_ended ≡ false = search rules in
    asks_weaker g.S.Source.reads (λ more. NeedsMore (left_over r more)) (λ more. is_ready_with r more ≡ false) new.has_ended _ c.args.source.now c.read_item-item.new.source
    (needs_ready r none on) (λ ended. search rules)
    (ok_asks g.S.Source.reads (left_over r) (left_over new) new.has_ended c.read_item-item.result c.args.source.now c.read_item-item.new.source c.in_default-item.not-Err c.read_item-item.ensures.needed)

-- and what was given
ok_given : {T : Type 0} (reads : T → T → List ℕ → Type 0) (old new : EntryReader) (result : Result Item InputFault) (a c : T) → old.kept ≡ None → old.has_ended ≡ false
    → MatchResult result (λ item. Gets reads (left_over old) item (left_over new) new.has_ended a c) (λ _. Asks reads (λ given. NeedsMore (left_over old given)) true a c)
    → IfOk result (λ item. has_ended new ≡ false → IsGiven reads old item new a c)
ok_given reads old new (Err e) a c none on asks = tt
ok_given reads old new (Ok item) a c none on gets = λ goes_on.
    let takes = gets.takes goes_on in
    record {
      made = gets.made;
      needed = needed_weaker reads (λ more. NeedsMore (left_over old more)) (λ more. is_ready_with old more ≡ false) gets.made a c (needs_ready old none on) gets.needed;
      room = subst (λ (l : List ℕ). KeepsRoom (left_over old l) (left_over new [])) (append-nil (given_by gets.made)) (takes []).room;
      whole = whole_taken old new item (given_by gets.made) takes;
    }

pub returns-in_default-item-clause-given : goal.returns-in_default-item-clause-given
returns-in_default-item-clause-given g c =
    let r = c.args.self.now in
    let none : r.kept ≡ None = search rules in
    let on : r.has_ended ≡ false = search rules in
    ok_given g.S.Source.reads r c.read_item-item.new.self c.read_item-item.result c.args.source.now c.read_item-item.new.source none on c.read_item-item.ensures.needed
