-- What is left of an input, one step after another.
use Rattle.std.proofs.Common.{◌≡◌, ℕ, suc, ◌+◌, ◌-◌, ◌<◌, ◌≤◌, true, false, Bool, List, [], ◌∷◌, ◌++◌, Option, Some, None, Result, Ok, Err, IfOk, length, take, drop, slice_index, slice_range, length-append, refl, sym, ap, subst, append_assoc, append-nil, ◌∙◌, arith}
use Rattle.std.proofs.Math.Seq.{take-append-add}
use Rattle.std.proofs.lemmas.List.{take-take, take-append-drop, drop_more, get_or-take, length-take, length-take-le, length-drop, length_push, length-replicate}
use Rattle.std.proofs.lemmas.List.Edits.{length-between}
use Rattle.std.proofs.lemmas.Bool.Decides.{nat_tests}
use Rattle.hs_entries.specs.declared.item.Item.{Item}
use Rattle.hs_entries.specs.declared.item.Item.TheVariants.{Entry, Bad, TooLong, End}
use Rattle.hs_entries.specs.declared.input_fault.InputFault.{InputFault}
use Rattle.hs_entries.specs.declared.item.TheConstants.{MOST_BYTES}
use Rattle.hs_entries.specs.declared.place.Place.{Place}
use Rattle.hs_entries.specs.declared.place.Place.TheVariants.{Between}
use Rattle.hs_entries.specs.Place.{next_place, ends, stops, leads, is_entry}
use Rattle.hs_entries.specs.Entry.{item_of, is_too_long}
use Rattle.hs_entries.specs.Items.{items_from, cut_items, no_items}
use Rattle.hs_entries.specs.Left.{Left, items_of, whole_of, RunsOut, IsBeyond, TakesFirst, TakesWhole, IsNumbered, Takes, Continues, long}
use Rattle.hs_entries.specs.Reader.{cut_at, Shrinks}
use Rattle.hs_entries.specs.Taking.{Becomes}
use Rattle.hs_entries.proofs.ItemSteps.{items_from-end, items_from-skip, items_from-leads, items_from-window, items_from-within}
use Rattle.hs_entries.specs.declared.window.Window.{Window}
use Rattle.hs_entries.specs.Window.{begun_of, left_of, ahead_of, room_of, IsSound, IsAtEnd, IsFresh}
use Rattle.hs_entries.proofs.Leading.{stop_leads}
use Rattle.hs_entries.proofs.Looking.{length-ahead, left_of-next}
use Rattle.hs_entries.proofs.Sessions.{item_of-long, item_of-numbered, cut_item_of-long, cut_item_of-short}

abbrev pub left_at : ℕ → Place → List ℕ → ℕ → List ℕ → Left
left_at n p begun room input = record { number = n; place = p; begun = begun; room = room; input = input }

pub continues_trans : (a b c : Left) → Continues a b → Continues b c → Continues a c
continues_trans a b c first then = record { items = first.items ∙ then.items; whole = first.whole ∙ then.whole; room = omega (arith, first.room, then.room) }

pub continues_sym : (a b : Left) → Continues a b → Continues b a
continues_sym a b on = record { items = sym on.items; whole = sym on.whole; room = omega (arith, on.room) }

runs_out_on : (a b : Left) → Continues a b → RunsOut a → RunsOut b
runs_out_on a b on out = omega (arith, on.room)

pub continues_takes : (a b c : Left) (i : Item) → Continues a b → Takes b i c → Takes a i c
continues_takes a b c i on one =
    record {
      first = let P : List Item → Type 0 = λ l. TakesFirst l i (items_of c) in subst P (sym on.items) one.first;
      whole = λ out. let P : List Item → Type 0 = λ l. TakesWhole l i (whole_of c) in subst P (sym on.whole) (one.whole (runs_out_on a b on out));
      room = omega (arith, on.room, one.room);
      end = one.end;
    }

pub continues_beyond : (a b : Left) → Continues a b → IsBeyond b → IsBeyond a
continues_beyond a b on beyond = record { more = let more = beyond.more in omega (arith, on.room); none = on.whole ∙ beyond.none }

-- an item that has a number isn't the end
takes_first : (i : Item) (n : ℕ) (before after : List Item) → IsNumbered i n (n + 1) → before ≡ i ∷ after → TakesFirst before i after
takes_first (Entry m s t at) n before after number is = is
takes_first (Bad m) n before after number is = is
takes_first (TooLong m) n before after number is = is
takes_first End n before after number is = absurd (omega arith)

takes_whole : (i : Item) (n : ℕ) (before after : List Item) → IsNumbered i n (n + 1) → before ≡ i ∷ after → TakesWhole before i after
takes_whole (Entry m s t at) n before after number is = is
takes_whole (Bad m) n before after number is = is
takes_whole (TooLong m) n before after number is = is
takes_whole End n before after number is = absurd (omega arith)

not_end : (i : Item) (n : ℕ) → IsNumbered i n (n + 1) → i ≡ End → ⊥
not_end (Entry m s t at) n number is = cc
not_end (Bad m) n number is = cc
not_end (TooLong m) n number is = cc
not_end End n number is = omega arith

-- an entry ends
pub ends_step : (n : ℕ) (p : Place) (begun : List ℕ) (room b : ℕ) (ys : List ℕ) → ends p b ≡ true → 0 < room
    → Takes (left_at n p begun room (b ∷ ys)) (item_of n (begun ++ b ∷ [])) (left_at (n + 1) Between [] (room - 1) ys)
ends_step n p begun room b ys is some =
    let item = item_of n (begun ++ b ∷ []) in
    let number = item_of-numbered n (begun ++ b ∷ []) in
    let one : room ≡ suc (room - 1) = omega arith in
    record {
      first = takes_first item n _ _ number (items_from-end cut_items n p begun b ys is);
      whole = λ _. takes_whole item n _ _ number
          (ap (λ (k : ℕ). items_from no_items n p begun (take k (b ∷ ys))) one ∙ items_from-end no_items n p begun b (take (room - 1) ys) is);
      room = omega arith;
      end = λ h. absurd (not_end item n number h);
    }

-- bytes lead on
pub leads_on : (n : ℕ) (p q : Place) (begun xs ys : List ℕ) (room : ℕ) → leads p xs ≡ Some q
    → Continues (left_at n p begun (length xs + room) (xs ++ ys)) (left_at n q (begun ++ xs) room ys)
leads_on n p q begun xs ys room h =
    let long_is = length-append xs ys in
    record {
      items = items_from-leads cut_items n p q begun xs ys h;
      whole = ap (λ (l : List ℕ). items_from no_items n p begun l) (take-append-add xs ys room) ∙ items_from-leads no_items n p q begun xs (take room ys) h;
      room = omega arith;
    }

-- what was begun is skipped
pub skip_on : (n : ℕ) (p : Place) (begun : List ℕ) (room b : ℕ) (ys : List ℕ) → ends p b ≡ false → next_place p b ≡ Between → 0 < room
    → Continues (left_at n p begun room (b ∷ ys)) (left_at n Between [] (room - 1) ys)
skip_on n p begun room b ys on back some =
    let one : room ≡ suc (room - 1) = omega arith in
    record {
      items = items_from-skip cut_items n p begun b ys on back;
      whole = ap (λ (k : ℕ). items_from no_items n p begun (take k (b ∷ ys))) one ∙ items_from-skip no_items n p begun b (take (room - 1) ys) on back;
      room = omega arith;
    }

-- nothing more may be used
pub beyond_limit : (n : ℕ) (p : Place) (begun : List ℕ) (input : List ℕ) → 0 < length input → IsBeyond (left_at n p begun 0 input)
beyond_limit n p begun input more = record { more = more; none = refl }

is_entry-Between : is_entry Between ≡ false
unfolding is_entry
is_entry-Between = refl

no_cut : (n : ℕ) → cut_items n Between [] ≡ []
no_cut n = rw is_entry-Between refl

-- the input ends
pub cut_step : (n m : ℕ) (p : Place) (begun : List ℕ) (room : ℕ) (too_long : Bool) → is_too_long begun ≡ too_long
    → Takes (left_at n p begun room []) (cut_at p too_long n) (left_at m Between [] room [])
cut_step n m p begun room too_long is =
    record {
      first = cut_first (is_entry p) refl too_long is;
      whole = λ out. absurd (omega arith);
      room = refl;
      end = λ _. refl;
    }
  where
    cut_first : (v : Bool) → is_entry p ≡ v → (w : Bool) → is_too_long begun ≡ w → TakesFirst (items_of (left_at n p begun room [])) (cut_at p w n) (items_of (left_at m Between [] room []))
    cut_first true h true k = rw h (ap (λ (i : Item). i ∷ []) (cut_item_of-long n begun k) ∙ ap (λ (l : List Item). TooLong n ∷ l) (sym (no_cut m)))
    cut_first true h false k = rw h (ap (λ (i : Item). i ∷ []) (cut_item_of-short n begun k) ∙ ap (λ (l : List Item). Bad n ∷ l) (sym (no_cut m)))
    cut_first false h w k = rw h refl

-- Of a front that is too long only that is told.
module _ (last : ℕ → Place → List ℕ → List Item) (least : ℕ) (high : MOST_BYTES ≤ least)
    (alike : (n : ℕ) (q : Place) (xs ys : List ℕ) → least ≤ length xs → least ≤ length ys → last n q xs ≡ last n q ys) where
  pub items_from-long : (n : ℕ) (p : Place) (xs ys zs : List ℕ) → least ≤ length xs → least ≤ length ys
      → items_from last n p xs zs ≡ items_from last n p ys zs
  items_from-long n p xs ys [] h k = alike n p xs ys h k
  items_from-long n p xs ys (z ∷ zs) h k =
      let xs_long = item_of-long n (xs ++ z ∷ []) (let more = length_push xs z in omega arith) in
      let ys_long = item_of-long n (ys ++ z ∷ []) (let more = length_push ys z in omega arith) in
      let later = items_from-long n (next_place p z) (xs ++ z ∷ []) (ys ++ z ∷ []) zs (let more = length_push xs z in omega arith) (let more = length_push ys z in omega arith) in
      grind (arith, xs_long, ys_long, later)

too_long_true : (xs : List ℕ) → MOST_BYTES < length xs → is_too_long xs ≡ true
too_long_true xs h = grind (arith, nat_tests, h)

pub too_long_false : (xs : List ℕ) → length xs ≤ MOST_BYTES → is_too_long xs ≡ false
too_long_false xs h = grind (arith, nat_tests, h)

-- an entry that the input ends and that is too long is so whatever its bytes
cut_alike : (n : ℕ) (q : Place) (xs ys : List ℕ) → MOST_BYTES + 1 ≤ length xs → MOST_BYTES + 1 ≤ length ys → cut_items n q xs ≡ cut_items n q ys
cut_alike n q xs ys h k =
    let first = cut_item_of-long n xs (too_long_true xs (omega arith)) in
    let then = cut_item_of-long n ys (too_long_true ys (omega arith)) in
    grind (arith, first, then)

pub length-long : length long ≡ MOST_BYTES + 1
unfolding long
length-long = length-replicate {A = ℕ} (MOST_BYTES + 1) 0

pub long_too_long : is_too_long long ≡ true
long_too_long = too_long_true long (omega (arith, length-long))

-- the front of an entry that is too long is as good as any other
pub long_on : (n : ℕ) (p : Place) (xs : List ℕ) (room : ℕ) (input : List ℕ) → MOST_BYTES < length xs
    → Continues (left_at n p xs room input) (left_at n p long room input)
long_on n p xs room input h =
    record {
      items = items_from-long cut_items (MOST_BYTES + 1) (omega arith) cut_alike n p xs long input (omega arith) (omega (arith, length-long));
      whole = items_from-long no_items MOST_BYTES (omega arith) (λ _ _ _ _ _ _. refl) n p xs long (take room input) (omega arith) (omega (arith, length-long));
      room = refl;
    }

-- and so is one that a byte that comes makes too long, if it isn't so yet
pub long_next : (n : ℕ) (p : Place) (xs : List ℕ) (room : ℕ) (input : List ℕ) → MOST_BYTES ≤ length xs → 0 < length input
    → Continues (left_at n p xs room input) (left_at n p long room input)
long_next n p xs room [] h some = absurd (omega arith)
long_next n p xs room (z ∷ zs) h some =
    let more = length_push xs z in
    let more_long = length_push long z in
    let xs_long = item_of-long n (xs ++ z ∷ []) (omega arith) in
    let ys_long = item_of-long n (long ++ z ∷ []) (omega (arith, length-long)) in
    let later = items_from-long cut_items (MOST_BYTES + 1) (omega arith) cut_alike n (next_place p z) (xs ++ z ∷ []) (long ++ z ∷ []) zs (omega arith) (omega (arith, length-long)) in
    record {
      items = grind (arith, xs_long, ys_long, later);
      whole = items_from-long no_items MOST_BYTES (omega arith) (λ _ _ _ _ _ _. refl) n p xs long (take room (z ∷ zs)) (omega arith) (omega (arith, length-long));
      room = refl;
    }

-- what is left for a window that has looked at bytes
pub window_on : (n : ℕ) (w : Window) (rest : List ℕ) → IsSound w
    → Continues (left_at n Between [] (room_of w) (ahead_of w ++ rest)) (left_at n w.place (begun_of w) w.room (left_of w ++ rest))
window_on n w rest sound =
    let ahead = length-ahead w sound in
    let before = length-append (ahead_of w) rest in
    let after = length-append (left_of w) rest in
    record {
      items = items_from-window cut_items n w sound rest;
      whole = items_from-within no_items n w sound rest;
      room = omega arith;
    }

pub takes_at : (n m : ℕ) (p : Place) (begun input input' after after' : List ℕ) (room k k' : ℕ) (i j : Item) → input ≡ input' → after ≡ after'
    → k ≡ k' → i ≡ j → Takes (left_at n p begun room input') j (left_at m Between [] k' after') → Takes (left_at n p begun room input) i (left_at m Between [] k after)
takes_at n m p begun input input' after after' room k k' i j input_is after_is room_is item_is one = rw (input_is, after_is, room_is, item_is) one

pub fresh_room : (w : Window) → IsFresh w → room_of w ≡ w.room
fresh_room w fresh = omega (arith, fresh)

-- a window uses an entry that it has found
pub entry_step : (n : ℕ) (w after : Window) (item : Item) (rest : List ℕ) → IsSound w → IsAtEnd w
    → item ≡ item_of n (begun_of w ++ slice_index w.buffer.items w.at ∷ []) → ahead_of after ≡ drop 1 (left_of w) → IsFresh after → after.room + 1 ≡ w.room
    → Takes (left_at n Between [] (room_of w) (ahead_of w ++ rest)) item (left_at (n + 1) Between [] (room_of after) (ahead_of after ++ rest))
entry_step n w after item rest sound at_end item_is ahead_is fresh room_is =
    let byte = slice_index w.buffer.items w.at in
    let more = slice_range w.buffer.items (w.at + 1) w.end in
    let next = left_of-next w sound at_end.next in
    continues_takes _ (left_at n w.place (begun_of w) w.room (left_of w ++ rest)) _ item (window_on n w rest sound)
    (takes_at n (n + 1) w.place (begun_of w) (left_of w ++ rest) (byte ∷ (more ++ rest)) (ahead_of after ++ rest) (more ++ rest) w.room (room_of after) (w.room - 1) item
    (item_of n (begun_of w ++ byte ∷ []))
    (ap (λ (l : List ℕ). l ++ rest) next)
    (ap (λ (l : List ℕ). l ++ rest) (ahead_is ∙ ap (λ (l : List ℕ). drop 1 l) next))
    (let has = fresh_room after fresh in omega (arith, room_is))
    item_is
    (ends_step n w.place (begun_of w) w.room byte (more ++ rest) at_end.ends at_end.room))

-- a window has read more
pub refill_on : (n : ℕ) (w after : Window) (unread unread' : List ℕ) → IsSound w → IsSound after → left_of w ≡ [] → begun_of after ≡ begun_of w
    → after.place ≡ w.place → after.room ≡ w.room → left_of after ++ unread' ≡ unread
    → Continues (left_at n Between [] (room_of w) (ahead_of w ++ unread)) (left_at n Between [] (room_of after) (ahead_of after ++ unread'))
refill_on n w after unread unread' sound sound' looked begun_is place_is room_is bytes =
    let same : left_at n w.place (begun_of w) w.room (left_of w ++ unread) ≡ left_at n after.place (begun_of after) after.room (left_of after ++ unread') =
    rw (begun_is, place_is, room_is, bytes, looked) refl in
    continues_trans _ (left_at n w.place (begun_of w) w.room (left_of w ++ unread)) _ (window_on n w unread sound)
    (let P : Left → Type 0 = λ l. Continues l (left_at n Between [] (room_of after) (ahead_of after ++ unread')) in
    subst P (sym same) (continues_sym _ _ (window_on n after unread' sound')))

pub refill_grows : (w after : Window) → IsSound w → IsSound after → left_of w ≡ [] → after.room ≡ w.room → 0 < length (left_of after)
    → room_of after + length (ahead_of w) < room_of w + length (ahead_of after)
refill_grows w after sound sound' looked room_is more =
    let none : length (left_of w) ≡ 0 = ap (λ (l : List ℕ). length l) looked in
    omega (arith, length-ahead w sound, length-ahead after sound')

-- an entry that is begun has a byte
pub begun_some : (p : Place) (xs : List ℕ) → leads Between xs ≡ Some p → is_entry p ≡ true → 0 < length xs
begun_some p [] h entry =
    let same : Between ≡ p = cc in
    let no : is_entry p ≡ false = ap is_entry (sym same) ∙ is_entry-Between in absurd cc
begun_some p (x ∷ xs) h entry = omega arith

pub cut_shrinks : (p : Place) (too_long : Bool) (n before now : ℕ) → (is_entry p ≡ true → now < before) → now ≤ before → Shrinks (cut_at p too_long n) before now
cut_shrinks p too_long n before now some all = go (is_entry p) refl too_long
  where
    go : (v : Bool) → is_entry p ≡ v → (w : Bool) → Shrinks (cut_at p w n) before now
    go true h true = rw h (some h)
    go true h false = rw h (some h)
    go false h w = rw h all

-- a window has looked at all bytes, and the input ends
pub cut_at_end_step : (n m : ℕ) (w after : Window) (too_long : Bool) → IsSound w → left_of w ≡ [] → is_too_long (begun_of w) ≡ too_long
    → ahead_of after ≡ [] → room_of after ≡ w.room
    → Takes (left_at n Between [] (room_of w) (ahead_of w ++ [])) (cut_at w.place too_long n) (left_at m Between [] (room_of after) (ahead_of after ++ []))
cut_at_end_step n m w after too_long sound looked is ahead_is room_is =
    let at_end : left_of w ++ [] ≡ [] = append-nil (left_of w) ∙ looked in
    let left_over : ahead_of after ++ [] ≡ [] = append-nil (ahead_of after) ∙ ahead_is in
    continues_takes _ (left_at n w.place (begun_of w) w.room (left_of w ++ [])) _ (cut_at w.place too_long n) (window_on n w [] sound)
    (takes_at n m w.place (begun_of w) (left_of w ++ []) [] (ahead_of after ++ []) [] w.room (room_of after) w.room (cut_at w.place too_long n) (cut_at w.place too_long n)
    at_end left_over room_is refl (cut_step n m w.place (begun_of w) w.room too_long is))

pub passed_some : (w : Window) → IsSound w → is_entry w.place ≡ true → w.room < room_of w
passed_some w sound entry =
    let some = begun_some w.place (begun_of w) sound.leads entry in
    let begun = length-between w.buffer.items w.first w.at (let left = sound.left in let end = sound.end in omega arith) in
    let skipped = sound.skipped in
    omega arith

pub fresh_ahead : (w : Window) → IsFresh w → ahead_of w ≡ left_of w
fresh_ahead w fresh = ap (λ (i : ℕ). slice_range w.buffer.items i w.end) fresh

-- bytes lead on in an entry that is too long
skim_on : (n : ℕ) (from q : Place) (left rest : List ℕ) (room k count : ℕ) → leads from (take count (take room left)) ≡ Some q
    → count ≤ length (take room left) → room ≡ count + k → Continues (left_at n from long room (left ++ rest)) (left_at n q long k (drop count left ++ rest))
skim_on n from q left rest room k count h within room_is =
    let short = length-take room left in
    let front : take count (take room left) ≡ take count left = take-take count room left (omega arith) in
    let size : length (take count left) ≡ count = length-take-le count left (omega arith) in
    let all : left ++ rest ≡ take count left ++ (drop count left ++ rest) =
    ap (λ (l : List ℕ). l ++ rest) (sym (take-append-drop count left)) ∙ append_assoc (take count left) (drop count left) rest in
    let start : left_at n from long room (left ++ rest) ≡ left_at n from long (length (take count left) + k) (take count left ++ (drop count left ++ rest)) =
    ap (λ (i : ℕ). left_at n from long i (left ++ rest)) (omega (arith, size)) ∙ ap (λ (l : List ℕ). left_at n from long (length (take count left) + k) l) all in
    let leads_all : leads from (take count left) ≡ Some q = ap (λ (l : List ℕ). leads from l) (sym front) ∙ h in
    let grown = length-append long (take count left) in
    let on = leads_on n from q long (take count left) (drop count left ++ rest) k leads_all in
    let P : Left → Type 0 = λ l. Continues l (left_at n q long k (drop count left ++ rest)) in
    subst P (sym start) (continues_trans _ _ _ on (long_on n q (long ++ take count left) k (drop count left ++ rest) (omega (arith, length-long))))

-- the byte behind them
skim_byte : (left : List ℕ) (room count : ℕ) → count < length (take room left) → drop count left ≡ slice_index (take room left) count ∷ drop (count + 1) left
skim_byte left room count inside =
    let short = length-take room left in
    drop_more left count 0 (omega arith) ∙ ap (λ (b : ℕ). b ∷ drop (count + 1) left) (sym (get_or-take room left count 0 (omega arith)))

module _ (n : ℕ) (from q : Place) (w after : Window) (count : ℕ) (rest : List ℕ) (fresh : IsFresh w) (fresh' : IsFresh after)
    (h : leads from (take count (take w.room (left_of w))) ≡ Some q) where
  -- no more bytes are at hand
  pub skim_nothing : count ≤ length (take w.room (left_of w)) → ahead_of after ≡ drop count (left_of w) → after.room + count ≡ w.room
      → Continues (left_at n from long (room_of w) (ahead_of w ++ rest)) (left_at n q long (room_of after) (ahead_of after ++ rest))
  skim_nothing within ahead_is room_is =
      rw (fresh_room w fresh, fresh_ahead w fresh, fresh_room after fresh', ahead_is) (skim_on n from q (left_of w) rest w.room after.room count h within (omega (arith, room_is)))

  -- no more bytes may be used
  pub skim_limit : count ≡ length (take w.room (left_of w)) → ahead_of after ≡ drop count (left_of w) → after.room + count ≡ w.room → 0 < length (ahead_of after)
      → IsBeyond (left_at n from long (room_of w) (ahead_of w ++ rest)) × (room_of after < length (ahead_of after))
  skim_limit whole ahead_is room_is more =
      let short = length-take w.room (left_of w) in
      let behind = length-drop count (left_of w) in
      let size : length (ahead_of after) ≡ length (drop count (left_of w)) = ap (λ (l : List ℕ). length l) ahead_is in
      let full : after.room ≡ 0 = omega (arith, room_is) in
      let none : room_of after ≡ 0 = fresh_room after fresh' ∙ full in
      let on = skim_nothing (omega arith) ahead_is room_is in
      let total = length-append (ahead_of after) rest in
      let beyond : IsBeyond (left_at n q long (room_of after) (ahead_of after ++ rest)) = rw none (beyond_limit n q long (ahead_of after ++ rest) (omega arith)) in
      (continues_beyond _ _ on beyond, omega arith)

  -- the entry ends
  pub skim_entry : count < length (take w.room (left_of w)) → ahead_of after ≡ drop (count + 1) (left_of w) → after.room + (count + 1) ≡ w.room
      → ends q (slice_index (take w.room (left_of w)) count) ≡ true
      → Takes (left_at n from long (room_of w) (ahead_of w ++ rest)) (TooLong n) (left_at (n + 1) Between [] (room_of after) (ahead_of after ++ rest))
  skim_entry inside ahead_is room_is is =
      let byte = slice_index (take w.room (left_of w)) count in
      let on : Continues (left_at n from long (room_of w) (ahead_of w ++ rest)) (left_at n q long (after.room + 1) (drop count (left_of w) ++ rest)) =
      rw (fresh_room w fresh, fresh_ahead w fresh) (skim_on n from q (left_of w) rest w.room (after.room + 1) count h (omega arith) (omega (arith, room_is))) in
      let more = length_push long byte in
      continues_takes _ _ _ _ on (takes_at n (n + 1) q long (drop count (left_of w) ++ rest) (byte ∷ (drop (count + 1) (left_of w) ++ rest)) (ahead_of after ++ rest)
      (drop (count + 1) (left_of w) ++ rest) (after.room + 1) (room_of after) ((after.room + 1) - 1) (TooLong n) (item_of n (long ++ byte ∷ []))
      (ap (λ (l : List ℕ). l ++ rest) (skim_byte (left_of w) w.room count inside))
      (ap (λ (l : List ℕ). l ++ rest) ahead_is)
      (let has = fresh_room after fresh' in omega arith)
      (sym (item_of-long n (long ++ byte ∷ []) (omega (arith, length-long))))
      (ends_step n q long (after.room + 1) byte (drop (count + 1) (left_of w) ++ rest) is (omega arith)))

  -- the comment ends
  pub skim_skipped : count < length (take w.room (left_of w)) → ahead_of after ≡ drop (count + 1) (left_of w) → after.room + (count + 1) ≡ w.room
      → ends q (slice_index (take w.room (left_of w)) count) ≡ false → stops q (slice_index (take w.room (left_of w)) count) ≡ true
      → Continues (left_at n from long (room_of w) (ahead_of w ++ rest)) (left_at n Between [] (room_of after) (ahead_of after ++ rest))
  skim_skipped inside ahead_is room_is goes stop =
      let byte = slice_index (take w.room (left_of w)) count in
      let on : Continues (left_at n from long (room_of w) (ahead_of w ++ rest)) (left_at n q long (after.room + 1) (drop count (left_of w) ++ rest)) =
      rw (fresh_room w fresh, fresh_ahead w fresh) (skim_on n from q (left_of w) rest w.room (after.room + 1) count h (omega arith) (omega (arith, room_is))) in
      let back = stop_leads q byte byte stop refl goes in
      let skip = skip_on n q long (after.room + 1) byte (drop (count + 1) (left_of w) ++ rest) goes back (omega arith) in
      let same : left_at n q long (after.room + 1) (drop count (left_of w) ++ rest) ≡ left_at n q long (after.room + 1) (byte ∷ (drop (count + 1) (left_of w) ++ rest)) =
      ap (λ (l : List ℕ). left_at n q long (after.room + 1) (l ++ rest)) (skim_byte (left_of w) w.room count inside) in
      let end : left_at n Between [] ((after.room + 1) - 1) (drop (count + 1) (left_of w) ++ rest) ≡ left_at n Between [] (room_of after) (ahead_of after ++ rest) =
      ap (λ (k : ℕ). left_at n Between [] k (drop (count + 1) (left_of w) ++ rest)) (let has = fresh_room after fresh' in omega arith)
      ∙ ap (λ (l : List ℕ). left_at n Between [] (room_of after) (l ++ rest)) (sym ahead_is) in
      let P : Left → Type 0 = λ l. Continues l (left_at n Between [] ((after.room + 1) - 1) (drop (count + 1) (left_of w) ++ rest)) in
      let Q : Left → Type 0 = λ l. Continues (left_at n from long (room_of w) (ahead_of w ++ rest)) l in
      subst Q end (continues_trans _ _ _ on (subst P (sym same) skip))

pub continues_same : (n n' : ℕ) (p : Place) (begun : List ℕ) (room room' : ℕ) (input input' : List ℕ) → n ≡ n' → room ≡ room' → input ≡ input'
    → Continues (left_at n p begun room input) (left_at n' p begun room' input')
continues_same n n' p begun room room' input input' n_is room_is input_is =
    rw (n_is, room_is, input_is) (record { items = refl; whole = refl; room = refl })

-- an entry or a comment of which no further byte is kept, and to which a byte comes
pub long_start : (n n' : ℕ) (w : Window) (unread input : List ℕ) (k : ℕ) → IsSound w → MOST_BYTES ≤ length (begun_of w) → input ≡ left_of w ++ unread
    → 0 < length input → n' ≡ n → k ≡ w.room → Continues (left_at n Between [] (room_of w) (ahead_of w ++ unread)) (left_at n' w.place long k input)
long_start n n' w unread input k sound full input_is some n_is k_is =
    let on = long_next n w.place (begun_of w) w.room (left_of w ++ unread) full (rw (← input_is) some) in
    rw (n_is, k_is, input_is) (continues_trans _ _ _ (window_on n w unread sound) on)

-- and one to which none comes
pub long_cut : (n m : ℕ) (w after : Window) (unread : List ℕ) (too_long : Bool) → IsSound w → left_of w ≡ [] → is_too_long (begun_of w) ≡ too_long → unread ≡ []
    → ahead_of after ≡ [] → room_of after ≡ w.room
    → Takes (left_at n Between [] (room_of w) (ahead_of w ++ unread)) (cut_at w.place too_long n) (left_at m Between [] (room_of after) (ahead_of after ++ unread))
long_cut n m w after unread too_long sound looked is unread_is ahead_is room_is =
    rw unread_is (cut_at_end_step n m w after too_long sound looked is ahead_is room_is)

-- what holds of a step holds of it behind another
pub becomes_on : (a b c : Left) (result : Result (Option Item) InputFault) → Continues a b → IfOk result (λ item. Becomes b item c)
    → IfOk result (λ item. Becomes a item c)
becomes_on a b c (Ok None) on then = continues_trans a b c on then
becomes_on a b c (Ok (Some i)) on then = continues_takes a b c i on then
becomes_on a b c (Err e) on then = tt

-- a window has looked at all bytes that may be used, and another is at hand
pub limit_beyond : (n : ℕ) (w : Window) (unread : List ℕ) → IsSound w → w.room ≡ 0 → 0 < length (left_of w)
    → IsBeyond (left_at n Between [] (room_of w) (ahead_of w ++ unread))
limit_beyond n w unread sound full more =
    let all = length-append (left_of w) unread in
    let beyond : IsBeyond (left_at n w.place (begun_of w) w.room (left_of w ++ unread)) = rw full (beyond_limit n w.place (begun_of w) (left_of w ++ unread) (omega arith)) in
    continues_beyond _ _ (window_on n w unread sound) beyond
