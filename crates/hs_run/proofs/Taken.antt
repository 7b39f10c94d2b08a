-- Items that are taken from those that are left.
use Rattle.std.proofs.Common.{◌≡◌, ◌<◌, ◌≤◌, ℕ, Bool, true, false, cond, List, [], ◌∷◌, ◌++◌, length, take, refl, sym, ap, ◌∙◌}
use Rattle.std.proofs.lemmas.List.{take_all}
use Rattle.hs_entries.specs.declared.item.Item.{Item}
use Rattle.hs_entries.specs.declared.item.Item.TheVariants.{Entry, Bad, TooLong, End}
use Rattle.hs_entries.specs.declared.place.Place.TheVariants.{Between}
use Rattle.hs_entries.specs.declared.reader.EntryReader.{EntryReader}
use Rattle.hs_entries.specs.Place.{is_entry}
use Rattle.hs_entries.specs.Items.{items_from, cut_items, no_items, items, whole_items}
use Rattle.hs_entries.specs.Left.{TakesFirst, TakesWhole, whole_of}
use Rattle.hs_entries.specs.Reader.{ahead, has_ended, left, room, next_number, left_items, left_over, left_whole, Shrinks}
use Rattle.hs_run.specs.Items.{is_end}

pub taken : (item : Item) (before after : List Item) → is_end item ≡ false → TakesFirst before item after → before ≡ item ∷ after
taken (Entry n s t a) before after more is = is
taken (Bad n) before after more is = is
taken (TooLong n) before after more is = is
taken End before after more is = absurd (cc)

pub taken_whole : (item : Item) (before after : List Item) → TakesWhole before item after → before ≡ item ∷ after
taken_whole (Entry n s t a) before after is = is
taken_whole (Bad n) before after is = is
taken_whole (TooLong n) before after is = is
taken_whole End before after is = absurd is

-- at the end there were none
pub none_before : (item : Item) (before after : List Item) → is_end item ≡ true → TakesFirst before item after → before ≡ []
none_before (Entry n s t a) before after end is = absurd (cc)
none_before (Bad n) before after end is = absurd (cc)
none_before (TooLong n) before after end is = absurd (cc)
none_before End before after end is = is

pub ended : (item : Item) → is_end item ≡ true → item ≡ End
ended (Entry n s t a) end = absurd (cc)
ended (Bad n) end = absurd (cc)
ended (TooLong n) end = absurd (cc)
ended End end = refl

-- an item that isn't the end uses bytes
pub uses_bytes : (item : Item) (before now : ℕ) → is_end item ≡ false → Shrinks item before now → now < before
uses_bytes (Entry n s t a) before now more shrinks = shrinks
uses_bytes (Bad n) before now more shrinks = shrinks
uses_bytes (TooLong n) before now more shrinks = shrinks
uses_bytes End before now more shrinks = absurd (cc)

-- where the input has ended and nothing is at hand no items are left
pub none_left : (r : EntryReader) (rest : List ℕ) → has_ended r ≡ true → ahead r ≡ [] → left_items r rest ≡ []
unfolding is_entry
none_left r rest ended none =
    ap (λ (b : Bool). items_from cut_items (next_number r) Between [] (ahead r ++ cond b [] rest)) ended ∙ ap (λ (bytes : List ℕ). items_from cut_items (next_number r) Between [] (bytes ++ [])) none

-- a new reader has all items of the input before it
pub fresh_items : (r : EntryReader) (input : List ℕ) → has_ended r ≡ false → ahead r ≡ [] → next_number r ≡ 1 → left_items r input ≡ items 1 input
fresh_items r input begun none first =
    ap (λ (b : Bool). items_from cut_items (next_number r) Between [] (ahead r ++ cond b [] input)) begun
    ∙ ap (λ (n : ℕ). items_from cut_items n Between [] (ahead r ++ input)) first ∙ ap (λ (l : List ℕ). items 1 (l ++ input)) none

pub fresh_whole : (r : EntryReader) (input : List ℕ) (limit : ℕ) → has_ended r ≡ false → ahead r ≡ [] → next_number r ≡ 1 → room r ≡ limit → left_whole r input ≡ whole_items 1 (take limit input)
fresh_whole r input limit begun none first all =
    ap (λ (b : Bool). items_from no_items (next_number r) Between [] (take (room r) (ahead r ++ cond b [] input))) begun
    ∙ ap (λ (n : ℕ). items_from no_items n Between [] (take (room r) (ahead r ++ input))) first
    ∙ ap (λ (k : ℕ). whole_items 1 (take k (ahead r ++ input))) all
    ∙ ap (λ (l : List ℕ). whole_items 1 (take limit (l ++ input))) none

pub fresh_over : (r : EntryReader) (bytes : List ℕ) → ahead r ≡ [] → next_number r ≡ 1 → length (ahead r ++ bytes) ≤ room r → whole_of (left_over r bytes) ≡ whole_items 1 bytes
fresh_over r bytes none first within =
    ap (λ (n : ℕ). items_from no_items n Between [] (take (room r) (ahead r ++ bytes))) first
    ∙ ap (whole_items 1) (take_all (room r) (ahead r ++ bytes) within) ∙ ap (λ (l : List ℕ). whole_items 1 (l ++ bytes)) none

-- at the end none is taken from those that are whole
pub taken_none : (item : Item) (before after : List Item) → is_end item ≡ true → TakesWhole before item after → ⊥
taken_none (Entry n s t a) before after end is = absurd (cc)
taken_none (Bad n) before after end is = absurd (cc)
taken_none (TooLong n) before after end is = absurd (cc)
taken_none End before after end is = is

-- what is at hand for a new reader, and for one at the end
pub fresh_input : (r : EntryReader) (rest : List ℕ) → has_ended r ≡ false → ahead r ≡ [] → (left r rest).input ≡ rest
fresh_input r rest begun none = ap (λ (b : Bool). ahead r ++ cond b [] rest) begun ∙ ap (λ (l : List ℕ). l ++ rest) none

pub over_input : (r : EntryReader) (rest : List ℕ) → has_ended r ≡ true → ahead r ≡ [] → (left r rest).input ≡ []
over_input r rest ended none = ap (λ (b : Bool). ahead r ++ cond b [] rest) ended ∙ ap (λ (l : List ℕ). l ++ []) none

pub begun_not_ended : (r : EntryReader) → has_ended r ≡ false → has_ended r ≡ true → ⊥
begun_not_ended r begun ended = let e : false ≡ true = sym begun ∙ ended in cc
