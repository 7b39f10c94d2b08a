-- What a look at the bytes at hand tells of their items.
use Rattle.std.proofs.Common.{◌≡◌, ℕ, suc, ◌+◌, ◌-◌, ◌<◌, ◌≤◌, true, false, ◌||◌, nat_lt, List, [], ◌∷◌, ◌++◌, length, take, slice_range, slice_index, length-append, refl, sym, ap, append-nil, ◌∙◌, arith}
use Rattle.std.proofs.lemmas.List.{take_all}
use Rattle.std.proofs.lemmas.Bool.Decides.{nat_tests}
use Rattle.hs_entries.specs.declared.window.Window.{Window}
use Rattle.hs_entries.specs.declared.window.Look.{Look}
use Rattle.hs_entries.specs.declared.window.Look.TheVariants.{Entry, Limit, Nothing}
use Rattle.hs_entries.specs.Items.{items_from, no_items, whole_items, has_item}
use Rattle.hs_entries.specs.Window.{skipped_of, begun_of, left_of, ahead_of, room_of, IsSound, IsAtEnd}
use Rattle.hs_entries.specs.Reader.{finds}
use Rattle.hs_entries.proofs.ItemSteps.{items_from-end, items_from-within, ahead_of-parts, length-passed}
use Rattle.hs_entries.proofs.Spans.{span-append, span_one}

-- the first of the bytes that weren't looked at
pub left_of-next : (w : Window) → IsSound w → w.at < w.end → left_of w ≡ slice_index w.buffer.items w.at ∷ slice_range w.buffer.items (w.at + 1) w.end
left_of-next w sound inside =
    let end = sound.end in
    sym (span-append w.buffer.items w.at (w.at + 1) w.end (omega arith) (omega arith))
    ∙ ap (λ (l : List ℕ). l ++ slice_range w.buffer.items (w.at + 1) w.end) (span_one w.buffer.items w.at (omega arith))

pub length-ahead : (w : Window) → IsSound w → length (ahead_of w) ≡ (w.at - w.start) + length (left_of w)
length-ahead w sound =
    ap (λ (l : List ℕ). length l) (sym (ahead_of-parts w sound)) ∙ length-append (skipped_of w ++ begun_of w) (left_of w)
    ∙ ap (λ (k : ℕ). k + length (left_of w)) (length-passed w sound)

module _ (w : Window) (sound : IsSound w) (n : ℕ) where
  -- among the bytes that may be used
  hand : whole_items n (take (room_of w) (ahead_of w)) ≡ items_from no_items n w.place (begun_of w) (take w.room (left_of w))
  hand =
      ap (λ (l : List ℕ). whole_items n (take (room_of w) l)) (sym (append-nil (ahead_of w)))
      ∙ items_from-within no_items n w sound []
      ∙ ap (λ (l : List ℕ). items_from no_items n w.place (begun_of w) (take w.room l)) (append-nil (left_of w))

  -- an entry is found
  pub found_at_hand : IsAtEnd w → has_item (whole_items n (take (room_of w) (ahead_of w))) ≡ true
  found_at_hand at_end =
      let byte = slice_index w.buffer.items w.at in
      let more = slice_range w.buffer.items (w.at + 1) w.end in
      let some : w.room ≡ suc (w.room - 1) = let room = at_end.room in omega arith in
      let next : take w.room (left_of w) ≡ byte ∷ take (w.room - 1) more =
      ap (λ (l : List ℕ). take w.room l) (left_of-next w sound at_end.next) ∙ ap (λ (k : ℕ). take k (byte ∷ more)) some in
      ap has_item (hand ∙ ap (λ (l : List ℕ). items_from no_items n w.place (begun_of w) l) next
      ∙ items_from-end no_items n w.place (begun_of w) byte (take (w.room - 1) more) at_end.ends)

  -- nothing is found, and nothing is left
  pub none_at_hand : left_of w ≡ [] → whole_items n (take (room_of w) (ahead_of w)) ≡ []
  none_at_hand none =
      hand ∙ ap (λ (l : List ℕ). items_from no_items n w.place (begun_of w) (take w.room l)) none
      ∙ ap (λ (l : List ℕ). items_from no_items n w.place (begun_of w) l) (take_all w.room [] (omega arith))

  pub none_at_hand_within : left_of w ≡ [] → nat_lt (room_of w) (length (ahead_of w)) ≡ false
  none_at_hand_within none =
      let all = length-ahead w sound in
      let no : length (left_of w) ≡ 0 = ap (λ (l : List ℕ). length l) none in
      let within : length (ahead_of w) ≤ room_of w = omega arith in
      grind (arith, nat_tests, within)

  pub limit_at_hand : w.room ≡ 0 → 0 < length (left_of w) → nat_lt (room_of w) (length (ahead_of w)) ≡ true
  limit_at_hand full more =
      let all = length-ahead w sound in
      let beyond : room_of w < length (ahead_of w) = omega arith in
      grind (arith, nat_tests, beyond)

  -- what is found tells whether the next item is at hand
  pub look_tells : (result : Look) → (result ≡ Entry → IsAtEnd w) → (result ≡ Limit → (w.room ≡ 0) × (0 < length (left_of w)))
      → (result ≡ Nothing → left_of w ≡ [])
      → finds result ≡ (nat_lt (room_of w) (length (ahead_of w)) || has_item (whole_items n (take (room_of w) (ahead_of w))))
  look_tells Entry entry limit nothing = let found = found_at_hand (entry refl) in grind (arith, found)
  look_tells Limit entry limit nothing =
      let (full, more) = limit refl in
      let beyond = limit_at_hand full more in grind (arith, beyond)
  look_tells Nothing entry limit nothing =
      let none : has_item (whole_items n (take (room_of w) (ahead_of w))) ≡ false = ap has_item (none_at_hand (nothing refl)) in
      let within = none_at_hand_within (nothing refl) in grind (arith, none, within)
