-- How the items of bytes follow from those of the rest.
use Rattle.std.proofs.Common.{◌≡◌, ℕ, ◌+◌, ◌-◌, true, false, List, [], ◌∷◌, ◌++◌, Some, length, take, refl, sym, ap, append_assoc, append-nil, ◌∙◌, arith}
use Rattle.std.proofs.Math.Seq.{take-append-add}
use Rattle.std.proofs.lemmas.List.Edits.{length-between}
use Rattle.hs_entries.specs.declared.item.Item.{Item}
use Rattle.hs_entries.specs.declared.place.Place.{Place}
use Rattle.hs_entries.specs.declared.place.Place.TheVariants.{Between}
use Rattle.hs_entries.specs.declared.window.Window.{Window}
use Rattle.hs_entries.specs.Place.{next_place, ends, stops, leads, passes, is_between}
use Rattle.hs_entries.specs.Entry.{item_of}
use Rattle.hs_entries.specs.Items.{items_from}
use Rattle.hs_entries.specs.Window.{skipped_of, begun_of, left_of, ahead_of, room_of, IsSound}
use Rattle.hs_entries.proofs.Leading.{between_is, is_between-Between, leads_step, passes_step}
use Rattle.hs_entries.proofs.Spans.{span-append}

module _ (last : ℕ → Place → List ℕ → List Item) (n : ℕ) where
  -- an entry ends
  pub items_from-end : (p : Place) (begun : List ℕ) (b : ℕ) (ys : List ℕ) → ends p b ≡ true
      → items_from last n p begun (b ∷ ys) ≡ item_of n (begun ++ b ∷ []) ∷ items_from last (n + 1) Between [] ys
  items_from-end p begun b ys h = rw h refl

  -- what was begun is skipped
  pub items_from-skip : (p : Place) (begun : List ℕ) (b : ℕ) (ys : List ℕ) → ends p b ≡ false → next_place p b ≡ Between
      → items_from last n p begun (b ∷ ys) ≡ items_from last n Between [] ys
  items_from-skip p begun b ys on back =
      let skips : is_between (next_place p b) ≡ true = ap is_between back ∙ is_between-Between in
      rw on (rw skips refl)

  -- one byte more is begun
  pub items_from-more : (p : Place) (begun : List ℕ) (b : ℕ) (ys : List ℕ) → stops p b ≡ false
      → items_from last n p begun (b ∷ ys) ≡ items_from last n (next_place p b) (begun ++ b ∷ []) ys
  items_from-more p begun b ys h = grind (arith, h)

  -- bytes that lead on are begun
  pub items_from-leads : (p q : Place) (begun xs ys : List ℕ) → leads p xs ≡ Some q
      → items_from last n p begun (xs ++ ys) ≡ items_from last n q (begun ++ xs) ys
  items_from-leads p q begun [] ys h =
      let same : p ≡ q = cc in
      ap (λ (r : Place). items_from last n r begun ys) same ∙ ap (λ (l : List ℕ). items_from last n q l ys) (sym (append-nil begun))
  items_from-leads p q begun (x ∷ xs) ys h =
      let step = leads_step p q x xs h in
      items_from-more p begun x (xs ++ ys) step.0 ∙ items_from-leads (next_place p x) q (begun ++ x ∷ []) xs ys step.1
      ∙ ap (λ (l : List ℕ). items_from last n q l ys) (append_assoc begun (x ∷ []) xs)

  -- bytes that lead between two entries are skipped
  pub items_from-passes : (p : Place) (begun xs ys : List ℕ) → passes p xs ≡ Some Between → (p ≡ Between → begun ≡ [])
      → items_from last n p begun (xs ++ ys) ≡ items_from last n Between [] ys
  items_from-passes p begun [] ys h fresh =
      let same : p ≡ Between = cc in
      ap (λ (r : Place). items_from last n r begun ys) same ∙ ap (λ (l : List ℕ). items_from last n Between l ys) (fresh same)
  items_from-passes p begun (x ∷ xs) ys h fresh =
      let step = passes_step p Between x xs h in
      elim (is_between (next_place p x)) as (λ v. is_between (next_place p x) ≡ v → items_from last n p begun (x ∷ xs ++ ys) ≡ items_from last n Between [] ys) [
        | true ↦ λ back.
            let place = between_is (next_place p x) back in
            items_from-skip p begun x (xs ++ ys) step.0 place ∙ items_from-passes Between [] xs ys (ap (λ (r : Place). passes r xs) (sym place) ∙ step.1) (λ _. refl)
        | false ↦ λ on.
            let goes : stops p x ≡ false = grind (arith, step.0, on) in
            items_from-more p begun x (xs ++ ys) goes
            ∙ items_from-passes (next_place p x) (begun ++ x ∷ []) xs ys step.1 (λ is. let back = ap is_between is ∙ is_between-Between in cc)
      ] refl

  -- from what a window has looked at the items are those from where it stands
  pub items_from-passed : (skipped begun rest : List ℕ) (p : Place) → passes Between skipped ≡ Some Between → leads Between begun ≡ Some p
      → items_from last n Between [] ((skipped ++ begun) ++ rest) ≡ items_from last n p begun rest
  items_from-passed skipped begun rest p first then =
      ap (λ (l : List ℕ). items_from last n Between [] l) (append_assoc skipped begun rest)
      ∙ items_from-passes Between [] skipped (begun ++ rest) first (λ _. refl)
      ∙ items_from-leads Between p [] begun rest then

-- what a window has at hand is what it has looked at, and what is left
pub ahead_of-parts : (w : Window) → IsSound w → (skipped_of w ++ begun_of w) ++ left_of w ≡ ahead_of w
ahead_of-parts w sound =
    ap (λ (l : List ℕ). l ++ left_of w) (span-append w.buffer.items w.start w.first w.at sound.skipped sound.begun)
    ∙ span-append w.buffer.items w.start w.at w.end (omega arith) sound.left

pub length-passed : (w : Window) → IsSound w → length (skipped_of w ++ begun_of w) ≡ w.at - w.start
length-passed w sound =
    ap (λ (l : List ℕ). length l) (span-append w.buffer.items w.start w.first w.at sound.skipped sound.begun)
    ∙ length-between w.buffer.items w.start w.at (omega arith)

module _ (last : ℕ → Place → List ℕ → List Item) (n : ℕ) (w : Window) (sound : IsSound w) (rest : List ℕ) where
  -- the items from a window on
  pub items_from-window : items_from last n Between [] (ahead_of w ++ rest) ≡ items_from last n w.place (begun_of w) (left_of w ++ rest)
  items_from-window =
      ap (λ (l : List ℕ). items_from last n Between [] l) (ap (λ (l : List ℕ). l ++ rest) (sym (ahead_of-parts w sound)) ∙ append_assoc (skipped_of w ++ begun_of w) (left_of w) rest)
      ∙ items_from-passed last n (skipped_of w) (begun_of w) (left_of w ++ rest) w.place sound.skips sound.leads

  -- the same among the bytes that may be used
  pub items_from-within : items_from last n Between [] (take (room_of w) (ahead_of w ++ rest)) ≡ items_from last n w.place (begun_of w) (take w.room (left_of w ++ rest))
  items_from-within =
      let passed = skipped_of w ++ begun_of w in
      let used : room_of w ≡ length passed + w.room = omega (arith, length-passed w sound) in
      ap (λ (l : List ℕ). items_from last n Between [] (take (room_of w) l)) (ap (λ (l : List ℕ). l ++ rest) (sym (ahead_of-parts w sound)) ∙ append_assoc (skipped_of w ++ begun_of w) (left_of w) rest)
      ∙ ap (λ (k : ℕ). items_from last n Between [] (take k (passed ++ (left_of w ++ rest)))) used
      ∙ ap (λ (l : List ℕ). items_from last n Between [] l) (take-append-add passed (left_of w ++ rest) w.room)
      ∙ items_from-passed last n (skipped_of w) (begun_of w) (take w.room (left_of w ++ rest)) w.place sound.skips sound.leads
