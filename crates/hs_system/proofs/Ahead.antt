-- What is ahead of a run in a system tells of no commit that isn't made, and its lines answer each item.
use Rattle.std.proofs.Common.{◌≡◌, ℕ, ◌+◌, ◌&&◌, true, List, [], ◌∷◌, length, refl, arith}
use Rattle.std.specs.Prelude.{Bool, count_by, nat_le}
use Rattle.std.specs.Str.{is_utf8}
use Rattle.std.proofs.lemmas.Bool.{and_from, and_parts}
use Rattle.hs_turns.specs.Database.{Database}
use Rattle.hs_entries.specs.Entry.{is_session}
use Rattle.hs_entries.specs.declared.item.Item.{Item}
use Rattle.hs_entries.specs.declared.item.Item.TheVariants as item
use Rattle.hs_futures.specs.Futures.{future_of}
use Rattle.hs_futures.specs.Laws.{IsTold}
use Rattle.hs_futures.proofs.Whole.{whole_true}
use Rattle.hs_plainwords.specs.Plain.{are_called, is_called}
use Rattle.hs_plainwords.proofs.Answered.{all_answered}
use Rattle.hs_plainwords.proofs.Turns.{one_told}
use Rattle.hs_logged.specs.Redone.{State}
use Rattle.hs_run.specs.Items.{AreTold, is_told}
use Rattle.hs_run.specs.Running.{IsTrue}
use Rattle.hs_schema.specs.Catalogue.{Things}
use Rattle.hs_turns.specs.Laws.{is_item}
use Rattle.hs_turns.specs.Turns.{whole_text}
use Rattle.hs_system.specs.Answers.{answers_among, lines_of}
use Rattle.hs_system.specs.Governed.{IsGoverned}
use Rattle.hs_system.specs.Openings.{IsSound, future_at, room_behind, world_of}
use Rattle.hs_system.specs.System.{System}
use Rattle.hs_system.proofs.Grounded.{made_regular}

one_called : (i : Item) → is_told i ≡ true → is_called i ≡ true
one_called (item.Entry number name statement at) is =
    let parts = and_parts (is_session name && nat_le (length statement) 65536) (is_utf8 (whole_text name statement)) is in
    let taken = and_parts (is_session name) (nat_le (length statement) 65536) parts.0 in
    and_from (is_session name) (is_utf8 (whole_text name statement)) taken.0 parts.1
one_called (item.Bad number) is = refl
one_called (item.TooLong number) is = refl
one_called item.End is = refl

called : (items : List Item) → AreTold items → are_called items ≡ true
called [] told = refl
called (i ∷ items) told = let parts = and_parts (is_told i) _ told in and_from (is_called i) (are_called items) (one_called i parts.0) (called items parts.1)

pub begins_so : (y : System) (at : State) (made size : ℕ) → (future_at y at made size).commits ≡ made
unfolding future_of
begins_so y at made size = let none : made + 0 ≡ made = omega arith in none

module _ (is_named : Things → Bool) (Regular : Database → Type 0) (y : System) (g : IsGoverned is_named Regular y) where
  told : (texts : List (List ℕ)) (at : State) (made size : ℕ) → IsSound y texts at → IsTold (world_of y at made size)
  told texts at made size sound =
      let room = room_behind y at size in
      let regular = g.regular at.database (made_regular is_named Regular y g texts at sound.made) in
      λ items n t are is. one_told is_named (y.dialect room) (g.language room).plain at.database made regular.named items n t (called items are) is

  pub is_true_ : (texts : List (List ℕ)) (at : State) (made size : ℕ) → IsSound y texts at → IsTrue (future_at y at made size)
  is_true_ texts at made size sound = whole_true (world_of y at made size) (told texts at made size sound)

  pub answered : (texts : List (List ℕ)) (at : State) (made size : ℕ) → IsSound y texts at → (items : List Item) → AreTold items → (number : ℕ) → answers_among number (lines_of y at made size items) ≡ count_by (is_item number) items
  answered texts at made size sound items are number =
      let room = room_behind y at size in
      let regular = g.regular at.database (made_regular is_named Regular y g texts at sound.made) in
      all_answered is_named (y.dialect room) (g.language room).plain at.database made regular.named items number (called items are)
