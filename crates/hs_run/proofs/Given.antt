-- The items of an input may be taken, and are text.
use Rattle.std.proofs.Common.{◌≡◌, ℕ, ◌+◌, ◌≤◌, Bool, true, false, subst, List, [], ◌∷◌, ◌++◌, length, refl, arith}
use Rattle.std.specs.Prelude.{◌&&◌, if◌then◌else◌, codes}
use Rattle.std.specs.List.{list_any, position_or_len}
use Rattle.std.specs.Str.{is_utf8}
use Rattle.std.proofs.lemmas.Bool.{and_parts, and_from, cond_both, le-leb, ltb-false}
use Rattle.std.proofs.lemmas.List.{length-drop}
use Rattle.hs_entries.specs.declared.item.Item.{Item}
use Rattle.hs_entries.specs.declared.item.Item.TheVariants as item
use Rattle.hs_entries.specs.declared.place.Place.{Place}
use Rattle.hs_entries.specs.declared.place.Place.TheVariants.{Between}
use Rattle.hs_entries.specs.Place.{next_place, ends, is_between, is_entry}
use Rattle.hs_entries.specs.Entry.{is_colon, is_session, session_of, statement_of as text_of, place_of, has_session, is_too_long, item_of, cut_item_of}
use Rattle.hs_entries.specs.Items.{items_from, cut_items, items}
use Rattle.hs_run.specs.Items.{AreTold, is_told}

abbrev Told : Item → Type 0
Told item = is_told item ≡ true

-- an entry is its session's name, the colon and its statement
split_at : (b : ℕ) (bytes : List ℕ) (is : Bool) → is_colon b ≡ is → (list_any is_colon bytes ≡ true → bytes ≡ session_of bytes ++ codes ":" ++ text_of bytes) → list_any is_colon (b ∷ bytes) ≡ true → b ∷ bytes ≡ session_of (b ∷ bytes) ++ codes ":" ++ text_of (b ∷ bytes)
split_at b bytes true is rest some = grind (arith, is)
split_at b bytes false is rest some = grind (arith, is, rest, some)

split_is : (bytes : List ℕ) → list_any is_colon bytes ≡ true → bytes ≡ session_of bytes ++ codes ":" ++ text_of bytes
split_is [] some = let no : false ≡ true = some in absurd (cc)
split_is (b ∷ bytes) some = split_at b bytes (is_colon b) refl (split_is bytes) some

entry_is_text : (bytes : List ℕ) → has_session bytes ≡ true → is_utf8 bytes ≡ true → is_utf8 (session_of bytes ++ codes ":" ++ text_of bytes) ≡ true
entry_is_text bytes has utf8 = subst (λ (l : List ℕ). is_utf8 l ≡ true) (split_is bytes (and_parts (list_any is_colon bytes) (is_session (session_of bytes)) has).0) utf8

-- a statement is shorter than its entry
statement_within : (bytes : List ℕ) → is_too_long bytes ≡ false → length (text_of bytes) ≤ 65536
statement_within bytes short = omega (arith, ltb-false 65536 (length bytes) short, length-drop (position_or_len is_colon bytes + 1) bytes)

item_told : (n : ℕ) (bytes : List ℕ) → Told (item_of n bytes)
unfolding item_of
item_told n bytes =
    cond_both (is_too_long bytes) (item.TooLong n) (if has_session bytes && is_utf8 bytes then item.Entry n (session_of bytes) (text_of bytes) (place_of bytes) else item.Bad n) Told (λ _. refl)
    λ short. cond_both (has_session bytes && is_utf8 bytes) (item.Entry n (session_of bytes) (text_of bytes) (place_of bytes)) (item.Bad n) Told
    (λ h. let both = and_parts (has_session bytes) (is_utf8 bytes) h in
    and_from _ _ (and_from _ _ (and_parts (list_any is_colon bytes) (is_session (session_of bytes)) both.0).1 (le-leb (length (text_of bytes)) 65536 (statement_within bytes short))) (entry_is_text bytes both.0 both.1)) (λ _. refl)

cut_told : (n : ℕ) (bytes : List ℕ) → Told (cut_item_of n bytes)
unfolding cut_item_of
cut_told n bytes = cond_both (is_too_long bytes) (item.TooLong n) (item.Bad n) Told (λ _. refl) (λ _. refl)

-- of any bytes, begun anywhere, whatever is made of what is left at the end
module _ (last : ℕ → Place → List ℕ → List Item) (last_told : (n : ℕ) (place : Place) (begun : List ℕ) → AreTold (last n place begun)) where
  pub all_told : (n : ℕ) (place : Place) (begun input : List ℕ) → AreTold (items_from last n place begun input)
  all_told n place begun [] = last_told n place begun
  all_told n place begun (b ∷ bytes) =
      cond_both (ends place b) (item_of n (begun ++ b ∷ []) ∷ items_from last (n + 1) Between [] bytes)
      (if is_between (next_place place b) then items_from last n Between [] bytes else items_from last n (next_place place b) (begun ++ b ∷ []) bytes) AreTold
      (λ _. and_from _ _ (item_told n (begun ++ b ∷ [])) (all_told (n + 1) Between [] bytes))
      λ _. cond_both (is_between (next_place place b)) (items_from last n Between [] bytes) (items_from last n (next_place place b) (begun ++ b ∷ []) bytes) AreTold
      (λ _. all_told n Between [] bytes) (λ _. all_told n (next_place place b) (begun ++ b ∷ []) bytes)

pub items_told : (n : ℕ) (input : List ℕ) → AreTold (items n input)
items_told n input =
    all_told cut_items (λ m place begun. cond_both (is_entry place) (cut_item_of m begun ∷ []) [] AreTold (λ _. and_from _ _ (cut_told m begun) refl) (λ _. refl)) n Between [] input
