-- What is whole in some bytes is so whatever comes behind them.
use Rattle.std.proofs.Common.{◌≡◌, ℕ, zero, suc, ◌+◌, ◌<◌, List, [], ◌∷◌, ◌++◌, length, take, replicate, refl, sym, ap, subst, append_assoc, ◌∙◌, arith, length-append}
use Rattle.std.proofs.lemmas.Bool.{cond_both}
use Rattle.std.proofs.lemmas.List.{length-replicate}
use Rattle.hs_entries.specs.declared.item.Item.{Item}
use Rattle.hs_entries.specs.declared.place.Place.{Place}
use Rattle.hs_entries.specs.declared.place.Place.TheVariants.{Between}
use Rattle.hs_entries.specs.declared.reader.EntryReader.{EntryReader}
use Rattle.hs_entries.specs.Place.{next_place, is_between}
use Rattle.hs_entries.specs.Items.{items_from, no_items}
use Rattle.hs_entries.specs.Left.{RunsOut, Takes, TakesWhole, whole_of}
use Rattle.hs_entries.specs.Reader.{ahead, left_over, next_number, room}

abbrev zeros : ℕ → List ℕ
zeros k = replicate k 0

-- zeros alone have no whole item
none_whole : (n : ℕ) (p : Place) (begun : List ℕ) (most k : ℕ) → items_from no_items n p begun (take most (zeros k)) ≡ []
none_whole n p begun zero k = refl
none_whole n p begun (suc most) zero = refl
none_whole n p begun (suc most) (suc k) =
    cond_both (is_between (next_place p 0)) (items_from no_items n Between [] (take most (zeros k))) (items_from no_items n (next_place p 0) (begun ++ 0 ∷ []) (take most (zeros k))) (λ l. l ≡ [])
    (λ _. none_whole n Between [] most k) (λ _. none_whole n (next_place p 0) (begun ++ 0 ∷ []) most k)

-- and no more are whole where they stand behind some bytes
pub same_whole : (n : ℕ) (p : Place) (begun : List ℕ) (most : ℕ) (bytes : List ℕ) (k : ℕ) → items_from no_items n p begun (take most (bytes ++ zeros k)) ≡ items_from no_items n p begun (take most bytes)
same_whole n p begun zero bytes k = refl
same_whole n p begun (suc most) [] k = none_whole n p begun (suc most) k
same_whole n p begun (suc most) (b ∷ bytes) k =
    rw (same_whole (n + 1) Between [] most bytes k, same_whole n Between [] most bytes k, same_whole n (next_place p b) (begun ++ b ∷ []) most bytes k) refl

-- So the item that is taken is whole where it is so whatever comes behind: also behind as many zeros as go beyond the limit.
pub whole_taken : (old new : EntryReader) (item : Item) (given : List ℕ) → ((rest : List ℕ) → Takes (left_over old (given ++ rest)) item (left_over new rest))
    → (rest : List ℕ) → TakesWhole (whole_of (left_over old (given ++ rest))) item (whole_of (left_over new rest))
whole_taken old new item given takes rest =
    let zs = zeros (room old + 1) in
    let one = takes (rest ++ zs) in
    let first : ahead old ++ (given ++ (rest ++ zs)) ≡ (ahead old ++ (given ++ rest)) ++ zs =
    ap (λ (l : List ℕ). ahead old ++ l) (sym (append_assoc given rest zs)) ∙ sym (append_assoc (ahead old) (given ++ rest) zs) in
    let out : RunsOut (left_over old (given ++ (rest ++ zs))) =
    omega (arith, ap length first, length-append (ahead old ++ (given ++ rest)) zs, length-replicate {A = ℕ} (room old + 1) 0) in
    let before : whole_of (left_over old (given ++ (rest ++ zs))) ≡ whole_of (left_over old (given ++ rest)) =
    ap (λ (l : List ℕ). items_from no_items (next_number old) Between [] (take (room old) l)) first ∙ same_whole (next_number old) Between [] (room old) (ahead old ++ (given ++ rest)) (room old + 1) in
    let after : whole_of (left_over new (rest ++ zs)) ≡ whole_of (left_over new rest) =
    ap (λ (l : List ℕ). items_from no_items (next_number new) Between [] (take (room new) l)) (sym (append_assoc (ahead new) rest zs)) ∙ same_whole (next_number new) Between [] (room new) (ahead new ++ rest) (room old + 1) in
    subst (λ (l : List Item). TakesWhole l item (whole_of (left_over new rest))) before (subst (λ (l : List Item). TakesWhole (whole_of (left_over old (given ++ (rest ++ zs)))) item l) after (one.whole out))
