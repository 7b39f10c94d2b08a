-- What is left of a list whose end and whose front are cut off.
use Rattle.std.proofs.Common.{◌≡◌, ◌⊎◌, ℕ, ◌+◌, ◌-◌, ◌<◌, ◌≤◌, List, [], ◌∷◌, ◌++◌, length, take, drop, min, nat_le, refl, sym, ap, ◌∙◌, arith, inl, inr}
use Rattle.std.proofs.lemmas.Bool.{cases_Bool, leb-true, leb-false}
use Rattle.std.proofs.lemmas.List.{drop-take, take_all, drop_all, length-drop, length-take, take-append-drop}
use Rattle.hs_values.specs.declared.value.Value.{Value}
use Rattle.hs_rel.specs.Groups.{cut_rows}

take_most : {X : Type 0} (n : ℕ) (xs : List X) → take (min n (length xs)) xs ≡ take n xs
take_most n xs = elim (cases_Bool (nat_le n (length xs))) [
  | inl h ↦ let le = leb-true n (length xs) h in ap (λ k. take k xs) (omega arith)
  | inr h ↦
      let more = leb-false n (length xs) h in
      take_all (min n (length xs)) xs (omega arith) ∙ sym (take_all n xs (omega arith))
]

drop_most : {X : Type 0} (n : ℕ) (xs : List X) → drop (min n (length xs)) xs ≡ drop n xs
drop_most n xs = elim (cases_Bool (nat_le n (length xs))) [
  | inl h ↦ let le = leb-true n (length xs) h in ap (λ k. drop k xs) (omega arith)
  | inr h ↦
      let more = leb-false n (length xs) h in
      drop_all (min n (length xs)) xs (omega arith) ∙ sym (drop_all n xs (omega arith))
]

pub cut_owned : (offset limit start n : ℕ) (rows : List (List Value)) → start ≡ min offset (length rows) → n ≡ min limit (length rows - start) → drop start (take (start + n) rows) ≡ cut_rows offset limit rows
cut_owned offset limit start n rows first most =
    let left : drop start rows ≡ drop offset rows = ap (λ k. drop k rows) first ∙ drop_most offset rows in
    let many : length (drop start rows) ≡ length rows - start = length-drop start rows in
    drop-take start n rows
    ∙ ap (λ k. take k (drop start rows)) (most ∙ ap (min limit) (sym many))
    ∙ take_most limit (drop start rows)
    ∙ ap (take limit) left

pub cut_length : (offset limit : ℕ) (rows : List (List Value)) → length (cut_rows offset limit rows) ≡ min limit (length rows - offset)
cut_length offset limit rows = length-take limit (drop offset rows) ∙ ap (min limit) (length-drop offset rows)

pub cut_parts : (offset limit : ℕ) (rows : List (List Value)) → rows ≡ take offset rows ++ (cut_rows offset limit rows ++ drop limit (drop offset rows))
cut_parts offset limit rows = sym (take-append-drop offset rows) ∙ ap (λ l. take offset rows ++ l) (sym (take-append-drop limit (drop offset rows)))
