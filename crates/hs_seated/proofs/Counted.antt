-- Numbers of inserted rows, one change after another.
use Rattle.std.proofs.Common.{◌≡◌, ℕ, suc, ◌+◌, ◌<◌, ◌||◌, List, [], ◌∷◌, ◌++◌, get_or, length, take, map, refl, sym, ap, ◌∙◌, add-one, append_assoc, arith}
use Rattle.std.proofs.Math.Seq.{take-suc}
use Rattle.std.proofs.lemmas.List.{append-nil, length-take-le}
use Rattle.std.specs.List.{list_any}
use Rattle.hs_turns.specs.Database.{is_definition}
use Rattle.hs_turns.specs.Numbers.{final_change, number_in, numbered, numbers_from}
use Rattle.hs_plan.specs.declared.change.Change.{Change}
use Rattle.hs_plan.specs.declared.change.Change.TheVariants as change

numbers_behind : (number : ℕ) (xs ys : List Change) → numbers_from number (xs ++ ys) ≡ numbers_from number xs ++ numbers_from (number + length xs) ys
numbers_behind number [] ys = let its : number ≡ number + 0 = omega arith in ap (λ n. numbers_from n ys) its
numbers_behind number (x ∷ xs) ys =
    let its : number + 1 + length xs ≡ number + suc (length xs) = omega arith in
    ap (λ l. number_in number x ++ l) (numbers_behind (number + 1) xs ys ∙ ap (λ n. numbers_from (number + 1) xs ++ numbers_from n ys) its)
    ∙ sym (append_assoc (number_in number x) (numbers_from (number + 1) xs) (numbers_from (number + suc (length xs)) ys))

pub numbers_on : (count : ℕ) (changes : List Change) (i : ℕ) (c : Change) → i < length changes → c ≡ get_or changes i c
    → numbers_from (count + 1) (take (i + 1) changes) ≡ numbers_from (count + 1) (take i changes) ++ number_in (count + i + 1) c
numbers_on count changes i c low is =
    let its : count + 1 + length (take i changes) ≡ count + i + 1 = (let len = length-take-le i changes (omega (arith, low)) in omega (arith, len)) in
    ap (λ n. numbers_from (count + 1) (take n changes)) (add-one i)
    ∙ ap (numbers_from (count + 1)) (take-suc changes i c low)
    ∙ numbers_behind (count + 1) (take i changes) (get_or changes i c ∷ [])
    ∙ ap (λ n. numbers_from (count + 1) (take i changes) ++ (number_in n (get_or changes i c) ++ [])) its
    ∙ ap (λ l. numbers_from (count + 1) (take i changes) ++ l) (append-nil (number_in (count + i + 1) (get_or changes i c)))
    ∙ ap (λ (x : Change). numbers_from (count + 1) (take i changes) ++ number_in (count + i + 1) x) (sym is)

-- ---- what stays

same_kind : (numbers : List ℕ) (c : Change) → is_definition (final_change numbers c) ≡ is_definition c
same_kind numbers (change.Insert table values) = refl
same_kind numbers (change.Put table row values) = refl
same_kind numbers (change.Delete table row) = refl
same_kind numbers (change.Define definition) = refl

same_kinds : (numbers : List ℕ) (changes : List Change) → list_any is_definition (map (final_change numbers) changes) ≡ list_any is_definition changes
same_kinds numbers [] = refl
same_kinds numbers (c ∷ cs) = ap (λ b. b || list_any is_definition (map (final_change numbers) cs)) (same_kind numbers c) ∙ ap (λ b. is_definition c || b) (same_kinds numbers cs)

-- changes of rows stay changes of rows
pub numbered_kinds : (count : ℕ) (changes : List Change) → list_any is_definition (numbered count changes) ≡ list_any is_definition changes
numbered_kinds count changes = same_kinds (numbers_from (count + 1) changes) changes
