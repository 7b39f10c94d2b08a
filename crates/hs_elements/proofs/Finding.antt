-- The least of faults, list by list.
use Rattle.std.proofs.Common.{◌<◌, ◌+◌, suc, length, get_or, take, drop, drop-cons, arith, ◌≡◌, ℕ, Bool, true, false, not, ◌||◌, List, [], ◌∷◌, ◌++◌, Option, refl, sym, ap, ◌∙◌}
use Rattle.std.proofs.Math.Seq.{take-suc}
use Rattle.std.proofs.lemmas.List.Folds.{list_any-append}
use Rattle.std.specs.Str.{bytes_eq}
use Rattle.hs_ast.specs.declared.word.Identifier.{Identifier}
use Rattle.hs_plan.specs.declared.fault.PlacedFault.{PlacedFault}
use Rattle.hs_elements.specs.Faults.{Text, least_of, lesser, where_so, is_among, no_such_column_at}
use Rattle.hs_elements.specs.Columns.{TypedNames, has_column, unknown}

pub least-append : (found : Option PlacedFault) (fs gs : List PlacedFault) → least_of found (fs ++ gs) ≡ least_of (least_of found fs) gs
least-append found [] gs = refl
least-append found (f ∷ fs) gs = least-append (lesser found f) fs gs

or-false : (b : Bool) → (b || false) ≡ b
or-false true = refl
or-false false = refl

pub among-more : (before : List Text) (name t : Text) → is_among (before ++ name ∷ []) t ≡ (is_among before t || bytes_eq t name)
among-more before name t = list_any-append (bytes_eq t) before (name ∷ []) ∙ ap (λ b. is_among before t || b) (or-false (bytes_eq t name))

pub unknown-there : (found : Option PlacedFault) (columns : TypedNames) (n : Identifier) (ns : List Identifier) → has_column columns n.name ≡ true
    → least_of found (unknown columns ns) ≡ least_of found (unknown columns (n ∷ ns))
unknown-there found columns n ns h = sym (ap (λ b. least_of found (where_so (not b) (no_such_column_at n) ++ unknown columns ns)) h)

pub unknown-missing : (found : Option PlacedFault) (columns : TypedNames) (n : Identifier) (ns : List Identifier) → has_column columns n.name ≡ false
    → least_of (lesser found (no_such_column_at n)) (unknown columns ns) ≡ least_of found (unknown columns (n ∷ ns))
unknown-missing found columns n ns h = sym (ap (λ b. least_of found (where_so (not b) (no_such_column_at n) ++ unknown columns ns)) h)

-- ---- steps from the left

pub item : {X : Type 0} (xs : List X) (i : ℕ) (x : X) → i < length xs → x ≡ get_or xs i x → drop i xs ≡ x ∷ drop (i + 1) xs
item xs i x within is =
    let next : suc i ≡ i + 1 = omega arith in
    drop-cons xs i x within ∙ ap (λ y. y ∷ drop (suc i) xs) (sym is) ∙ ap (λ n. x ∷ drop n xs) next

pub front_item : {X : Type 0} (xs : List X) (i : ℕ) (x : X) → i < length xs → x ≡ get_or xs i x → take (i + 1) xs ≡ take i xs ++ x ∷ []
front_item xs i x within is =
    let next : i + 1 ≡ suc i = omega arith in
    ap (λ n. take n xs) next ∙ take-suc xs i x within ∙ ap (λ y. take i xs ++ y ∷ []) (sym is)
