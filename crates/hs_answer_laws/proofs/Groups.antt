-- The groups part the rows.
use Rattle.std.proofs.Common.{◌≡◌, inl, inr, ℕ, suc, ◌<◌, List, [], ◌∷◌, ◌++◌, length, drop, take, get_or, map, Result, Ok, Err, refl, sym, ap, subst, ◌∙◌, arith}
use Rattle.std.proofs.Math.Seq.{drop-append_seam, take-append_seam}
use Rattle.std.proofs.lemmas.List.{append-nil, get_or-map, length-map, map-append, map-id}
use Rattle.std.proofs.lemmas.List.Elements.{All-contains, Contains-append_left, Contains-append_right, Contains-get_or}
use Rattle.std.proofs.lemmas.List.Sorted.{Contains-permutation, IsPermutation-map, IsPermutation-refl, IsPermutation-sym}
use Rattle.std.specs.List.{All, AllPairs, Contains, flat_map}
use Rattle.std.specs.List.Sorted.{IsPermutation}
use Rattle.std.specs.declared.cmp.Ordering.{Ordering}
use Rattle.std.specs.declared.cmp.Ordering.TheVariants.{Equal, Less}
use Rattle.hs_values.specs.declared.fault.EvalFault.{EvalFault}
use Rattle.hs_values.specs.declared.value.Value.{Value}
use Rattle.hs_values.specs.Order.{row_order_of}
use Rattle.hs_values.specs.Outcome.{◌>>=◌}
use Rattle.hs_values.proofs.Stable.{sorted_by-IsPermutation, sorted_by-IsSorted}
use Rattle.hs_rel.specs.Groups.{grouped, groups_of, key_order, same_key}
use Rattle.hs_rel.proofs.Runs.{runs_whole, sorted_runs}
use Rattle.hs_rel.proofs.Selecting.{at_head, head_or_tail, in_tail, nothing_in}
use Rattle.hs_rel.proofs.Shown.{key_order_total}
use Rattle.hs_expression.specs.Outcomes.{all_or_least}
use Rattle.hs_expression.specs.Surroundings.{Rows, Surroundings, Valued}
use Rattle.hs_answer.specs.Groups.{behind_keys, groups_by, parted, without_keys}
use Rattle.hs_answer.specs.Places.{over_row, values_at}
use Rattle.hs_answer_laws.proofs.Outcomes.{all_given, each_given, source_of}

-- ---- values of several expressions

pub as_many : (exprs : List Valued) (s : Surroundings) (values : List Value) → values_at exprs s ≡ Ok values → length values ≡ length exprs
as_many [] s [] h = refl
as_many [] s (x ∷ xs) h = absurd (cc)
as_many (a ∷ more) s values h = by (a s) (values_at more s) (as_many more s) h
  where
    by : (first : Result Value EvalFault) (rest : Result (List Value) EvalFault) → ((xs : List Value) → rest ≡ Ok xs → length xs ≡ length more) → (first >>= λ x. rest >>= λ xs. Ok (x ∷ xs)) ≡ Ok values → length values ≡ length (a ∷ more)
    by (Ok x) (Ok xs) later told =
        let same : x ∷ xs ≡ values = cc in
        sym (ap length same) ∙ ap suc (later xs refl)
    by (Ok x) (Err fault) later told = absurd (cc)
    by (Err fault) rest later told = absurd (cc)

-- a row behind values
pub behind : (given : Result (List Value) EvalFault) (row keyed : List Value) → (given >>= λ keys. Ok (keys ++ row)) ≡ Ok keyed → (keys : List Value) × (given ≡ Ok keys) × (keyed ≡ keys ++ row)
behind (Ok keys) row keyed h = let same : keys ++ row ≡ keyed = cc in (keys, refl, sym same)
behind (Err fault) row keyed h = absurd (cc)

pub dropped : (n : ℕ) (keys row keyed : List Value) → keyed ≡ keys ++ row → length keys ≡ n → drop n keyed ≡ row
dropped n keys row keyed is long = ap (drop n) is ∙ ap (λ k. drop k (keys ++ row)) (sym long) ∙ drop-append_seam keys row

pub taken : (n : ℕ) (keys row keyed : List Value) → keyed ≡ keys ++ row → length keys ≡ n → take n keyed ≡ keys
taken n keys row keyed is long = ap (take n) is ∙ ap (λ k. take k (keys ++ row)) (sym long) ∙ take-append_seam keys row

-- ---- lists

pub from_map : {X Y : Type 0} (f : X → Y) (xs : List X) (y : Y) → Contains (map f xs) y → (x : X) × Contains xs x × (y ≡ f x)
from_map f [] y h = absurd (nothing_in y h)
from_map f (x ∷ xs) y h = elim (head_or_tail (f x) (map f xs) y h) [
  | inl is ↦ (x, at_head x xs, sym is)
  | inr later ↦ let rest = from_map f xs y later in (rest.0, in_tail x xs rest.0 rest.1, rest.2)
]

-- rows of several groups, without their keys
flat_without : (n : ℕ) (groups : List Rows) → flat_map (λ group. group) (map (without_keys n) groups) ≡ map (drop n) (flat_map (λ group. group) groups)
flat_without n [] = refl
flat_without n (group ∷ groups) = ap (λ rows. map (drop n) group ++ rows) (flat_without n groups) ∙ sym (map-append (drop n) group (flat_map (λ group. group) groups))

in_one_of : (groups : List Rows) (group : Rows) (row : List Value) → Contains groups group → Contains group row → Contains (flat_map (λ group. group) groups) row
in_one_of [] group row h found = absurd (nothing_in group h)
in_one_of (first ∷ groups) group row h found = elim (head_or_tail first groups group h) [
  | inl is ↦ Contains-append_left first (flat_map (λ group. group) groups) row (subst (λ g. Contains g row) (sym is) found)
  | inr later ↦ Contains-append_right first (flat_map (λ group. group) groups) row (in_one_of groups group row later found)
]

-- ---- GROUP BY with keys

module _ (outer : Rows) (group_by : List Valued) (rows keyed : Rows) (is : all_or_least (map (behind_keys outer group_by) rows) ≡ Ok keyed) where
  told : map (behind_keys outer group_by) rows ≡ map Ok keyed
  told = all_given (map (behind_keys outer group_by) rows) keyed is

  without : (row a : List Value) → behind_keys outer group_by row ≡ Ok a → drop (length group_by) a ≡ row
  without row a h =
      let parts = behind (values_at group_by (over_row outer row)) row a h in
      dropped (length group_by) parts.0 row a parts.2 (as_many group_by (over_row outer row) parts.0 parts.1)

  pub keyed_back : map (drop (length group_by)) keyed ≡ rows
  keyed_back = each_given (behind_keys outer group_by) (drop (length group_by)) (λ row. row) without rows keyed told ∙ map-id rows

  sorted_same : IsPermutation keyed (grouped (length group_by) keyed)
  sorted_same = sorted_by-IsPermutation (key_order (length group_by)) (key_order_total (length group_by)) keyed

  pub parted_same : IsPermutation rows (flat_map (λ group. group) (parted (length group_by) keyed))
  parted_same =
      let n = length group_by in
      let whole = flat_without n (groups_of n keyed) ∙ ap (map (drop n)) (runs_whole (same_key n) (grouped n keyed)) in
      subst (λ l. IsPermutation rows l) (sym whole) (subst (λ l. IsPermutation l (map (drop n) (grouped n keyed))) keyed_back (IsPermutation-map (drop n) keyed (grouped n keyed) sorted_same))

  -- the keys of a row in a group
  keys_of : (group : Rows) (a one keys : List Value) → Contains (groups_of (length group_by) keyed) group → Contains group a → one ≡ drop (length group_by) a → values_at group_by (over_row outer one) ≡ Ok keys → take (length group_by) a ≡ keys
  keys_of group a one keys here found one_is given =
      let n = length group_by in
      let all : Contains (grouped n keyed) a = subst (λ l. Contains l a) (runs_whole (same_key n) (grouped n keyed)) (in_one_of (groups_of n keyed) group a here found) in
      let source = source_of (behind_keys outer group_by) rows keyed told a (Contains-permutation (grouped n keyed) keyed a (IsPermutation-sym keyed (grouped n keyed) sorted_same) all) in
      let row = source.0 in
      let parts = behind (values_at group_by (over_row outer row)) row a source.2 in
      let long = as_many group_by (over_row outer row) parts.0 parts.1 in
      let same : one ≡ row = one_is ∙ dropped n parts.0 row a parts.2 long in
      let both : Ok keys ≡ Ok parts.0 = sym given ∙ ap (λ r. values_at group_by (over_row outer r)) same ∙ parts.1 in
      let keys_same : keys ≡ parts.0 = cc in
      taken n parts.0 row a parts.2 long ∙ sym keys_same

  -- how the keys of two rows compare, where rows behind keys do so
  compared : (r : Ordering) (group later : Rows) → ((a b : List Value) → Contains group a → Contains later b → key_order (length group_by) a b ≡ r) → Contains (groups_of (length group_by) keyed) group → Contains (groups_of (length group_by) keyed) later → (one other keys others : List Value) → Contains (without_keys (length group_by) group) one → Contains (without_keys (length group_by) later) other → values_at group_by (over_row outer one) ≡ Ok keys → values_at group_by (over_row outer other) ≡ Ok others → row_order_of keys others ≡ r
  compared r group later by here there one other keys others in_group in_later given given_other =
      let n = length group_by in
      let first = from_map (drop n) group one in_group in
      let second = from_map (drop n) later other in_later in
      let x = keys_of group first.0 one keys here first.1 first.2 given in
      let y = keys_of later second.0 other others there second.1 second.2 given_other in
      subst (λ k. row_order_of k others ≡ r) x (subst (λ k. row_order_of (take n first.0) k ≡ r) y (by first.0 second.0 first.1 second.1))

  runs_told : All (λ group. (0 < length group) × ((a b : List Value) → Contains group a → Contains group b → key_order (length group_by) a b ≡ Equal)) (groups_of (length group_by) keyed) × AllPairs (λ group later. (a b : List Value) → Contains group a → Contains later b → key_order (length group_by) a b ≡ Less) (groups_of (length group_by) keyed)
  runs_told = let n = length group_by in sorted_runs (key_order n) (key_order_total n) (grouped n keyed) (sorted_by-IsSorted (key_order n) (key_order_total n) keyed)

  pub alike : (group : Rows) → Contains (parted (length group_by) keyed) group → (one other keys others : List Value) → Contains group one → Contains group other → values_at group_by (over_row outer one) ≡ Ok keys → values_at group_by (over_row outer other) ≡ Ok others → row_order_of keys others ≡ Equal
  alike group here one other keys others in_one in_other =
      let n = length group_by in
      let source = from_map (without_keys n) (groups_of n keyed) group here in
      let tie = (All-contains (λ group. (0 < length group) × ((a b : List Value) → Contains group a → Contains group b → key_order n a b ≡ Equal)) (groups_of n keyed) source.0 runs_told.0 source.1).1 in
      compared Equal source.0 source.0 tie source.1 source.1 one other keys others (subst (λ g. Contains g one) source.2 in_one) (subst (λ g. Contains g other) source.2 in_other)

  pub apart : AllPairs (λ group later. (one other keys others : List Value) → Contains group one → Contains later other → values_at group_by (over_row outer one) ≡ Ok keys → values_at group_by (over_row outer other) ≡ Ok others → row_order_of keys others ≡ Less) (parted (length group_by) keyed)
  apart i j d before within one other keys others in_one in_other =
      let n = length group_by in
      let groups = groups_of n keyed in
      let long : length (parted n keyed) ≡ length groups = length-map groups (without_keys n) in
      let low : i < length groups = omega arith in
      let high : j < length groups = omega arith in
      let x = get_or-map (without_keys n) groups i [] d low in
      let y = get_or-map (without_keys n) groups j [] d high in
      compared Less (get_or groups i []) (get_or groups j []) (runs_told.1 i j [] before high) (Contains-get_or groups i [] low) (Contains-get_or groups j [] high) one other keys others (subst (λ g. Contains g one) x in_one) (subst (λ g. Contains g other) y in_other)

-- ---- with keys and without

pub group_rows : (outer : Rows) (group_by : List Valued) (rows : Rows) (groups : List Rows) → groups_by outer group_by rows ≡ Ok groups → IsPermutation rows (flat_map (λ group. group) groups)
group_rows outer [] rows groups h =
    let same : rows ∷ [] ≡ groups = cc in
    subst (λ l. IsPermutation rows (flat_map (λ group. group) l)) same (subst (IsPermutation rows) (sym (append-nil rows)) (IsPermutation-refl rows))
group_rows outer (key ∷ keys) rows groups h = by (all_or_least (map (behind_keys outer (key ∷ keys)) rows)) refl h
  where
    by : (given : Result Rows EvalFault) → all_or_least (map (behind_keys outer (key ∷ keys)) rows) ≡ given → (given >>= λ keyed. Ok (parted (length (key ∷ keys)) keyed)) ≡ Ok groups → IsPermutation rows (flat_map (λ group. group) groups)
    by (Ok keyed) is told =
        let same : parted (length (key ∷ keys)) keyed ≡ groups = cc in
        subst (λ l. IsPermutation rows (flat_map (λ group. group) l)) same (parted_same outer (key ∷ keys) rows keyed is)
    by (Err fault) is told = absurd (cc)

-- rows of one group have equal values of GROUP BY
abbrev pub HaveKeys : (Ordering) → Rows → List Valued → Rows → Rows → Type 0
HaveKeys r outer group_by group later = (one other keys others : List Value) → Contains group one → Contains later other → values_at group_by (over_row outer one) ≡ Ok keys → values_at group_by (over_row outer other) ≡ Ok others → row_order_of keys others ≡ r

none_of : (outer : Rows) (one other keys others : List Value) → values_at [] (over_row outer one) ≡ Ok keys → values_at [] (over_row outer other) ≡ Ok others → row_order_of keys others ≡ Equal
none_of outer one other [] [] h k = refl
none_of outer one other [] (x ∷ xs) h k = absurd (cc)
none_of outer one other (x ∷ xs) others h k = absurd (cc)

pub group_alike : (outer : Rows) (group_by : List Valued) (rows : Rows) (groups : List Rows) → groups_by outer group_by rows ≡ Ok groups → (group : Rows) → Contains groups group → HaveKeys Equal outer group_by group group
group_alike outer [] rows groups h = λ group here one other keys others in_one in_other given given_other. none_of outer one other keys others given given_other
group_alike outer (key ∷ more) rows groups h = by (all_or_least (map (behind_keys outer (key ∷ more)) rows)) refl h
  where
    by : (given : Result Rows EvalFault) → all_or_least (map (behind_keys outer (key ∷ more)) rows) ≡ given → (given >>= λ keyed. Ok (parted (length (key ∷ more)) keyed)) ≡ Ok groups → (group : Rows) → Contains groups group → HaveKeys Equal outer (key ∷ more) group group
    by (Ok keyed) is told group here =
        let same : parted (length (key ∷ more)) keyed ≡ groups = cc in
        alike outer (key ∷ more) rows keyed is group (subst (λ l. Contains l group) (sym same) here)
    by (Err fault) is told group here = absurd (cc)

pub group_apart : (outer : Rows) (key : Valued) (more : List Valued) (rows : Rows) (groups : List Rows) → groups_by outer (key ∷ more) rows ≡ Ok groups → AllPairs (HaveKeys Less outer (key ∷ more)) groups
group_apart outer key more rows groups h = by (all_or_least (map (behind_keys outer (key ∷ more)) rows)) refl h
  where
    by : (given : Result Rows EvalFault) → all_or_least (map (behind_keys outer (key ∷ more)) rows) ≡ given → (given >>= λ keyed. Ok (parted (length (key ∷ more)) keyed)) ≡ Ok groups → AllPairs (HaveKeys Less outer (key ∷ more)) groups
    by (Ok keyed) is told =
        let same : parted (length (key ∷ more)) keyed ≡ groups = cc in
        subst (AllPairs (HaveKeys Less outer (key ∷ more))) same (apart outer (key ∷ more) rows keyed is)
    by (Err fault) is told = absurd (cc)
