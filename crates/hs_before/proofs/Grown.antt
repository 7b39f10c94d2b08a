-- Tables to which the children of some of them are added.
use Rattle.std.proofs.Common.{◌≡◌, inl, inr, ℕ, zero, suc, ◌+◌, ◌==◌, ◌≤◌, Bool, true, false, cond, ◌||◌, List, [], ◌∷◌, ◌++◌, length, fold, take, slice_get, Some, None, refl, sym, ap, subst, ◌∙◌, arith}
use Rattle.std.specs.List.{Contains}
use Rattle.std.proofs.lemmas.Bool.Decides.{eqb_tells, nat_tests}
use Rattle.std.proofs.lemmas.List.{length-append, take-append-le, take_all, take_more}
use Rattle.std.proofs.lemmas.List.Folds.{list_any-append}
use Rattle.std.proofs.lemmas.Option.{get_or_from_slice_get, slice_get_within}
use Rattle.hs_base.specs.declared.numbers.TableNo.{TableNo}
use Rattle.hs_rel.proofs.Selecting.{head_or_tail, nothing_in}
use Rattle.hs_actions.specs.declared.reference.Reference.{Reference}
use Rattle.hs_actions.specs.Referencing.{Keys, keys_on}
use Rattle.hs_before.specs.Family.{has_number, is_in, may_act, with_child, with_table}

-- ---- one table more

in_more : (all : List TableNo) (one : TableNo) (t : ℕ) → is_in (all ++ one ∷ []) t ≡ (is_in all t || ((one.0 == t) || false))
in_more all one t = list_any-append (has_number t) all (one ∷ [])

kept_by_table : (all : List TableNo) (one : TableNo) (t : ℕ) → is_in all t ≡ true → is_in (with_table all one) t ≡ true
kept_by_table all one t is = by (is_in all one.0)
  where
    by : (b : Bool) → is_in (cond b all (all ++ one ∷ [])) t ≡ true
    by true = is
    by false = let m = in_more all one t in grind (arith, m, is)

found_by_table : (all : List TableNo) (one : TableNo) → is_in (with_table all one) one.0 ≡ true
found_by_table all one = by (is_in all one.0) refl
  where
    by : (b : Bool) → is_in all one.0 ≡ b → is_in (cond b all (all ++ one ∷ [])) one.0 ≡ true
    by true is = is
    by false is = let m = in_more all one one.0 in grind (arith, nat_tests, m)

front_by_table : (n : ℕ) (all : List TableNo) (one : TableNo) → n ≤ length all → take n (with_table all one) ≡ take n all
front_by_table n all one within = by (is_in all one.0)
  where
    by : (b : Bool) → take n (cond b all (all ++ one ∷ [])) ≡ take n all
    by true = refl
    by false = take-append-le n all (one ∷ []) within

longer_by_table : (n : ℕ) (all : List TableNo) (one : TableNo) → n ≤ length all → n ≤ length (with_table all one)
longer_by_table n all one within = by (is_in all one.0)
  where
    by : (b : Bool) → n ≤ length (cond b all (all ++ one ∷ []))
    by true = within
    by false = let more = length-append all (one ∷ []) in omega (arith, more, within)

-- ---- one foreign key more

kept_by_one : (all : List TableNo) (key : Reference) (t : ℕ) → is_in all t ≡ true → is_in (with_child all key) t ≡ true
kept_by_one all key t is = by (may_act key)
  where
    by : (b : Bool) → is_in (cond b (with_table all key.child) all) t ≡ true
    by true = kept_by_table all key.child t is
    by false = is

found_by_one : (all : List TableNo) (key : Reference) → may_act key ≡ true → is_in (with_child all key) key.child.0 ≡ true
found_by_one all key may =
    ap (λ b. is_in (cond b (with_table all key.child) all) key.child.0) may ∙ found_by_table all key.child

front_by_one : (n : ℕ) (all : List TableNo) (key : Reference) → n ≤ length all → take n (with_child all key) ≡ take n all
front_by_one n all key within = by (may_act key)
  where
    by : (b : Bool) → take n (cond b (with_table all key.child) all) ≡ take n all
    by true = front_by_table n all key.child within
    by false = refl

longer_by_one : (n : ℕ) (all : List TableNo) (key : Reference) → n ≤ length all → n ≤ length (with_child all key)
longer_by_one n all key within = by (may_act key)
  where
    by : (b : Bool) → n ≤ length (cond b (with_table all key.child) all)
    by true = longer_by_table n all key.child within
    by false = within

-- ---- several

pub kept_by_all : (all : List TableNo) (keys : List Reference) (t : ℕ) → is_in all t ≡ true → is_in (fold with_child all keys) t ≡ true
kept_by_all all [] t is = is
kept_by_all all (key ∷ keys) t is = kept_by_all (with_child all key) keys t (kept_by_one all key t is)

found_by_all : (all : List TableNo) (keys : List Reference) (key : Reference) → Contains keys key → may_act key ≡ true → is_in (fold with_child all keys) key.child.0 ≡ true
found_by_all all [] key found may = absurd (nothing_in key found)
found_by_all all (k ∷ keys) key found may = elim (head_or_tail k keys key found) [
  | inl here ↦
      let own : may_act k ≡ true = ap may_act here ∙ may in
      subst (λ (x : Reference). is_in (fold with_child all (k ∷ keys)) x.child.0 ≡ true) here (kept_by_all (with_child all k) keys k.child.0 (found_by_one all k own))
  | inr later ↦ found_by_all (with_child all k) keys key later may
]

front_by_all : (n : ℕ) (all : List TableNo) (keys : List Reference) → n ≤ length all → take n (fold with_child all keys) ≡ take n all
front_by_all n all [] within = refl
front_by_all n all (key ∷ keys) within =
    front_by_all n (with_child all key) keys (longer_by_one n all key within) ∙ front_by_one n all key within

-- ---- the children of the first tables are among all

abbrev pub HasChildrenOf : Keys → List TableNo → List TableNo → Type 0
HasChildrenOf keys front all = (t : ℕ) (key : Reference) → is_in front t ≡ true → Contains (keys_on keys t) key → may_act key ≡ true → is_in all key.child.0 ≡ true

pub none_have : (keys : Keys) (all : List TableNo) → HasChildrenOf keys (take 0 all) all
none_have keys all t key is found may = absurd (cc)

front_more : (all : List TableNo) (n : ℕ) (one : TableNo) → slice_get all n ≡ Some one → take (n + 1) all ≡ take n all ++ one ∷ []
front_more all n one is =
    let within = slice_get_within all n one is in
    take_more all n one within ∙ ap (λ (x : TableNo). take n all ++ x ∷ []) (get_or_from_slice_get all n one one is)

pub one_more_has : (keys : Keys) (all : List TableNo) (n : ℕ) (one : TableNo) (its : List Reference) (grown : List TableNo) → slice_get all n ≡ Some one → its ≡ keys_on keys one.0 → grown ≡ fold with_child all its → HasChildrenOf keys (take n all) all → HasChildrenOf keys (take (n + 1) grown) grown
one_more_has keys all n one its grown here are is have t key inside found may =
    let added : List TableNo = fold with_child all its in
    let within = slice_get_within all n one here in
    let front : take (n + 1) added ≡ take n all ++ one ∷ [] = front_by_all (n + 1) all its (omega (arith, within)) ∙ front_more all n one here in
    let then : is_in (take n all ++ one ∷ []) t ≡ true = sym (ap (λ (l : List TableNo). is_in l t) (ap (take (n + 1)) is ∙ front)) ∙ inside in
    subst (λ (l : List TableNo). is_in l key.child.0 ≡ true) (sym is) (by then)
  where
    by : is_in (take n all ++ one ∷ []) t ≡ true → is_in (fold with_child all its) key.child.0 ≡ true
    by then = elim (eqb_tells one.0 t) [
      | inl both ↦
          let same : keys_on keys t ≡ its = ap (keys_on keys) (sym both.1) ∙ sym are in
          found_by_all all its key (subst (λ (l : List Reference). Contains l key) same found) may
      | inr other ↦
          let m = in_more (take n all) one t in
          let before : is_in (take n all) t ≡ true = grind (arith, m, other.0, then) in
          kept_by_all all its key.child.0 (have t key before found may)
    ]

pub all_have : (keys : Keys) (all : List TableNo) (n : ℕ) → None ≡ slice_get all n → HasChildrenOf keys (take n all) all → HasChildrenOf keys all all
all_have keys all n none have = subst (λ (l : List TableNo). HasChildrenOf keys l all) (take_all n all (past all n (sym none))) have
  where
    past : (all : List TableNo) (n : ℕ) → slice_get all n ≡ None → length all ≤ n
    past [] n h = omega arith
    past (x ∷ xs) zero h = absurd (cc)
    past (x ∷ xs) (suc n) h = let rest = past xs n h in omega (arith, rest)

-- a table alone
pub alone_is_in : (table : TableNo) → is_in (table ∷ []) table.0 ≡ true
alone_is_in table = grind (arith, nat_tests)
