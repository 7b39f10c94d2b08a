-- Sets of rows, with a row more and but for one.
use Rattle.std.proofs.Common.{◌≡◌, Bool, true, false, not, ◌&&◌, ◌||◌, cond, List, [], ◌∷◌, refl, sym, ap, ◌∙◌}
use Rattle.std.specs.Cmp.{IsTotalOrder, nat_cmp_total, on_total, alike_right, tied_itself}
use Rattle.std.specs.List.{AllByRecursion}
use Rattle.std.specs.List.Sorted.{IsStrictlySortedBy}
use Rattle.std.specs.Ordering.{match_ordering, ordering_reverse, is_eq}
use Rattle.std.specs.declared.cmp.Ordering.{Ordering}
use Rattle.std.specs.declared.cmp.Ordering.TheVariants.{Less, Equal, Greater}
use Rattle.hs_base.specs.declared.numbers.RowNo.{RowNo}
use Rattle.hs_index.specs.RowSets.{row_cmp, IsAscending, is_row, has_row, with_row, without_row}

pub row_total : IsTotalOrder row_cmp
row_total = on_total (λ (r : RowNo). r.0) nat_cmp_total

pub turned : (a b : RowNo) (o : Ordering) → row_cmp a b ≡ o → row_cmp b a ≡ ordering_reverse o
turned a b o h = row_total.antisymm b a ∙ ap ordering_reverse h

pub equal_from : (o : Ordering) → is_eq o ≡ true → o ≡ Equal
equal_from Less h = absurd cc
equal_from Equal h = refl
equal_from Greater h = absurd cc

pub row_itself : (row : RowNo) → is_row row row ≡ true
row_itself row = ap is_eq (tied_itself row_total row)

-- ---- in order

below_all : (a b : RowNo) (rows : List RowNo) → row_cmp a b ≡ Less → AllByRecursion (λ y. row_cmp b y ≡ Less) rows → AllByRecursion (λ y. row_cmp a y ≡ Less) rows
below_all a b [] e h = tt
below_all a b (y ∷ ys) e h = (row_total.trans a b y e h.0, below_all a b ys e h.1)

all_with : (a row : RowNo) (rows : List RowNo) → row_cmp a row ≡ Less → AllByRecursion (λ y. row_cmp a y ≡ Less) rows → AllByRecursion (λ y. row_cmp a y ≡ Less) (with_row row rows)
all_with a row [] e h = (e, tt)
all_with a row (y ∷ ys) e h = by (row_cmp row y) (all_with a row ys e h.1)
  where
    by : (o : Ordering) → AllByRecursion (λ z. row_cmp a z ≡ Less) (with_row row ys) → AllByRecursion (λ z. row_cmp a z ≡ Less) (match_ordering o (row ∷ y ∷ ys) (y ∷ ys) (y ∷ with_row row ys))
    by Less more = (e, h)
    by Equal more = h
    by Greater more = (h.0, more)

all_without : (a row : RowNo) (rows : List RowNo) → AllByRecursion (λ y. row_cmp a y ≡ Less) rows → AllByRecursion (λ y. row_cmp a y ≡ Less) (without_row row rows)
all_without a row [] h = tt
all_without a row (y ∷ ys) h = by (is_row row y) (all_without a row ys h.1)
  where
    by : (b : Bool) → AllByRecursion (λ z. row_cmp a z ≡ Less) (without_row row ys) → AllByRecursion (λ z. row_cmp a z ≡ Less) (cond b ys (y ∷ without_row row ys))
    by true more = h.1
    by false more = (h.0, more)

pub ascending_with : (row : RowNo) (rows : List RowNo) → IsAscending rows → IsAscending (with_row row rows)
unfolding IsStrictlySortedBy
ascending_with row [] s = (tt, tt)
ascending_with row (y ∷ ys) s = by (row_cmp row y) refl (ascending_with row ys s.1)
  where
    by : (o : Ordering) → row_cmp row y ≡ o → IsAscending (with_row row ys) → IsAscending (match_ordering o (row ∷ y ∷ ys) (y ∷ ys) (y ∷ with_row row ys))
    by Less e more = ((e, below_all row y ys e s.0), s)
    by Equal e more = s
    by Greater e more = (all_with y row ys (turned row y Greater e) s.0, more)

pub ascending_without : (row : RowNo) (rows : List RowNo) → IsAscending rows → IsAscending (without_row row rows)
unfolding IsStrictlySortedBy
ascending_without row [] s = tt
ascending_without row (y ∷ ys) s = by (is_row row y) (ascending_without row ys s.1)
  where
    by : (b : Bool) → IsAscending (without_row row ys) → IsAscending (cond b ys (y ∷ without_row row ys))
    by true more = s.1
    by false more = (all_without y row ys s.0, more)

-- a row by itself is in order
pub ascending_one : (row : RowNo) → IsAscending (row ∷ [])
unfolding IsStrictlySortedBy
ascending_one row = (tt, tt)

pub ascending_none : IsAscending []
unfolding IsStrictlySortedBy
ascending_none = tt

-- ---- which rows are there

or_twice : (a b : Bool) → (a || b) ≡ (a || (a || b))
or_twice true b = refl
or_twice false b = refl

or_swap : (a b c : Bool) → (a || (b || c)) ≡ (b || (a || c))
or_swap true true c = refl
or_swap true false c = refl
or_swap false b c = refl

and_none : (a : Bool) → false ≡ (a && false)
and_none true = refl
and_none false = refl

-- a row is alike to rows that are one
pub alike : (a b q : RowNo) → row_cmp a b ≡ Equal → is_row q a ≡ is_row q b
alike a b q h = ap is_eq (alike_right row_total a b q h)

pub has_row-with_row : (row : RowNo) (rows : List RowNo) (q : RowNo) → has_row (with_row row rows) q ≡ (is_row q row || has_row rows q)
has_row-with_row row [] q = refl
has_row-with_row row (y ∷ ys) q = by (row_cmp row y) refl (has_row-with_row row ys q)
  where
    by : (o : Ordering) → row_cmp row y ≡ o → has_row (with_row row ys) q ≡ (is_row q row || has_row ys q) → has_row (match_ordering o (row ∷ y ∷ ys) (y ∷ ys) (y ∷ with_row row ys)) q ≡ (is_row q row || (is_row q y || has_row ys q))
    by Less e more = refl
    by Equal e more = or_twice (is_row q y) (has_row ys q) ∙ ap (λ b. b || (is_row q y || has_row ys q)) (sym (alike row y q e))
    by Greater e more = ap (λ b. is_row q y || b) more ∙ or_swap (is_row q y) (is_row q row) (has_row ys q)

-- a row that is below all of a set isn't there
none_below : (a : RowNo) (rows : List RowNo) (q : RowNo) → AllByRecursion (λ y. row_cmp a y ≡ Less) rows → row_cmp q a ≡ Equal → has_row rows q ≡ false
none_below a [] q h e = refl
none_below a (y ∷ ys) q h e = ap (λ b. b || has_row ys q) (ap is_eq (row_total.congr q a y e ∙ h.0)) ∙ none_below a ys q h.1 e

pub has_row-without_row : (row : RowNo) (rows : List RowNo) (q : RowNo) → IsAscending rows → has_row (without_row row rows) q ≡ (not (is_row q row) && has_row rows q)
unfolding IsStrictlySortedBy
has_row-without_row row [] q s = and_none (not (is_row q row))
has_row-without_row row (y ∷ ys) q s = by (is_row row y) refl (is_row q y) refl (has_row-without_row row ys q s.1)
  where
    by : (b : Bool) → is_row row y ≡ b → (d : Bool) → is_row q y ≡ d → has_row (without_row row ys) q ≡ (not (is_row q row) && has_row ys q) → has_row (cond b ys (y ∷ without_row row ys)) q ≡ (not (is_row q row) && (is_row q y || has_row ys q))
    by true e true f more = none_below y ys q s.0 (equal_from _ f) ∙ sym (ap (λ b. not b && (is_row q y || has_row ys q)) (alike row y q (equal_from _ e) ∙ f))
    by true e false f more = sym (ap (λ b. not b && (is_row q y || has_row ys q)) (alike row y q (equal_from _ e) ∙ f) ∙ ap (λ b. b || has_row ys q) f)
    by false e d f more = part (is_row q row) refl d f more
      where
        part : (g : Bool) → is_row q row ≡ g → (d : Bool) → is_row q y ≡ d → has_row (without_row row ys) q ≡ (not (is_row q row) && has_row ys q) → (is_row q y || has_row (without_row row ys) q) ≡ (not (is_row q row) && (is_row q y || has_row ys q))
        part true g d f more = ap (λ b. b || has_row (without_row row ys) q) (ap is_eq (row_total.congr q row y (equal_from _ g)) ∙ e) ∙ more ∙ ap (λ b. not b && has_row ys q) g ∙ sym (ap (λ b. not b && (is_row q y || has_row ys q)) g)
        part false g d f more = ap (λ b. is_row q y || b) (more ∙ ap (λ b. not b && has_row ys q) g) ∙ sym (ap (λ b. not b && (is_row q y || has_row ys q)) g)

-- a set with a row more isn't empty
pub with_row-some : (row : RowNo) (rows : List RowNo) → with_row row rows ≡ [] → ⊥
with_row-some row rows h = no (sym (has_row-with_row row rows row) ∙ ap (λ all. has_row all row) h) (is_row row row) refl
  where
    no : (is_row row row || has_row rows row) ≡ false → (b : Bool) → is_row row row ≡ b → ⊥
    no none true is = let both : true ≡ false = ap (λ b. b || has_row rows row) (sym is) ∙ none in cc
    no none false is = let both : true ≡ false = sym (row_itself row) ∙ is in cc
