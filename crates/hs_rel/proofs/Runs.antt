-- Elements in order: those that tie stand together, and the runs of those part the list.
use Rattle.std.proofs.Common.{◌≡◌, ◌≢◌, ◌⊎◌, inl, inr, ℕ, zero, suc, ◌+◌, ◌-◌, ◌<◌, ◌≤◌, Bool, true, false, cond, List, [], ◌∷◌, ◌++◌, length, get_or, take, drop, refl, sym, ap, subst, ◌∙◌, arith, suc-le-suc, zero-le, add-one}
use Rattle.std.proofs.lemmas.Bool.{true≢false, cases_Bool, cond-true, cond-false}
use Rattle.std.proofs.lemmas.List.Elements.{All-contains, All-from_recursion}
use Rattle.std.proofs.lemmas.List.Kept.{AllPairs-cons}
use Rattle.std.proofs.lemmas.List.Sorted.{sorted_far, ranks_by}
use Rattle.std.specs.declared.cmp.Ordering.{Ordering}
use Rattle.std.specs.declared.cmp.Ordering.TheVariants.{Less, Equal, Greater}
use Rattle.std.specs.Ordering.{is_lt, is_eq, eq_by_cmp, ordering_reverse}
use Rattle.std.specs.Cmp.{IsTotalOrder, Equal-is, tied_itself, eq_by_cmp_equiv}
use Rattle.std.specs.List.{All, AllByRecursion, AllPairs, Contains, flat_map}
use Rattle.std.specs.List.Sorted.{IsSorted}
use Rattle.hs_rel.specs.Groups.{in_front, runs_of}
use Rattle.hs_rel.proofs.FirstOfEach.{same, Rises, rises_sorted, above_from, all_weaker}

module _ {X : Type 0} (cmp : X → X → Ordering) (o : IsTotalOrder cmp) where
  -- between two that tie all tie
  between : (x y z : X) → is_lt (cmp y x) ≡ false → is_lt (cmp z y) ≡ false → cmp x z ≡ Equal → cmp x y ≡ Equal
  between x y z low high tie = by (cmp x y) refl
    where
      by : (r : Ordering) → cmp x y ≡ r → cmp x y ≡ Equal
      by Less is = absurd (true≢false (sym (ap is_lt (sym (o.congr x z y tie) ∙ is)) ∙ high))
      by Equal is = is
      by Greater is = absurd (true≢false (sym (ap is_lt (o.antisymm y x ∙ ap ordering_reverse is)) ∙ low))

  pub ties_together : (xs : List X) → IsSorted cmp xs → (i j k : ℕ) (d : X) → i ≤ j → j ≤ k → k < length xs → cmp (get_or xs i d) (get_or xs k d) ≡ Equal → cmp (get_or xs i d) (get_or xs j d) ≡ Equal
  ties_together xs up i j k d low high inside tie =
      let far = sorted_far (λ x y. is_lt (cmp x y)) (ranks_by o (λ x. x)) xs up in
      between (get_or xs i d) (get_or xs j d) (get_or xs k d) (far i j d low (omega arith)) (far j k d high inside) tie

module _ {X : Type 0} (same : X → X → Bool) where
  -- the runs of a list are the list again
  front_whole : (x : X) (runs : List (List X)) → flat_map (λ run. run) (in_front same x runs) ≡ x ∷ flat_map (λ run. run) runs
  front_whole x [] = refl
  front_whole x ([] ∷ runs) = refl
  front_whole x ((y ∷ ys) ∷ runs) = by (same x y)
    where
      by : (b : Bool) → flat_map (λ run. run) (cond b ((x ∷ y ∷ ys) ∷ runs) ((x ∷ []) ∷ (y ∷ ys) ∷ runs)) ≡ x ∷ y ∷ (ys ++ flat_map (λ run. run) runs)
      by true = refl
      by false = refl

  pub runs_whole : (xs : List X) → flat_map (λ run. run) (runs_of same xs) ≡ xs
  runs_whole [] = refl
  runs_whole (x ∷ xs) = front_whole x (runs_of same xs) ∙ ap (λ l. x ∷ l) (runs_whole xs)

  -- the first run begins with the first element
  begins : (y : X) (ys : List X) → (run : List X) × (runs : List (List X)) × (runs_of same (y ∷ ys) ≡ (y ∷ run) ∷ runs)
  begins y ys = by (runs_of same ys)
    where
      by : (runs : List (List X)) → (run : List X) × (rest : List (List X)) × (in_front same y runs ≡ (y ∷ run) ∷ rest)
      by [] = ([], [], refl)
      by ([] ∷ runs) = ([], runs, refl)
      by ((z ∷ zs) ∷ runs) = elim (cases_Bool (same y z)) [
        | inl with ↦ (z ∷ zs, runs, cond-true _ _ _ with)
        | inr without ↦ ([], (z ∷ zs) ∷ runs, cond-false _ _ _ without)
      ]

  -- the first elements are a run, where each is the same as the one before it and the next one isn't
  pub first_run : (xs : List X) (m : ℕ) → m < length xs → ((k : ℕ) (d : X) → k < m → same (get_or xs k d) (get_or xs (suc k) d) ≡ true) → ((d : X) → suc m < length xs → same (get_or xs m d) (get_or xs (suc m) d) ≡ false) → runs_of same xs ≡ take (suc m) xs ∷ runs_of same (drop (suc m) xs)
  first_run [] m within alike ends = absurd (omega arith)
  first_run (x ∷ []) zero within alike ends = refl
  first_run (x ∷ []) (suc m) within alike ends = absurd (omega arith)
  first_run (x ∷ y ∷ ys) zero within alike ends =
      let first = begins y ys in
      ap (in_front same x) first.2 ∙ cond-false _ _ _ (ends x (omega arith)) ∙ ap (λ runs. (x ∷ []) ∷ runs) (sym first.2)
  first_run (x ∷ y ∷ ys) (suc m) within alike ends =
      let rest = first_run (y ∷ ys) m (omega arith) (λ k d lt. alike (suc k) d (suc-le-suc lt)) (λ d lt. ends d (suc-le-suc lt)) in
      ap (in_front same x) rest ∙ cond-true _ _ _ (alike zero x (omega arith))

  -- the same by the number of its elements
  pub first_run_of : (xs : List X) (n : ℕ) → 0 < n → n ≤ length xs → ((k : ℕ) (d : X) → k + 1 < n → same (get_or xs k d) (get_or xs (k + 1) d) ≡ true) → ((d : X) → n < length xs → same (get_or xs (n - 1) d) (get_or xs n d) ≡ false) → runs_of same xs ≡ take n xs ∷ runs_of same (drop n xs)
  first_run_of xs zero some within alike ends = absurd (omega arith)
  first_run_of xs (suc m) some within alike ends =
      first_run xs m (omega arith)
      (λ k d lt. sym (ap (λ j. same (get_or xs k d) (get_or xs j d)) (add-one k)) ∙ alike k d (omega arith))
      (λ d lt. let at : m ≡ suc m - 1 = omega arith in ap (λ j. same (get_or xs j d) (get_or xs (suc m) d)) at ∙ ends d lt)

module _ {X : Type 0} (cmp : X → X → Ordering) (o : IsTotalOrder cmp) where
  -- in each run all tie with the first, and those of later runs are above it
  abbrev Parted : List (List X) → Type 0
  Parted [] = Unit {0}
  Parted ([] ∷ runs) = ⊥
  Parted ((y ∷ ys) ∷ runs) = AllByRecursion (λ z. cmp y z ≡ Equal) ys × AllByRecursion (λ run. AllByRecursion (λ z. cmp y z ≡ Less) run) runs × Parted runs

  level_above : (x y z : X) → cmp x y ≡ Less → cmp y z ≡ Equal → cmp x z ≡ Less
  level_above x y z up tie = o.antisymm x z ∙ ap ordering_reverse (sym (o.congr y z x tie)) ∙ sym (o.antisymm x y) ∙ up

  one_more : (x y : X) (run : List X) (runs : List (List X)) → is_lt (cmp y x) ≡ false → Parted ((y ∷ run) ∷ runs) → Parted (in_front (same cmp o) x ((y ∷ run) ∷ runs))
  one_more x y run runs not_below h =
      elim (cases_Bool (same cmp o x y)) [
        | inl with ↦
            let tie : cmp x y ≡ Equal = (Equal-is (cmp x y)).0 with in
            subst Parted (sym (cond-true _ _ _ with)) (
              (tie, all_weaker _ _ (λ z e. o.congr x y z tie ∙ e) run h.0),
              all_weaker _ _ (λ later. all_weaker _ _ (λ z e. o.congr x y z tie ∙ e) later) runs h.1,
              h.2,
            )
        | inr without ↦
            let up : cmp x y ≡ Less = above_from cmp o x y not_below ((eq_by_cmp_equiv o).symm y x ∙ without) in
            subst Parted (sym (cond-false _ _ _ without)) (
              tt,
              ((up, all_weaker _ _ (λ z e. level_above x y z up e) run h.0), all_weaker _ _ (λ later. all_weaker _ _ (λ z e. o.trans x y z up e) later) runs h.1),
              h,
            )
      ]

  parted : (xs : List X) → Rises cmp o xs → Parted (runs_of (same cmp o) xs)
  parted [] h = tt
  parted (x ∷ []) h = (tt, tt, tt)
  parted (x ∷ y ∷ ys) h =
      let first = begins (same cmp o) y ys in
      subst (λ runs. Parted (in_front (same cmp o) x runs)) (sym first.2)
      (one_more x y first.0 first.1 h.0.0 (subst Parted first.2 (parted (y ∷ ys) h.1)))

  -- of one run
  abbrev pub IsRun : List X → Type 0
  IsRun run = (0 < length run) × ((a b : X) → Contains run a → Contains run b → cmp a b ≡ Equal)

  -- of a run and a later one
  abbrev pub IsBelow : List X → List X → Type 0
  IsBelow run later = (a b : X) → Contains run a → Contains later b → cmp a b ≡ Less

  tied_to : (y : X) (ys : List X) → AllByRecursion (λ z. cmp y z ≡ Equal) ys → (a : X) → Contains (y ∷ ys) a → cmp y a ≡ Equal
  tied_to y ys h a found = All-contains (λ z. cmp y z ≡ Equal) (y ∷ ys) a (All-from_recursion _ (y ∷ ys) (tied_itself o y, h)) found

  runs_alike : (runs : List (List X)) → Parted runs → AllByRecursion IsRun runs
  runs_alike [] h = tt
  runs_alike ([] ∷ runs) h = absurd h
  runs_alike ((y ∷ ys) ∷ runs) h = (
    (suc-le-suc zero-le, λ a b in_a in_b. sym (o.congr y a b (tied_to y ys h.0 a in_a)) ∙ tied_to y ys h.0 b in_b),
    runs_alike runs h.2,
  )

  runs_apart : (runs : List (List X)) → Parted runs → AllPairs IsBelow runs
  runs_apart [] h = λ i j d low inside. absurd (omega arith)
  runs_apart ([] ∷ runs) h = absurd h
  runs_apart ((y ∷ ys) ∷ runs) h =
      AllPairs-cons IsBelow (y ∷ ys) runs
      (All-from_recursion (IsBelow (y ∷ ys)) runs
      (all_weaker _ _ (λ later up a b in_a in_b. sym (o.congr y a b (tied_to y ys h.0 a in_a)) ∙ All-contains (λ z. cmp y z ≡ Less) later b (All-from_recursion _ later up) in_b) runs h.1))
      (runs_apart runs h.2)

  pub sorted_runs : (xs : List X) → IsSorted cmp xs → All IsRun (runs_of (same cmp o) xs) × AllPairs IsBelow (runs_of (same cmp o) xs)
  sorted_runs xs up =
      let told = parted xs (rises_sorted cmp o xs up) in
      (All-from_recursion IsRun (runs_of (same cmp o) xs) (runs_alike (runs_of (same cmp o) xs) told), runs_apart (runs_of (same cmp o) xs) told)
