-- Columns of `*`, table by table.
use Rattle.std.proofs.Common.{◌≡◌, ℕ, ◌+◌, List, [], ◌∷◌, ◌++◌, map, length, Option, refl, ap, ◌∙◌, sym, append_assoc, arith}
use Rattle.std.proofs.lemmas.Grind.{flat_map-append, fold-append}
use Rattle.std.proofs.lemmas.List.{map-append}
use Rattle.std.specs.List.{enumerate_from, flat_map}
use Rattle.hs_plan.specs.declared.fault.PlacedFault.{PlacedFault}
use Rattle.hs_scope.specs.declared.column.OutputColumn.{OutputColumn}
use Rattle.hs_scope.specs.declared.from_table.FromTable.{FromTable}
use Rattle.hs_scope.specs.Names.{every_column}
use Rattle.hs_typed.specs.Faults.{noted, with_fault}
use Rattle.hs_meaning.specs.declared.placed.Shown.{Shown}
use Rattle.hs_meaning.specs.Selects.{shown_star, star, stars}
use Rattle.hs_meaning.specs.Surroundings.{Surroundings}

places_more : (p : ℕ) (xs ys : List OutputColumn) → enumerate_from p (xs ++ ys) ≡ enumerate_from p xs ++ enumerate_from (p + length xs) ys
places_more p [] ys = let same : p ≡ p + 0 = omega arith in ap (λ n. enumerate_from n ys) same
places_more p (x ∷ xs) ys =
    let same : (p + 1) + length xs ≡ p + length (x ∷ xs) = omega arith in
    ap (λ l. (p, x) ∷ l) (places_more (p + 1) xs ys ∙ ap (λ n. enumerate_from (p + 1) xs ++ enumerate_from n ys) same)

-- the columns of one table, and those of the tables behind it
shown_more : (at : ℕ) (s : Surroundings) (p : ℕ) (xs ys : List OutputColumn) → (stars at s (enumerate_from p (xs ++ ys))).shown ≡ (stars at s (enumerate_from p xs)).shown ++ (stars at s (enumerate_from (p + length xs) ys)).shown
shown_more at s p xs ys =
    ap (map (shown_star at s)) (places_more p xs ys)
    ∙ map-append (shown_star at s) (enumerate_from p xs) (enumerate_from (p + length xs) ys)

faults_more : (at : ℕ) (s : Surroundings) (p : ℕ) (xs ys : List OutputColumn) → (stars at s (enumerate_from p (xs ++ ys))).faults ≡ (stars at s (enumerate_from p xs)).faults ++ (stars at s (enumerate_from (p + length xs) ys)).faults
faults_more at s p xs ys =
    ap (flat_map (λ (c : ℕ × OutputColumn). (star at s c).faults)) (places_more p xs ys)
    ∙ flat_map-append (λ (c : ℕ × OutputColumn). (star at s c).faults) (enumerate_from p xs) (enumerate_from (p + length xs) ys)

-- ---- one table more

abbrev pub shown_of : ℕ → Surroundings → ℕ → List OutputColumn → List Shown
shown_of at s p columns = (stars at s (enumerate_from p columns)).shown

abbrev pub faults_of : ℕ → Surroundings → ℕ → List OutputColumn → List PlacedFault
faults_of at s p columns = (stars at s (enumerate_from p columns)).faults

pub shown_step : (at : ℕ) (s : Surroundings) (p q : ℕ) (t : FromTable) (tables rest : List FromTable) (before here all : List Shown)
    → tables ≡ t ∷ rest → q ≡ p + length t.columns → here ≡ before ++ shown_of at s p t.columns → before ++ shown_of at s p (every_column tables) ≡ all
    → here ++ shown_of at s q (every_column rest) ≡ all
shown_step at s p q t tables rest before here all next place shown kept =
    ap (λ l. l ++ shown_of at s q (every_column rest)) shown
    ∙ append_assoc before (shown_of at s p t.columns) (shown_of at s q (every_column rest))
    ∙ ap (λ n. before ++ (shown_of at s p t.columns ++ shown_of at s n (every_column rest))) place
    ∙ ap (λ l. before ++ l) (sym (shown_more at s p t.columns (every_column rest)))
    ∙ ap (λ l. before ++ shown_of at s p (every_column l)) (sym next)
    ∙ kept

pub faults_step : (at : ℕ) (s : Surroundings) (p q : ℕ) (t : FromTable) (tables rest : List FromTable) (before here all : Option PlacedFault)
    → tables ≡ t ∷ rest → q ≡ p + length t.columns → here ≡ noted before (faults_of at s p t.columns) → noted before (faults_of at s p (every_column tables)) ≡ all
    → noted here (faults_of at s q (every_column rest)) ≡ all
faults_step at s p q t tables rest before here all next place told kept =
    ap (λ f. noted f (faults_of at s q (every_column rest))) told
    ∙ sym (fold-append with_fault before (faults_of at s p t.columns) (faults_of at s q (every_column rest)))
    ∙ ap (λ n. noted before (faults_of at s p t.columns ++ faults_of at s n (every_column rest))) place
    ∙ ap (noted before) (sym (faults_more at s p t.columns (every_column rest)))
    ∙ ap (λ l. noted before (faults_of at s p (every_column l))) (sym next)
    ∙ kept
