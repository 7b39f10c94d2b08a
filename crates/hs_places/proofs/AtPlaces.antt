-- Places by their numbers.
use Rattle.std.proofs.Common.{◌≡◌, ℕ, zero, suc, ◌+◌, ◌<◌, ◌≤◌, List, [], ◌∷◌, ◌++◌, length, map, take, Option, None, Some, refl, sym, ap, ◌∙◌, arith}
use Rattle.std.proofs.lemmas.List.{take_more}
use Rattle.std.proofs.lemmas.Option.{slice_get-get_or, slice_get-map, slice_get_past, unwrap_or-slice_get}
use Rattle.std.specs.Prelude.{slice_get, unwrap_or}
use Rattle.hs_values.specs.declared.value.Value.{Value}
use Rattle.hs_answer.specs.Places.{first_row, over_group, over_row}
use Rattle.hs_answer.specs.Selects.{bare}
use Rattle.hs_expression.specs.Surroundings.{Rows, Surroundings}
use Rattle.hs_places.specs.Groups.{group_at}
use Rattle.hs_places.specs.declared.places.Over.{Over}
use Rattle.hs_places.specs.Lines.{line_around, lines_at, lines_over}
use Rattle.hs_places.specs.Places.{around_of, group_of, places_over, rows_or_none}

-- ---- groups

pub group_there : (groups : List Rows) (at : ℕ) → at < length groups → slice_get groups at ≡ Some (group_at groups at)
group_there groups at h = slice_get-get_or groups at [] h ∙ ap Some (sym (unwrap_or-slice_get groups at []))

pub group_next : (groups : List Rows) (at : ℕ) → at < length groups → take (at + 1) groups ≡ take at groups ++ group_at groups at ∷ []
group_next groups at h = take_more groups at [] h ∙ ap (λ g. take at groups ++ g ∷ []) (sym (unwrap_or-slice_get groups at []))

pub group_past : (groups : List Rows) (at : ℕ) → length groups ≤ at → group_at groups at ≡ []
group_past groups at h = ap (λ o. unwrap_or o []) (slice_get_past groups at h)

pub group_read : (groups : List Rows) (at : ℕ) (rows : Rows) → slice_get groups at ≡ Some rows → group_at groups at ≡ rows
group_read groups at rows h = ap (λ o. unwrap_or o []) h

pub numbered_group : (groups : List Rows) (numbers : List ℕ) (at number : ℕ) → slice_get numbers at ≡ Some number → group_at (map (group_at groups) numbers) at ≡ group_at groups number
numbered_group groups numbers at number h = ap (λ o. unwrap_or o []) (slice_get-map (group_at groups) numbers at ∙ ap (λ (o : Option ℕ). by o) h)
  where
    by : Option ℕ → Option Rows
    by None = None
    by (Some n) = Some (group_at groups n)

pub no_numbered_group : (groups : List Rows) (numbers : List ℕ) (at : ℕ) → slice_get numbers at ≡ None → group_at (map (group_at groups) numbers) at ≡ []
no_numbered_group groups numbers at h = ap (λ o. unwrap_or o []) (slice_get-map (group_at groups) numbers at ∙ ap (λ (o : Option ℕ). by o) h)
  where
    by : Option ℕ → Option Rows
    by None = None
    by (Some n) = Some (group_at groups n)

-- ---- surroundings

at_mapped : {X Y : Type 0} (f : X → Y) (xs : List X) (at : ℕ) (x : X) → slice_get xs at ≡ Some x → slice_get (map f xs) at ≡ Some (f x)
at_mapped f (y ∷ ys) zero x h = let same : y ≡ x = cc in ap (λ z. Some (f z)) same
at_mapped f (y ∷ ys) (suc at) x h = at_mapped f ys at x h
at_mapped f [] at x h = absurd (cc)

past_mapped : {X Y : Type 0} (f : X → Y) (xs : List X) (at : ℕ) → length xs ≤ at → slice_get (map f xs) at ≡ None
past_mapped f [] at h = refl
past_mapped f (x ∷ xs) zero h = absurd (omega arith)
past_mapped f (x ∷ xs) (suc at) h = past_mapped f xs at (omega arith)

none_mapped : {X Y : Type 0} (f : X → Y) (xs : List X) (at : ℕ) → slice_get xs at ≡ None → slice_get (map f xs) at ≡ None
none_mapped f [] at h = refl
none_mapped f (x ∷ xs) zero h = absurd (cc)
none_mapped f (x ∷ xs) (suc at) h = none_mapped f xs at h

pub row_around : (outer rows : Rows) (at : ℕ) (row : List Value) → slice_get rows at ≡ Some row → around_of (map (over_row outer) rows) at ≡ row ∷ outer
row_around outer rows at row h = ap rows_or_none (at_mapped (over_row outer) rows at row h)

pub no_row_around : (outer rows : Rows) (at : ℕ) → slice_get rows at ≡ None → around_of (map (over_row outer) rows) at ≡ []
no_row_around outer rows at h = ap rows_or_none (none_mapped (over_row outer) rows at h)

pub group_around : (outer : Rows) (groups : List Rows) (at : ℕ) → at < length groups → around_of (map (over_group outer) groups) at ≡ first_row (group_at groups at) ∷ outer
group_around outer groups at h = ap rows_or_none (at_mapped (over_group outer) groups at (group_at groups at) (group_there groups at h))

pub no_group_around : (outer : Rows) (groups : List Rows) (at : ℕ) → length groups ≤ at → around_of (map (over_group outer) groups) at ≡ []
no_group_around outer groups at h = ap rows_or_none (past_mapped (over_group outer) groups at h)

-- no rows are grouped
pub no_group_over : (outer rows : Rows) (at : ℕ) → group_of (map (over_row outer) rows) at ≡ []
no_group_over outer [] at = refl
no_group_over outer (row ∷ rows) zero = refl
no_group_over outer (row ∷ rows) (suc at) = no_group_over outer rows at

pub group_over : (outer : Rows) (groups : List Rows) (at : ℕ) → group_of (map (over_group outer) groups) at ≡ group_at groups at
group_over outer [] at = refl
group_over outer (group ∷ groups) zero = refl
group_over outer (group ∷ groups) (suc at) = group_over outer groups at

-- a place that is there
pub place_there : (places : List Surroundings) (at : ℕ) (s : Surroundings) → at < length places → s.rows ≡ around_of places at → s.group ≡ group_of places at → slice_get places at ≡ Some s
place_there [] at s h around group = absurd (omega arith)
place_there (p ∷ places) zero s h around group = ap Some (λ i. record { rows = sym around i; group = sym group i })
place_there (p ∷ places) (suc at) s h around group = place_there places at s (omega arith) around group

-- ---- lines

bare_line : (outer rows : Rows) (at : ℕ) (row : List Value) → slice_get rows at ≡ Some row → slice_get (map (bare outer) rows) at ≡ Some (bare outer row)
bare_line outer rows at row h = at_mapped (bare outer) rows at row h

placed_line : (places : List Surroundings) (rows : Rows) (at : ℕ) (row : List Value) → slice_get rows at ≡ Some row → slice_get (lines_at places rows) at ≡ Some (bare (around_of places at) row)
placed_line places [] at row h = absurd (cc)
placed_line [] (r ∷ rows) zero row h = let same : r ≡ row = cc in ap (λ z. Some (bare [] z)) same
placed_line [] (r ∷ rows) (suc at) row h = placed_line [] rows at row h
placed_line (p ∷ places) (r ∷ rows) zero row h = let same : r ≡ row = cc in ap (λ z. Some (bare p.rows z)) same
placed_line (p ∷ places) (r ∷ rows) (suc at) row h = placed_line places rows at row h

-- a line that is there
pub line_there : (outer : Rows) (over : Option Over) (rows : Rows) (at : ℕ) (row : List Value) → slice_get rows at ≡ Some row → slice_get (lines_over outer over rows) at ≡ Some (bare (line_around outer over at) row)
line_there outer None rows at row h = bare_line outer rows at row h
line_there outer (Some over) rows at row h = placed_line (places_over outer over) rows at row h
