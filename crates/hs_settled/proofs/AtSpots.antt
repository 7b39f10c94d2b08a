-- Places by their numbers.
use Rattle.std.proofs.Common.{◌≡◌, ℕ, zero, suc, ◌+◌, ◌<◌, List, [], ◌∷◌, ◌++◌, length, map, take, Option, None, Some, refl, sym, ap, ◌∙◌, arith}
use Rattle.std.proofs.lemmas.List.{length-map}
use Rattle.std.proofs.lemmas.Option.{slice_get-get_or, slice_get-map}
use Rattle.std.specs.Option.{option_map}
use Rattle.std.specs.Prelude.{slice_get}
use Rattle.hs_values.specs.declared.value.Value.{Value}
use Rattle.hs_expression.specs.Numbers.{Outcome}
use Rattle.hs_answer.specs.Layers.{Line}
use Rattle.hs_answer.specs.Places.{over_row}
use Rattle.hs_answer.specs.Selects.{bare, row_of, rows_of}
use Rattle.hs_expression.specs.Expression.{value_in_group}
use Rattle.hs_expression.specs.Surroundings.{Rows, Surroundings, Valued, outside}
use Rattle.hs_places.proofs.AtPlaces.{line_there, place_there}
use Rattle.hs_places.proofs.Lists.{mapped_next}
use Rattle.hs_places.specs.declared.lines.Lines.{Lines}
use Rattle.hs_places.specs.declared.places.Over.{Over}
use Rattle.hs_places.specs.Lines.{line_around, lines_at, lines_over, lines_seen}
use Rattle.hs_places.specs.Places.{around_of, group_of, places_over, rows_or_none}
use Rattle.hs_settled.specs.Spots.{key_place}

-- ---- lines

rows_at : (places : List Surroundings) (rows : Rows) → rows_of (lines_at places rows) ≡ rows
rows_at places [] = refl
rows_at [] (row ∷ rows) = ap (λ l. row ∷ l) (rows_at [] rows)
rows_at (s ∷ places) (row ∷ rows) = ap (λ l. row ∷ l) (rows_at places rows)

pub bare_rows : (outer rows : Rows) → rows_of (map (bare outer) rows) ≡ rows
bare_rows outer [] = refl
bare_rows outer (row ∷ rows) = ap (λ l. row ∷ l) (bare_rows outer rows)

rows_over : (outer : Rows) (over : Option Over) (rows : Rows) → rows_of (lines_over outer over rows) ≡ rows
rows_over outer None rows = bare_rows outer rows
rows_over outer (Some over) rows = rows_at (places_over outer over) rows

-- the rows of a body's lines
pub rows_seen : (outer : Rows) (lines : Lines) → rows_of (lines_seen outer lines) ≡ lines.rows
rows_seen outer lines = rows_over outer lines.over lines.rows

pub many_lines : (outer : Rows) (over : Option Over) (rows : Rows) → length (map key_place (lines_over outer over rows)) ≡ length rows
many_lines outer over rows =
    length-map (lines_over outer over rows) key_place
    ∙ sym (length-map (lines_over outer over rows) row_of)
    ∙ ap length (rows_over outer over rows)

pub around_key : (outer : Rows) (over : Option Over) (rows : Rows) (at : ℕ) → at < length (map key_place (lines_over outer over rows)) → line_around outer over at ≡ around_of (map key_place (lines_over outer over rows)) at
around_key outer over rows at h =
    let many = many_lines outer over rows in
    let there = slice_get-get_or rows at [] (omega (arith, many)) in
    sym (ap rows_or_none (slice_get-map key_place (lines_over outer over rows) at ∙ ap (option_map key_place) (line_there outer over rows at _ there)))

pub no_group_at_key : (lines : List Line) (at : ℕ) → [] ≡ group_of (map key_place lines) at
no_group_at_key [] at = refl
no_group_at_key (line ∷ lines) zero = refl
no_group_at_key (line ∷ lines) (suc at) = no_group_at_key lines at

-- ---- outcomes at places

-- one place more
pub outcome_more : (a : Valued) (places : List Surroundings) (at : ℕ) (s : Surroundings) → at < length places → s.rows ≡ around_of places at → s.group ≡ group_of places at → map a (take (at + 1) places) ≡ map a (take at places) ++ a s ∷ []
outcome_more a places at s h around group = mapped_next a places at s (place_there places at s h around group)

-- at the rows of a group
pub in_group : (a : Valued) (s : Surroundings) → map a (map (over_row (outside s.rows)) s.group) ≡ map (value_in_group a s) s.group
in_group a s = by s.group
  where
    by : (group : Rows) → map a (map (over_row (outside s.rows)) group) ≡ map (value_in_group a s) group
    by [] = refl
    by (row ∷ group) = ap (λ l. value_in_group a s row ∷ l) (by group)
