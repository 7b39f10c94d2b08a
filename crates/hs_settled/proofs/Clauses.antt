-- What is made of outcomes is what the clauses are defined to give.
use Rattle.std.proofs.Common.{◌≡◌, ℕ, Bool, true, false, List, [], ◌∷◌, ◌++◌, length, map, None, Some, Result, Ok, Err, refl, sym, ap, ◌∙◌}
use Rattle.std.proofs.lemmas.List.{length-map}
use Rattle.hs_ast.specs.declared.query.SetOperator.{SetOperator}
use Rattle.hs_plan.specs.declared.kind.Kind.{Kind}
use Rattle.hs_values.specs.declared.fault.EvalFault.{EvalFault}
use Rattle.hs_values.specs.declared.value.Value.{Value}
use Rattle.hs_values.specs.Outcome.{◌>>=◌}
use Rattle.hs_values.specs.Sorted.{keyed_rows}
use Rattle.hs_expression.specs.Outcomes.{all_or_least}
use Rattle.hs_expression.specs.Surroundings.{Rows, Surroundings, Valued}
use Rattle.hs_expression.specs.Numbers.{Outcome}
use Rattle.hs_rel.specs.Bags.{distinct_rows}
use Rattle.hs_rel.specs.Selection.{selected}
use Rattle.hs_answer.specs.Bodies.{combined, side_rows, sides_combined, widened}
use Rattle.hs_answer.specs.Groups.{behind_keys, parted, places_of, without_keys}
use Rattle.hs_answer.specs.Layers.{Bodied, Line, QueryLayer, SortBy}
use Rattle.hs_answer.specs.Order.{behind_sort_keys, is_descending, keys_at, limited, of_query, ordered}
use Rattle.hs_answer.specs.Places.{over_group, over_row, value_over, values_at}
use Rattle.hs_answer.specs.Selects.{bare, having_true, line_at, one_of_each, rows_of, where_true}
use Rattle.hs_places.proofs.Keeping.{having_kept, selected_kept}
use Rattle.hs_places.specs.declared.lines.Lines.{Lines}
use Rattle.hs_places.specs.declared.places.Over.{Over}
use Rattle.hs_places.specs.declared.places.Over.TheVariants as over
use Rattle.hs_places.specs.Keyed.{behind_each}
use Rattle.hs_places.specs.Lines.{lines_at, lines_seen}
use Rattle.hs_places.specs.Picking.{kept_by}
use Rattle.hs_places.specs.Places.{places_over}
use Rattle.hs_settled.specs.Parts.{RowOutcome, grouped_by, kept_over, lines_by, lines_given, sides_given, sorted_given}
use Rattle.hs_settled.proofs.Outcomes.{all_made}
use Rattle.hs_settled.proofs.AtSpots.{rows_seen}

-- ---- WHERE, GROUP BY and HAVING

-- what an expression gives over rows
pub over_rows : (a : Valued) (outer rows : Rows) → map a (map (over_row outer) rows) ≡ map (value_over a outer) rows
over_rows a outer [] = refl
over_rows a outer (row ∷ rows) = ap (λ l. value_over a outer row ∷ l) (over_rows a outer rows)

pub rows_where : (a : Valued) (outer rows : Rows) (outcomes : List Outcome) → outcomes ≡ map a (map (over_row outer) rows) → where_true outer (Some a) rows ≡ kept_by rows outcomes
rows_where a outer rows outcomes is = sym (selected_kept (value_over a outer) rows) ∙ ap (kept_by rows) (sym (is ∙ over_rows a outer rows))

behind_rows : (outer : Rows) (group_by : List Valued) (rows : Rows) → all_or_least (map (behind_keys outer group_by) rows) ≡ (all_or_least (map (λ row. values_at group_by (over_row outer row)) rows) >>= λ given. Ok (behind_each given rows))
behind_rows outer group_by rows = all_made (λ row. values_at group_by (over_row outer row)) (λ row keys. keys ++ row) (λ rows given. behind_each given rows) refl (λ row rows keys given. refl) rows

keys_over : (outer : Rows) (group_by : List Valued) (rows : Rows) → map (values_at group_by) (map (over_row outer) rows) ≡ map (λ row. values_at group_by (over_row outer row)) rows
keys_over outer group_by [] = refl
keys_over outer group_by (row ∷ rows) = ap (λ l. values_at group_by (over_row outer row) ∷ l) (keys_over outer group_by rows)

pub groups_are : (is_grouped : Bool) (outer : Rows) (group_by : List Valued) (rows : Rows) (keys : List RowOutcome) → keys ≡ map (values_at group_by) (map (over_row outer) rows) → places_of is_grouped outer group_by rows ≡ (grouped_by is_grouped (length group_by) keys rows >>= λ over. Ok (places_over outer over))
groups_are false outer group_by rows keys is = refl
groups_are true outer [] rows keys is = refl
groups_are true outer (key ∷ more) rows keys is =
    ap (λ (r : Result Rows EvalFault). (r >>= λ keyed. Ok (parted (length (key ∷ more)) keyed)) >>= λ groups. Ok (map (over_group outer) groups))
    (behind_rows outer (key ∷ more) rows ∙ ap (λ l. all_or_least l >>= λ given. Ok (behind_each given rows)) (sym (is ∙ keys_over outer (key ∷ more) rows)))
    ∙ by (all_or_least keys)
  where
    by : (given : Result Rows EvalFault) → (((given >>= λ keys. Ok (behind_each keys rows)) >>= λ keyed. Ok (parted (length (key ∷ more)) keyed)) >>= λ groups. Ok (map (over_group outer) groups)) ≡ ((given >>= λ keys. Ok (over.Groups (parted (length (key ∷ more)) (behind_each keys rows)))) >>= λ over. Ok (places_over outer over))
    by (Ok keys) = refl
    by (Err fault) = refl

pub having_are : (outer : Rows) (condition : Valued) (over : Over) (outcomes : List Outcome) → outcomes ≡ map condition (places_over outer over) → having_true (Some condition) (places_over outer over) ≡ (kept_over over outcomes >>= λ kept. Ok (places_over outer kept))
having_are outer condition (over.Rows rows) outcomes is = having_kept (over_row outer) condition rows ∙ ap (λ l. kept_by rows l >>= λ kept. Ok (map (over_row outer) kept)) (sym is) ∙ by (kept_by rows outcomes)
  where
    by : (given : Result Rows EvalFault) → (given >>= λ kept. Ok (map (over_row outer) kept)) ≡ ((given >>= λ kept. Ok (over.Rows kept)) >>= λ over. Ok (places_over outer over))
    by (Ok kept) = refl
    by (Err fault) = refl
having_are outer condition (over.Groups groups) outcomes is = having_kept (over_group outer) condition groups ∙ ap (λ l. kept_by groups l >>= λ kept. Ok (map (over_group outer) kept)) (sym is) ∙ by (kept_by groups outcomes)
  where
    by : (given : Result (List Rows) EvalFault) → (given >>= λ kept. Ok (map (over_group outer) kept)) ≡ ((given >>= λ kept. Ok (over.Groups kept)) >>= λ over. Ok (places_over outer over))
    by (Ok kept) = refl
    by (Err fault) = refl

-- ---- items and DISTINCT

items_at : (items : List Valued) (places : List Surroundings) → all_or_least (map (line_at items) places) ≡ (all_or_least (map (values_at items) places) >>= λ rows. Ok (lines_at places rows))
items_at items places = all_made (values_at items) (λ s row. bare s.rows row) lines_at refl (λ s places row rows. refl) places

pub lines_are : (is_distinct : Bool) (outer : Rows) (items : List Valued) (over : Over) (outcomes : List RowOutcome) → outcomes ≡ map (values_at items) (places_over outer over) → (all_or_least (map (line_at items) (places_over outer over)) >>= λ lines. Ok (one_of_each is_distinct outer lines)) ≡ (lines_given is_distinct over outcomes >>= λ lines. Ok (lines_seen outer lines))
lines_are is_distinct outer items over outcomes is =
    ap (λ (r : Result (List Line) EvalFault). r >>= λ lines. Ok (one_of_each is_distinct outer lines)) (items_at items (places_over outer over) ∙ ap (λ l. all_or_least l >>= λ rows. Ok (lines_at (places_over outer over) rows)) (sym is))
    ∙ by is_distinct (all_or_least outcomes)
  where
    by : (is_distinct : Bool) (given : Result Rows EvalFault) → ((given >>= λ rows. Ok (lines_at (places_over outer over) rows)) >>= λ lines. Ok (one_of_each is_distinct outer lines)) ≡ ((given >>= λ rows. Ok (lines_by is_distinct over rows)) >>= λ lines. Ok (lines_seen outer lines))
    by is_distinct (Err fault) = refl
    by false (Ok rows) = refl
    by true (Ok rows) = ap (λ l. Ok (map (bare outer) (distinct_rows l))) (rows_seen outer (record { rows = rows; over = Some over }))

-- ---- bodies, ORDER BY and LIMIT

pub sides_are : (operator : SetOperator) (kinds : List Kind) (left right : Bodied) (outer : Rows) (above below : Lines) → left outer ≡ Ok (lines_seen outer above) → right outer ≡ Ok (lines_seen outer below) → sides_combined operator kinds left right outer ≡ (sides_given operator kinds above.rows below.rows >>= λ rows. Ok (map (bare outer) rows))
sides_are operator kinds left right outer above below l r =
    ap (λ s. s >>= λ above. right outer >>= λ below. side_rows kinds above >>= λ a. side_rows kinds below >>= λ b. Ok (map (bare outer) (combined operator a b))) l
    ∙ ap (λ s. s >>= λ below. side_rows kinds (lines_seen outer above) >>= λ a. side_rows kinds below >>= λ b. Ok (map (bare outer) (combined operator a b))) r
    ∙ ap (λ rows. all_or_least (map (widened kinds) rows) >>= λ a. side_rows kinds (lines_seen outer below) >>= λ b. Ok (map (bare outer) (combined operator a b))) (rows_seen outer above)
    ∙ ap (λ rows. all_or_least (map (widened kinds) above.rows) >>= λ a. all_or_least (map (widened kinds) rows) >>= λ b. Ok (map (bare outer) (combined operator a b))) (rows_seen outer below)
    ∙ by (all_or_least (map (widened kinds) above.rows)) (all_or_least (map (widened kinds) below.rows))
  where
    by : (a b : Result Rows EvalFault) → (a >>= λ a. b >>= λ b. Ok (map (bare outer) (combined operator a b))) ≡ ((a >>= λ a. b >>= λ b. Ok (combined operator a b)) >>= λ rows. Ok (map (bare outer) rows))
    by (Ok a) (Ok b) = refl
    by (Ok a) (Err fault) = refl
    by (Err fault) b = refl

keys_behind : (order_by : List SortBy) (lines : List Line) → all_or_least (map (behind_sort_keys order_by) lines) ≡ (all_or_least (map (keys_at order_by) lines) >>= λ given. Ok (behind_each given (rows_of lines)))
keys_behind order_by lines = all_made (keys_at order_by) (λ line keys. keys ++ line.row) (λ lines given. behind_each given (rows_of lines)) refl (λ line lines keys given. refl) lines

pub query_is : (x : QueryLayer) (outer : Rows) (lines : Lines) (descending : List Bool) (keys : List RowOutcome) → x.body outer ≡ Ok (lines_seen outer lines) → descending ≡ map is_descending x.order_by → keys ≡ map (keys_at x.order_by) (lines_seen outer lines) → of_query x outer ≡ sorted_given x.limit descending keys lines.rows
query_is x outer lines descending keys body flags is =
    ap (λ s. s >>= λ lines. all_or_least (map (behind_sort_keys x.order_by) lines) >>= λ rows. Ok (limited x.limit (ordered x.order_by rows))) body
    ∙ ap (λ (r : Result Rows EvalFault). r >>= λ rows. Ok (limited x.limit (ordered x.order_by rows)))
    (keys_behind x.order_by (lines_seen outer lines) ∙ (λ i. all_or_least (sym is i) >>= λ given. Ok (behind_each given (rows_seen outer lines i))))
    ∙ by (all_or_least keys)
  where
    by : (given : Result Rows EvalFault) → ((given >>= λ keys. Ok (behind_each keys lines.rows)) >>= λ rows. Ok (limited x.limit (ordered x.order_by rows))) ≡ (given >>= λ keys. Ok (limited x.limit (without_keys (length descending) (keyed_rows descending (behind_each keys lines.rows)))))
    by (Ok keys) =
        let many : length x.order_by ≡ length descending = sym (ap length flags ∙ length-map x.order_by is_descending) in
        λ i. Ok (limited x.limit (without_keys (many i) (keyed_rows (sym flags i) (behind_each keys lines.rows))))
    by (Err fault) = refl
