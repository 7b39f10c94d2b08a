-- A SELECT of one table alone reads its rows through WHERE.
use Rattle.std.proofs.Common.{◌≡◌, ℕ, zero, suc, ◌==◌, Bool, true, false, cond, List, [], ◌∷◌, ◌++◌, filter, length, map, Option, Some, None, Result, Ok, Err, refl, sym, ap, subst, ◌∙◌, arith}
use Rattle.std.proofs.lemmas.Bool.Decides.{nat_tests}
use Rattle.std.proofs.lemmas.List.Sums.{length-filter}
use Rattle.std.specs.List.{Contains, count_by}
use Rattle.std.specs.Option.{option_map}
use Rattle.hs_base.specs.declared.numbers.TableNo.{TableNo}
use Rattle.hs_plan.specs.declared.expression.CaseArm.{CaseArm}
use Rattle.hs_plan.specs.declared.expression.Expr.{Expr}
use Rattle.hs_plan.specs.declared.expression.Expr.TheOpen.{Key-F}
use Rattle.hs_plan.specs.declared.expression.ListItem.{ListItem}
use Rattle.hs_plan.specs.declared.query.FromItem.{FromItem}
use Rattle.hs_plan.specs.declared.query.Join.{Join}
use Rattle.hs_plan.specs.declared.query.Key.{Key, out-Key}
use Rattle.hs_plan.specs.declared.query.Query.{Query, out-Query}
use Rattle.hs_plan.specs.declared.query.QueryBody.{QueryBody}
use Rattle.hs_plan.specs.declared.query.QueryBody as b
use Rattle.hs_plan.specs.declared.query.Select.{Select, out-Select}
use Rattle.hs_plan.specs.declared.query.SortKey.{SortKey, out-SortKey}
use Rattle.hs_plan.specs.declared.query.Source.{Source}
use Rattle.hs_plan.specs.declared.query.ValuesRow.{ValuesRow}
use Rattle.hs_plan.specs.Named as names
use Rattle.hs_plan.specs.Named.{Found, concat, if_written, named, named_in_body, named_in_from, named_in_key, named_in_query, named_in_sort_key}
use Rattle.hs_values.specs.declared.fault.EvalFault.{EvalFault}
use Rattle.hs_values.specs.Outcome.{◌>>=◌}
use Rattle.hs_changes.specs.Settings.{Maps}
use Rattle.hs_expression.specs.Outcomes.{all_or_least}
use Rattle.hs_expression.specs.Surroundings.{Rows, Valued}
use Rattle.hs_rel.specs.Selection.{selected}
use Rattle.hs_answer.specs.Answer.{body_in, element_in, key_in, query_in, select_in, sort_key_in, value_in}
use Rattle.hs_answer.specs.Frame.{Agree}
use Rattle.hs_answer.specs.From.{from_rows, rows_in}
use Rattle.hs_answer.specs.Groups.{places_of}
use Rattle.hs_answer.specs.Layers.{Line, SortBy}
use Rattle.hs_answer.specs.Order.{behind_sort_keys, limited, of_key, of_query, ordered}
use Rattle.hs_answer.specs.Places.{value_over}
use Rattle.hs_answer.specs.Selects.{having_true, line_at, one_of_each, where_true}
use Rattle.hs_answer_laws.proofs.Framed.{left_of, right_of, value_framed}
use Rattle.hs_narrowed.specs.Alone.{AgreeBut, IsChoice, ReadsThrough, chosen}
use Rattle.hs_narrowed.proofs.Opened.{key_found, key_is, key_layer, key_lists, query_is, query_layer, query_lists, select_body_is, select_body_lists, select_is, select_lists, sort_key_is, sort_key_lists}

-- ---- tables that are named once

none_kept : {X : Type 0} (p : X → Bool) (xs : List X) → filter p xs ≡ [] → (x : X) → Contains xs x → p x ≡ false
none_kept p [] h x found = absurd (omega (arith, found.1))
none_kept p (y ∷ ys) h x found = by (none_kept p ys) (p y) refl h found
  where
    by : (filter p ys ≡ [] → (x : _) → Contains ys x → p x ≡ false) → (is : Bool) → p y ≡ is → cond is (y ∷ filter p ys) (filter p ys) ≡ [] → Contains (y ∷ ys) x → p x ≡ false
    by more true is k found = absurd (cc)
    by more false is k (zero, within, same) = ap p (sym same) ∙ is
    by more false is k (suc n, within, same) = more k x (n, omega (arith, within), same)

empty_from : {X : Type 0} (xs : List X) → suc (length xs) ≡ 1 → xs ≡ []
empty_from [] h = refl
empty_from (x ∷ xs) h = absurd (omega arith)

-- whether a table is this one
abbrev pub is_one : TableNo → TableNo → Bool
is_one one table = table.0 == one.0

is_itself : (one : TableNo) → is_one one one ≡ true
is_itself one = grind (arith, nat_tests)

apart : (one : TableNo) (rest : Found) → count_by (is_one one) (one ∷ rest) ≡ 1 → (table : TableNo) → Contains rest table → is_one one table ≡ false
apart one rest once table found = none_kept (is_one one) rest (empty_from (filter (is_one one) rest) long) table found
  where
    long : suc (length (filter (is_one one) rest)) ≡ 1
    long = ap (λ is. length (cond is (one ∷ filter (is_one one) rest) (filter (is_one one) rest))) (sym (is_itself one)) ∙ length-filter (is_one one) (one ∷ rest) ∙ once

-- ---- parts that name other tables

module _ (a b : Maps) where
  all_framed : {T X : Type 0} (found : T → Found) (means : Maps → T → X) → ((x : T) → Agree a b (found x) → means a x ≡ means b x) → (xs : List T) → Agree a b (concat (map found xs)) → map (means a) xs ≡ map (means b) xs
  all_framed found means framed [] h = refl
  all_framed found means framed (x ∷ xs) h =
      let first = framed x (left_of a b (found x) (concat (map found xs)) h) in
      let rest = all_framed found means framed xs (right_of a b (found x) (concat (map found xs)) h) in
      λ i. first i ∷ rest i

  one_framed : (e : Option Expr) → Agree a b (if_written (option_map named e)) → option_map (value_in a) e ≡ option_map (value_in b) e
  one_framed None h = refl
  one_framed (Some e) h = ap Some (value_framed a b e h)

  key_framed : (x : Key) → Agree a b (named_in_key x) → key_in a x ≡ key_in b x
  key_framed x h = key_is a x ∙ by (out-Key x) (subst (Agree a b) (key_lists x) h) ∙ sym (key_is b x)
    where
      by : (y : Key-F Expr Join Key QueryBody Source CaseArm ListItem FromItem Query Select SortKey ValuesRow) → Agree a b (names.of_key (key_found y)) → of_key (key_layer a y) ≡ of_key (key_layer b y)
      by (Key-F.Output at) h = refl
      by (Key-F.Value e) h = let same = value_framed a b e h in λ i. of_key (Key-F.Value (same i))

  sort_key_framed : (x : SortKey) → Agree a b (named_in_sort_key x) → sort_key_in a x ≡ sort_key_in b x
  sort_key_framed x h =
      let same = key_framed (out-SortKey x).key (subst (Agree a b) (sort_key_lists x) h) in
      sort_key_is a x ∙ (λ i. record { key = same i; descending = (out-SortKey x).descending }) ∙ sym (sort_key_is b x)

-- ---- a SELECT behind its WHERE, and a query behind that

module _ (query : Query) (select : Select) (table : TableNo) (condition : Expr) (is : (out-Query query).body ≡ b.Select select) (choice : IsChoice select table condition) where
  abbrev behind_where : Rows → List Valued → Option Valued → List Valued → Rows → Result (List Line) EvalFault
  behind_where outer group_by having items rows =
      places_of (out-Select select).grouped outer group_by rows >>= λ places.
      having_true having places >>= λ kept.
      all_or_least (map (line_at items) kept) >>= λ lines. Ok (one_of_each (out-Select select).distinct outer lines)

  abbrev behind_body : List SortBy → List Line → Result Rows EvalFault
  behind_body order_by lines = all_or_least (map (behind_sort_keys order_by) lines) >>= λ rows. Ok (limited (out-Query query).limit (ordered order_by rows))

  abbrev behind : Rows → List Valued → Option Valued → List Valued → List SortBy → Result Rows EvalFault → Result Rows EvalFault
  behind outer group_by having items order_by found = found >>= behind_where outer group_by having items >>= behind_body order_by

  abbrev group_by : List Expr
  group_by = (out-Select select).group_by

  abbrev having : Option Expr
  having = (out-Select select).having

  abbrev items : List Expr
  items = (out-Select select).items

  abbrev order_by : List SortKey
  order_by = (out-Query query).order_by

  query_behind : (a : Maps) (outer : Rows) → query_in a query outer ≡ behind outer (map (value_in a) group_by) (option_map (value_in a) having) (map (value_in a) items) (map (sort_key_in a) order_by) (chosen a condition outer (rows_in a table))
  query_behind a outer =
      let rest = behind_where outer (map (value_in a) group_by) (option_map (value_in a) having) (map (value_in a) items) in
      let body : select_in a select outer ≡ (chosen a condition outer (rows_in a table) >>= rest) =
      ap (λ f. f outer) (select_is a select)
      ∙ ap (λ (r : Result Rows EvalFault). r >>= λ all. where_true outer (option_map (value_in a) (out-Select select).filter) all >>= rest) (choice.from.rows a outer)
      ∙ ap (λ (o : Option Expr). where_true outer (option_map (value_in a) o) (rows_in a table) >>= rest) choice.filter in
      ap (λ f. f outer) (query_is a query)
      ∙ ap (λ (body : QueryBody). body_in a body outer >>= behind_body (map (sort_key_in a) order_by)) is
      ∙ ap (λ f. f outer >>= behind_body (map (sort_key_in a) order_by)) (select_body_is a select)
      ∙ ap (λ (r : Result (List Line) EvalFault). r >>= behind_body (map (sort_key_in a) order_by)) body

  -- the tables that it names elsewhere
  abbrev elsewhere : Found
  elsewhere = named condition ++ concat (map named group_by) ++ if_written (option_map named having) ++ concat (map named items) ++ concat (map named_in_sort_key order_by)

  named_is : named_in_query query ≡ table ∷ elsewhere
  named_is =
      query_lists query
      ∙ ap (λ (body : QueryBody). named_in_body body ++ concat (map named_in_sort_key order_by)) is
      ∙ ap (λ (l : Found). l ++ concat (map named_in_sort_key order_by)) (select_body_lists select ∙ select_lists select)
      ∙ (λ i. choice.from.named i ++ if_written (option_map named (choice.filter i)) ++ concat (map named group_by) ++ if_written (option_map named having) ++ concat (map named items) ++ concat (map named_in_sort_key order_by))

  module _ (once : count_by (is_one table) (named_in_query query) ≡ 1) where
    agree_elsewhere : (a b : Maps) → AgreeBut table a b (named_in_query query) → Agree a b elsewhere
    agree_elsewhere a b agree other found = agree other (subst (λ (l : Found). Contains l other) (sym named_is) (behind_first other found)) (apart table elsewhere (ap (count_by (is_one table)) (sym named_is) ∙ once) other found)
      where
        behind_first : (other : TableNo) → Contains elsewhere other → Contains (table ∷ elsewhere) other
        behind_first other found = (suc found.0, omega (arith, found.1), found.2)

    reads_same : (a b : Maps) (outer : Rows) → AgreeBut table a b (named_in_query query) → chosen a condition outer (rows_in b table) ≡ chosen a condition outer (rows_in a table) → query_in b query outer ≡ query_in a query outer
    reads_same a b outer agree kept =
        let in_group_by = concat (map named group_by) in
        let in_having = if_written (option_map named having) in
        let in_items = concat (map named items) in
        let in_keys = concat (map named_in_sort_key order_by) in
        let all = agree_elsewhere a b agree in
        let to_items = left_of a b (named condition ++ in_group_by ++ in_having ++ in_items) in_keys all in
        let to_having = left_of a b (named condition ++ in_group_by ++ in_having) in_items to_items in
        let to_group_by = left_of a b (named condition ++ in_group_by) in_having to_having in
        let condition_same = value_framed a b condition (left_of a b (named condition) in_group_by to_group_by) in
        let group_by_same = all_framed a b named value_in (value_framed a b) group_by (right_of a b (named condition) in_group_by to_group_by) in
        let having_same = one_framed a b having (right_of a b (named condition ++ in_group_by) in_having to_having) in
        let items_same = all_framed a b named value_in (value_framed a b) items (right_of a b (named condition ++ in_group_by ++ in_having) in_items to_items) in
        let keys_same = all_framed a b named_in_sort_key sort_key_in (sort_key_framed a b) order_by (right_of a b (named condition ++ in_group_by ++ in_having ++ in_items) in_keys all) in
        let found_same : chosen a condition outer (rows_in a table) ≡ chosen b condition outer (rows_in b table) =
        sym kept ∙ ap (λ (f : Valued). selected (value_over f outer) (rows_in b table)) condition_same in
        query_behind b outer
        ∙ sym (λ i. behind outer (group_by_same i) (having_same i) (items_same i) (keys_same i) (found_same i))
        ∙ sym (query_behind a outer)

    reads_fault : (a : Maps) (outer : Rows) (fault : EvalFault) → chosen a condition outer (rows_in a table) ≡ Err fault → query_in a query outer ≡ Err fault
    reads_fault a outer fault h =
        query_behind a outer ∙ ap (behind outer (map (value_in a) group_by) (option_map (value_in a) having) (map (value_in a) items) (map (sort_key_in a) order_by)) h

    pub reads_through : ReadsThrough query table condition
    reads_through = record { same = reads_same; fault = reads_fault }
