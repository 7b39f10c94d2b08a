-- An answer stands in the order of its keys.
use Rattle.std.proofs.Common.{◌≡◌, suc, List, [], ◌∷◌, length, drop, map, Result, Ok, Err, refl, sym, ap, subst, ◌∙◌}
use Rattle.std.proofs.lemmas.List.Sorted.{Contains-permutation, IsPermutation-map, IsPermutation-sym}
use Rattle.std.specs.List.Sorted.{IsPermutation}
use Rattle.hs_values.specs.declared.fault.EvalFault.{EvalFault}
use Rattle.hs_values.specs.declared.value.Value.{Value}
use Rattle.hs_values.specs.Order.{keyed_order_of}
use Rattle.hs_values.specs.Outcome.{◌>>=◌}
use Rattle.hs_values.specs.Sorted.{keyed_rows}
use Rattle.hs_values.specs.TotalOrder.{keyed_order_of_total}
use Rattle.hs_values.proofs.Stable.{sorted_by-IsPermutation, sorted_by-IsSorted}
use Rattle.hs_expression.specs.Outcomes.{all_or_least}
use Rattle.hs_expression.specs.Surroundings.{Rows}
use Rattle.hs_answer.specs.Groups.{without_keys}
use Rattle.hs_answer.specs.Layers.{Line, QueryLayer, SortBy}
use Rattle.hs_answer.specs.Order.{behind_sort_keys, is_descending, keys_at, limited, of_query, ordered}
use Rattle.hs_answer.specs.Selects.{row_of, rows_of}
use Rattle.hs_answer_laws.specs.Ordered.{IsInOrder}
use Rattle.hs_answer_laws.proofs.Groups.{behind, dropped}
use Rattle.hs_answer_laws.proofs.Outcomes.{all_given, each_given, source_of}

as_many_keys : (order_by : List SortBy) (line : Line) (keys : List Value) → keys_at order_by line ≡ Ok keys → length keys ≡ length order_by
as_many_keys [] line [] h = refl
as_many_keys [] line (x ∷ xs) h = absurd (cc)
as_many_keys (one ∷ more) line keys h = by (one.key line) (keys_at more line) (as_many_keys more line) h
  where
    by : (first : Result Value EvalFault) (rest : Result (List Value) EvalFault) → ((xs : List Value) → rest ≡ Ok xs → length xs ≡ length more) → (first >>= λ x. rest >>= λ xs. Ok (x ∷ xs)) ≡ Ok keys → length keys ≡ length (one ∷ more)
    by (Ok x) (Ok xs) later told =
        let same : x ∷ xs ≡ keys = cc in
        sym (ap length same) ∙ ap suc (later xs refl)
    by (Ok x) (Err fault) later told = absurd (cc)
    by (Err fault) rest later told = absurd (cc)

module _ (order_by : List SortBy) (lines : List Line) (keyed : Rows) (is : all_or_least (map (behind_sort_keys order_by) lines) ≡ Ok keyed) where
  told : map (behind_sort_keys order_by) lines ≡ map Ok keyed
  told = all_given (map (behind_sort_keys order_by) lines) keyed is

  without : (line : Line) (row : List Value) → behind_sort_keys order_by line ≡ Ok row → drop (length order_by) row ≡ line.row
  without line row h =
      let parts = behind (keys_at order_by line) line.row row h in
      dropped (length order_by) parts.0 line.row row parts.2 (as_many_keys order_by line parts.0 parts.1)

  keyed_back : map (drop (length order_by)) keyed ≡ rows_of lines
  keyed_back = each_given (behind_sort_keys order_by) (drop (length order_by)) row_of without lines keyed told

  pub in_order : IsInOrder order_by lines (keyed_rows (map is_descending order_by) keyed)
  in_order =
      let flags = map is_descending order_by in
      let same : IsPermutation keyed (keyed_rows flags keyed) = sorted_by-IsPermutation (keyed_order_of flags) (keyed_order_of_total flags) keyed in
      record {
        same = subst (λ l. IsPermutation l (without_keys (length order_by) (keyed_rows flags keyed))) keyed_back (IsPermutation-map (drop (length order_by)) keyed (keyed_rows flags keyed) same);
        ascending = sorted_by-IsSorted (keyed_order_of flags) (keyed_order_of_total flags) keyed;
        keyed = λ row found. source_of (behind_sort_keys order_by) lines keyed told row (Contains-permutation (keyed_rows flags keyed) keyed row (IsPermutation-sym keyed (keyed_rows flags keyed) same) found);
      }

pub answered_in_order : (x : QueryLayer) (outer answer : Rows) → of_query x outer ≡ Ok answer → (lines : List Line) × (sorted : Rows) × (x.body outer ≡ Ok lines) × IsInOrder x.order_by lines sorted × (answer ≡ limited x.limit (without_keys (length x.order_by) sorted))
answered_in_order x outer answer h = by (x.body outer) refl h
  where
    with_keys : (lines : List Line) → x.body outer ≡ Ok lines → (given : Result Rows EvalFault) → all_or_least (map (behind_sort_keys x.order_by) lines) ≡ given → (given >>= λ rows. Ok (limited x.limit (ordered x.order_by rows))) ≡ Ok answer → (lines : List Line) × (sorted : Rows) × (x.body outer ≡ Ok lines) × IsInOrder x.order_by lines sorted × (answer ≡ limited x.limit (without_keys (length x.order_by) sorted))
    with_keys lines body (Ok keyed) is told =
        let same : limited x.limit (ordered x.order_by keyed) ≡ answer = cc in
        (lines, keyed_rows (map is_descending x.order_by) keyed, body, in_order x.order_by lines keyed is, sym same)
    with_keys lines body (Err fault) is told = absurd (cc)

    by : (given : Result (List Line) EvalFault) → x.body outer ≡ given → (given >>= λ lines. all_or_least (map (behind_sort_keys x.order_by) lines) >>= λ rows. Ok (limited x.limit (ordered x.order_by rows))) ≡ Ok answer → (lines : List Line) × (sorted : Rows) × (x.body outer ≡ Ok lines) × IsInOrder x.order_by lines sorted × (answer ≡ limited x.limit (without_keys (length x.order_by) sorted))
    by (Ok lines) is told = with_keys lines is (all_or_least (map (behind_sort_keys x.order_by) lines)) refl told
    by (Err fault) is told = absurd (cc)
