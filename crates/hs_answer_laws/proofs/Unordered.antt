-- In whatever order a body gives its lines, the answer is the same.
use Rattle.std.proofs.Common.{◌≡◌, List, [], ◌∷◌, length, map, Result, Ok, Err, refl, sym, ap, subst, ◌∙◌, arith}
use Rattle.std.proofs.lemmas.List.Sorted.{Contains-permutation, IsPermutation-map, IsPermutation-sym}
use Rattle.std.specs.List.{Contains}
use Rattle.std.specs.List.Sorted.{IsPermutation}
use Rattle.hs_values.specs.declared.fault.EvalFault.{EvalFault}
use Rattle.hs_values.specs.declared.value.Value.{Value}
use Rattle.hs_values.specs.Outcome.{◌>>=◌}
use Rattle.hs_values.proofs.Faults.{one_number}
use Rattle.hs_values.proofs.KeyedBags.{keyed_bag}
use Rattle.hs_expression.specs.Outcomes.{all_or_least}
use Rattle.hs_expression.specs.Surroundings.{Rows}
use Rattle.hs_answer.specs.Groups.{without_keys}
use Rattle.hs_answer.specs.Layers.{Bodied, Line, QueryLayer}
use Rattle.hs_answer.specs.Order.{behind_sort_keys, is_descending, limited, of_query, ordered}
use Rattle.hs_answer_laws.specs.Ordered.{TiesAreIdentical}
use Rattle.hs_answer_laws.proofs.Groups.{from_map}
use Rattle.hs_answer_laws.proofs.Least.{least_outcome}
use Rattle.hs_answer_laws.proofs.Outcomes.{all_given, source_of}

-- ---- outcomes in another order

abbrev row_in : Result (List Value) EvalFault → List Value
row_in (Ok row) = row
row_in (Err fault) = []

rows_back : (rows : Rows) → map row_in (map Ok rows) ≡ rows
rows_back [] = refl
rows_back (row ∷ rows) = let rest = rows_back rows in λ i. row ∷ rest i

-- where all give rows, none is a fault
no_fault_in : (rows : Rows) (fault : EvalFault) → Contains (map Ok rows) (Err fault) → ⊥
no_fault_in rows fault h =
    let found = from_map Ok rows (Err fault) h in
    let clash : Err fault ≡ Ok found.0 = found.2 in
    cc

module _ (xs ys : List (Result (List Value) EvalFault)) (same : IsPermutation xs ys) where
  pub rows_too : (rows : Rows) → all_or_least xs ≡ Ok rows → (others : Rows) × (all_or_least ys ≡ Ok others) × IsPermutation rows others
  rows_too rows is = by (all_or_least ys) refl
    where
      by : (given : Result Rows EvalFault) → all_or_least ys ≡ given → (others : Rows) × (all_or_least ys ≡ Ok others) × IsPermutation rows others
      by (Ok others) told =
          let left = all_given xs rows is in
          let right = all_given ys others told in
          let both : IsPermutation (map Ok rows) (map Ok others) = subst (λ l. IsPermutation (map Ok rows) l) right (subst (λ l. IsPermutation l ys) left same) in
          let back = IsPermutation-map row_in (map Ok rows) (map Ok others) both in
          (others, told, subst (λ l. IsPermutation rows l) (rows_back others) (subst (λ l. IsPermutation l (map row_in (map Ok others))) (rows_back rows) back))
      by (Err fault) told =
          let there = Contains-permutation ys xs (Err fault) (IsPermutation-sym xs ys same) (least_outcome ys fault told).0 in
          absurd (no_fault_in rows fault (subst (λ l. Contains l (Err fault)) (all_given xs rows is) there))

  pub fault_too : (fault : EvalFault) → all_or_least xs ≡ Err fault → all_or_least ys ≡ Err fault
  fault_too fault is = by (all_or_least ys) refl
    where
      by : (given : Result Rows EvalFault) → all_or_least ys ≡ given → all_or_least ys ≡ Err fault
      by (Ok others) told =
          let there = Contains-permutation xs ys (Err fault) same (least_outcome xs fault is).0 in
          absurd (no_fault_in others fault (subst (λ l. Contains l (Err fault)) (all_given ys others told) there))
      by (Err other) told =
          let left = least_outcome xs fault is in
          let right = least_outcome ys other told in
          let low = left.1 other (Contains-permutation ys xs (Err other) (IsPermutation-sym xs ys same) right.0) in
          let high = right.1 fault (Contains-permutation xs ys (Err fault) same left.0) in
          told ∙ ap Err (one_number other fault (omega (arith, low, high)))

-- ---- queries

pub unordered : (x : QueryLayer) (body : Bodied) (outer : Rows) (lines others : List Line) → x.body outer ≡ Ok lines → body outer ≡ Ok others → IsPermutation lines others → TiesAreIdentical x.order_by lines → of_query x outer ≡ of_query (record x { body = body }) outer
unordered x body outer lines others here there same ties =
    ap (λ given. given >>= λ lines. all_or_least (map (behind_sort_keys x.order_by) lines) >>= λ rows. Ok (limited x.limit (ordered x.order_by rows))) here
    ∙ by (all_or_least (map (behind_sort_keys x.order_by) lines)) refl
    ∙ sym (ap (λ given. given >>= λ lines. all_or_least (map (behind_sort_keys x.order_by) lines) >>= λ rows. Ok (limited x.limit (ordered x.order_by rows))) there)
  where
    by : (given : Result Rows EvalFault) → all_or_least (map (behind_sort_keys x.order_by) lines) ≡ given → (all_or_least (map (behind_sort_keys x.order_by) lines) >>= λ rows. Ok (limited x.limit (ordered x.order_by rows))) ≡ (all_or_least (map (behind_sort_keys x.order_by) others) >>= λ rows. Ok (limited x.limit (ordered x.order_by rows)))
    by (Ok rows) is =
        let more = rows_too (map (behind_sort_keys x.order_by) lines) (map (behind_sort_keys x.order_by) others) (IsPermutation-map (behind_sort_keys x.order_by) lines others same) rows is in
        let told = all_given (map (behind_sort_keys x.order_by) lines) rows is in
        let order = keyed_bag (map is_descending x.order_by) rows more.0 more.2 (λ a b in_a in_b tie.
        let one = source_of (behind_sort_keys x.order_by) lines rows told a in_a in
        let other = source_of (behind_sort_keys x.order_by) lines rows told b in_b in
        ties one.0 other.0 a b one.1 other.1 one.2 other.2 tie) in
        ap (λ given. given >>= λ rows. Ok (limited x.limit (ordered x.order_by rows))) is
        ∙ ap (λ rows. Ok (limited x.limit (without_keys (length x.order_by) rows))) order
        ∙ sym (ap (λ given. given >>= λ rows. Ok (limited x.limit (ordered x.order_by rows))) more.1)
    by (Err fault) is =
        ap (λ given. given >>= λ rows. Ok (limited x.limit (ordered x.order_by rows))) is
        ∙ sym (ap (λ given. given >>= λ rows. Ok (limited x.limit (ordered x.order_by rows))) (fault_too (map (behind_sort_keys x.order_by) lines) (map (behind_sort_keys x.order_by) others) (IsPermutation-map (behind_sort_keys x.order_by) lines others same) fault is))
