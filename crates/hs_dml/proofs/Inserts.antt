-- The rows that an INSERT puts.
use Rattle.std.proofs.Common.{◌≡◌, List, [], ◌∷◌, ◌++◌, fold, map, Option, Some, None, Result, Ok, Err, refl, sym, ap, ◌∙◌, append_assoc, append-nil}
use Rattle.std.specs.List.{filter_map}
use Rattle.hs_base.specs.declared.numbers.TableNo.{TableNo}
use Rattle.hs_plan.specs.declared.change.Change.{Change}
use Rattle.hs_plan.specs.declared.change.Change.TheVariants as change
use Rattle.hs_values.specs.declared.fault.EvalFault.{EvalFault}
use Rattle.hs_values.specs.declared.value.Value.{Value}
use Rattle.hs_values.specs.Outcome.{◌>>=◌}
use Rattle.hs_rel.specs.Selection.{least, lesser_of, unless}
use Rattle.hs_expression.specs.Outcomes.{all_or_least, fault_in, value_in}
use Rattle.hs_dml.specs.declared.inserting.Inserting.{Inserting}
use Rattle.hs_dml.specs.Rows.{none_inserted, with_row}

module _ (table : TableNo) {X : Type 0} (outcome : X → Result (List Value) EvalFault) where
  abbrev with_more : Inserting → List (Result (List Value) EvalFault) → Inserting
  with_more so_far all = record { changes = so_far.changes ++ map (change.Insert table) (filter_map value_in all); fault = fold lesser_of so_far.fault (filter_map fault_in all) }

  abbrev step : Inserting → X → Inserting
  step so_far x = with_row table so_far (outcome x)

  all_inserted : (xs : List X) (so_far : Inserting) → fold step so_far xs ≡ with_more so_far (map outcome xs)
  all_inserted [] so_far = λ i. record { changes = sym (append-nil so_far.changes) i; fault = so_far.fault }
  all_inserted (x ∷ xs) so_far = by (all_inserted xs) (outcome x)
    where
      by : ((now : Inserting) → fold step now xs ≡ with_more now (map outcome xs)) → (o : Result (List Value) EvalFault) → fold step (with_row table so_far o) xs ≡ with_more so_far (o ∷ map outcome xs)
      by more (Ok row) =
          more (record so_far { changes = so_far.changes ++ change.Insert table row ∷ [] })
          ∙ (λ i. record { changes = append_assoc so_far.changes (change.Insert table row ∷ []) (map (change.Insert table) (filter_map value_in (map outcome xs))) i; fault = fold lesser_of so_far.fault (filter_map fault_in (map outcome xs)) })
      by more (Err fault) = more (record so_far { fault = lesser_of so_far.fault fault })

  changed : (fault : Option EvalFault) (rows : List (List Value)) → unless fault (map (change.Insert table) rows) ≡ (unless fault rows >>= λ rows. Ok (map (change.Insert table) rows))
  changed None rows = refl
  changed (Some fault) rows = refl

  pub inserted_told : (xs : List X) (made : Inserting) → made ≡ fold (λ so_far x. with_row table so_far (outcome x)) none_inserted xs → unless made.fault made.changes ≡ (all_or_least (map outcome xs) >>= λ rows. Ok (map (change.Insert table) rows))
  inserted_told xs made folded =
      ap (λ (m : Inserting). unless m.fault m.changes) (folded ∙ all_inserted xs none_inserted)
      ∙ changed (least (filter_map fault_in (map outcome xs))) (filter_map value_in (map outcome xs))
