-- The rows for which a condition is TRUE.
use Rattle.std.proofs.Common.{◌≡◌, ℕ, Bool, true, false, cond, List, [], ◌∷◌, ◌++◌, filter, fold, map, Option, Some, None, Result, Ok, Err, refl, sym, ap, subst, ◌∙◌, append_assoc, append-nil}
use Rattle.std.specs.FinMap.{entries, get}
use Rattle.std.specs.List.{cons_option, filter_map}
use Rattle.std.specs.Option.{option_map_or}
use Rattle.hs_base.specs.declared.numbers.RowNo.{RowNo}
use Rattle.hs_plan.specs.declared.expression.Expr.{Expr}
use Rattle.hs_values.specs.declared.fault.EvalFault.{EvalFault}
use Rattle.hs_values.specs.declared.value.Value.{Value}
use Rattle.hs_values.specs.declared.value.Value.TheVariants as v
use Rattle.hs_values.specs.Outcome.{◌>>=◌}
use Rattle.hs_index.specs.Table.{Rows, has_key}
use Rattle.hs_lookups.specs.Asked.{IsPassedOver}
use Rattle.hs_rel.specs.Selection.{Verdict, fault_of, is_true, least_fault, lesser_of, unless}
use Rattle.hs_tentative.specs.NewRows.{Evaluate}
use Rattle.hs_tentative.specs.Statements.{Numbered, for_which}
use Rattle.hs_dml.specs.Candidates.{AreCandidates}
use Rattle.hs_dml.specs.declared.chosen.Chosen.{Chosen}
use Rattle.hs_dml.specs.Rows.{judged_at, none_chosen, number_of, numbers_for, with_verdict}
use Rattle.hs_dml.proofs.Standing.{Entries, Rise, Stand, all_rise, all_stand, numbers_are, some_rise, some_stand}

abbrev with_more : Chosen → List RowNo → List EvalFault → Chosen
with_more so_far rows faults = record { rows = so_far.rows ++ rows; fault = fold lesser_of so_far.fault faults }

abbrev faults : Verdict → Entries → List EvalFault
faults verdict es = filter_map (λ row. fault_of (verdict row)) (map (λ e. e.1) es)

abbrev kept : Verdict → Entries → Entries
kept verdict es = filter (λ e. is_true (verdict e.1)) es

verdict_more : (so_far : Chosen) (e : ℕ × List Value) (es : Entries) (fs : List EvalFault) (given : Result Value EvalFault) → with_more (with_verdict so_far (number_of e) given) (map number_of es) fs ≡ with_more so_far (map number_of (cond (is_true given) (e ∷ es) es)) (cons_option (fault_of given) fs)
verdict_more so_far e es fs (Ok (v.Bool true)) = λ i. record { rows = append_assoc so_far.rows (number_of e ∷ []) (map number_of es) i; fault = fold lesser_of so_far.fault fs }
verdict_more so_far e es fs (Ok (v.Bool false)) = refl
verdict_more so_far e es fs (Ok a) = refl
verdict_more so_far e es fs (Err fault) = refl

all_judged : (verdict : Verdict) (rows : Rows) (es : Entries) (so_far : Chosen) → Stand rows es → fold (judged_at rows verdict) so_far (map number_of es) ≡ with_more so_far (map number_of (kept verdict es)) (faults verdict es)
all_judged verdict rows [] so_far h = λ i. record { rows = sym (append-nil so_far.rows) i; fault = so_far.fault }
all_judged verdict rows (e ∷ es) so_far h =
    ap (λ (o : Option (List Value)). fold (judged_at rows verdict) (option_map_or (λ values. with_verdict so_far (number_of e) (verdict values)) o so_far) (map number_of es)) h.0
    ∙ all_judged verdict rows es (with_verdict so_far (number_of e) (verdict e.1)) h.1
    ∙ verdict_more so_far e (kept verdict es) (faults verdict es) (verdict e.1)

numbered : (fault : Option EvalFault) (es : Entries) → unless fault (map number_of es) ≡ (unless fault es >>= λ found. Ok (map number_of found))
numbered None es = refl
numbered (Some fault) es = refl

-- ---- fewer rows, where those that are left out are passed over

module _ (verdict : Verdict) (test : (ℕ × List Value) → Bool) (passed : (e : ℕ × List Value) → test e ≡ false → IsPassedOver (verdict e.1)) where
  kept_fewer : (es : Entries) → kept verdict (filter test es) ≡ kept verdict es
  kept_fewer [] = refl
  kept_fewer (e ∷ es) = by (test e) refl ∙ ap (λ more. cond (is_true (verdict e.1)) (e ∷ more) more) (kept_fewer es)
    where
      by : (is : Bool) → test e ≡ is → kept verdict (cond is (e ∷ filter test es) (filter test es)) ≡ cond (is_true (verdict e.1)) (e ∷ kept verdict (filter test es)) (kept verdict (filter test es))
      by true is = refl
      by false is = ap (λ b. cond b (e ∷ kept verdict (filter test es)) (kept verdict (filter test es))) (sym (passed e is).not_true)

  faults_fewer : (es : Entries) → faults verdict (filter test es) ≡ faults verdict es
  faults_fewer [] = refl
  faults_fewer (e ∷ es) = by (test e) refl ∙ ap (cons_option (fault_of (verdict e.1))) (faults_fewer es)
    where
      by : (is : Bool) → test e ≡ is → faults verdict (cond is (e ∷ filter test es) (filter test es)) ≡ cons_option (fault_of (verdict e.1)) (faults verdict (filter test es))
      by true is = refl
      by false is = ap (λ o. cons_option o (faults verdict (filter test es))) (sym (passed e is).no_fault)

-- ---- the rows of a table at which a condition is looked at

abbrev with_key : List ℕ → List Value → (ℕ × List Value) → Bool
with_key columns key e = has_key columns key (Some e.1)

pub chosen_told : (evaluate : Evaluate) (condition : Expr) (rows : Rows) (made : Chosen) (found : List RowNo) → AreCandidates (evaluate condition) rows found → made ≡ fold (judged_at rows (evaluate condition)) none_chosen found → unless made.fault made.rows ≡ numbers_for evaluate (Some condition) rows
chosen_told evaluate condition rows made found are folded =
    let verdict : Verdict = evaluate condition in
    let test = with_key are.columns are.key in
    let es = entries rows in
    let passed : (e : ℕ × List Value) → test e ≡ false → IsPassedOver (verdict e.1) = λ e h. are.narrows e.1 h in
    ap (λ (m : Chosen). unless m.fault m.rows)
    (folded
    ∙ ap (fold (judged_at rows verdict) none_chosen) (numbers_are (filter test es) found are.numbers)
    ∙ all_judged verdict rows (filter test es) none_chosen (some_stand test rows es (all_stand rows))
    ∙ (λ i. with_more none_chosen (map number_of (kept_fewer verdict test passed es i)) (faults_fewer verdict test passed es i)))
    ∙ numbered (least_fault verdict (map (λ e. e.1) es)) (kept verdict es)

-- all rows are such, as each has the key of no columns
pub all_candidates : (verdict : Verdict) (rows : Rows) (found : List RowNo) → found ≡ map number_of (entries rows) → AreCandidates verdict rows found
all_candidates verdict rows found is = record {
  columns = [];
  key = [];
  narrows = λ row h. absurd (cc);
  numbers = ap (map (λ r. r.0)) is ∙ told (entries rows);
}
  where
    told : (es : Entries) → map (λ r. r.0) (map number_of es) ≡ map (λ e. e.0) (filter (with_key [] []) es)
    told [] = refl
    told (e ∷ es) = ap (λ ns. e.0 ∷ ns) (told es)

-- ---- what is chosen stands, in ascending order

pub record AreChosen (rows : Rows) (es : Numbered) : Type 0 where
  pub stand : Stand rows es
  pub rise : Rise es

same_ok : {A : Type 0} (x y : A) (r : Result A EvalFault) → r ≡ Ok x → r ≡ Ok y → x ≡ y
same_ok x y r h k = cc

kept_chosen : (evaluate : Evaluate) (condition : Expr) (rows : Rows) → AreChosen rows (kept (evaluate condition) (entries rows))
kept_chosen evaluate condition rows =
    let test : (ℕ × List Value) → Bool = λ e. is_true (evaluate condition e.1) in
    record { stand = some_stand test rows (entries rows) (all_stand rows); rise = some_rise test (entries rows) (all_rise rows) }

pub are_chosen : (evaluate : Evaluate) (condition : Option Expr) (rows : Rows) (es : Numbered) → for_which evaluate condition (entries rows) ≡ Ok es → AreChosen rows es
are_chosen evaluate None rows es is = subst (AreChosen rows) (same_ok (entries rows) es (Ok (entries rows)) refl is) (record { stand = all_stand rows; rise = all_rise rows })
are_chosen evaluate (Some condition) rows es is = by (least_fault (evaluate condition) (map (λ e. e.1) (entries rows))) is
  where
    by : (fault : Option EvalFault) → unless fault (kept (evaluate condition) (entries rows)) ≡ Ok es → AreChosen rows es
    by None h = subst (AreChosen rows) (same_ok (kept (evaluate condition) (entries rows)) es (Ok (kept (evaluate condition) (entries rows))) refl h) (kept_chosen evaluate condition rows)
    by (Some fault) h = absurd (let no : Err fault ≡ Ok es = h in cc)

-- the rows whose numbers they are
pub record HasNumbers (evaluate : Evaluate) (condition : Option Expr) (rows : Rows) (numbers : List RowNo) : Type 0 where
  pub es : Numbered
  pub chosen : for_which evaluate condition (entries rows) ≡ Ok es
  pub numbers_are : numbers ≡ map number_of es

pub has_numbers : (evaluate : Evaluate) (condition : Option Expr) (rows : Rows) (numbers : List RowNo) → numbers_for evaluate condition rows ≡ Ok numbers → HasNumbers evaluate condition rows numbers
has_numbers evaluate condition rows numbers is = by (for_which evaluate condition (entries rows)) refl is
  where
    by : (w : Result Numbered EvalFault) → for_which evaluate condition (entries rows) ≡ w → (w >>= λ found. Ok (map number_of found)) ≡ Ok numbers → HasNumbers evaluate condition rows numbers
    by (Ok es) chosen h = record { es = es; chosen = chosen; numbers_are = sym (same_ok (map number_of es) numbers (Ok (map number_of es)) refl h) }
    by (Err fault) chosen h = absurd (let no : Err fault ≡ Ok numbers = h in cc)

-- where it has a fault, so has the condition
pub has_fault : (evaluate : Evaluate) (condition : Option Expr) (rows : Rows) (fault : EvalFault) → numbers_for evaluate condition rows ≡ Err fault → for_which evaluate condition (entries rows) ≡ Err fault
has_fault evaluate condition rows fault is = by (for_which evaluate condition (entries rows)) is
  where
    by : (w : Result Numbered EvalFault) → (w >>= λ found. Ok (map number_of found)) ≡ Err fault → w ≡ Err fault
    by (Ok es) h = absurd (let no : Ok (map number_of es) ≡ Err fault = h in cc)
    by (Err other) h = cc
