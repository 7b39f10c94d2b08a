-- What conjuncts and equalities ask of rows.
use Rattle.std.proofs.Common.{◌≡◌, ℕ, ◌+◌, zero, Bool, true, false, List, [], ◌∷◌, ◌++◌, length, None, Some, Ok, Err, refl, sym, ap, subst, ◌∙◌}
use Rattle.std.proofs.lemmas.List.{length_push}
use Rattle.std.proofs.lemmas.Option.{unwrap_or-slice_get}
use Rattle.std.specs.Option.{unwrap_or}
use Rattle.std.specs.List.{slice_get}
use Rattle.std.specs.Ordering.{is_eq}
use Rattle.hs_ast.specs.declared.expression.BinaryOperator.TheVariants as o
use Rattle.hs_plan.specs.declared.expression.Expr.{Expr}
use Rattle.hs_plan.specs.declared.operator.Binary.TheVariants as b
use Rattle.hs_values.specs.declared.value.Dec.{Dec}
use Rattle.hs_values.specs.declared.value.Value.{Value}
use Rattle.hs_values.specs.declared.value.Value.TheVariants as v
use Rattle.hs_values.specs.Order.{cmp_of}
use Rattle.hs_changes.specs.Settings.{Maps}
use Rattle.hs_index.specs.Keys.{value_at}
use Rattle.hs_rel.specs.Selection.{Verdict, is_true}
use Rattle.hs_expression.specs.Forms.{two_operands}
use Rattle.hs_expression.specs.Logic.{conjunction, tested}
use Rattle.hs_expression.specs.Numbers.{Outcome}
use Rattle.hs_expression.specs.Surroundings.{Rows, or_null}
use Rattle.hs_answer.specs.Answer.{value_in}
use Rattle.hs_answer.specs.Places.{over_row, value_over}
use Rattle.hs_lookups.specs.Asked.{Asks, Pairs, has_value, have_one_value}
use Rattle.hs_lookups.specs.Conjuncts.{HasConjunct, IsEquality, Needs, TakesIn, both, equality, own}
use Rattle.hs_lookups.specs.declared.equalities.Equalities.{Equalities}
use Rattle.hs_lookups.specs.Sure.{IsSure}
use Rattle.hs_lookups.proofs.Asked.{asked_more, turned}
use Rattle.hs_lookups.proofs.Equal.{not_equal}
use Rattle.hs_lookups.proofs.Layers.{column_is, two_are}

-- ---- AND is TRUE only where both sides are

-- what holds of each form of a value
each_value : (P : Value → Type 0) → P v.Null → ((n : _) → P (v.Int n)) → ((d : Dec) → P (v.Dec d)) → ((text : List ℕ) → P (v.Text text)) → P (v.Bool true) → P (v.Bool false) → ((day : _) → P (v.Day day)) → ((micros : _) → P (v.Micros micros)) → (x : Value) → P x
each_value P null int dec text true_one false_one day micros v.Null = null
each_value P null int dec text true_one false_one day micros (v.Int n) = int n
each_value P null int dec text true_one false_one day micros (v.Dec d) = dec d
each_value P null int dec text true_one false_one day micros (v.Text t) = text t
each_value P null int dec text true_one false_one day micros (v.Bool true) = true_one
each_value P null int dec text true_one false_one day micros (v.Bool false) = false_one
each_value P null int dec text true_one false_one day micros (v.Day d) = day d
each_value P null int dec text true_one false_one day micros (v.Micros m) = micros m

abbrev IsNotTrue : Outcome → Type 0
IsNotTrue outcome = is_true outcome ≡ false

no_left : (x y : Value) → IsNotTrue (Ok x) → IsNotTrue (Ok (conjunction x y))
no_left v.Null y h = each_value (λ y. IsNotTrue (Ok (conjunction v.Null y))) refl (λ n. refl) (λ d. refl) (λ t. refl) refl refl (λ d. refl) (λ m. refl) y
no_left (v.Int n) y h = each_value (λ y. IsNotTrue (Ok (conjunction (v.Int n) y))) refl (λ n. refl) (λ d. refl) (λ t. refl) refl refl (λ d. refl) (λ m. refl) y
no_left (v.Dec d) y h = each_value (λ y. IsNotTrue (Ok (conjunction (v.Dec d) y))) refl (λ n. refl) (λ d. refl) (λ t. refl) refl refl (λ d. refl) (λ m. refl) y
no_left (v.Text t) y h = each_value (λ y. IsNotTrue (Ok (conjunction (v.Text t) y))) refl (λ n. refl) (λ d. refl) (λ t. refl) refl refl (λ d. refl) (λ m. refl) y
no_left (v.Bool true) y h = absurd (cc)
no_left (v.Bool false) y h = refl
no_left (v.Day day) y h = each_value (λ y. IsNotTrue (Ok (conjunction (v.Day day) y))) refl (λ n. refl) (λ d. refl) (λ t. refl) refl refl (λ d. refl) (λ m. refl) y
no_left (v.Micros m) y h = each_value (λ y. IsNotTrue (Ok (conjunction (v.Micros m) y))) refl (λ n. refl) (λ d. refl) (λ t. refl) refl refl (λ d. refl) (λ m. refl) y

no_right : (x y : Value) → IsNotTrue (Ok y) → IsNotTrue (Ok (conjunction x y))
no_right x v.Null h = each_value (λ x. IsNotTrue (Ok (conjunction x v.Null))) refl (λ n. refl) (λ d. refl) (λ t. refl) refl refl (λ d. refl) (λ m. refl) x
no_right x (v.Int n) h = each_value (λ x. IsNotTrue (Ok (conjunction x (v.Int n)))) refl (λ n. refl) (λ d. refl) (λ t. refl) refl refl (λ d. refl) (λ m. refl) x
no_right x (v.Dec d) h = each_value (λ x. IsNotTrue (Ok (conjunction x (v.Dec d)))) refl (λ n. refl) (λ d. refl) (λ t. refl) refl refl (λ d. refl) (λ m. refl) x
no_right x (v.Text t) h = each_value (λ x. IsNotTrue (Ok (conjunction x (v.Text t)))) refl (λ n. refl) (λ d. refl) (λ t. refl) refl refl (λ d. refl) (λ m. refl) x
no_right x (v.Bool true) h = absurd (cc)
no_right x (v.Bool false) h = each_value (λ x. IsNotTrue (Ok (conjunction x (v.Bool false)))) refl (λ n. refl) (λ d. refl) (λ t. refl) refl refl (λ d. refl) (λ m. refl) x
no_right x (v.Day day) h = each_value (λ x. IsNotTrue (Ok (conjunction x (v.Day day)))) refl (λ n. refl) (λ d. refl) (λ t. refl) refl refl (λ d. refl) (λ m. refl) x
no_right x (v.Micros m) h = each_value (λ x. IsNotTrue (Ok (conjunction x (v.Micros m)))) refl (λ n. refl) (λ d. refl) (λ t. refl) refl refl (λ d. refl) (λ m. refl) x

-- AND of a value that isn't FALSE
abbrev behind : Outcome → Value → Outcome
behind second x = two_operands (b.Operator o.And) (Ok x) second

left_behind : (x : Value) (second : Outcome) → IsNotTrue (Ok x) → IsNotTrue (behind second x)
left_behind x (Err fault) h = each_value (λ x. IsNotTrue (behind (Err fault) x)) refl (λ n. refl) (λ d. refl) (λ t. refl) refl refl (λ d. refl) (λ m. refl) x
left_behind v.Null (Ok y) h = no_left v.Null y h
left_behind (v.Int n) (Ok y) h = no_left (v.Int n) y h
left_behind (v.Dec d) (Ok y) h = no_left (v.Dec d) y h
left_behind (v.Text t) (Ok y) h = no_left (v.Text t) y h
left_behind (v.Bool true) (Ok y) h = no_left (v.Bool true) y h
left_behind (v.Bool false) (Ok y) h = refl
left_behind (v.Day day) (Ok y) h = no_left (v.Day day) y h
left_behind (v.Micros m) (Ok y) h = no_left (v.Micros m) y h

right_behind : (x : Value) (second : Outcome) → IsNotTrue second → IsNotTrue (behind second x)
right_behind x (Err fault) h = each_value (λ x. IsNotTrue (behind (Err fault) x)) refl (λ n. refl) (λ d. refl) (λ t. refl) refl refl (λ d. refl) (λ m. refl) x
right_behind v.Null (Ok y) h = no_right v.Null y h
right_behind (v.Int n) (Ok y) h = no_right (v.Int n) y h
right_behind (v.Dec d) (Ok y) h = no_right (v.Dec d) y h
right_behind (v.Text t) (Ok y) h = no_right (v.Text t) y h
right_behind (v.Bool true) (Ok y) h = no_right (v.Bool true) y h
right_behind (v.Bool false) (Ok y) h = refl
right_behind (v.Day day) (Ok y) h = no_right (v.Day day) y h
right_behind (v.Micros m) (Ok y) h = no_right (v.Micros m) y h

and_left : (first second : Outcome) → IsNotTrue first → IsNotTrue (two_operands (b.Operator o.And) first second)
and_left (Ok x) second h = left_behind x second h
and_left (Err fault) second h = refl

and_right : (first second : Outcome) → IsNotTrue second → IsNotTrue (two_operands (b.Operator o.And) first second)
and_right (Ok x) second h = right_behind x second h
and_right (Err fault) second h = refl

module _ (tables : Maps) (outer : Rows) (a c : Expr) (row : List Value) where
  abbrev there : Expr → Outcome
  there e = value_over (value_in tables e) outer row

  left_not_true : IsNotTrue (there a) → IsNotTrue (there (both a c))
  left_not_true h = ap is_true (two_are tables (over_row outer row) (b.Operator o.And) a c) ∙ and_left (there a) (there c) h

  right_not_true : IsNotTrue (there c) → IsNotTrue (there (both a c))
  right_not_true h = ap is_true (two_are tables (over_row outer row) (b.Operator o.And) a c) ∙ and_right (there a) (there c) h

-- ---- what a conjunct needs

pub needs_left : (a c : Expr) (test : List Value → Bool) → Needs a test → Needs (both a c) test
needs_left a c test needs = record { not_true = λ tables outer row h. left_not_true tables outer a c row (needs.not_true tables outer row h) }

pub needs_right : (a c : Expr) (test : List Value → Bool) → Needs c test → Needs (both a c) test
needs_right a c test needs = record { not_true = λ tables outer row h. right_not_true tables outer a c row (needs.not_true tables outer row h) }

-- ---- equalities

held : (row : List Value) (at : ℕ) → or_null (slice_get row at) ≡ value_at row at
held row at = by (slice_get row at) ∙ unwrap_or-slice_get row at v.Null
  where
    by : (found : _) → or_null found ≡ unwrap_or found v.Null
    by None = refl
    by (Some x) = refl

own_is : (tables : Maps) (outer : Rows) (row : List Value) (at : ℕ) → value_over (value_in tables (own at)) outer row ≡ Ok (value_at row at)
own_is tables outer row at = column_is tables (over_row outer row) zero at ∙ ap Ok (held row at)

-- what an equality gives of what its sides give
equality_is : (tables : Maps) (outer : Rows) (row : List Value) (a c : Expr) (x y : Value) → value_over (value_in tables a) outer row ≡ Ok x → value_over (value_in tables c) outer row ≡ Ok y → value_over (value_in tables (equality a c)) outer row ≡ Ok (tested is_eq (cmp_of x y))
equality_is tables outer row a c x y first second =
    two_are tables (over_row outer row) (b.Operator o.Equal) a c ∙ (λ i. two_operands (b.Operator o.Equal) (first i) (second i))

pub needs_value : (a c : Expr) (at : ℕ) (value : Value) → IsEquality a c at value → Needs (equality a c) (has_value at value)
needs_value a c at value is = record {
  not_true = λ tables outer row h.
      ap is_true (equality_is tables outer row a c (value_at row at) value (ap (λ e. value_over (value_in tables e) outer row) is.column_is ∙ own_is tables outer row at) (is.value_is.is tables (over_row outer row)))
      ∙ not_equal (value_at row at) value h;
}

pub needs_value_turned : (a c : Expr) (at : ℕ) (value : Value) → IsEquality c a at value → Needs (equality a c) (has_value at value)
needs_value_turned a c at value is = record {
  not_true = λ tables outer row h.
      ap is_true (equality_is tables outer row a c value (value_at row at) (is.value_is.is tables (over_row outer row)) (ap (λ e. value_over (value_in tables e) outer row) is.column_is ∙ own_is tables outer row at))
      ∙ not_equal value (value_at row at) (turned (value_at row at) value h);
}

pub needs_pair : (a c : Expr) (one other : ℕ) → a ≡ own one → c ≡ own other → Needs (equality a c) (have_one_value one other)
needs_pair a c one other first second = record {
  not_true = λ tables outer row h.
      ap is_true (equality_is tables outer row a c (value_at row one) (value_at row other) (ap (λ e. value_over (value_in tables e) outer row) first ∙ own_is tables outer row one) (ap (λ e. value_over (value_in tables e) outer row) second ∙ own_is tables outer row other))
      ∙ not_equal (value_at row one) (value_at row other) h;
}

-- ---- taking in

pub taken_none : (e : Expr) (all : Equalities) → TakesIn e all all
taken_none e all = record { asked = λ verdict tables outer has asked. asked }

pub taken_both : (a c : Expr) (old mid new : Equalities) → TakesIn a old mid → TakesIn c mid new → TakesIn (both a c) old new
taken_both a c old mid new first second = record {
  asked = λ verdict tables outer has asked.
      second.asked verdict tables outer (record { passed = λ row h. has.passed row (right_not_true tables outer a c row h) })
      (first.asked verdict tables outer (record { passed = λ row h. has.passed row (left_not_true tables outer a c row h) }) asked);
}

pub taken_one : (e : Expr) (old new : Equalities) (at : ℕ) (value : Value) → Needs e (has_value at value) → new.columns.items ≡ old.columns.items ++ at ∷ [] → new.values ≡ old.values ++ value ∷ [] → TakesIn e old new
taken_one e old new at value needs columns values = record {
  asked = λ verdict tables outer has asked. record {
    paired = ap length columns ∙ length_push old.columns.items at ∙ ap (λ n. n + 1) asked.paired ∙ sym (length_push old.values value) ∙ ap length (sym values);
    asked =
        subst (Asks verdict new.columns.items) (sym values)
        (subst (λ (cs : List ℕ). Asks verdict cs (old.values ++ value ∷ [])) (sym columns)
        (asked_more verdict old.columns.items old.values at value asked.paired asked.asked (λ row h. has.passed row (needs.not_true tables outer row h))));
  };
}

-- ---- the whole condition is a conjunct of itself, where it has no fault

whole : (e : Expr) (tables : Maps) (outer : Rows) → IsSure e → HasConjunct (value_over (value_in tables e) outer) (value_over (value_in tables e) outer)
whole e tables outer sure = record { passed = λ row h. record { no_fault = sure.no_fault tables (over_row outer row); not_true = h } }

pub all_asked : (e : Expr) (old new : Equalities) → IsSure e → old.columns.items ≡ [] → old.values ≡ [] → TakesIn e old new → (tables : Maps) (outer : Rows) → Asks (value_over (value_in tables e) outer) new.columns.items new.values
all_asked e old new sure columns values takes tables outer =
    let verdict = value_over (value_in tables e) outer in
    (takes.asked verdict tables outer (whole e tables outer sure) (record {
      paired = ap length columns ∙ sym (ap length values);
      asked = subst (λ (cs : List ℕ). Asks verdict cs old.values) (sym columns) tt;
    })).asked

pub none_asked : (verdict : Verdict) (columns : List ℕ) (values : List Value) → columns ≡ [] → Asks verdict columns values
none_asked verdict columns values none = subst (λ (cs : List ℕ). Asks verdict cs values) (sym none) tt

pub pair_asked : (e : Expr) (one other : ℕ) → IsSure e → Needs e (have_one_value one other) → (tables : Maps) (outer : Rows) → Pairs (value_over (value_in tables e) outer) one other
pair_asked e one other sure needs tables outer = λ row h. (whole e tables outer sure).passed row (needs.not_true tables outer row h)
