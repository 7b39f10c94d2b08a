use Rattle.std.proofs.Common.{◌≡◌, ℕ, IfSome, Option, Result, Ok, Err, OnOk, sym, ap, subst, ◌∙◌}
use Rattle.std.proofs.lemmas.Result.{on_ok_weaker}
use Rattle.hs_plan.specs.declared.expression.Expr.{Expr}
use Rattle.hs_plan.specs.declared.expression.Expr.TheVariants as e
use Rattle.hs_values.specs.declared.value.Value.{Value}
use Rattle.hs_lookups.specs.Asked.{has_value}
use Rattle.hs_lookups.specs.Conjuncts.{Needs, TakesIn, both, equality}
use Rattle.hs_lookups.proofs.Needed.{taken_both, taken_one}
use Rattle.hs_lookups.proofs.conjuncts.+conjuncts.Goals as goal

pub returns-in_ok-take_in-in-Binary : goal.returns-in_ok-take_in-in-Binary
returns-in_ok-take_in-in-Binary t c =
    let a = c.in-Binary.a in
    let b = c.in-Binary.b in
    let is : both a b ≡ c.args.condition.now = sym (c.in-Binary.is ∙ ap (λ o. e.Binary o a b) (c.is_and.ensures c.if-is_and.true)) in
    let old = c.args.all.now in
    let mid = c.take_in.new.all in
    let new = c.take_in-in-Binary.new.all in
    on_ok_weaker c.take_in-in-Binary.result
    (λ second. subst (λ (x : Expr). TakesIn x old new) is
    (taken_both a b old mid new
    (subst (λ (x : Expr). TakesIn x old mid) c.get.ensures c.in_ok-take_in-in-Binary.ensures)
    (subst (λ (x : Expr). TakesIn x mid new) c.get-in-Binary.ensures second)))
    c.take_in-in-Binary.ensures

-- what follows from two facts of a success
from_both : {T E : Type 0} (r : Result T E) (A B C : Type 0) → OnOk r A → OnOk r B → (A → B → C) → OnOk r C
from_both (Ok x) A B C a b f = f a b
from_both (Err x) A B C a b f = tt

pub returns-in-Some : goal.returns-in-Some
returns-in-Some t c =
    let a = c.in-Binary-2.a in
    let b = c.in-Binary-2.b in
    let at = c.in-Some.column in
    let value = c.in-Some.value in
    let is : equality a b ≡ c.args.condition.now = sym (c.in-Binary-2.is ∙ ap (λ o. e.Binary o a b) (c.is_equality.ensures c.if-is_equality.true)) in
    let Asked : Expr → Type 0 = λ x. Needs x (has_value at value) in
    let needs = subst (λ (found : Option (ℕ × Value)). IfSome found (λ one. Needs (equality c.get-in-Binary-2.result.now c.get-in-Binary-2-2.result.now) (has_value one.0 one.1))) c.in-Some.is c.in_ok-column-in-Binary-2.ensures in
    let asked : Asked c.args.condition.now = subst Asked ((λ i. equality (c.get-in-Binary-2.ensures i) (c.get-in-Binary-2-2.ensures i)) ∙ is) needs in
    from_both c.push.result _ _ _ c.push.ensures.columns c.push.ensures.values (taken_one c.args.condition.now c.args.all.now c.push.new.self at value asked)
