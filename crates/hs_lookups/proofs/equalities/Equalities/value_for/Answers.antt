use Rattle.std.proofs.Common.{◌≡◌, ℕ, List, subst}
use Rattle.hs_lookups.specs.Asked.{Asks, AsksOne}
use Rattle.hs_lookups.proofs.Asked.{asked_first}
use Rattle.hs_lookups.proofs.equalities.Equalities.value_for.Goals as goal

pub loop-each-init : goal.loop-each-init
loop-each-init c = λ verdict asked.
    let first : c.args.self.now.columns.items ≡ c.into_iter-each-iterator.result.a.rest.now = cc in
    let second : c.args.self.now.values ≡ c.into_iter-each-iterator.result.b.rest.now = cc in
    subst (Asks verdict c.into_iter-each-iterator.result.a.rest.now) second (subst (λ (cs : List ℕ). Asks verdict cs c.args.self.now.values) first asked)

pub returns-then-each-column : goal.returns-then-each-column
returns-then-each-column c = λ verdict asked.
    let both = asked_first verdict c.loop-each.each-iterator.a.rest.now c.next.new.self.a.rest.now c.loop-each.each-iterator.b.rest.now c.next.new.self.b.rest.now c.in-Some.each.now c.in-Some.value.now c.in-Some.ensures.steps.0 c.in-Some.ensures.steps.1 (c.loop-each.invariant verdict asked) in
    subst (λ n. AsksOne verdict n c.in-Some.value.now) c.if-each-column.true both.0

pub loop-each-preserved : goal.loop-each-preserved
loop-each-preserved c = λ verdict asked.
    let both = asked_first verdict c.loop-each.each-iterator.a.rest.now c.next.new.self.a.rest.now c.loop-each.each-iterator.b.rest.now c.next.new.self.b.rest.now c.in-Some.each.now c.in-Some.value.now c.in-Some.ensures.steps.0 c.in-Some.ensures.steps.1 (c.loop-each.invariant verdict asked) in
    both.1
