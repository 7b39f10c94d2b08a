use Rattle.std.proofs.Common.{ap, sym, subst, ◌∙◌}
use Rattle.hs_plan.specs.declared.expression.Expr.{Expr}
use Rattle.hs_plan.specs.declared.expression.Expr.TheVariants as e
use Rattle.hs_lookups.specs.Conjuncts.{negated}
use Rattle.hs_lookups.specs.Sure.{AreSure, IsSure}
use Rattle.hs_lookups.proofs.NoFault.{list_sure, one_sure, three_sure, two_sure}
use Rattle.hs_lookups.proofs.sure.+sure.Goals as goal
use Rattle.hs_lookups.proofs.sure.+sure.Goals.{is_sure-then-two_are_sure, is_sure-else-two_are_sure, is_sure-then-three_are_sure, is_sure-else-three_are_sure, is_sure-then-is_sure-2, is_sure-else-is_sure-2}

pub is_sure-returns-in-Unary : goal.is_sure-returns-in-Unary
is_sure-returns-in-Unary t c = λ h.
    subst IsSure (sym (c.in-Unary.is ∙ ap (λ o. e.Unary o c.in-Unary.a) (c.is_minus.ensures c.if-is_minus.true)))
    (subst (λ (a : Expr). IsSure (negated a)) c.get.ensures (c.is_sure_with_minus.ensures h))

pub is_sure-returns-then-one_is_sure : goal.is_sure-returns-then-one_is_sure
is_sure-returns-then-one_is_sure t c = λ h.
    subst IsSure (sym c.in-Unary-2.is)
    (one_sure c.in-Unary-2.operator c.in-Unary-2.a (sym c.one_is_sure.ensures ∙ c.if-one_is_sure.true) (subst IsSure c.get-then-one_is_sure.ensures (c.is_sure.ensures h)))

pub is_sure-returns-then-is_sure : goal.is_sure-returns-then-is_sure
is_sure-returns-then-is_sure t c = λ h.
    elim c.if-two_are_sure.branch [
      | is_sure-then-two_are_sure w ↦
          subst IsSure (sym c.in-Binary.is)
          (two_sure c.in-Binary.operator c.in-Binary.a c.in-Binary.b (sym c.two_are_sure.ensures ∙ w.if-two_are_sure.true)
          (subst IsSure w.get-then-two_are_sure.ensures (w.is_sure-then-two_are_sure.ensures (sym w.value-is ∙ c.if-is_sure.true)))
          (subst IsSure c.get-then-is_sure.ensures (c.is_sure-then-is_sure.ensures h)))
      | is_sure-else-two_are_sure w ↦ cc
    ]

pub is_sure-returns-then-is_sure-3 : goal.is_sure-returns-then-is_sure-3
is_sure-returns-then-is_sure-3 t c = λ h.
    elim c.if-is_sure-2.branch [
      | is_sure-then-is_sure-2 w ↦
          elim c.if-three_are_sure.branch [
            | is_sure-then-three_are_sure u ↦
                subst IsSure (sym c.in-Ternary.is)
                (three_sure c.in-Ternary.operator c.in-Ternary.a c.in-Ternary.b c.in-Ternary.c (sym c.three_are_sure.ensures ∙ u.if-three_are_sure.true)
                (subst IsSure u.get-then-three_are_sure.ensures (u.is_sure-then-three_are_sure.ensures (sym u.value-is ∙ w.if-is_sure-2.true)))
                (subst IsSure w.get-then-is_sure-2.ensures (w.is_sure-then-is_sure-2.ensures (sym w.value-is ∙ c.if-is_sure-3.true)))
                (subst IsSure c.get-then-is_sure-3.ensures (c.is_sure-then-is_sure-3.ensures h)))
            | is_sure-else-three_are_sure u ↦ cc
          ]
      | is_sure-else-is_sure-2 w ↦ cc
    ]

pub is_sure-returns-then-is_sure-4 : goal.is_sure-returns-then-is_sure-4
is_sure-returns-then-is_sure-4 t c = λ h.
    subst IsSure (sym c.in-InList.is)
    (list_sure c.in-InList.operand c.in-InList.negated c.in-InList.list (subst IsSure c.get-in-InList.ensures (c.is_sure-in-InList.ensures c.if-is_sure-4.true))
    (subst AreSure c.as_slice.ensures (c.are_sure.ensures h)))
