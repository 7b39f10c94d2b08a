use Rattle.std.proofs.Common.{sym, subst}
use Rattle.hs_answer.specs.Answer.{value_in}
use Rattle.hs_answer.specs.Places.{value_over}
use Rattle.hs_lookups.specs.Asked.{Asks}
use Rattle.hs_lookups.specs.declared.equalities.Equalities.{Equalities}
use Rattle.hs_lookups.proofs.Needed.{all_asked, none_asked}
use Rattle.hs_lookups.proofs.equalities.Equalities.of.Goals as goal
use Rattle.hs_lookups.proofs.equalities.Equalities.of.Goals.{then-is_sure+in_ok-take_in, else-is_sure}

pub returns : goal.returns
returns c = λ tables outer.
    let verdict = value_over (value_in tables c.args.condition.now) outer in
    let none : Equalities = record { columns = c.new.result; values = c.new-2.result } in
    elim c.if-is_sure.branch [
      | then-is_sure+in_ok-take_in w ↦
          subst (λ (all : Equalities). Asks verdict all.columns.items all.values) (sym w.all-is)
          (all_asked c.args.condition.now none w.take_in.new.all (c.is_sure.ensures w.if-is_sure.true) c.new.ensures.items c.new-2.ensures w.in_ok-take_in.ensures tables outer)
      | else-is_sure w ↦
          subst (λ (all : Equalities). Asks verdict all.columns.items all.values) (sym w.all-is)
          (none_asked verdict none.columns.items none.values c.new.ensures.items)
    ]
