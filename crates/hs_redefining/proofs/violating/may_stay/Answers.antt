use Rattle.std.proofs.Common.{get_or, sym, ◌∙◌}
use Rattle.hs_redefining.proofs.Staying.{none_there, stay_empty}
use Rattle.hs_redefining.proofs.violating.may_stay.Goals as goal

pub returns-then-has_thing : goal.returns-then-has_thing
returns-then-has_thing c = λ yes maps are k d lt. stay_empty c.args.table.0 maps (c.has_none.ensures yes maps are) (get_or c.args.things.now k d).table.0

pub returns : goal.returns
returns c = λ yes maps are. none_there c.args.table.0 maps c.args.things.now (sym c.has_thing.ensures ∙ c.if-has_thing.false)
