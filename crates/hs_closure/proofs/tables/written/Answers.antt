use Rattle.std.proofs.Common.{nat_eq, ap, ◌∙◌}
use Rattle.indexmap.specs.IndexSet.{insert_all}
use Rattle.hs_closure.specs.Changing.{put_or_locked}
use Rattle.hs_closure.specs.Steps.{numbers}
use Rattle.hs_closure.proofs.Answered.{has_written}
use Rattle.hs_closure.proofs.tables.written.Goals as goal

pub returns : goal.returns
returns c =
    let plan = c.args.plan.now in
    has_written c.args.cat.now plan c.in_ok-changing.changing.updated c.in_ok-changing.changing.deleted c.add_others.new.set c.add_set.new.self c.add_set-2.new.self c.in_ok-changing.ensures
    (c.in_ok-add_others.ensures ∙ ap (λ xs. insert_all nat_eq xs (numbers (put_or_locked plan))) c.new-set.ensures) c.in_ok-add_set.ensures c.in_ok-add_set-2.ensures
