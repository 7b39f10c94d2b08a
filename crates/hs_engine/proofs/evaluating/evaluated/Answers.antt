use Rattle.std.proofs.Common.{subst}
use Rattle.hs_asking.specs.Asking.{IsAdmitted}
use Rattle.hs_queue.specs.Entries.{entry_of}
use Rattle.hs_requests.specs.Plans.{plan_of}
use Rattle.hs_seams.specs.Stores.{present}
use Rattle.hs_engine.proofs.Outcomes.{holds_in, lists, refused, tells, told}
use Rattle.hs_engine.proofs.Speaking.{reading_in}
use Rattle.hs_engine.proofs.evaluating.evaluated.Goals as goal

pub returns-in_ok-told-in-Ok : goal.returns-in_ok-told-in-Ok
returns-in_ok-told-in-Ok c = λ w commits seated speaks here valid.
    let text = (entry_of c.args.entry.now).text in
    let cat = c.args.instance.now.catalog in
    let meant = subst (IsAdmitted c.args.read_only (plan_of cat text)) c.in-Ok.is c.in_ok-admission.ensures in
    let is = c.in_ok-told-in-Ok.ensures (reading_in w) (tells w) (lists w) (present w commits) seated here (holds_in w commits seated speaks valid) in
    told w commits seated c.args.read_only text speaks cat here.things c.outcome-told.new.instance c.in-Ok.plan c.in_ok-told-in-Ok.field-0 meant.0 meant.1 is.0 is.1

pub returns-in-Err : goal.returns-in-Err
returns-in-Err c = λ w commits seated speaks here valid.
    let text = (entry_of c.args.entry.now).text in
    let cat = c.args.instance.now.catalog in
    refused w commits seated c.args.read_only text speaks cat here.things c.args.instance.now c.in-Err.why (subst (IsAdmitted c.args.read_only (plan_of cat text)) c.in-Err.is c.in_ok-admission.ensures) here
