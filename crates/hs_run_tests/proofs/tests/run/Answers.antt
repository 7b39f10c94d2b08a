use Rattle.std.proofs.Common.{◌≡◌, length, refl, sym, ap, subst, ◌∙◌}
use Rattle.hs_log.specs.LogReading.{IsNew, Opens}
use Rattle.hs_log.specs.declared.log.OpenedLog.{OpenedLog}
use Rattle.hs_log.specs.declared.log.OpenedLog.TheVariants.{New}
use Rattle.hs_run_tests.specs.Silent.{silent_future}
use Rattle.hs_run_tests.proofs.Truth.{silent_true}
use Rattle.hs_run_tests.proofs.tests.run.Goals as goal
use Rattle.hs_run_tests.proofs.tests.run.Goals.{In-Ok-New}

-- the log is a new one
new : (g : _) (c : In-Ok-New g) → IsNew g.H.Source g.H.Host c.in-Ok-New.log c.open.new.host
new g c = (subst (λ (o : OpenedLog). Opens g.H.Source g.H.Host c.args.host.now c.open.new.host o) c.in-Ok-New.field-0-is c.in-Ok-New.ensures.opens).1

pub take_turns-requires : goal.take_turns-requires
take_turns-requires g c =
    let is = new g (goal.at.take_turns-requires g c).In-Ok-New in
    record {
      begins = (
        silent_future 0,
        record {
          at = record { taken = λ items. refl; closing = λ items. refl; commits = refl };
          opened = is.opened;
          epoch = is.epoch;
          kept = is.log;
          is_true = λ items taken. silent_true 0 items;
          counted = λ told. sym (ap length (is.texts told));
        },
      );
    }
