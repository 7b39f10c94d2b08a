use Rattle.std.proofs.Common.{◌∙◌}
use Rattle.std.specs.FinMap.{get}
use Rattle.hs_changes.proofs.Applied.{settings_of-append, after_changes-append, old_rows_set}
use Rattle.hs_changes.proofs.Set.{get-set_rows, last_values-unset}
use Rattle.hs_changes.specs.Changes.{settings_of}
use Rattle.hs_changes.proofs.laws.changes_follow_one_another.Goals as goal

pub returns : goal.returns
returns c = record {
  settings = settings_of-append;
  maps = after_changes-append;
  named = old_rows_set;
  stays = λ inserted maps changes table row old unnamed.
      get-set_rows maps (settings_of inserted changes) table row
      ∙ last_values-unset table row (get (maps table) row) (settings_of inserted changes) (old_rows_set inserted table row changes old ∙ unnamed);
}
