use Rattle.std.proofs.Common.{◌∷◌, ◌++◌, [], List, inl, inr, ap, ◌∙◌}
use Rattle.hs_changes.specs.Settings.{Maps, Setting}
use Rattle.hs_draft.specs.Drafted.{after}
use Rattle.hs_applied.specs.Undone.{olds_of, undone}
use Rattle.hs_applied.proofs.Sets.{ok_or_err}
use Rattle.hs_applied.proofs.Undoing.{kept_back, old_at, still_back}
use Rattle.hs_applied.proofs.undo.Undo.set.Goals as goal

pub returns-clause-keeps : goal.returns-clause-keeps
returns-clause-keeps c =
    let maps : Maps = after c.args.draft.now in
    let olds : List Setting = olds_of c.args.self.now in
    let table = c.args.table.0 in
    let row = c.args.row.0 in
    let s : Setting = record { table = table; row = row; values = c.args.values } in
    record {
      before = c.set.ensures.before;
      back =
          ap (undone (after c.set.new.draft)) c.in_ok-keep.ensures.ok
          ∙ elim (ok_or_err c.set.result c.set.ensures.set c.set.ensures.err) [
            | inl set ↦ ap (λ (m : Maps). undone m (olds ++ old_at maps table row ∷ [])) set.after ∙ still_back maps olds s
            | inr same ↦ ap (λ (m : Maps). undone m (olds ++ old_at maps table row ∷ [])) same ∙ kept_back maps olds table row
          ];
    }
