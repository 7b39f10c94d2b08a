use Rattle.std.proofs.Common.{◌≡◌, List, Some, None, sym, ap, subst, ◌∙◌}
use Rattle.std.specs.List.{remove}
use Rattle.std.specs.Prelude.{position}
use Rattle.hs_sessions.specs.declared.savepoints.Savepoint.{Savepoint}
use Rattle.hs_sessions.specs.Savepoints.{is_called, with_savepoint}
use Rattle.hs_sessions.proofs.Placed.{removed, none_gone}
use Rattle.hs_sessions.proofs.savepoints.Savepoints.add.Goals as goal

pub returns-in-Some-clause-ok : goal.returns-in-Some-clause-ok
returns-in-Some-clause-ok c =
    let name = c.args.name in
    let new : Savepoint = record { name = name; changes = c.args.changes } in
    let at : position (is_called name) c.self.inside.list.items ≡ Some c.in-Some.place =
    subst (λ (points : List Savepoint). position (is_called name) points ≡ Some c.in-Some.place) (sym c.self.view_is) (sym c.place-older.ensures ∙ c.in-Some.is) in
    c.remove_at.ensures
    ∙ ap (λ (points : List Savepoint). remove points c.in-Some.place) c.in_ok-push.ensures.items
    ∙ removed (is_called name) new c.self.inside.list.items c.in-Some.place at
    ∙ ap (with_savepoint name c.args.changes) c.self.view_is

pub returns-in_default-clause-ok : goal.returns-in_default-clause-ok
returns-in_default-clause-ok c =
    let name = c.args.name in
    let new : Savepoint = record { name = name; changes = c.args.changes } in
    let at : position (is_called name) c.self.inside.list.items ≡ None =
    subst (λ (points : List Savepoint). position (is_called name) points ≡ None) (sym c.self.view_is) (sym c.place-older.ensures ∙ c.in_default.is) in
    c.in_ok-push.ensures.items ∙ none_gone (is_called name) new c.self.inside.list.items at ∙ ap (with_savepoint name c.args.changes) c.self.view_is
