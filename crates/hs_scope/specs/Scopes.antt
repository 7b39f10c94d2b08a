-- The FROMs that a query sees, the innermost first.
use Rattle.std.specs.Prelude.{List, [], ◌∷◌}
use Rattle.hs_scope.specs.declared.from_table.FromTable.{FromTable}
use Rattle.hs_scope.specs.declared.scopes.Scopes.{Scopes, Outermost, Inside'}

abbrev pub scopes_of : Scopes → List (List FromTable)
scopes_of Outermost = []
scopes_of (Inside' scope p around) = scope.now ∷ scopes_of around
