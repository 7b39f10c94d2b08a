-- The database of new files.
use Rattle.std.specs.Prelude.{[]}
use Rattle.std.specs.FinMap.{empty}
use Rattle.hs_ast.specs.declared.session.Isolation.TheVariants.{ReadCommitted}
use Rattle.hs_claims.specs.declared.model.ControlKind.TheVariants.{Locks}
use Rattle.hs_turns.specs.Database.{Database}

-- nothing is in it, and no change was made
abbrev pub new_database : Database
new_database = record { things = []; rows = λ table. empty; count = 0; control = Locks; level = ReadCommitted }
