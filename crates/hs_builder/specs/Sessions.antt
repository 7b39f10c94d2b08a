-- The steps that build statements of sessions and transactions.
use Rattle.std.specs.Prelude.{Bool, List, ◌∷◌, Some, None}
use Rattle.hs_ast.specs.declared.session.Access.{Access}
use Rattle.hs_ast.specs.declared.session.Isolation.{Isolation}
use Rattle.hs_ast.specs.declared.session.Modes.{Modes}
use Rattle.hs_ast.specs.declared.session.TransactionControl.{TransactionControl}
use Rattle.hs_ast.specs.declared.statement.Stmt.{Stmt}
use Rattle.hs_ast.specs.declared.statement.Stmt.TheVariants as statement
use Rattle.hs_ast.specs.declared.word.Identifier.{Identifier}
use Rattle.hs_builder.specs.Steps.{Step, stands, wrong}

-- of several levels and of several accesses the last one holds
abbrev pub begin_modes : List Modes → Step (List Modes)
begin_modes below = stands (record { isolation = None; access = None } ∷ below)

abbrev pub level : Isolation → List Modes → Step (List Modes)
level isolation (m ∷ below) = stands (record { isolation = Some isolation; access = m.access } ∷ below)
level _ _ = wrong

abbrev pub access : Access → List Modes → Step (List Modes)
access a (m ∷ below) = stands (record { isolation = m.isolation; access = Some a } ∷ below)
access _ _ = wrong

abbrev pub set_transaction : List Modes × List Stmt → Step (List Modes × List Stmt)
set_transaction ((m ∷ modes), below) = stands (modes, statement.SetTransaction m ∷ below)
set_transaction _ = wrong

abbrev pub set_characteristics : List Modes × List Stmt → Step (List Modes × List Stmt)
set_characteristics ((m ∷ modes), below) = stands (modes, statement.SetCharacteristics m ∷ below)
set_characteristics _ = wrong

abbrev pub start : List Modes × List Stmt → Step (List Modes × List Stmt)
start ((m ∷ modes), below) = stands (modes, statement.StartTransaction m ∷ below)
start _ = wrong

abbrev pub savepoint : List Identifier × List Stmt → Step (List Identifier × List Stmt)
savepoint ((n ∷ names), below) = stands (names, statement.Savepoint n.name ∷ below)
savepoint _ = wrong

abbrev pub rollback_to : List Identifier × List Stmt → Step (List Identifier × List Stmt)
rollback_to ((n ∷ names), below) = stands (names, statement.RollbackTo n.name ∷ below)
rollback_to _ = wrong

abbrev pub release : List Identifier × List Stmt → Step (List Identifier × List Stmt)
release ((n ∷ names), below) = stands (names, statement.ReleaseSavepoint n.name ∷ below)
release _ = wrong

abbrev pub commit : List Stmt → Step (List Stmt)
commit below = stands (statement.Commit ∷ below)

abbrev pub rollback : List Stmt → Step (List Stmt)
rollback below = stands (statement.Rollback ∷ below)

abbrev pub autocommit : Bool → List Stmt → Step (List Stmt)
autocommit on below = stands (statement.SetAutocommit on ∷ below)

abbrev pub control : TransactionControl → List Stmt → Step (List Stmt)
control c below = stands (statement.SetControl c ∷ below)

abbrev pub default_level : Isolation → List Stmt → Step (List Stmt)
default_level isolation below = stands (statement.SetDefaultLevel isolation ∷ below)

abbrev pub write_delay_false : List Stmt → Step (List Stmt)
write_delay_false below = stands (statement.WriteDelayFalse ∷ below)

abbrev pub checkpoint : List Stmt → Step (List Stmt)
checkpoint below = stands (statement.Checkpoint ∷ below)

abbrev pub shutdown : List Stmt → Step (List Stmt)
shutdown below = stands (statement.Shutdown ∷ below)
