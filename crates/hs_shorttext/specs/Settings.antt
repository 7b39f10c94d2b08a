-- How the settings of a database are written.
use Rattle.std.specs.Prelude.{ℕ, Bool, true, false, List, ◌++◌, codes}
use Rattle.hs_ast.specs.declared.session.TransactionControl.{TransactionControl}
use Rattle.hs_ast.specs.declared.session.TransactionControl.TheVariants as control

abbrev pub control_text : TransactionControl → List ℕ
control_text control.Locks = codes "LOCKS"
control_text control.MvLocks = codes "MVLOCKS"
control_text control.Mvcc = codes "MVCC"

-- whether the level is SERIALIZABLE
abbrev pub level_text : Bool → List ℕ
level_text true = codes "SERIALIZABLE"
level_text false = codes "READ COMMITTED"

abbrev pub control_line : TransactionControl → List ℕ
control_line control = codes "SET DATABASE TRANSACTION CONTROL " ++ control_text control

abbrev pub level_line : Bool → List ℕ
level_line serializable = codes "SET DATABASE DEFAULT ISOLATION LEVEL " ++ level_text serializable
