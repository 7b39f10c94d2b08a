-- Levels and accesses of transactions.
use Rattle.std.specs.Prelude.{Bool, true, false, None, unwrap_or}
use Rattle.std.specs.Option.{option_or, option_map}
use Rattle.hs_ast.specs.declared.session.Access.{Access}
use Rattle.hs_ast.specs.declared.session.Access.TheVariants.{ReadOnly, ReadWrite}
use Rattle.hs_ast.specs.declared.session.Isolation.{Isolation}
use Rattle.hs_ast.specs.declared.session.Isolation.TheVariants.{ReadCommitted, RepeatableRead, Serializable}
use Rattle.hs_ast.specs.declared.session.Modes.{Modes as NewModes}
use Rattle.hs_claims.specs.declared.model.ControlKind.{ControlKind}
use Rattle.hs_claims.specs.declared.model.ControlKind.TheVariants.{Locks, MvLocks, Mvcc}
use Rattle.hs_claims.specs.declared.model.Level.{Level}
use Rattle.hs_claims.specs.declared.model.Level.TheVariants.{Rc, Ser, Snap}
use Rattle.hs_sessions.specs.declared.modes.Characteristics.{Characteristics}

abbrev pub is_read_only : Access → Bool
is_read_only ReadOnly = true
is_read_only ReadWrite = false

-- the level and the access that are named, and else those of before
abbrev pub with_modes : NewModes → Characteristics → Characteristics
with_modes new old = record { isolation = unwrap_or new.isolation old.isolation; read_only = unwrap_or (option_map is_read_only new.access) old.read_only }

-- what is named for the next transaction, where some was named before
abbrev pub joined : NewModes → NewModes → NewModes
joined new old = record { isolation = option_or new.isolation old.isolation; access = option_or new.access old.access }

abbrev pub no_modes : NewModes
no_modes = record { isolation = None; access = None }

-- the level that a transaction has under each model
abbrev pub level_of : ControlKind → Isolation → Level
level_of kind ReadCommitted = Rc
level_of Locks RepeatableRead = Ser
level_of Locks Serializable = Ser
level_of MvLocks RepeatableRead = Ser
level_of MvLocks Serializable = Ser
level_of Mvcc RepeatableRead = Snap
level_of Mvcc Serializable = Snap
