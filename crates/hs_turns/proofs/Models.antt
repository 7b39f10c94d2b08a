-- What holds of each of the three models.
use Rattle.std.proofs.Common.{◌≡◌, ◌⊎◌, inl, inr, Bool, true, false, List, refl}
use Rattle.hs_ast.specs.declared.session.Isolation.{Isolation}
use Rattle.hs_ast.specs.declared.session.Isolation.TheVariants.{ReadCommitted, RepeatableRead, Serializable}
use Rattle.hs_claims.specs.declared.footprint.Footprint.{Footprint}
use Rattle.hs_claims.specs.declared.model.ControlKind.{ControlKind}
use Rattle.hs_claims.specs.declared.model.ControlKind.TheVariants.{Locks, MvLocks, Mvcc}
use Rattle.hs_claims.specs.declared.model.Level.{Level}
use Rattle.hs_claims.specs.declared.model.Level.TheVariants.{Rc, Ser, Snap}
use Rattle.hs_claims.specs.Compatible.{fits}
use Rattle.hs_claims.specs.Footprint.{Reference, IsLawful, IsClear, IsApart}
use Rattle.hs_claims.specs.Wants.{wants_of, keeps_of, reads_start_of, offers}
use Rattle.hs_locks.specs.Laws.{locks_cover, locks_hold}
use Rattle.hs_mvlocks.specs.Laws.{mvlocks_cover, mvlocks_hold}
use Rattle.hs_mvcc.specs.Laws.{mvcc_cover, mvcc_hold}
use Rattle.hs_sessions.specs.Modes.{level_of}

-- cover: footprints whose claims go together are clear
pub cover : (kind : ControlKind) (references : List Reference) (level other : Level) (a b : Bool) (f g : Footprint) → IsLawful references a f → IsLawful references b g
    → fits (wants_of kind other b g) (keeps_of kind level a f) ≡ true → IsClear f g
cover Locks = locks_cover
cover MvLocks = mvlocks_cover
cover Mvcc = mvcc_cover

-- hold: what goes together with one at SERIALIZABLE writes none of its tables
pub hold : (kind : ControlKind) (references : List Reference) (level other : Level) (a b : Bool) (f g : Footprint) → IsLawful references a f → IsLawful references b g
    → offers kind level ≡ true → level ≡ Ser → reads_start_of kind level a ≡ false
    → (fits (wants_of kind other b g) (keeps_of kind level a f) ≡ true) ⊎ (fits (wants_of kind level a f) (keeps_of kind other b g) ≡ true) → IsApart f g
hold Locks = locks_hold
hold MvLocks = mvlocks_hold
hold Mvcc = mvcc_hold

-- a transaction that reads its start is read-only or at snapshot isolation
pub starts : (kind : ControlKind) (level : Level) (read_only : Bool) → reads_start_of kind level read_only ≡ true → (read_only ≡ true) ⊎ (level ≡ Snap)
starts Locks level read_only h = absurd cc
starts MvLocks level read_only h = inl h
starts Mvcc Rc read_only h = absurd cc
starts Mvcc Ser read_only h = absurd cc
starts Mvcc Snap read_only h = inr refl

-- a transaction has a level that its model offers
pub offered : (kind : ControlKind) (isolation : Isolation) → offers kind (level_of kind isolation) ≡ true
offered Locks ReadCommitted = refl
offered Locks RepeatableRead = refl
offered Locks Serializable = refl
offered MvLocks ReadCommitted = refl
offered MvLocks RepeatableRead = refl
offered MvLocks Serializable = refl
offered Mvcc ReadCommitted = refl
offered Mvcc RepeatableRead = refl
offered Mvcc Serializable = refl
