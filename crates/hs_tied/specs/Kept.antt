-- What a machine has of its sessions, and what events make of it.
use Rattle.std.specs.Prelude.{ℕ, ◌-◌, ◌==◌, Bool, List, [], ◌∷◌, ◌++◌, length, find, is_some, Option, slice_index_or, slice_set, if◌then◌else◌}
use Rattle.hs_ast.specs.declared.session.Isolation.TheVariants.{ReadCommitted}
use Rattle.hs_claims.specs.declared.model.ControlKind.{ControlKind}
use Rattle.hs_sessions.specs.Modes.{level_of, no_modes, with_modes}
use Rattle.hs_turns.specs.Transactions.{nothing}
use Rattle.hs_turns.specs.Histories.{Commit, Open, others, own, put_open}
use Rattle.hs_turns.specs.Machine.{Settings, new_settings}
use Rattle.hs_turns.specs.Waiting.{Waits, freed}

-- the model, the commits and the open transactions, the settings of the sessions, and who waits for whom
pub record Kept : Type 0 where
  pub kind : ControlKind
  pub commits : List Commit
  pub open_ : List Open
  pub settings : List Settings
  pub waits : Waits

abbrev pub set_in : List Settings → ℕ → Settings
set_in settings s = slice_index_or settings (s - 1) (new_settings ReadCommitted)

abbrev pub found : Kept → ℕ → Option Open
found k s = find (λ o. o.session == s) k.open_

-- ---- a transaction that begins

-- that of a session, as it begins now
abbrev pub fresh_for : ℕ → Bool → Kept → Open
fresh_for s auto k = record {
  session = s;
  level = level_of k.kind (with_modes (set_in k.settings s).next (set_in k.settings s).modes).isolation;
  read_only = (with_modes (set_in k.settings s).next (set_in k.settings s).modes).read_only;
  auto = auto;
  start = length k.commits;
  statements = [];
  trace = nothing;
}

-- the open one, or the one that begins
abbrev pub own_for : ℕ → Bool → Kept → Open
own_for s auto k = own s (fresh_for s auto k) k.open_

-- what was named for the next transaction is used up where it begins
abbrev pub used : ℕ → Kept → List Settings
used s k = if is_some (found k s) then k.settings else slice_set k.settings (s - 1) (record (set_in k.settings s) { next = no_modes })

-- ---- steps

abbrev pub put : ℕ → Open → Kept → Kept
put s o k = record k { open_ = put_open s o k.open_ }

abbrev pub opened : ℕ → Bool → Kept → Kept
opened s auto k = record k { open_ = put_open s (own_for s auto k) k.open_; settings = used s k }

-- its transaction ends without a commit
abbrev pub left : ℕ → Kept → Kept
left s k = record k { open_ = others s k.open_; waits = freed s k.waits }

-- it ends with one
abbrev pub committed : ℕ → Commit → Kept → Kept
committed s commit k = record k { commits = k.commits ++ commit ∷ []; open_ = others s k.open_; waits = freed s k.waits }

abbrev pub with_waits : Waits → Kept → Kept
with_waits waits k = record k { waits = waits }

abbrev pub with_set : ℕ → Settings → Kept → Kept
with_set s set k = record k { settings = slice_set k.settings (s - 1) set }
