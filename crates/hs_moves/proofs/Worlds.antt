-- What a world promises of a machine's transactions.
use Rattle.std.proofs.Common.{◌≡◌, ℕ, ◌≤◌, ◌<◌, ◌+◌, ◌^◌, Bool, true, false, List, [], ◌∷◌, ◌++◌, length, refl, sym, ap, subst, arith, leb-true, length-append}
use Rattle.std.specs.Prelude.{take, if◌then◌else◌}
use Rattle.hs_claims.specs.declared.model.ControlKind.{ControlKind}
use Rattle.hs_claims.specs.Wants.{reads_start_of}
use Rattle.hs_plan.specs.declared.change.Change.{Change}
use Rattle.hs_turns.specs.Database.{Database, has_room, view}
use Rattle.hs_turns.proofs.Applied.{committed-count}
use Rattle.hs_turns.specs.Events.{Event, fresh}
use Rattle.hs_turns.specs.Histories.{Commit, History, Open, base, now, own, state}
use Rattle.hs_turns.specs.Language.{Stands as StandsOn}
use Rattle.hs_turns.proofs.Fine.{Fine, fresh_fine, stands_now}
use Rattle.hs_turns.proofs.Replay.{nothing_fine}
use Rattle.hs_turns.proofs.Sound.{now_more, own_each}
use Rattle.hs_turns.proofs.Whole.{Whole, whole}
use Rattle.hs_seams.specs.Stores.{IsWorld, present, seen}
use Rattle.hs_seams.specs.World.{World}
use Rattle.hs_turns.specs.Dialect.{language_of}
use Rattle.hs_turns.specs.Laws.{IsHistory}
use Rattle.hs_moves.specs.Evaluated.{IsValidFor}
use Rattle.hs_moves.specs.Spanned.{read_by}

base_by : (b : Bool) (opening : Database) (commits : List Commit) (start : ℕ) → (if b then state opening commits start else now opening commits) ≡ now opening (if b then take start commits else commits)
base_by true opening commits start = refl
base_by false opening commits start = refl

-- what a transaction reads is the state behind these commits
pub base_read : (kind : ControlKind) (opening : Database) (commits : List Commit) (o : Open) → base kind opening commits o ≡ now opening (read_by kind commits o)
base_read kind opening commits o = base_by (reads_start_of kind o.level o.read_only) opening commits o.start

module _ (w : World) (world : IsWorld w) (h : History) (is : IsHistory w.run.dialect w.run.opening h) where
  all : Whole (language_of w.run.dialect) world.laws w.run.opening h
  all = subst (Whole (language_of w.run.dialect) world.laws w.run.opening) (sym is.1) (whole (language_of w.run.dialect) world.laws w.run.opening world.opened is.0)

  stands : StandsOn (language_of w.run.dialect) (now w.run.opening h.commits)
  stands = stands_now (language_of w.run.dialect) w.run.opening h.commits all.stands

  -- the model is the database's
  pub model_is : h.kind ≡ (present w h.commits).control
  model_is = all.model

  -- the database is valid
  pub present_valid : w.run.dialect.is_valid (present w h.commits) ≡ true
  present_valid = stands.0

  -- it has so many changes at most
  pub numbers_few : (present w h.commits).count ≤ 2 ^ 48
  numbers_few = stands.1.few

  pub nothing_valid : w.run.dialect.is_valid (seen w h.commits []) ≡ true
  nothing_valid = (nothing_fine (language_of w.run.dialect) world.laws false (now w.run.opening h.commits) stands).1

  valid_by : (o : Open) (b : Bool) → reads_start_of h.kind o.level o.read_only ≡ b → Fine (language_of w.run.dialect) world.laws h.kind w.run.opening h.commits o
      → w.run.dialect.is_valid (view (if b then state w.run.opening h.commits o.start else now w.run.opening h.commits) o.trace.changes) ≡ true
  valid_by o true reads fine = (fine.at_start reads).stands.1
  valid_by o false reads fine = (fine.at_now reads).stands.1

  -- so is what an open transaction reads, or one that begins, with its changes on it
  pub own_valid : (e : Event) → IsValidFor w h (own e.session (fresh h.kind e (length h.commits)) h.open_)
  own_valid e =
      let o = own e.session (fresh h.kind e (length h.commits)) h.open_ in
      valid_by o (reads_start_of h.kind o.level o.read_only) refl
      (own_each (Fine (language_of w.run.dialect) world.laws h.kind w.run.opening h.commits) e.session (fresh h.kind e (length h.commits))
      (fresh_fine (language_of w.run.dialect) world.laws h.kind w.run.opening e h.commits stands) h.open_ all.fine)

-- ---- how many commits there are

-- one commit more, of a change at least
pub count_more : (w : World) (commits : List Commit) (k : Commit) → 1 ≤ length k.changes → w.run.made + length commits ≤ (present w commits).count → w.run.made + length (commits ++ k ∷ []) ≤ (present w (commits ++ k ∷ [])).count
count_more w commits k some few =
    let more = ap (λ (db : Database). db.count) (now_more w.run.opening commits k) in
    let count = committed-count (now w.run.opening commits) k.changes in
    let len = length-append commits (k ∷ []) in
    omega (arith, some, few, more, count, len)

-- there is a number for it
pub number_fits : (w : World) (commits : List Commit) (changes : List Change) → 1 ≤ length changes → has_room (present w commits) changes ≡ true → w.run.made + length commits ≤ (present w commits).count → w.run.made + length commits + 1 < 2 ^ 64
number_fits w commits changes some room few = omega (arith, some, few, leb-true ((present w commits).count + length changes) (2 ^ 48) room)
