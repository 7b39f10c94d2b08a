-- What a definition finds.
use Rattle.std.proofs.Common.{◌++◌, ◌≡◌, ℕ, ◌+◌, ◌<◌, ◌^◌, Bool, true, false, List, [], ◌∷◌, sym, ap, ◌∙◌, subst, arith, codes}
use Rattle.std.specs.Prelude.{Some, Ok}
use Rattle.hs_turns.specs.Database.{Database, has_room}
use Rattle.hs_turns.specs.Definitions.{control_after}
use Rattle.hs_turns.specs.Events.{definition_commit}
use Rattle.hs_turns.specs.Histories.{Commit, others}
use Rattle.hs_holding.specs.declared.holding.Holding.{Holding}
use Rattle.hs_holding.specs.Held.{seat_of}
use Rattle.hs_lines.specs.declared.words.Words.{Words as Said}
use Rattle.hs_plan.specs.declared.change.Change.{Change}
use Rattle.hs_plan.specs.declared.change.Change.TheVariants as change
use Rattle.hs_plan.specs.declared.definition.Definition.{Definition}
use Rattle.hs_seams.specs.declared.attempted.Attempted.{Attempted}
use Rattle.hs_seams.specs.Stores.{Commits, IsWorld, present, seen}
use Rattle.hs_snapshots.specs.Stores.{IsReadyToDefine}
use Rattle.hs_seams.specs.World.{World}
use Rattle.hs_sides.specs.Sides.{side_of}
use Rattle.hs_turns.specs.Attempts.{data_event, defined}
use Rattle.hs_turns.specs.Dialect.{Request as request}
use Rattle.hs_turns.specs.Machine.{Machine}
use Rattle.hs_turns.specs.Waiting.{Entry}
use Rattle.hs_tied.specs.Kept.{Kept}
use Rattle.hs_moves.specs.Fits.{Fits, IsHere, changes_of, kept_of}
use Rattle.hs_moves.specs.Answers.{ok_told, refusal_told}
use Rattle.hs_moves.specs.Moves.{Moves}
use Rattle.hs_moves.specs.Parts.{Parts}
use Rattle.hs_moves.proofs.Defining.{define_done, define_full}
use Rattle.hs_moves.proofs.Worlds.{model_is, number_fits, own_valid, present_valid}
use Rattle.hs_turns.proofs.Sound.{now_more}
use Rattle.hs_turns.specs.Laws.{IsHistory}
use Rattle.hs_controls.specs.Sights.{IsQuiet, IsRead, behind_own}
use Rattle.hs_controls.proofs.Seeing.{its_sight}
use Rattle.hs_controls.proofs.Waiting.{fits_defined, quiet_none}
use Rattle.hs_transactions.specs.Standing.{IsAt}
use Rattle.hs_transactions.proofs.Sanity.{sane_own}
use Rattle.hs_transactions.proofs.Seats.{rests_same}

module _ {S : Type 0} (At : S → World → List Commit → List Change → Type 0) (t : Parts S) (w : World) (m : Machine) (at : IsAt At t w m) where
  abbrev k : Kept
  k = kept_of (side_of m)

  -- the database is valid with the changes of the seated session
  pub seated_valid : (entry : Entry) → IsHere t entry.session → t.seated.0 ≡ entry.session → (read : List Commit) → IsRead w m entry read → w.run.dialect.is_valid (seen w read (changes_of t t.seated.0)) ≡ true
  seated_valid entry here seated read is_read =
      subst (λ (db : Database). w.run.dialect.is_valid db ≡ true)
      (its_sight w m t entry here at.stands.fits.rests read is_read ∙ ap (λ (s : ℕ). seen w read (changes_of t s)) (sym seated))
      (own_valid w at.stands.world m.history at.stands.sane.history (data_event w.run.dialect w.run.opening w.run.made m entry false))

  -- ---- where no transaction is open

  module _ (quiet : IsQuiet t.holding) where
    pub seat_quiet : changes_of t t.seated.0 ≡ []
    seat_quiet =
        let rests = at.stands.fits.rests in
        (rests.holds.idle t.seated.0 rests.seat (rests.holds.known t.seated.0 rests.seat ∙ quiet t.seated.0 rests.seat)).changes

    pub quiet_store : At t.store w m.history.commits []
    quiet_store = subst (λ (cs : List Change). At t.store w m.history.commits cs) seat_quiet at.stands.fits.store

    pub quiet_valid : w.run.dialect.is_valid (present w m.history.commits) ≡ true
    quiet_valid = present_valid w at.stands.world m.history at.stands.sane.history

    pub quiet_ready : IsReadyToDefine (At t.store)
    quiet_ready = (w, m.history.commits, (quiet_store, quiet_valid))

-- the model of transactions behind a definition
pub model_behind : (w : World) (m : Machine) → IsWorld w → IsHistory w.run.dialect w.run.opening m.history → (session : ℕ) (definition : Definition) → (present w (m.history.commits ++ definition_commit session definition ∷ [])).control ≡ control_after definition m.history.kind
model_behind w m world history session definition =
    ap (λ (db : Database). db.control) (now_more w.run.opening m.history.commits (definition_commit session definition))
    ∙ ap (control_after definition) (sym (model_is w world m.history history))

-- its commit has a number
pub defined_number : {S : Type 0} (At : S → World → List Commit → List Change → Type 0) (t : Parts S) (w : World) (m : Machine) (at : IsAt At t w m) (definition : Definition) → has_room (present w m.history.commits) (change.Define definition ∷ []) ≡ true → t.commits + 1 < 2 ^ 64
defined_number At t w m at definition room =
    let rests = at.stands.fits.rests in
    let less = number_fits w m.history.commits (change.Define definition ∷ []) (omega arith) room rests.few in
    let count = rests.count in
    omega (arith, less, count)

-- what the store's answer to its commit comes to
module _ {S : Type 0} (At : S → World → List Commit → List Change → Type 0) (old new : Parts S) (w : World) (m : Machine) (at : IsAt At old w m) (quiet : IsQuiet old.holding) (entry : Entry) (definition : Definition) (asks : w.run.dialect.request entry.text ≡ request.OfDefinition)
    (found : w.run.dialect.definition (present w m.history.commits) entry.text ≡ Ok definition) (room : has_room (present w m.history.commits) (change.Define definition ∷ []) ≡ true) (r : Attempted) (told told' : List Said) (made made' : List (List ℕ)) (is_made : Bool)
    (store : Commits (At new.store) w m.history.commits [] (definition_commit entry.session definition) made made' is_made) (holding : new.holding ≡ old.holding) (seated : new.seated ≡ old.seated) (final : r.is_final ≡ true) (ended : r.has_ended ≡ false) where
  abbrev Defined : List (List ℕ) → Type 0
  Defined x = Moves At w m (defined w.run.dialect w.run.opening w.run.made (w.run.dialect.definition (present w m.history.commits) entry.text) [] entry m) new r told told' made x

  same_changes : [] ≡ changes_of new new.seated.0
  same_changes = sym (ap (λ x. changes_of new x.0) seated ∙ ap (λ (h : Holding). (seat_of h old.seated.0).session.changes) holding ∙ seat_quiet At old w m at quiet)

  pub defined_full : is_made ≡ false → new.commits ≡ old.commits → new.spans ≡ old.spans → told' ≡ refusal_told told (codes "log full") → Defined made'
  defined_full isnt commits spans is =
      let kept = store.kept isnt in
      subst Defined (sym kept.1) (define_full At w m new r told told' entry definition found made room (sym store.room ∙ isnt) (record {
        store = subst (λ (cs : List Change). At new.store w m.history.commits cs) same_changes kept.0;
        rests = rests_same old new w (kept_of (side_of m)) holding seated commits spans at.stands.fits.rests;
      }) final ended is)

  pub defined_done : is_made ≡ true → new.commits ≡ old.commits + 1 → new.spans.kind ≡ control_after definition m.history.kind → new.spans.made ≡ old.spans.made → new.spans.count ≡ old.spans.count + 1 → new.spans.first ≡ new.spans.count → new.spans.claims ≡ [] → told' ≡ ok_told told (Some (record { 0 = new.commits })) → Defined made'
  defined_done is_done commits kind same one_more first claims is =
      let done = store.done is_done in
      let before = at.stands.fits.rests.count in
      define_done At w m new r told told' entry definition found new.commits made made' (quiet_none old.holding (kept_of (side_of m)) at.stands.fits.rests.holds quiet) room (sym store.room ∙ is_done)
      (fits_defined At w (kept_of (side_of m)) old new entry.session definition at.stands.fits.rests quiet holding seated commits kind same one_more first claims done.0)
      (omega (arith, commits, before)) done.1 final ended is

-- ---- behind the end of a session's own transaction

pub at_own : {S : Type 0} (At : S → World → List Commit → List Change → Type 0) (old new : Parts S) (w : World) (m : Machine) (s : ℕ) (next : Kept) → IsAt At old w m → kept_of (side_of (behind_own w m s)) ≡ next → next.open_ ≡ others s m.history.open_ → Fits At new w next
    → IsAt At new w (behind_own w m s)
at_own At old new w m s next at is open_is fits = record {
  stands = record {
    world = at.stands.world;
    fits = subst (Fits At new w) (sym is) fits;
    sane = sane_own w m s (ap (λ (x : Kept). x.open_) is ∙ open_is) at.stands.sane;
  };
  named = at.named;
}
