-- What a statement's session sees, and what it is refused for.
use Rattle.std.proofs.Common.{◌≡◌, ℕ, ◌==◌, Bool, true, false, List, [], ◌∷◌, length, refl, sym, ap, ap₂, ◌∙◌, subst}
use Rattle.std.specs.Prelude.{Option, Some, if◌then◌else◌}
use Rattle.hs_ast.specs.declared.session.Modes.{Modes as NewModes}
use Rattle.hs_changes.specs.Changes.{count_all_inserted}
use Rattle.hs_claims.specs.declared.model.ControlKind.{ControlKind}
use Rattle.hs_plan.specs.declared.change.Change.{Change}
use Rattle.hs_turns.specs.Database.{Database, view}
use Rattle.hs_turns.specs.Histories.{Commit, Open, own}
use Rattle.hs_schema.specs.Catalogue.{Text}
use Rattle.hs_seams.specs.Stores.{seen}
use Rattle.hs_seams.specs.World.{World}
use Rattle.hs_sides.specs.Sides.{side_of}
use Rattle.hs_turns.specs.Attempts.{Attempt, attempt_data, attempt_definition, data_by, definition_by, seen_by}
use Rattle.hs_turns.specs.Dialect.{Request, nothing, open_transaction, outcome_of, unless_refused}
use Rattle.hs_turns.specs.Dialect.{Request as request}
use Rattle.hs_turns.specs.Machine.{Machine, open_of}
use Rattle.hs_turns.specs.Waiting.{Entry}
use Rattle.hs_turns.proofs.Opened.{own_found}
use Rattle.hs_holding.specs.declared.seat.Own.{Own}
use Rattle.hs_holding.specs.Held.{IsNumber, seat_of}
use Rattle.hs_holding.specs.Seats.{own_in}
use Rattle.hs_tied.specs.Holds.{IsOwn}
use Rattle.hs_tied.specs.Kept.{Kept, fresh_for, own_for, set_in}
use Rattle.hs_tied.proofs.Moving.{own_is}
use Rattle.hs_moves.specs.Evaluated.{data_own}
use Rattle.hs_moves.specs.Fits.{IsHere, Rests, changes_of, kept_of}
use Rattle.hs_moves.specs.Parts.{Parts}
use Rattle.hs_moves.specs.Refused.{IsRefused}
use Rattle.hs_moves.proofs.Seating.{number_of}
use Rattle.hs_moves.proofs.Worlds.{base_read}
use Rattle.hs_controls.specs.Sights.{IsRead, refusal_at}

-- what is asked of a session's own transaction, where all that it might begin answer the same
own_any : {A : Type 0} (f : Open → A) (s : ℕ) (new new' : Open) → f new ≡ f new' → (xs : List Open) → f (own s new xs) ≡ f (own s new' xs)
own_any f s new new' e [] = e
own_any f s new new' e (x ∷ xs) = by (x.session == s) (own_any f s new new' e xs)
  where
    by : (t : Bool) → f (own s new xs) ≡ f (own s new' xs) → f (if t then x else own s new xs) ≡ f (if t then x else own s new' xs)
    by true h = refl
    by false h = h

module _ {S : Type 0} (w : World) (m : Machine) (old : Parts S) (entry : Entry) (here : IsHere old entry.session) (rests : Rests old w (kept_of (side_of m))) where
  abbrev k : Kept
  k = kept_of (side_of m)

  abbrev s : ℕ
  s = entry.session

  number : IsNumber (length m.settings) s
  number = number_of old k s rests.holds here

  abbrev auto : Bool
  auto = (set_in m.settings s).autocommit

  pub its_own : IsOwn m.history.kind (seat_of old.holding s) (data_own w m entry)
  its_own = own_is old.holding old.holding k rests.holds s number auto (record { 0 = length m.history.commits }) refl

  module _ (read : List Commit) (is_read : IsRead w m entry read) where
    pub its_sight : seen_by w.run.dialect w.run.opening w.run.made m (data_own w m entry) ≡ seen w read (changes_of old s)
    its_sight = ap (λ (db : Database). view db (data_own w m entry).trace.changes) (base_read m.history.kind w.run.opening m.history.commits (data_own w m entry))
        ∙ ap₂ (λ (cs : List Commit) (changes : List Change). seen w cs changes) (sym is_read) (sym its_own.changes)

    -- why it is refused, as a transaction has it
    abbrev refused_by : Open → Option Text
    refused_by o = w.run.dialect.refusal o.read_only (seen_by w.run.dialect w.run.opening w.run.made m o) entry.text

    data_refusal : refused_by (data_own w m entry) ≡ refusal_at old w read entry
    data_refusal = ap₂ (λ (x : Own) (db : Database). w.run.dialect.refusal x.read_only db entry.text) (sym its_own.own ∙ ap (λ (kind : ControlKind). own_in kind (seat_of old.holding s)) (sym rests.spanned.kind_is)) its_sight

    own_refusal : (b : Bool) → refused_by (own_for s b k) ≡ refusal_at old w read entry
    own_refusal b = own_any refused_by s (fresh_for s b k) (fresh_for s auto k) refl m.history.open_ ∙ data_refusal

    open_refusal : (o : Open) → open_of m s ≡ Some o → refused_by o ≡ refusal_at old w read entry
    open_refusal o found = ap refused_by (sym (own_found s (fresh_for s auto k) o m.history.open_ found)) ∙ data_refusal

    -- ---- as statements of the transaction that is open

    pub data_refused : (why : Text) → w.run.dialect.request entry.text ≡ request.OfData → refusal_at old w read entry ≡ Some why → IsRefused w m entry why
    data_refused why asks e o found =
        let db = seen_by w.run.dialect w.run.opening w.run.made m o in
        let n = count_all_inserted o.trace.changes in
        ap (λ (q : Request). outcome_of w.run.dialect o.read_only n db entry.text q) asks
        ∙ ap (λ (x : Option Text). unless_refused x (w.run.dialect.outcome o.read_only n db entry.text)) (open_refusal o found ∙ e)

    pub definition_refused : (why : Text) → w.run.dialect.request entry.text ≡ request.OfDefinition → refusal_at old w read entry ≡ Some why → IsRefused w m entry why
    definition_refused why asks e o found =
        let db = seen_by w.run.dialect w.run.opening w.run.made m o in
        let n = count_all_inserted o.trace.changes in
        ap (λ (q : Request). outcome_of w.run.dialect o.read_only n db entry.text q) asks
        ∙ ap (λ (x : Option Text). unless_refused x nothing) (open_refusal o found ∙ e)

    -- ---- a data statement

    pub data_by_refusal : (P : Attempt → Type 0) (found : Option Text) → refusal_at old w read entry ≡ found → P (data_by w.run.dialect w.run.opening w.run.made found entry (data_own w m entry) m)
        → P (attempt_data w.run.dialect w.run.opening w.run.made entry m)
    data_by_refusal P found e h = subst (λ (x : Option Text). P (data_by w.run.dialect w.run.opening w.run.made x entry (data_own w m entry) m)) (sym (data_refusal ∙ e)) h

    -- ---- a definition

    pub definition_by_refusal : (P : Attempt → Type 0) (is_first : Bool) (found : Option Text) → refusal_at old w read entry ≡ found → P (definition_by w.run.dialect w.run.opening w.run.made is_first found entry m)
        → P (attempt_definition w.run.dialect w.run.opening w.run.made is_first entry m)
    definition_by_refusal P is_first found e h = subst (λ (x : Option Text). P (definition_by w.run.dialect w.run.opening w.run.made is_first x entry m)) (sym (own_refusal false ∙ e)) h

-- ---- by the text alone

pub faulty_refused : (w : World) (m : Machine) (entry : Entry) (why : Text) → w.run.dialect.request entry.text ≡ request.Faulty why → IsRefused w m entry why
faulty_refused w m entry why asks o found =
    ap (λ (q : Request). outcome_of w.run.dialect o.read_only (count_all_inserted o.trace.changes) (seen_by w.run.dialect w.run.opening w.run.made m o) entry.text q) asks

pub start_refused : (w : World) (m : Machine) (entry : Entry) (modes : NewModes) → w.run.dialect.request entry.text ≡ request.Starts modes → IsRefused w m entry open_transaction
start_refused w m entry modes asks o found =
    ap (λ (q : Request). outcome_of w.run.dialect o.read_only (count_all_inserted o.trace.changes) (seen_by w.run.dialect w.run.opening w.run.made m o) entry.text q) asks
