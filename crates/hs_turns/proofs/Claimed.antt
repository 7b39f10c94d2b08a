-- What claims that go together keep apart: a transaction after one statement more.
use Rattle.std.proofs.Common.{◌≡◌, inl, inr, Bool, true, false, cond, List, [], ◌∷◌, ◌++◌, drop, refl, ap, ap₂, ◌∙◌, subst}
use Rattle.hs_claims.specs.declared.footprint.Footprint.{Footprint}
use Rattle.hs_claims.specs.declared.model.ControlKind.{ControlKind}
use Rattle.hs_claims.specs.declared.model.Level.{Level}
use Rattle.hs_claims.specs.declared.model.Level.TheVariants.{Snap}
use Rattle.hs_claims.specs.Compatible.{fits}
use Rattle.hs_claims.specs.Footprint.{Reference, IsApart, IsClear, IsLawful}
use Rattle.hs_claims.specs.Wants.{wants_of, keeps_of, reads_start_of, offers}
use Rattle.hs_changes.specs.Changes.{count_all_inserted}
use Rattle.hs_schema.specs.Catalogue.{Text, Things}
use Rattle.hs_sessions.specs.declared.control.Control.{Control}
use Rattle.hs_turns.specs.Database.{Database, view}
use Rattle.hs_turns.specs.Each.{Each, Across, EachTwo}
use Rattle.hs_turns.specs.Language.{Language, Laws, Outcome, IsWithin, references_of}
use Rattle.hs_turns.specs.Transactions.{Statement, Trace, settle}
use Rattle.hs_turns.specs.Transactions.Statement.{Data, OnSession}
use Rattle.hs_turns.specs.Histories.{Open, Commit, now, state, base, held, is_free, is_snap, newer, no_conflict}
use Rattle.hs_turns.specs.Events.{said}
use Rattle.hs_turns.proofs.Fine.{AllStand, Fine, said_fine}
use Rattle.hs_turns.proofs.Kept.{Changes, Kept, kept_map, answered_kept, control_kept}
use Rattle.hs_turns.proofs.Lists.{each_map, each_both, each_append, each_all}
use Rattle.hs_turns.proofs.Models.{cover, hold}
use Rattle.hs_turns.proofs.Sound.{HasNone, AreLawful, Between, Meets, Sound, each_fits}
use Rattle.hs_turns.proofs.Within.{IsWithinFeet, WithinSome}

-- a transaction, and the others
pub record Split (lang : Language) (laws : Laws lang) (kind : ControlKind) (opening : Database) (commits : List Commit) (o : Open) (rest : List Open) : Type 0 where
  pub own : Sound lang kind opening commits o
  pub own_fine : Fine lang laws kind opening commits o
  pub others : Each (Sound lang kind opening commits) rest
  pub others_fine : Each (Fine lang laws kind opening commits) rest
  pub two : EachTwo (Between kind) rest
  pub between : Each (λ u. Between kind o u × Between kind u o) rest

module _ (kind : ControlKind) where
  swap : (f g : Footprint) → IsClear f g → IsClear g f
  swap f g h = record { rows = λ t r a b. h.rows t r b a; keys = λ t c v a b. h.keys t c v b a; parents = λ t c v a b. h.children t c v b a; children = λ t c v a b. h.parents t c v b a }

  clear_of : (references : List Reference) (level other : Level) (ro other_ro : Bool) (gs : List Footprint) (f : Footprint) → IsLawful references ro f → Each (IsLawful references other_ro) gs → fits (wants_of kind level ro f) (held kind other other_ro gs) ≡ true → Each (IsClear f) gs
  clear_of references level other ro other_ro gs f lf lg free =
      each_both (λ g. fits (wants_of kind level ro f) (keeps_of kind other other_ro g) ≡ true) (IsLawful references other_ro) (IsClear f)
      (λ g e l. swap g f (cover kind references other level other_ro ro g f l lf e)) gs (each_fits kind (wants_of kind level ro f) other other_ro gs free) lg

  between_more : (references : List Reference) (o u : Open) (f : Footprint) → offers kind o.level ≡ true → offers kind u.level ≡ true → IsLawful references o.read_only f → Each (IsLawful references u.read_only) u.trace.feet
      → fits (wants_of kind o.level o.read_only f) (held kind u.level u.read_only u.trace.feet) ≡ true → Between kind o u × Between kind u o
      → Meets kind o.level o.read_only (f ∷ o.trace.feet) u.trace.feet × Meets kind u.level u.read_only u.trace.feet (f ∷ o.trace.feet)
  between_more references o u f oo ou lf lu free was =
      let wanted = wants_of kind o.level o.read_only f in
      let Fits = λ (g : Footprint). (fits wanted (keeps_of kind u.level u.read_only g) ≡ true) × IsLawful references u.read_only g in
      let clear = clear_of references o.level u.level o.read_only u.read_only u.trace.feet f lf lu free in
      let each : Each Fits u.trace.feet = each_both (λ g. fits wanted (keeps_of kind u.level u.read_only g) ≡ true) (IsLawful references u.read_only) Fits (λ g x y. (x, y)) u.trace.feet (each_fits kind wanted u.level u.read_only u.trace.feet free) lu in (
        record {
          apart = λ at rs. (each_map Fits (IsApart f) (λ g e. hold kind references o.level u.level o.read_only u.read_only f g lf e.1 oo at rs (inr e.0)) u.trace.feet each, was.0.apart at rs);
          clear = (clear, was.0.clear);
        },
        record {
          apart = λ at rs. each_both Fits (λ g. Each (IsApart g) o.trace.feet) (λ g. Each (IsApart g) (f ∷ o.trace.feet)) (λ g e old. (hold kind references u.level o.level u.read_only o.read_only g f e.1 lf ou at rs (inl e.0), old)) u.trace.feet each (was.1.apart at rs);
          clear = each_both (IsClear f) (λ g. Each (IsClear g) o.trace.feet) (λ g. Each (IsClear g) (f ∷ o.trace.feet)) (λ g e old. (swap f g e, old)) u.trace.feet clear was.1.clear;
        },
      )

module _ (lang : Language) (laws : Laws lang) (kind : ControlKind) (opening : Database) (commits : List Commit) (o : Open) where
  -- what it has come to after one statement more
  abbrev told : Statement → Trace
  told s = settle lang o.read_only (base kind opening commits o) s o.trace

  abbrev things_now : Things
  things_now = (now opening commits).things

  said_sound : (s : Statement) → Sound lang kind opening commits o
      → Each (IsLawful (references_of things_now) o.read_only) (told s).feet → (o.read_only ≡ true → Kept HasNone (told s)) → Kept (IsWithinFeet (told s).feet) (told s)
      → (o.level ≡ Snap → Each (λ (k : Commit). Across IsClear (told s).feet k.feet) (drop o.start commits)) → Sound lang kind opening commits (said lang (base kind opening commits o) s o)
  said_sound s su lawful reader within first = record {
    started = su.started;
    offers_it = su.offers_it;
    things = su.things;
    lawful = lawful;
    newer_lawful = su.newer_lawful;
    reader = reader;
    within = within;
    snapshot = λ rs. ap₂ (λ (d : Database) (t : Trace). settle lang o.read_only d s t) (ap (λ (b : Bool). cond b (state opening commits o.start) (now opening commits)) rs) (su.snapshot rs);
    serial = λ rs at. ap₂ (λ (d : Database) (t : Trace). settle lang o.read_only d s t) (ap (λ (b : Bool). cond b (state opening commits o.start) (now opening commits)) rs) (su.serial rs at);
    first = first;
  }

  -- ---- a statement on the session, which touches nothing

  pub controlled : AllStand lang opening commits → (rest : List Open) (c : Control) → Split lang laws kind opening commits o rest → Split lang laws kind opening commits (said lang (base kind opening commits o) (OnSession c) o) rest
  controlled v rest c p = record {
    own = said_sound (OnSession c) p.own p.own.lawful (λ ro. control_kept HasNone c o.trace (p.own.reader ro)) (control_kept (IsWithinFeet o.trace.feet) c o.trace p.own.within) p.own.first;
    own_fine = said_fine lang laws kind opening commits o (OnSession c) v p.own_fine;
    others = p.others;
    others_fine = p.others_fine;
    two = p.two;
    between = p.between;
  }

  -- ---- a data statement that nobody holds up, and that no newer commit is in the way of

  -- the database that it reads has the present catalogue
  base_things : (b : Bool) → Sound lang kind opening commits o → (cond b (state opening commits o.start) (now opening commits)).things ≡ things_now
  base_things true s = s.things
  base_things false s = refl

  -- what it reads is valid
  reads_valid : (b : Bool) → reads_start_of kind o.level o.read_only ≡ b → Fine lang laws kind opening commits o → lang.is_valid (view (cond b (state opening commits o.start) (now opening commits)) o.trace.changes) ≡ true
  reads_valid true rs f = (f.at_start rs).stands.1
  reads_valid false rs f = (f.at_now rs).stands.1

  module _ (text : Text) (valid : lang.is_valid (view (base kind opening commits o) o.trace.changes) ≡ true) where
    abbrev out : Outcome
    out = lang.outcome o.read_only (count_all_inserted o.trace.changes) (view (base kind opening commits o) o.trace.changes) text

    abbrev feet_then : List Footprint
    feet_then = out.foot ∷ o.trace.feet

    lawful_then : Sound lang kind opening commits o → IsLawful (references_of things_now) o.read_only out.foot
    lawful_then s = subst (λ (ts : Things). IsLawful (references_of ts) o.read_only out.foot) (base_things (reads_start_of kind o.level o.read_only) s)
        (laws.lawful o.read_only (count_all_inserted o.trace.changes) (view (base kind opening commits o) o.trace.changes) text valid)

    reader_then : Sound lang kind opening commits o → o.read_only ≡ true → Kept HasNone (told (Data text))
    reader_then s ro =
        let db = view (base kind opening commits o) o.trace.changes in
        let none : out.changes ≡ [] = ap (λ (b : Bool). (lang.outcome b (count_all_inserted o.trace.changes) db text).changes) ro ∙ laws.reader (count_all_inserted o.trace.changes) db text valid in
        answered_kept HasNone out o.trace (ap₂ (λ (xs ys : Changes). xs ++ ys) (s.reader ro).stands none) (s.reader ro)

    within_then : Sound lang kind opening commits o → Kept (IsWithinFeet feet_then) (told (Data text))
    within_then s =
        let wider : (cs : Changes) → IsWithinFeet o.trace.feet cs → IsWithinFeet feet_then cs = λ cs h. each_map (WithinSome o.trace.feet) (WithinSome feet_then) (λ c w. inr w) cs h in
        let among : IsWithinFeet feet_then out.changes = each_map (IsWithin out.foot) (WithinSome feet_then) (λ c w. inl w) out.changes (laws.within o.read_only (count_all_inserted o.trace.changes) (view (base kind opening commits o) o.trace.changes) text valid) in
        let old = kept_map (IsWithinFeet o.trace.feet) (IsWithinFeet feet_then) wider o.trace.changes o.trace.savepoints s.within in
        answered_kept (IsWithinFeet feet_then) out o.trace (each_append (WithinSome feet_then) o.trace.changes out.changes old.stands among) old

    abbrev FitsCommit : Commit → Type 0
    FitsCommit k = fits (wants_of kind o.level o.read_only out.foot) (held kind k.level k.read_only k.feet) ≡ true

    first_then : no_conflict kind o out.foot (newer commits o) ≡ true → Sound lang kind opening commits o → o.level ≡ Snap → Each (λ (k : Commit). Across IsClear feet_then k.feet) (drop o.start commits)
    first_then clear s at =
        let lf = lawful_then s in
        let fit : Each FitsCommit (drop o.start commits) = subst (λ (b : Bool). Each FitsCommit (cond b (drop o.start commits) [])) (ap is_snap at)
        (each_all (λ (k : Commit). fits (wants_of kind o.level o.read_only out.foot) (held kind k.level k.read_only k.feet)) (newer commits o) clear) in
        let Both = λ (k : Commit). FitsCommit k × AreLawful things_now k in
        let both : Each Both (drop o.start commits) = each_both FitsCommit (AreLawful things_now) Both (λ k x y. (x, y)) (drop o.start commits) fit s.newer_lawful in
        each_both Both (λ (k : Commit). Across IsClear o.trace.feet k.feet) (λ (k : Commit). Across IsClear feet_then k.feet)
        (λ k both old. (clear_of kind (references_of things_now) o.level k.level o.read_only k.read_only k.feet out.foot lf both.1 both.0, old)) (drop o.start commits) both (s.first at)

    abbrev FitsOpen : Open → Type 0
    FitsOpen u = fits (wants_of kind o.level o.read_only out.foot) (held kind u.level u.read_only u.trace.feet) ≡ true

    answered_by : AllStand lang opening commits → (rest : List Open) → is_free kind o out.foot rest ≡ true → no_conflict kind o out.foot (newer commits o) ≡ true
        → Split lang laws kind opening commits o rest → Split lang laws kind opening commits (said lang (base kind opening commits o) (Data text) o) rest
    answered_by v rest free clear p =
        let lf = lawful_then p.own in
        let Known = λ (u : Open). Sound lang kind opening commits u × (Between kind o u × Between kind u o) in
        let known : Each Known rest = each_both (Sound lang kind opening commits) (λ u. Between kind o u × Between kind u o) Known (λ u a b. (a, b)) rest p.others p.between in
        record {
          own = said_sound (Data text) p.own (lf, p.own.lawful) (reader_then p.own) (within_then p.own) (first_then clear p.own);
          own_fine = said_fine lang laws kind opening commits o (Data text) v p.own_fine;
          others = p.others;
          others_fine = p.others_fine;
          two = p.two;
          between = each_both FitsOpen Known (λ (u : Open). Meets kind o.level o.read_only feet_then u.trace.feet × Meets kind u.level u.read_only u.trace.feet feet_then)
              (λ u e both. between_more kind (references_of things_now) o u out.foot p.own.offers_it both.0.offers_it lf both.0.lawful e both.1) rest
              (each_all (λ (u : Open). fits (wants_of kind o.level o.read_only out.foot) (held kind u.level u.read_only u.trace.feet)) rest free) known;
        }

  pub answered : AllStand lang opening commits → (text : Text) (rest : List Open) → is_free kind o (lang.outcome o.read_only (count_all_inserted o.trace.changes) (view (base kind opening commits o) o.trace.changes) text).foot rest ≡ true
      → no_conflict kind o (lang.outcome o.read_only (count_all_inserted o.trace.changes) (view (base kind opening commits o) o.trace.changes) text).foot (newer commits o) ≡ true
      → Split lang laws kind opening commits o rest → Split lang laws kind opening commits (said lang (base kind opening commits o) (Data text) o) rest
  answered v text rest free clear p = answered_by text (reads_valid (reads_start_of kind o.level o.read_only) refl p.own_fine) v rest free clear p
