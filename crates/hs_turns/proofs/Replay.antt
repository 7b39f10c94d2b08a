-- Statements alone: they leave valid databases, and answer alike on two that agree where they read and write.
use Rattle.std.proofs.Common.{◌≡◌, Bool, true, List, [], ◌∷◌, refl, ap, ◌∙◌, subst}
use Rattle.hs_claims.specs.declared.footprint.Footprint.{Footprint}
use Rattle.hs_changes.specs.Changes.{count_all_inserted}
use Rattle.hs_turns.specs.Database.{Database, view}
use Rattle.hs_turns.specs.Each.{Each}
use Rattle.hs_turns.specs.Language.{Language, Laws, Outcome, Agree, IsFine, Stands}
use Rattle.hs_turns.specs.Transactions.{Statement, Trace, answered, settle, replay}
use Rattle.hs_turns.specs.Transactions.Statement.{Data, OnSession}
use Rattle.hs_turns.proofs.Kept.{Kept, kept_map, answered_kept, control_kept}
use Rattle.hs_turns.proofs.Within.{view_agrees}

module _ (lang : Language) (laws : Laws lang) (read_only : Bool) where
  -- one statement more
  pub settle_fine : (db : Database) → Stands lang db → (s : Statement) (t : Trace) → Kept (IsFine lang db t.feet) t → Kept (IsFine lang db (settle lang read_only db s t).feet) (settle lang read_only db s t)
  settle_fine db v (Data text) t h =
      let o = lang.outcome read_only (count_all_inserted t.changes) (view db t.changes) text in
      answered_kept (IsFine lang db (o.foot ∷ t.feet)) o t (laws.more read_only db t.changes t.feet text v h.stands)
      (kept_map (IsFine lang db t.feet) (IsFine lang db (o.foot ∷ t.feet)) (λ cs k. (laws.wider db cs o.foot t.feet k.0, k.1)) t.changes t.savepoints h)
  settle_fine db v (OnSession control) t h = control_kept (IsFine lang db t.feet) control t h

  pub nothing_fine : (db : Database) → Stands lang db → IsFine lang db [] []
  nothing_fine db h = (laws.none db h, h.0)

  replay_fine : (db : Database) → Stands lang db → (ss : List Statement) → Kept (IsFine lang db (replay lang read_only db ss).feet) (replay lang read_only db ss)
  replay_fine db h [] = record { stands = nothing_fine db h; points = tt; ordered = tt }
  replay_fine db h (s ∷ ss) = settle_fine db h s (replay lang read_only db ss) (replay_fine db h ss)

  replay_valid : (db : Database) → Stands lang db → (ss : List Statement) → lang.is_valid (view db (replay lang read_only db ss).changes) ≡ true
  replay_valid db h ss = (replay_fine db h ss).stands.1

  -- the footprints so far are among those after one statement more
  feet_before : (P : Footprint → Type 0) (db : Database) (s : Statement) (t : Trace) → Each P (settle lang read_only db s t).feet → Each P t.feet
  feet_before P db (Data text) t h = h.1
  feet_before P db (OnSession control) t h = h

  settle_moves : (a b : Database) (s : Statement) (t : Trace) → lang.is_valid (view a t.changes) ≡ true → lang.is_valid (view b t.changes) ≡ true → Each (λ f. Agree f a b) (settle lang read_only a s t).feet
      → settle lang read_only b s t ≡ settle lang read_only a s t
  settle_moves a b (Data text) t va vb h =
      ap (λ (o : Outcome). answered o t) (laws.frame read_only (count_all_inserted t.changes) (view a t.changes) (view b t.changes) text va vb (view_agrees (lang.outcome read_only (count_all_inserted t.changes) (view a t.changes) text).foot t.changes a b h.0))
  settle_moves a b (OnSession control) t va vb h = refl

  -- these statements answer alike on both
  pub replay_moves : (a b : Database) → Stands lang a → Stands lang b → (ss : List Statement) → Each (λ f. Agree f a b) (replay lang read_only a ss).feet → replay lang read_only b ss ≡ replay lang read_only a ss
  replay_moves a b va vb [] h = refl
  replay_moves a b va vb (s ∷ ss) h =
      let was = replay_moves a b va vb ss (feet_before (λ f. Agree f a b) a s (replay lang read_only a ss) h) in
      let valid : lang.is_valid (view b (replay lang read_only a ss).changes) ≡ true = subst (λ (t : Trace). lang.is_valid (view b t.changes) ≡ true) was (replay_valid b vb ss) in
      ap (λ (t : Trace). settle lang read_only b s t) was ∙ settle_moves a b s (replay lang read_only a ss) (replay_valid a va ss) valid h
