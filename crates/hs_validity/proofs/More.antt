-- One statement more is told of by its footprint, and leaves a valid database.
use Rattle.std.proofs.Common.{◌≡◌, inl, inr, ℕ, Bool, true, false, List, [], ◌∷◌, ◌++◌, Option, None, Some, Result, Ok, Err, refl, sym, ap, subst, ◌∙◌, append-nil}
use Rattle.std.specs.FinMap.{get}
use Rattle.std.specs.List.{Contains, list_all, list_any}
use Rattle.std.proofs.lemmas.Bool.{and_parts}
use Rattle.hs_claims.specs.declared.footprint.Footprint.{Footprint}
use Rattle.hs_plan.specs.declared.change.Change.{Change}
use Rattle.hs_plan.specs.declared.change.Change.TheVariants as change
use Rattle.hs_plan.specs.declared.plan.Plan.{Plan}
use Rattle.hs_plan.specs.declared.plan.Plan.TheVariants as plan
use Rattle.hs_values.specs.declared.fault.EvalFault.{EvalFault}
use Rattle.hs_values.specs.declared.value.Value.{Value}
use Rattle.hs_values.specs.SqlType.{row_fits}
use Rattle.hs_answer.specs.Answer.{answer}
use Rattle.hs_changes.specs.Changes.{count_all_inserted, settings_of}
use Rattle.hs_dml.specs.Told.{tentative}
use Rattle.hs_rel.proofs.Selecting.{head_or_tail, nothing_in}
use Rattle.hs_schema.specs.declared.thing.Thing.{Thing}
use Rattle.hs_sentences.specs.declared.violation.Violation.{Violation}
use Rattle.hs_turns.specs.Database.{Database, view, IsNumbered}
use Rattle.hs_turns.specs.Each.{Each}
use Rattle.hs_turns.specs.Language.{IsWithin, Outcome}
use Rattle.hs_turns.specs.Dialect.{untouched}
use Rattle.hs_language.specs.Described.{described, names_known, tell_setting}
use Rattle.hs_language.specs.Outcomes.{answered, around, changed, kept_unless_long, kept_unless_violated, of_changes, of_plan, of_tables, own_count, violated_by}
use Rattle.hs_language.specs.Reading.{Reading}
use Rattle.hs_language.specs.Sound.{has_fitting_default}
use Rattle.hs_language.specs.Sql.{is_valid}
use Rattle.hs_validity.specs.Inside.{IsInside}
use Rattle.hs_language.specs.Validity.{puts_long, touched_by, types_in}
use Rattle.hs_validity.proofs.Added.{described_more, valid_more}
use Rattle.hs_validity.proofs.Judged.{IsValid, valid_from}
use Rattle.hs_validity.proofs.Numbered.{known_in, valid_parts, valid_whole}
use Rattle.hs_validity.proofs.Proper.{IsProper}
use Rattle.hs_validity.proofs.Standing.{fitting_in}
use Rattle.hs_validity.proofs.Tentative.{IsStanding, all_standing}
use Rattle.hs_validity.proofs.Typed.{all_typed, columns_fitting}
use Rattle.hs_validity.proofs.Wider.{wider}

each_at : {X : Type 0} (P : X → Type 0) (xs : List X) → Each P xs → (x : X) → Contains xs x → P x
each_at P [] h x found = absurd (nothing_in x found)
each_at P (y ∷ ys) h x found = elim (head_or_tail y ys x found) [
  | inl is ↦ subst P is h.0
  | inr later ↦ each_at P ys h.1 x later
]

module _ (r : Reading) (db : Database) (changes : List Change) (feet : List Footprint) (numbered : IsNumbered db) (told : described db changes feet ≡ true) (valid : is_valid (view db changes) ≡ true) where
  abbrev seen : Database
  seen = view db changes

  abbrev n : ℕ
  n = count_all_inserted changes

  abbrev pub IsFineWith : Footprint → List Change → Type 0
  IsFineWith f cs = (described db (changes ++ cs) (f ∷ feet) ≡ true) × (is_valid (view db (changes ++ cs)) ≡ true)

  abbrev pub IsFineBehind : Outcome → Type 0
  IsFineBehind o = IsFineWith o.foot o.changes

  pub unchanged : (f : Footprint) → IsFineWith f []
  unchanged f = subst (λ (cs : List Change). (described db cs (f ∷ feet) ≡ true) × (is_valid (view db cs) ≡ true)) (sym (append-nil changes)) (wider db changes f feet told, valid)

  judged : IsValid db.things seen.rows
  judged = valid_from db.things seen.rows (valid_parts seen valid).1

  -- there is such a table
  abbrev IsTable : ℕ → Type 0
  IsTable table = (t : Thing) × Contains db.things t × (t.table.0 ≡ table)

  rows_fit : (table number : ℕ) (row : List Value) → IsTable table → get (seen.rows table) number ≡ Some row → row_fits (types_in db.things table) row ≡ true
  rows_fit table number row own there =
      subst (λ (x : ℕ). row_fits (types_in db.things x) row ≡ true) own.2
      (judged.fits own.0 own.1 number row (ap (λ (x : ℕ). get (seen.rows x) number) own.2 ∙ there))

  module _ (p : Plan) (cs : List Change) (given : tentative (around seen) p ≡ Ok cs) (inside : Each (IsWithin (of_changes r seen p cs)) cs) where
    fitting : (table : ℕ) → list_all has_fitting_default ((around seen).columns table) ≡ true
    fitting = columns_fitting db.things (fitting_in db.things judged.sound)

    proper_by : (c : Change) → IsStanding (around seen) IsTable fitting rows_fit (all_typed db.things) c → IsWithin (of_changes r seen p cs) c → IsProper db.things (r.writes db.things p) seen.rows c
    proper_by (change.Insert table values) s w = (w, λ t found is. s (t, found, is))
    proper_by (change.Put table row values) s w = (w.written, s.0, λ t found is. s.1 (t, found, is))
    proper_by (change.Delete table row) s w = (w.written, s)
    proper_by (change.Define definition) s w = s

    proper : (c : Change) → Contains cs c → IsProper db.things (r.writes db.things p) seen.rows c
    proper c found =
        proper_by c (all_standing (around seen) IsTable fitting rows_fit (all_typed db.things) p cs given c found) (each_at (IsWithin (of_changes r seen p cs)) cs inside c found)

    accepted : violated_by n seen cs ≡ None → IsFineWith (of_changes r seen p cs) cs
    accepted none =
        let known = known_in db changes feet told in
        let all = (and_parts (names_known db.count 0 changes) (list_all (tell_setting db.things feet db.rows seen.rows) (settings_of 0 changes)) told).1 in (
          described_more db changes cs feet (r.reads db.things p) (r.writes db.things p) numbered known all judged proper,
          valid_whole (view db (changes ++ cs)) (valid_parts seen valid).0
              (valid_more db changes cs feet (r.reads db.things p) (r.writes db.things p) numbered known all judged proper (touched_by (settings_of n cs)) none),
        )

  -- ---- by what a statement comes to

  by_long : (p : Plan) (cs : List Change) (count : ℕ) (long : Bool) → tentative (around seen) p ≡ Ok cs → violated_by n seen cs ≡ None → IsInside (kept_unless_long long count cs (of_changes r seen p cs)) → IsFineBehind (kept_unless_long long count cs (of_changes r seen p cs))
  by_long p cs count true given none inside = unchanged (of_changes r seen p cs)
  by_long p cs count false given none inside = accepted p cs given inside none

  by_violated : (p : Plan) (cs : List Change) (count : ℕ) (o : Option Violation) → tentative (around seen) p ≡ Ok cs → violated_by n seen cs ≡ o → IsInside (kept_unless_violated o seen.things count cs (of_changes r seen p cs)) → IsFineBehind (kept_unless_violated o seen.things count cs (of_changes r seen p cs))
  by_violated p cs count (Some violation) given is inside = unchanged (of_changes r seen p cs)
  by_violated p cs count None given is inside = by_long p cs count (list_any (puts_long seen.things) cs) given is inside

  by_given : (p : Plan) (g : Result (List Change) EvalFault) → tentative (around seen) p ≡ g → IsInside (changed r n seen p g) → IsFineBehind (changed r n seen p g)
  by_given p (Ok cs) given inside = by_violated p cs (own_count (around seen) p cs) (violated_by n seen cs) given refl inside
  by_given p (Err fault) given inside = unchanged (of_tables r seen p)

  by_answer : (g : Result (List (List Value)) EvalFault) (f : Footprint) → IsFineBehind (answered g f)
  by_answer (Ok rows) f = unchanged f
  by_answer (Err fault) f = unchanged f

  pub more : (p : Plan) → IsInside (of_plan r n seen p) → IsFineBehind (of_plan r n seen p)
  more (plan.Insert insert) inside = by_given (plan.Insert insert) (tentative (around seen) (plan.Insert insert)) refl inside
  more (plan.Update update) inside = by_given (plan.Update update) (tentative (around seen) (plan.Update update)) refl inside
  more (plan.Delete delete) inside = by_given (plan.Delete delete) (tentative (around seen) (plan.Delete delete)) refl inside
  more (plan.Query query) inside = by_answer (answer seen.rows query) (of_tables r seen (plan.Query query))
  more (plan.LockTable locked) inside = unchanged (of_tables r seen (plan.LockTable locked))
  more (plan.Define definition) inside = unchanged untouched
  more (plan.Session statement) inside = unchanged untouched
