-- What a statement comes to depends on the catalogue and on the tables that it touches.
use Rattle.std.proofs.Common.{◌≡◌, inl, ℕ, true, ◌||◌, List, [], map, None, Result, Ok, Err, refl, ap, subst, ◌∙◌}
use Rattle.std.specs.List.{Contains}
use Rattle.hs_claims.specs.Footprint.{has_table}
use Rattle.hs_plan.specs.declared.change.Change.{Change}
use Rattle.hs_plan.specs.declared.plan.Plan.{Plan}
use Rattle.hs_plan.specs.declared.plan.Plan.TheVariants as plan
use Rattle.hs_plan.specs.Named.{concat, named_if_written, named_in_assignment}
use Rattle.hs_values.specs.declared.fault.EvalFault.{EvalFault}
use Rattle.hs_rel.proofs.Selecting.{nothing_in}
use Rattle.hs_answer.specs.Frame.{Agree}
use Rattle.hs_answer_laws.proofs.Framed.{query_framed, right_of}
use Rattle.hs_schema.specs.Catalogue.{Things}
use Rattle.hs_sentences.specs.Violations.{first_violated}
use Rattle.hs_changes.specs.Settings.{Maps}
use Rattle.hs_closure.specs.declared.way.Way.TheVariants as way
use Rattle.hs_footprint.specs.Touched.{parents_named, rows_changed}
use Rattle.hs_dml.specs.Told.{columns_in, tentative}
use Rattle.hs_effects.specs.Effects.{AgreeFor, AreLinks, AreOfWritten, IsOfWritten}
use Rattle.hs_effects.proofs.Edited.{delete_written, insert_written, update_written}
use Rattle.hs_effects.proofs.Links.{own_same}
use Rattle.hs_effects.proofs.Statements.{chosen_same, delete_same, insert_same, update_same}
use Rattle.hs_tentative.specs.Statements.{Around}
use Rattle.hs_turns.specs.Database.{Database}
use Rattle.hs_language.specs.Outcomes.{answered, around, changed, count_of, keys_in, kept_unless_violated, of_plan, of_tables, own_count, violated_by}
use Rattle.hs_language.specs.Reading.{Reading, TellsTables}
use Rattle.hs_language.specs.Validity.{lets_pass}
use Rattle.hs_language.specs.Words.{done_words}
use Rattle.hs_language_laws.proofs.Frame.{Valid, agree_for, keys_same, violation_same}
use Rattle.hs_language_laws.proofs.Linked.{links_of}

-- ---- changes are of written tables

pub all_written : (things : Things) (a : Around) → AreLinks things a.keys → (p : Plan) → AreOfWritten things p (tentative a p)
all_written things a are (plan.Insert insert) = insert_written things a are insert
all_written things a are (plan.Update update) = update_written things a are update
all_written things a are (plan.Delete delete) = delete_written things a are delete
all_written things a are (plan.Query query) = λ c found. absurd (nothing_in c found)
all_written things a are (plan.LockTable locked) = λ c found. absurd (nothing_in c found)
all_written things a are (plan.Define definition) = λ c found. absurd (nothing_in c found)
all_written things a are (plan.Session statement) = λ c found. absurd (nothing_in c found)

pub written_at : (things : Things) (a : Around) → AreLinks things a.keys → (p : Plan) (changes : List Change) → tentative a p ≡ Ok changes → (c : Change) → Contains changes c → IsOfWritten things p c
written_at things a are p changes is = subst (AreOfWritten things p) is (all_written things a are p)

-- ---- one catalogue, and two states of the tables

module _ (r : Reading) (tells : TellsTables r) (inserted : ℕ) (b : Database) (vb : Valid b) (rows : Maps) (held : first_violated lets_pass b.things (λ table. []) rows ≡ None) where
  abbrev a : Database
  a = record b { rows = rows }

  links_ : AreLinks b.things (keys_in b.things)
  links_ = links_of b.things vb.whole

  abbrev Agrees : Plan → Type 0
  Agrees p = (n : ℕ) → (has_table n (r.reads b.things p) || has_table n (r.writes b.things p)) ≡ true → rows n ≡ b.rows n

  both_agree : (p : Plan) → Agrees p → AgreeFor b.things p rows b.rows
  both_agree p agree = agree_for r tells b.things vb.whole vb.owned p rows b.rows agree

  tentative_same : (p : Plan) → AgreeFor b.things p rows b.rows → tentative (around a) p ≡ tentative (around b) p
  tentative_same (plan.Insert insert) agree = insert_same rows b.rows (columns_in b.things) (keys_in b.things) insert (λ table found. agree table (inl (inl found)))
  tentative_same (plan.Update update) agree = update_same rows b.rows (columns_in b.things) (keys_in b.things) b.things links_ update agree
  tentative_same (plan.Delete delete) agree = delete_same rows b.rows (columns_in b.things) (keys_in b.things) b.things links_ delete agree
  tentative_same (plan.Query query) agree = refl
  tentative_same (plan.LockTable locked) agree = refl
  tentative_same (plan.Define definition) agree = refl
  tentative_same (plan.Session statement) agree = refl

  count_same : (p : Plan) (changes : List Change) → AgreeFor b.things p rows b.rows → own_count (around a) p changes ≡ own_count (around b) p changes
  count_same (plan.Insert insert) changes agree = refl
  count_same (plan.Update update) changes agree =
      ap count_of (chosen_same rows b.rows (columns_in b.things) (keys_in b.things) b.things links_ update.table update.filter
      (own_same b.things (keys_in b.things) links_ (plan.Update update) rows b.rows agree way.Update update.table (λ set target closed. target))
      (right_of rows b.rows (concat (map named_in_assignment update.assignments)) (named_if_written update.filter) (λ table found. agree table (inl (inl found)))))
  count_same (plan.Delete delete) changes agree =
      ap count_of (chosen_same rows b.rows (columns_in b.things) (keys_in b.things) b.things links_ delete.table delete.filter
      (own_same b.things (keys_in b.things) links_ (plan.Delete delete) rows b.rows agree way.Deletion delete.table (λ set target closed. target))
      (λ table found. agree table (inl (inl found))))
  count_same (plan.Query query) changes agree = refl
  count_same (plan.LockTable locked) changes agree = refl
  count_same (plan.Define definition) changes agree = refl
  count_same (plan.Session statement) changes agree = refl

  -- the same changes, or the same fault, come to the same
  judged_same : (p : Plan) → Agrees p → (given : Result (List Change) EvalFault) → tentative (around b) p ≡ given → changed r inserted a p given ≡ changed r inserted b p given
  judged_same p agree (Err fault) is = refl
  judged_same p agree (Ok changes) is =
      let all = written_at b.things (around b) links_ p changes is in
      let violation : violated_by inserted a changes ≡ violated_by inserted b changes = violation_same r tells b.things vb.whole vb.owned p rows b.rows agree inserted changes all held vb.holds in
      let count = count_same p changes (both_agree p agree) in
      let keys = keys_same r tells b.things vb.whole vb.owned p rows b.rows agree changes all in
      λ i. kept_unless_violated (violation i) b.things (count i) changes (record { reads = r.reads b.things p; writes = r.writes b.things p; rows = rows_changed changes; keys = keys i; parents = parents_named b.things changes })

  pub changed_same : (p : Plan) → Agrees p → changed r inserted a p (tentative (around a) p) ≡ changed r inserted b p (tentative (around b) p)
  changed_same p agree =
      ap (changed r inserted a p) (tentative_same p (both_agree p agree)) ∙ judged_same p agree (tentative (around b) p) refl

-- ---- two databases of one catalogue

module _ (r : Reading) (tells : TellsTables r) (inserted : ℕ) (a b : Database) (va : Valid a) (vb : Valid b) (h : a.things ≡ b.things) where
  abbrev AgreesAt : Things → Plan → Type 0
  AgreesAt things p = (n : ℕ) → (has_table n (r.reads things p) || has_table n (r.writes things p)) ≡ true → a.rows n ≡ b.rows n

  held_there : first_violated lets_pass b.things (λ table. []) a.rows ≡ None
  held_there = subst (λ (things : Things). first_violated lets_pass things (λ table. []) a.rows ≡ None) h va.holds

  writing_same : (p : Plan) → AgreesAt a.things p → changed r inserted a p (tentative (around a) p) ≡ changed r inserted b p (tentative (around b) p)
  writing_same p agree =
      let there : AgreesAt b.things p = subst (λ (things : Things). AgreesAt things p) h agree in
      (λ i. changed r inserted (record a { things = h i }) p (tentative (around (record a { things = h i })) p))
      ∙ changed_same r tells inserted b vb a.rows held_there p there

  -- it comes to the same over both
  pub plan_same : (p : Plan) → AgreesAt a.things p → of_plan r inserted a p ≡ of_plan r inserted b p
  plan_same (plan.Query query) agree =
      let named : Agree a.rows b.rows (Rattle.hs_plan.specs.Named.named_in_query query) = λ table found. agree_for r tells a.things va.whole va.owned (plan.Query query) a.rows b.rows agree table (inl (inl found)) in
      let same = query_framed a.rows b.rows query named in
      λ i. answered (same i []) (of_tables r (record a { things = h i }) (plan.Query query))
  plan_same (plan.LockTable locked) agree = λ i. record { rows = []; reply = done_words; changes = []; foot = of_tables r (record a { things = h i }) (plan.LockTable locked) }
  plan_same (plan.Insert insert) agree = writing_same (plan.Insert insert) agree
  plan_same (plan.Update update) agree = writing_same (plan.Update update) agree
  plan_same (plan.Delete delete) agree = writing_same (plan.Delete delete) agree
  plan_same (plan.Define definition) agree = refl
  plan_same (plan.Session statement) agree = refl
