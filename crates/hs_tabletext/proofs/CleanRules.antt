-- No control character is in the text of a rule.
use Rattle.std.proofs.Common.{◌≡◌, ℕ, true, false, eqb, List, [], ◌∷◌, ◌++◌, inl, inr, refl, ap}
use Rattle.std.specs.Prelude.{codes}
use Rattle.std.specs.List.{AllByRecursion}
use Rattle.std.proofs.lemmas.Bool.{cases_Bool, eqb-true}
use Rattle.hs_ast.specs.declared.definition.ReferentialAction.{ReferentialAction}
use Rattle.hs_ast.specs.declared.definition.ReferentialAction.TheVariants as a
use Rattle.hs_plan.specs.declared.definition.Column.{Column}
use Rattle.hs_plan.specs.declared.definition.Constraint.{Constraint}
use Rattle.hs_plan.specs.declared.definition.ForeignKey.{ForeignKey}
use Rattle.hs_plan.specs.declared.definition.Rule.{Rule}
use Rattle.hs_plan.specs.declared.definition.Rule.TheVariants as rule
use Rattle.hs_plan.specs.declared.expression.Expr.{Expr}
use Rattle.hs_valuetext.specs.Texts.{is_control, has_control}
use Rattle.hs_valuetext.proofs.Bits.{or_false, not_both}
use Rattle.hs_nametext.specs.Names.{name_text}
use Rattle.hs_columntext.specs.Lists.{others_text}
use Rattle.hs_columnlaws.proofs.CleanColumns.{clean_name}
use Rattle.hs_columnlaws.proofs.CleanValues.{Clean, clean++}
use Rattle.hs_keytext.specs.ForeignKeys.{action_text, actions_text, parent_columns, referenced_text, parent_text, parent_of, foreign_key_text, IsForeignKey}
use Rattle.hs_keytext.specs.Owners.{Owner}
use Rattle.hs_keytext.specs.Places.{name_at, place_text, places_text, IsPlace, AreColumns}
use Rattle.hs_tabletext.specs.Conditions.{Wording}
use Rattle.hs_tabletext.specs.Rules.{key_text, rule_text, IsRule}
use Rattle.hs_tabletext.specs.Constraints.{constraint_text, IsConstraint}
use Rattle.hs_parttext.specs.Lines.{is_feed, has_feed}

-- ---- columns

clean_place : (columns : List Column) (place : ℕ) → IsPlace columns place → Clean (place_text columns place)
clean_place columns place h = clean_name (name_at columns place) h.named

clean_others : (columns : List Column) (places : List ℕ) → AllByRecursion (IsPlace columns) places → Clean (others_text (place_text columns) places)
clean_others columns [] h = refl
clean_others columns (p ∷ ps) h = clean++ (place_text columns p) (others_text (place_text columns) ps) (clean_place columns p h.0) (clean_others columns ps h.1)

clean_list : (columns : List Column) (places : List ℕ) → AllByRecursion (IsPlace columns) places → Clean (places_text columns places)
clean_list columns [] h = refl
clean_list columns (p ∷ ps) h = clean++ (place_text columns p) (others_text (place_text columns) ps) (clean_place columns p h.0) (clean_others columns ps h.1)

pub clean_places : (columns : List Column) (places : List ℕ) → AreColumns columns places → Clean (places_text columns places)
clean_places columns places h = clean_list columns places h.each

-- ---- foreign keys

clean_action : (action : ReferentialAction) → Clean (action_text action)
clean_action a.NoAction = refl
clean_action a.Restrict = refl
clean_action a.Cascade = refl
clean_action a.SetNull = refl
clean_action a.SetDefault = refl

clean_actions : (p : ReferentialAction × ReferentialAction) → Clean (actions_text p)
clean_actions p =
    clean++ (codes " ON DELETE ") (action_text p.0 ++ (codes " ON UPDATE " ++ action_text p.1)) refl
    (clean++ (action_text p.0) (codes " ON UPDATE " ++ action_text p.1) (clean_action p.0) (clean++ (codes " ON UPDATE ") (action_text p.1) refl (clean_action p.1)))

clean_parent : (owner : Owner) (key : ForeignKey) → IsForeignKey owner key → Clean (parent_text owner (parent_of key))
clean_parent owner key h =
    let columns : List Column = parent_columns owner key.parent in
    let actions : List ℕ = actions_text (key.on_delete, key.on_update) in
    clean++ (name_text key.parent) (referenced_text columns (parent_of key).1) (clean_name key.parent h.named)
    (clean++ (codes "(") (places_text columns key.parent_columns ++ (codes ")" ++ actions)) refl
    (clean++ (places_text columns key.parent_columns) (codes ")" ++ actions) (clean_places columns key.parent_columns h.theirs) (clean++ (codes ")") actions refl (clean_actions (key.on_delete, key.on_update)))))

clean_foreign_key : (owner : Owner) (key : ForeignKey) → IsForeignKey owner key → Clean (foreign_key_text owner key)
clean_foreign_key owner key h =
    let parent : List ℕ = parent_text owner (parent_of key) in
    clean++ (codes "FOREIGN KEY(") (places_text owner.columns key.columns ++ (codes ") REFERENCES " ++ parent)) refl
    (clean++ (places_text owner.columns key.columns) (codes ") REFERENCES " ++ parent) (clean_places owner.columns key.columns h.own) (clean++ (codes ") REFERENCES ") parent refl (clean_parent owner key h)))

-- ---- rules

-- no condition has a control character in its text
abbrev pub AreClean : Wording → Type 0
AreClean wording = (columns : List Column) (e : Expr) → wording.Has columns e → Clean (wording.text columns e)

closed : (front middle : List ℕ) → Clean front → Clean middle → Clean (front ++ (middle ++ codes ")"))
closed front middle one two = clean++ front (middle ++ codes ")") one (clean++ middle (codes ")") two refl)

pub clean_rule : (wording : Wording) → AreClean wording → (owner : Owner) (r : Rule) → IsRule wording owner r → Clean (rule_text wording owner r)
clean_rule wording clean owner (rule.NotNull place) h = closed (codes "NOT NULL(") (place_text owner.columns place) refl (clean_place owner.columns place h)
clean_rule wording clean owner (rule.PrimaryKey places) h = closed (codes "PRIMARY KEY(") (places_text owner.columns places) refl (clean_places owner.columns places h)
clean_rule wording clean owner (rule.Unique places) h = closed (codes "UNIQUE(") (places_text owner.columns places) refl (clean_places owner.columns places h)
clean_rule wording clean owner (rule.Check e) h = closed (codes "CHECK(") (wording.text owner.columns e) refl (clean owner.columns e h)
clean_rule wording clean owner (rule.ForeignKey key) h = clean_foreign_key owner key h
clean_rule wording clean owner (rule.Index places) h = absurd h

pub clean_constraint : (wording : Wording) → AreClean wording → (owner : Owner) (c : Constraint) → IsConstraint wording owner c → Clean (constraint_text wording owner c)
clean_constraint wording clean owner c h =
    clean++ (name_text c.name) (codes " " ++ rule_text wording owner c.rule) (clean_name c.name h.named) (clean++ (codes " ") (rule_text wording owner c.rule) refl (clean_rule wording clean owner c.rule h.rule))

-- ---- nor a line feed

no_feed : (b : ℕ) → is_control b ≡ false → is_feed b ≡ false
no_feed b h = elim (cases_Bool (is_feed b)) [
  | inl holds ↦ absurd (not_both (is_control b) (ap is_control (eqb-true b 10 holds)) h)
  | inr fails ↦ fails
]

pub feedless : (xs : List ℕ) → Clean xs → has_feed xs ≡ false
feedless [] h = refl
feedless (b ∷ xs) h =
    let parts = or_false (is_control b) (has_control xs) h in
    rw (no_feed b parts.0) (feedless xs parts.1)

pub constraint_feedless : (wording : Wording) → AreClean wording → (owner : Owner) (c : Constraint) → IsConstraint wording owner c → has_feed (constraint_text wording owner c) ≡ false
constraint_feedless wording clean owner c h = feedless (constraint_text wording owner c) (clean_constraint wording clean owner c h)
