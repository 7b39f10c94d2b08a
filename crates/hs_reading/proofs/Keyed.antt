-- Keys as the binder sees them are keys of constraints.
use Rattle.std.proofs.Common.{◌≡◌, ℕ, Bool, true, false, ◌||◌, nat_eq, find, List, [], ◌∷◌, Option, None, Some, cond, refl, sym, ap, ap₂, ◌∙◌, if◌then◌else◌}
use Rattle.std.proofs.lemmas.Bool.{and_from, eq-eqb, or_left, or_right}
use Rattle.std.proofs.lemmas.List.Folds.{list_any-append}
use Rattle.std.specs.List.{list_any}
use Rattle.std.specs.Option.{option_map}
use Rattle.hs_ast.specs.declared.word.Identifier.{Identifier}
use Rattle.hs_footprint.specs.Touched.{are_same, key_columns}
use Rattle.hs_outlines.specs.ForeignKeys.{are_among, if_key, is_key, referenced, same_set}
use Rattle.hs_outlines.specs.Outline.{Outlined, key_by, keys_of, places_in}
use Rattle.hs_outlines.specs.declared.outline.Key.{Key}
use Rattle.hs_plan.specs.declared.definition.Constraint.{Constraint}
use Rattle.hs_plan.specs.declared.definition.Rule.{Rule}
use Rattle.hs_plan.specs.declared.definition.Rule.TheVariants as rule
use Rattle.hs_language.specs.Proper.{has_key_over}
use Rattle.hs_language.proofs.Lists.{all_weaker}

or_nothing : (b : Bool) → (b || false) ≡ b
or_nothing true = refl
or_nothing false = refl

module _ (columns : List ℕ) where
  key_same : (r : Rule) → is_key (key_by r) columns ≡ are_same (key_columns r) columns
  key_same (rule.PrimaryKey its) = or_nothing (same_set columns its)
  key_same (rule.Unique its) = or_nothing (same_set columns its)
  key_same (rule.NotNull column) = refl
  key_same (rule.Check condition) = refl
  key_same (rule.ForeignKey key) = refl
  key_same (rule.Index its) = refl

  -- the keys of constraints
  pub keys_same : (cs : List Constraint) → is_key (keys_of cs) columns ≡ has_key_over cs columns
  keys_same [] = refl
  keys_same (c ∷ cs) = list_any-append (λ (k : Key). same_set columns k.columns) (key_by c.rule) (keys_of cs) ∙ ap₂ (λ a b. a || b) (key_same c.rule) (keys_same cs)

-- ---- what is referenced is a key

set_itself : (ns : List ℕ) → are_among ns ns ≡ true
set_itself [] = refl
set_itself (n ∷ ns) =
    and_from (list_any (nat_eq n) (n ∷ ns)) (are_among ns (n ∷ ns)) (or_left (nat_eq n n) (list_any (nat_eq n) ns) (eq-eqb n n refl))
    (all_weaker (λ a. list_any (nat_eq a) ns) (λ a. list_any (nat_eq a) (n ∷ ns)) (λ a h. or_right (nat_eq a n) (list_any (nat_eq a) ns) h) ns (set_itself ns))

first_key : (keys : List Key) (columns : List ℕ) → option_map (λ (k : Key). k.columns) (find (λ (k : Key). k.primary) keys) ≡ Some columns → is_key keys columns ≡ true
first_key [] columns h = absurd (let no : None ≡ Some columns = h in cc)
first_key (k ∷ ks) columns h = by k.primary h (first_key ks columns)
  where
    by : (b : Bool) → option_map (λ (x : Key). x.columns) (cond b (Some k) (find (λ (x : Key). x.primary) ks)) ≡ Some columns
        → (option_map (λ (x : Key). x.columns) (find (λ (x : Key). x.primary) ks) ≡ Some columns → is_key ks columns ≡ true) → (same_set columns k.columns || is_key ks columns) ≡ true
    by true h rest =
        let same : k.columns ≡ columns = cc in
        or_left (same_set columns k.columns) (is_key ks columns)
        (ap (λ (cs : List ℕ). same_set cs k.columns) (sym same) ∙ and_from (are_among k.columns k.columns) (are_among k.columns k.columns) (set_itself k.columns) (set_itself k.columns))
    by false h rest = or_right (same_set columns k.columns) (is_key ks columns) (rest h)

pub referenced_is_key : (parent : Outlined) (list : List Identifier) (columns : List ℕ) → referenced parent list ≡ Some columns → is_key parent.keys columns ≡ true
referenced_is_key parent [] columns h = first_key parent.keys columns h
referenced_is_key parent (n ∷ ns) columns h = by (places_in parent.names (n ∷ ns)) h
  where
    here : (found : List ℕ) (b : Bool) → is_key parent.keys found ≡ b → (if b then Some found else None) ≡ Some columns → is_key parent.keys columns ≡ true
    here found true e h = let same : found ≡ columns = cc in ap (is_key parent.keys) (sym same) ∙ e
    here found false e h = absurd (let no : None ≡ Some columns = h in cc)

    by : (o : Option (List ℕ)) → if_key parent.keys o ≡ Some columns → is_key parent.keys columns ≡ true
    by None h = absurd (let no : None ≡ Some columns = h in cc)
    by (Some found) h = here found (is_key parent.keys found) refl h
