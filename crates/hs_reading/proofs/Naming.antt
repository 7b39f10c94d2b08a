-- The names of a definition's constraints are new, and differ.
use Rattle.std.proofs.Common.{◌≡◌, suc, true, false, is_some, length, List, [], ◌∷◌, ◌++◌, map, Option, None, Some, refl, sym, ap, ◌∙◌, subst, arith}
use Rattle.std.proofs.lemmas.Bool.{or_parts}
use Rattle.std.proofs.lemmas.List.Elements.{All-from_recursion}
use Rattle.std.proofs.lemmas.List.Folds.{list_any-append}
use Rattle.std.proofs.lemmas.Map.Keys.{IsDistinct-cons}
use Rattle.std.specs.List.{AllByRecursion, IsDistinct}
use Rattle.std.specs.Str.{bytes_eq}
use Rattle.hs_ast.specs.declared.word.Identifier.{Identifier}
use Rattle.hs_elements.specs.Faults.{Text, exists_at, is_among}
use Rattle.hs_elements.specs.declared.names.ConstraintKind.{ConstraintKind}
use Rattle.hs_elements.proofs.Typed.{flipped}
use Rattle.hs_outlines.specs.Named.{AreNamed, IsNameBy, clash, first_key, is_taken, name_faults, second}
use Rattle.hs_outlines.specs.declared.written.Written.{Written}
use Rattle.hs_plan.specs.declared.definition.Constraint.{Constraint}
use Rattle.hs_plan.specs.declared.definition.Rule.{Rule}
use Rattle.hs_schema.specs.Catalogue.{AreNew, Things, owner_of}
use Rattle.hs_tables.specs.Additions.{named}
use Rattle.hs_reading.proofs.Faults.{none_both, not_so}

pub none_of : {X : Type 0} (o : Option X) → is_some o ≡ false → o ≡ None
none_of None h = refl
none_of (Some x) h = absurd (let no : true ≡ false = h in cc)

-- a name that stands is none that was given, nor one of the catalogue
module _ (things : Things) (table : Text) (given : List Text) where
  free_by : (o : Option Identifier) (its : ConstraintKind) (name : Text) → IsNameBy o things table given its name → clash things given o ≡ [] → is_taken things given name ≡ false
  free_by (Some own) its name is h = ap (is_taken things given) is ∙ not_so (is_taken things given own.name) (exists_at own) h
  free_by None its name is h = ap (is_taken things given) is.spelled ∙ is.least.free

pub apart : (given : List Text) (n : Text) (names : List Text) → AllByRecursion (λ y. is_among (given ++ n ∷ []) y ≡ false) names → AllByRecursion (λ y. is_among given y ≡ false) names × AllByRecursion (λ y. bytes_eq n y ≡ false) names
apart given n [] h = (tt, tt)
apart given n (y ∷ ys) h =
    let parts = or_parts (is_among given y) (is_among (n ∷ []) y) (sym (list_any-append (bytes_eq y) given (n ∷ [])) ∙ h.0) in
    let one = or_parts (bytes_eq y n) false parts.1 in
    let rest = apart given n ys h.1 in
    ((parts.0, rest.0), (flipped n y ∙ one.0, rest.1))

-- names behind those that are given
pub record AreFresh (things : Things) (given names : List Text) : Type 0 where
  pub apart : AllByRecursion (λ y. is_among given y ≡ false) names
  pub distinct : IsDistinct bytes_eq names
  pub free : AllByRecursion (λ y. owner_of things y ≡ None) names

pub fresh_names : (things : Things) (table : Text) (given : List Text) (first : Option Text) (ws : List Written) (names : List Text) → AreNamed things table given ws names → name_faults things given first ws names ≡ [] → AreFresh things given names
unfolding IsDistinct
fresh_names things table given first [] [] are h = record { apart = tt; distinct = tt; free = tt }
fresh_names things table given first [] (n ∷ ns) are h = absurd are
fresh_names things table given first (w ∷ ws) [] are h = absurd are
fresh_names things table given first (w ∷ ws) (n ∷ ns) are h =
    let more = none_both (clash things given w.name ++ second first w) (name_faults things (given ++ n ∷ []) (first_key first w n) ws ns) h in
    let faults = none_both (clash things given w.name) (second first w) more.0 in
    let rest : AreFresh things (given ++ n ∷ []) ns = fresh_names things table (given ++ n ∷ []) (first_key first w n) ws ns are.1 more.1 in
    let here = or_parts (is_among given n) (is_some (owner_of things n)) (free_by things table given w.name w.kind n are.0 faults.0) in
    let both = apart given n ns rest.apart in
    record { apart = (here.0, both.0); distinct = IsDistinct-cons bytes_eq n ns both.1 rest.distinct; free = (none_of (owner_of things n) here.1, rest.free) }

-- as many names as constraints
pub as_many : (things : Things) (table : Text) (given : List Text) (ws : List Written) (names : List Text) → AreNamed things table given ws names → length names ≡ length ws
as_many things table given [] [] are = refl
as_many things table given [] (n ∷ ns) are = absurd are
as_many things table given (w ∷ ws) [] are = absurd are
as_many things table given (w ∷ ws) (n ∷ ns) are = ap suc (as_many things table (given ++ n ∷ []) ws ns are.1)

-- ---- constraints with these names

pub names_of_named : (names : List Text) (rules : List Rule) → length names ≡ length rules → map (λ (c : Constraint). c.name) (named names rules) ≡ names
names_of_named [] rules h = refl
names_of_named (n ∷ ns) [] h = absurd (omega (arith, h))
names_of_named (n ∷ ns) (r ∷ rs) h = ap (λ ms. n ∷ ms) (names_of_named ns rs (omega (arith, h)))

free_named : (things : Things) (names : List Text) (rules : List Rule) → AllByRecursion (λ y. owner_of things y ≡ None) names → AllByRecursion (λ (c : Constraint). owner_of things c.name ≡ None) (named names rules)
free_named things [] rules h = tt
free_named things (n ∷ ns) [] h = tt
free_named things (n ∷ ns) (r ∷ rs) h = (h.0, free_named things ns rs h.1)

pub are_new : (things : Things) (names : List Text) (rules : List Rule) → length names ≡ length rules → AreFresh things [] names → AreNew things (named names rules)
are_new things names rules same fresh = (
  subst (IsDistinct bytes_eq) (sym (names_of_named names rules same)) fresh.distinct,
  All-from_recursion (λ (c : Constraint). owner_of things c.name ≡ None) (named names rules) (free_named things names rules fresh.free),
)
