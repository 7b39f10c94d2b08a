-- The names that are left when things go.
use Rattle.std.proofs.Common.{◌≡◌, Bool, true, false, not, ◌&&◌, nat_eq, filter, List, [], refl, if◌then◌else◌}
use Rattle.std.specs.Str.{bytes_eq}
use Rattle.hs_base.specs.declared.numbers.TableNo.{TableNo}
use Rattle.hs_schema.specs.declared.thing.Part.{Part}
use Rattle.hs_schema.specs.declared.thing.Part.TheVariants as part
use Rattle.hs_schema.specs.declared.thing.Thing.{Thing}
use Rattle.hs_schema.specs.Catalogue.{Text, Things, is_of, is_constraint, named, named_in, owned, owned_in, without_table, without_constraint}
use Rattle.hs_schema.proofs.Filters.{flat_map-skip, flat_map-filter}

pub nothing : {A : Type 0} (b : Bool) → [] ≡ (if◌then◌else◌ {A = List A} b [] [])
nothing true = refl
nothing false = refl

module _ (table : TableNo) where
  pub named_without_table : (things : Things) → named (without_table things table) ≡ filter (λ e. not (nat_eq table.0 e.1.0)) (named things)
  named_without_table = flat_map-filter (λ (t : Thing). named_in t.table t.part) (λ t. not (is_of table t)) (λ (e : Text × TableNo). not (nat_eq table.0 e.1.0)) (λ t. names t.table t.part)
    where
      names : (its : TableNo) (p : Part) → filter (λ (e : Text × TableNo). not (nat_eq table.0 e.1.0)) (named_in its p) ≡ (if not (nat_eq table.0 its.0) then named_in its p else [])
      names its (part.Table name storage columns) = refl
      names its (part.Column column) = nothing (not (nat_eq table.0 its.0))
      names its (part.Constraint constraint) = nothing (not (nat_eq table.0 its.0))

  pub owned_without_table : (things : Things) → owned (without_table things table) ≡ filter (λ e. not (nat_eq table.0 e.1.0)) (owned things)
  owned_without_table = flat_map-filter (λ (t : Thing). owned_in t.table t.part) (λ t. not (is_of table t)) (λ (e : Text × TableNo). not (nat_eq table.0 e.1.0)) (λ t. owners t.table t.part)
    where
      owners : (its : TableNo) (p : Part) → filter (λ (e : Text × TableNo). not (nat_eq table.0 e.1.0)) (owned_in its p) ≡ (if not (nat_eq table.0 its.0) then owned_in its p else [])
      owners its (part.Table name storage columns) = nothing (not (nat_eq table.0 its.0))
      owners its (part.Column column) = nothing (not (nat_eq table.0 its.0))
      owners its (part.Constraint constraint) = refl

module _ (table : TableNo) (name : Text) where
  pub named_without_constraint : (things : Things) → named (without_constraint things name table) ≡ named things
  named_without_constraint = flat_map-skip (λ (t : Thing). named_in t.table t.part) (λ t. not (is_of table t && is_constraint name t.part)) (λ t. names (is_of table t) t.table t.part)
    where
      names : (b : Bool) (its : TableNo) (p : Part) → not (b && is_constraint name p) ≡ false → named_in its p ≡ []
      names true its (part.Table own storage columns) h = cc
      names false its (part.Table own storage columns) h = cc
      names b its (part.Column column) h = refl
      names b its (part.Constraint constraint) h = refl

  pub owned_without_constraint : (things : Things) → owned (without_constraint things name table) ≡ filter (λ e. not (nat_eq table.0 e.1.0 && bytes_eq name e.0)) (owned things)
  owned_without_constraint = flat_map-filter (λ (t : Thing). owned_in t.table t.part) (λ t. not (is_of table t && is_constraint name t.part)) (λ (e : Text × TableNo). not (nat_eq table.0 e.1.0 && bytes_eq name e.0)) (λ t. owners t.table t.part)
    where
      owners : (its : TableNo) (p : Part) → filter (λ (e : Text × TableNo). not (nat_eq table.0 e.1.0 && bytes_eq name e.0)) (owned_in its p) ≡ (if not (nat_eq table.0 its.0 && is_constraint name p) then owned_in its p else [])
      owners its (part.Table own storage columns) = nothing (not (nat_eq table.0 its.0 && false))
      owners its (part.Column column) = nothing (not (nat_eq table.0 its.0 && false))
      owners its (part.Constraint constraint) = refl
