-- When footprints tell the same.
use Rattle.std.specs.Prelude.{◌≡◌, ◌↔◌, List, map}
use Rattle.std.specs.List.{Contains}
use Rattle.std.specs.List.Sorted.{IsStrictlyIncreasing}
use Rattle.hs_base.specs.declared.numbers.TableNo.{TableNo}
use Rattle.hs_claims.specs.declared.footprint.Footprint.{Footprint}
use Rattle.hs_plan.specs.declared.plan.Plan.{Plan}
use Rattle.hs_schema.specs.Catalogue.{Things}
use Rattle.hs_language.specs.Reading.{Reading}

-- both tell the same tables, in any order, and the same rows and keys
pub record TellTheSame (a b : Footprint) : Type 0 where
  pub reads : (table : TableNo) → Contains a.reads table ↔ Contains b.reads table
  pub writes : (table : TableNo) → Contains a.writes table ↔ Contains b.writes table
  pub rows : a.rows ≡ b.rows
  pub keys : a.keys ≡ b.keys
  pub parents : a.parents ≡ b.parents

-- tables by ascending numbers, each once
abbrev pub Ascend : List TableNo → Type 0
Ascend tables = IsStrictlyIncreasing (map (λ t. t.0) tables)

-- it lists tables so
pub record ListsAscending (r : Reading) : Type 0 where
  pub reads : (things : Things) (plan : Plan) → Ascend (r.reads things plan)
  pub writes : (things : Things) (plan : Plan) → Ascend (r.writes things plan)
