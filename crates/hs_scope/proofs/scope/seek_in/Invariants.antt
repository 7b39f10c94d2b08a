use Rattle.std.proofs.Common.{◌≡◌, ◌+◌, length, drop}
use Rattle.std.specs.Option.{option_map}
use Rattle.hs_scope.specs.Names.{offers}
use Rattle.hs_scope.specs.Sought.{both, offers_from}
use Rattle.hs_scope.proofs.scope.seek_in.Given as goal

abbrev pub invariant-loop-one : goal.invariant-loop-one
invariant-loop-one l = record {
  found : both l.found (offers_from l.first (option_map (λ t. t.now) l.table) l.column (offers (drop l.one-index l.tables))) ≡ offers_from 0 (option_map (λ t. t.now) l.table) l.column (offers l.tables);
  first : l.first + length (offers (drop l.one-index l.tables)) ≡ length (offers l.tables);
}
