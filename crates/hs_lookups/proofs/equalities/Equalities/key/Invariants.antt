use Rattle.std.proofs.Common.{◌≡◌, length}
use Rattle.hs_rel.specs.Selection.{Verdict}
use Rattle.hs_lookups.specs.Asked.{Asks}
use Rattle.hs_lookups.proofs.equalities.Equalities.key.Given as goal

abbrev pub invariant-loop-column : goal.invariant-loop-column
invariant-loop-column l = record {
  long : length l.key.items ≡ l.column-index;
  asked : (verdict : Verdict) → Asks verdict l.self.columns.items l.self.values → Asks verdict l.columns l.key.items;
}
