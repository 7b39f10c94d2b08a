use Rattle.hs_rel.specs.Selection.{Verdict}
use Rattle.hs_lookups.specs.Asked.{Asks}
use Rattle.hs_lookups.proofs.equalities.Equalities.value_for.Given as goal

abbrev pub invariant-loop-each : goal.invariant-loop-each
invariant-loop-each l = (verdict : Verdict) → Asks verdict l.self.columns.items l.self.values → Asks verdict l.each-iterator.a.rest.now l.each-iterator.b.rest.now
