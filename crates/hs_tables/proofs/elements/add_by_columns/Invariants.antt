use Rattle.std.proofs.Common.{◌≡◌, drop}
use Rattle.hs_typed.specs.Faults.{noted}
use Rattle.hs_tables.specs.Rules.{column_rules, faults_of, found_after}
use Rattle.hs_tables.specs.Site.{seen}
use Rattle.hs_tables.proofs.elements.add_by_columns.Given as goal

abbrev pub invariant-loop-constraint : goal.invariant-loop-constraint
invariant-loop-constraint g l = record {
  rules : found_after l.rules (column_rules (seen l.site) l.name (drop l.constraint-index l.constraints)) ≡ found_after l.fn.rules (column_rules (seen l.site) l.name l.constraints);
  noted : noted l.faults (faults_of (column_rules (seen l.site) l.name (drop l.constraint-index l.constraints))) ≡ noted l.fn.faults (faults_of (column_rules (seen l.site) l.name l.constraints));
}
