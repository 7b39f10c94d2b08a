use Rattle.std.proofs.Common.{◌≡◌, drop}
use Rattle.hs_typed.specs.Faults.{noted}
use Rattle.hs_tables.specs.Rules.{all_rules, faults_of, found_after}
use Rattle.hs_tables.specs.Site.{seen}
use Rattle.hs_tables.proofs.elements.add_by_all.Given as goal

abbrev pub invariant-loop-e : goal.invariant-loop-e
invariant-loop-e g l = record {
  rules : found_after l.rules (all_rules (seen l.site) (drop l.e-index l.all)) ≡ found_after l.fn.rules (all_rules (seen l.site) l.all);
  noted : noted l.faults (faults_of (all_rules (seen l.site) (drop l.e-index l.all))) ≡ noted l.fn.faults (faults_of (all_rules (seen l.site) l.all));
}
