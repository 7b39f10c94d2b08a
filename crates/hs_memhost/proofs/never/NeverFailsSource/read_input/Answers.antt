use Rattle.std.proofs.Common.{rules, inr}
use Rattle.hs_memhost.specs.Reading.{takes_reads}
use Rattle.hs_memhost.proofs.never.NeverFailsSource.read_input.Goals as goal

pub returns-clause-only : goal.returns-clause-only
returns-clause-only c = record {
  kept = search rules;
  read = takes_reads _ _ c.front.result.now _ _ (search rules) (inr (search rules));
}
