use Rattle.std.proofs.Common.{rules, ◌≡◌, [], inr, refl}
use Rattle.hs_memhost.specs.Input.{left_of}
use Rattle.hs_memhost.specs.Memory.{Kept, kept_of, history_in}
use Rattle.hs_memhost.specs.Reading.{takes_reads}
use Rattle.hs_memhost.proofs.memory.MemHostSource.read_input.Goals as goal

pub returns-then-fails_now-clause-only : goal.returns-then-fails_now-clause-only
returns-then-fails_now-clause-only c = record {
  kept = search rules;
  read = takes_reads _ _ [] _ _ (search rules) (inr (search rules));
}

pub returns-clause-only : goal.returns-clause-only
returns-clause-only c = record {
  kept = search rules;
  read = takes_reads _ _ c.front.result.now _ _ (search rules) (inr (search rules));
}
