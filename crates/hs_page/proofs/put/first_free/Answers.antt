use Rattle.std.proofs.Common.{sym, ◌∙◌, arith}
use Rattle.hs_page.proofs.PageFacts.{length-slot_bytes, slot_bytes_beyond, empty}
use Rattle.hs_page.proofs.SlotLists.{first_free_is}
use Rattle.hs_page.proofs.put.first_free.Goals as goal

pub returns-then-number-eq0-clause-first : goal.returns-then-number-eq0-clause-first
returns-then-number-eq0-clause-first c = sym (first_free_is _ _ c.requires (omega arith) c.loop-i.invariant (λ _. omega arith))

pub returns-then-number-eq0-clause-free : goal.returns-then-number-eq0-clause-free
returns-then-number-eq0-clause-free c = empty _ (length-slot_bytes _ _ c.requires (omega arith) ∙ omega arith)

pub returns-clause-first : goal.returns-clause-first
returns-clause-first c = sym (first_free_is _ _ c.requires (omega arith) (λ k h. c.loop-i.invariant k (omega arith)) (λ h. absurd (omega arith)))

pub returns-clause-free : goal.returns-clause-free
returns-clause-free c = slot_bytes_beyond c.args.bytes.now c.number-count.result (omega arith)
