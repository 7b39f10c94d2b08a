use Rattle.std.proofs.Common.{ℕ, ◌∙◌, arith}
use Rattle.std.proofs.lemmas.List.{length-replicate}
use Rattle.hs_page.specs.declared.TheConstants.{PAGE_BYTES}
use Rattle.hs_page.proofs.Blank.{blank_is, blank_page, blank_slot}
use Rattle.hs_page.proofs.KeptNumbers.{kept_number}
use Rattle.hs_page.proofs.pack.blank.Goals as goal

pub returns-clause-page : goal.returns-clause-page
returns-clause-page c = blank_page _ (blank_is c.set_number.new.bytes c.set_number-2.new.bytes c.args.count (omega (arith, c.set_number-2.auto.bytes, c.set_number.auto.bytes, length-replicate {A = ℕ} PAGE_BYTES 0)) (kept_number _ _ 2 c.set_number-2.ensures.others 0 (omega arith) (omega arith) (omega arith) ∙ c.set_number.ensures.number) c.set_number-2.ensures.number c.requires c.set_number.ensures.others c.set_number-2.ensures.others)

pub returns-clause-free : goal.returns-clause-free
returns-clause-free c = blank_slot _ (blank_is c.set_number.new.bytes c.set_number-2.new.bytes c.args.count (omega (arith, c.set_number-2.auto.bytes, c.set_number.auto.bytes, length-replicate {A = ℕ} PAGE_BYTES 0)) (kept_number _ _ 2 c.set_number-2.ensures.others 0 (omega arith) (omega arith) (omega arith) ∙ c.set_number.ensures.number) c.set_number-2.ensures.number c.requires c.set_number.ensures.others c.set_number-2.ensures.others)
