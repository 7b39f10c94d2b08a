use Rattle.std.proofs.Common.{◌≡◌, ◌⊎◌, ℕ, ◌<◌, ◌≤◌, sym, subst, ◌∙◌, arith}
use Rattle.hs_page.specs.declared.TheConstants.{PAGE_BYTES}
use Rattle.hs_page.specs.Pages.{low, SomeRowAt}
use Rattle.hs_page.proofs.Marking.{page_is}
use Rattle.hs_page.proofs.read.is_page.Goals as goal

pub returns-clause-yes : goal.returns-clause-yes
returns-clause-yes c = λ yes.
    let is : c.least_offset.result ≡ low c.args.bytes.now = omega arith in
    let least : (low c.args.bytes.now ≡ PAGE_BYTES) ⊎ SomeRowAt c.args.bytes.now (low c.args.bytes.now) =
    subst (λ (n : ℕ). (n ≡ PAGE_BYTES) ⊎ SomeRowAt c.args.bytes.now n) is c.least_offset.ensures.least
    in
    page_is c.args.bytes.now (omega arith) (omega arith) (λ i h used. omega (arith, is, c.least_offset.ensures.lower i h used)) least (c.are_rows.ensures.whole yes) (c.are_rows.ensures.apart yes)
