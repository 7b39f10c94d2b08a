-- Where a text may be cut.
use Rattle.std.proofs.Common.{◌≡◌, ℕ, true, List, arith}
use Rattle.std.specs.Str.{IsCharBoundary}
use Rattle.std.proofs.lemmas.Bool.Decides.{nat_tests}
use Rattle.hs_lexer.specs.Content.{is_cut}

pub boundary : (text : List ℕ) (at : ℕ) → is_cut text at ≡ true → IsCharBoundary text at
boundary text at h = (grind (arith, nat_tests), λ below wide. grind (arith, nat_tests))
