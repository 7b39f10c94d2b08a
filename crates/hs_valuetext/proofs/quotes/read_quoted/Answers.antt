use Rattle.std.proofs.Common.{◌≡◌, ◌≢◌, ◌∷◌, List, ℕ}
use Rattle.std.specs.Prelude.{string_bytes}
use Rattle.std.proofs.lemmas.Str.Pattern.{strip_prefix_char}
use Rattle.hs_valuetext.specs.Quotes.{Closes, IsQuoted}
use Rattle.hs_valuetext.proofs.Bits.{alike_ok}
use Rattle.hs_valuetext.proofs.QuoteLemmas.{opened, inside, unopened}
use Rattle.hs_valuetext.proofs.quotes.read_quoted.Goals as goal

pub returns-in-Some : goal.returns-in-Some
returns-in-Some c =
    let front : c.args.text.now ≡ c.args.quote ∷ c.in-Some.content.now = rw c.in-Some.is at (strip_prefix_char c.args.quote c.args.text.now c.strip_prefix.result c.strip_prefix.ensures.cases c.requires) in
    alike_ok string_bytes (Closes c.args.quote c.in-Some.content.now) (IsQuoted c.args.quote c.args.text.now)
    (λ x rest. opened c.args.quote c.args.text.now c.in-Some.content.now x rest front)
    (λ x rest. inside c.args.quote c.args.text.now c.in-Some.content.now x rest front)
    c.read_doubled.result c.read_doubled.ensures

pub returns-in-None : goal.returns-in-None
returns-in-None c =
    let other : (rest : List ℕ) → c.args.text.now ≢ c.args.quote ∷ rest = rw c.in-None.is at (strip_prefix_char c.args.quote c.args.text.now c.strip_prefix.result c.strip_prefix.ensures.cases c.requires) in
    unopened c.args.quote c.args.text.now other
