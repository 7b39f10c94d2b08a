use Rattle.std.proofs.Common.{◌≡◌, ◌≢◌, ◌∷◌, ℕ, List, lit<}
use Rattle.std.proofs.lemmas.Str.Pattern.{strip_prefix_char}
use Rattle.hs_decimal.proofs.PrintedLines.{behind_both}
use Rattle.hs_decimal.proofs.printed.behind_point.Goals as goal

pub returns-in-None : goal.returns-in-None
returns-in-None c =
    let others : (rest : List ℕ) → c.args.line.now ≢ 48 ∷ rest = rw c.in-None.is at (strip_prefix_char 48 c.args.line.now c.strip_prefix.result c.strip_prefix.ensures.cases (lit< tt)) in
    λ rest is. others (46 ∷ rest) is

pub returns-in-Some : goal.returns-in-Some
returns-in-Some c =
    let first : c.args.line.now ≡ 48 ∷ c.in-Some.rest.now = rw c.in-Some.is at (strip_prefix_char 48 c.args.line.now c.strip_prefix.result c.strip_prefix.ensures.cases (lit< tt)) in
    behind_both c.args.line.now c.in-Some.rest.now c.strip_prefix-in-Some.result first
    (strip_prefix_char 46 c.in-Some.rest.now c.strip_prefix-in-Some.result c.strip_prefix-in-Some.ensures.cases (lit< tt))
