use Rattle.std.proofs.Common.{◌≡◌, ◌≤◌, drop}
use Rattle.hs_parser.specs.Parsed.{opens_too_many}
use Rattle.hs_parser.proofs.parse.opens_too_many.Given as goal

abbrev pub invariant-loop-token : goal.invariant-loop-token
invariant-loop-token l =
    (l.before ≤ 1024) × (opens_too_many l.text l.before (drop l.token-index l.tokens) ≡ opens_too_many l.text 0 l.tokens)
