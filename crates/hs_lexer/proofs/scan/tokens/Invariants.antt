use Rattle.std.proofs.Common.{◌≡◌, ◌+◌, length}
use Rattle.hs_lexer.specs.Reading.{read_on, tokens_of}
use Rattle.hs_lexer.proofs.scan.tokens.Given as goal

-- the tokens so far and those of what is left are those of the text
abbrev pub invariant-loop-rest : goal.invariant-loop-rest
invariant-loop-rest l = record {
  told : read_on l.tokens l.at l.rest ≡ tokens_of l.text;
  place : l.at + length l.rest ≡ length l.text;
}

abbrev pub decreases-loop-rest : goal.decreases-loop-rest
decreases-loop-rest l = length l.rest
