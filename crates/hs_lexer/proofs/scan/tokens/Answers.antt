use Rattle.std.proofs.Common.{arith}
use Rattle.hs_lexer.specs.Reading.{tokens_of}
use Rattle.hs_lexer.proofs.Rounds.{read_on-nil}
use Rattle.hs_lexer.proofs.scan.tokens.Goals as goal

pub loop-rest-init : goal.loop-rest-init
unfolding tokens_of
loop-rest-init c = rw (c.in_ok-tokens.ensures, c.as_bytes-rest.ensures.value) (record { told = read_on-nil 0 c.args.text.now; place = omega arith })
