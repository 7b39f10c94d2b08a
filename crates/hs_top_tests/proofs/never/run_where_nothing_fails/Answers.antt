use Rattle.std.proofs.Common.{rules}
use Rattle.hs_top_tests.proofs.never.run_where_nothing_fails.Goals as goal

pub returns-clause-damaged : goal.returns-clause-damaged
returns-clause-damaged c = λ words number is. c.run.ensures.complete_damaged (search rules) (search rules) (search rules) words (search rules) number is

pub returns-clause-invalid : goal.returns-clause-invalid
returns-clause-invalid c = λ words name is. c.run.ensures.complete_invalid (search rules) (search rules) (search rules) words (search rules) name is
