-- Rows that a condition lets through, one after another.
use Rattle.std.specs.Prelude.{List}
use Rattle.hs_values.specs.declared.value.Value.{Value}
use Rattle.hs_answer.specs.Places.{value_over}
use Rattle.hs_expression.specs.Expression.{value_of}
use Rattle.hs_expression.specs.Surroundings.{rows_around}
use Rattle.hs_rel.specs.Selection.{Verdict}
use Rattle.hs_stages.specs.Gathering.{judged}
use Rattle.hs_filter.specs.declared.sieve.Sieve.{Sieve}

-- what the condition gives of each row
abbrev pub verdict_of : Sieve → Verdict
verdict_of sieve = value_over (value_of sieve.condition.now) (rows_around sieve.outer.now)

-- one row more
abbrev pub with_row : Sieve → List Value → Sieve
with_row sieve row = record sieve { so_far = judged (verdict_of sieve) sieve.so_far row }
