use Rattle.hs_temporal.proofs.DayLemmas.{days_from_civil-first}
use Rattle.hs_temporal.proofs.YearLemmas.{days_from_civil-last, days_alike, moments_alike}
use Rattle.hs_temporal.proofs.laws.lawful_days_are_of_the_years_1_to_9999.Goals as goal

pub returns : goal.returns
returns c = record { first = days_from_civil-first; last = days_from_civil-last; days = days_alike; moments = moments_alike }
