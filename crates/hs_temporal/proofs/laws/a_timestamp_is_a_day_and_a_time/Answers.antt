use Rattle.hs_temporal.proofs.StampLemmas.{time_of-sum, sum-time_of}
use Rattle.hs_temporal.proofs.YearLemmas.{date_parts}
use Rattle.hs_temporal.proofs.laws.a_timestamp_is_a_day_and_a_time.Goals as goal

pub returns : goal.returns
returns c = record { whole = sum-time_of; parts = time_of-sum; date = date_parts }
