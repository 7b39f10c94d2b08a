use Rattle.hs_temporal.proofs.StampLemmas.{date_text-injective, stamp_text-injective}
use Rattle.hs_temporal.proofs.laws.a_text_is_of_one_day.Goals as goal

pub returns : goal.returns
returns c = record { days = date_text-injective; timestamps = stamp_text-injective }
