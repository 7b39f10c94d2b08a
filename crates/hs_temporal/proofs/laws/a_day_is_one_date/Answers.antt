use Rattle.hs_temporal.proofs.DayLemmas.{civil_parts, civil_day}
use Rattle.hs_temporal.proofs.laws.a_day_is_one_date.Goals as goal

pub returns : goal.returns
returns c = record { date = civil_parts; number = civil_day }
