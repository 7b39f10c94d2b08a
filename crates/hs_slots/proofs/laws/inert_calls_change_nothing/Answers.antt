use Rattle.hs_slots.proofs.Parts.{inert, left_fewer, on_disk_fewer}
use Rattle.hs_slots.proofs.laws.inert_calls_change_nothing.Goals as goal

pub returns-clause-fewer : goal.returns-clause-fewer
returns-clause-fewer c = left_fewer

pub returns-clause-kept : goal.returns-clause-kept
returns-clause-kept c = on_disk_fewer

pub returns-clause-one : goal.returns-clause-one
returns-clause-one c = inert
