use Rattle.hs_slots.proofs.Turning.{turning, turned_on_disk}
use Rattle.hs_slots.proofs.laws.checkpoints_count_by_the_slot.Goals as goal

pub returns-clause-moments : goal.returns-clause-moments
returns-clause-moments c = turning

pub returns-clause-turned : goal.returns-clause-turned
returns-clause-turned c = λ p payloads a b old new on none ab disk groups. turned_on_disk p payloads a b new on none ab disk groups
