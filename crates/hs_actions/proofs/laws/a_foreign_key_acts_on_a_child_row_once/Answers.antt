use Rattle.hs_actions.proofs.Ending.{not_again, acted_then, acted_still}
use Rattle.hs_actions.proofs.laws.a_foreign_key_acts_on_a_child_row_once.Goals as goal

pub returns : goal.returns
returns c = record { not_again = not_again; acted = acted_then; stays = acted_still }
