use Rattle.hs_applicable.proofs.Keeping.{all_sound}
use Rattle.hs_turns.specs.Database.{apply}
use Rattle.hs_instance.proofs.Valid.{valid_unnamed}
use Rattle.hs_instance.proofs.laws.what_is_restored_is_valid.Goals as goal

pub returns : goal.returns
returns c = record {
  valid = λ db changes s may none. valid_unnamed (apply db changes) (all_sound db changes s may) none;
  numbered = λ db changes s may. (all_sound db changes s may).numbered;
}
