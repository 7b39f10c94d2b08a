use Rattle.hs_moves.proofs.Behind.{sane_behind, ways_behind}
use Rattle.hs_moves.proofs.laws.waits_stay_in_order.Goals as goal

pub returns-clause-ways : goal.returns-clause-ways
returns-clause-ways c = λ w names side h is_first entry named holds ways open_waits number. ways_behind w names side named h holds ways open_waits is_first entry number

pub returns-clause-open_ : goal.returns-clause-open_
returns-clause-open_ c = λ w names side h is_first entry named holds ways open_waits number a b e. (sane_behind w names side named h holds ways open_waits is_first entry number).open_waits a b e
