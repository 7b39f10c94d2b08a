use Rattle.std.proofs.Common.{false, true}
use Rattle.hs_controls.proofs.Sides.{closed_fits, closed_for, closed_ways, opens_alone}
use Rattle.hs_controls.proofs.laws.closing_rolls_back_the_open_transaction.Goals as goal

pub returns-clause-open_ : goal.returns-clause-open_
returns-clause-open_ g c = λ w names side old s rests at. opens_alone w names side old s rests at

pub returns-clause-rolled_back : goal.returns-clause-rolled_back
returns-clause-rolled_back g c = λ w names side new s e fits. closed_fits w names side s g.S.Store.stands new true e fits

pub returns-clause-unopened : goal.returns-clause-unopened
returns-clause-unopened g c = λ w names side new s e fits. closed_fits w names side s g.S.Store.stands new false e fits

pub returns-clause-ways : goal.returns-clause-ways
returns-clause-ways g c = λ w names side s ways. closed_ways w names side s ways

pub returns-clause-waited_for : goal.returns-clause-waited_for
returns-clause-waited_for g c = λ w names side s open_waits. closed_for w names side s open_waits
