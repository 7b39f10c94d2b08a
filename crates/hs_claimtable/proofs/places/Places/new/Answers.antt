use Rattle.hs_claimtable.proofs.Resources.{none_marked}
use Rattle.hs_claimtable.proofs.places.Places.new.Goals as goal

pub returns : goal.returns
returns c = none_marked (record { catalog = c.none.result; tables = c.new.result; rows = c.new-2.result; keys = c.new-3.result; alloc = c.args.alloc }) c.none.ensures.same c.new.ensures.empty c.new-2.ensures.empty c.new-3.ensures.empty
