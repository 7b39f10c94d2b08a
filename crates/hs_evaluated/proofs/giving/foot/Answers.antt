use Rattle.hs_evaluated.proofs.giving.foot.Goals as goal

pub returns : goal.returns
returns c = λ r tells lists db things rows. c.touched.ensures.exact r tells lists db things rows
