use Rattle.hs_seated.proofs.seated.Seated.copy.Goals as goal

pub returns : goal.returns
returns c = λ maps is. c.over.ensures maps (c.in_ok-copy.ensures.rows maps is.rows)
