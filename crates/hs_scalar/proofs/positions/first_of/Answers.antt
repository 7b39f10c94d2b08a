use Rattle.hs_scalar.proofs.CharLemmas.{seam_fits, seam_boundary, chars_before_seam}
use Rattle.hs_scalar.proofs.positions.first_of.Goals as goal

pub overflow_sub-text : goal.overflow_sub-text
overflow_sub-text c = seam_fits c.args.text.now c.without_first-rest.result.now c.args.count c.utf8.text c.without_first-rest.utf8 c.without_first-rest.ensures

pub split_at-requires : goal.split_at-requires
split_at-requires c = seam_boundary c.args.text.now c.without_first-rest.result.now c.args.count c.utf8.text c.without_first-rest.utf8 c.without_first-rest.ensures

pub returns : goal.returns
returns c = chars_before_seam c.args.text.now c.without_first-rest.result.now c.split_at.result.0.now c.args.count c.utf8.text c.without_first-rest.utf8 c.without_first-rest.ensures c.split_at.ensures.front
