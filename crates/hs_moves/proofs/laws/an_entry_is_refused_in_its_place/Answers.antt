use Rattle.hs_moves.proofs.Refusals.{refused_auto, refused_none, refused_open}
use Rattle.hs_moves.proofs.laws.an_entry_is_refused_in_its_place.Goals as goal

pub returns-clause-none : goal.returns-clause-none
returns-clause-none g c = λ w m new r old told entry why refuses shut l. refused_none g.S.Store.stands w m new r old told entry why refuses l.final_is l.told_is shut l.ended_is l.fits

pub returns-clause-auto : goal.returns-clause-auto
returns-clause-auto g c = λ w m new r old told entry why refuses o found on l. refused_auto g.S.Store.stands w m new r old told entry why refuses l.final_is l.told_is o found on l.ended_is l.fits

pub returns-clause-open_ : goal.returns-clause-open_
returns-clause-open_ g c = λ w m new r old told entry why refuses o found off number l. refused_open g.S.Store.stands w m new r old told entry why refuses l.final_is l.told_is o found off l.ended_is number l.fits
