use Rattle.std.proofs.Common.{◌∙◌, refl}
use Rattle.std.proofs.lemmas.Bool.{ne_eqb}
use Rattle.hs_moves.specs.Fits.{changes_of}
use Rattle.hs_moves.proofs.Seating.{left_here, left_there}
use Rattle.hs_snapshots.specs.Stores.{IsStores}
use Rattle.hs_transactions.specs.Parts.{parts_of, spans_of}
use Rattle.hs_transactions.proofs.Seats.{here_set, live_same}
use Rattle.hs_transactions.proofs.transactions.Transactions.drop_changes.Goals as goal

pub returns-then-self-session-clause-fits : goal.returns-then-self-session-clause-fits
returns-then-self-session-clause-fits g c = λ w k fits.
    left_there (IsStores g.S.Store.stands) (parts_of c.args.self.now) _ w k c.args.session.0 c.requires fits.rests (record { seats = c.end.ensures.seats; claims = c.end.ensures.claims; waits = c.end.ensures.waits }) refl (ne_eqb c.args.self.now.seated.0 c.args.session.0 c.if-self-session.true) refl refl fits.store

pub returns-then-self-session-clause-here : goal.returns-then-self-session-clause-here
returns-then-self-session-clause-here g c = here_set (parts_of c.args.self.now) _ c.args.session.0 _ c.end.ensures.seats c.requires

pub sit-requires : goal.sit-requires
sit-requires g c = tt

pub returns-clause-fits : goal.returns-clause-fits
returns-clause-fits g c = λ w k fits.
    left_here (IsStores g.S.Store.stands) (parts_of c.args.self.now) _ w k c.args.session.0 c.requires fits.rests (record { seats = c.end-2.ensures.seats; claims = c.end-2.ensures.claims; waits = c.end-2.ensures.waits }) refl c.if-self-session.false refl
    (live_same (spans_of c.args.self.now) _ (c.sit.ensures.starts ∙ c.in_ok-back.ensures.starts))
    (c.sit.ensures.stands w k.commits (c.in_ok-back.ensures.stands w k.commits (changes_of (parts_of c.args.self.now) c.args.self.now.seated.0) fits.store))

pub returns-clause-here : goal.returns-clause-here
returns-clause-here g c = here_set (parts_of c.args.self.now) _ c.args.session.0 _ c.end-2.ensures.seats c.requires
