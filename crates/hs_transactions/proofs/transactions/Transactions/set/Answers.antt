use Rattle.std.proofs.Common.{◌∙◌, refl, sym}
use Rattle.hs_moves.specs.Fits.{changes_of}
use Rattle.hs_snapshots.specs.Stores.{IsStores}
use Rattle.hs_transactions.specs.Parts.{parts_of}
use Rattle.hs_transactions.proofs.Controlled.{set_is}
use Rattle.hs_transactions.proofs.Seats.{here_set}
use Rattle.hs_transactions.proofs.transactions.Transactions.set.Goals as goal

pub take_back-requires : goal.take_back-requires
take_back-requires g c = here_set (parts_of c.args.self.now) _ c.args.session.0 _ c.in_ok-reply.ensures.seats c.requires

pub returns : goal.returns
returns g c = λ w commits before at seated count spans.
    set_is (IsStores g.S.Store.stands) w commits c.args.control.now c.args.session.0 before c.args.self.now.holding
    (parts_of (record c.args.self.now { holding = c.control.new.self })) (parts_of c.take_back.new.self)
    _ c.args.told.now.items _ (record { seats = c.in_ok-reply.ensures.seats; claims = c.in_ok-reply.ensures.claims; waits = c.in_ok-reply.ensures.waits })
    (c.in_ok-take_back.ensures.own w commits (changes_of before before.seated.0) at) (c.in_ok-take_back.ensures.other w commits (changes_of before before.seated.0) at)
    c.in_ok-take_back.ensures.holding (c.in_ok-take_back.ensures.seated ∙ sym seated) (c.in_ok-take_back.ensures.commits ∙ sym count) (c.in_ok-take_back.ensures.spans ∙ sym spans) seated refl refl
    c.in_ok-reply.reply c.in_ok-reply.ensures.answer
    (λ cs x. c.in_ok-tell_control.ensures w commits cs x)
