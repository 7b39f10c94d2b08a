use Rattle.std.proofs.Common.{refl, sym, ◌∙◌}
use Rattle.hs_moves.proofs.Seating.{begun_changes, begun_rests, open_rests}
use Rattle.hs_transactions.specs.Parts.{parts_of}
use Rattle.hs_transactions.proofs.Seats.{here_set}
use Rattle.hs_transactions.proofs.transactions.Transactions.begin.Goals as goal

pub returns-then-is_open-clause-rests : goal.returns-then-is_open-clause-rests
returns-then-is_open-clause-rests g c = λ w k rests. open_rests (parts_of c.args.self.now) (parts_of c.args.self.now) w k c.args.session.0 c.requires c.args.auto rests (sym c.is_open.ensures ∙ c.if-is_open.true)

pub returns-clause-rests : goal.returns-clause-rests
returns-clause-rests g c = λ w k rests.
    begun_rests (parts_of c.args.self.now) _ w k c.args.session.0 c.requires c.args.auto _ (sym c.is_open.ensures ∙ c.if-is_open.false)
    (record { seats = c.in_ok-begin.ensures.seats; claims = c.in_ok-begin.ensures.claims; waits = c.in_ok-begin.ensures.waits }) rests rests.spanned.count_is refl refl refl

pub returns-clause-changes : goal.returns-clause-changes
returns-clause-changes g c = λ w k rests b at.
    begun_changes (parts_of c.args.self.now) (parts_of (record c.args.self.now { holding = c.begin.new.self })) w k c.args.session.0 c.requires c.args.auto _ (sym c.is_open.ensures ∙ c.if-is_open.false)
    (record { seats = c.in_ok-begin.ensures.seats; claims = c.in_ok-begin.ensures.claims; waits = c.in_ok-begin.ensures.waits }) rests.holds rests.spanned.count_is b at

pub returns-clause-here : goal.returns-clause-here
returns-clause-here g c = here_set (parts_of c.args.self.now) _ c.args.session.0 _ c.in_ok-begin.ensures.seats c.requires
