use Rattle.std.proofs.Common.{◌==◌, ◌&&◌, ◌||◌, ap, ◌∙◌, arith}
use Rattle.hs_holding.specs.Held.{is_open_at}
use Rattle.hs_holding.proofs.Opening.{all_below, more_below, none_below}
use Rattle.hs_holding.proofs.holding.Holding.open_sessions.Goals as goal

pub loop-s-init : goal.loop-s-init
loop-s-init c = λ b at. c.none-found.ensures b ∙ none_below b (is_open_at c.args.self.now b) at.0

pub loop-s-preserved : goal.loop-s-preserved
loop-s-preserved c = λ b at. c.with_open-found.ensures b at ∙ ap (λ x. ((b == c.loop-s.s) && is_open_at c.args.self.now b) || x) (c.loop-s.invariant b at) ∙ more_below c.args.self.now b c.loop-s.s

pub returns : goal.returns
returns c = λ b at. c.loop-s.invariant b at ∙ all_below c.args.self.now b c.loop-s.s at.0 (omega (arith, c.loop-s-test.false, c.len.ensures, c.args.self.now.seats.ok.0))
