use Rattle.std.proofs.Common.{◌≡◌, ◌-◌, ◌≤◌, length, ◌∙◌, arith}
use Rattle.hs_seated.proofs.Seating.{down_all, down_none, down_on}
use Rattle.hs_seated.proofs.seated.Seated.back.Goals as goal

pub loop-self-init : goal.loop-self-init
loop-self-init c = λ maps seated is. down_none maps c.args.len seated c.args.self.now is

pub loop-self-preserved : goal.loop-self-preserved
loop-self-preserved c =
    let all : c.loop-self.self.steps.len ≡ length c.loop-self.self.steps.items = c.loop-self.self.steps.ok.0 in
    let held : c.len.result ≡ length c.loop-self.self.steps.items = c.len.ensures ∙ all in
    let low : c.args.len ≤ length c.loop-self.self.steps.items - 1 = omega (arith, held, c.loop-self-test.true) in
    λ maps seated is.
    down_on maps c.args.len seated c.loop-self.self c.back_one.new.self (length c.loop-self.self.steps.items - 1) low (λ front at. c.in_ok-back_one.ensures.seated maps front at) (c.loop-self.invariant maps seated is)

pub returns : goal.returns
returns c =
    let all : c.loop-self.self.steps.len ≡ length c.loop-self.self.steps.items = c.loop-self.self.steps.ok.0 in
    let held : c.len.result ≡ length c.loop-self.self.steps.items = c.len.ensures ∙ all in
    let low : length c.loop-self.self.steps.items ≤ c.args.len = omega (arith, held, c.loop-self-test.false) in
    λ maps seated is. down_all maps c.args.len seated c.loop-self.self low (c.loop-self.invariant maps seated is)
