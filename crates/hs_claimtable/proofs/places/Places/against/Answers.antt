use Rattle.std.proofs.Common.{◌||◌, not, sym, ap, ap₂, ◌∙◌, Bool}
use Rattle.hs_claims.proofs.Bits.{is_set-none}
use Rattle.hs_claimtable.specs.Marks.{is_marked}
use Rattle.hs_claimtable.specs.Places.{is_held}
use Rattle.hs_claimtable.proofs.Indexed.{any_more}
use Rattle.hs_claimtable.proofs.places.Places.against.Goals as goal

pub loop-want-init : goal.loop-want-init
loop-want-init c = λ s. is_set-none s

pub loop-want-preserved : goal.loop-want-preserved
loop-want-preserved c =
    let x = c.want-item.result in
    λ s. c.either-found.ensures s
    ∙ ap₂ (λ (a b : Bool). a || b) (c.loop-want.invariant s) (c.against.ensures s ∙ ap (λ m. is_marked (not x.exclusive) m s) c.marks-there.ensures)
    ∙ sym (any_more (is_held c.args.self.now s) c.args.wants.now c.loop-want.want-index x c.loop-want-test.true c.want-item.is)
