use Rattle.std.proofs.Common.{◌==◌, ◌&&◌, ◌||◌, not, ap, ◌∙◌}
use Rattle.hs_claimtable.specs.Marks.{is_marked}
use Rattle.hs_claimtable.proofs.Kept.{marked_after}
use Rattle.hs_claimtable.proofs.marks.mark.Goals as goal

pub returns : goal.returns
returns g c = marked_after g.K.Ord.cmp g.met.K.Ord.total c.args.places.now c.insert.new.self c.args.place c.args.session.0 (λ only. not only || c.args.exclusive) c.with-marks.result c.in_ok-insert.ensures.updates.0
    (λ only s h. c.with-marks.ensures only s h ∙ ap (λ m. ((not only || c.args.exclusive) && (s == c.args.session.0)) || is_marked only m s) c.marks_at.ensures)
