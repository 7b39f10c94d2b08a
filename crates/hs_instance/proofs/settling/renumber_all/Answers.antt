use Rattle.std.proofs.Common.{◌≡◌, ◌+◌, ◌^◌, ◌≤◌, length, refl, sym, ◌∙◌, arith}
use Rattle.hs_changes.specs.Changes.{own_row}
use Rattle.hs_instance.specs.Staying.{settled_by}
use Rattle.hs_instance.proofs.Numbered.{settled_all, settled_on}
use Rattle.hs_instance.proofs.settling.renumber_all.Goals as goal

pub loop-change-init : goal.loop-change-init
loop-change-init c = record { inserted = refl; rows = λ db rows count numbered all t. rows.draft t }

pub loop-change-preserved : goal.loop-change-preserved
loop-change-preserved c =
    let i = c.loop-change.change-index in
    let cs = c.args.changes.now in
    let x = c.change-item.result in
    let so_far = c.loop-change.invariant in
    record {
      inserted = omega (arith, so_far.inserted);
      rows = λ db rows count numbered all t.
          let few : db.count + length cs ≤ 2 ^ 48 = (let room = c.requires in omega (arith, room, count)) in
          c.in_ok-renumber.ensures t
          ∙ (λ j. settled_by (own_row (so_far.inserted j + 1)) (sym count j + (so_far.inserted j + 1)) x (λ u. so_far.rows db rows count numbered all u j) t)
          ∙ settled_on db cs few numbered.above all i x c.loop-change-test.true c.change-item.is t;
    }

pub returns : goal.returns
returns c = λ db rows count numbered all. record {
  draft = λ t. c.loop-change.invariant.rows db rows count numbered all t ∙ settled_all db c.args.changes.now c.loop-change.change-index c.loop-change-test.false t;
}
