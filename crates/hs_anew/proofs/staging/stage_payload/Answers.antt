use Rattle.std.proofs.Common.{◌≡◌, ℕ, List, ◌++◌, refl, sym, ◌∙◌, ap, arith}
use Rattle.hs_host.proofs.Used.{moves_none, told_on}
use Rattle.hs_anew.proofs.Staged.{begins_on, staged_nil, staged_more}
use Rattle.hs_anew.proofs.staging.stage_payload.Goals as goal
use Rattle.hs_anew.proofs.staging.stage_payload.Goals.{In_ok-end}

pub pieces-init : goal.pieces-init
pieces-init g c = record {
  changes = moves_none c.args.file _ c.args.host.now;
  faults = refl;
  room = c.requires.room;
  after = omega arith;
  others = refl;
  front = λ told. refl;
  staged = λ told text staged. staged_nil _ _ c.args.first text _ staged;
}

gives : (g : _) (c : In_ok-end g) → g.S.Stand.rest c.pieces.store ≡ c.as_slice.result.now ++ g.S.Stand.rest c.next_piece.new.self
gives g c = let same : c.as_slice.result.now ≡ c.next_piece.new.piece.items = cc in c.in_ok-next_piece.ensures.gives ∙ ap (λ (l : List ℕ). l ++ g.S.Stand.rest c.next_piece.new.self) (sym same)

pub pieces-preserved : goal.pieces-preserved
pieces-preserved g c = record {
  changes = begins_on c.pieces.invariant.front c.pieces.invariant.changes c.stage.ensures.changes;
  faults = c.in_ok-end.ensures.fails ∙ c.pieces.invariant.faults;
  room = c.in_ok-end.ensures.room;
  after = omega (arith, c.pieces.invariant.after, c.in_ok-end.ensures.end);
  others = c.in_ok-next_piece.ensures.others ∙ c.pieces.invariant.others;
  front = λ told. c.in_ok-end.ensures.front (told_on c.pieces.invariant.changes.uses told) ∙ c.pieces.invariant.front told;
  staged = λ told text staged.
      let later = told_on c.pieces.invariant.changes.uses told in
      let so_far = c.pieces.invariant.staged told text staged in
      staged_more _ _ c.in_ok-end.end text so_far.0 c.as_slice.result.now _ _ _ (c.in_ok-end.ensures.staged later (text ++ so_far.0) so_far.1) so_far.2 (gives g c);
}

pub returns-in_err-end-clause-changes : goal.returns-in_err-end-clause-changes
returns-in_err-end-clause-changes g c = begins_on c.pieces.invariant.front c.pieces.invariant.changes c.stage.ensures.changes
