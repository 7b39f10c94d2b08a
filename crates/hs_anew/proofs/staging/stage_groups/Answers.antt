use Rattle.std.proofs.Common.{◌≡◌, Bool, true, false, MatchBool, ℕ, List, ◌∷◌, ◌++◌, refl, sym, ◌∙◌, ap, arith}
use Rattle.hs_host.proofs.Used.{moves_none, told_on}
use Rattle.hs_gate.specs.Groups.{spelled}
use Rattle.hs_anew.proofs.Staged.{begins_on, groups_nil, groups_more}
use Rattle.hs_anew.proofs.staging.stage_groups.Goals as goal
use Rattle.hs_anew.proofs.staging.stage_groups.Goals.{In_ok-end}

pub groups-init : goal.groups-init
groups-init g c = record {
  changes = moves_none c.args.file _ c.args.host.now;
  faults = refl;
  room = omega arith;
  front = λ told. refl;
  staged = λ told text staged. groups_nil _ _ 10 text _ staged;
}

taken : (more : Bool) (P Q : Type 0) → MatchBool more P Q → more ≡ true → P
taken true P Q m is = m
taken false P Q m is = cc

next : (g : _) (c : In_ok-end g) → g.S.Stand.groups c.groups.store ≡ g.S.Stand.rest c.next_group.new.self ∷ g.S.Stand.groups c.stage_group.new.store
next g c = taken _ _ _ c.in_ok-more.ensures c.if-not-more.false ∙ ap (λ (l : List (List ℕ)). g.S.Stand.rest c.next_group.new.self ∷ l) (sym c.in_ok-end.ensures.others)

pub groups-preserved : goal.groups-preserved
groups-preserved g c = record {
  changes = begins_on c.groups.invariant.front c.groups.invariant.changes c.stage_group.ensures.changes;
  faults = c.in_ok-end.ensures.fails ∙ c.groups.invariant.faults;
  room = c.in_ok-end.ensures.room;
  front = λ told. c.in_ok-end.ensures.front (told_on c.groups.invariant.changes.uses told) ∙ c.groups.invariant.front told;
  staged = λ told text staged.
      let later = told_on c.groups.invariant.changes.uses told in
      let so_far = c.groups.invariant.staged told text staged in
      groups_more _ _ c.in_ok-end.end text _ so_far.0 _ _ _ (c.in_ok-end.ensures.staged later (text ++ spelled so_far.0) so_far.1) so_far.2 (next g c);
}

pub returns-in_err-end-clause-changes : goal.returns-in_err-end-clause-changes
returns-in_err-end-clause-changes g c = begins_on c.groups.invariant.front c.groups.invariant.changes c.stage_group.ensures.changes
