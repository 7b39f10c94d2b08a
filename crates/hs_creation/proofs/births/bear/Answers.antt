use Rattle.std.proofs.Common.{◌≡◌, ℕ, List, sym, ap, subst}
use Rattle.hs_host.specs.declared.file_kind.FileKind.TheVariants.{Log, Backup}
use Rattle.hs_host.specs.Files.{Five}
use Rattle.hs_host.specs.Moments.{Since}
use Rattle.hs_host.specs.Used.{Told}
use Rattle.hs_host.proofs.Passing.{since_join, since_weaker}
use Rattle.hs_host.proofs.Used.{told_on}
use Rattle.hs_gate.specs.Rewriting.{IsGroups}
use Rattle.hs_gate.proofs.Moments.{any_writing}
use Rattle.hs_anew.proofs.Gates.{on_ok}
use Rattle.hs_slots.specs.Points.{IsSafe, IsCreating}
use Rattle.hs_creation.specs.Creation.{IsLaid}
use Rattle.hs_creation.proofs.Settled.{settled_on}
use Rattle.hs_creation.proofs.Born.{IsHalfBorn, first_birth, second_birth, half_born, all_born}
use Rattle.hs_creation.proofs.births.bear.Goals as goal
use Rattle.hs_creation.proofs.births.bear.Goals.{After-write_synced, In_ok-write_synced, After-write_synced-2}

-- what it begins with
record Begins (g : _) (c : After-write_synced g) (payloads : List (List ℕ)) : Type 0 where
  told : Told g.H.Source g.H.Host c.args.host.now
  laid : IsLaid payloads (g.H.Host.history c.args.host.now) (g.H.Host.files c.args.host.now)

first : (g : _) (c : After-write_synced g) (payloads : List (List ℕ)) → Begins g c payloads → Since (IsSafe (IsCreating payloads)) (g.H.Host.history c.args.host.now) (g.H.Host.history c.write_synced.new.host)
first g c payloads b = since_weaker (c.write_synced.ensures.moves.moments b.told) (λ m writing. first_birth payloads _ m _ b.laid writing)

half : (g : _) (c : In_ok-write_synced g) (payloads : List (List ℕ)) → Begins g (goal.at.In_ok-write_synced g c).After-write_synced payloads → IsHalfBorn payloads (g.H.Host.history c.write_synced.new.host) (g.H.Host.files c.write_synced.new.host)
half g c payloads b =
    let old = g.H.Host.files c.args.host.now in
    let now = g.H.Host.files c.write_synced.new.host in
    let only = c.write_synced.ensures.moves.others b.told in
    let first_slot : now.script0 ≡ old.script0 = ap (λ (x : Five (List ℕ)). x.script0) only in
    record {
      files_are = half_born payloads old now b.laid.files_are only (c.in_ok-write_synced.ensures.ok b.told);
      groups = subst (IsGroups 1 payloads) (sym first_slot) b.laid.groups;
      settled = settled_on _ _ old now Backup b.laid.settled (since_weaker (c.write_synced.ensures.moves.moments b.told) (λ m writing. any_writing _ m Backup _ _ _ writing)) only (c.in_ok-write_synced.ensures.settled b.told);
    }

second : (g : _) (c : After-write_synced-2 g) (payloads : List (List ℕ)) → Begins g (goal.at.After-write_synced-2 g c).After-write_synced payloads → Since (IsSafe (IsCreating payloads)) (g.H.Host.history c.args.host.now) (g.H.Host.history c.write_synced-2.new.host)
second g c payloads b =
    let at = goal.at.After-write_synced-2 g c in
    since_join (first g at.After-write_synced payloads b)
    (since_weaker (c.write_synced-2.ensures.moves.moments (told_on c.write_synced.ensures.moves.uses b.told)) (λ m writing. second_birth payloads _ m _ (half g at.In_ok-write_synced payloads b) writing))

pub returns-in_err-write_synced-clause-moments : goal.returns-in_err-write_synced-clause-moments
returns-in_err-write_synced-clause-moments g c = λ told payloads laid. first g (goal.at.returns-in_err-write_synced-clause-moments g c).After-write_synced payloads (record { told = told; laid = laid })

pub returns-clause-moments : goal.returns-clause-moments
returns-clause-moments g c = λ told payloads laid. second g (goal.at.returns-clause-moments g c).After-write_synced-2 payloads (record { told = told; laid = laid })

pub returns-clause-created : goal.returns-clause-created
returns-clause-created g c = λ told payloads laid.
    let at = goal.at.returns-clause-created g c in
    let b : Begins g at.After-write_synced payloads = record { told = told; laid = laid } in
    let later = told_on c.write_synced.ensures.moves.uses told in
    on_ok c.write_synced-2.result (c.write_synced-2.ensures.ok later) (λ is. all_born payloads _ _ (half g at.In_ok-write_synced payloads b).files_are (c.write_synced-2.ensures.moves.others later) is)

pub returns-clause-settled : goal.returns-clause-settled
returns-clause-settled g c = λ told.
    let at = goal.at.returns-clause-settled g c in
    let laid = c.requires.laid told in
    let b : Begins g at.After-write_synced laid.0 = record { told = told; laid = laid.1 } in
    let later = told_on c.write_synced.ensures.moves.uses told in
    on_ok c.write_synced-2.result (c.write_synced-2.ensures.settled later) (λ disk. settled_on _ _ (g.H.Host.files c.write_synced.new.host) _ Log (half g at.In_ok-write_synced laid.0 b).settled
    (since_weaker (c.write_synced-2.ensures.moves.moments later) (λ m writing. any_writing _ m Log _ _ _ writing)) (c.write_synced-2.ensures.moves.others later) disk)
