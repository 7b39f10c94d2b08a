use Rattle.std.proofs.Common.{◌≡◌, ℕ, List, [], ◌∷◌, true, sym, ◌∙◌, ap, subst, arith, length}
use Rattle.hs_host.specs.declared.file_kind.FileKind.TheVariants.{Backup}
use Rattle.hs_host.specs.Files.{Five}
use Rattle.hs_host.specs.Moments.{Since}
use Rattle.hs_host.specs.Used.{Told}
use Rattle.hs_host.proofs.Passing.{since_join, since_weaker, still_disks}
use Rattle.hs_host.proofs.Used.{told_on}
use Rattle.hs_gate.proofs.Moments.{any_writing}
use Rattle.hs_gate.proofs.Pieces.{length-overwrite}
use Rattle.hs_anew.proofs.Gates.{on_ok}
use Rattle.hs_gate.specs.Groups.{is_born}
use Rattle.hs_slots.specs.Points.{IsUnborn}
use Rattle.hs_creation.specs.Creation.{AreSettled, LeavesUnborn}
use Rattle.hs_creation.proofs.Settled.{disk_at, changed, settled_on}
use Rattle.hs_creation.proofs.Putting.{over_first}
use Rattle.hs_creation.proofs.Unborn.{zero_unborn, unbearing, born_some, still_unborn}
use Rattle.hs_creation.proofs.births.take_birth.Goals as goal
use Rattle.hs_creation.proofs.births.take_birth.Goals.{After-is_born, In_ok-born, After-write_synced}

looked : (g : _) (c : After-is_born g) → Told g.H.Source g.H.Host c.args.host.now → Since LeavesUnborn (g.H.Host.history c.args.host.now) (g.H.Host.history c.is_born.new.host)
looked g c told = still_unborn _ _ (g.H.Host.files c.args.host.now) (c.requires.settled told) (c.requires.unborn told) (c.is_born.ensures.reads.moments told)

-- looking changes nothing
settled_then : (g : _) (c : After-is_born g) → Told g.H.Source g.H.Host c.args.host.now → AreSettled (g.H.Host.history c.is_born.new.host) (g.H.Host.files c.is_born.new.host)
settled_then g c told =
    subst (AreSettled (g.H.Host.history c.is_born.new.host)) (sym (c.is_born.ensures.reads.files told))
    (still_disks (c.is_born.ensures.reads.moments told) ∙ c.requires.settled told)

unborn_then : (g : _) (c : After-is_born g) → Told g.H.Source g.H.Host c.args.host.now → IsUnborn (g.H.Host.files c.is_born.new.host)
unborn_then g c told = subst IsUnborn (sym (c.is_born.ensures.reads.files told)) (c.requires.unborn told)

born_then : (g : _) (c : After-write_synced g) → Told g.H.Source g.H.Host c.args.host.now → is_born (g.H.Host.files c.is_born.new.host).backup ≡ true
born_then g c told = ap (λ (f : Five (List ℕ)). is_born f.backup) (c.is_born.ensures.reads.files told) ∙ sym (c.in_ok-born.ensures.born told) ∙ c.if-not-born.false

wrote : (g : _) (c : After-write_synced g) → Told g.H.Source g.H.Host c.args.host.now → Since LeavesUnborn (g.H.Host.history c.args.host.now) (g.H.Host.history c.write_synced.new.host)
wrote g c told =
    let at = (goal.at.After-write_synced g c).After-is_born in
    let now = g.H.Host.files c.is_born.new.host in
    let settled = settled_then g at told in
    since_join (looked g at told) (since_weaker (c.write_synced.ensures.moves.moments (told_on c.is_born.ensures.reads.uses told)) (λ m writing.
    changed IsUnborn _ m now Backup settled (over_first _ m Backup now.backup 0 (disk_at (g.H.Host.history c.is_born.new.host) now Backup settled) (born_some now.backup (born_then g c told)) writing)
    (λ left some. unbearing now left (unborn_then g at told) (born_then g c told) some)))

pub returns-in_err-born-clause-moments : goal.returns-in_err-born-clause-moments
returns-in_err-born-clause-moments g c = looked g (goal.at.returns-in_err-born-clause-moments g c).After-is_born

pub returns-then-not-born-clause-moments : goal.returns-then-not-born-clause-moments
returns-then-not-born-clause-moments g c = looked g (goal.at.returns-then-not-born-clause-moments g c).After-is_born

pub returns-then-not-born-clause-settled : goal.returns-then-not-born-clause-settled
returns-then-not-born-clause-settled g c = settled_then g (goal.at.returns-then-not-born-clause-settled g c).After-is_born

pub returns-clause-moments : goal.returns-clause-moments
returns-clause-moments g c = wrote g (goal.at.returns-clause-moments g c).After-write_synced

pub returns-clause-unborn : goal.returns-clause-unborn
returns-clause-unborn g c = λ told.
    let at = goal.at.returns-clause-unborn g c in
    let now = g.H.Host.files c.is_born.new.host in
    let later = told_on c.is_born.ensures.reads.uses told in
    on_ok c.write_synced.result (c.write_synced.ensures.ok later) (λ is. subst IsUnborn (sym (c.write_synced.ensures.moves.others later))
    (unbearing now _ (unborn_then g at.After-is_born told) (born_then g at.After-write_synced told) (omega (arith, ap length is, length-overwrite now.backup 0 (0 ∷ []) (omega arith)))))

pub returns-clause-taken : goal.returns-clause-taken
returns-clause-taken g c = λ told. on_ok c.write_synced.result (c.write_synced.ensures.ok (told_on c.is_born.ensures.reads.uses told)) (λ is. ap is_born is ∙ zero_unborn _)

pub returns-clause-settled : goal.returns-clause-settled
returns-clause-settled g c = λ told.
    let at = goal.at.returns-clause-settled g c in
    let later = told_on c.is_born.ensures.reads.uses told in
    on_ok c.write_synced.result (c.write_synced.ensures.settled later) (λ disk. settled_on _ _ (g.H.Host.files c.is_born.new.host) _ Backup (settled_then g at.After-is_born told)
    (since_weaker (c.write_synced.ensures.moves.moments later) (λ m writing. any_writing _ m Backup _ _ _ writing)) (c.write_synced.ensures.moves.others later) disk)
