use Rattle.std.proofs.Common.{◌≡◌, ℕ, List, sym, ◌∙◌, ap, subst}
use Rattle.hs_host.specs.declared.file_kind.FileKind.TheVariants.{Log}
use Rattle.hs_host.specs.Disk.{settled}
use Rattle.hs_host.specs.Files.{of}
use Rattle.hs_host.specs.Moments.{disk_of}
use Rattle.hs_host.specs.Used.{Told, ChangesFile}
use Rattle.hs_gate.specs.declared.gated.Gated.{Gated}
use Rattle.hs_gate.specs.Gated.{IsGated}
use Rattle.hs_gate.specs.Reading.{IsReadTo, IsReadAll}
use Rattle.hs_log.specs.Log.{IsSameLog}
use Rattle.hs_log.proofs.Logs.{as_log, settle_same}
use Rattle.hs_log.proofs.log_reader.LogReader.settle.Goals as goal
use Rattle.hs_log.proofs.log_reader.LogReader.settle.Goals.{After-settle}

stands : (g : _) (c : After-settle g) → Told g.H.Source g.H.Host c.args.host.now → IsGated (g.H.Host.files c.args.host.now) c.gated-gated.result
stands g c told =
    let files = g.H.Host.files c.args.host.now in
    let groups = c.args.self.groups in
    let there : of files groups.file ≡ files.log = ap (of files) c.requires.reading.file_is in
    let read : IsReadTo (of files groups.file) groups = subst (λ (bytes : List ℕ). IsReadTo bytes groups) (sym there) (c.requires.reading.read told) in
    let all : IsReadAll files.log groups = record { none = (c.requires.whole told).0; whole = (c.requires.whole told).1 } in
    c.gated-gated.ensures.whole files read (subst (λ (bytes : List ℕ). IsReadAll bytes groups) (sym there) all)

changes : (g : _) (c : After-settle g) → ChangesFile g.H.Source g.H.Host Log (λ left. disk_of (g.H.Host.history c.args.host.now).now Log ≡ settled (g.H.Host.files c.args.host.now).log → IsSameLog (g.H.Host.files c.args.host.now).log left) c.args.host.now c.settle.new.host
changes g c =
    let kind : c.gated-gated.result.file ≡ Log = ap (λ (x : Gated). x.file) c.gated-gated.ensures.so_far ∙ c.requires.reading.file_is in
    as_log c.gated-gated.result.file _ _ c.settle.ensures.changes
    (λ told. (kind, λ left leaves quiet. settle_same (g.H.Host.history c.args.host.now) (g.H.Host.files c.args.host.now) c.gated-gated.result left kind (stands g c told) leaves quiet))

pub returns-in_err-settle-clause-changes : goal.returns-in_err-settle-clause-changes
returns-in_err-settle-clause-changes g c = changes g (goal.at.returns-in_err-settle-clause-changes g c).After-settle

pub returns-clause-changes : goal.returns-clause-changes
returns-clause-changes g c = changes g (goal.at.returns-clause-changes g c).After-settle
