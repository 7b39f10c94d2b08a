-- That of the files on the disk the log alone is touched.
use Rattle.std.proofs.Common.{◌≡◌, ℕ, List, [], ◌++◌, inl, inr, refl, sym, ap, subst, ◌∙◌, append_assoc, append-nil}
use Rattle.hs_host.specs.declared.file_kind.FileKind.TheVariants.{Log}
use Rattle.hs_host.specs.Disk.{Pending}
use Rattle.hs_host.specs.Files.{Five, of, with_}
use Rattle.hs_host.specs.Moments.{Moment, History, Since, OneFile, IsReading, disk_of}
use Rattle.hs_host.proofs.Passing.{since_weaker, since_join, since_now}
use Rattle.hs_run.specs.Crash.{IsLater}
use Rattle.hs_run.specs.Holding.{IsHandedOver}

-- at one moment
alone_same : (before m : Moment) → m.disks ≡ before.disks → (more : List ℕ) → m.out ≡ before.out ++ more → IsLater before m
alone_same before m is more out = record { disks = subst (λ (d : Five Pending). d ≡ with_ before.disks Log (of d Log)) (sym is) refl; more = more; out = out }

alone_one : {Q : List ℕ → Type 0} (before m : Moment) → OneFile before Log Q m → IsLater before m
alone_one before m one = subst (IsLater before) (sym one.is) (record { disks = refl; more = []; out = sym (append-nil before.out) })

-- up to the present one
alone_now : {a b : History} → Since (IsLater a.now) a b → IsLater a.now b.now
alone_now {a} {b} s = elim (since_now s) [ inl is ↦ alone_same a.now b.now (ap (λ (m : Moment). m.disks) is) [] (ap (λ (m : Moment). m.out) is ∙ sym (append-nil a.now.out)) | inr alone ↦ alone ]

pub alone_asking : {a b : History} → Since (IsReading a.now) a b → Since (IsLater a.now) a b
alone_asking {a} {b} ab = since_weaker ab (λ m reading. alone_same a.now m (ap (λ (x : Moment). x.disks) reading.is) [] (ap (λ (x : Moment). x.out) reading.is ∙ sym (append-nil a.now.out)))

pub alone_printing : {a b : History} {bytes : List ℕ} → Since (IsHandedOver a.now bytes) a b → Since (IsLater a.now) a b
alone_printing {a} {b} {bytes} ab = since_weaker ab (λ m printed. alone_same a.now m printed.disks printed.piece printed.out)

pub alone_writing : {a b : History} {Q : List ℕ → Type 0} → Since (OneFile a.now Log Q) a b → Since (IsLater a.now) a b
alone_writing {a} {b} ab = since_weaker ab (λ m. alone_one a.now m)

-- one behind the other
later_on : (a b m : Moment) → IsLater a b → IsLater b m → IsLater a m
later_on a b m first then = record {
  disks = then.disks ∙ ap (λ (d : Five Pending). with_ d Log (disk_of m Log)) first.disks;
  more = first.more ++ then.more;
  out = then.out ∙ ap (λ (l : List ℕ). l ++ then.more) first.out ∙ append_assoc a.out first.more then.more;
}

pub alone_on : {a b c : History} → Since (IsLater a.now) a b → Since (IsLater b.now) b c → Since (IsLater a.now) a c
alone_on {a} {b} {c} ab bc = since_join ab (since_weaker bc (λ m. later_on a.now b.now m (alone_now ab)))
