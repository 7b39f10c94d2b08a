-- That of the files on the disk the log alone is touched while it is opened.
use Rattle.std.proofs.Common.{◌≡◌, ℕ, List, [], inl, inr, sym, ap, subst, refl, ◌∙◌, append-nil, arith}
use Rattle.hs_host.specs.declared.file_kind.FileKind.TheVariants.{Log}
use Rattle.hs_host.specs.declared.source.Source as source
use Rattle.hs_host.specs.declared.host.Host as host
use Rattle.hs_host.specs.Disk.{Pending}
use Rattle.hs_host.specs.Files.{of, with_}
use Rattle.hs_host.specs.Moments.{on_file, asked, Moment, History, Since, OneFile, IsStill, disk_of}
use Rattle.hs_host.specs.Files.{Five}
use Rattle.hs_host.specs.Used.{ReadsFiles, Moves, ChangesFile}
use Rattle.hs_host.proofs.Passing.{since_join, since_none, since_now, since_weaker}
use Rattle.hs_host.proofs.Used.{uses_on, told_on, only_on, still_only, moves_weaker}
use Rattle.hs_log.specs.Log.{IsOpening}
use Rattle.hs_run.specs.Crash.{IsLater}
use Rattle.hs_run.specs.Prompt.{IsUnasked}
use Rattle.hs_program.specs.Crash.{IsPreparing}

not_asked : (taken : List ℕ) → ¬ (on_file ≡ asked taken)
not_asked taken same = absurd (cc)

still_preparing : (before m : Moment) → IsStill before m → IsPreparing before m
still_preparing before m is = record {
  disks = subst (λ (d : Five Pending). d ≡ with_ before.disks Log (of d Log)) (sym (ap (λ (x : Moment). x.disks) is)) refl;
  out = ap (λ (x : Moment). x.out) is;
  unasked = subst (IsUnasked before) (sym is) (record { taken = refl; none = not_asked });
}

one_preparing : {Q : List ℕ → Type 0} (before m : Moment) → OneFile before Log Q m → IsPreparing before m
one_preparing before m one = subst (IsPreparing before) (sym one.is) (record { disks = refl; out = refl; unasked = record { taken = refl; none = not_asked } })

-- one behind the other
preparing_then : (a b m : Moment) → IsPreparing a b → IsPreparing b m → IsPreparing a m
preparing_then a b m first then = record {
  disks = then.disks ∙ ap (λ (d : Five Pending). with_ d Log (disk_of m Log)) first.disks;
  out = then.out ∙ first.out;
  unasked = record { taken = then.unasked.taken ∙ first.unasked.taken; none = then.unasked.none };
}

preparing_on : {a b c : History} → Since (IsPreparing a.now) a b → Since (IsPreparing b.now) b c → Since (IsPreparing a.now) a c
preparing_on {a} {b} {c} ab bc = since_join ab (since_weaker bc (λ m then. elim (since_now ab) [
  | inl is ↦ subst (λ (x : Moment). IsPreparing x m) is then
  | inr first ↦ preparing_then a.now b.now m first then
]))

pub preparing_unasked : {a b : History} → Since (IsPreparing a.now) a b → Since (IsUnasked a.now) a b
preparing_unasked ab = since_weaker ab (λ m is. is.unasked)

-- so the log alone is touched
pub preparing_later : {a b : History} → Since (IsPreparing a.now) a b → Since (IsLater a.now) a b
preparing_later {a} {b} ab = since_weaker ab (λ m is. record { disks = is.disks; more = []; out = is.out ∙ sym (append-nil a.now.out) })

module _ {H : Type 0} {s : source.Ghosts H} {g : host.Ghosts H} where
  -- nothing was read yet
  pub reads_none : (a : H) → ReadsFiles s g a a
  reads_none a = record {
    uses = record { standing = refl; unread = refl; input_faults = refl; written = refl; output_faults = refl; disk_later = omega arith };
    files = λ told. refl;
    moments = λ told. since_none _ (g.history a);
  }

  -- while it is opened or made
  pub opens_alone : {a b : H} → Moves s g Log (IsOpening (g.files a) (g.history a).now) a b → Moves s g Log (IsPreparing (g.history a).now) a b
  opens_alone {a} {b} ab = moves_weaker ab (λ told m is. elim is [ inl still ↦ still_preparing (g.history a).now m still | inr birth ↦ one_preparing (g.history a).now m birth.log ])

  -- while it is read, and while it is changed
  pub reads_alone : {a b : H} → ReadsFiles s g a b → Moves s g Log (IsPreparing (g.history a).now) a b
  reads_alone {a} {b} ab = record {
    uses = ab.uses;
    others = λ told. still_only (g.files a) (g.files b) Log (ab.files told);
    moments = λ told. since_weaker (ab.moments told) (still_preparing (g.history a).now);
  }

  pub changes_alone : {Q : List ℕ → Type 0} {a b : H} → ChangesFile s g Log Q a b → Moves s g Log (IsPreparing (g.history a).now) a b
  changes_alone {Q} {a} {b} ab = moves_weaker ab (λ told m. one_preparing (g.history a).now m)

  pub alone_behind : {a b c : H} → Moves s g Log (IsPreparing (g.history a).now) a b → Moves s g Log (IsPreparing (g.history b).now) b c → Moves s g Log (IsPreparing (g.history a).now) a c
  alone_behind {a} {b} {c} ab bc = record {
    uses = uses_on ab.uses bc.uses;
    others = λ told. only_on (g.files a) (g.files b) (g.files c) Log (ab.others told) (bc.others (told_on ab.uses told));
    moments = λ told. preparing_on (ab.moments told) (bc.moments (told_on ab.uses told));
  }
