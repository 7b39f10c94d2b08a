-- What calls do to the files that a point stands for.
use Rattle.std.proofs.Common.{◌≡◌, ◌⊎◌, inl, inr, ℕ, ◌+◌, ◌≤◌, List, [], ◌∷◌, ◌++◌, length, take, drop, refl, sym, ◌∙◌, ap, subst, arith, append_assoc}
use Rattle.std.proofs.Math.Seq.{take-add}
use Rattle.hs_host.specs.declared.file_kind.FileKind.{FileKind}
use Rattle.hs_host.specs.declared.file_kind.FileKind.TheVariants as file
use Rattle.hs_host.specs.Disk.{Pending, Leaves}
use Rattle.hs_host.specs.Files.{Five, of}
use Rattle.hs_host.specs.Moments.{Moment, History, Since, OneFile, IsStill, IsPrinted, IsReading, disk_of}
use Rattle.hs_host.proofs.Changing.{disk_is}
use Rattle.hs_host.proofs.Passing.{since_weaker}
use Rattle.hs_log.specs.declared.log.Log.{Log}
use Rattle.hs_log.specs.Log.{IsLogOf, IsSameLog, IsLog, HasNoneOrAll, texts_of, epoch_in}
use Rattle.hs_log.proofs.Logs.{log_of, log_left, log_on, same_is}
use Rattle.hs_durable.specs.Durable.{Point, StandFor, LeavesNoOther, Means, IsSafe, IsServed, IsCommitting, Survives, and_logged}

-- a log of these texts, as what files stand for
stands_as : (p : Point) (epoch : ℕ) (texts : List (List ℕ)) (bytes : List ℕ) → epoch ≡ p.epoch → texts ≡ p.logged → IsLogOf epoch texts bytes → IsLogOf p.epoch p.logged bytes
stands_as p epoch texts bytes e t log = subst (λ (n : ℕ). IsLogOf n p.logged bytes) e (subst (λ (l : List (List ℕ)). IsLogOf epoch l bytes) t log)

pub served_safe : (p : Point) (held : Log) (h : History) (files : Five (List ℕ)) → IsServed p held h files → IsSafe (λ q. q ≡ p) h.now
served_safe p held h files served left leaves = record {
  point = p;
  stand = record { log = stands_as p (epoch_in held) (texts_of files.log) left.log served.epoch served.logged (same_is (epoch_in held) (texts_of files.log) files.log left.log (log_of h files held served.log) (log_left h files held left.log served.log (leaves file.Log))) };
  is = refl;
}

pub safe_weaker : (M N : Point → Type 0) (m : Moment) → IsSafe M m → ((q : Point) → M q → N q) → IsSafe N m
safe_weaker M N m safe f left leaves = let means = safe left leaves in record { point = means.point; stand = means.stand; is = f means.point means.is }

-- the same disks leave the same files
same_disks : (a m : Moment) → m.disks ≡ a.disks → LeavesNoOther a m
same_disks a m is left leaves file = subst (λ (d : Five Pending). Leaves (of d file) (of left file)) is (leaves file)

pub still_left : (a b : History) → Since (IsStill a.now) a b → Since (LeavesNoOther a.now) a b
still_left a b ab = since_weaker ab (λ m is. same_disks a.now m (ap (λ (k : Moment). k.disks) is))

pub told_left : (a b : History) (bytes : List ℕ) → Since (IsPrinted a.now bytes) a b → Since (LeavesNoOther a.now) a b
told_left a b bytes ab = since_weaker ab (λ m t. same_disks a.now m (ap (λ (k : Moment). k.disks) t.is))

pub read_left : (a b : History) → Since (IsReading a.now) a b → Since (LeavesNoOther a.now) a b
read_left a b ab = since_weaker ab (λ m r. same_disks a.now m (ap (λ (k : Moment). k.disks) r.is))

-- what is safe stays so where no other files are left
pub safe_on : (M : Point → Type 0) (a m : Moment) → LeavesNoOther a m → IsSafe M a → IsSafe M m
safe_on M a m fewer safe left leaves = safe left (fewer left leaves)

pub still_safe : (M : Point → Type 0) (a b : History) → IsSafe M a.now → Since (IsStill a.now) a b → Since (IsSafe M) a b
still_safe M a b safe ab = since_weaker (still_left a b ab) (λ m fewer. safe_on M a.now m fewer safe)

pub told_safe : (M : Point → Type 0) (a b : History) (bytes : List ℕ) → IsSafe M a.now → Since (IsPrinted a.now bytes) a b → Since (IsSafe M) a b
told_safe M a b bytes safe ab = since_weaker (told_left a b bytes ab) (λ m fewer. safe_on M a.now m fewer safe)

pub read_safe : (M : Point → Type 0) (a b : History) → IsSafe M a.now → Since (IsReading a.now) a b → Since (IsSafe M) a b
read_safe M a b safe ab = since_weaker (read_left a b ab) (λ m fewer. safe_on M a.now m fewer safe)

pub served_on : (p : Point) (held : Log) (a b : History) (files : Five (List ℕ)) → IsServed p held a files → b.now.disks ≡ a.now.disks → IsServed p held b files
served_on p held a b files served is = record {
  log = log_on a b files files held is refl served.log;
  epoch = served.epoch;
  logged = served.logged;
}

-- what a crash leaves of the log where it alone was changed
one_left : (Q : List ℕ → Type 0) (before m : Moment) (left : List ℕ) → OneFile before file.Log Q m → Leaves (disk_of m file.Log) left → Q left
one_left Q before m left one leaves = one.each left (subst (λ (p : Pending). Leaves p left) (disk_is before m file.Log one.disk one.is) leaves)

by_either : (p : Point) (held : Log) (files : Five (List ℕ)) (more : List (List ℕ)) (left : Five (List ℕ)) → (epoch_in held) ≡ p.epoch → texts_of files.log ≡ p.logged → HasNoneOrAll (epoch_in held) (texts_of files.log) more left.log → Means (IsCommitting p more) left
by_either p held files more left e t (inl none) = record { point = p; stand = record { log = stands_as p (epoch_in held) (texts_of files.log) left.log e t none }; is = inl refl }
by_either p held files more left e t (inr all) = record {
  point = and_logged more p;
  stand = record { log = stands_as (and_logged more p) (epoch_in held) (texts_of files.log ++ more) left.log e (ap (λ (l : List (List ℕ)). l ++ more) t) all };
  is = inr refl;
}

pub commits_safe : (p : Point) (held : Log) (a b : History) (files : Five (List ℕ)) (more : List (List ℕ)) → IsServed p held a files → Since (OneFile a.now file.Log (HasNoneOrAll (epoch_in held) (texts_of files.log) more)) a b → Since (IsSafe (IsCommitting p more)) a b
commits_safe p held a b files more served ab = since_weaker ab (λ m one left leaves. by_either p held files more left served.epoch served.logged (one_left (HasNoneOrAll (epoch_in held) (texts_of files.log) more) a.now m left.log one (leaves file.Log)))

pub commits_served : (p : Point) (held after : Log) (a b : History) (files new : Five (List ℕ)) (more : List (List ℕ)) → IsServed p held a files → IsLog b new after → epoch_in after ≡ (epoch_in held) → texts_of new.log ≡ texts_of files.log ++ more → IsServed (and_logged more p) after b new
commits_served p held after a b files new more served log epoch texts = record {
  log = log;
  epoch = epoch ∙ served.epoch;
  logged = texts ∙ ap (λ (l : List (List ℕ)). l ++ more) served.logged;
}

pub settled_safe : (p : Point) (held : Log) (a b : History) (files : Five (List ℕ)) → IsServed p held a files → Since (OneFile a.now file.Log (IsSameLog files.log)) a b → Since (IsSafe (λ q. q ≡ p)) a b
settled_safe p held a b files served ab = since_weaker ab (λ m one left leaves.
    let same = one_left (IsSameLog files.log) a.now m left.log one (leaves file.Log) in
    record {
      point = p;
      stand = record { log = stands_as p (epoch_in held) (texts_of files.log) left.log served.epoch served.logged (same_is (epoch_in held) (texts_of files.log) files.log left.log (log_of a files held served.log) same) };
      is = refl;
    })

-- more commits of those that are made
pub counted : (opening p q : Point) (made more : List (List ℕ)) (count least : ℕ) → p ≡ and_logged (take count made) opening → least ≤ count → count + length more ≤ length made → more ≡ take (length more) (drop count made) → IsCommitting p more q → Survives opening made least q
counted opening p q made more count least p_is enough within more_is (inl same) = record { count = count; enough = enough; within = omega (arith, within); is = same ∙ p_is }
counted opening p q made more count least p_is enough within more_is (inr all) = record {
  count = count + length more;
  enough = omega (arith, enough);
  within = within;
  is =
      all ∙ ap (λ (k : Point). and_logged more k) p_is
      ∙ ap (λ (l : List (List ℕ)). record opening { logged = l }) (append_assoc opening.logged (take count made) more)
      ∙ ap (λ (l : List (List ℕ)). record opening { logged = opening.logged ++ l }) (ap (λ (l : List (List ℕ)). take count made ++ l) more_is ∙ sym (take-add count (length more) made));
}
