-- What is used by one call and then by another.
use Rattle.std.proofs.Common.{◌≡◌, ℕ, List, refl, sym, ◌∙◌, ap, subst, arith}
use Rattle.hs_host.specs.declared.file_kind.FileKind.{FileKind}
use Rattle.hs_host.specs.declared.source.Source as source
use Rattle.hs_host.specs.declared.host.Host as host
use Rattle.hs_host.specs.Files.{Five, of, with_, IsHonest, IsOnly}
use Rattle.hs_host.specs.Disk.{Leaves}
use Rattle.hs_host.specs.Moments.{Moment, History, disk_of}
use Rattle.hs_host.specs.Used.{Told, UsesDisk, UsesOutput, UsesInput, UsesAll, ReadsFiles, Moves, ChangesFile}
use Rattle.hs_host.proofs.Files.{with_of, with_with}
use Rattle.hs_host.proofs.Passing.{since_none, since_join, since_weaker, still_on, reading_on}
use Rattle.hs_host.proofs.Changing.{one_on, one_weaker, still_left}

pub told_on : {H : Type 0} {s : source.Ghosts H} {g : host.Ghosts H} {a b : H} → UsesDisk s g a b → Told s g a → Told s g b
told_on used told = record { tells = told.tells; honest = subst IsHonest (sym used.standing) told.honest }

pub told_back : {H : Type 0} {s : source.Ghosts H} {g : host.Ghosts H} {a b : H} → UsesDisk s g a b → Told s g b → Told s g a
told_back used told = record { tells = told.tells; honest = subst IsHonest used.standing told.honest }

-- nothing was used
pub uses_none : {H : Type 0} {s : source.Ghosts H} {g : host.Ghosts H} (a : H) → UsesDisk s g a a
uses_none a = record { standing = refl; unread = refl; input_faults = refl; written = refl; output_faults = refl; disk_later = omega arith }

pub moves_none : {H : Type 0} {s : source.Ghosts H} {g : host.Ghosts H} (file : FileKind) (P : Moment → Type 0) (a : H) → Moves s g file P a a
moves_none {H} {s} {g} file P a = record { uses = uses_none a; others = λ told. sym (with_of (g.files a) file); moments = λ told. since_none P (g.history a) }

-- what was used by one call and then by the next
pub uses_on : {H : Type 0} {s : source.Ghosts H} {g : host.Ghosts H} {a b c : H} → UsesDisk s g a b → UsesDisk s g b c → UsesDisk s g a c
uses_on ab bc = record {
  standing = bc.standing ∙ ab.standing;
  unread = bc.unread ∙ ab.unread;
  input_faults = bc.input_faults ∙ ab.input_faults;
  written = bc.written ∙ ab.written;
  output_faults = bc.output_faults ∙ ab.output_faults;
  disk_later = omega (arith, ab.disk_later, bc.disk_later);
}

pub output_on : {H : Type 0} {s : source.Ghosts H} {g : host.Ghosts H} {a b c : H} → UsesOutput s g a b → UsesOutput s g b c → UsesOutput s g a c
output_on ab bc = record {
  standing = bc.standing ∙ ab.standing;
  unread = bc.unread ∙ ab.unread;
  input_faults = bc.input_faults ∙ ab.input_faults;
  files = bc.files ∙ ab.files;
  disk_faults = bc.disk_faults ∙ ab.disk_faults;
  output_later = omega (arith, ab.output_later, bc.output_later);
}

pub input_on : {H : Type 0} {s : source.Ghosts H} {g : host.Ghosts H} {a b c : H} → UsesInput s g a b → UsesInput s g b c → UsesInput s g a c
input_on ab bc = record {
  standing = bc.standing ∙ ab.standing;
  written = bc.written ∙ ab.written;
  output_faults = bc.output_faults ∙ ab.output_faults;
  files = bc.files ∙ ab.files;
  disk_faults = bc.disk_faults ∙ ab.disk_faults;
  moments = λ tells. reading_on (ab.moments tells) (bc.moments tells);
  taken = λ tells. bc.taken tells ∙ ab.taken tells;
}

pub all_on : {H : Type 0} {s : source.Ghosts H} {g : host.Ghosts H} {a b c : H} → UsesAll s g a b → UsesAll s g b c → UsesAll s g a c
all_on ab bc = record {
  standing = bc.standing ∙ ab.standing;
  input_later = omega (arith, ab.input_later, bc.input_later);
  output_later = omega (arith, ab.output_later, bc.output_later);
  disk_later = omega (arith, ab.disk_later, bc.disk_later);
}

-- to use one device is to use any
pub disk_all : {H : Type 0} {s : source.Ghosts H} {g : host.Ghosts H} {a b : H} → UsesDisk s g a b → UsesAll s g a b
disk_all ab = record { standing = ab.standing; input_later = omega (arith, ab.input_faults); output_later = omega (arith, ab.output_faults); disk_later = ab.disk_later }

pub output_all : {H : Type 0} {s : source.Ghosts H} {g : host.Ghosts H} {a b : H} → UsesOutput s g a b → UsesAll s g a b
output_all ab = record { standing = ab.standing; input_later = omega (arith, ab.input_faults); output_later = ab.output_later; disk_later = omega (arith, ab.disk_faults) }

pub reads_on : {H : Type 0} {s : source.Ghosts H} {g : host.Ghosts H} {a b c : H} → ReadsFiles s g a b → ReadsFiles s g b c → ReadsFiles s g a c
reads_on ab bc = record {
  uses = uses_on ab.uses bc.uses;
  files = λ told. bc.files (told_on ab.uses told) ∙ ab.files told;
  moments = λ told. still_on (ab.moments told) (bc.moments (told_on ab.uses told));
}

-- a second change of a file takes the place of the first
pub only_on : (a b c : Five (List ℕ)) (file : FileKind) → IsOnly a file b → IsOnly b file c → IsOnly a file c
only_on a b c file ab bc = bc ∙ ap (λ (f : Five (List ℕ)). with_ f file (of c file)) ab ∙ with_with a file (of b file) (of c file)

pub still_only : (old new : Five (List ℕ)) (file : FileKind) → new ≡ old → IsOnly old file new
still_only old new file is = is ∙ sym (with_of old file) ∙ ap (λ (f : Five (List ℕ)). with_ old file (of f file)) (sym is)

pub moves_on : {H : Type 0} {s : source.Ghosts H} {g : host.Ghosts H} {file : FileKind} {P : Moment → Type 0} {a b c : H} → Moves s g file P a b → Moves s g file P b c → Moves s g file P a c
moves_on {H} {s} {g} {file} {P} {a} {b} {c} ab bc = record {
  uses = uses_on ab.uses bc.uses;
  others = λ told. only_on (g.files a) (g.files b) (g.files c) file (ab.others told) (bc.others (told_on ab.uses told));
  moments = λ told. since_join (ab.moments told) (bc.moments (told_on ab.uses told));
}

-- what is so where contracts may speak of the host
pub moves_weaker : {H : Type 0} {s : source.Ghosts H} {g : host.Ghosts H} {file : FileKind} {P R : Moment → Type 0} {a b : H} → Moves s g file P a b → (Told s g a → (m : Moment) → P m → R m) → Moves s g file R a b
moves_weaker ab f = record { uses = ab.uses; others = ab.others; moments = λ told. since_weaker (ab.moments told) (f told) }

pub changes_weaker : {H : Type 0} {s : source.Ghosts H} {g : host.Ghosts H} {file : FileKind} {Q R : List ℕ → Type 0} {a b : H} → ChangesFile s g file Q a b → (Told s g a → (left : List ℕ) → Q left → R left) → ChangesFile s g file R a b
changes_weaker {H} {s} {g} {file} {Q} {R} {a} {b} ab f = moves_weaker ab (λ told m one. one_weaker (g.history a).now m file one (f told))

pub changes_on : {H : Type 0} {s : source.Ghosts H} {g : host.Ghosts H} {file : FileKind} {Q : List ℕ → Type 0} {a b c : H} → ChangesFile s g file Q a b → ChangesFile s g file Q b c → ChangesFile s g file Q a c
changes_on {H} {s} {g} {file} {Q} {a} {b} {c} ab bc = record {
  uses = uses_on ab.uses bc.uses;
  others = λ told. only_on (g.files a) (g.files b) (g.files c) file (ab.others told) (bc.others (told_on ab.uses told));
  moments = λ told. one_on Q (g.history a) (g.history b) (g.history c) file (ab.moments told) (bc.moments (told_on ab.uses told));
}

-- reading changes a file no more than it was
pub reads_only : {H : Type 0} {s : source.Ghosts H} {g : host.Ghosts H} {file : FileKind} {Q : List ℕ → Type 0} {a b : H} → ReadsFiles s g a b
    → (Told s g a → (left : List ℕ) → Leaves (disk_of (g.history a).now file) left → Q left) → ChangesFile s g file Q a b
reads_only {H} {s} {g} {file} {Q} {a} {b} ab f = record {
  uses = ab.uses;
  others = λ told. still_only (g.files a) (g.files b) file (ab.files told);
  moments = λ told. still_left (g.history a) (g.history b) file Q (ab.moments told) (f told);
}
