-- Files that stand for nothing as yet, and what is left of that while one of them is changed.
use Rattle.std.proofs.Common.{◌≡◌, ℕ, ◌<◌, Bool, true, false, ◌&&◌, nat_lt, List, [], ◌∷◌, ◌++◌, length, None, Result, Ok, Err, OnErr, inl, inr, refl, sym, ◌∙◌, ap, subst, arith}
use Rattle.hs_host.specs.declared.file_kind.FileKind.{FileKind}
use Rattle.hs_host.specs.declared.file_kind.FileKind.TheVariants.{Script0, Script1, Log, Data, Backup}
use Rattle.hs_host.specs.Files.{Five, with_}
use Rattle.hs_host.specs.Moments.{Moment, History, Since, IsStill, settled_files}
use Rattle.hs_host.proofs.Passing.{since_weaker, since_now}
use Rattle.hs_gate.specs.Groups.{is_born, eight_bytes}
use Rattle.hs_slots.specs.Points.{IsUnborn, AreLeft, Means, IsSafe, IsCreating}
use Rattle.hs_creation.specs.Creation.{AreSettled, LeavesUnborn, IsPut, MayPut, HaveHeaders, unborn_header}
use Rattle.hs_creation.proofs.Settled.{all_left}

both_no : (a : Bool) → (a && false) ≡ false
both_no true = refl
both_no false = refl

pub zero_unborn : (bytes : List ℕ) → is_born (0 ∷ bytes) ≡ false
zero_unborn bytes = both_no (nat_lt 0 (length (0 ∷ bytes)))

pub header_unborn : is_born unborn_header ≡ false
header_unborn = zero_unborn (1 ∷ eight_bytes 1 ++ 0 ∷ [])

-- a log that isn't born, beside a backup
pub made_unborn : (f : Five (List ℕ)) → is_born f.log ≡ false → 0 < length f.log → 0 < length f.backup → IsUnborn f
made_unborn f not_yet log backup = record {
  unborn = λ born also. let never : true ≡ false = sym born ∙ not_yet in cc;
  backup = λ none. absurd (omega (arith, ap length none, backup));
  log = λ none. absurd (omega (arith, ap length none, log));
}

not_both : (old new left : List ℕ) → IsPut old new left → 0 < length new → left ≡ [] → old ≡ []
not_both old new left put some none = elim (put none) [ inl is ↦ is | inr is ↦ absurd (omega (arith, ap length is, some)) ]

-- the log is put in place while the backup isn't born, and then the backup
pub log_put : (f : Five (List ℕ)) (bytes : List ℕ) → IsUnborn f → is_born f.backup ≡ false → 0 < length bytes → MayPut f Log bytes
log_put f bytes was not_yet some left put = record {
  unborn = λ born also. let never : true ≡ false = sym also ∙ not_yet in cc;
  backup = was.backup;
  log = λ none. was.log (not_both f.log bytes left put some none);
}

pub backup_put : (f : Five (List ℕ)) (bytes : List ℕ) → IsUnborn f → is_born f.log ≡ false → 0 < length f.log → 0 < length bytes → MayPut f Backup bytes
backup_put f bytes was not_yet long some left put = record {
  unborn = λ born also. let never : true ≡ false = sym born ∙ not_yet in cc;
  backup = λ none. was.backup (not_both f.backup bytes left put some none);
  log = λ none. absurd (omega (arith, ap length none, long));
}

-- the backup's birth is taken back
pub unbearing : (f : Five (List ℕ)) (left : List ℕ) → IsUnborn f → is_born f.backup ≡ true → 0 < length left → IsUnborn (with_ f Backup left)
unbearing f left was born some = record {
  unborn = λ log also. was.unborn log born;
  backup = λ none. absurd (omega (arith, ap length none, some));
  log = λ none. let never : true ≡ false = sym born ∙ ap is_born (was.log none).3 in cc;
}

pub born_some : (bytes : List ℕ) → is_born bytes ≡ true → 0 < length bytes
born_some [] born = absurd (let never : false ≡ true = born in cc)
born_some (b ∷ bytes) born = omega arith

pub headers_unborn : (f : Five (List ℕ)) → HaveHeaders f → IsUnborn f
headers_unborn f have = made_unborn f (ap is_born have.log ∙ header_unborn) (omega (arith, ap length have.log)) (omega (arith, ap length have.backup))

-- a file beside them is changed
pub beside : (f : Five (List ℕ)) (file : FileKind) (left : List ℕ) → HaveHeaders f → (file ≡ Log → ⊥) → (file ≡ Backup → ⊥) → HaveHeaders (with_ f file left)
beside f Script0 left have log backup = record { log = have.log; backup = have.backup }
beside f Script1 left have log backup = record { log = have.log; backup = have.backup }
beside f Log left have log backup = absurd (log refl)
beside f Data left have log backup = record { log = have.log; backup = have.backup }
beside f Backup left have log backup = absurd (backup refl)

pub beside_unborn : (f : Five (List ℕ)) (file : FileKind) (left : List ℕ) → HaveHeaders f → (file ≡ Log → ⊥) → (file ≡ Backup → ⊥) → IsUnborn (with_ f file left)
beside_unborn f file left have log backup = headers_unborn (with_ f file left) (beside f file left have log backup)

-- where nothing changes
pub settled_unborn : (m : Moment) (f : Five (List ℕ)) → m.disks ≡ settled_files f → IsUnborn f → LeavesUnborn m
settled_unborn m f is was files leaves = subst IsUnborn (sym (all_left m f files is leaves)) was

pub still_unborn : (a b : History) (f : Five (List ℕ)) → AreSettled a f → IsUnborn f → Since (IsStill a.now) a b → Since LeavesUnborn a b
still_unborn a b f is was ab = since_weaker ab (λ m still. settled_unborn m f (ap (λ (x : Moment). x.disks) still ∙ is) was)

-- so a creation is safe
pub unborn_means : (payloads : List (List ℕ)) (files : Five (List ℕ)) → IsUnborn files → Means (IsCreating payloads) files
unborn_means payloads files unborn = record { what = None; stand = unborn; is = inl refl }

pub unborn_safe : (payloads : List (List ℕ)) {a b : History} → Since LeavesUnborn a b → Since (IsSafe (IsCreating payloads)) a b
unborn_safe payloads ab = since_weaker ab (λ m unborn files leaves. unborn_means payloads files (unborn files leaves))

pub safe_now : {M : Five (List ℕ) → Type 0} {a b : History} → ((files : Five (List ℕ)) → AreLeft a.now files → M files) → Since (λ m. (files : Five (List ℕ)) → AreLeft m files → M files) a b → (files : Five (List ℕ)) → AreLeft b.now files → M files
safe_now {M} {a} {b} before ab = elim (since_now ab) [ inl same ↦ subst (λ (m : Moment). (files : Five (List ℕ)) → AreLeft m files → M files) (sym same) before | inr now ↦ now ]

pub on_err : {T E P : Type 0} (result : Result T E) → P → OnErr result P
on_err (Ok x) p = tt
on_err (Err e) p = p
