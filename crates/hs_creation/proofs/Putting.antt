-- Bytes that are put in place of all that a file has.
use Rattle.std.proofs.Common.{◌≡◌, ℕ, ◌<◌, ◌≤◌, min, List, [], ◌∷◌, length, Result, Ok, Err, inl, inr, refl, sym, ◌∙◌, ap, subst, arith}
use Rattle.hs_host.specs.declared.file_kind.FileKind.{FileKind}
use Rattle.hs_host.specs.declared.host_fault.HostFault.{HostFault}
use Rattle.hs_host.specs.Disk.{Pending, Leaves, MayLeave, settled, written_at, cut_to}
use Rattle.hs_host.specs.Files.{overwrite}
use Rattle.hs_host.specs.Moments.{Moment, OneFile, IsWritten, IsCut, IsSyncing, disk_of}
use Rattle.hs_host.proofs.Changing.{disk_is, same_disk}
use Rattle.hs_gate.specs.Crash.{IsWriting, called, done}
use Rattle.hs_gate.proofs.Pieces.{length-overwrite}
use Rattle.hs_creation.specs.Creation.{IsPut}

low_put : (old new left : List ℕ) → min (length old) (length new) ≤ length left → IsPut old new left
low_put [] new left le none = inl refl
low_put (x ∷ old) [] left le none = inr refl
low_put (x ∷ old) (y ∷ new) left le none = absurd (omega (arith, le, ap length none))

pub wrote_put : (before m : Moment) (file : FileKind) (old new : List ℕ) → disk_of before file ≡ settled old → IsWritten before file 0 (length new) m → OneFile before file (IsPut old new) m
wrote_put before m file old new disk is = record {
  disk = written_at 0 (length new) (disk_of before file);
  is = is;
  each = λ left leaves. let may : MayLeave (written_at 0 (length new) (settled old)) left = subst (λ (p : Pending). MayLeave (written_at 0 (length new) p) left) disk leaves in low_put old new left (omega (arith, may.long));
}

-- what is then cut
cut_low : (p : Pending) (old new left : List ℕ) → p ≡ cut_to (length new) (written_at 0 (length new) (settled old)) → Leaves p left → IsPut old new left
cut_low p old new left is leaves =
    let may : MayLeave (cut_to (length new) (written_at 0 (length new) (settled old))) left = subst (λ (d : Pending). Leaves d left) is leaves in
    low_put old new left may.long

pub written_disk : (before m : Moment) (file : FileKind) (old new : List ℕ) → disk_of before file ≡ settled old → IsWritten before file 0 (length new) m → disk_of m file ≡ written_at 0 (length new) (settled old)
written_disk before m file old new disk is = disk_is before m file (written_at 0 (length new) (disk_of before file)) is ∙ ap (λ (p : Pending). written_at 0 (length new) p) disk

pub cut_disk : (before m : Moment) (file : FileKind) (old new : List ℕ) → disk_of before file ≡ written_at 0 (length new) (settled old) → IsCut before file (length new) m → disk_of m file ≡ cut_to (length new) (written_at 0 (length new) (settled old))
cut_disk before m file old new disk is = disk_is before m file (cut_to (length new) (disk_of before file)) is ∙ ap (λ (p : Pending). cut_to (length new) p) disk

pub cut_put : (before m : Moment) (file : FileKind) (old new : List ℕ) → disk_of before file ≡ written_at 0 (length new) (settled old) → IsCut before file (length new) m → OneFile before file (IsPut old new) m
cut_put before m file old new disk is = record {
  disk = cut_to (length new) (disk_of before file);
  is = is;
  each = λ left leaves. cut_low (cut_to (length new) (disk_of before file)) old new left (ap (λ (p : Pending). cut_to (length new) p) disk) leaves;
}

-- and synced, which may fail
pub sync_put : {T : Type 0} (before m : Moment) (file : FileKind) (old new synced : List ℕ) (result : Result T HostFault) → disk_of before file ≡ cut_to (length new) (written_at 0 (length new) (settled old)) → synced ≡ new → IsSyncing before file synced result m
    → OneFile before file (IsPut old new) m
sync_put before m file old new synced (Ok x) disk same is = record { disk = settled synced; is = is; each = λ left leaves none. inr (sym same ∙ sym leaves ∙ none) }
sync_put before m file old new synced (Err e) disk same is = record { disk = disk_of before file; is = same_disk before m file is; each = λ left leaves. cut_low (disk_of before file) old new left disk leaves }

-- a byte that is written over the first one leaves no file empty
pub over_first : (before m : Moment) (file : FileKind) (old : List ℕ) (byte : ℕ) → disk_of before file ≡ settled old → 0 < length old → IsWriting before file 0 (byte ∷ []) old m → OneFile before file (λ left. 0 < length left) m
over_first before m file old byte disk some (called written) = record {
  disk = written_at 0 1 (disk_of before file);
  is = written;
  each = λ left leaves. let may : MayLeave (written_at 0 1 (settled old)) left = subst (λ (p : Pending). MayLeave (written_at 0 1 p) left) disk leaves in omega (arith, may.long, some);
}
over_first before m file old byte disk some (done synced) = record {
  disk = settled (overwrite old 0 (byte ∷ []));
  is = synced;
  each = λ left leaves. omega (arith, ap length leaves, length-overwrite old 0 (byte ∷ []) (omega arith));
}
