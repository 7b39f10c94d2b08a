-- What a crash may leave of a write and of a cut that failed.
use Rattle.std.proofs.Common.{◌≡◌, ◌⊎◌, inl, inr, ℕ, ◌+◌, ◌<◌, ◌≤◌, min, List, [], ◌∷◌, length, take, Result, Ok, Err, IsErrOf, refl, sym, ◌∙◌, ap, subst, arith, length-take}
use Rattle.std.proofs.lemmas.List.{get_or-take}
use Rattle.hs_host.specs.declared.file_kind.FileKind.{FileKind}
use Rattle.hs_host.specs.declared.host_fault.HostFault.{HostFault}
use Rattle.hs_host.specs.declared.host_fault.HostFault.TheVariants.{Fault, NoMemory}
use Rattle.hs_host.specs.Disk.{Pending, Leaves, IsCovered, settled, written_at, cut_to}
use Rattle.hs_host.specs.Files.{overwrite}
use Rattle.hs_host.specs.Moments.{Moment, History, Next, Passes, IsWritten, IsCut, disk_of}
use Rattle.hs_host.proofs.Changing.{disk_is}
use Rattle.hs_host.proofs.Contents.{Has, has_settled, has_written}

-- the moment after a call that failed
after_fault : {T : Type 0} (P : Moment → Type 0) (a b : History) (result : Result T HostFault) → Passes P result a b → IsErrOf result Fault → P b.now
after_fault P a b (Ok x) passes is = absurd (cc)
after_fault P a b (Err Fault) passes is = passes.now
after_fault P a b (Err NoMemory) passes is = absurd (cc)

-- what was covered by fewer bytes is covered by more
wider : (at few many i : ℕ) → few ≤ many → IsCovered ((at, few) ∷ []) i → IsCovered ((at, many) ∷ []) i
wider at few many i less (inl inside) = inl (inside.0, omega (arith, inside.1, less))
wider at few many i less (inr none) = inr none

part_written : (old bytes : List ℕ) (at count : ℕ) → Leaves (written_at at (length bytes) (settled old)) (overwrite old at (take count bytes))
part_written old bytes at count =
    let has : Has (written_at at (length (take count bytes)) (settled old)) (overwrite old at (take count bytes)) = has_written (settled old) old at (take count bytes) (has_settled old) in
    record {
      long = has.may.long;
      same = λ i below none. has.may.same i below (λ covered. none (wider at (length (take count bytes)) (length bytes) i (omega (arith, length-take count bytes)) covered));
    }

part_cut : (old : List ℕ) (len count : ℕ) → len ≤ count → Leaves (cut_to len (settled old)) (take count old)
part_cut old len count less = record {
  long = omega (arith, length-take count old, less);
  same = λ i below none. get_or-take count old i 0 (omega (arith, below, less));
}

pub write_left : {T : Type 0} (file : FileKind) (at : ℕ) (bytes old : List ℕ) (a b : History) (result : Result T HostFault) → disk_of a.now file ≡ settled old
    → Passes (IsWritten a.now file at (length bytes)) result a b → IsErrOf result Fault → (count : ℕ) → Leaves (disk_of b.now file) (overwrite old at (take count bytes))
write_left file at bytes old a b result quiet passes is count =
    let now : disk_of b.now file ≡ written_at at (length bytes) (settled old) = disk_is a.now b.now file _ (after_fault (IsWritten a.now file at (length bytes)) a b result passes is) ∙ ap (λ (p : Pending). written_at at (length bytes) p) quiet in
    subst (λ (p : Pending). Leaves p (overwrite old at (take count bytes))) (sym now) (part_written old bytes at count)

pub cut_left : {T : Type 0} (file : FileKind) (len : ℕ) (old : List ℕ) (a b : History) (result : Result T HostFault) → disk_of a.now file ≡ settled old
    → Passes (IsCut a.now file len) result a b → IsErrOf result Fault → (count : ℕ) → len ≤ count → Leaves (disk_of b.now file) (take count old)
cut_left file len old a b result quiet passes is count less =
    let now : disk_of b.now file ≡ cut_to len (settled old) = disk_is a.now b.now file _ (after_fault (IsCut a.now file len) a b result passes is) ∙ ap (λ (p : Pending). cut_to len p) quiet in
    subst (λ (p : Pending). Leaves p (take count old)) (sym now) (part_cut old len count less)
