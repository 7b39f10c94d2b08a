-- Files that are written anew, and groups that are added one behind the other.
use Rattle.std.proofs.Common.{◌≡◌, ◌⊎◌, inl, inr, ℕ, ◌+◌, ◌-◌, ◌<◌, ◌≤◌, ◌^◌, Bool, true, false, List, [], ◌∷◌, ◌++◌, length, take, drop, refl, sym, ◌∙◌, ap, arith, append_assoc, length-append, take-append-drop}
use Rattle.std.proofs.lemmas.List.{drop_at, drop-drop}
use Rattle.hs_host.specs.Disk.{Pending}
use Rattle.hs_host.specs.Files.{Five, of, piece, overwrite}
use Rattle.hs_host.specs.Moments.{History, disk_of}
use Rattle.hs_host.specs.Prefixes.{KeepsPrefix, AreBehind}
use Rattle.hs_gate.specs.declared.gated.Gated.{Gated}
use Rattle.hs_gate.specs.Crash.{StandsOnDisk}
use Rattle.hs_gate.specs.Gated.{appended}
use Rattle.hs_gate.specs.Groups.{is_open, groups_at, spelled, end_of, groups_of, eight_bytes, number_of}
use Rattle.hs_gate.specs.Rewriting.{IsReady, IsClosedOrOld, IsRewriting, IsGroups, body_of}
use Rattle.hs_gate.proofs.Fronts.{end_within}
use Rattle.hs_gate.proofs.Numbers.{length-eight, number_of_eight}
use Rattle.hs_gate.proofs.Pieces.{take_same, take-overwrite, length-overwrite, behind-overwrite, overwrite_on}
use Rattle.hs_gate.proofs.Spelling.{spelled-append, spelled_read}
use Rattle.hs_gate.proofs.Steps.{groups-drop}

-- a byte that was written is written over
over_again : (old : List ℕ) (at x : ℕ) (bytes : List ℕ) → at ≤ length old → 0 < length bytes → overwrite (overwrite old at (x ∷ [])) at bytes ≡ overwrite old at bytes
over_again old at x bytes le some =
    let more = length bytes - 1 in
    let there : at + 1 + more ≡ at + length bytes = omega (arith, some) in
    let behind : drop (at + length bytes) (overwrite old at (x ∷ [])) ≡ drop (at + length bytes) old =
    ap (λ (n : ℕ). drop n (overwrite old at (x ∷ []))) (sym there) ∙ behind-overwrite old at (x ∷ []) more le ∙ ap (λ (n : ℕ). drop n old) there in
    ap (λ (l : List ℕ). l ++ bytes ++ drop (at + length bytes) (overwrite old at (x ∷ []))) (take-overwrite old at (x ∷ []) le)
    ∙ ap (λ (l : List ℕ). take at old ++ bytes ++ l) behind

pub added_on : (bytes : List ℕ) (end : ℕ) (first more : List (List ℕ)) → end ≤ length bytes → appended (appended bytes end first) (end + length (spelled first)) more ≡ appended bytes end (first ++ more)
added_on bytes end first more le =
    let n = length (spelled first) in
    let behind = spelled more ++ 0 ∷ [] in
    ap (λ (l : List ℕ). overwrite l (end + n) behind) (sym (overwrite_on bytes end (spelled first) (0 ∷ []) le))
    ∙ over_again (overwrite bytes end (spelled first)) (end + n) 0 behind (length-overwrite bytes end (spelled first) le) (omega (arith, length-append (spelled more) (0 ∷ [])))
    ∙ overwrite_on bytes end (spelled first) behind le
    ∙ ap (λ (l : List ℕ). overwrite bytes end l) (sym (append_assoc (spelled first) (spelled more) (0 ∷ [])) ∙ ap (λ (l : List ℕ). l ++ 0 ∷ []) (sym (spelled-append first more)))

-- what stands behind the gate is read
body_read : (epoch : ℕ) (payloads : List (List ℕ)) (left : List ℕ) → epoch < 2 ^ 64 → length (spelled payloads) < 2 ^ 64 → piece 2 (length (body_of epoch payloads)) left ≡ body_of epoch payloads → is_open left ≡ true
    → IsGroups epoch payloads left
body_read epoch payloads left small few is opened =
    let body = body_of epoch payloads in
    let more = drop (length body) (drop 2 left) in
    let tail : drop 2 left ≡ eight_bytes epoch ++ (spelled payloads ++ 0 ∷ more) =
    sym (take-append-drop (length body) (drop 2 left)) ∙ ap (λ (l : List ℕ). l ++ more) is
    ∙ append_assoc (eight_bytes epoch ++ spelled payloads) (0 ∷ []) more ∙ append_assoc (eight_bytes epoch) (spelled payloads) (0 ∷ more) in
    let ten : drop 10 left ≡ spelled payloads ++ 0 ∷ more =
    sym (drop-drop 8 2 left) ∙ ap (λ (l : List ℕ). drop 8 l) tail ∙ drop_at (eight_bytes epoch) (spelled payloads ++ 0 ∷ more) 8 (length-eight epoch) in
    record {
      opened = opened;
      epoch_is = ap number_of tail ∙ number_of_eight epoch (spelled payloads ++ 0 ∷ more) small;
      groups = groups-drop 10 left ∙ ap (λ (l : List ℕ). groups_at 0 l) ten ∙ spelled_read payloads more few;
    }

by_open : (b : Bool) (old left : List ℕ) (Q : Type 0) → is_open left ≡ b → (is_open left ≡ true → Q) → IsClosedOrOld old left ⊎ Q
by_open true old left Q is q = inr (q is)
by_open false old left Q is q = inl (inl is)

by_body : (old left : List ℕ) (epoch : ℕ) (payloads : List (List ℕ)) → epoch < 2 ^ 64 → length (spelled payloads) < 2 ^ 64 → IsClosedOrOld old left ⊎ (piece 2 (length (body_of epoch payloads)) left ≡ body_of epoch payloads)
    → IsClosedOrOld old left ⊎ IsGroups epoch payloads left
by_body old left epoch payloads small few (inl closed) = inl closed
by_body old left epoch payloads small few (inr all) = by_open (is_open left) old left (IsGroups epoch payloads left) refl (λ opened. body_read epoch payloads left small few all opened)

pub rewritten : (old left : List ℕ) (epoch : ℕ) (payloads : List (List ℕ)) → epoch < 2 ^ 64 → length (spelled payloads) < 2 ^ 64 → IsRewriting old (body_of epoch payloads) left → IsClosedOrOld old left ⊎ IsGroups epoch payloads left
rewritten old left epoch payloads small few writes = by_body old left epoch payloads small few writes.behind

-- fewer bytes are kept where more are
behind_less : (ranges : List (ℕ × ℕ)) (m n : ℕ) → m ≤ n → AreBehind n ranges → AreBehind m ranges
behind_less [] m n le behind = tt
behind_less (r ∷ rs) m n le behind = (omega (arith, le, behind.0), behind_less rs m n le behind.1)

keeps_less : (p : Pending) (m n : ℕ) (bytes : List ℕ) → m ≤ n → KeepsPrefix p n bytes → KeepsPrefix p m bytes
keeps_less p m n bytes le keeps = record {
  long = omega (arith, le, keeps.long);
  low = omega (arith, le, keeps.low);
  same = take_same m n p.synced bytes keeps.same le;
  behind = behind_less p.ranges m n le keeps.behind;
}

-- a file that stands on the disk can be written anew
pub stands_ready : (h : History) (files : Five (List ℕ)) (gated : Gated) → StandsOnDisk h files gated → IsReady (disk_of h.now gated.file) (of files gated.file)
stands_ready h files gated on =
    let p = disk_of h.now gated.file in
    let bytes = of files gated.file in
    let ten : gated.end ≡ end_of (groups_of bytes).payloads = ap (λ (g : Gated). g.end) on.stands.front.is in
    let within = end_within files gated on.stands.front in
    record {
      gate = record { within = omega (arith, ten, within); keeps = keeps_less p 2 (gated.end + 1) bytes (omega (arith, ten)) on.calm };
      header = λ opened. record { within = omega (arith, ten, within); keeps = keeps_less p 11 (gated.end + 1) bytes (omega (arith, ten)) on.calm };
    }
