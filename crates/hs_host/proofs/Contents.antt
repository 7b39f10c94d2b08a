-- That what a read gives of a file is among what a crash may leave of it.
use Rattle.std.proofs.Common.{◌≡◌, ℕ, ◌+◌, ◌-◌, ◌<◌, ◌≤◌, Bool, true, false, MatchBool, List, ◌++◌, length, take, drop, get_or, inl, inr, refl, ◌∙◌, ap, arith, length-append, length-take, length-drop}
use Rattle.std.proofs.lemmas.List.{get_or-take, get_or-drop, get_or_append_left, get_or-append_right}
use Rattle.std.proofs.lemmas.Bool.{cases_lt}
use Rattle.hs_host.specs.Disk.{Pending, MayLeave, Leaves, settled, written_at, cut_to}
use Rattle.hs_host.specs.Files.{overwrite}

-- These bytes are the synced ones but for the calls since.
pub record Has (p : Pending) (bytes : List ℕ) : Type 0 where
  pub may : MayLeave p bytes
  pub whole : p.touched ≡ false → bytes ≡ p.synced

leaves_by : (p : Pending) (touched : Bool) (bytes : List ℕ) → MayLeave p bytes → (touched ≡ false → bytes ≡ p.synced) → MatchBool touched (MayLeave p bytes) (bytes ≡ p.synced)
leaves_by p true bytes may whole = may
leaves_by p false bytes may whole = whole refl

-- so a crash may leave them
pub has_leaves : (p : Pending) (bytes : List ℕ) → Has p bytes → Leaves p bytes
has_leaves p bytes has = leaves_by p p.touched bytes has.may has.whole

pub has_settled : (bytes : List ℕ) → Has (settled bytes) bytes
has_settled bytes = record {
  may = record { long = omega arith; same = λ i below none. refl };
  whole = λ untouched. refl;
}

pub has_cut : (p : Pending) (bytes : List ℕ) (len : ℕ) → Has p bytes → Has (cut_to len p) (take len bytes)
has_cut p bytes len has = record {
  may = record {
    long = omega (arith, length-take len bytes, has.may.long);
    same = λ i below none. get_or-take len bytes i 0 (omega (arith, below)) ∙ has.may.same i (omega (arith, below)) none;
  };
  whole = λ untouched. absurd (cc);
}

length-over : (old : List ℕ) (at : ℕ) (bytes : List ℕ) → length old ≤ length (overwrite old at bytes)
length-over old at bytes =
    omega (arith, length-append (take at old ++ bytes) (drop (at + length bytes) old), length-append (take at old) bytes, length-take at old, length-drop (at + length bytes) old)

-- a byte in front of what was written, and one behind it
over_front : (old : List ℕ) (at : ℕ) (bytes : List ℕ) (i : ℕ) → i < at → i < length old → get_or (overwrite old at bytes) i 0 ≡ get_or old i 0
over_front old at bytes i before within =
    get_or_append_left (take at old ++ bytes) (drop (at + length bytes) old) 0 i (omega (arith, length-append (take at old) bytes, length-take at old, before, within))
    ∙ get_or_append_left (take at old) bytes 0 i (omega (arith, length-take at old, before, within))
    ∙ get_or-take at old i 0 before

over_behind : (old : List ℕ) (at : ℕ) (bytes : List ℕ) (i : ℕ) → at + length bytes ≤ i → i < length old → get_or (overwrite old at bytes) i 0 ≡ get_or old i 0
over_behind old at bytes i behind within =
    let n = at + length bytes in
    get_or-append_right (take at old ++ bytes) (drop n old) n i 0 (omega (arith, length-append (take at old) bytes, length-take at old, behind, within)) behind
    ∙ get_or-drop n old (i - n) 0 ∙ ap (λ (k : ℕ). get_or old k 0) (omega (arith, behind))

pub has_written : (p : Pending) (bytes : List ℕ) (at : ℕ) (over : List ℕ) → Has p bytes → Has (written_at at (length over) p) (overwrite bytes at over)
has_written p bytes at over has = record {
  may = record {
    long = omega (arith, length-over bytes at over, has.may.long);
    same = λ i below none.
        let within : i < length bytes = omega (arith, below, has.may.long) in
        let as_before : get_or (overwrite bytes at over) i 0 ≡ get_or bytes i 0 = elim (cases_lt i at) [
          | inl before ↦ over_front bytes at over i before within
          | inr from ↦ elim (cases_lt i (at + length over)) [
            | inl inside ↦ absurd (none (inl (from, inside)))
            | inr behind ↦ over_behind bytes at over i behind within
          ]
        ] in
        as_before ∙ has.may.same i below (λ covered. none (inr covered));
  };
  whole = λ untouched. absurd (cc);
}

-- a cut or a write that failed changes nothing that a read gives
pub has_failed_cut : (p : Pending) (bytes : List ℕ) (len : ℕ) → Has p bytes → Has (cut_to len p) bytes
has_failed_cut p bytes len has = record {
  may = record { long = omega (arith, has.may.long); same = λ i below none. has.may.same i (omega (arith, below)) none };
  whole = λ untouched. absurd (cc);
}

pub has_failed_write : (p : Pending) (bytes : List ℕ) (at count : ℕ) → Has p bytes → Has (written_at at count p) bytes
has_failed_write p bytes at count has = record {
  may = record { long = has.may.long; same = λ i below none. has.may.same i below (λ covered. none (inr covered)) };
  whole = λ untouched. absurd (cc);
}
