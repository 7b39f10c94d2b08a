-- Bytes put over others.
use Rattle.std.proofs.Common.{◌≡◌, ℕ, ◌+◌, ◌-◌, List, ◌++◌, length, take, drop, refl, ◌∙◌, ap, arith}
use Rattle.std.proofs.lemmas.List.{take_all}
use Rattle.std.proofs.lemmas.Slice.{put_mid-paste}
use borrow.Rule.Slice.PartMut.{put_mid}
use Rattle.hs_host.specs.Files.{overwrite}

-- A part of a list that was written whole.
pub covered : (old over : List ℕ) (at : ℕ) → put_mid at (at + length over - at) old over ≡ overwrite old at over
covered old over at =
    put_mid-paste at (at + length over - at) old over over (length over) refl (omega arith) refl
    ∙ ap (λ (l : List ℕ). take at old ++ l ++ drop (at + length over) old) (take_all (length over) over (omega arith))
