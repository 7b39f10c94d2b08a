-- The groups before a place, and how they stay when only what stands behind them is changed.
use Rattle.std.proofs.Common.{◌≡◌, ℕ, ◌+◌, ◌<◌, List, [], ◌∷◌, ◌++◌, length, take, drop, refl, sym, ◌∙◌, ap, arith, length-drop}
use Rattle.hs_host.specs.Files.{piece}
use Rattle.hs_gate.specs.declared.found.Found.TheVariants.{Group}
use Rattle.hs_gate.specs.Groups.{Groups, ahead, groups_at, spelled}
use Rattle.hs_gate.specs.Scan.{found_in}
use Rattle.hs_gate.proofs.Numbers.{length-spelled}
use Rattle.hs_gate.proofs.Pieces.{piece_same}
use Rattle.hs_gate.proofs.Steps.{first_group, at_group, found_same}

-- these groups before others
abbrev pub prepend : List (List ℕ) → Groups → Groups
prepend payloads groups = record groups { payloads = payloads ++ groups.payloads }

-- behind some of the groups the others stand
pub record Reaches (at : ℕ) (bytes : List ℕ) (before behind : List (List ℕ)) (end : ℕ) : Type 0 where
  pub rest : (groups_at end bytes).payloads ≡ behind
  pub same : (groups_at end bytes).is_broken ≡ (groups_at at bytes).is_broken
  pub within : end < length bytes

pub walk : (before behind : List (List ℕ)) (at end : ℕ) (bytes : List ℕ) → (groups_at at bytes).payloads ≡ before ++ behind → at < length bytes → end ≡ at + length (spelled before) → Reaches at bytes before behind end
walk [] behind at end bytes is within there =
    let here : end ≡ at = omega (arith, there) in
    rw here (record { rest = is; same = refl; within = within })
walk (p ∷ ps) behind at end bytes is within there =
    let f = first_group at bytes p (ps ++ behind) is in
    let next : end ≡ at + (9 + length p) + length (spelled ps) = omega (arith, there, length-spelled p ps) in
    let on = walk ps behind (at + (9 + length p)) end bytes f.rest f.fits next in
    let same : (groups_at at bytes).is_broken ≡ (groups_at (at + (9 + length p)) bytes).is_broken = ap (λ (g : Groups). g.is_broken) f.groups in
    record { rest = on.rest; same = on.same ∙ sym same; within = on.within }

-- where the bytes before the end of these groups are as before, so are the groups
pub carry : (payloads : List (List ℕ)) (at end : ℕ) (new old : List ℕ) → (groups_at at old).payloads ≡ payloads → end ≡ at + length (spelled payloads) → take end new ≡ take end old → end < length new
    → groups_at at new ≡ prepend payloads (groups_at end new)
carry [] at end new old is there same within = let here : end ≡ at = omega (arith, there) in rw here refl
carry (p ∷ ps) at end new old is there same within =
    let f = first_group at old p ps is in
    let next : end ≡ at + (9 + length p) + length (spelled ps) = omega (arith, there, length-spelled p ps) in
    let head : take 9 (drop at new) ≡ take 9 (drop at old) = piece_same at 9 end new old same (omega (arith, next)) in
    let found : found_in (drop at new) ≡ Group (length p) = found_same (drop at new) (drop at old) (length p) f.found head (omega (arith, length-drop at new, next)) in
    let payload : piece (at + 9) (length p) new ≡ p = piece_same (at + 9) (length p) end new old same (omega (arith, next)) ∙ sym f.is in
    at_group at (length p) new found
    ∙ ap (λ (l : List ℕ). ahead l (groups_at (at + (9 + length p)) new)) payload
    ∙ ap (λ (g : Groups). ahead p g) (carry ps (at + (9 + length p)) end new old f.rest next same within)
