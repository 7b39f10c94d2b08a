-- What is found in a window, and where the groups end behind one more.
use Rattle.std.proofs.Common.{◌≡◌, ℕ, ◌+◌, ◌-◌, Bool, List, ◌∷◌, length, take, drop, refl, sym, ◌∙◌, ap, arith, length-drop}
use Rattle.hs_host.specs.Files.{piece}
use Rattle.hs_gate.specs.declared.found.Found.{Found}
use Rattle.hs_gate.specs.declared.found.Found.TheVariants.{Group}
use Rattle.hs_gate.specs.declared.window.Window.{Window}
use Rattle.hs_gate.specs.Groups.{Groups, groups_at, spelled}
use Rattle.hs_gate.specs.Scan.{Ending, found_in, ending}
use Rattle.hs_gate.specs.Window.{Shows, Has}
use Rattle.hs_gate.proofs.Numbers.{length-spelled}
use Rattle.hs_gate.proofs.Pieces.{from_window, length-piece}
use Rattle.hs_gate.proofs.Steps.{at_group, at_fits}

-- what is found in the window is what is found in the file
pub seen_found : (window : Window) (bytes seen : List ℕ) (at behind : ℕ) (f : Found) → Shows window bytes → Has window at 0 → seen ≡ drop (at - window.base) (take window.count window.buffer.items)
    → at + (behind + 1) ≡ length bytes → ((all : List ℕ) → length all ≡ behind + 1 → seen ≡ take (length seen) all → f ≡ found_in all) → found_in (drop at bytes) ≡ f
seen_found window bytes seen at behind f shows has is long looked =
    sym (looked (drop at bytes) (omega (arith, length-drop at bytes, long)) (from_window window.buffer.items bytes seen window.base window.count at shows has.from (omega (arith, has.to)) is))

abbrev made : ℕ → ℕ → Bool → Ending
made groups end is_broken = record { groups = groups; end = end; is_broken = is_broken }

same_ending : (n n' p p' : ℕ) (b b' : Bool) → n ≡ n' → p ≡ p' → b ≡ b' → made n p b ≡ made n' p' b'
same_ending n n' p p' b b' nn pp bb = cc

pub goes_on : (groups at size : ℕ) (bytes : List ℕ) (all : Ending) → found_in (drop at bytes) ≡ Group size → ending groups at (groups_at at bytes) ≡ all
    → ending (groups + 1) (at + (9 + size)) (groups_at (at + (9 + size)) bytes) ≡ all
goes_on groups at size bytes all e is =
    let rest = groups_at (at + (9 + size)) bytes in
    let payload = piece (at + 9) size bytes in
    let fits = at_fits at size bytes e in
    let long : length payload ≡ size = length-piece (at + 9) size bytes (omega (arith, fits)) in
    same_ending (groups + 1 + length rest.payloads) (groups + length (payload ∷ rest.payloads)) (at + (9 + size) + length (spelled rest.payloads)) (at + length (spelled (payload ∷ rest.payloads))) rest.is_broken rest.is_broken
    (omega arith) (omega (arith, length-spelled payload rest.payloads, long)) refl
    ∙ ap (λ (g : Groups). ending groups at g) (sym (at_group at size bytes e))
    ∙ is
