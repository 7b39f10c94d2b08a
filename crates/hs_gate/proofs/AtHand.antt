-- What a reader of groups has at hand.
use Rattle.std.proofs.Common.{◌≡◌, ℕ, ◌+◌, ◌-◌, ◌≤◌, List, [], length, take, drop, refl, ◌∙◌, ap, arith, length-take, length-drop}
use Rattle.std.proofs.lemmas.List.{take-take}
use Rattle.hs_host.specs.Files.{Five, of, piece}
use Rattle.hs_gate.specs.declared.found.Found.TheVariants.{Closed, Group, Broken}
use Rattle.hs_gate.specs.declared.group_reader.GroupReader.{GroupReader}
use Rattle.hs_gate.specs.declared.window.Window.{Window}
use Rattle.hs_gate.specs.Gated.{IsGated}
use Rattle.hs_gate.specs.Groups.{groups_at, groups_of, whole, broken, ahead, spelled, end_of}
use Rattle.hs_gate.specs.Reading.{IsReadTo, IsReadAll, read_so_far}
use Rattle.hs_gate.specs.Scan.{Ending, found_in}
use Rattle.hs_gate.specs.Window.{IsSound, Shows, Has}
use Rattle.hs_gate.proofs.Fronts.{same_gated}
use Rattle.hs_gate.proofs.Pieces.{from_window}
use Rattle.hs_gate.proofs.Steps.{groups-drop, closed_first, broken_first, at_group}

-- bytes of the window are those of the file
pub hand_is : (window : Window) (bytes : List ℕ) (at size : ℕ) → IsSound window → Shows window bytes → Has window at size → take size (drop (at - window.base) (take window.count window.buffer.items)) ≡ piece at size bytes
hand_is window bytes at size sound shows has =
    let seen = drop (at - window.base) (take window.count window.buffer.items) in
    let front : seen ≡ take (length seen) (drop at bytes) = from_window window.buffer.items bytes seen window.base window.count at shows has.from (omega (arith, has.to)) refl in
    let long : size ≤ length seen =
    omega (arith, length-drop (at - window.base) (take window.count window.buffer.items), length-take window.count window.buffer.items, sound.within, has.from, has.to) in
    ap (λ (l : List ℕ). take size l) front ∙ take-take size (length seen) (drop at bytes) long

pub no_more : (at : ℕ) (bytes : List ℕ) → found_in (drop at bytes) ≡ Closed → groups_at at bytes ≡ whole []
no_more at bytes e = groups-drop at bytes ∙ closed_first (drop at bytes) e

pub breaks_off : (at : ℕ) (bytes : List ℕ) → found_in (drop at bytes) ≡ Broken → groups_at at bytes ≡ broken []
breaks_off at bytes e = groups-drop at bytes ∙ broken_first (drop at bytes) e

-- the next group, its payload being at hand
pub one_more : (window : Window) (bytes : List ℕ) (at start size : ℕ) → IsSound window → Shows window bytes → Has window (at + 9) size → start ≡ at + 9 → found_in (drop at bytes) ≡ Group size
    → groups_at at bytes ≡ ahead (take size (drop (start - window.base) (take window.count window.buffer.items))) (groups_at (at + (9 + size)) bytes)
one_more window bytes at start size sound shows has there e =
    let here : take size (drop (start - window.base) (take window.count window.buffer.items)) ≡ piece (at + 9) size bytes =
    ap (λ (n : ℕ). take size (drop (n - window.base) (take window.count window.buffer.items))) there ∙ hand_is window bytes (at + 9) size sound shows has in
    rw here (at_group at size bytes e)

-- a file that was read to its end
pub all_read : (files : Five (List ℕ)) (r : GroupReader) → IsReadTo (of files r.file) r → IsReadAll (of files r.file) r → IsGated files (read_so_far r)
all_read files r read all =
    let bytes = of files r.file in
    let payloads = (groups_of bytes).payloads in
    let left = (groups_at r.end bytes).payloads in
    let count : r.groups + length left ≡ 0 + length payloads = ap (λ (e : Ending). e.groups) read.so_far in
    let end : r.end + length (spelled left) ≡ 10 + length (spelled payloads) = ap (λ (e : Ending). e.end) read.so_far in
    let groups_is : r.groups ≡ length payloads = omega (arith, count, ap (λ (l : List (List ℕ)). length l) all.none) in
    let end_is : r.end ≡ end_of payloads = omega (arith, end, ap (λ (l : List (List ℕ)). length (spelled l)) all.none) in
    record { front = record { opened = read.opened; is = same_gated r.file r.file _ _ _ _ _ _ refl read.epoch groups_is end_is }; whole = all.whole }
