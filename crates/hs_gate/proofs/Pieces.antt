-- Pieces of a list, and lists written over.
use Rattle.std.proofs.Common.{◌≡◌, ℕ, ◌+◌, ◌-◌, ◌<◌, ◌≤◌, List, [], ◌∷◌, ◌++◌, length, take, drop, sym, ◌∙◌, ap, arith, append_assoc, length-append, length-take, length-drop}
use Rattle.std.proofs.lemmas.List.{append-nil, take-take, drop-take, take_at, drop_at, drop-drop, drop_all, length-take-le, take_min}
use Rattle.std.proofs.Math.Seq.{take-add}
use borrow.Rule.Slice.PartMut.{put_mid, post_of}
use Rattle.hs_host.specs.Files.{piece, overwrite}

-- a piece is part of what stands before its end
pub piece_of_front : (at count end : ℕ) (bytes : List ℕ) → at + count ≤ end → piece at count bytes ≡ piece at count (take end bytes)
piece_of_front at count end bytes within =
    sym (drop-take at count bytes)
    ∙ ap (λ (l : List ℕ). drop at l) (sym (take-take (at + count) end bytes within))
    ∙ drop-take at count (take end bytes)

-- lists that begin alike have the same pieces there
pub piece_same : (at count end : ℕ) (new old : List ℕ) → take end new ≡ take end old → at + count ≤ end → piece at count new ≡ piece at count old
piece_same at count end new old same within =
    piece_of_front at count end new within
    ∙ ap (λ (l : List ℕ). piece at count l) same
    ∙ sym (piece_of_front at count end old within)

pub take_same : (few many : ℕ) (new old : List ℕ) → take many new ≡ take many old → few ≤ many → take few new ≡ take few old
take_same few many new old same le = sym (take-take few many new le) ∙ ap (λ (l : List ℕ). take few l) same ∙ take-take few many old le

pub length-piece : (at count : ℕ) (bytes : List ℕ) → at + count ≤ length bytes → length (piece at count bytes) ≡ count
length-piece at count bytes within = length-take-le count (drop at bytes) (omega (arith, length-drop at bytes))

-- the front of a list is as long as itself
pub take_own : (n : ℕ) (front all : List ℕ) → front ≡ take n all → front ≡ take (length front) all
take_own n front all is = is ∙ sym (take_min n all) ∙ ap (λ (k : ℕ). take k all) (sym (ap length is ∙ length-take n all))

-- what is left of a piece from a place in it on
pub drop-piece : (k count base : ℕ) (bytes : List ℕ) → k ≤ count → drop k (piece base count bytes) ≡ take (count - k) (drop (base + k) bytes)
drop-piece k count base bytes le =
    let split : k + (count - k) ≡ count = omega arith in
    ap (λ (n : ℕ). drop k (take n (drop base bytes))) (sym split)
    ∙ drop-take k (count - k) (drop base bytes)
    ∙ ap (λ (l : List ℕ). take (count - k) l) (drop-drop k base bytes)

pub length-overwrite : (old : List ℕ) (at : ℕ) (bytes : List ℕ) → at ≤ length old → at + length bytes ≤ length (overwrite old at bytes)
length-overwrite old at bytes le =
    omega (arith, length-append (take at old ++ bytes) (drop (at + length bytes) old), length-append (take at old) bytes, length-take-le at old le)

pub length-overwrite_within : (old : List ℕ) (at : ℕ) (bytes : List ℕ) → at + length bytes ≤ length old → length (overwrite old at bytes) ≡ length old
length-overwrite_within old at bytes le =
    omega (arith, length-append (take at old ++ bytes) (drop (at + length bytes) old), length-append (take at old) bytes, length-take-le at old (omega arith), length-drop (at + length bytes) old)

pub take-overwrite : (old : List ℕ) (at : ℕ) (bytes : List ℕ) → at ≤ length old → take at (overwrite old at bytes) ≡ take at old
take-overwrite old at bytes le =
    ap (λ (l : List ℕ). take at l) (append_assoc (take at old) bytes (drop (at + length bytes) old))
    ∙ take_at (take at old) (bytes ++ drop (at + length bytes) old) at (length-take-le at old le)

pub drop-overwrite : (old : List ℕ) (at : ℕ) (bytes : List ℕ) → at ≤ length old → drop at (overwrite old at bytes) ≡ bytes ++ drop (at + length bytes) old
drop-overwrite old at bytes le =
    ap (λ (l : List ℕ). drop at l) (append_assoc (take at old) bytes (drop (at + length bytes) old))
    ∙ drop_at (take at old) (bytes ++ drop (at + length bytes) old) at (length-take-le at old le)

-- what stands behind the bytes that were written is as before
pub behind-overwrite : (old : List ℕ) (at : ℕ) (bytes : List ℕ) (more : ℕ) → at ≤ length old → drop (at + length bytes + more) (overwrite old at bytes) ≡ drop (at + length bytes + more) old
behind-overwrite old at bytes more le =
    let long : length (take at old ++ bytes) ≡ at + length bytes = length-append (take at old) bytes ∙ ap (λ (n : ℕ). n + length bytes) (length-take-le at old le) in
    sym (drop-drop more (at + length bytes) (overwrite old at bytes))
    ∙ ap (λ (l : List ℕ). drop more l) (drop_at (take at old ++ bytes) (drop (at + length bytes) old) (at + length bytes) long)
    ∙ drop-drop more (at + length bytes) old

pub take_behind-overwrite : (old : List ℕ) (at : ℕ) (bytes : List ℕ) → at ≤ length old → take (at + length bytes) (overwrite old at bytes) ≡ take at old ++ bytes
take_behind-overwrite old at bytes le =
    let long : length (take at old ++ bytes) ≡ at + length bytes = length-append (take at old) bytes ∙ ap (λ (n : ℕ). n + length bytes) (length-take-le at old le) in
    take_at (take at old ++ bytes) (drop (at + length bytes) old) (at + length bytes) long

-- one write behind the other is one write
pub overwrite_on : (old : List ℕ) (at : ℕ) (first more : List ℕ) → at ≤ length old → overwrite (overwrite old at first) (at + length first) more ≡ overwrite old at (first ++ more)
overwrite_on old at first more le =
    let behind : drop (at + length first + length more) (overwrite old at first) ≡ drop (at + length (first ++ more)) old =
    behind-overwrite old at first (length more) le ∙ ap (λ (n : ℕ). drop n old) (omega (arith, length-append first more)) in
    ap (λ (l : List ℕ). l ++ more ++ drop (at + length first + length more) (overwrite old at first)) (take_behind-overwrite old at first le)
    ∙ ap (λ (l : List ℕ). take at old ++ first ++ more ++ l) behind
    ∙ ap (λ (l : List ℕ). l ++ drop (at + length (first ++ more)) old) (append_assoc (take at old) first more)

-- a byte written before other bytes that were written is one write
pub overwrite_before : (old : List ℕ) (at x : ℕ) (bytes : List ℕ) → at < length old → overwrite (overwrite old (at + 1) bytes) at (x ∷ []) ≡ overwrite old at (x ∷ bytes)
overwrite_before old at x bytes lt =
    let le : at + 1 ≤ length old = omega arith in
    let next : at + length (x ∷ bytes) ≡ at + 1 + length bytes = omega arith in
    ap (λ (l : List ℕ). l ++ (x ∷ []) ++ drop (at + 1) (overwrite old (at + 1) bytes)) (sym (take-take at (at + 1) (overwrite old (at + 1) bytes) (omega arith)) ∙ ap (λ (l : List ℕ). take at l) (take-overwrite old (at + 1) bytes le) ∙ take-take at (at + 1) old (omega arith))
    ∙ ap (λ (l : List ℕ). take at old ++ (x ∷ []) ++ l) (drop-overwrite old (at + 1) bytes le)
    ∙ append_assoc (take at old) (x ∷ []) (bytes ++ drop (at + 1 + length bytes) old)
    ∙ ap (λ (n : ℕ). take at old ++ (x ∷ (bytes ++ drop n old))) (sym next)
    ∙ sym (append_assoc (take at old) (x ∷ bytes) (drop (at + length (x ∷ bytes)) old))

-- nothing is left behind what was written, once it is cut there
pub cut-overwrite : (old : List ℕ) (at : ℕ) (bytes : List ℕ) → at ≤ length old → take (at + length bytes) (overwrite old at bytes) ≡ take at old ++ bytes
cut-overwrite = take_behind-overwrite

-- what is left of some bytes at hand from a place on
pub from_window : (buffer bytes seen : List ℕ) (base count at : ℕ) → take count buffer ≡ piece base count bytes → base ≤ at → at ≤ base + count
    → seen ≡ drop (at - base) (take count buffer) → seen ≡ take (length seen) (drop at bytes)
from_window buffer bytes seen base count at shows from to is =
    let k = at - base in
    let there : base + k ≡ at = omega arith in
    take_own (count - k) seen (drop at bytes)
    (is ∙ ap (λ (l : List ℕ). drop k l) shows ∙ drop-piece k count base bytes (omega arith) ∙ ap (λ (n : ℕ). take (count - k) (drop n bytes)) there)

-- two pieces that stand one behind the other
pub piece_add : (at first more : ℕ) (bytes : List ℕ) → piece at (first + more) bytes ≡ piece at first bytes ++ piece (at + first) more bytes
piece_add at first more bytes = take-add first more (drop at bytes) ∙ ap (λ (l : List ℕ). take first (drop at bytes) ++ take more l) (drop-drop first at bytes)

-- a buffer whose front was copied and whose rest was read
pub behind_read : (first front buffer buf bytes : List ℕ) (at : ℕ) → front ≡ first → length first ≤ length buffer → length buf + length first ≡ length buffer
    → first ≡ piece at (length first) bytes → buf ≡ piece (at + length first) (length buf) bytes
    → let xs = front ++ drop (length first) buffer in let new = put_mid (length first) (length xs - length first) xs buf in new ≡ piece at (length new) bytes
behind_read first front buffer buf bytes at copied le long first_is buf_is =
    let n = length first in
    let xs = front ++ drop n buffer in
    let k = length xs - n in
    let long_front : length front ≡ n = ap length copied in
    let long_xs : length xs ≡ length buffer = omega (arith, length-append front (drop n buffer), long_front, length-drop n buffer, le) in
    let behind : drop n xs ≡ drop n buffer = drop_at front (drop n buffer) n long_front in
    let none : post_of n k xs ≡ [] = drop_all k (drop n xs) (omega (arith, length-drop n xs)) in
    let new : put_mid n k xs buf ≡ first ++ buf =
    ap (λ (l : List ℕ). take n xs ++ (buf ++ l)) none ∙ ap (λ (l : List ℕ). take n xs ++ l) (append-nil buf) ∙ ap (λ (l : List ℕ). l ++ buf) (take_at front (drop n buffer) n long_front ∙ copied) in
    let both : first ++ buf ≡ piece at (length (first ++ buf)) bytes =
    ap (λ (l : List ℕ). l ++ buf) first_is ∙ ap (λ (l : List ℕ). piece at n bytes ++ l) buf_is ∙ sym (piece_add at n (length buf) bytes) ∙ ap (λ (m : ℕ). piece at m bytes) (sym (length-append first buf)) in
    new ∙ both ∙ ap (λ (l : List ℕ). piece at (length l) bytes) (sym new)
