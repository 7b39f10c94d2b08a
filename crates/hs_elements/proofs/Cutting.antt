-- Fronts of whole characters.
use Rattle.std.proofs.Common.{◌≡◌, ℕ, ◌-◌, ◌<◌, ◌≤◌, true, false, nat_le, List, [], ◌∷◌, ◌++◌, length, ap, arith, if◌then◌else◌}
use Rattle.std.proofs.lemmas.Str.{chars-nil}
use Rattle.std.specs.Char.{encode_utf8}
use Rattle.std.specs.Str.{chars}
use Rattle.hs_elements.specs.Names.{within}

fits_not : (size room : ℕ) → room < size → nat_le size room ≡ false
fits_not size room h = grind (arith, h)

fits : (size room : ℕ) → size ≤ room → nat_le size room ≡ true
fits size room h = grind (arith, h)

pub no_room : (room c : ℕ) (cs : List ℕ) → room < length (encode_utf8 c) → within room (c ∷ cs) ≡ []
no_room room c cs h = ap (λ b. if b then encode_utf8 c ++ within (room - length (encode_utf8 c)) cs else []) (fits_not (length (encode_utf8 c)) room h)

pub has_room : (room c : ℕ) (cs : List ℕ) → length (encode_utf8 c) ≤ room → within room (c ∷ cs) ≡ encode_utf8 c ++ within (room - length (encode_utf8 c)) cs
has_room room c cs h = ap (λ b. if b then encode_utf8 c ++ within (room - length (encode_utf8 c)) cs else []) (fits (length (encode_utf8 c)) room h)

pub all_taken : (room : ℕ) (text : List ℕ) → length text ≡ 0 → within room (chars text) ≡ []
all_taken room [] h = ap (within room) chars-nil
all_taken room (c ∷ cs) h = absurd (omega (arith, h))
