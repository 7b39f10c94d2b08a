-- An entry as its parts: bytes, and among them texts, quoted names and comments.
use Rattle.std.specs.Prelude.{ℕ, Bool, true, false, ◌==◌, ◌&&◌, not, List, [], ◌∷◌, ◌++◌}
use Rattle.hs_entries.specs.Place.{is_white}

pub data Part : Type 0 where
  byte : ℕ → Part
  text : List ℕ → Part
  name : List ℕ → Part
  line : List ℕ → Part
  block : List ℕ → Part

-- a text stands in `'`, a quoted name in `"`, and a comment behind `--` up to a line feed, or in `/*` and `*/`
abbrev pub spelled : Part → List ℕ
spelled (byte b) = b ∷ []
spelled (text bytes) = 39 ∷ bytes ++ 39 ∷ []
spelled (name bytes) = 34 ∷ bytes ++ 34 ∷ []
spelled (line bytes) = 45 ∷ 45 ∷ bytes ++ 10 ∷ []
spelled (block bytes) = 47 ∷ 42 ∷ bytes ++ 42 ∷ 47 ∷ []

abbrev pub spelling : List Part → List ℕ
spelling [] = []
spelling (part ∷ parts) = spelled part ++ spelling parts

-- the byte stands nowhere in the bytes
abbrev pub lacks : ℕ → List ℕ → Bool
lacks a [] = true
lacks a (b ∷ bytes) = not (b == a) && lacks a bytes

-- no `*/` stands in the bytes, where a `*` stands before them or doesn't
abbrev pub lacks_close : Bool → List ℕ → Bool
lacks_close star [] = true
lacks_close star (b ∷ bytes) = not (star && b == 47) && lacks_close (b == 42) bytes

-- The two bytes begin no comment.
abbrev pub is_apart : ℕ → ℕ → Bool
is_apart a b = not (a == 45 && b == 45) && not (a == 47 && b == 42)

-- The part may stand behind this byte. A byte is a part by itself if it begins no text, no quoted name and
-- no comment, and isn't the `;` with which the entry ends.
abbrev pub is_part : ℕ → Part → Bool
is_part a (byte b) = is_apart a b && not (b == 39) && not (b == 34) && not (b == 59)
is_part a (text bytes) = lacks 39 bytes
is_part a (name bytes) = lacks 34 bytes
is_part a (line bytes) = is_apart a 45 && lacks 10 bytes
is_part a (block bytes) = lacks_close false bytes

-- the byte of a part that may begin a comment with the next one
abbrev pub last_of : Part → ℕ
last_of (byte b) = b
last_of _ = 0

abbrev pub are_parts : ℕ → List Part → Bool
are_parts a [] = true
are_parts a (part ∷ parts) = is_part a part && are_parts (last_of part) parts

-- an entry begins with neither white space nor a comment
abbrev pub begins_entry : Part → Bool
begins_entry (byte b) = not (is_white b)
begins_entry (text bytes) = true
begins_entry (name bytes) = true
begins_entry (line bytes) = false
begins_entry (block bytes) = false

-- the parts of an entry, of which this is the first
abbrev pub is_entry_of : Part → List Part → Bool
is_entry_of first parts = begins_entry first && are_parts 0 (first ∷ parts)

-- a part without what ends it
abbrev pub unclosed : Part → List ℕ
unclosed (byte b) = b ∷ []
unclosed (text bytes) = 39 ∷ bytes
unclosed (name bytes) = 34 ∷ bytes
unclosed (line bytes) = 45 ∷ 45 ∷ bytes
unclosed (block bytes) = 47 ∷ 42 ∷ bytes

-- the last byte of some parts that may begin a comment with the next one, where this one stands before them
abbrev pub last_of_all : ℕ → List Part → ℕ
last_of_all a [] = a
last_of_all a (part ∷ parts) = last_of_all (last_of part) parts
