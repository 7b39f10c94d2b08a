-- The texts of commits, as far as a log knows them: whose each is, and where the lines of its changes begin and end.
use Rattle.std.specs.Prelude.{◌≡◌, ℕ, ◌-◌, ◌<◌, ◌^◌, Bool, true, false, not, ◌==◌, ◌&&◌, ◌||◌, nat_eq, nat_lt, List, [], ◌∷◌, ◌++◌, length, take, drop, Option, None, Some, if◌then◌else◌, codes}
use Rattle.std.specs.Char.{is_ascii_digit}
use Rattle.std.specs.Cmp.Lexicographic.{pointwise}
use Rattle.std.specs.Fmt.{decimal}
use Rattle.std.specs.List.{starts_with, ends_with, prefix_len}
use Rattle.std.specs.Option.{option_and_then}
use Rattle.std.specs.Str.Parse.{digits_value}

-- the numbers of sessions
abbrev pub IsSession : ℕ → Type 0
IsSession session = (0 < session) × (session < 2 ^ 32)

-- the line that names a session, and the line that ends a text
abbrev pub mark : ℕ → List ℕ
mark session = codes "/*C" ++ decimal session ++ codes "*/\n"

abbrev pub ending : List ℕ
ending = codes "COMMIT\n"

-- the text before is one of this session
abbrev pub is_of : Option ℕ → ℕ → Bool
is_of None session = false
is_of (Some before) session = before == session

-- what a text begins with: a mark, unless the session stays the same
abbrev pub opening : Option ℕ → ℕ → List ℕ
opening before session = if is_of before session then [] else mark session

-- The text of a commit of a session with these lines of its changes, where `before` is the session of the text before it and
-- none stands before the first.
abbrev pub commit_text : Option ℕ → ℕ → List ℕ → List ℕ
commit_text before session lines = opening before session ++ lines ++ ending

-- whole lines: each ends with a line feed
abbrev pub are_whole : List ℕ → Bool
are_whole lines = (length lines == 0) || ends_with nat_eq lines (10 ∷ [])

-- bytes that begin as a mark does
abbrev pub begin_marked : List ℕ → Bool
begin_marked bytes = starts_with nat_eq bytes (codes "/*C")

-- Lines of changes: whole ones, of which the first doesn't begin as a mark does. So a text says whose it is.
pub record AreLines (lines : List ℕ) : Type 0 where
  pub whole : are_whole lines ≡ true
  pub unmarked : begin_marked lines ≡ false

-- the number that the digits behind the first 3 bytes write
abbrev pub number_in : List ℕ → ℕ
number_in text = let behind = drop 3 text in digits_value 10 (take (prefix_len is_ascii_digit behind) behind)

-- whose a text is: that of its mark, or else that of the text before
abbrev pub session_in : Option ℕ → List ℕ → Option ℕ
session_in before text = if begin_marked text then Some (number_in text) else before

-- what stands between the opening and the ending
abbrev pub lines_in : Option ℕ → ℕ → List ℕ → List ℕ
lines_in before session text =
    let front = length (opening before session) in
    take (length text - front - length ending) (drop front text)

abbrev pub are_lines : List ℕ → Bool
are_lines lines = are_whole lines && not (begin_marked lines)

abbrev pub is_session : ℕ → Bool
is_session session = nat_lt 0 session && nat_lt session (2 ^ 32)

-- these are the parts of a text, byte by byte
abbrev pub if_made_of : Option ℕ → List ℕ → ℕ → List ℕ → Option (ℕ × List ℕ)
if_made_of before text session lines =
    if is_session session && (are_lines lines && pointwise nat_eq text (commit_text before session lines)) then Some (session, lines) else None

-- The session and the lines of which a text is made, behind one of session `before`: none where it is made of none.
unfoldable pub split_of : Option ℕ → List ℕ → Option (ℕ × List ℕ)
split_of before text = option_and_then (λ session. if_made_of before text session (lines_in before session text)) (session_in before text)
