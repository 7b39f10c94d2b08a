-- Where a byte of the input stands: between two entries, or where in an entry.
use Rattle.std.specs.Prelude.{◌≡◌, ℕ, Bool, true, false, ◌==◌, ◌||◌, ◌&&◌, if◌then◌else◌, List, [], ◌∷◌, Option, None, Some}
pub use Rattle.hs_lexer.specs.Bytes.{is_white}
use Rattle.hs_entries.specs.declared.place.Place.{Place}
use Rattle.hs_entries.specs.declared.place.Place.TheVariants.{Between, DashBetween, SlashBetween, LineBetween, BlockBetween, StarBetween, Plain, Dash, Slash, Text, Quoted, Line, Block, Star}

-- in an entry, outside its texts, quoted names and comments, behind this byte: `'` begins a text, `"` a
-- quoted name, and `-` and `/` may begin a comment
unfoldable pub behind : ℕ → Place
behind b =
    if b == 39 then Text else if b == 34 then Quoted else if b == 45 then Dash else if b == 47 then Slash else Plain

-- the place behind one more byte. A `--` comment ends with a line feed, a `/*` comment with the first `*/`.
unfoldable pub next_place : Place → ℕ → Place
next_place Between b =
    if is_white b then Between else if b == 45 then DashBetween else if b == 47 then SlashBetween else behind b
next_place DashBetween b = if b == 45 then LineBetween else behind b
next_place SlashBetween b = if b == 42 then BlockBetween else behind b
next_place LineBetween b = if b == 10 then Between else LineBetween
next_place BlockBetween b = if b == 42 then StarBetween else BlockBetween
next_place StarBetween b = if b == 47 then Between else if b == 42 then StarBetween else BlockBetween
next_place Plain b = behind b
next_place Dash b = if b == 45 then Line else behind b
next_place Slash b = if b == 42 then Block else behind b
next_place Text b = if b == 39 then Plain else Text
next_place Quoted b = if b == 34 then Plain else Quoted
next_place Line b = if b == 10 then Plain else Line
next_place Block b = if b == 42 then Star else Block
next_place Star b = if b == 47 then Plain else if b == 42 then Star else Block

-- outside every text, quoted name and comment
unfoldable pub is_open : Place → Bool
is_open Between = true
is_open DashBetween = true
is_open SlashBetween = true
is_open Plain = true
is_open Dash = true
is_open Slash = true
is_open _ = false

unfoldable pub is_between : Place → Bool
is_between Between = true
is_between _ = false

-- the entry ends with this byte: a `;` outside every text, quoted name and comment
abbrev pub ends : Place → ℕ → Bool
ends place b = b == 59 && is_open place

-- What was begun there is an entry, even if the input goes no further. In a `--` comment between two
-- entries nothing was; a `/*` that is never closed is no comment, and begins an entry.
unfoldable pub is_entry : Place → Bool
is_entry Between = false
is_entry LineBetween = false
is_entry _ = true

-- the entry ends with this byte, or what was begun is skipped behind it
abbrev pub stops : Place → ℕ → Bool
stops place b = ends place b || is_between (next_place place b)

-- the place to which bytes lead, where no entry ends with them and what was begun isn't skipped
abbrev pub leads : Place → List ℕ → Option Place
leads place [] = Some place
leads place (b ∷ bytes) = if stops place b then None else leads (next_place place b) bytes

-- the place to which bytes lead, where no entry ends with them
abbrev pub passes : Place → List ℕ → Option Place
passes place [] = Some place
passes place (b ∷ bytes) = if ends place b then None else passes (next_place place b) bytes

-- the byte leads from the place to nowhere else
abbrev pub KeepsPlace : Place → ℕ → Type 0
KeepsPlace place b = (stops place b ≡ false) × (next_place place b ≡ place)
