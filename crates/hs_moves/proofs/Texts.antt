-- Texts of commits, and words that are told.
use Rattle.std.proofs.Common.{◌≡◌, ℕ, List, [], ◌∷◌, ◌++◌, length, drop, map, refl, sym, ap, ap₂, ◌∙◌, append_assoc, append-nil}
use Rattle.std.specs.Prelude.{Option}
use Rattle.std.specs.Option.{option_map}
use Rattle.std.proofs.lemmas.List.{map-append}
use Rattle.hs_base.specs.declared.numbers.CommitNo.{CommitNo}
use Rattle.hs_turns.specs.Histories.{Commit}
use Rattle.hs_lines.specs.Told.{words_of}
use Rattle.hs_lines.specs.declared.words.Words.{Words as Said}
use Rattle.hs_lines.specs.declared.words.Words.TheVariants as said
use Rattle.hs_schema.specs.Catalogue.{Text}
use Rattle.hs_seams.specs.World.{World, texts_from, texts_since}
use Rattle.hs_turns.specs.Lines.{Words, RowOf, Replies, told as told_by}
use Rattle.hs_moves.specs.Moves.{Makes}

texts-append : (w : World) (xs ys before : List Commit) → texts_from w before (xs ++ ys) ≡ texts_from w before xs ++ texts_from w (before ++ xs) ys
texts-append w [] ys before = ap (λ (b : List Commit). texts_from w b ys) (sym (append-nil before))
texts-append w (x ∷ xs) ys before =
    ap (λ (ts : List (List ℕ)). w.text before x ∷ ts) (texts-append w xs ys (before ++ x ∷ []) ∙ ap (λ (b : List Commit). texts_from w (before ++ x ∷ []) xs ++ texts_from w b ys) (append_assoc before (x ∷ []) xs))

pub makes_none : (w : World) (commits : List Commit) (made : List (List ℕ)) → Makes w commits commits made made
makes_none w commits made = record { more = []; commits = sym (append-nil commits); texts = sym (append-nil made) }

pub makes_one : (w : World) (commits : List Commit) (k : Commit) (old made : List (List ℕ)) → made ≡ old ++ w.text commits k ∷ [] → Makes w commits (commits ++ k ∷ []) old made
makes_one w commits k old made is = record { more = k ∷ []; commits = refl; texts = is }

pub makes_then : (w : World) (a b c : List Commit) (x y z : List (List ℕ)) → Makes w a b x y → Makes w b c y z → Makes w a c x z
makes_then w a b c x y z f g = record {
  more = f.more ++ g.more;
  commits = g.commits ∙ ap (λ (l : List Commit). l ++ g.more) f.commits ∙ append_assoc a f.more g.more;
  texts = g.texts ∙ ap₂ (λ (l : List (List ℕ)) (bs : List Commit). l ++ texts_from w bs g.more) f.texts f.commits
      ∙ append_assoc x (texts_from w a f.more) (texts_from w (a ++ f.more) g.more) ∙ ap (λ (l : List (List ℕ)). x ++ l) (sym (texts-append w f.more g.more a));
}

-- no text is made where none is
pub makes_at : (w : World) (a b : List Commit) (made : List (List ℕ)) → Makes w a b [] [] → Makes w a b made made
makes_at w a b made f = record { more = f.more; commits = f.commits; texts = sym (append-nil made) ∙ ap (λ (l : List (List ℕ)). made ++ l) f.texts }

drop-here : (xs ys : List Commit) → drop (length xs) (xs ++ ys) ≡ ys
drop-here [] ys = refl
drop-here (x ∷ xs) ys = drop-here xs ys

pub makes_since : (w : World) (a b : List Commit) (old made : List (List ℕ)) → Makes w a b old made → made ≡ old ++ texts_since w a b
makes_since w a b old made f = f.texts ∙ ap (λ (l : List Commit). old ++ texts_from w a l) (sym (ap (λ (l : List Commit). drop (length a) l) f.commits ∙ drop-here a f.more))

-- ---- words

pub said_one : (names : List Text) (old new : List Said) (x : Said) (word : Words) → new ≡ old ++ x ∷ [] → words_of names x ≡ word → map (words_of names) new ≡ map (words_of names) old ++ word ∷ []
said_one names old new x word is e = ap (map (words_of names)) is ∙ map-append (words_of names) old (x ∷ []) ∙ ap (λ (y : Words). map (words_of names) old ++ y ∷ []) e

rows_said : (names : List Text) (rows : List Text) → map (words_of names) (map said.Row rows) ≡ map RowOf rows
rows_said names [] = refl
rows_said names (r ∷ rows) = ap (λ (l : List Words). RowOf r ∷ l) (rows_said names rows)

-- rows and a reply
pub rows_told : (names : List Text) (old new : List Said) (rows : List Text) (reply : Text) (commit : Option CommitNo) → new ≡ old ++ map said.Row rows ++ said.Reply reply commit ∷ []
    → map (words_of names) new ≡ map (words_of names) old ++ told_by rows reply (option_map (λ c. c.0) commit)
rows_told names old new rows reply commit is =
    let last : List Words = Replies reply (option_map (λ c. c.0) commit) ∷ [] in
    ap (map (words_of names)) is
    ∙ map-append (words_of names) (old ++ map said.Row rows) (said.Reply reply commit ∷ [])
    ∙ ap (λ (l : List Words). l ++ last) (map-append (words_of names) old (map said.Row rows))
    ∙ append_assoc (map (words_of names) old) (map (words_of names) (map said.Row rows)) last
    ∙ ap (λ (l : List Words). map (words_of names) old ++ (l ++ last)) (rows_said names rows)
