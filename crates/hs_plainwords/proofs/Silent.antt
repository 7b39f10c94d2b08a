-- Texts and lines that tell of no commit, and those that tell of one.
use Rattle.std.proofs.Common.{◌≡◌, inl, inr, ℕ, ◌<◌, ◌≤◌, ◌^◌, ◌==◌, ◌&&◌, ◌||◌, Bool, true, false, List, [], ◌∷◌, ◌++◌, map, length, codes, refl, sym, ap, subst, ◌∙◌, arith, append_assoc, append-nil}
use Rattle.std.specs.Prelude.{None, Some}
use Rattle.std.specs.Fmt.{decimal}
use Rattle.std.specs.Str.Parse.{digits_value}
use Rattle.std.proofs.lemmas.Bool.{and_from, and_parts, both_ways, cases_lt}
use Rattle.std.proofs.lemmas.Fmt.{decimal_is_IsNumeral_wide}
use Rattle.std.specs.List.{list_all}
use Rattle.hs_entries.specs.Entry.{is_in_word, is_letter, is_session}
use Rattle.hs_entries.specs.Parts.{lacks}
use Rattle.hs_machine.specs.Acknowledged.{is_digit, last_word}
use Rattle.hs_machine.specs.Lines.{committed_text}
use Rattle.hs_machine.proofs.Acknowledged.{all_lack, decimal_lacks, lacks-append, last_alone}
use Rattle.hs_schema.specs.Catalogue.{Text}
use Rattle.hs_turns.specs.Each.{Each}
use Rattle.hs_turns.specs.Lines.{Words, RowOf, Replies, First, WaitsFor, OfItem, EndOf, is_reply, listed, replies_to, words_text}
use Rattle.hs_plainwords.specs.Answers.{answers_to, begins_with, is_final}
use Rattle.hs_plainwords.specs.Plain.{IsPlainText, IsPlainRow, IsUpTo, IsPlainLine}
use Rattle.hs_plainwords.proofs.Bytes.{begins_digit, behind_colon, committed_lacks, last_behind, no_number, other_word, told_number}

-- behind a space a line can end in this text, and tells of no commit
pub record Silent (text : Text) : Type 0 where
  pub single : lacks 10 text ≡ true
  pub told : (front before : Text) (n : ℕ) → front ++ 32 ∷ text ≡ before ++ committed_text n → ⊥

pub plain : (text : Text) → Silent text → IsPlainText text
plain text s = record { single = s.single; silent = λ before n e. s.told (58 ∷ []) before n e }

-- ---- words

-- no number stands behind the last space
pub unnumbered : (text : Text) → lacks 10 text ≡ true → begins_digit (last_word text) ≡ false → Silent text
unnumbered text line other = record { single = line; told = λ front before n e. no_number (front ++ 32 ∷ text) before n (ap begins_digit (last_behind front text) ∙ other) e }

-- words may stand before a text
pub led : (x text : Text) → lacks 10 x ≡ true → Silent text → Silent (x ++ 32 ∷ text)
led x text clean s = record {
  single = lacks-append 10 x (32 ∷ text) clean s.single;
  told = λ front before n e. s.told (front ++ 32 ∷ x) before n (append_assoc front (32 ∷ x) (32 ∷ text) ∙ e);
}

-- a number behind a word that isn't as long as `committed`
pub numbered : (v : Text) (k : ℕ) → lacks 10 v ≡ true → lacks 32 v ≡ true → (length v ≡ 9 → ⊥) → Silent (v ++ 32 ∷ decimal k)
numbered v k line space other = record {
  single = lacks-append 10 v (32 ∷ decimal k) line (decimal_lacks 10 refl k);
  told = λ front before n e. other_word front v (decimal k) before n space (decimal_lacks 32 refl k) other e;
}

-- ---- names of sessions

pub record IsCalled (name : Text) : Type 0 where
  pub single : lacks 10 name ≡ true
  pub word : lacks 32 name ≡ true
  pub begins : begins_digit name ≡ false

no_digit : (b : ℕ) → is_letter b ≡ true → is_digit b ≡ false
no_digit b letter = grind (arith, letter)

first_in_word : (b : ℕ) → is_letter b ≡ true → is_in_word b ≡ true
first_in_word b letter = grind (arith, letter)

pub session_called : (name : Text) → is_session name ≡ true → IsCalled name
session_called [] is = absurd cc
session_called (b ∷ bytes) is =
    let parts = and_parts _ _ is in
    let rest = (and_parts _ _ parts.1).1 in
    let all : list_all is_in_word (b ∷ bytes) ≡ true = and_from _ _ (first_in_word b parts.0) rest in
    record { single = all_lack is_in_word 10 refl (b ∷ bytes) all; word = all_lack is_in_word 32 refl (b ∷ bytes) all; begins = no_digit b parts.0 }

pub called_silent : (name : Text) → IsCalled name → Silent name
called_silent name is = unnumbered name is.single (ap begins_digit (last_alone name is.word) ∙ is.begins)

pub listed_silent : (names : List Text) → Each IsCalled names → Silent (listed names)
listed_silent [] all = unnumbered [] refl refl
listed_silent (name ∷ []) all = called_silent name all.0
listed_silent (name ∷ next ∷ more) all =
    let others = listed (next ∷ more) in
    subst Silent (append_assoc name (codes ",") (32 ∷ others) ∙ sym (append_assoc name (codes ", ") others))
    (led (name ++ codes ",") others (lacks-append 10 name (codes ",") all.0.single refl) (listed_silent (next ∷ more) all.1))

-- ---- what is told of an entry

-- a reply, where its end is that of the line
pub record IsPlainReply (text : Text) : Type 0 where
  pub plain : IsPlainText text
  pub final : is_final text ≡ true

abbrev pub IsPlainWords : Words → Type 0
IsPlainWords (RowOf row) = IsPlainRow row
IsPlainWords (Replies text None) = IsPlainReply text
IsPlainWords (Replies text (Some n)) = (lacks 10 text ≡ true) × (is_final text ≡ true)
IsPlainWords (First n) = Unit {0}
IsPlainWords (WaitsFor names) = IsPlainText (codes "waits for " ++ listed names)

-- ---- how it begins

begins_more : (front text more : Text) → begins_with front text ≡ true → begins_with front (text ++ more) ≡ true
begins_more [] text more h = refl
begins_more (b ∷ front) [] more h = absurd cc
begins_more (b ∷ front) (c ∷ text) more h = let parts = and_parts (b == c) (begins_with front text) h in and_from (b == c) (begins_with front (text ++ more)) parts.0 (begins_more front text more parts.1)

either : (a b c d : Bool) → (a ≡ true → c ≡ true) → (b ≡ true → d ≡ true) → (a || b) ≡ true → (c || d) ≡ true
either true b true d first second h = refl
either true b false d first second h = absurd (both_ways false refl (first refl))
either false true true d first second h = refl
either false true false d first second h = second refl
either false false c d first second h = absurd cc

final_more : (text more : Text) → is_final text ≡ true → is_final (text ++ more) ≡ true
final_more text more h =
    either (begins_with (codes "ok") text) (begins_with (codes "refused") text) (begins_with (codes "ok") (text ++ more)) (begins_with (codes "refused") (text ++ more))
    (begins_more (codes "ok") text more) (begins_more (codes "refused") text more) h

final_replies : (words : Words) → IsPlainWords words → is_final (words_text words) ≡ is_reply words
final_replies (RowOf row) its = its.other
final_replies (Replies text None) its = final_more text [] its.final
final_replies (Replies text (Some n)) its = final_more text (committed_text n) its.1
final_replies (First n) its = refl
final_replies (WaitsFor names) its = refl

decimal_least : (m n : ℕ) → n < 10 ^ 64 → decimal m ≡ decimal n → n ≤ m
decimal_least m n small same = elim (cases_lt m (10 ^ 64)) [
  | inl low ↦ let e : n ≡ m = sym (decimal_is_IsNumeral_wide n small).1 ∙ ap (digits_value 10) (sym same) ∙ (decimal_is_IsNumeral_wide m low).1 in omega (arith, e)
  | inr high ↦ below n m (10 ^ 64) small high
]
  where
    below : (n m k : ℕ) → n < k → k ≤ m → n ≤ m
    below n m k small large = omega arith

only : (k n : ℕ) → n ≤ k → IsUpTo (k ∷ []) n
only k n least = (k, (0, omega arith, refl), least)

module _ (number : ℕ) (session : Text) (clean : lacks 10 session ≡ true) where
  abbrev front : Text
  front = decimal number ++ codes " " ++ session

  front_lacks : lacks 10 front ≡ true
  front_lacks = lacks-append 10 (decimal number ++ codes " ") session (lacks-append 10 (decimal number) (codes " ") (decimal_lacks 10 refl number) refl) clean

  item_lacks : (text : Text) → lacks 10 text ≡ true → lacks 10 (front ++ codes ": " ++ text) ≡ true
  item_lacks text line = lacks-append 10 (front ++ codes ": ") text (lacks-append 10 front (codes ": ") front_lacks refl) line

  silent_item : (text before : Text) (n : ℕ) → IsPlainText text → front ++ codes ": " ++ text ≡ before ++ committed_text n → ⊥
  silent_item text before n its e = let found = behind_colon front (32 ∷ text) before n (sym (append_assoc front (codes ": ") text) ∙ e) in its.silent found.0 n found.1

  telling_item : (text before : Text) (k n : ℕ) → n < 10 ^ 64 → front ++ codes ": " ++ (text ++ committed_text k) ≡ before ++ committed_text n → n ≤ k
  telling_item text before k n small e = decimal_least k n small (told_number (front ++ codes ": " ++ text) before k n (append_assoc (front ++ codes ": ") text (committed_text k) ∙ e))

  answered : (words : Words) → IsPlainWords words → (n : ℕ) → answers_to n (OfItem number session words) ≡ replies_to n (OfItem number session words)
  answered words its n = ap (λ (b : Bool). (number == n) && b) (final_replies words its)

  pub plain_item : (words : Words) → IsPlainWords words → IsPlainLine (OfItem number session words)
  plain_item (RowOf row) its = record { single = item_lacks row its.plain.single; told = λ before n small e. absurd (silent_item row before n its.plain e); answers = answered (RowOf row) its }
  plain_item (Replies text None) its = record {
    single = item_lacks (text ++ []) (lacks-append 10 text [] its.plain.single refl);
    told = λ before n small e. absurd (silent_item text before n its.plain (ap (λ (l : Text). front ++ codes ": " ++ l) (sym (append-nil text)) ∙ e));
    answers = answered (Replies text None) its;
  }
  plain_item (Replies text (Some k)) its = record {
    single = item_lacks (text ++ committed_text k) (lacks-append 10 text (committed_text k) its.0 (committed_lacks 10 refl refl k));
    told = λ before n small e. only k n (telling_item text before k n small e);
    answers = answered (Replies text (Some k)) its;
  }
  plain_item (First k) its = record {
    single = item_lacks (codes "first" ++ committed_text k) (lacks-append 10 (codes "first") (committed_text k) refl (committed_lacks 10 refl refl k));
    told = λ before n small e. only k n (telling_item (codes "first") before k n small e);
    answers = answered (First k) its;
  }
  plain_item (WaitsFor names) its = record {
    single = item_lacks (codes "waits for " ++ listed names) its.single;
    told = λ before n small e. absurd (silent_item (codes "waits for " ++ listed names) before n its e);
    answers = answered (WaitsFor names) its;
  }

  pub plain_items : (words : List Words) → Each IsPlainWords words → Each IsPlainLine (map (OfItem number session) words)
  plain_items [] all = tt
  plain_items (w ∷ ws) all = (plain_item w all.0, plain_items ws all.1)

pub plain_end : (session : Text) → lacks 10 session ≡ true → IsPlainLine (EndOf session)
plain_end session clean =
    let opening = codes "end " ++ session in
    record {
      single = lacks-append 10 opening (codes ": rolled back") (lacks-append 10 (codes "end ") session refl clean) refl;
      told = λ before n small e. let found = behind_colon opening (codes " rolled back") before n e in absurd (no_number (codes ": rolled back") found.0 n refl found.1);
      answers = λ n. refl;
    }
