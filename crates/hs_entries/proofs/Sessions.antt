-- What an entry's bytes say.
use Rattle.std.proofs.Common.{◌≡◌, ℕ, ◌+◌, ◌<◌, true, false, Bool, ◌&&◌, nat_lt, if◌then◌else◌, List, [], ◌∷◌, length, Option, Some, None, Bor, refl, sym, ap, ◌∙◌, arith, lit<}
use Rattle.std.specs.List.{position_or_len, list_any}
use Rattle.std.specs.Str.{is_utf8, IsUtf8}
use Rattle.std.proofs.lemmas.Bool.Decides.{nat_tests}
use Rattle.std.proofs.lemmas.Str.{IsUtf8-from_is_utf8, is_utf8-from_IsUtf8}
use Rattle.std.proofs.lemmas.Str.Pattern.{IsSplitOnceResult, split_once_first}
use Rattle.hs_entries.specs.declared.item.Item.TheVariants.{Entry, Bad, TooLong}
use Rattle.hs_entries.specs.declared.item.TheConstants.{MOST_BYTES}
use Rattle.hs_entries.specs.Left.{IsNumbered}
use Rattle.hs_entries.specs.Entry.{is_colon, is_session, session_of, statement_of, place_of, has_session, is_too_long, item_of, cut_item_of, IsSplit}

-- an element passes a test where the first that does has a place
pub list_any-place : {X : Type 0} (p : X → Bool) (xs : List X) → list_any p xs ≡ nat_lt (position_or_len p xs) (length xs)
list_any-place p [] = refl
list_any-place p (x ∷ xs) = let later = list_any-place p xs in grind (arith, nat_tests, later)

module _ (bytes : List ℕ) (r : Option (Bor (List ℕ) × Bor (List ℕ))) (split : IsSplitOnceResult 58 bytes r) where
  -- no session's name stands before the first colon
  pub colon_refused : (x : Bor (List ℕ) × Bor (List ℕ)) → r ≡ Some x → is_session x.0.now ≡ false → has_session bytes ≡ false
  colon_refused x is bad =
      let (inside, front, back) = rw is at (split_once_first 58 bytes r split (lit< tt)) in
      let no : is_session (session_of bytes) ≡ false = ap is_session (sym front) ∙ bad in
      grind (arith, nat_tests, no)

  -- no colon stands in the bytes
  pub colon_missing : r ≡ None → has_session bytes ≡ false
  colon_missing is =
      let none : position_or_len is_colon bytes ≡ length bytes = rw is at (split_once_first 58 bytes r split (lit< tt)) in
      let no : nat_lt (position_or_len is_colon bytes) (length bytes) ≡ false = grind (arith, nat_tests, none) in
      let lacks : list_any is_colon bytes ≡ false = list_any-place is_colon bytes ∙ no in
      grind (arith, lacks)

not_utf8 : (bytes : List ℕ) → (IsUtf8 bytes → ⊥) → is_utf8 bytes ≡ false
not_utf8 bytes bad = elim (is_utf8 bytes) as (λ v. is_utf8 bytes ≡ v → v ≡ false) [ true ↦ λ good. absurd (bad (IsUtf8-from_is_utf8 bytes good)) | false ↦ λ _. refl ] refl

pub item_of-long : (n : ℕ) (bytes : List ℕ) → MOST_BYTES < length bytes → item_of n bytes ≡ TooLong n
unfolding item_of
item_of-long n bytes long = grind (arith, nat_tests)

pub item_of-too_long : (n : ℕ) (bytes : List ℕ) → is_too_long bytes ≡ true → item_of n bytes ≡ TooLong n
unfolding item_of
item_of-too_long n bytes long = rw long refl

pub item_of-no_text : (n : ℕ) (bytes : List ℕ) → is_too_long bytes ≡ false → (IsUtf8 bytes → ⊥) → item_of n bytes ≡ Bad n
unfolding item_of
item_of-no_text n bytes short bad =
    let no = not_utf8 bytes bad in grind (arith, nat_tests)

pub item_of-no_session : (n : ℕ) (bytes : List ℕ) → is_too_long bytes ≡ false → has_session bytes ≡ false → item_of n bytes ≡ Bad n
unfolding item_of
item_of-no_session n bytes short bad = grind (arith, nat_tests)

pub item_of-entry : (n : ℕ) (bytes entry name text session statement : List ℕ) → is_too_long bytes ≡ false → IsUtf8 bytes → entry ≡ bytes
    → IsSplit entry name text → session ≡ name → statement ≡ text → Entry n session statement (length name + 1) ≡ item_of n bytes
unfolding item_of
item_of-entry n bytes entry name text session statement short good same split front back =
    let split_bytes : IsSplit bytes name text = rw (← same) split in
    let text_is = is_utf8-from_IsUtf8 bytes good in
    let has = split_bytes.has in
    let front_is = split_bytes.session in
    let back_is = split_bytes.statement in
    grind (arith, nat_tests)

-- a whole entry has its number
pub item_of-numbered : (n : ℕ) (bytes : List ℕ) → IsNumbered (item_of n bytes) n (n + 1)
unfolding item_of
item_of-numbered n bytes =
    elim (is_too_long bytes) as (λ v. IsNumbered (if v then TooLong n else if has_session bytes && is_utf8 bytes then Entry n (session_of bytes) (statement_of bytes) (place_of bytes) else Bad n) n (n + 1)) [
      | true ↦ (refl, refl)
      | false ↦ elim (has_session bytes && is_utf8 bytes) as (λ v. IsNumbered (if v then Entry n (session_of bytes) (statement_of bytes) (place_of bytes) else Bad n) n (n + 1)) [ true ↦ (refl, refl) | false ↦ (refl, refl) ]
    ]

pub cut_item_of-long : (n : ℕ) (bytes : List ℕ) → is_too_long bytes ≡ true → cut_item_of n bytes ≡ TooLong n
unfolding cut_item_of
cut_item_of-long n bytes h = rw h refl

pub cut_item_of-short : (n : ℕ) (bytes : List ℕ) → is_too_long bytes ≡ false → cut_item_of n bytes ≡ Bad n
unfolding cut_item_of
cut_item_of-short n bytes h = rw h refl
