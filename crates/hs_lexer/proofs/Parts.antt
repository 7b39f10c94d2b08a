-- A text in its quotes, up to a quote or an escape.
use Rattle.std.proofs.Common.{◌≡◌, ◌≢◌, ℕ, zero, suc, ◌+◌, ◌-◌, ◌<◌, ◌≤◌, Bool, true, false, ◌&&◌, ◌==◌, not, cond, List, [], ◌∷◌, ◌++◌, length, length-drop, get_or, drop, take, Option, Some, None, refl, sym, ◌∙◌, ap, arith, inl, inr}
use Rattle.std.specs.Prelude.{is_some, encode_utf8}
use Rattle.std.specs.List.{position_or_len, before_first, after_first}
use Rattle.std.specs.Str.{IsUtf8, IsCharBoundary}
use Rattle.std.proofs.lemmas.Str.{encode_ascii, IsCharBoundary-after_ascii}
use Rattle.std.proofs.lemmas.Bool.{ne_eqb, eq-eqb, eqb-true}
use Rattle.std.proofs.lemmas.Bool.Decides.{eqb_tells, nat_tests}
use Rattle.hs_lexer.specs.Bytes.{begins_with}
use Rattle.hs_lexer.specs.Content.{undoubled, past_second, is_hex, coded, escape_len, meant, unescaped}
use Rattle.hs_lexer.proofs.Steps.{undoubled_other}

-- ---- quotes

-- where the bytes don't begin with a character of ASCII, they don't begin with its byte
pub past_second_none : (quote : ℕ) (bytes : List ℕ) → quote < 128 → ((rest : List ℕ) → bytes ≢ encode_utf8 quote ++ rest) → past_second quote bytes ≡ bytes
past_second_none quote [] ascii none = refl
past_second_none quote (b ∷ bytes) ascii none = elim (eqb_tells b quote) [
  | inl here ↦ absurd (none bytes (rw (encode_ascii quote ascii, here.1)))
  | inr other ↦ rw other.0
]

-- f keeps every byte but a, and of what stands behind an a it makes something
record Parts (a : ℕ) (f behind : List ℕ → List ℕ) : Type 0 where
  pub nothing : f [] ≡ []
  pub other : (b : ℕ) (bytes : List ℕ) → b ≢ a → f (b ∷ bytes) ≡ b ∷ f bytes
  pub here : (bytes : List ℕ) → f (a ∷ bytes) ≡ behind bytes

parts_none : (a : ℕ) (f behind : List ℕ → List ℕ) → Parts a f behind → (bytes : List ℕ) → position_or_len (λ b. b == a) bytes ≡ length bytes → f bytes ≡ bytes
parts_none a f behind h [] none = h.nothing
parts_none a f behind h (b ∷ bytes) none = elim (eqb_tells b a) [
  | inl here ↦ absurd (omega (arith, rw here.0 at none))
  | inr other ↦ h.other b bytes other.1 ∙ ap (λ z. b ∷ z) (parts_none a f behind h bytes (omega (arith, rw other.0 at none)))
]

parts_at : (a : ℕ) (f behind : List ℕ → List ℕ) → Parts a f behind → (bytes : List ℕ) → position_or_len (λ b. b == a) bytes < length bytes
    → f bytes ≡ before_first (λ b. b == a) bytes ++ behind (after_first (λ b. b == a) bytes)
parts_at a f behind h [] within = absurd (omega arith)
parts_at a f behind h (b ∷ bytes) within = elim (eqb_tells b a) [
  | inl here ↦ rw here.0 (rw here.1 (h.here bytes))
  | inr other ↦
      let n = position_or_len (λ x. x == a) bytes in
      let less : n < length bytes = omega (arith, rw other.0 at within) in
      let one : 1 + n ≡ suc n = omega arith in
      let two : suc n + 1 ≡ suc (n + 1) = omega arith in
      rw (other.0, one, two) (h.other b bytes other.1 ∙ ap (λ z. b ∷ z) (parts_at a f behind h bytes less))
]

undoubled_here : (quote : ℕ) (bytes : List ℕ) → undoubled quote (quote ∷ bytes) ≡ quote ∷ undoubled quote (past_second quote bytes)
undoubled_here quote [] = refl
undoubled_here quote (c ∷ bytes) = elim (eqb_tells c quote) [
  | inl again ↦ rw (again.0, eq-eqb quote quote refl)
  | inr other ↦ rw (other.0, eq-eqb quote quote refl)
]

undoubled_parts : (quote : ℕ) → Parts quote (undoubled quote) (λ bytes. quote ∷ undoubled quote (past_second quote bytes))
undoubled_parts quote = record { nothing = refl; other = undoubled_other quote; here = undoubled_here quote }

pub undoubled_none : (quote : ℕ) (bytes : List ℕ) → position_or_len (λ b. b == quote) bytes ≡ length bytes → undoubled quote bytes ≡ bytes
undoubled_none quote = parts_none quote (undoubled quote) (λ bytes. quote ∷ undoubled quote (past_second quote bytes)) (undoubled_parts quote)

pub undoubled_at : (quote : ℕ) (bytes : List ℕ) → position_or_len (λ b. b == quote) bytes < length bytes
    → undoubled quote bytes ≡ before_first (λ b. b == quote) bytes ++ (quote ∷ undoubled quote (past_second quote (after_first (λ b. b == quote) bytes)))
undoubled_at quote = parts_at quote (undoubled quote) (λ bytes. quote ∷ undoubled quote (past_second quote bytes)) (undoubled_parts quote)

pub past_second_short : (quote : ℕ) (bytes : List ℕ) → length (past_second quote bytes) ≤ length bytes
past_second_short quote bytes = elim (begins_with quote bytes) as (λ t. length (cond t (drop 1 bytes) bytes) ≤ length bytes) [
  | true ↦ omega (arith, length-drop 1 bytes)
  | false ↦ omega arith
]

pub ruleset quote_parts = (undoubled_none, undoubled_at, past_second_short)

-- ---- escapes

unescaped-drop : (n : ℕ) (bytes : List ℕ) → unescaped n bytes ≡ unescaped 0 (drop n bytes)
unescaped-drop zero bytes = refl
unescaped-drop (suc n) [] = refl
unescaped-drop (suc n) (b ∷ bytes) = unescaped-drop n bytes

unescaped_other : (b : ℕ) (bytes : List ℕ) → b ≢ 92 → unescaped 0 (b ∷ bytes) ≡ b ∷ unescaped 0 bytes
unescaped_other b bytes other = rw (ne_eqb b 92 other)

unescaped_parts : Parts 92 (unescaped 0) (λ bytes. meant bytes ++ unescaped 0 (drop (escape_len bytes) bytes))
unescaped_parts = record {
  nothing = refl;
  other = unescaped_other;
  here = λ bytes. ap (λ z. meant bytes ++ z) (unescaped-drop (escape_len bytes) bytes);
}

pub unescaped_none : (bytes : List ℕ) → position_or_len (λ b. b == 92) bytes ≡ length bytes → unescaped 0 bytes ≡ bytes
unescaped_none = parts_none 92 (unescaped 0) (λ bytes. meant bytes ++ unescaped 0 (drop (escape_len bytes) bytes)) unescaped_parts

pub unescaped_at : (bytes : List ℕ) → position_or_len (λ b. b == 92) bytes < length bytes
    → unescaped 0 bytes ≡ before_first (λ b. b == 92) bytes ++ (meant (after_first (λ b. b == 92) bytes)
    ++ unescaped 0 (drop (escape_len (after_first (λ b. b == 92) bytes)) (after_first (λ b. b == 92) bytes)))
unescaped_at = parts_at 92 (unescaped 0) (λ bytes. meant bytes ++ unescaped 0 (drop (escape_len bytes) bytes)) unescaped_parts

pub ruleset escape_parts = (unescaped_none, unescaped_at, length-drop)

-- an escape ends with a byte of ASCII
begins_is : (a : ℕ) (bytes : List ℕ) → begins_with a bytes ≡ true → (0 < length bytes) × (get_or bytes 0 0 ≡ a)
begins_is a [] h = cc
begins_is a (b ∷ bytes) h = (omega arith, eqb-true b a h)

hex_ascii : (b : ℕ) → is_hex b ≡ true → b < 128
hex_ascii b h = grind (arith, nat_tests)

chosen : {A : Type 0} (t : Bool) (x : A) (y : Option A) → cond t y None ≡ Some x → t ≡ true
chosen true x y h = refl
chosen false x y h = cc

and_left : (s t : Bool) → (s && t) ≡ true → s ≡ true
and_left true t h = refl
and_left false t h = h

and_right : (s t : Bool) → (s && t) ≡ true → t ≡ true
and_right true t h = h
and_right false t h = cc

coded_ascii : (bytes : List ℕ) (c : ℕ) → coded bytes ≡ Some c → (4 ≤ length bytes) × (get_or bytes 3 0 < 128)
coded_ascii [] c h = cc
coded_ascii (x ∷ []) c h = cc
coded_ascii (x ∷ y ∷ []) c h = cc
coded_ascii (x ∷ y ∷ z ∷ []) c h = cc
coded_ascii (x ∷ y ∷ z ∷ w ∷ bytes) c h =
    let all = chosen _ _ _ h in
    (omega arith, hex_ascii w (and_right (is_hex x && is_hex y && is_hex z) (is_hex w) (and_left (is_hex x && is_hex y && is_hex z && is_hex w) _ all)))

boundary_of : (bytes : List ℕ) (t : Bool) (o : Option ℕ) → begins_with 92 bytes ≡ t → coded bytes ≡ o → IsUtf8 bytes
    → 0 < cond t 1 (cond (is_some o) 4 0) → IsCharBoundary bytes (cond t 1 (cond (is_some o) 4 0))
boundary_of bytes true o again code text some =
    let h = begins_is 92 bytes again in IsCharBoundary-after_ascii bytes 0 text h.0 (omega (arith, h.1))
boundary_of bytes false (Some c) again code text some =
    let h = coded_ascii bytes c code in IsCharBoundary-after_ascii bytes 3 text (omega (arith, h.0)) h.1
boundary_of bytes false None again code text some = absurd (omega arith)

pub escape_boundary : (bytes : List ℕ) → IsUtf8 bytes → 0 < escape_len bytes → IsCharBoundary bytes (escape_len bytes)
escape_boundary bytes text some = boundary_of bytes (begins_with 92 bytes) (coded bytes) refl refl text some
