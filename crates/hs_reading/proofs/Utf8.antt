-- The statement of an entry that is text is text.
use Rattle.std.proofs.Common.{◌≡◌, ℕ, suc, ◌+◌, ◌<◌, Bool, true, false, cond, not, [], ◌∷◌, length, get_or, refl, sym, ap, subst, ◌∙◌, arith, inl, inr, eqb-true}
use Rattle.std.specs.List.{position_or_len}
use Rattle.std.specs.Str.{is_utf8}
use Rattle.std.proofs.lemmas.Bool.{cases_lt}
use Rattle.std.proofs.lemmas.List.{drop_all}
use Rattle.std.proofs.lemmas.Str.{IsCharBoundary-after_ascii, IsUtf8-drop, IsUtf8-from_is_utf8, IsUtf8-nil, is_utf8-from_IsUtf8}
use Rattle.hs_entries.specs.Entry.{is_colon, statement_of}
use Rattle.hs_schema.specs.Catalogue.{Text}

-- the byte at the first place that passes is a colon
colon_by : (b : ℕ) (bytes : Text) (t : Bool) → is_colon b ≡ t → (position_or_len is_colon bytes < length bytes → get_or bytes (position_or_len is_colon bytes) 0 ≡ 58)
    → cond (not t) (1 + position_or_len is_colon bytes) 0 < suc (length bytes) → get_or (b ∷ bytes) (cond (not t) (1 + position_or_len is_colon bytes) 0) 0 ≡ 58
colon_by b bytes true is rest within = eqb-true b 58 is
colon_by b bytes false is rest within =
    let k : 1 + position_or_len is_colon bytes ≡ suc (position_or_len is_colon bytes) = omega arith in
    ap (λ (i : ℕ). get_or (b ∷ bytes) i 0) k ∙ rest (omega (arith, within))

colon_there : (bytes : Text) → position_or_len is_colon bytes < length bytes → get_or bytes (position_or_len is_colon bytes) 0 ≡ 58
colon_there [] within = absurd (omega (arith, within))
colon_there (b ∷ bytes) within = colon_by b bytes (is_colon b) refl (colon_there bytes) within

pub statement_utf8 : (entry : Text) → is_utf8 entry ≡ true → is_utf8 (statement_of entry) ≡ true
statement_utf8 entry good = elim (cases_lt (position_or_len is_colon entry) (length entry)) [
  | inl within ↦
      let text = IsUtf8-from_is_utf8 entry good in
      let place = position_or_len is_colon entry in
      let colon = colon_there entry within in
      is_utf8-from_IsUtf8 (statement_of entry) (IsUtf8-drop entry (place + 1) text (IsCharBoundary-after_ascii entry place text within (omega (arith, colon))))
  | inr beyond ↦ subst (λ (l : Text). is_utf8 l ≡ true) (sym (drop_all (position_or_len is_colon entry + 1) entry (omega (arith, beyond)))) (is_utf8-from_IsUtf8 [] IsUtf8-nil)
]
