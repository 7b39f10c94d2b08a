-- The statement of an entry stands behind the name and the colon.
use Rattle.std.proofs.Common.{◌≡◌, ℕ, suc, ◌+◌, Bool, true, false, cond, ◌&&◌, ◌||◌, eqb, not, List, [], ◌∷◌, ◌++◌, length, take, drop, refl, sym, ap, ◌∙◌, subst, arith, append_assoc}
use Rattle.std.specs.Prelude.{nat_lt}
use Rattle.std.proofs.lemmas.Bool.{and_from, and_parts, eqb-true, or_left}
use Rattle.std.proofs.Math.Seq.{take-append_seam}
use Rattle.std.specs.List.{list_all, position_or_len}
use Rattle.hs_entries.specs.Entry.{is_colon, is_digit, is_in_word, is_letter, is_name_byte, is_session, place_of, statement_of}
use Rattle.hs_schema.specs.Catalogue.{Text}
use Rattle.hs_turns.specs.Turns.{whole_text}

-- ---- no byte of a name is a colon

no_colon_by : (b : ℕ) (e : Bool) → eqb b 58 ≡ e → is_in_word b ≡ true → e ≡ false
no_colon_by b true is h = let no : false ≡ true = subst (λ z. is_in_word z ≡ true) (eqb-true b 58 is) h in absurd (cc)
no_colon_by b false is h = refl

no_colon : (b : ℕ) → is_in_word b ≡ true → is_colon b ≡ false
no_colon b h = no_colon_by b (eqb b 58) refl h

in_name : (name : List ℕ) → is_session name ≡ true → list_all is_name_byte name ≡ true
in_name [] h = refl
in_name (b ∷ bs) h =
    let p = and_parts (is_letter b) (nat_lt (length bs) 32 && list_all is_name_byte bs) h in
    let q = and_parts (nat_lt (length bs) 32) (list_all is_name_byte bs) p.1 in
    and_from (is_in_word b) (list_all is_name_byte bs) (or_left (is_letter b || is_digit b) (eqb b 95) (or_left (is_letter b) (is_digit b) p.0)) q.1

-- ---- the place of the colon

placed : (name statement : List ℕ) → list_all is_name_byte name ≡ true → position_or_len is_colon (name ++ 58 ∷ statement) ≡ length name
placed [] statement h = refl
placed (b ∷ bs) statement h =
    let p = and_parts (is_in_word b) (list_all is_name_byte bs) h in
    let rest = placed bs statement p.1 in
    ap (λ z. cond (not z) (1 + position_or_len is_colon (bs ++ 58 ∷ statement)) 0) (no_colon b p.0) ∙ omega (arith, rest)

behind : (name statement : List ℕ) → drop (length name + 1) (name ++ 58 ∷ statement) ≡ statement
behind [] statement = refl
behind (b ∷ bs) statement = let h = behind bs statement in let e : length (b ∷ bs) + 1 ≡ suc (length bs + 1) = omega arith in ap (λ z. drop z ((b ∷ bs) ++ 58 ∷ statement)) e ∙ h

plain_statement : (name its : List ℕ) → is_session name ≡ true → statement_of (name ++ 58 ∷ its) ≡ its
plain_statement name its h = ap (λ z. drop (z + 1) (name ++ 58 ∷ its)) (placed name its (in_name name h)) ∙ behind name its

plain_place : (name its : List ℕ) → is_session name ≡ true → place_of (name ++ 58 ∷ its) ≡ length name + 1
plain_place name its h =
    ap (λ z. length (take z (name ++ 58 ∷ its)) + 1) (placed name its (in_name name h)) ∙ ap (λ (l : List ℕ). length l + 1) (take-append_seam name (58 ∷ its))

pub statement : (name its : Text) → is_session name ≡ true → statement_of (whole_text name its) ≡ its
statement name its h = subst (λ z. statement_of z ≡ its) (sym (append_assoc name (58 ∷ []) its)) (plain_statement name its h)

pub place : (name its : Text) → is_session name ≡ true → place_of (whole_text name its) ≡ length name + 1
place name its h = subst (λ z. place_of z ≡ length name + 1) (sym (append_assoc name (58 ∷ []) its)) (plain_place name its h)
