-- What a token of a class says: a word's class is a name's, a number's class tells its value, and a digit text its digits.
use Rattle.std.proofs.Common.{◌≡◌, ℕ, zero, suc, ◌+◌, ◌-◌, ◌*◌, ◌^◌, ◌<◌, ◌≤◌, Bool, true, false, T, ◌&&◌, not, List, [], ◌∷◌, ◌++◌, length, length-append, map, Option, Some, None, refl, ap, sym, ◌∙◌, subst, arith, ◌⊎◌, inl, inr}
use Rattle.std.specs.Prelude.{pos, nat_le, nat_lt, ◌==◌, ◌||◌, if◌then◌else◌, cond, fold, count_by, codes}
use Rattle.std.specs.List.{list_all, list_any}
use Rattle.std.specs.Str.{str_eq_ignore_ascii_case}
use Rattle.std.proofs.lemmas.Nat.{mul-le, pow-add}
use Rattle.std.proofs.Math.Nat.{pow-le-pow_right, mul_assoc}
use Rattle.std.proofs.lemmas.List.Recursion.{is_count_by}
use Rattle.std.proofs.lemmas.Bool.Decides.{nat_tests}
use Rattle.hs_ast.specs.Lawful as law
use Rattle.hs_ast.specs.declared.literal.Literal.TheVariants as literal
use Rattle.hs_grammar.proofs.Sets.{and_left, and_right, holds, is_true}
use Rattle.hs_lexer.specs.declared.token.Token.{Token}
use Rattle.hs_lexer.specs.declared.token.TokenKind.{TokenKind}
use Rattle.hs_lexer.specs.declared.token.TokenKind.TheVariants.{Word, Quoted, Number, Text, UnicodeText, Symbol}
use Rattle.hs_lexer.specs.declared.lexeme.Lexeme.TheVariants as lexeme
use Rattle.hs_lexer.specs.Bytes.{is_digit}
use Rattle.hs_lexer.specs.Content.{is_name, name_of, text_of, written}
use Rattle.hs_lexer.specs.Pieces.{is_digits, Spells}
use Rattle.hs_lexer.specs.Pieces.Spells.{word, whole, pointed, quoted, text, unicode_text, symbol}
use Rattle.hs_lexer.specs.Tokens.{IsShortNumber, IsSoundAs}
use Rattle.hs_syntax.specs.Classes.{lookup, word_class, nothing, sign_class, value_after, whole_class, number_class, is_digit_text, text_class, class_in, class_of}
use Rattle.hs_syntax.specs.Names.{number_0, number_1, number_38, number_4000, above, fraction, digit_text, other_text, identifier}
use Rattle.hs_syntax.specs.Words.{keywords, signs}
use Rattle.hs_builder.specs.Leaves.{with_digit, units_of, scale_of, number_in}

-- ---- which kind of token has a class

found : (test : ℕ → Bool) (t : Bool) (a b : ℕ) → T (test a) → T (test b) → T (test (if t then a else b))
found test true a b h k = h
found test false a b h k = k

lookup_all : (test : ℕ → Bool) (entries : List (List ℕ × ℕ)) (spelling : List ℕ) (other : ℕ) → T (list_all (λ e. test e.1) entries) → T (test other) → T (test (lookup entries spelling other))
lookup_all test [] spelling other h o = o
lookup_all test (entry ∷ entries) spelling other h o =
    found test (str_eq_ignore_ascii_case entry.0 spelling) entry.1 (lookup entries spelling other) (and_left (test entry.1) (list_all (λ e. test e.1) entries) h)
    (lookup_all test entries spelling other (and_right (test entry.1) (list_all (λ e. test e.1) entries) h) o)

abbrev is_sign_class : ℕ → Bool
is_sign_class c = list_any (λ e. e.1 == c) signs || c == nothing

-- the class of no number, text or symbol
abbrev pub is_word_class : ℕ → Bool
is_word_class c = nat_lt other_text c && not (is_sign_class c)

word_above : (spelling : List ℕ) → T (nat_lt other_text (word_class spelling))
unfolding word_class
word_above spelling = lookup_all (nat_lt other_text) keywords spelling identifier tt tt

sign_above : (sign : List ℕ) → T (nat_lt other_text (sign_class sign))
unfolding sign_class
sign_above sign = lookup_all (nat_lt other_text) signs sign nothing tt tt

sign_is : (sign : List ℕ) → T (is_sign_class (sign_class sign))
unfolding sign_class
sign_is sign = lookup_all is_sign_class signs sign nothing tt tt

whole_below : (v : ℕ) → whole_class v ≤ above
whole_below v = grind (arith, nat_tests)

when_point : (t : Bool) (v : ℕ) → (if t then fraction else whole_class v) ≤ fraction
when_point true v = omega arith
when_point false v = omega (arith, whole_below v)

number_below : (number : List ℕ) → number_class number ≤ fraction
unfolding number_class
number_below number = when_point (list_any (λ b. b == 46) number) (value_after 0 number)

text_is : (t : Bool) → (if t then digit_text else other_text) ≡ digit_text → t ≡ true
text_is true h = refl
text_is false h = cc

text_between : (t : Bool) → (fraction < (if t then digit_text else other_text)) × ((if t then digit_text else other_text) ≤ other_text)
text_between true = (omega arith, omega arith)
text_between false = (omega arith, omega arith)

lt_of : (a b : ℕ) → T (nat_lt a b) → a < b
lt_of a b h = let e = is_true (nat_lt a b) h in grind (arith, nat_tests)

not_both : (t : Bool) → T (not t) → T t → ⊥
not_both true h k = h
not_both false h k = k

-- ---- names

named_as : (source : List ℕ) (t : Token) (kind : TokenKind) → T (is_word_class (class_in kind source t)) → IsSoundAs kind source t → is_name (name_of source t) ≡ true
named_as source t Word h s = s
named_as source t Quoted h s = s
named_as source t Number h s =
    absurd (let a = lt_of other_text (number_class (written source t)) (and_left (nat_lt other_text (number_class (written source t))) (not (is_sign_class (number_class (written source t)))) h) in omega (arith, number_below (written source t)))
named_as source t Text h s =
    absurd (let a = lt_of other_text (text_class (text_of source t)) (and_left (nat_lt other_text (text_class (text_of source t))) (not (is_sign_class (text_class (text_of source t)))) h) in omega (arith, (text_between (is_digit_text (text_of source t))).1))
named_as source t UnicodeText h s =
    absurd (let a = lt_of other_text (text_class (text_of source t)) (and_left (nat_lt other_text (text_class (text_of source t))) (not (is_sign_class (text_class (text_of source t)))) h) in omega (arith, (text_between (is_digit_text (text_of source t))).1))
named_as source t Symbol h s =
    absurd (not_both (is_sign_class (sign_class (written source t))) (and_right (nat_lt other_text (sign_class (written source t))) (not (is_sign_class (sign_class (written source t)))) h) (sign_is (written source t)))

pub name_said : (source : List ℕ) (t : Token) → T (is_word_class (class_of source t)) → IsSoundAs t.kind source t → is_name (name_of source t) ≡ true
unfolding class_of
name_said source t h s = named_as source t t.kind h s

-- ---- numbers and digits

lt_true : (a b : ℕ) → a < b → nat_lt a b ≡ true
lt_true a b h = grind (arith, nat_tests)

le_true : (a b : ℕ) → a ≤ b → nat_le a b ≡ true
le_true a b h = grind (arith, nat_tests)

le_of : (a b : ℕ) → nat_le a b ≡ true → a ≤ b
le_of a b h = grind (arith, nat_tests)

all_left : (a b : Bool) → (a && b) ≡ true → a ≡ true
all_left true b h = refl
all_left false b h = h

all_right : (a b : Bool) → (a && b) ≡ true → b ≡ true
all_right true b h = h
all_right false b h = cc

digits_in : List ℕ → ℕ
digits_in [] = 0
digits_in (b ∷ bytes) = cond (is_digit b) (1 + digits_in bytes) (digits_in bytes)

digits_counted : (bytes : List ℕ) → digits_in bytes ≡ count_by is_digit bytes
unfolding digits_in
digits_counted = is_count_by digits_in is_digit refl (λ x xs. refl)

digit_within : (b : ℕ) → is_digit b ≡ true → b ≤ 57
digit_within b h = grind (arith, nat_tests)

-- digits and points
abbrev is_part : ℕ → Bool
is_part b = is_digit b || b == 46

grown : (b u n : ℕ) (bytes : List ℕ) (point digit : Bool) → is_digit b ≡ digit → (digit || point) ≡ true → ((v : ℕ) → fold with_digit v bytes + 1 ≤ (v + 1) * 10 ^ n)
    → fold with_digit (if point then u else u * 10 + (b - 48)) bytes + 1 ≤ (u + 1) * 10 ^ cond digit (1 + n) n
grown b u n bytes true true d h more =
    let p : 10 ^ (1 + n) ≡ 10 * 10 ^ n = pow-add 10 1 n in
    omega (arith, more u, p, mul-le (u + 1) (10 ^ n) (u + 1) (10 ^ (1 + n)) (omega arith) (omega (arith, p)))
grown b u n bytes true false d h more = more u
grown b u n bytes false true d h more =
    let v = u * 10 + (b - 48) in
    let p : 10 ^ (1 + n) ≡ 10 * 10 ^ n = pow-add 10 1 n in
    let small : v + 1 ≤ (u + 1) * 10 = omega (arith, digit_within b d) in
    let m = mul-le (v + 1) (10 ^ n) ((u + 1) * 10) (10 ^ n) small (omega arith) in
    let same : (u + 1) * 10 * 10 ^ n ≡ (u + 1) * 10 ^ (1 + n) = mul_assoc (u + 1) 10 (10 ^ n) ∙ ap (λ z. (u + 1) * z) (sym p) in
    omega (arith, more v, m, same)
grown b u n bytes false false d h more = cc

-- a number of so many digits behind u
bound : (bytes : List ℕ) (u : ℕ) → list_all is_part bytes ≡ true → fold with_digit u bytes + 1 ≤ (u + 1) * 10 ^ digits_in bytes
unfolding digits_in
bound [] u h = omega arith
bound (b ∷ bytes) u h =
    grown b u (digits_in bytes) bytes (b == 46) (is_digit b) refl (all_left (is_part b) (list_all is_part bytes) h) (λ v. bound bytes v (all_right (is_part b) (list_all is_part bytes) h))

below : (bytes : List ℕ) (most : ℕ) → list_all is_part bytes ≡ true → digits_in bytes ≤ most → units_of bytes < 10 ^ most
below bytes most h k =
    let grows : 10 ^ digits_in bytes ≤ 10 ^ most = pow-le-pow_right {n = 10} (omega arith) {i = digits_in bytes} {j = most} k in
    omega (arith, bound bytes 0 h, grows)

digits_are : (digits : List ℕ) → is_digits digits ≡ true → list_all is_digit digits ≡ true
digits_are [] h = cc
digits_are (b ∷ digits) h = h

or_left : (a b : Bool) → a ≡ true → (a || b) ≡ true
or_left a b h = ap (λ z. z || b) h

parts_are : (digits : List ℕ) → list_all is_digit digits ≡ true → list_all is_part digits ≡ true
parts_are [] h = refl
parts_are (b ∷ digits) h =
    ap (λ z. z && list_all is_part digits) (or_left (is_digit b) (b == 46) (all_left (is_digit b) (list_all is_digit digits) h)) ∙ parts_are digits (all_right (is_digit b) (list_all is_digit digits) h)

parts_joined : (xs ys : List ℕ) → list_all is_part xs ≡ true → list_all is_part ys ≡ true → list_all is_part (xs ++ 46 ∷ ys) ≡ true
parts_joined [] ys h k = k
parts_joined (x ∷ xs) ys h k = ap (λ z. z && list_all is_part (xs ++ 46 ∷ ys)) (all_left (is_part x) (list_all is_part xs) h) ∙ parts_joined xs ys (all_right (is_part x) (list_all is_part xs) h) k

not_point : (b : ℕ) → is_digit b ≡ true → (b == 46) ≡ false
not_point b h = grind (arith, nat_tests)

all_digits : (digits : List ℕ) → list_all is_digit digits ≡ true → digits_in digits ≡ length digits
unfolding digits_in
all_digits [] h = refl
all_digits (b ∷ digits) h =
    ap (λ z. cond z (1 + digits_in digits) (digits_in digits)) (all_left (is_digit b) (list_all is_digit digits) h) ∙ omega (arith, all_digits digits (all_right (is_digit b) (list_all is_digit digits) h))

scale_none : (digits : List ℕ) → list_all is_digit digits ≡ true → scale_of digits ≡ 0
scale_none [] h = refl
scale_none (b ∷ digits) h =
    ap (λ z. if z then length digits else scale_of digits) (not_point b (all_left (is_digit b) (list_all is_digit digits) h)) ∙ scale_none digits (all_right (is_digit b) (list_all is_digit digits) h)

scale_pointed : (digits part : List ℕ) → list_all is_digit digits ≡ true → scale_of (digits ++ 46 ∷ part) ≡ length part
scale_pointed [] part h = refl
scale_pointed (b ∷ digits) part h =
    ap (λ z. if z then length (digits ++ 46 ∷ part) else scale_of (digits ++ 46 ∷ part)) (not_point b (all_left (is_digit b) (list_all is_digit digits) h))
    ∙ scale_pointed digits part (all_right (is_digit b) (list_all is_digit digits) h)

count_pointed : (digits part : List ℕ) → list_all is_digit digits ≡ true → digits_in (digits ++ 46 ∷ part) ≡ length digits + digits_in part
unfolding digits_in
count_pointed [] part h = omega arith
count_pointed (b ∷ digits) part h =
    ap (λ z. cond z (1 + digits_in (digits ++ 46 ∷ part)) (digits_in (digits ++ 46 ∷ part))) (all_left (is_digit b) (list_all is_digit digits) h)
    ∙ omega (arith, count_pointed digits part (all_right (is_digit b) (list_all is_digit digits) h))

number_is : (number : List ℕ) → units_of number < 10 ^ 38 → scale_of number ≤ 38 → law.is_literal (literal.Number (number_in number)) ≡ true
number_is number h k =
    ap (λ z. (z && nat_le (scale_of number) 38) && true) (lt_true (units_of number) (10 ^ 38) h) ∙ ap (λ z. z && true) (le_true (scale_of number) 38 k)

spelled : {number : List ℕ} → Spells (lexeme.Token Number) number → count_by is_digit number ≤ 38 → law.is_literal (literal.Number (number_in number)) ≡ true
spelled (whole digits h) short =
    let all = digits_are digits h in
    number_is digits (below digits 38 (parts_are digits all) (omega (arith, digits_counted digits))) (omega (arith, scale_none digits all))
spelled (pointed digits part d f) short =
    let all = digits_are digits d in
    let rest = digits_are part f in
    let counted : length digits + length part ≤ 38 = omega (arith, digits_counted (digits ++ 46 ∷ part), count_pointed digits part all, all_digits part rest) in
    number_is (digits ++ 46 ∷ part) (below (digits ++ 46 ∷ part) 38 (parts_joined digits part (parts_are digits all) (parts_are part rest)) (omega (arith, digits_counted (digits ++ 46 ∷ part))))
    (omega (arith, scale_pointed digits part all))

numbered_as : (source : List ℕ) (t : Token) (kind : TokenKind) → class_in kind source t ≤ fraction → IsSoundAs kind source t → law.is_literal (literal.Number (number_in (written source t))) ≡ true
numbered_as source t Word h s = absurd (let a = lt_of other_text (word_class (written source t)) (word_above (written source t)) in omega arith)
numbered_as source t Quoted h s = absurd (omega arith)
numbered_as source t Number h s = spelled s.spelled s.short
numbered_as source t Text h s = absurd (let a = text_between (is_digit_text (text_of source t)) in omega (arith, a.0))
numbered_as source t UnicodeText h s = absurd (let a = text_between (is_digit_text (text_of source t)) in omega (arith, a.0))
numbered_as source t Symbol h s = absurd (let a = lt_of other_text (sign_class (written source t)) (sign_above (written source t)) in omega arith)

pub number_said : (source : List ℕ) (t : Token) → class_of source t ≤ fraction → IsSoundAs t.kind source t → law.is_literal (literal.Number (number_in (written source t))) ≡ true
unfolding class_of
number_said source t h s = numbered_as source t t.kind h s

-- ---- whole numbers

neither_left : (a b : Bool) → (a || b) ≡ false → a ≡ false
neither_left true b h = h
neither_left false b h = refl

neither_right : (a b : Bool) → (a || b) ≡ false → b ≡ false
neither_right true b h = cc
neither_right false b h = h

value_is : (digits : List ℕ) (u : ℕ) → list_any (λ b. b == 46) digits ≡ false → fold with_digit u digits ≡ value_after u digits
value_is [] u h = refl
value_is (b ∷ digits) u h =
    let here : (b == 46) ≡ false = neither_left (b == 46) (list_any (λ c. c == 46) digits) h in
    ap (λ z. fold with_digit (if z then u else u * 10 + (b - 48)) digits) here ∙ value_is digits (u * 10 + (b - 48)) (neither_right (b == 46) (list_any (λ c. c == 46) digits) h)

whole_if : (number : List ℕ) (t : Bool) → list_any (λ b. b == 46) number ≡ t → (if t then fraction else whole_class (value_after 0 number)) ≤ above
    → (v : ℕ) × ((number_in number).units ≡ pos v) × ((if t then fraction else whole_class (value_after 0 number)) ≡ whole_class v)
whole_if number true e h = absurd (omega arith)
whole_if number false e h = (value_after 0 number, ap pos (value_is number 0 e), refl)

whole_as : (source : List ℕ) (t : Token) (kind : TokenKind) → class_in kind source t ≤ above → (v : ℕ) × ((number_in (written source t)).units ≡ pos v) × (class_in kind source t ≡ whole_class v)
unfolding number_class
whole_as source t Word h = absurd (let a = lt_of other_text (word_class (written source t)) (word_above (written source t)) in omega arith)
whole_as source t Quoted h = absurd (omega arith)
whole_as source t Number h = whole_if (written source t) (list_any (λ b. b == 46) (written source t)) refl h
whole_as source t Text h = absurd (let a = text_between (is_digit_text (text_of source t)) in omega (arith, a.0))
whole_as source t UnicodeText h = absurd (let a = text_between (is_digit_text (text_of source t)) in omega (arith, a.0))
whole_as source t Symbol h = absurd (let a = lt_of other_text (sign_class (written source t)) (sign_above (written source t)) in omega arith)

-- a whole number's class is that of its value
pub whole_said : (source : List ℕ) (t : Token) → class_of source t ≤ above → (v : ℕ) × ((number_in (written source t)).units ≡ pos v) × (class_of source t ≡ whole_class v)
unfolding class_of
whole_said source t h = whole_as source t t.kind h

-- ---- digits of an INTERVAL

digits_told : (told : List ℕ) → text_class told ≡ digit_text → law.is_count (units_of told) ≡ true
digits_told told h =
    let is = text_is (is_digit_text told) h in
    let sized = all_left (nat_lt 0 (length told) && nat_le (length told) 18) (list_all is_digit told) is in
    let all = all_right (nat_lt 0 (length told) && nat_le (length told) 18) (list_all is_digit told) is in
    let short = le_of (length told) 18 (all_right (nat_lt 0 (length told)) (nat_le (length told) 18) sized) in
    lt_true (units_of told) (10 ^ 18) (below told 18 (parts_are told all) (omega (arith, all_digits told all)))

digits_as : (source : List ℕ) (t : Token) (kind : TokenKind) → class_in kind source t ≡ digit_text → law.is_count (units_of (text_of source t)) ≡ true
digits_as source t Word h = absurd (let a = lt_of other_text (word_class (written source t)) (word_above (written source t)) in omega arith)
digits_as source t Quoted h = absurd (omega arith)
digits_as source t Number h = absurd (let a = number_below (written source t) in omega arith)
digits_as source t Text h = digits_told (text_of source t) h
digits_as source t UnicodeText h = digits_told (text_of source t) h
digits_as source t Symbol h = absurd (let a = lt_of other_text (sign_class (written source t)) (sign_above (written source t)) in omega arith)

pub digits_said : (source : List ℕ) (t : Token) → class_of source t ≡ digit_text → law.is_count (units_of (text_of source t)) ≡ true
unfolding class_of
digits_said source t h = digits_as source t t.kind h

-- ---- values of whole numbers, by their classes

pub precision_of : (v : ℕ) → number_1 ≤ whole_class v → whole_class v ≤ number_38 → (1 ≤ v) × (v ≤ 38)
precision_of v h k = (grind (arith, nat_tests), grind (arith, nat_tests))

pub length_of : (v : ℕ) → number_1 ≤ whole_class v → whole_class v ≤ number_4000 → (1 ≤ v) × (v ≤ 4000)
length_of v h k = (grind (arith, nat_tests), grind (arith, nat_tests))

pub positive_of : (v : ℕ) → number_1 ≤ whole_class v → 1 ≤ v
positive_of v h = grind (arith, nat_tests)

pub scale_within : (v w : ℕ) → whole_class v ≤ whole_class w → whole_class w ≤ number_38 → v ≤ w
scale_within v w h k = grind (arith, nat_tests)
