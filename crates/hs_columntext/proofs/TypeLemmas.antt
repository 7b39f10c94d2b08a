-- Types as they are read.
use Rattle.std.proofs.Common.{◌≡◌, ◌≢◌, ℕ, pos, ◌+◌, ◌*◌, ◌≤◌, ◌<◌, ◌^◌, Bool, true, false, ◌&&◌, leb, eqb, get_or, if◌then◌else◌, List, [], ◌∷◌, ◌++◌, length, take, drop, None, Some, inl, inr, refl, sym, ap, subst, ◌∙◌, append_assoc, arith}
use Rattle.std.specs.Prelude.{codes}
use Rattle.std.specs.Fmt.{decimal}
use Rattle.std.specs.List.{list_any}
use Rattle.std.specs.Str.Pattern.{FindsChar, HasCharAt}
use Rattle.std.proofs.lemmas.Bool.{and_parts, or_cases, leb-true, le-leb, lt-ltb, eqb-true}
use Rattle.std.proofs.lemmas.List.{take-append-drop}
use Rattle.std.proofs.lemmas.Str.Pattern.{NoCharPasses-char, drop_at_char}
use Rattle.hs_values.specs.declared.sql_type.SqlType.{SqlType}
use Rattle.hs_values.specs.declared.sql_type.SqlType.TheVariants as t
use Rattle.hs_values.specs.declared.value.Value.TheVariants as v
use Rattle.hs_valuetext.specs.Types.{type_text, is_type}
use Rattle.hs_valuetext.specs.Values.{is_end, IsUnsigned}
use Rattle.hs_valuetext.proofs.Bits.{or_false, not_both}
use Rattle.hs_valuetext.proofs.Ends.{endless}
use Rattle.hs_valuetext.proofs.NumberLemmas.{same_front}
use Rattle.hs_valuetext.proofs.QuoteLemmas.{Lacks, lacks_each, lacks_not, split_lacks}
use Rattle.hs_valuetext.proofs.TextLemmas.{Alone}
use Rattle.hs_columntext.specs.Types.{IsTypeAt, is_word, IsWordAt, IsBoundedAt, IsBehind}

-- ---- the first two bytes tell the types apart, but for their numbers

bare : SqlType → SqlType
bare (t.Decimal precision scale) = t.Decimal 0 0
bare (t.Varchar most) = t.Varchar 0
bare x = x

tag_at : List ℕ → ℕ
tag_at text = get_or text 0 0 * 256 + get_or text 1 0

bare_of : ℕ → SqlType
bare_of tag =
    if eqb tag 21_325 then t.Small
    else if eqb tag 18_766 then t.Integer
    else if eqb tag 16_969 then t.Big
    else if eqb tag 16_975 then t.Bool
    else if eqb tag 17_473 then t.Date
    else if eqb tag 21_577 then t.Stamp
    else if eqb tag 17_477 then t.Decimal 0 0
    else t.Varchar 0

bare_at : List ℕ → SqlType
bare_at text = bare_of (tag_at text)

bare_text : (x : SqlType) (rest : List ℕ) → bare_at (type_text x ++ rest) ≡ bare x
unfolding bare_at bare_of tag_at bare
bare_text t.Small rest = refl
bare_text t.Integer rest = refl
bare_text t.Big rest = refl
bare_text t.Bool rest = refl
bare_text t.Date rest = refl
bare_text t.Stamp rest = refl
bare_text (t.Decimal precision scale) rest = refl
bare_text (t.Varchar most) rest = refl

same_bare : (x y : SqlType) (rest others : List ℕ) → type_text x ++ rest ≡ type_text y ++ others → bare x ≡ bare y
same_bare x y rest others e = sym (bare_text x rest) ∙ ap bare_at e ∙ bare_text y others

word_bare : (x : SqlType) → is_word x ≡ true → bare x ≡ x
unfolding bare
word_bare t.Small w = refl
word_bare t.Integer w = refl
word_bare t.Big w = refl
word_bare t.Bool w = refl
word_bare t.Date w = refl
word_bare t.Stamp w = refl
word_bare (t.Decimal precision scale) w = absurd cc
word_bare (t.Varchar most) w = absurd cc

-- ---- words

pub word_found : (text : List ℕ) (x : SqlType) (rest : List ℕ) → is_word x ≡ true → text ≡ type_text x ++ rest → Alone (IsWordAt text) x rest
word_found text x rest word e = (
  record { word = word; written = e },
  λ y others h.
      let is : y ≡ x = sym (word_bare y h.word) ∙ same_bare y x others rest (sym h.written ∙ e) ∙ word_bare x word in
      (is, same_front (type_text x) others rest (ap (λ (z : SqlType). type_text z ++ others) (sym is) ∙ sym h.written ∙ e)),
)

pub word_missing : (text : List ℕ) → ((rest : List ℕ) → text ≢ codes "SMALLINT" ++ rest) → ((rest : List ℕ) → text ≢ codes "INTEGER" ++ rest) → ((rest : List ℕ) → text ≢ codes "BIGINT" ++ rest) → ((rest : List ℕ) → text ≢ codes "BOOLEAN" ++ rest) → ((rest : List ℕ) → text ≢ codes "DATE" ++ rest) → ((rest : List ℕ) → text ≢ codes "TIMESTAMP" ++ rest) → (y : SqlType) (rest : List ℕ) → ¬ (IsWordAt text y rest)
word_missing text small integer big boolean date stamp t.Small rest h = small rest h.written
word_missing text small integer big boolean date stamp t.Integer rest h = integer rest h.written
word_missing text small integer big boolean date stamp t.Big rest h = big rest h.written
word_missing text small integer big boolean date stamp t.Bool rest h = boolean rest h.written
word_missing text small integer big boolean date stamp t.Date rest h = date rest h.written
word_missing text small integer big boolean date stamp t.Stamp rest h = stamp rest h.written
word_missing text small integer big boolean date stamp (t.Decimal precision scale) rest h = let word = h.word in absurd cc
word_missing text small integer big boolean date stamp (t.Varchar most) rest h = let word = h.word in absurd cc

-- ---- numbers in bounds

end_small : (q : ℕ) → is_end q ≡ true → q < 128
end_small q h = elim (or_cases (eqb q 44) (eqb q 41) h) [
  | inl comma ↦ let same = eqb-true q 44 comma in omega (arith, same)
  | inr close ↦ let same = eqb-true q 41 close in omega (arith, same)
]

lacks_end : (q : ℕ) (xs : List ℕ) → is_end q ≡ true → list_any is_end xs ≡ false → Lacks q xs
lacks_end q [] h none = tt
lacks_end q (x ∷ xs) h none =
    let parts = or_false (is_end x) (list_any is_end xs) none in
    (λ e. not_both (is_end x) (ap is_end e ∙ h) parts.0, lacks_end q xs h parts.1)

decimal_lacks : (q n : ℕ) → is_end q ≡ true → n < 2 ^ 16 → Lacks q (decimal n)
decimal_lacks q n h small = lacks_end q (decimal n) h (endless (v.Int (pos n)) refl (lt-ltb n (2 ^ 63) (omega (arith, small))))

-- a text cut at the first such byte
pub record Cut (q : ℕ) (text front behind : List ℕ) : Type 0 where
  pub parts : text ≡ front ++ q ∷ behind
  pub lacks : Lacks q front

pub cut : (q : ℕ) (text front behind : List ℕ) → is_end q ≡ true → (i : ℕ) × (j : ℕ) × FindsChar q text (Some (i, j)) × (front ≡ take i text) × (behind ≡ drop j text) × (i ≤ j) × (length front ≡ i) × (length behind + j ≡ length text) → Cut q text front behind
cut q text front behind close h =
    let small : q < 128 = end_small q close in
    let at : HasCharAt q text h.0 h.1 = h.2.1 in
    record {
      parts =
          sym (take-append-drop h.0 text) ∙ ap (λ (xs : List ℕ). take h.0 text ++ xs) (drop_at_char q text h.0 h.1 at small ∙ ap (λ (xs : List ℕ). q ∷ xs) (sym h.4))
          ∙ ap (λ (xs : List ℕ). xs ++ q ∷ behind) (sym h.3);
      lacks = subst (Lacks q) (sym h.3) (lacks_each q (take h.0 text) (λ k below. NoCharPasses-char q (take h.0 text) k h.2.0 small below));
    }

pub uncut : (q : ℕ) (text : List ℕ) → is_end q ≡ true → FindsChar q text None → Lacks q text
uncut q text close h = lacks_each q text (λ k below. NoCharPasses-char q text k h (end_small q close) below)

number_cut : (least most q : ℕ) (text front behind : List ℕ) → is_end q ≡ true → most < 2 ^ 16 → Cut q text front behind → (m : ℕ) (others : List ℕ) → IsBoundedAt least most q text m others → (decimal m ≡ front) × (others ≡ behind)
number_cut least most q text front behind close small cut_at m others h =
    split_lacks q (decimal m) others front behind (decimal_lacks q m close (omega (arith, small, h.high))) cut_at.lacks (sym h.written ∙ cut_at.parts)

as_unsigned : (most m : ℕ) (front : List ℕ) → most < 2 ^ 16 → m ≤ most → decimal m ≡ front → IsUnsigned front m
as_unsigned most m front small high is = record { lawful = omega (arith, small, high); written = is }

pub bounded_found : (least most q : ℕ) (text front behind : List ℕ) (n : ℕ) → is_end q ≡ true → most < 2 ^ 16 → Cut q text front behind → IsUnsigned front n × ((m : ℕ) → IsUnsigned front m → m ≡ n) → least ≤ n → n ≤ most → Alone (IsBoundedAt least most q text) n behind
bounded_found least most q text front behind n close small cut_at known low high = (
  record { low = low; high = high; written = cut_at.parts ∙ ap (λ (xs : List ℕ). xs ++ q ∷ behind) (sym known.0.written) },
  λ m others h.
      let same = number_cut least most q text front behind close small cut_at m others h in
      (known.1 m (as_unsigned most m front small h.high same.0), same.1),
)

pub bounded_no_number : (least most q : ℕ) (text front behind : List ℕ) → is_end q ≡ true → most < 2 ^ 16 → Cut q text front behind → ((m : ℕ) → ¬ (IsUnsigned front m)) → (m : ℕ) (others : List ℕ) → ¬ (IsBoundedAt least most q text m others)
bounded_no_number least most q text front behind close small cut_at none m others h =
    none m (as_unsigned most m front small h.high (number_cut least most q text front behind close small cut_at m others h).0)

pub bounded_out : (least most q : ℕ) (text front behind : List ℕ) (n : ℕ) → is_end q ≡ true → most < 2 ^ 16 → Cut q text front behind → IsUnsigned front n × ((m : ℕ) → IsUnsigned front m → m ≡ n) → (least ≤ n → n ≤ most → ⊥) → (m : ℕ) (others : List ℕ) → ¬ (IsBoundedAt least most q text m others)
bounded_out least most q text front behind n close small cut_at known out m others h =
    let is : m ≡ n = known.1 m (as_unsigned most m front small h.high (number_cut least most q text front behind close small cut_at m others h).0) in
    out (subst (λ (k : ℕ). least ≤ k) is h.low) (subst (λ (k : ℕ). k ≤ most) is h.high)

pub bounded_unclosed : (least most q : ℕ) (text : List ℕ) → Lacks q text → (m : ℕ) (others : List ℕ) → ¬ (IsBoundedAt least most q text m others)
bounded_unclosed least most q text lacks m others h = lacks_not q (decimal m) others (subst (Lacks q) h.written lacks)

-- ---- DECIMAL

record Decimals (text : List ℕ) (y : SqlType) (others : List ℕ) : Type 0 where
  precision : ℕ
  scale : ℕ
  is : y ≡ t.Decimal precision scale
  first : IsBoundedAt 1 38 44 text precision (decimal scale ++ (codes ")" ++ others))
  second : IsBoundedAt 0 precision 41 (decimal scale ++ (codes ")" ++ others)) scale others

two_numbers : (a b rest : List ℕ) → (((a ++ codes ",") ++ b) ++ codes ")") ++ rest ≡ a ++ (codes "," ++ (b ++ (codes ")" ++ rest)))
two_numbers a b rest = append_assoc ((a ++ codes ",") ++ b) (codes ")") rest ∙ append_assoc (a ++ codes ",") b (codes ")" ++ rest) ∙ append_assoc a (codes ",") (b ++ (codes ")" ++ rest))

is_decimal : SqlType → Bool
is_decimal (t.Decimal precision scale) = true
is_decimal y = false

is_varchar : SqlType → Bool
is_varchar (t.Varchar most) = true
is_varchar y = false

decimal_bare : (y : SqlType) → is_decimal (bare y) ≡ is_decimal y
unfolding bare is_decimal
decimal_bare t.Small = refl
decimal_bare t.Integer = refl
decimal_bare t.Big = refl
decimal_bare t.Bool = refl
decimal_bare t.Date = refl
decimal_bare t.Stamp = refl
decimal_bare (t.Decimal precision scale) = refl
decimal_bare (t.Varchar most) = refl

varchar_bare : (y : SqlType) → is_varchar (bare y) ≡ is_varchar y
unfolding bare is_varchar
varchar_bare t.Small = refl
varchar_bare t.Integer = refl
varchar_bare t.Big = refl
varchar_bare t.Bool = refl
varchar_bare t.Date = refl
varchar_bare t.Stamp = refl
varchar_bare (t.Decimal precision scale) = refl
varchar_bare (t.Varchar most) = refl

begins_decimal : (text : List ℕ) → is_decimal (bare_at (codes "DECIMAL(" ++ text)) ≡ true
unfolding bare_at bare_of tag_at is_decimal
begins_decimal text = refl

begins_varchar : (text : List ℕ) → is_varchar (bare_at (codes "VARCHAR(" ++ text)) ≡ true
unfolding bare_at bare_of tag_at is_varchar
begins_varchar text = refl

decimals_by : (text : List ℕ) (y : SqlType) (others : List ℕ) → is_decimal y ≡ true → IsBehind (codes "DECIMAL(") text y others → Decimals text y others
unfolding is_decimal
decimals_by text (t.Decimal p s) others is h =
    let outer = and_parts (leb 1 p && leb p 38) (leb s p) h.lawful in
    let inner = and_parts (leb 1 p) (leb p 38) outer.0 in
    record {
      precision = p;
      scale = s;
      is = refl;
      first = record { low = leb-true 1 p inner.0; high = leb-true p 38 inner.1; written = same_front (codes "DECIMAL(") text _ h.written ∙ two_numbers (decimal p) (decimal s) others };
      second = record { low = omega arith; high = leb-true s p outer.1; written = refl };
    }
decimals_by text t.Small others is h = absurd cc
decimals_by text t.Integer others is h = absurd cc
decimals_by text t.Big others is h = absurd cc
decimals_by text t.Bool others is h = absurd cc
decimals_by text t.Date others is h = absurd cc
decimals_by text t.Stamp others is h = absurd cc
decimals_by text (t.Varchar most) others is h = absurd cc

decimals : (text : List ℕ) (y : SqlType) (others : List ℕ) → IsBehind (codes "DECIMAL(") text y others → Decimals text y others
decimals text y others h =
    decimals_by text y others (sym (decimal_bare y) ∙ ap is_decimal (sym (bare_text y others)) ∙ ap (λ (xs : List ℕ). is_decimal (bare_at xs)) (sym h.written) ∙ begins_decimal text) h

pub decimal_found : (text middle rest : List ℕ) (p s : ℕ) → Alone (IsBoundedAt 1 38 44 text) p middle → Alone (IsBoundedAt 0 p 41 middle) s rest → Alone (IsBehind (codes "DECIMAL(") text) (t.Decimal p s) rest
decimal_found text middle rest p s first second = (
  record {
    lawful = rw (le-leb 1 p first.0.low, le-leb p 38 first.0.high, le-leb s p second.0.high) refl;
    written =
        ap (λ (xs : List ℕ). codes "DECIMAL(" ++ xs)
        (first.0.written ∙ ap (λ (xs : List ℕ). decimal p ++ (codes "," ++ xs)) second.0.written ∙ sym (two_numbers (decimal p) (decimal s) rest));
  },
  λ y others h.
      let parts = decimals text y others h in
      let one = first.1 parts.precision (decimal parts.scale ++ (codes ")" ++ others)) parts.first in
      let at : IsBoundedAt 0 p 41 middle parts.scale others = record { low = omega arith; high = subst (λ (k : ℕ). parts.scale ≤ k) one.0 parts.second.high; written = sym one.1 } in
      let two = second.1 parts.scale others at in
      (parts.is ∙ (λ i. t.Decimal (one.0 i) (two.0 i)), two.1),
)

pub decimal_unscaled : (text middle : List ℕ) (p : ℕ) → Alone (IsBoundedAt 1 38 44 text) p middle → ((s : ℕ) (r : List ℕ) → ¬ (IsBoundedAt 0 p 41 middle s r)) → (y : SqlType) (others : List ℕ) → ¬ (IsBehind (codes "DECIMAL(") text y others)
decimal_unscaled text middle p first none y others h =
    let parts = decimals text y others h in
    let one = first.1 parts.precision (decimal parts.scale ++ (codes ")" ++ others)) parts.first in
    none parts.scale others (record { low = omega arith; high = subst (λ (k : ℕ). parts.scale ≤ k) one.0 parts.second.high; written = sym one.1 })

pub decimal_unbegun : (text : List ℕ) → ((p : ℕ) (r : List ℕ) → ¬ (IsBoundedAt 1 38 44 text p r)) → (y : SqlType) (others : List ℕ) → ¬ (IsBehind (codes "DECIMAL(") text y others)
decimal_unbegun text none y others h =
    let parts = decimals text y others h in
    none parts.precision (decimal parts.scale ++ (codes ")" ++ others)) parts.first

-- ---- VARCHAR

record Characters (text : List ℕ) (y : SqlType) (others : List ℕ) : Type 0 where
  most : ℕ
  is : y ≡ t.Varchar most
  at : IsBoundedAt 1 4_000 41 text most others

characters_by : (text : List ℕ) (y : SqlType) (others : List ℕ) → is_varchar y ≡ true → IsBehind (codes "VARCHAR(") text y others → Characters text y others
unfolding is_varchar
characters_by text (t.Varchar n) others is h =
    let parts = and_parts (leb 1 n) (leb n 4_000) h.lawful in
    record { most = n; is = refl; at = record { low = leb-true 1 n parts.0; high = leb-true n 4_000 parts.1; written = same_front (codes "VARCHAR(") text _ h.written ∙ append_assoc (decimal n) (codes ")") others } }
characters_by text t.Small others is h = absurd cc
characters_by text t.Integer others is h = absurd cc
characters_by text t.Big others is h = absurd cc
characters_by text t.Bool others is h = absurd cc
characters_by text t.Date others is h = absurd cc
characters_by text t.Stamp others is h = absurd cc
characters_by text (t.Decimal precision scale) others is h = absurd cc

characters : (text : List ℕ) (y : SqlType) (others : List ℕ) → IsBehind (codes "VARCHAR(") text y others → Characters text y others
characters text y others h =
    characters_by text y others (sym (varchar_bare y) ∙ ap is_varchar (sym (bare_text y others)) ∙ ap (λ (xs : List ℕ). is_varchar (bare_at xs)) (sym h.written) ∙ begins_varchar text) h

pub varchar_found : (text rest : List ℕ) (n : ℕ) → Alone (IsBoundedAt 1 4_000 41 text) n rest → Alone (IsBehind (codes "VARCHAR(") text) (t.Varchar n) rest
varchar_found text rest n found = (
  record {
    lawful = rw (le-leb 1 n found.0.low, le-leb n 4_000 found.0.high) refl;
    written = ap (λ (xs : List ℕ). codes "VARCHAR(" ++ xs) (found.0.written ∙ sym (append_assoc (decimal n) (codes ")") rest));
  },
  λ y others h.
      let parts = characters text y others h in
      let one = found.1 parts.most others parts.at in
      (parts.is ∙ ap t.Varchar one.0, one.1),
)

pub varchar_missing : (text : List ℕ) → ((n : ℕ) (r : List ℕ) → ¬ (IsBoundedAt 1 4_000 41 text n r)) → (y : SqlType) (others : List ℕ) → ¬ (IsBehind (codes "VARCHAR(") text y others)
varchar_missing text none y others h =
    let parts = characters text y others h in
    none parts.most others parts.at

-- ---- each type

pub behind_type : (word text inner : List ℕ) → text ≡ word ++ inner → (y : SqlType) (rest : List ℕ) → IsBehind word inner y rest → IsTypeAt text y rest
behind_type word text inner e y rest h = record { lawful = h.lawful; written = e ∙ h.written }

pub type_behind : (word text inner : List ℕ) → text ≡ word ++ inner → (y : SqlType) (rest : List ℕ) → IsTypeAt text y rest → IsBehind word inner y rest
type_behind word text inner e y rest h = record { lawful = h.lawful; written = sym e ∙ h.written }

word_lawful : (x : SqlType) → is_word x ≡ true → is_type x ≡ true
word_lawful t.Small w = refl
word_lawful t.Integer w = refl
word_lawful t.Big w = refl
word_lawful t.Bool w = refl
word_lawful t.Date w = refl
word_lawful t.Stamp w = refl
word_lawful (t.Decimal precision scale) w = absurd cc
word_lawful (t.Varchar most) w = absurd cc

pub word_type : (text : List ℕ) (y : SqlType) (rest : List ℕ) → IsWordAt text y rest → IsTypeAt text y rest
word_type text y rest h = record { lawful = word_lawful y h.word; written = h.written }

pub type_word : (text : List ℕ) → ((r : List ℕ) → text ≢ codes "DECIMAL(" ++ r) → ((r : List ℕ) → text ≢ codes "VARCHAR(" ++ r) → (y : SqlType) (rest : List ℕ) → IsTypeAt text y rest → IsWordAt text y rest
type_word text decimal_not varchar_not t.Small rest h = record { word = refl; written = h.written }
type_word text decimal_not varchar_not t.Integer rest h = record { word = refl; written = h.written }
type_word text decimal_not varchar_not t.Big rest h = record { word = refl; written = h.written }
type_word text decimal_not varchar_not t.Bool rest h = record { word = refl; written = h.written }
type_word text decimal_not varchar_not t.Date rest h = record { word = refl; written = h.written }
type_word text decimal_not varchar_not t.Stamp rest h = record { word = refl; written = h.written }
type_word text decimal_not varchar_not (t.Decimal p s) rest h = absurd (decimal_not ((((decimal p ++ codes ",") ++ decimal s) ++ codes ")") ++ rest) h.written)
type_word text decimal_not varchar_not (t.Varchar n) rest h = absurd (varchar_not ((decimal n ++ codes ")") ++ rest) h.written)
