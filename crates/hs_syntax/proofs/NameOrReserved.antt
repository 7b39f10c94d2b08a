-- A word is a name of the literal grammar exactly where it is not reserved.
use Rattle.std.proofs.Common.{◌≡◌, ◌↔◌, ℕ, suc, ◌<◌, Bool, true, false, not, ◌&&◌, ◌||◌, eqb, nat_eq, ltb, T, List, [], ◌∷◌, ◌++◌, length, refl, ap, sym, ◌∙◌, subst, ◌⊎◌, inl, inr}
use Rattle.std.proofs.Math.Facts.{eqb_yes, ltb_yes}
use Rattle.std.specs.List.{list_any}
use Rattle.hs_grammar.proofs.Sets.{and_left, and_right, all_at}
use Rattle.hs_grammar.specs.Check.{all_below}
use Rattle.hs_grammar.specs.declared.types.Item.{Item}
use Rattle.hs_grammar.specs.declared.types.Item.TheVariants as I
use Rattle.hs_grammar.specs.Grammar.{whole, tokens_of}
use Rattle.hs_syntax.specs.Classes.{word_class}
use Rattle.hs_syntax.specs.Marks as mark_of
use Rattle.hs_syntax.specs.Names as names
use Rattle.hs_syntax.specs.Literal.{Part, word, span, scaled, mark, rule, productions, production, Writes, ends, takes, builds, goes_on}
use Rattle.hs_syntax.specs.Reserved.{is_reserved, IsName}
use Rattle.hs_syntax.specs.Words.{name_classes}
use Rattle.hs_syntax.proofs.Runs.{Parts, parted}
use Rattle.hs_syntax.proofs.Rewriting.{alternative, parts_eq, parts_same}

abbrev is_one : ℕ → List ℕ → Bool
is_one c cs = list_any (λ d. nat_eq d c) cs

-- ---- what the rule writes is one of the classes

or_both : (a b : Bool) → T (a || b) → T a ⊎ T b
or_both true b h = inl tt
or_both false b h = inr h

or_left : (a b : Bool) → T a → T (a || b)
or_left true b h = tt
or_left false b h = absurd h

or_right : (a b : Bool) → T b → T (a || b)
or_right true b h = tt
or_right false b h = h

abbrev among : List ℕ → ℕ → Bool
among [] c = false
among (x ∷ a) c = eqb x c || among a c

any_of : (a : List ℕ) (c : ℕ) → T (among a c) → T (is_one c a)
any_of [] c h = absurd h
any_of (x ∷ a) c h = elim (or_both (eqb x c) (among a c) h)
    [ inl e ↦ or_left (nat_eq x c) (is_one c a) e | inr e ↦ or_right (nat_eq x c) (is_one c a) (any_of a c e) ]

abbrev writes_one : List Part → Bool
writes_one (word c ∷ mark k ∷ []) = among name_classes c
writes_one _ = false

abbrev if_name : Bool → Bool → Bool
if_name true b = b
if_name false b = true

abbrev is_right : ℕ → Bool
is_right p = if_name (eqb (production p).from names.name) (writes_one (production p).parts)

all_right : T (all_below (length productions) is_right)
unfolding name_classes
all_right = tt

when_name : (b c : Bool) → T (if_name b c) → T b → T c
when_name true c h k = h
when_name false c h k = absurd k

head_same : (d c : ℕ) → d ∷ [] ≡ c ∷ [] → d ≡ c
head_same d c e = cc

-- what the rule writes is a token of one of the classes and a step; of other rules nothing is said
abbrev OfName : ℕ → List Item → List Item → Type 0
OfName n u z = T (eqb n names.name) → (c : ℕ) × (k : ℕ) × (z ≡ I.Token c ∷ I.Mark k ∷ u) × T (among name_classes c)

one_written : (s : List Part) (u z : List Item) → T (writes_one s) → Parts OfName s u z → (c : ℕ) × (k : ℕ) × (z ≡ I.Token c ∷ I.Mark k ∷ u) × T (among name_classes c)
one_written (word d ∷ mark k ∷ []) u z h m = (d, k, m.1 ∙ ap (λ b. I.Token d ∷ b) (m.2.1 ∙ ap (λ b. I.Mark k ∷ b) m.2.2), h)
one_written [] u z h m = absurd h
one_written (word d ∷ []) u z h m = absurd h
one_written (word d ∷ word k ∷ s) u z h m = absurd h
one_written (word d ∷ span k l ∷ s) u z h m = absurd h
one_written (word d ∷ scaled ∷ s) u z h m = absurd h
one_written (word d ∷ rule k ∷ s) u z h m = absurd h
one_written (word d ∷ mark k ∷ x ∷ s) u z h m = absurd h
one_written (span k l ∷ s) u z h m = absurd h
one_written (scaled ∷ s) u z h m = absurd h
one_written (mark k ∷ s) u z h m = absurd h
one_written (rule k ∷ s) u z h m = absurd h

kept : (p : ℕ) → p < length productions → (u z : List Item) → Parts OfName (production p).parts u z → OfName (production p).from u z
kept p l u z m n =
    one_written (production p).parts u z
    (when_name (eqb (production p).from names.name) (writes_one (production p).parts) (all_at (length productions) is_right p all_right l) n) m

spelt : (c k d : ℕ) (y w : List Item) → y ≡ [] → w ≡ I.Token d ∷ I.Mark k ∷ y → tokens_of w ≡ c ∷ [] → d ≡ c
spelt c k d y w e f g = head_same d c (sym (ap tokens_of (f ∙ ap (λ b. I.Token d ∷ I.Mark k ∷ b) e)) ∙ g)

name_written : (w : List Item) (c : ℕ) → Writes whole (rule names.name ∷ []) w → tokens_of w ≡ c ∷ [] → T (is_one c name_classes)
name_written w c d e =
    let m = parted OfName kept d in let o = m.1 tt in
    any_of name_classes c (subst (λ b. T (among name_classes b)) (spelt c o.1 o.0 m.0 w m.2 o.2 e) o.3)

-- ---- each of the classes is written

abbrev written_by : ℕ → ℕ → Bool
written_by c p = (ltb p (length productions) && eqb (production p).from names.name) && parts_eq (production p).parts (word c ∷ mark mark_of.name ∷ [])

abbrev in_order : List ℕ → ℕ → Bool
in_order [] k = true
in_order (c ∷ cs) k = written_by c (alternative names.name k) && in_order cs (suc k)

all_in_order : T (in_order name_classes 0)
unfolding name_classes
all_in_order = tt

by_production : (c p : ℕ) → T (written_by c p) → Writes whole (rule names.name ∷ []) (I.Token c ∷ I.Mark mark_of.name ∷ [])
by_production c p h =
    let a = ltb p (length productions) in let b = eqb (production p).from names.name in let e = parts_eq (production p).parts (word c ∷ mark mark_of.name ∷ []) in
    goes_on p (ltb_yes (and_left a b (and_left (a && b) e h))) (eqb_yes (and_right a b (and_left (a && b) e h)))
    (subst (λ s. Writes whole (s ++ []) (I.Token c ∷ I.Mark mark_of.name ∷ [])) (sym (parts_same (production p).parts (word c ∷ mark mark_of.name ∷ []) (and_right (a && b) e h))) (takes (builds ends)))

found : (cs : List ℕ) (k c : ℕ) → T (in_order cs k) → T (is_one c cs) → Writes whole (rule names.name ∷ []) (I.Token c ∷ I.Mark mark_of.name ∷ [])
found [] k c h f = absurd f
found (d ∷ cs) k c h f =
    let a = written_by d (alternative names.name k) in
    elim (or_both (nat_eq d c) (is_one c cs) f) [
      | inl e ↦ subst (λ b. Writes whole (rule names.name ∷ []) (I.Token b ∷ I.Mark mark_of.name ∷ [])) (eqb_yes e) (by_production d (alternative names.name k) (and_left a (in_order cs (suc k)) h))
      | inr e ↦ found cs (suc k) c (and_right a (in_order cs (suc k)) h) e
    ]

-- ---- both

not_not : (b : Bool) → not b ≡ false → T b
not_not true e = tt
not_not false e = cc

no_more : (b : Bool) → T b → not b ≡ false
no_more true h = refl
no_more false h = absurd h

pub name_or_reserved : (spelled : List ℕ) → (is_reserved spelled ≡ false) ↔ IsName spelled
name_or_reserved spelled = (
  (λ e. (I.Token (word_class spelled) ∷ I.Mark mark_of.name ∷ [], found name_classes 0 (word_class spelled) all_in_order (not_not (is_one (word_class spelled) name_classes) e), refl)),
  (λ n. no_more (is_one (word_class spelled) name_classes) (name_written n.0 (word_class spelled) n.1 n.2)),
)

pub name_exactly : (spelled : List ℕ) (is_name : Bool) (class : ℕ) → is_name ≡ is_one class name_classes → class ≡ word_class spelled → (not is_name ≡ false) ↔ IsName spelled
name_exactly spelled is_name class e f =
    subst (λ b. (not b ≡ false) ↔ IsName spelled) (sym (e ∙ ap (λ x. is_one x name_classes) f)) (name_or_reserved spelled)
