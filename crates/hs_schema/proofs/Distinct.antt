-- Names and numbers that differ go on doing so.
use Rattle.std.proofs.Common.{◌≡◌, ℕ, ◌≤◌, ◌<◌, Bool, true, false, cond, ◌||◌, not, ◌+◌, nat_eq, filter, length, take, drop, get_or, ◌↔◌, List, [], ◌∷◌, ◌++◌, map, Some, None, refl, sym, ap, ◌∙◌, subst, arith, append_assoc}
use Rattle.std.proofs.lemmas.List.{append-nil, map-append, take_all}
use Rattle.std.proofs.lemmas.List.Elements.{All-head, All-tail, All-append, All-filter}
use Rattle.std.proofs.lemmas.Map.Keys.{IsDistinct-head, IsDistinct-tail, IsDistinct-cons, IsDistinct-push}
use Rattle.std.proofs.lemmas.Bool.Decides.{nat_tests}
use Rattle.std.specs.Cmp.{IsEquivalence}
use Rattle.std.specs.List.{All, AllByRecursion, IsDistinct, list_any}
use Rattle.std.specs.Map.{lookup}
use Rattle.std.specs.Str.{bytes_eq}
use Rattle.hs_base.specs.declared.numbers.TableNo.{TableNo}
use Rattle.hs_plan.specs.declared.definition.Constraint.{Constraint}
use Rattle.hs_schema.specs.declared.thing.Part.{Part}
use Rattle.hs_schema.specs.declared.thing.Part.TheVariants as part
use Rattle.hs_schema.specs.declared.thing.Thing.{Thing}
use Rattle.hs_schema.specs.Catalogue.{Text, Things, named, named_in, owned, owned_in}
use Rattle.hs_schema.specs.Kept.{IsFree, AreFree}
use Rattle.hs_schema.specs.Whole.{Ascends, names, numbers}
use Rattle.hs_schema.proofs.Lists.{same_text, text_itself}

-- ---- texts

same_texts : (a b c : Text) → bytes_eq a b ≡ true → bytes_eq a c ≡ bytes_eq b c
same_texts a b c h = ap (λ t. bytes_eq t c) (same_text a b h)

flipped_texts : (a b : Text) → bytes_eq a b ≡ bytes_eq b a
flipped_texts a b = by (bytes_eq a b) (bytes_eq b a) refl refl
  where
    by : (x y : Bool) → bytes_eq a b ≡ x → bytes_eq b a ≡ y → x ≡ y
    by true true p q = refl
    by false false p q = refl
    by true false p q = let e : bytes_eq b a ≡ true = ap (bytes_eq b) (same_text a b p) ∙ text_itself b in cc
    by false true p q = let e : bytes_eq a b ≡ true = ap (bytes_eq a) (same_text b a q) ∙ text_itself a in cc

pub texts_equal : IsEquivalence bytes_eq
texts_equal = record { refl = text_itself; symm = flipped_texts; congr = same_texts }

-- ---- what stays of a list

module _ {X K : Type 0} (eq : K → K → Bool) (f : X → K) (p : X → Bool) where
  all-filter : (P : K → Type 0) (xs : List X) → AllByRecursion P (map f xs) → AllByRecursion P (map f (filter p xs))
  all-filter P [] h = h
  all-filter P (x ∷ xs) h = by (p x) (all-filter P xs h.1)
    where
      by : (b : Bool) → AllByRecursion P (map f (filter p xs)) → AllByRecursion P (map f (cond b (x ∷ filter p xs) (filter p xs)))
      by true rest = (h.0, rest)
      by false rest = rest

  pub distinct-filter : (xs : List X) → IsDistinct eq (map f xs) → IsDistinct eq (map f (filter p xs))
  distinct-filter [] d = d
  distinct-filter (x ∷ xs) d = by (p x) (all-filter (λ y. eq (f x) y ≡ false) xs (IsDistinct-head eq (f x) (map f xs) d)) (distinct-filter xs (IsDistinct-tail eq (f x) (map f xs) d))
    where
      by : (b : Bool) → AllByRecursion (λ y. eq (f x) y ≡ false) (map f (filter p xs)) → IsDistinct eq (map f (filter p xs)) → IsDistinct eq (map f (cond b (x ∷ filter p xs) (filter p xs)))
      by true apart rest = IsDistinct-cons eq (f x) (map f (filter p xs)) apart rest
      by false apart rest = rest

pub ascends-filter : (p : Thing → Bool) (ts : Things) → Ascends ts → Ascends (filter p ts)
ascends-filter p [] a = a
ascends-filter p (t ∷ ts) a = by (p t) (All-filter p (λ (u : Thing). t.number ≤ u.number) ts a.0) (ascends-filter p ts a.1)
  where
    by : (b : Bool) → All (λ (u : Thing). t.number ≤ u.number) (filter p ts) → Ascends (filter p ts) → Ascends (cond b (t ∷ filter p ts) (filter p ts))
    by true above rest = (above, rest)
    by false above rest = rest

-- ---- what comes behind a list

pub ascends-append : (ts more : Things) → Ascends ts → Ascends more → All (λ (t : Thing). All (λ (u : Thing). t.number ≤ u.number) more) ts → Ascends (ts ++ more)
ascends-append [] more a b above = b
ascends-append (t ∷ ts) more a b above = (
  All-append (λ (u : Thing). t.number ≤ u.number) ts more a.0 (All-head (λ (x : Thing). All (λ (u : Thing). x.number ≤ u.number) more) t ts above),
  ascends-append ts more a.1 b (All-tail (λ (x : Thing). All (λ (u : Thing). x.number ≤ u.number) more) t ts above),
)

pub absent : (es : List (Text × TableNo)) (n : Text) → lookup (bytes_eq n) es ≡ None → list_any (bytes_eq n) (names es) ≡ false
absent [] n h = refl
absent (e ∷ es) n h = by (bytes_eq n e.0) h (absent es n)
  where
    by : (b : Bool) → cond b (Some e.1) (lookup (bytes_eq n) es) ≡ None → (lookup (bytes_eq n) es ≡ None → list_any (bytes_eq n) (names es) ≡ false) → (b || list_any (bytes_eq n) (names es)) ≡ false
    by true h rest = cc
    by false h rest = rest h

pub names-push : (es : List (Text × TableNo)) (n : Text) (table : TableNo) → IsDistinct bytes_eq (names es) → lookup (bytes_eq n) es ≡ None → IsDistinct bytes_eq (names (es ++ (n, table) ∷ []))
names-push es n table d h = subst (IsDistinct bytes_eq) (sym (map-append (λ (e : Text × TableNo). e.0) es ((n, table) ∷ []))) (IsDistinct-push texts_equal (names es) n d (absent es n h))

pub free_distinct : (more : Things) (es : List (Text × TableNo)) → IsDistinct bytes_eq (names es) → AreFree es more → IsDistinct bytes_eq (names (es ++ owned more))
free_distinct [] es d free = subst (λ xs. IsDistinct bytes_eq (names xs)) (sym (append-nil es)) d
free_distinct (t ∷ ts) es d free =
    subst (λ xs. IsDistinct bytes_eq (names xs)) (append_assoc es (owned_in t.table t.part) (owned ts)) (free_distinct ts (es ++ owned_in t.table t.part) (by t.part free.0) free.1)
  where
    by : (p : Part) → IsFree es p → IsDistinct bytes_eq (names (es ++ owned_in t.table p))
    by (part.Table name storage columns) h = subst (λ xs. IsDistinct bytes_eq (names xs)) (sym (append-nil es)) d
    by (part.Column column) h = subst (λ xs. IsDistinct bytes_eq (names xs)) (sym (append-nil es)) d
    by (part.Constraint constraint) h = names-push es constraint.name t.table d h

-- a number above those of all things is none of their tables'
pub unused : (number : ℕ) (ts : Things) → All (λ (t : Thing). t.number < number) ts → All (λ (t : Thing). t.table.0 ≤ t.number) ts → list_any (nat_eq number) (numbers (named ts)) ≡ false
unused number [] below order = refl
unused number (t ∷ ts) below order =
    by t.part
    (other (All-head (λ (x : Thing). x.number < number) t ts below) (All-head (λ (x : Thing). x.table.0 ≤ x.number) t ts order))
    (unused number ts (All-tail (λ (x : Thing). x.number < number) t ts below) (All-tail (λ (x : Thing). x.table.0 ≤ x.number) t ts order))
  where
    other : t.number < number → t.table.0 ≤ t.number → nat_eq number t.table.0 ≡ false
    other one two = grind (arith, nat_tests, one, two)

    by : (p : Part) → nat_eq number t.table.0 ≡ false → list_any (nat_eq number) (numbers (named ts)) ≡ false → list_any (nat_eq number) (numbers (named_in t.table p ++ named ts)) ≡ false
    by (part.Table name storage columns) e rest = ap (λ b. b || list_any (nat_eq number) (numbers (named ts))) e ∙ rest
    by (part.Column column) e rest = rest
    by (part.Constraint constraint) e rest = rest

-- ---- the names of constraints

module _ (x : Text) where
  apart_all : (cs : List Constraint) → list_any (λ c. bytes_eq x c.name) cs ≡ false → AllByRecursion (λ y. bytes_eq x y ≡ false) (map (λ (c : Constraint). c.name) cs)
  apart_all [] h = tt
  apart_all (c ∷ cs) h = by (bytes_eq x c.name) refl h (apart_all cs)
    where
      by : (b : Bool) → bytes_eq x c.name ≡ b → (b || list_any (λ (k : Constraint). bytes_eq x k.name) cs) ≡ false
          → (list_any (λ (k : Constraint). bytes_eq x k.name) cs ≡ false → AllByRecursion (λ y. bytes_eq x y ≡ false) (map (λ (k : Constraint). k.name) cs))
          → (bytes_eq x c.name ≡ false) × AllByRecursion (λ y. bytes_eq x y ≡ false) (map (λ (k : Constraint). k.name) cs)
      by true e h rest = cc
      by false e h rest = (e, rest h)

  none_among : (cs : List Constraint) → AllByRecursion (λ y. bytes_eq x y ≡ false) (map (λ (c : Constraint). c.name) cs) → list_any (λ c. bytes_eq x c.name) cs ≡ false
  none_among [] h = refl
  none_among (c ∷ cs) h = ap (λ b. b || list_any (λ (k : Constraint). bytes_eq x k.name) cs) h.0 ∙ none_among cs h.1

pub none_distinct : (cs : List Constraint) → length cs < 1 → IsDistinct bytes_eq (map (λ (c : Constraint). c.name) cs)
unfolding IsDistinct
none_distinct [] h = tt
none_distinct (c ∷ cs) h = absurd (omega arith)

first_apart : (cs : List Constraint) (first : Constraint) → 1 ≤ length cs → first ≡ get_or cs 0 first
    → IsDistinct bytes_eq (map (λ (c : Constraint). c.name) cs) ↔ ((list_any (λ (c : Constraint). bytes_eq first.name c.name) (drop 1 cs) ≡ false) × IsDistinct bytes_eq (map (λ (c : Constraint). c.name) (drop 1 cs)))
first_apart [] first long is = absurd (omega arith)
first_apart (c ∷ cs) first long is = (
  λ d. (ap (λ (k : Constraint). list_any (λ (y : Constraint). bytes_eq k.name y.name) cs) is ∙ none_among c.name cs (IsDistinct-head bytes_eq c.name (map (λ (y : Constraint). y.name) cs) d), IsDistinct-tail bytes_eq c.name (map (λ (y : Constraint). y.name) cs) d),
  λ h. IsDistinct-cons bytes_eq c.name (map (λ (y : Constraint). y.name) cs) (apart_all c.name cs (sym (ap (λ (k : Constraint). list_any (λ (y : Constraint). bytes_eq k.name y.name) cs) is) ∙ h.0)) h.1,
)

-- what is behind the first
pub behind_first : (cs : List Constraint) (n : ℕ) → length cs ≤ n + 1 → take n (drop 1 cs) ≡ drop 1 cs
behind_first [] n long = take_all n [] (omega arith)
behind_first (c ∷ cs) n long = take_all n cs (omega arith)

module _ (cs rest : List Constraint) (first : Constraint) (name : Text) (among : Bool) (rest_is : rest ≡ drop 1 cs) (long : 1 ≤ length cs) (is : first ≡ get_or cs 0 first) (named_so : name ≡ first.name)
    (told : among ≡ list_any (λ (c : Constraint). bytes_eq name c.name) rest) where
  told_first : among ≡ list_any (λ (c : Constraint). bytes_eq first.name c.name) (drop 1 cs)
  told_first = told ∙ (λ i. list_any (λ (c : Constraint). bytes_eq (named_so i) c.name) (rest_is i))

  pub distinct_on : among ≡ false → (b : Bool) → ((b ≡ true) ↔ IsDistinct bytes_eq (map (λ (c : Constraint). c.name) rest)) → (b ≡ true) ↔ IsDistinct bytes_eq (map (λ (c : Constraint). c.name) cs)
  distinct_on none b others =
      let both = first_apart cs first long is in
      let D : List Constraint → Type 0 = λ xs. IsDistinct bytes_eq (map (λ (c : Constraint). c.name) xs) in
      (λ h. both.1 (sym told_first ∙ none, subst D rest_is (others.0 h)), λ d. others.1 (subst D (sym rest_is) (both.0 d).1))

  pub distinct_off : among ≡ true → (not among ≡ true) ↔ IsDistinct bytes_eq (map (λ (c : Constraint). c.name) cs)
  distinct_off found =
      let both = first_apart cs first long is in
      (λ h. let never : false ≡ true = sym (ap not found) ∙ h in cc, λ d. ap not (told_first ∙ (both.0 d).0))
