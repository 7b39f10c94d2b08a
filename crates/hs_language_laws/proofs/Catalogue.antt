-- What things of a whole catalogue are found as.
use Rattle.std.proofs.Common.{◌≡◌, inl, inr, true, false, List, [], ◌∷◌, find, filter, Option, None, Some, ◌++◌, eq-eqb, refl, sym, ap, subst, ◌∙◌}
use Rattle.std.specs.List.{AllByRecursion, Contains, IsDistinct, flat_map}
use Rattle.std.specs.Option.{option_map_or}
use Rattle.std.specs.Prelude.{nat_eq}
use Rattle.std.specs.Str.{bytes_eq}
use Rattle.std.proofs.lemmas.List.Elements.{Contains-append_left, Contains-append_right}
use Rattle.hs_base.specs.declared.numbers.TableNo.{TableNo}
use Rattle.hs_plan.specs.declared.definition.Constraint.{Constraint}
use Rattle.hs_rel.proofs.Selecting.{at_head, from_filter, head_or_tail, nothing_in, to_filter}
use Rattle.hs_schema.specs.Catalogue.{Text, Things, columns_in, constraints_in, is_of, is_table, owned, owned_in, table_numbered, table_with}
use Rattle.hs_schema.specs.Whole.{IsWhole, names}
use Rattle.hs_schema.specs.declared.table.Table.{Table}
use Rattle.hs_schema.specs.declared.thing.Part.{Part}
use Rattle.hs_schema.specs.declared.thing.Part.TheVariants as part
use Rattle.hs_schema.specs.declared.thing.Thing.{Thing}
use Rattle.hs_schema.proofs.Lists.{text_itself}
use Rattle.hs_schema.proofs.Things.{same_number}
use Rattle.hs_language_laws.proofs.Lists.{from_flat, to_flat}

-- ---- constraints by their names

-- a thing that is a constraint
pub record Holds (things : Things) (table : TableNo) (c : Constraint) : Type 0 where
  pub thing : Thing
  pub there : Contains things thing
  pub of : thing.table ≡ table
  pub is : Contains (constraints_in thing.part) c

in_part : (p : Part) (c d : Constraint) → Contains (constraints_in p) c → Contains (constraints_in p) d → c ≡ d
in_part (part.Table name storage columns) c d cs ds = absurd (nothing_in c cs)
in_part (part.Column column) c d cs ds = absurd (nothing_in c cs)
in_part (part.Constraint x) c d cs ds = elim (head_or_tail x [] c cs) [
  | inl same ↦ elim (head_or_tail x [] d ds) [
    | inl other ↦ sym same ∙ other
    | inr none ↦ absurd (nothing_in d none)
  ]
  | inr none ↦ absurd (nothing_in c none)
]

name_in : (table : TableNo) (p : Part) (c : Constraint) → Contains (constraints_in p) c → Contains (names (owned_in table p)) c.name
name_in table (part.Table name storage columns) c found = absurd (nothing_in c found)
name_in table (part.Column column) c found = absurd (nothing_in c found)
name_in table (part.Constraint x) c found = elim (head_or_tail x [] c found) [
  | inl same ↦ subst (λ (y : Constraint). Contains (x.name ∷ []) y.name) same (at_head x.name [])
  | inr none ↦ absurd (nothing_in c none)
]

names_append : (xs ys : List (Text × TableNo)) → names (xs ++ ys) ≡ names xs ++ names ys
names_append [] ys = refl
names_append (x ∷ xs) ys = ap (λ (ns : List Text). x.0 ∷ ns) (names_append xs ys)

name_among : (things : Things) (t : Thing) (c : Constraint) → Contains things t → Contains (constraints_in t.part) c → Contains (names (owned things)) c.name
name_among [] t c found is = absurd (nothing_in t found)
name_among (x ∷ things) t c found is =
    subst (λ (ns : List Text). Contains ns c.name) (sym (names_append (owned_in x.table x.part) (owned things)))
    (elim (head_or_tail x things t found) [
      | inl same ↦ Contains-append_left (names (owned_in x.table x.part)) (names (owned things)) c.name (name_in x.table x.part c (subst (λ (y : Thing). Contains (constraints_in y.part) c) (sym same) is))
      | inr later ↦ Contains-append_right (names (owned_in x.table x.part)) (names (owned things)) c.name (name_among things t c later is)
    ])

all_other : (x : Text) (zs : List Text) (m : Text) → Contains zs m → AllByRecursion (λ y. bytes_eq x y ≡ false) zs → bytes_eq x m ≡ false
all_other x [] m found all = absurd (nothing_in m found)
all_other x (z ∷ zs) m found all = elim (head_or_tail z zs m found) [
  | inl is ↦ ap (bytes_eq x) (sym is) ∙ all.0
  | inr rest ↦ all_other x zs m rest all.1
]

-- a name of the first part isn't among those of a rest behind it
apart : (xs ys : List Text) (n : Text) → IsDistinct bytes_eq (xs ++ ys) → Contains xs n → Contains ys n → ⊥
unfolding IsDistinct
apart [] ys n distinct at there = nothing_in n at
apart (x ∷ xs) ys n distinct at there = elim (head_or_tail x xs n at) [
  | inl same ↦
      let other = all_other x (xs ++ ys) n (Contains-append_right xs ys n there) distinct.0 in
      let clash : true ≡ false = sym (text_itself n) ∙ ap (λ (t : Text). bytes_eq t n) (sym same) ∙ other in absurd cc
  | inr later ↦ apart xs ys n distinct.1 later there
]

behind : (xs ys : List Text) → IsDistinct bytes_eq (xs ++ ys) → IsDistinct bytes_eq ys
unfolding IsDistinct
behind [] ys distinct = distinct
behind (x ∷ xs) ys distinct = behind xs ys distinct.1

-- no two constraints have one name
one_of_name : (things : Things) → IsDistinct bytes_eq (names (owned things)) → (t u : Thing) (c d : Constraint) → Contains things t → Contains things u → Contains (constraints_in t.part) c → Contains (constraints_in u.part) d → c.name ≡ d.name → c ≡ d
one_of_name [] distinct t u c d ts us cs ds same = absurd (nothing_in t ts)
one_of_name (x ∷ things) distinct t u c d ts us cs ds same = elim (head_or_tail x things t ts) [
  | inl first ↦ elim (head_or_tail x things u us) [
    | inl second ↦ in_part x.part c d (at_first t c first cs) (at_first u d second ds)
    | inr later ↦ absurd (clash c.name (name_in x.table x.part c (at_first t c first cs)) (subst (Contains (names (owned things))) (sym same) (name_among things u d later ds)))
  ]
  | inr earlier ↦ elim (head_or_tail x things u us) [
    | inl second ↦ absurd (clash d.name (name_in x.table x.part d (at_first u d second ds)) (subst (Contains (names (owned things))) same (name_among things t c earlier cs)))
    | inr later ↦ one_of_name things (behind (names (owned_in x.table x.part)) (names (owned things)) parted) t u c d earlier later cs ds same
  ]
]
  where
    parted : IsDistinct bytes_eq (names (owned_in x.table x.part) ++ names (owned things))
    parted = subst (IsDistinct bytes_eq) (names_append (owned_in x.table x.part) (owned things)) distinct

    at_first : (y : Thing) (e : Constraint) → x ≡ y → Contains (constraints_in y.part) e → Contains (constraints_in x.part) e
    at_first y e is found = subst (λ (z : Thing). Contains (constraints_in z.part) e) (sym is) found

    clash : (n : Text) → Contains (names (owned_in x.table x.part)) n → Contains (names (owned things)) n → ⊥
    clash n at there = apart (names (owned_in x.table x.part)) (names (owned things)) n parted at there

pub same_constraint : (things : Things) (a b : TableNo) (c d : Constraint) → IsWhole things → Holds things a c → Holds things b d → c.name ≡ d.name → c ≡ d
same_constraint things a b c d whole x y same = one_of_name things whole.constraint_names x.thing y.thing c d x.there y.there x.is y.is same

-- ---- tables by their numbers

with_parts : (p : Part) (n : TableNo) (t : Table) (things : Things) → table_with p n (flat_map (λ (x : Thing). columns_in x.part) things) (flat_map (λ (x : Thing). constraints_in x.part) things) ≡ Some t
    → (t.number ≡ n) × (t.constraints ≡ flat_map (λ (x : Thing). constraints_in x.part) things)
with_parts (part.Table name storage created) n t things h = let same : record { name = name; number = n; storage = storage; columns = flat_map (λ (x : Thing). columns_in x.part) things; constraints = flat_map (λ (x : Thing). constraints_in x.part) things } ≡ t = cc in
    (sym (ap (λ (y : Table). y.number) same), sym (ap (λ (y : Table). y.constraints) same))
with_parts (part.Column column) n t things h = absurd cc
with_parts (part.Constraint c) n t things h = absurd cc

in_parts : (found : Option Thing) (n : TableNo) (t : Table) (things : Things) → option_map_or (λ (x : Thing). table_with x.part n (flat_map (λ (x : Thing). columns_in x.part) things) (flat_map (λ (x : Thing). constraints_in x.part) things)) found None ≡ Some t
    → (t.number ≡ n) × (t.constraints ≡ flat_map (λ (x : Thing). constraints_in x.part) things)
in_parts None n t things h = absurd cc
in_parts (Some x) n t things h = with_parts x.part n t things h

of_number : (things : Things) (n : TableNo) (t : Table) → table_numbered things n ≡ Some t → (t.number ≡ n) × (t.constraints ≡ flat_map (λ (x : Thing). constraints_in x.part) (filter (is_of n) things))
of_number things n t h = in_parts (find (λ (x : Thing). is_table x.part) (filter (is_of n) things)) n t (filter (is_of n) things) h

pub number_is : (things : Things) (n : TableNo) (t : Table) → table_numbered things n ≡ Some t → t.number ≡ n
number_is things n t h = (of_number things n t h).0

-- the constraints of a table are those of its things
pub held_by : (things : Things) (n : TableNo) (t : Table) → table_numbered things n ≡ Some t → (c : Constraint) → Contains t.constraints c → Holds things n c
held_by things n t h c found =
    let at = from_flat (λ (x : Thing). constraints_in x.part) (filter (is_of n) things) c (subst (λ (cs : List Constraint). Contains cs c) (of_number things n t h).1 found) in
    let own = from_filter (is_of n) things at.0 at.1.0 in
    record { thing = at.0; there = own.0; of = sym (same_number n at.0.table own.1); is = at.1.1 }

number_itself : (n : TableNo) → nat_eq n.0 n.0 ≡ true
number_itself n = eq-eqb n.0 n.0 refl

pub held_from : (things : Things) (n : TableNo) (t : Table) → table_numbered things n ≡ Some t → (c : Constraint) → Holds things n c → Contains t.constraints c
held_from things n t h c held =
    let own : Contains (filter (is_of n) things) held.thing = to_filter (is_of n) things held.thing held.there (ap (λ (m : TableNo). nat_eq n.0 m.0) held.of ∙ number_itself n) in
    subst (λ (cs : List Constraint). Contains cs c) (sym (of_number things n t h).1) (to_flat (λ (x : Thing). constraints_in x.part) (filter (is_of n) things) held.thing c own held.is)
