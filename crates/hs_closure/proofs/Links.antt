-- The children that follow a table.
use Rattle.std.proofs.Common.{◌≡◌, ℕ, ◌<◌, Bool, true, false, cond, nat_eq, List, [], ◌∷◌, map, filter, refl, sym, ap, ◌∙◌, inl, inr, arith}
use Rattle.std.proofs.lemmas.Bool.{or_cases, or_left, or_right}
use Rattle.std.proofs.lemmas.List.Elements.{Contains-append_right}
use Rattle.std.specs.List.{Contains}
use Rattle.hs_schema.specs.declared.table.Child.{Child}
use Rattle.hs_closure.specs.Sets.{is_in}
use Rattle.hs_closure.proofs.Sets.{never, same_number, itself, single, first_or_rest}

abbrev pub tables_of : List Child → List ℕ
tables_of = map (λ c. c.table.0)

-- a foreign key of a list, of a table with this number, that passes a test
pub record Link (test : Child → Bool) (links : List Child) (number : ℕ) : Type 0 where
  pub link : Child
  pub there : Contains links link
  pub passes : test link ≡ true
  pub table : link.table.0 ≡ number

more : (test : Child → Bool) (c : Child) (cs : List Child) (m : ℕ) → Link test cs m → Link test (c ∷ cs) m
more test c cs m l = record { link = l.link; there = Contains-append_right (c ∷ []) cs l.link l.there; passes = l.passes; table = l.table }

pub linked : (test : Child → Bool) (links : List Child) (m : ℕ) → is_in (tables_of (filter test links)) m ≡ true → Link test links m
linked test [] m h = never false h refl
linked test (c ∷ cs) m h = by (test c) refl h (linked test cs m)
  where
    by : (b : Bool) → test c ≡ b → is_in (tables_of (cond b (c ∷ filter test cs) (filter test cs))) m ≡ true → (is_in (tables_of (filter test cs)) m ≡ true → Link test cs m) → Link test (c ∷ cs) m
    by true passes h rest = elim (or_cases (nat_eq m c.table.0) (is_in (tables_of (filter test cs)) m) h) [
      | inl here ↦ record { link = c; there = single c cs; passes = passes; table = sym (same_number m c.table.0 here) }
      | inr behind ↦ more test c cs m (rest behind)
    ]
    by false fails h rest = more test c cs m (rest h)

pub linked-from : (test : Child → Bool) (links : List Child) (link : Child) → Contains links link → test link ≡ true → is_in (tables_of (filter test links)) link.table.0 ≡ true
linked-from test [] link there passes = absurd (let no : there.0 < 0 = there.1 in omega arith)
linked-from test (c ∷ cs) link there passes = elim (first_or_rest c cs link there) [
  | inl here ↦ first here
  | inr rest ↦ behind (test c) (linked-from test cs link rest passes)
]
  where
    kept : (b : Bool) → b ≡ true → is_in (tables_of (cond b (c ∷ filter test cs) (filter test cs))) c.table.0 ≡ true
    kept true h = or_left (nat_eq c.table.0 c.table.0) (is_in (tables_of (filter test cs)) c.table.0) (itself c.table.0)
    kept false h = never false h refl

    first : c ≡ link → is_in (tables_of (cond (test c) (c ∷ filter test cs) (filter test cs))) link.table.0 ≡ true
    first here = ap (λ (k : Child). is_in (tables_of (cond (test c) (c ∷ filter test cs) (filter test cs))) k.table.0) (sym here) ∙ kept (test c) (ap test here ∙ passes)

    behind : (b : Bool) → is_in (tables_of (filter test cs)) link.table.0 ≡ true → is_in (tables_of (cond b (c ∷ filter test cs) (filter test cs))) link.table.0 ≡ true
    behind true h = or_right (nat_eq link.table.0 c.table.0) (is_in (tables_of (filter test cs)) link.table.0) h
    behind false h = h
