-- What is sought from the left is what stands in the list: none, one or several.
use Rattle.std.proofs.Common.{◌≡◌, ℕ, ◌+◌, Bool, true, false, cond, ◌&&◌, ◌||◌, List, [], ◌∷◌, ◌++◌, map, filter, length, Option, Some, None, refl, sym, ap, ◌∙◌, ◌<◌, suc, get_or, take, drop, drop-cons, arith, length-append}
use Rattle.std.proofs.Math.Seq.{take-suc}
use Rattle.std.proofs.lemmas.List.{append-nil, length-map}
use Rattle.std.proofs.lemmas.List.Concat.{flat_map-append}
use Rattle.std.proofs.lemmas.List.Folds.{list_any-append}
use Rattle.std.specs.List.{enumerate_from}
use Rattle.std.specs.Str.{bytes_eq}
use Rattle.std.specs.declared.alloc.Global.{Global}
use Rattle.std.specs.declared.string.String.{String}
use Rattle.hs_scope.specs.declared.column.OutputColumn.{OutputColumn}
use Rattle.hs_scope.specs.declared.from_table.FromTable.{FromTable}
use Rattle.hs_scope.specs.declared.index.ColumnIndex.{ColumnIndex}
use Rattle.hs_scope.specs.declared.sought.Sought.{Sought}
use Rattle.hs_scope.specs.declared.sought.Sought.TheVariants as sought
use Rattle.hs_scope.specs.Names.{Text, Offer, offered_by, offers, is_offered, has_name, is_meant, only, sought_in, sought_among}
use Rattle.hs_scope.specs.Index.{kept_at, kept_in, has_table, IsIndexOf}
use Rattle.hs_scope.specs.Sought.{both, if_passed, columns_from, is_asked, offers_from}

pub both-missing : (a : Sought) → both a sought.Missing ≡ a
both-missing sought.Missing = refl
both-missing (sought.One at kind) = refl
both-missing sought.Several = refl

pub both-assoc : (a b c : Sought) → both (both a b) c ≡ both a (both b c)
both-assoc sought.Missing b c = refl
both-assoc (sought.One at kind) sought.Missing c = refl
both-assoc (sought.One at kind) (sought.One i k) sought.Missing = refl
both-assoc (sought.One at kind) (sought.One i k) (sought.One j m) = refl
both-assoc (sought.One at kind) (sought.One i k) sought.Several = refl
both-assoc (sought.One at kind) sought.Several c = refl
both-assoc sought.Several b c = refl

only-cons : (c : ℕ × OutputColumn) (rest : List (ℕ × OutputColumn)) → only (c ∷ rest) ≡ both (sought.One c.0 c.1.kind) (only rest)
only-cons c [] = refl
only-cons c (d ∷ []) = refl
only-cons c (d ∷ e ∷ rest) = refl

-- ---- columns of one list

pub only-columns : (at : ℕ) (name : Text) (cs : List OutputColumn) → only (filter (λ c. has_name name c.1) (enumerate_from at cs)) ≡ columns_from at name cs
only-columns at name [] = refl
only-columns at name (c ∷ cs) = by (has_name name c) (only-columns (at + 1) name cs)
  where
    by : (b : Bool) → only (filter (λ d. has_name name d.1) (enumerate_from (at + 1) cs)) ≡ columns_from (at + 1) name cs
        → only (cond b ((at, c) ∷ filter (λ d. has_name name d.1) (enumerate_from (at + 1) cs)) (filter (λ d. has_name name d.1) (enumerate_from (at + 1) cs))) ≡ both (if_passed b (sought.One at c.kind)) (columns_from (at + 1) name cs)
    by true ih = only-cons (at, c) (filter (λ d. has_name name d.1) (enumerate_from (at + 1) cs)) ∙ ap (both (sought.One at c.kind)) ih
    by false ih = ih

pub among : (name : Text) (cs : List OutputColumn) → columns_from 0 name cs ≡ sought_among cs name
among name cs = sym (only-columns 0 name cs)

-- ---- columns with the names of their tables

only-offers : (at : ℕ) (table : Option Text) (name : Text) (os : List Offer) → only (map (λ (o : ℕ × Offer). (o.0, o.1.1)) (filter (λ o. is_meant table name o.1) (enumerate_from at os))) ≡ offers_from at table name os
only-offers at table name [] = refl
only-offers at table name (o ∷ os) = by (is_meant table name o) (only-offers (at + 1) table name os)
  where
    by : (b : Bool) → only (map (λ (p : ℕ × Offer). (p.0, p.1.1)) (filter (λ p. is_meant table name p.1) (enumerate_from (at + 1) os))) ≡ offers_from (at + 1) table name os
        → only (map (λ (p : ℕ × Offer). (p.0, p.1.1)) (cond b ((at, o) ∷ filter (λ p. is_meant table name p.1) (enumerate_from (at + 1) os)) (filter (λ p. is_meant table name p.1) (enumerate_from (at + 1) os)))) ≡ both (if_passed b (sought.One at o.1.kind)) (offers_from (at + 1) table name os)
    by true ih = only-cons (at, o.1) (map (λ (p : ℕ × Offer). (p.0, p.1.1)) (filter (λ p. is_meant table name p.1) (enumerate_from (at + 1) os))) ∙ ap (both (sought.One at o.1.kind)) ih
    by false ih = ih

pub within : (table : Option Text) (name : Text) (tables : List FromTable) → offers_from 0 table name (offers tables) ≡ sought_in tables table name
within table name tables = sym (only-offers 0 table name (offers tables))

pub offers-append : (at : ℕ) (table : Option Text) (name : Text) (xs ys : List Offer) → offers_from at table name (xs ++ ys) ≡ both (offers_from at table name xs) (offers_from (at + length xs) table name ys)
offers-append at table name [] ys = let same : at ≡ at + 0 = omega arith in ap (λ n. offers_from n table name ys) same
offers-append at table name (x ∷ xs) ys =
    let here = if_passed (is_meant table name x) (sought.One at x.1.kind) in
    let same : (at + 1) + length xs ≡ at + length (x ∷ xs) = omega arith in
    ap (both here) (offers-append (at + 1) table name xs ys ∙ ap (λ n. both (offers_from (at + 1) table name xs) (offers_from n table name ys)) same)
    ∙ sym (both-assoc here (offers_from (at + 1) table name xs) (offers_from (at + length (x ∷ xs)) table name ys))

-- the columns of one table
table-none : (at : ℕ) (name its : Text) (cs : List OutputColumn) → offers_from at None name (map (λ (c : OutputColumn). (its, c)) cs) ≡ columns_from at name cs
table-none at name its [] = refl
table-none at name its (c ∷ cs) = ap (both (if_passed (has_name name c) (sought.One at c.kind))) (table-none (at + 1) name its cs)

table-some : (at : ℕ) (table name its : Text) (cs : List OutputColumn) → offers_from at (Some table) name (map (λ (c : OutputColumn). (its, c)) cs) ≡ if_passed (bytes_eq table its) (columns_from at name cs)
table-some at table name its [] = by (bytes_eq table its)
  where
    by : (b : Bool) → sought.Missing ≡ if_passed b sought.Missing
    by true = refl
    by false = refl
table-some at table name its (c ∷ cs) = by (bytes_eq table its) (table-some (at + 1) table name its cs)
  where
    by : (b : Bool) → offers_from (at + 1) (Some table) name (map (λ (d : OutputColumn). (its, d)) cs) ≡ if_passed b (columns_from (at + 1) name cs)
        → both (if_passed (b && has_name name c) (sought.One at c.kind)) (offers_from (at + 1) (Some table) name (map (λ (d : OutputColumn). (its, d)) cs)) ≡ if_passed b (both (if_passed (has_name name c) (sought.One at c.kind)) (columns_from (at + 1) name cs))
    by true ih = ap (both (if_passed (has_name name c) (sought.One at c.kind))) ih
    by false ih = ih

pub of_table : (at : ℕ) (table : Option Text) (name : Text) (t : FromTable) → offers_from at table name (offered_by t) ≡ if_passed (is_asked table t.name) (columns_from at name t.columns)
of_table at None name t = table-none at name t.name t.columns
of_table at (Some table) name t = table-some at table name t.name t.columns

-- a table and those behind it
pub first_table : (at : ℕ) (table : Option Text) (name : Text) (t : FromTable) (ts : List FromTable)
    → offers_from at table name (offers (t ∷ ts)) ≡ both (if_passed (is_asked table t.name) (columns_from at name t.columns)) (offers_from (at + length t.columns) table name (offers ts))
first_table at table name t ts =
    offers-append at table name (offered_by t) (offers ts)
    ∙ ap (λ s. both s (offers_from (at + length (offered_by t)) table name (offers ts))) (of_table at table name t)
    ∙ ap (λ n. both (if_passed (is_asked table t.name) (columns_from at name t.columns)) (offers_from (at + n) table name (offers ts))) (length-map t.columns (λ (c : OutputColumn). (t.name, c)))

-- ---- a table behind others

offers-more : (ts : List FromTable) (t : FromTable) → offers (ts ++ t ∷ []) ≡ offers ts ++ offered_by t
offers-more ts t = flat_map-append offered_by ts (t ∷ []) ∙ ap (λ os. offers ts ++ os) (append-nil (offered_by t))

pub width-more : (ts : List FromTable) (t : FromTable) → length (offers (ts ++ t ∷ [])) ≡ length (offers ts) + length t.columns
width-more ts t = ap length (offers-more ts t) ∙ length-append (offers ts) (offered_by t) ∙ ap (λ n. length (offers ts) + n) (length-map t.columns (λ (c : OutputColumn). (t.name, c)))

pub sought-more : (ts : List FromTable) (t : FromTable) (table : Option Text) (name : Text) → sought_in (ts ++ t ∷ []) table name ≡ both (sought_in ts table name) (if_passed (is_asked table t.name) (columns_from (length (offers ts)) name t.columns))
sought-more ts t table name =
    sym (within table name (ts ++ t ∷ []))
    ∙ ap (offers_from 0 table name) (offers-more ts t)
    ∙ offers-append 0 table name (offers ts) (offered_by t)
    ∙ ap (λ s. both s (offers_from (0 + length (offers ts)) table name (offered_by t))) (within table name ts)
    ∙ ap (both (sought_in ts table name)) (of_table (0 + length (offers ts)) table name t ∙ ap (λ n. if_passed (is_asked table t.name) (columns_from n name t.columns)) none)
  where
    none : 0 + length (offers ts) ≡ length (offers ts)
    none = omega arith

or-false : (b : Bool) → (b || false) ≡ b
or-false true = refl
or-false false = refl

pub there-more : (ts : List FromTable) (t : FromTable) (name : Text) → is_offered (ts ++ t ∷ []) name ≡ (is_offered ts name || bytes_eq name t.name)
there-more ts t name = list_any-append (λ (x : FromTable). bytes_eq name x.name) ts (t ∷ []) ∙ ap (λ b. is_offered ts name || b) (or-false (bytes_eq name t.name))

-- ---- steps from the left

pub item : {X : Type 0} (xs : List X) (i : ℕ) (x : X) → i < length xs → x ≡ get_or xs i x → drop i xs ≡ x ∷ drop (i + 1) xs
item xs i x within is =
    let next : suc i ≡ i + 1 = omega arith in
    drop-cons xs i x within ∙ ap (λ y. y ∷ drop (suc i) xs) (sym is) ∙ ap (λ n. x ∷ drop n xs) next

pub front_item : {X : Type 0} (xs : List X) (i : ℕ) (x : X) → i < length xs → x ≡ get_or xs i x → take (i + 1) xs ≡ take i xs ++ x ∷ []
front_item xs i x within is =
    let next : i + 1 ≡ suc i = omega arith in
    ap (λ n. take n xs) next ∙ take-suc xs i x within ∙ ap (λ y. take i xs ++ y ∷ []) (sym is)

pub at_end : {X : Type 0} (xs : List X) → drop (length xs) xs ≡ []
at_end [] = refl
at_end (x ∷ xs) = at_end xs

pub column-step : (found : Sought) (at : ℕ) (name : Text) (cs rest : List OutputColumn) (c : OutputColumn) → cs ≡ c ∷ rest
    → both (both found (if_passed (has_name name c) (sought.One at c.kind))) (columns_from (at + 1) name rest) ≡ both found (columns_from at name cs)
column-step found at name cs rest c is = both-assoc found (if_passed (has_name name c) (sought.One at c.kind)) (columns_from (at + 1) name rest) ∙ ap (λ l. both found (columns_from at name l)) (sym is)

pub table-step : (found : Sought) (at : ℕ) (table : Option Text) (name : Text) (ts rest : List FromTable) (t : FromTable) → ts ≡ t ∷ rest
    → both (both found (if_passed (is_asked table t.name) (columns_from at name t.columns))) (offers_from (at + length t.columns) table name (offers rest)) ≡ both found (offers_from at table name (offers ts))
table-step found at table name ts rest t is =
    both-assoc found (if_passed (is_asked table t.name) (columns_from at name t.columns)) (offers_from (at + length t.columns) table name (offers rest))
    ∙ ap (both found) (sym (first_table at table name t rest))
    ∙ ap (λ l. both found (offers_from at table name (offers l))) (sym is)

pub width-step : (ts rest : List FromTable) (t : FromTable) → ts ≡ t ∷ rest → length (offers ts) ≡ length t.columns + length (offers rest)
width-step ts rest t is = ap (λ l. length (offers l)) is ∙ length-append (offered_by t) (offers rest) ∙ ap (λ n. n + length (offers rest)) (length-map t.columns (λ (c : OutputColumn). (t.name, c)))

-- ---- index of tables

pub index-new : (names : List (String Global × Sought)) → ((n : Text) → kept_at names n ≡ sought.Missing) → IsIndexOf names [] []
index-new names none = record { by_name = none; by_pair = λ table name. refl; there = λ table. refl }

pub index-more : (names names_2 : List (String Global × Sought)) (tables tables_2 : List (String Global × ColumnIndex)) (before : List FromTable) (t : FromTable) (first : ℕ)
    → first ≡ length (offers before) → IsIndexOf names tables before
    → ((n : Text) → kept_at names_2 n ≡ both (kept_at names n) (columns_from first n t.columns))
    → ((q n : Text) → kept_in tables_2 q n ≡ both (kept_in tables q n) (if_passed (bytes_eq q t.name) (columns_from first n t.columns)))
    → ((q : Text) → has_table tables_2 q ≡ (has_table tables q || bytes_eq q t.name))
    → IsIndexOf names_2 tables_2 (before ++ t ∷ [])
index-more names names_2 tables tables_2 before t first at was a b c = record {
  by_name = λ n. a n ∙ ap (λ s. both s (columns_from first n t.columns)) (was.by_name n) ∙ ap (λ k. both (sought_in before None n) (columns_from k n t.columns)) at ∙ sym (sought-more before t None n);
  by_pair = λ q n. b q n ∙ ap (λ s. both s (if_passed (bytes_eq q t.name) (columns_from first n t.columns))) (was.by_pair q n)
      ∙ ap (λ k. both (sought_in before (Some q) n) (if_passed (bytes_eq q t.name) (columns_from k n t.columns))) at ∙ sym (sought-more before t (Some q) n);
  there = λ q. c q ∙ ap (λ s. s || bytes_eq q t.name) (was.there q) ∙ sym (there-more before t q);
}
