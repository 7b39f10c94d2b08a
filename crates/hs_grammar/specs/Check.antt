-- A table of choices by the next token, and the test that it serves a grammar.
use Rattle.std.specs.Prelude.{ℕ, zero, suc, ◌+◌, Bool, true, false, ◌&&◌, ◌||◌, nat_eq, nat_lt, nat_le, Option, Some, None, find, List, [], ◌∷◌, length, slice_index_or, if◌then◌else◌}
use Rattle.hs_grammar.specs.declared.types.Symbol.{Symbol}
use Rattle.hs_grammar.specs.declared.types.Symbol.TheVariants as S
use Rattle.hs_grammar.specs.declared.types.View.{View}
use Rattle.hs_grammar.specs.Grammar.{Grammar, nothing, right, rule_of}

-- what the test needs beside the rows; in `choice` and `behind` a row is a set of columns: those at which a number above 0 stands
pub record Table : Type 0 where
  pub choice : List (List ℕ)  -- by rule and column: the production, or 0
  pub behind : List (List ℕ)  -- by rule: the columns that may follow it
  pub short : List ℕ  -- by rule: a production that ends
  pub height : List ℕ  -- by rule: how deep that production goes
  pub weight : List ℕ  -- by rule: how much work comes at most before a token is taken
  pub solid : List ℕ  -- by rule: 1 where it takes a token at least, else 0

abbrev pub row : List (List ℕ) → ℕ → List ℕ
row rows n = slice_index_or rows n []

abbrev pub cell : List (List ℕ) → ℕ → ℕ → ℕ
cell rows n c = slice_index_or (row rows n) c 0

-- ---- sets of columns

abbrev pub join : List ℕ → List ℕ → List ℕ
join [] b = b
join (x ∷ a) [] = x ∷ a
join (x ∷ a) (y ∷ b) = (x + y) ∷ join a b

abbrev pub spike : ℕ → List ℕ
spike zero = 1 ∷ []
spike (suc d) = 0 ∷ spike d

abbrev pub ones : ℕ → List ℕ
ones zero = 1 ∷ []
ones (suc d) = 1 ∷ ones d

-- from a to b
abbrev pub between : ℕ → ℕ → List ℕ
between zero b = ones b
between (suc a) zero = []
between (suc a) (suc b) = 0 ∷ between a b

abbrev pub is_above_zero : ℕ → Bool
is_above_zero zero = false
is_above_zero (suc x) = true

abbrev pub has : List ℕ → ℕ → Bool
has a d = is_above_zero (slice_index_or a d 0)

abbrev pub has_any : List ℕ → Bool
has_any [] = false
has_any (x ∷ a) = is_above_zero x || has_any a

-- something else than d
abbrev pub has_other : List ℕ → ℕ → Bool
has_other [] d = false
has_other (x ∷ a) zero = has_any a
has_other (x ∷ a) (suc d) = is_above_zero x || has_other a d

-- each column of a is one of b
abbrev pub within : List ℕ → List ℕ → Bool
within [] b = true
within (zero ∷ a) [] = within a []
within (suc x ∷ a) [] = false
within (zero ∷ a) (y ∷ b) = within a b
within (suc x ∷ a) (zero ∷ b) = false
within (suc x ∷ a) (suc y ∷ b) = within a b

-- at each column of a, p stands in b
abbrev pub takes : ℕ → List ℕ → List ℕ → Bool
takes p [] b = true
takes p (zero ∷ a) [] = takes p a []
takes p (suc x ∷ a) [] = false
takes p (zero ∷ a) (y ∷ b) = takes p a b
takes p (suc x ∷ a) (y ∷ b) = nat_eq y p && takes p a b

-- ---- views

-- the view of a class
abbrev pub view_of : List View → ℕ → Option View
view_of vs c = find (λ v. nat_eq v.class c) vs

abbrev pub seen_by : Option View → ℕ → ℕ → ℕ
seen_by None c next = c
seen_by (Some v) c next = if nat_eq v.before next then v.seen else c

-- the column of a token of class c before one of class `next`
abbrev pub seen_as : List View → ℕ → ℕ → ℕ
seen_as vs c next = seen_by (view_of vs c) c next

abbrev pub head_of : List ℕ → ℕ
head_of [] = 0
head_of (c ∷ r) = c

-- the column of the first token, or of the end
abbrev pub column : List View → List ℕ → ℕ
column vs [] = 0
column vs (c ∷ r) = seen_as vs c (head_of r)

abbrev pub if_has : Bool → ℕ → List ℕ
if_has true d = spike d
if_has false d = []

-- the columns of a token of class c, where what comes behind it begins in one of `next`
abbrev pub columns_of : Option View → ℕ → (Unit {0} → List ℕ) → List ℕ
columns_of None c next = spike c
columns_of (Some v) c next = let a = next tt in join (if_has (has a v.before) v.seen) (if_has (has_other a v.before) c)

-- the columns of the views of the classes from a to b
abbrev pub views_between : List View → ℕ → ℕ → List ℕ
views_between [] a b = []
views_between (v ∷ vs) a b = join (if_has (nat_le a v.class && nat_le v.class b) v.seen) (views_between vs a b)

-- the columns in which something of these symbols may begin, `end` being those behind them
abbrev pub leading : List View → List (List ℕ) → List ℕ → List Symbol → List ℕ
leading vs rows end [] = end
leading vs rows end (S.Take d ∷ s) = columns_of (view_of vs d) d (λ _. leading vs rows end s)
leading vs rows end (S.TakeKeep a b ∷ s) = join (between a b) (views_between vs a b)
leading vs rows end (S.TakeUpTo a b ∷ s) = join (between a b) (views_between vs a b)
leading vs rows end (S.Refuse a b ∷ s) = between a b
leading vs rows end (S.Mark _ ∷ s) = leading vs rows end s
leading vs rows end (S.Keep _ ∷ s) = leading vs rows end s
leading vs rows end (S.Rule n ∷ s) = row rows n
leading vs rows end (S.Turn n ∷ s) = join (row rows n) (join (row rows (n + 1)) (row rows (n + 2)))

-- f of each view
abbrev pub all_views : List View → (View → Bool) → Bool
all_views [] f = true
all_views (v ∷ vs) f = f v && all_views vs f

abbrev pub is_none : Option View → Bool
is_none None = true
is_none (Some v) = false

-- before a token, and that token has no view and is none
abbrev pub view_fits : List View → View → Bool
view_fits vs v = (nat_lt 0 v.before && is_none (view_of vs v.before)) && all_views vs (λ w. if nat_eq w.seen v.before then false else true)

-- ---- each symbol at its place

-- a rule at a place that these columns may follow
abbrev pub rule_fits : Table → List ℕ → ℕ → Bool
rule_fits t after n = nat_lt n (length t.choice) && within after (row t.behind n)

abbrev pub fits : List View → Table → List ℕ → List Symbol → Bool
fits vs t end [] = true
fits vs t end (S.Take d ∷ s) = fits vs t end s
fits vs t end (S.TakeKeep a b ∷ s) = nat_le a b && fits vs t end s
fits vs t end (S.TakeUpTo a b ∷ s) = nat_le a b && fits vs t end s
fits vs t end (S.Refuse a b ∷ s) = false
fits vs t end (S.Mark _ ∷ s) = fits vs t end s
fits vs t end (S.Keep _ ∷ s) = fits vs t end s
fits vs t end (S.Rule n ∷ s) = rule_fits t (leading vs t.choice end s) n && fits vs t end s
fits vs t end (S.Turn n ∷ s) = let a = leading vs t.choice end s in
    (rule_fits t a n && (rule_fits t a (n + 1) && rule_fits t a (n + 2))) && fits vs t end s

-- the same, or a refused word
abbrev pub fits_first : List View → Table → List ℕ → List Symbol → Bool
fits_first vs t end (S.Refuse a b ∷ s) = true
fits_first vs t end s = fits vs t end s

-- ---- work before a token is taken

abbrev pub if_not : ℕ → ℕ → ℕ
if_not zero x = x
if_not (suc _) x = 0

abbrev pub weight_of : Table → ℕ → ℕ
weight_of t n = slice_index_or t.weight n 0

abbrev pub solid_of : Table → ℕ → ℕ
solid_of t n = slice_index_or t.solid n 0

-- how much work these symbols are at most before a token is taken
abbrev pub work : Table → List Symbol → ℕ
work t [] = 0
work t (S.Take _ ∷ s) = 0
work t (S.TakeKeep _ _ ∷ s) = 0
work t (S.TakeUpTo _ _ ∷ s) = 0
work t (S.Refuse _ _ ∷ s) = 0
work t (S.Mark _ ∷ s) = 1 + work t s
work t (S.Keep _ ∷ s) = 1 + work t s
work t (S.Rule n ∷ s) = weight_of t n + if_not (solid_of t n) (work t s)
work t (S.Turn n ∷ s) = (weight_of t n + (weight_of t (n + 1) + weight_of t (n + 2))) + work t s

-- these symbols take a token at least
abbrev pub is_solid : Table → List Symbol → Bool
is_solid t [] = false
is_solid t (S.Take _ ∷ s) = true
is_solid t (S.TakeKeep _ _ ∷ s) = true
is_solid t (S.TakeUpTo _ _ ∷ s) = true
is_solid t (S.Refuse _ _ ∷ s) = true
is_solid t (S.Mark _ ∷ s) = is_solid t s
is_solid t (S.Keep _ ∷ s) = is_solid t s
is_solid t (S.Rule n ∷ s) = is_above_zero (solid_of t n) || is_solid t s
is_solid t (S.Turn n ∷ s) = is_solid t s

abbrev pub solid_fits : ℕ → Table → List Symbol → Bool
solid_fits zero t s = true
solid_fits (suc _) t s = is_solid t s

-- ---- the test

abbrev pub lies_within : Grammar → ℕ → Bool
lies_within g p = let x = slice_index_or g.productions p nothing in nat_le x.from x.to && nat_le x.to (length g.symbols)

abbrev pub production_fits : Grammar → Table → ℕ → Bool
production_fits g t p = let n = rule_of g p in let end = row t.behind n in let s = right g p in
    (takes p (leading g.views t.choice end s) (row t.choice n) && fits_first g.views t end s)
    && (nat_lt (work t s) (weight_of t n) && solid_fits (solid_of t n) t s)

-- f of each number below n
abbrev pub all_below : ℕ → (ℕ → Bool) → Bool
all_below zero f = true
all_below (suc n) f = f n && all_below n f

-- each rule in these symbols is lower than h, and no word is refused
abbrev pub lower : Table → ℕ → List Symbol → Bool
lower t h [] = true
lower t h (S.Take _ ∷ s) = lower t h s
lower t h (S.TakeKeep _ _ ∷ s) = lower t h s
lower t h (S.TakeUpTo _ _ ∷ s) = lower t h s
lower t h (S.Refuse _ _ ∷ s) = false
lower t h (S.Mark _ ∷ s) = lower t h s
lower t h (S.Keep _ ∷ s) = lower t h s
lower t h (S.Rule n ∷ s) = nat_lt (slice_index_or t.height n 0) h && lower t h s
lower t h (S.Turn n ∷ s) =
    (nat_lt (slice_index_or t.height n 0) h && (nat_lt (slice_index_or t.height (n + 1) 0) h && nat_lt (slice_index_or t.height (n + 2) 0) h)) && lower t h s

abbrev pub rule_ends : Grammar → Table → ℕ → Bool
rule_ends g t n = let p = slice_index_or t.short n 0 in let h = slice_index_or t.height n 0 in
    (nat_lt 0 p && nat_lt p (length g.productions)) && (nat_eq (rule_of g p) n && lower t h (right g p))

abbrev pub if_above : ℕ → Bool → Bool
if_above zero b = true
if_above (suc p) b = b

abbrev pub checked : Grammar → Table → Bool
checked g t =
    ((all_below (length g.productions) (lies_within g) && all_views g.views (view_fits g.views))
    && (all_below (length g.productions) (λ p. if_above p (production_fits g t p)) && all_below (length t.choice) (rule_ends g t)))
    && rule_fits t (1 ∷ []) 0
