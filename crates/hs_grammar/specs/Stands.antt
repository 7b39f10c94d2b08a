-- What holds between two steps of the machine, and what it answers where only the views of the next token are compared.
use Rattle.std.specs.Prelude.{◌≡◌, ℕ, zero, suc, ◌≤◌, Bool, true, false, ◌&&◌, nat_eq, nat_le, max, if◌then◌else◌, Option, Some, None, List, [], ◌∷◌, ◌++◌, length, take, drop, ◌⊎◌, ◌<◌, ◌≢◌, ◌+◌}
use Rattle.hs_grammar.specs.declared.types.Symbol.{Symbol}
use Rattle.hs_grammar.specs.declared.types.Symbol.TheVariants as S
use Rattle.hs_grammar.specs.declared.types.Item.{Item}
use Rattle.hs_grammar.specs.declared.types.Fault.{Fault}
use Rattle.hs_grammar.specs.declared.types.Fault.TheVariants as F
use Rattle.hs_grammar.specs.declared.types.View.{View}
use Rattle.hs_grammar.specs.Grammar.{Grammar, Extent, whole, refused, Derives, Starts, tokens_of, Begins, turned}
use Rattle.hs_grammar.specs.Check.{Table, row, join, between, views_between, view_of, seen_as, head_of}
use Rattle.hs_grammar.specs.Answer.{Refuses}

pub data Has : List ℕ → ℕ → Type 0 where
  here : {x : ℕ} {r : List ℕ} → Has (suc x ∷ r) 0
  there : {x c : ℕ} {r : List ℕ} → Has r c → Has (x ∷ r) (suc c)

-- x is a column of a token of class c, where N says in which columns what comes behind it may begin
abbrev pub ColumnOf : Option View → ℕ → (ℕ → Type 0) → ℕ → Type 0
ColumnOf None c N x = x ≡ c
ColumnOf (Some v) c N x = ((x ≡ v.seen) × N v.before) ⊎ ((x ≡ c) × ((y : ℕ) × N y × (y ≢ v.before)))

-- something of these symbols may begin in column x, where E says it of what is behind them
abbrev pub Leads : List View → Table → (ℕ → Type 0) → List Symbol → ℕ → Type 0
Leads vs t E [] x = E x
Leads vs t E (S.Take d ∷ s) x = ColumnOf (view_of vs d) d (λ y. Leads vs t E s y) x
Leads vs t E (S.TakeKeep a b ∷ s) x = Has (join (between a b) (views_between vs a b)) x
Leads vs t E (S.TakeUpTo a b ∷ s) x = Has (join (between a b) (views_between vs a b)) x
Leads vs t E (S.Refuse a b ∷ s) x = Has (between a b) x
Leads vs t E (S.Mark _ ∷ s) x = Leads vs t E s x
Leads vs t E (S.Keep _ ∷ s) x = Leads vs t E s x
Leads vs t E (S.Rule n ∷ s) x = Has (row t.choice n) x
Leads vs t E (S.Turn n ∷ s) x = Has (join (row t.choice n) (join (row t.choice (n + 1)) (row t.choice (n + 2)))) x

abbrev pub Place : Table → (ℕ → Type 0) → ℕ → Type 0
Place t A n = (n < length t.choice) × ((x : ℕ) → A x → Has (row t.behind n) x)

-- each rule in these symbols is at a place where it may stand, and no word is refused
abbrev pub Sits : List View → Table → (ℕ → Type 0) → List Symbol → Type 0
Sits vs t E [] = Unit {0}
Sits vs t E (S.Take d ∷ s) = Sits vs t E s
Sits vs t E (S.TakeKeep a b ∷ s) = (a ≤ b) × Sits vs t E s
Sits vs t E (S.TakeUpTo a b ∷ s) = (a ≤ b) × Sits vs t E s
Sits vs t E (S.Refuse a b ∷ s) = ⊥
Sits vs t E (S.Mark _ ∷ s) = Sits vs t E s
Sits vs t E (S.Keep _ ∷ s) = Sits vs t E s
Sits vs t E (S.Rule n ∷ s) = Place t (λ y. Leads vs t E s y) n × Sits vs t E s
Sits vs t E (S.Turn n ∷ s) = ((q : ℕ) → Place t (λ y. Leads vs t E s y) (n + turned q)) × Sits vs t E s

-- the same, or the first is a refused word
abbrev pub Ready : List View → Table → (ℕ → Type 0) → List Symbol → Type 0
Ready vs t E [] = Unit {0}
Ready vs t E (S.Take d ∷ s) = Sits vs t E (S.Take d ∷ s)
Ready vs t E (S.TakeKeep a b ∷ s) = Sits vs t E (S.TakeKeep a b ∷ s)
Ready vs t E (S.TakeUpTo a b ∷ s) = Sits vs t E (S.TakeUpTo a b ∷ s)
Ready vs t E (S.Refuse a b ∷ s) = Unit {0}
Ready vs t E (S.Mark a ∷ s) = Sits vs t E (S.Mark a ∷ s)
Ready vs t E (S.Keep k ∷ s) = Sits vs t E (S.Keep k ∷ s)
Ready vs t E (S.Rule n ∷ s) = Sits vs t E (S.Rule n ∷ s)
Ready vs t E (S.Turn n ∷ s) = Sits vs t E (S.Turn n ∷ s)

abbrev pub End : ℕ → Type 0
End x = Has (1 ∷ []) x

-- w begins with the same token as the rest, in the same column, or both are empty
abbrev pub Like : List View → List ℕ → List ℕ → Type 0
Like vs w [] = w ≡ []
Like vs w (c ∷ rest) = (more : List ℕ) × (w ≡ c ∷ more) × (seen_as vs c (head_of more) ≡ seen_as vs c (head_of rest))

-- what is still to be derived, and what was
pub record Stands (g : Grammar) (t : Table) (stack : List Symbol) (q : ℕ) (out : List Item) (front rest : List ℕ) : Type 0 where
  pub sits : Ready g.views t End stack
  pub spelt : tokens_of out ≡ front
  pub began : Begins g front
  pub sound : (e : Extent) (m : List Item) → Derives g e stack q m → Starts g e (out ++ m)
  pub only : (e : Extent) (all : List Item) (w : List ℕ) → Starts g e all → tokens_of all ≡ front ++ w → Like g.views w rest
      → (m : List Item) × (all ≡ out ++ m) × Derives g e stack q m × (tokens_of m ≡ w)

-- nothing goes on behind the front like the rest
abbrev pub Halts : Grammar → Extent → List ℕ → List ℕ → Type 0
Halts g e front rest = (m : List Item) (w : List ℕ) → Starts g e m → tokens_of m ≡ front ++ w → Like g.views w rest → ⊥

-- what goes on behind the front like the rest takes one token more
abbrev pub TakesOne : Grammar → Extent → List ℕ → List ℕ → Type 0
TakesOne g e front rest = (m : List Item) (w : List ℕ) → Starts g e m → tokens_of m ≡ front ++ w → Like g.views w rest → (c : ℕ) × (w ≡ c ∷ [])

pub record Stuck (g : Grammar) (front rest : List ℕ) : Type 0 where
  pub begins : Begins g front
  pub none : Halts g whole front rest
  pub none_refused : Halts g refused front rest

pub record Refused (g : Grammar) (front rest : List ℕ) : Type 0 where
  pub begins : Begins g front
  pub none : Halts g whole front rest
  pub word : Refuses g front rest
  pub one : TakesOne g refused front rest

-- the fault of these tokens, where only the column of the next token is compared
abbrev pub Fails : Grammar → List ℕ → Fault → Type 0
Fails g ts (F.At p) = (p ≤ length ts) × Stuck g (take p ts) (drop p ts)
Fails g ts (F.NotOffered p) = (p ≤ length ts) × Refused g (take p ts) (drop p ts)
Fails g ts F.NoMemory = Unit {0}

-- the state behind a token of class c, if the symbol takes it in state q
abbrev pub accepted : Symbol → ℕ → ℕ → Option ℕ
accepted (S.Take d) q c = if nat_eq c d then Some q else None
accepted (S.TakeKeep a b) q c = if nat_le a c && nat_le c b then Some c else None
accepted (S.TakeUpTo a b) q c = if (nat_le a c && nat_le c b) && nat_le c (max a q) then Some q else None
accepted _ q c = None

abbrev pub is_taker : Symbol → Bool
is_taker (S.Take _) = true
is_taker (S.TakeKeep _ _) = true
is_taker (S.TakeUpTo _ _) = true
is_taker _ = false

-- the class before which a token of class c would be seen otherwise than before `next`, 0 being none
abbrev pub other_by : Option View → ℕ → Option ℕ
other_by None next = None
other_by (Some v) next = if nat_eq v.before next then Some 0 else Some v.before

abbrev pub other_next : List View → List ℕ → Option ℕ
other_next vs [] = None
other_next vs (c ∷ rest) = other_by (view_of vs c) (head_of rest)

-- the tokens up to place p, and one of this class behind them
abbrev pub tried : List ℕ → ℕ → ℕ → List ℕ
tried ts p zero = take (p + 1) ts
tried ts p (suc d) = take (p + 1) ts ++ suc d ∷ []

abbrev pub place_of : Fault → Option ℕ
place_of (F.At p) = Some p
place_of (F.NotOffered p) = Some p
place_of F.NoMemory = None
