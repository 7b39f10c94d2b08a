-- A recogniser as a function: by the choices of a table it goes the leftmost derivation of some tokens, and gives the
-- items of the only sentence with these tokens, or their fault.
use Rattle.std.specs.Prelude.{ℕ, zero, suc, ◌+◌, ◌&&◌, nat_eq, nat_le, nat_lt, if◌then◌else◌, List, [], ◌∷◌, ◌++◌, drop, length, Option, None, Some, Result, Ok, Err}
use Rattle.hs_grammar.specs.declared.types.Fault.{Fault}
use Rattle.hs_grammar.specs.declared.types.Fault.TheVariants as F
use Rattle.hs_grammar.specs.declared.types.Item.{Item}
use Rattle.hs_grammar.specs.declared.types.Item.TheVariants as I
use Rattle.hs_grammar.specs.declared.types.Symbol.{Symbol}
use Rattle.hs_grammar.specs.declared.types.Symbol.TheVariants as S
use Rattle.hs_grammar.specs.Check.{Table, cell, column, work}
use Rattle.hs_grammar.specs.Grammar.{Grammar, right, rule_of, turned}
use Rattle.hs_grammar.specs.Stands.{accepted, other_next, place_of, tried}

-- what a derivation comes to before a token: a symbol that takes one, with the symbols behind it, the state and the
-- items so far; no symbol; no way on; or a word that isn't offered
pub data Comes : Type 0 where
  Takes : Symbol → List Symbol → ℕ → List Item → Comes
  Ends : List Item → Comes
  Stops : Comes
  Refuses : Comes

abbrev pub refused_between : ℕ → ℕ → List ℕ → Comes
refused_between a b [] = Stops
refused_between a b (c ∷ rest) = if nat_le a c && nat_le c b then Refuses else Stops

module _ (g : Grammar) (t : Table) where
  -- the production by which a rule goes on before these tokens
  abbrev pub production_by : ℕ → ℕ → Option ℕ
  production_by n p = if nat_lt 0 p && (nat_lt p (length g.productions) && nat_eq (rule_of g p) n) then Some p else None

  abbrev pub chosen : ℕ → List ℕ → Option ℕ
  chosen n rest = production_by n (cell t.choice n (column g.views rest))

  -- from these symbols, in this state and with these items, in so many steps at most
  unfoldable pub comes_to : ℕ → List Symbol → ℕ → List Item → List ℕ → Comes
  comes_to zero s q out rest = Stops
  comes_to (suc n) [] q out rest = Ends out
  comes_to (suc n) (S.Take c ∷ s) q out rest = Takes (S.Take c) s q out
  comes_to (suc n) (S.TakeKeep a b ∷ s) q out rest = Takes (S.TakeKeep a b) s q out
  comes_to (suc n) (S.TakeUpTo a b ∷ s) q out rest = Takes (S.TakeUpTo a b) s q out
  comes_to (suc n) (S.Refuse a b ∷ s) q out rest = refused_between a b rest
  comes_to (suc n) (S.Mark a ∷ s) q out rest = comes_to n s q (out ++ I.Mark a ∷ []) rest
  comes_to (suc n) (S.Keep k ∷ s) q out rest = comes_to n s k out rest
  comes_to (suc n) (S.Rule r ∷ s) q out rest = elim (chosen r rest) [ None ↦ Stops | Some p ↦ comes_to n (right g p ++ s) q out rest ]
  comes_to (suc n) (S.Turn r ∷ s) q out rest = elim (chosen (r + turned q) rest) [ None ↦ Stops | Some p ↦ comes_to n (right g p ++ s) q out rest ]

  -- the work before a token has an end
  abbrev pub before_token : List Symbol → ℕ → List Item → List ℕ → Comes
  before_token s q out rest = comes_to (work t s + 1) s q out rest

  abbrev pub at_end : ℕ → Comes → Result (List Item) Fault
  at_end at (Takes x s q out) = Err (F.At at)
  at_end at (Ends out) = Ok out
  at_end at Stops = Err (F.At at)
  at_end at Refuses = Err (F.NotOffered at)

  -- a derivation of the tokens from a place on
  unfoldable pub goes_on : ℕ → List Symbol → ℕ → List Item → List ℕ → Result (List Item) Fault
  goes_on at s q out [] = at_end at (before_token s q out [])
  goes_on at s q out (c ∷ rest) = elim (before_token s q out (c ∷ rest)) [
    | Takes x more k so_far ↦ elim (accepted x k c) [ None ↦ Err (F.At at) | Some now ↦ goes_on (at + 1) more now (so_far ++ I.Token c ∷ []) rest ]
    | Ends so_far ↦ Err (F.At at)
    | Stops ↦ Err (F.At at)
    | Refuses ↦ Err (F.NotOffered at)
  ]

  abbrev pub derived : List ℕ → Result (List Item) Fault
  derived ts = goes_on 0 (S.Rule 0 ∷ []) 0 [] ts

  -- Where the column of the token at a fault depends on the token behind it, the fault is exact only if the other
  -- column leads no further.
  abbrev pub by_other : ℕ → Fault → Result (List Item) Fault → Fault
  by_other at fault (Ok items) = F.At (at + 1)
  by_other at fault (Err (F.At other)) = if nat_lt at other then F.At (at + 1) else fault
  by_other at fault (Err (F.NotOffered other)) = if nat_lt at other then F.At (at + 1) else if nat_eq other at then F.NotOffered at else fault
  by_other at fault (Err F.NoMemory) = fault

  abbrev pub exact_by : List ℕ → Fault → ℕ → Option ℕ → Fault
  exact_by ts fault at None = fault
  exact_by ts fault at (Some next) = by_other at fault (derived (tried ts at next))

  abbrev pub exact : List ℕ → Fault → Option ℕ → Fault
  exact ts fault None = fault
  exact ts fault (Some at) = exact_by ts fault at (other_next g.views (drop at ts))

  abbrev pub with_exact : List ℕ → Result (List Item) Fault → Result (List Item) Fault
  with_exact ts (Ok items) = Ok items
  with_exact ts (Err fault) = Err (exact ts fault (place_of fault))

  -- the items of the only sentence with these tokens, or their fault
  abbrev pub recognised : List ℕ → Result (List Item) Fault
  recognised ts = with_exact ts (derived ts)
