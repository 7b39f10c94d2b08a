-- What the machine holds between two tokens, and what its steps answer.
use Rattle.std.specs.Prelude.{◌≡◌, ◌≢◌, ℕ, ◌<◌, ◌≤◌, Option, Some, None, Result, Ok, Err, List, [], ◌∷◌, ◌++◌, length, take, drop, reverse, IsTrue}
use Rattle.hs_grammar.specs.declared.types.Symbol.{Symbol}
use Rattle.hs_grammar.specs.declared.types.Fault.{Fault}
use Rattle.hs_grammar.specs.declared.types.Fault.TheVariants as F
use Rattle.hs_grammar.specs.declared.machine.Machine.{Machine}
use Rattle.hs_grammar.specs.declared.machine.Stop.{Stop}
use Rattle.hs_grammar.specs.declared.machine.Stop.TheVariants as P
use Rattle.hs_grammar.specs.Grammar.{Grammar, rule_of, raw}
use Rattle.hs_grammar.specs.Check.{Table, cell}
use Rattle.hs_grammar.specs.Stands.{Stands, Stuck, Refused, is_taker}

-- the machine stands before the token at this place
abbrev pub StandsAt : Grammar → Table → Machine → List ℕ → ℕ → Type 0
StandsAt g t m ts at = Stands g t (reverse m.stack.items) m.state m.out.items (take at ts) (drop at ts)

-- the production that the table names goes onto the stack, or there is none
abbrev pub Grows : Grammar → List (List ℕ) → ℕ → ℕ → List Symbol → List Symbol → Result (Unit {0}) Stop → Type 0
Grows g rows n x old new (Ok _) = let p = cell rows n x in (0 < p) × (p < length g.productions) × (rule_of g p ≡ n) × (new ≡ old ++ raw g p)
Grows g rows n x old new (Err P.Stuck) = let p = cell rows n x in 0 < p → p < length g.productions → rule_of g p ≢ n
Grows g rows n x old new (Err P.Refused) = ⊥
Grows g rows n x old new (Err P.NoMemory) = Unit {0}

-- what is known where the machine stops behind the front
abbrev pub Halted : Grammar → List ℕ → List ℕ → Stop → Type 0
Halted g front rest P.Stuck = Stuck g front rest
Halted g front rest P.Refused = Refused g front rest
Halted g front rest P.NoMemory = Unit {0}

abbrev pub fault_at : Stop → ℕ → Fault
fault_at P.Stuck at = F.At at
fault_at P.Refused at = F.NotOffered at
fault_at P.NoMemory at = F.NoMemory

-- a symbol that takes a token is next, or nothing is left
abbrev pub Settled : Grammar → Table → Machine → List ℕ → ℕ → Result (Option Symbol) Stop → Type 0
Settled g t m ts at (Ok (Some x)) = Stands g t (x ∷ reverse m.stack.items) m.state m.out.items (take at ts) (drop at ts) × IsTrue (is_taker x)
Settled g t m ts at (Ok None) = Stands g t [] m.state m.out.items (take at ts) (drop at ts)
Settled g t m ts at (Err stop) = Halted g (take at ts) (drop at ts) stop

-- what stops the machine at a refused word of classes a to b: that word, or another token, or the end
abbrev pub Refusal : ℕ → ℕ → List ℕ → Stop → Type 0
Refusal a b rest P.NoMemory = ⊥
Refusal a b [] P.Refused = ⊥
Refusal a b (c ∷ rest) P.Refused = (a ≤ c) × (c ≤ b)
Refusal a b [] P.Stuck = Unit {0}
Refusal a b (c ∷ rest) P.Stuck = a ≤ c → c ≤ b → ⊥
