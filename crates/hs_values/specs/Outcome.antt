-- What a step gives that may fail, and what a call may answer in its place.
use Rattle.std.specs.Prelude.{◌≡◌, Result, Ok, Err}
use Rattle.hs_values.specs.declared.fault.EvalFault.{EvalFault}
use Rattle.hs_values.specs.declared.fault.EvalFault.TheVariants.{NoMemory}

-- what is made of a value, or the error that stands in its place
infixl 10 ◌>>=◌
abbrev pub ◌>>=◌ : {A B E : Type 0} → Result A E → (A → Result B E) → Result B E
(Ok x) >>= f = f x
(Err e) >>= f = Err e

-- an answer is what is meant, but for errors that are free to come, as want of memory is
abbrev pub GivesUnless : {A E : Type 0} → (E → Type 0) → Result A E → Result A E → Type 0
GivesUnless IsFree (Ok x) means = means ≡ Ok x
GivesUnless IsFree (Err e) means = ¬ (IsFree e) → means ≡ Err e

-- an answer is what is meant, or want of memory
abbrev pub Gives : {A : Type 0} → Result A EvalFault → Result A EvalFault → Type 0
Gives answer means = GivesUnless (λ fault. fault ≡ NoMemory) answer means
