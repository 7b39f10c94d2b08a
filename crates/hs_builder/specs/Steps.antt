-- A step of the building: it takes parts from the tops of stacks and puts one on a stack.
use Rattle.std.specs.Prelude.{◌≡◌, ℕ, ◌+◌, max, ℤ, pos, negsuc, if◌then◌else◌, nat_lt, Result, Ok, Err}
use Rattle.hs_builder.specs.declared.build_fault.BuildFault.{BuildFault}
use Rattle.hs_builder.specs.declared.build_fault.BuildFault.TheVariants.{Depth, NoMemory}

-- the stacks behind a step; the same where a tree was made on the way that is deeper than 256; or parts that no derivation
-- brings there
pub data Step (S : Type 0) : Type 0 where
  stands : S → Step S
  deep : S → Step S
  wrong : Step S

-- a depth of up to 256, or a greater one
pub data Level : Type 0 where
  within : ℕ → Level
  beyond : ℕ → Level

abbrev pub level : ℕ → Level
level depth = if nat_lt 256 depth then beyond depth else within depth

-- the depth above two depths
abbrev pub over : ℕ → ℕ → Level
over a b = level (max a b + 1)

-- what stands with that depth
abbrev pub at_depth : {S : Type 0} → Level → (ℕ → S) → Step S
at_depth (within depth) made = stands (made depth)
at_depth (beyond depth) made = deep (made depth)

abbrev pub IsDeep : {S : Type 0} → Step S → Type 0
IsDeep (stands s) = ⊥
IsDeep (deep s) = Unit {0}
IsDeep wrong = ⊥

-- what a call that does a step answers, and the stacks that it leaves; it makes no tree that is deeper than 256
abbrev pub Gives : {S : Type 0} → Step S → Result (Unit {0}) BuildFault → S → Type 0
Gives step (Ok _) after = step ≡ stands after
Gives step (Err Depth) after = IsDeep step
Gives step (Err NoMemory) after = Unit {0}

-- a number with no sign
abbrev pub natural : ℤ → ℕ
natural (pos n) = n
natural (negsuc n) = 0

-- what a step does beside stacks that it leaves alone
abbrev pub lift : {S T : Type 0} → Step S → (S → T) → Step T
lift (stands s) f = stands (f s)
lift (deep s) f = deep (f s)
lift wrong f = wrong

-- behind a tree that is deeper than 256
abbrev pub deepened : {S : Type 0} → Step S → Step S
deepened (stands s) = deep s
deepened (deep s) = deep s
deepened wrong = wrong

-- a step, and then another
abbrev pub and_then : {S T : Type 0} → Step S → (S → Step T) → Step T
and_then (stands s) f = f s
and_then (deep s) f = deepened (f s)
and_then wrong f = wrong
