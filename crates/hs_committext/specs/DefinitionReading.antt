-- What the reader of changes answers.
use Rattle.std.specs.Prelude.{◌≡◌, Result, Ok, Err}
use Rattle.hs_committext.specs.declared.line_fault.LineFault.{LineFault}
use Rattle.hs_committext.specs.declared.line_fault.LineFault.TheVariants as f

-- the one thing that meets a relation, `Broken` exactly where nothing does, or want of memory
abbrev pub Reads : {X V : Type 0} → (X → V) → (V → Type 0) → Result X LineFault → Type 0
Reads {X} {V} view Is (Ok found) = Is (view found) × ((x : V) → Is x → x ≡ view found)
Reads {X} {V} view Is (Err f.Broken) = (x : V) → ¬ (Is x)
Reads {X} {V} view Is (Err f.NoMemory) = Unit {0}
