-- The entries of a map whose keys are texts.
use Rattle.std.specs.Prelude.{ℕ, List, map, string_bytes}
use Rattle.std.specs.declared.alloc.Global.{Global}
use Rattle.std.specs.declared.string.String.{String}

abbrev pub texts : {X : Type 0} → List (String Global × X) → List (List ℕ × X)
texts entries = map (λ e. (string_bytes e.0, e.1)) entries
