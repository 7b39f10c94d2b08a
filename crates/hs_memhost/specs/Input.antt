-- Input in memory.
use Rattle.std.specs.Prelude.{ℕ, List, drop}
use Rattle.hs_memhost.specs.declared.input.Input.{Input}

-- the bytes that are not read yet
abbrev pub left_of : Input → List ℕ
left_of i = drop i.taken i.bytes
