-- Other rows that have a key.
use Rattle.std.specs.Prelude.{ℕ, not, ◌==◌, ◌&&◌, List, Some}
use Rattle.hs_values.specs.declared.value.Value.{Value}
use Rattle.hs_index.specs.Table.{has_key}
use Rattle.hs_sentences.specs.Asking.{Test}

-- a row has this key and isn't that of this number
abbrev pub carries_too : List ℕ → List Value → ℕ → Test
carries_too columns key number other its = not (other == number) && has_key columns key (Some its)
