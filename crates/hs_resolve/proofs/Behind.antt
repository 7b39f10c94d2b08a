-- Parts behind others.
use Rattle.std.specs.Prelude.{List, fold, map, Option}
use Rattle.hs_meaning.specs.Parts.{Meaning, with_part}

-- all parts, where all are known
abbrev pub parts_behind : {A : Type 0} → Option (List A) → List (Meaning A) → Option (List A)
parts_behind before more = fold with_part before (map (λ m. m.part) more)
