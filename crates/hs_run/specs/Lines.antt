-- The first line of a run, and the last one.
use Rattle.std.specs.Prelude.{ℕ, List, ◌++◌, codes}
use Rattle.std.specs.Fmt.{decimal}

abbrev pub opened_line : ℕ → List ℕ
opened_line commits = codes "opened at " ++ (decimal commits ++ codes "\n")

abbrev pub closed_line : ℕ → List ℕ
closed_line commits = codes "closed at " ++ (decimal commits ++ codes "\n")
