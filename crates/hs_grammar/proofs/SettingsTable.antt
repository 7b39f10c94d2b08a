-- What the test of the table in src/tests/settings.rt needs beside its rows, made by grammar/make_table.py.
use Rattle.std.specs.Prelude.{ℕ, List, [], ◌∷◌}
use Rattle.hs_grammar.specs.Check.{Table}

-- by rule, the columns that may follow it
abbrev pub behind : List (List ℕ)
behind =
    (1 ∷ []) ∷
    (1 ∷ []) ∷
    (1 ∷ 0 ∷ 0 ∷ 0 ∷ 0 ∷ 0 ∷ 0 ∷ 0 ∷ 1 ∷ []) ∷
    (1 ∷ 0 ∷ 0 ∷ 0 ∷ 0 ∷ 0 ∷ 0 ∷ 0 ∷ 1 ∷ []) ∷
    (0 ∷ 0 ∷ 0 ∷ 0 ∷ 0 ∷ 0 ∷ 0 ∷ 1 ∷ []) ∷
    (1 ∷ []) ∷
    (1 ∷ []) ∷
    (1 ∷ []) ∷
    []

-- by rule, a production by which it ends
abbrev pub short : List ℕ
short = 1 ∷ 4 ∷ 5 ∷ 8 ∷ 9 ∷ 11 ∷ 13 ∷ 15 ∷ []

-- how deep that goes
abbrev pub height : List ℕ
height = 2 ∷ 0 ∷ 1 ∷ 0 ∷ 0 ∷ 1 ∷ 0 ∷ 0 ∷ []

-- how much work comes at most before a token is taken
abbrev pub weight : List ℕ
weight = 2 ∷ 1 ∷ 1 ∷ 2 ∷ 2 ∷ 2 ∷ 1 ∷ 1 ∷ []

-- 1 where it takes a token at least
abbrev pub solid : List ℕ
solid = 1 ∷ 0 ∷ 1 ∷ 0 ∷ 0 ∷ 1 ∷ 1 ∷ 1 ∷ []

abbrev pub table_of : List (List ℕ) → Table
table_of rows = record { choice = rows; behind = behind; short = short; height = height; weight = weight; solid = solid }
