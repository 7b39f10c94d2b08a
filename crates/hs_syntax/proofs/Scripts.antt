-- How each production of the table is read by the literal grammar, made by grammar/make_literal.py.
use Rattle.std.specs.Prelude.{ℕ, List, [], ◌∷◌}
use Rattle.hs_syntax.specs.Literal.{Part, word, mark, rule}
use Rattle.hs_syntax.proofs.Rewriting.{step}
use Rattle.hs_syntax.proofs.Script.{Choice, any, in_state, Script, done, at, both, no}
use Rattle.hs_syntax.proofs.ScriptTo.{Completion, completion_of}

-- by rule, what stands in front of it
abbrev pub fronts : List (List Part)
fronts =
    ([]) ∷
    ([]) ∷
    ([]) ∷
    ([]) ∷
    ([]) ∷
    ([]) ∷
    ([]) ∷
    ([]) ∷
    ([]) ∷
    ([]) ∷
    ([]) ∷
    ([]) ∷
    ([]) ∷
    ([]) ∷
    ([]) ∷
    ([]) ∷
    ([]) ∷
    ([]) ∷
    ([]) ∷
    ([]) ∷
    ([]) ∷
    ([]) ∷
    ([]) ∷
    ([]) ∷
    ([]) ∷
    ([]) ∷
    ([]) ∷
    ([]) ∷
    ([]) ∷
    ([]) ∷
    ([]) ∷
    ([]) ∷
    ([]) ∷
    ([]) ∷
    ([]) ∷
    ([]) ∷
    ([]) ∷
    ([]) ∷
    ([]) ∷
    ([]) ∷
    ([]) ∷
    ([]) ∷
    ([]) ∷
    ([]) ∷
    ([]) ∷
    ([]) ∷
    ([]) ∷
    ([]) ∷
    ([]) ∷
    ([]) ∷
    ([]) ∷
    ([]) ∷
    ([]) ∷
    ([]) ∷
    ([]) ∷
    ([]) ∷
    ([]) ∷
    (word 47 ∷ mark 23 ∷ []) ∷
    ([]) ∷
    ([]) ∷
    ([]) ∷
    ([]) ∷
    ([]) ∷
    ([]) ∷
    ([]) ∷
    ([]) ∷
    ([]) ∷
    ([]) ∷
    ([]) ∷
    ([]) ∷
    ([]) ∷
    ([]) ∷
    ([]) ∷
    ([]) ∷
    ([]) ∷
    ([]) ∷
    ([]) ∷
    ([]) ∷
    ([]) ∷
    ([]) ∷
    ([]) ∷
    ([]) ∷
    ([]) ∷
    ([]) ∷
    ([]) ∷
    ([]) ∷
    ([]) ∷
    ([]) ∷
    ([]) ∷
    ([]) ∷
    ([]) ∷
    ([]) ∷
    ([]) ∷
    ([]) ∷
    ([]) ∷
    ([]) ∷
    ([]) ∷
    ([]) ∷
    ([]) ∷
    ([]) ∷
    ([]) ∷
    ([]) ∷
    ([]) ∷
    ([]) ∷
    ([]) ∷
    ([]) ∷
    ([]) ∷
    ([]) ∷
    ([]) ∷
    ([]) ∷
    ([]) ∷
    ([]) ∷
    ([]) ∷
    ([]) ∷
    ([]) ∷
    ([]) ∷
    ([]) ∷
    ([]) ∷
    ([]) ∷
    ([]) ∷
    ([]) ∷
    ([]) ∷
    ([]) ∷
    ([]) ∷
    ([]) ∷
    ([]) ∷
    ([]) ∷
    ([]) ∷
    ([]) ∷
    ([]) ∷
    ([]) ∷
    ([]) ∷
    ([]) ∷
    ([]) ∷
    ([]) ∷
    ([]) ∷
    ([]) ∷
    ([]) ∷
    ([]) ∷
    ([]) ∷
    ([]) ∷
    ([]) ∷
    ([]) ∷
    ([]) ∷
    ([]) ∷
    ([]) ∷
    ([]) ∷
    ([]) ∷
    ([]) ∷
    ([]) ∷
    ([]) ∷
    ([]) ∷
    (rule 19 ∷ []) ∷
    (word 47 ∷ mark 23 ∷ rule 113 ∷ word 48 ∷ []) ∷
    (word 47 ∷ mark 23 ∷ rule 19 ∷ word 48 ∷ []) ∷
    (word 47 ∷ mark 23 ∷ rule 19 ∷ mark 26 ∷ rule 269 ∷ word 48 ∷ []) ∷
    ([]) ∷
    ([]) ∷
    ([]) ∷
    ([]) ∷
    (rule 113 ∷ []) ∷
    (word 47 ∷ mark 23 ∷ rule 113 ∷ word 48 ∷ []) ∷
    (word 47 ∷ mark 23 ∷ rule 19 ∷ word 48 ∷ []) ∷
    (word 47 ∷ mark 23 ∷ rule 19 ∷ mark 26 ∷ rule 269 ∷ word 48 ∷ []) ∷
    []

-- by rule, how that and what it derives may be read
abbrev pub readings : List (List Choice)
readings =
    (any (rule 0 ∷ []) ∷ []) ∷
    (any (rule 1 ∷ []) ∷ []) ∷
    (any (rule 2 ∷ []) ∷ []) ∷
    (any (rule 3 ∷ []) ∷ []) ∷
    (any (rule 4 ∷ []) ∷ []) ∷
    (any (rule 5 ∷ []) ∷ []) ∷
    (any (rule 6 ∷ []) ∷ []) ∷
    (any (rule 7 ∷ []) ∷ []) ∷
    (any (rule 8 ∷ []) ∷ []) ∷
    (any (rule 9 ∷ []) ∷ []) ∷
    (any (rule 10 ∷ []) ∷ []) ∷
    (any (rule 11 ∷ []) ∷ []) ∷
    (any (rule 12 ∷ []) ∷ []) ∷
    (any (rule 13 ∷ []) ∷ []) ∷
    (any (rule 14 ∷ []) ∷ []) ∷
    (any (rule 15 ∷ []) ∷ []) ∷
    (any (rule 16 ∷ []) ∷ []) ∷
    (any (rule 17 ∷ []) ∷ []) ∷
    (any (rule 18 ∷ []) ∷ []) ∷
    (any (rule 19 ∷ []) ∷ []) ∷
    (any (rule 20 ∷ []) ∷ []) ∷
    (any (rule 21 ∷ []) ∷ []) ∷
    (any (rule 22 ∷ []) ∷ []) ∷
    (any (rule 23 ∷ []) ∷ []) ∷
    (any (rule 24 ∷ []) ∷ []) ∷
    (any (rule 25 ∷ []) ∷ []) ∷
    (any (rule 26 ∷ []) ∷ []) ∷
    (any (rule 27 ∷ []) ∷ []) ∷
    (any (rule 28 ∷ []) ∷ []) ∷
    (any (rule 29 ∷ []) ∷ []) ∷
    (any (rule 30 ∷ []) ∷ []) ∷
    (any (rule 31 ∷ []) ∷ []) ∷
    (any (rule 32 ∷ []) ∷ []) ∷
    (any (rule 33 ∷ []) ∷ []) ∷
    (any (rule 34 ∷ []) ∷ []) ∷
    (any (rule 35 ∷ []) ∷ []) ∷
    (any (rule 36 ∷ []) ∷ []) ∷
    (any (rule 37 ∷ []) ∷ []) ∷
    (any (rule 38 ∷ []) ∷ []) ∷
    (any (rule 39 ∷ []) ∷ []) ∷
    (any (rule 40 ∷ []) ∷ []) ∷
    (any (rule 41 ∷ []) ∷ []) ∷
    (any (rule 42 ∷ []) ∷ []) ∷
    (any (rule 43 ∷ []) ∷ []) ∷
    (any (rule 44 ∷ []) ∷ []) ∷
    (any (rule 45 ∷ []) ∷ []) ∷
    (any (rule 46 ∷ []) ∷ []) ∷
    (any (rule 47 ∷ []) ∷ []) ∷
    (any (rule 48 ∷ []) ∷ []) ∷
    (any (rule 49 ∷ []) ∷ []) ∷
    (any (rule 50 ∷ []) ∷ []) ∷
    (any (rule 51 ∷ []) ∷ []) ∷
    (any (rule 52 ∷ []) ∷ []) ∷
    (any (rule 53 ∷ []) ∷ []) ∷
    (any (rule 54 ∷ []) ∷ []) ∷
    (any (rule 55 ∷ []) ∷ []) ∷
    (any (rule 56 ∷ []) ∷ []) ∷
    (any (rule 56 ∷ []) ∷ []) ∷
    (any (rule 256 ∷ []) ∷ []) ∷
    (any (rule 256 ∷ []) ∷ []) ∷
    (any (rule 23 ∷ rule 20 ∷ mark 26 ∷ rule 47 ∷ rule 52 ∷ []) ∷ []) ∷
    (any (rule 259 ∷ rule 258 ∷ mark 68 ∷ []) ∷ any (rule 265 ∷ rule 264 ∷ mark 67 ∷ rule 267 ∷ mark 61 ∷ []) ∷ []) ∷
    (any (rule 261 ∷ rule 260 ∷ word 48 ∷ mark 66 ∷ rule 258 ∷ mark 68 ∷ []) ∷ any (rule 113 ∷ mark 64 ∷ rule 266 ∷ word 48 ∷ mark 66 ∷ rule 264 ∷ mark 67 ∷ rule 267 ∷ mark 61 ∷ []) ∷ []) ∷
    (any (rule 260 ∷ word 48 ∷ mark 66 ∷ rule 258 ∷ mark 68 ∷ []) ∷ any (rule 266 ∷ word 48 ∷ mark 66 ∷ rule 264 ∷ mark 67 ∷ rule 267 ∷ mark 61 ∷ []) ∷ []) ∷
    (any (rule 258 ∷ mark 68 ∷ []) ∷ any (rule 264 ∷ mark 67 ∷ rule 267 ∷ mark 61 ∷ []) ∷ []) ∷
    (any (rule 260 ∷ word 48 ∷ mark 66 ∷ rule 258 ∷ mark 68 ∷ []) ∷ []) ∷
    (any (rule 261 ∷ []) ∷ []) ∷
    (any (rule 258 ∷ mark 68 ∷ []) ∷ []) ∷
    (any (rule 68 ∷ []) ∷ []) ∷
    (any (rule 69 ∷ []) ∷ []) ∷
    (any (rule 70 ∷ []) ∷ []) ∷
    (any (rule 71 ∷ []) ∷ []) ∷
    (any (rule 72 ∷ []) ∷ []) ∷
    (any (rule 73 ∷ []) ∷ []) ∷
    (any (rule 74 ∷ []) ∷ []) ∷
    (any (rule 75 ∷ []) ∷ []) ∷
    (any (rule 76 ∷ []) ∷ []) ∷
    (any (rule 77 ∷ []) ∷ []) ∷
    (any (rule 78 ∷ []) ∷ []) ∷
    (any (rule 79 ∷ []) ∷ []) ∷
    (any (rule 80 ∷ []) ∷ []) ∷
    (any (word 47 ∷ rule 83 ∷ rule 82 ∷ word 48 ∷ mark 83 ∷ []) ∷ []) ∷
    (any (rule 82 ∷ []) ∷ []) ∷
    (any (rule 83 ∷ []) ∷ []) ∷
    (any (rule 84 ∷ []) ∷ []) ∷
    (any (rule 85 ∷ []) ∷ []) ∷
    (any (rule 86 ∷ []) ∷ []) ∷
    (any (rule 87 ∷ []) ∷ []) ∷
    (any (rule 88 ∷ []) ∷ []) ∷
    (any (rule 89 ∷ []) ∷ []) ∷
    (any (rule 90 ∷ []) ∷ []) ∷
    (any (rule 91 ∷ []) ∷ []) ∷
    (any (rule 92 ∷ []) ∷ []) ∷
    (any (rule 93 ∷ []) ∷ []) ∷
    (any (rule 94 ∷ []) ∷ []) ∷
    (any (rule 95 ∷ []) ∷ []) ∷
    (any (rule 96 ∷ []) ∷ []) ∷
    (any (rule 97 ∷ []) ∷ []) ∷
    (any (rule 98 ∷ []) ∷ []) ∷
    ([]) ∷
    (any (rule 100 ∷ []) ∷ []) ∷
    (any (rule 101 ∷ []) ∷ []) ∷
    (any (rule 102 ∷ []) ∷ []) ∷
    (any (rule 103 ∷ []) ∷ []) ∷
    (any (rule 104 ∷ []) ∷ []) ∷
    (any (rule 105 ∷ []) ∷ []) ∷
    (any (rule 106 ∷ []) ∷ []) ∷
    (any (rule 107 ∷ []) ∷ []) ∷
    (any (rule 108 ∷ []) ∷ []) ∷
    (any (rule 109 ∷ []) ∷ []) ∷
    (any (rule 110 ∷ []) ∷ []) ∷
    (any (rule 111 ∷ []) ∷ []) ∷
    (any (rule 112 ∷ []) ∷ []) ∷
    (any (rule 113 ∷ []) ∷ []) ∷
    (any (rule 114 ∷ []) ∷ []) ∷
    (any (rule 115 ∷ []) ∷ []) ∷
    (any (rule 116 ∷ []) ∷ []) ∷
    (any (rule 117 ∷ []) ∷ []) ∷
    (any (rule 118 ∷ []) ∷ []) ∷
    (any (rule 119 ∷ []) ∷ []) ∷
    (any (rule 120 ∷ []) ∷ []) ∷
    (any (rule 121 ∷ []) ∷ []) ∷
    (any (rule 122 ∷ []) ∷ []) ∷
    (any (rule 123 ∷ []) ∷ []) ∷
    (any (rule 124 ∷ []) ∷ []) ∷
    (any (rule 125 ∷ []) ∷ []) ∷
    (any (rule 126 ∷ []) ∷ []) ∷
    (any (rule 127 ∷ []) ∷ []) ∷
    (any (rule 128 ∷ []) ∷ []) ∷
    (any (rule 129 ∷ []) ∷ []) ∷
    (any (rule 130 ∷ []) ∷ []) ∷
    (any (rule 131 ∷ []) ∷ []) ∷
    (any (rule 132 ∷ []) ∷ []) ∷
    (any (rule 133 ∷ []) ∷ []) ∷
    (any (rule 134 ∷ []) ∷ []) ∷
    (any (rule 135 ∷ []) ∷ []) ∷
    (any (rule 136 ∷ []) ∷ []) ∷
    (any (rule 137 ∷ []) ∷ []) ∷
    (any (rule 138 ∷ []) ∷ []) ∷
    (any (rule 139 ∷ []) ∷ []) ∷
    (any (rule 140 ∷ []) ∷ []) ∷
    (any (rule 141 ∷ []) ∷ []) ∷
    (any (rule 142 ∷ []) ∷ []) ∷
    (any (rule 143 ∷ []) ∷ []) ∷
    (any (rule 144 ∷ []) ∷ []) ∷
    (any (rule 145 ∷ []) ∷ []) ∷
    (any (rule 146 ∷ []) ∷ []) ∷
    (any (mark 198 ∷ []) ∷ []) ∷
    (any (mark 199 ∷ []) ∷ []) ∷
    (any (mark 180 ∷ []) ∷ []) ∷
    (in_state 0 (rule 113 ∷ []) ∷ in_state 1 (rule 19 ∷ []) ∷ in_state 2 (rule 19 ∷ mark 26 ∷ rule 269 ∷ []) ∷ []) ∷
    (any (rule 127 ∷ rule 124 ∷ rule 118 ∷ rule 116 ∷ rule 114 ∷ []) ∷ []) ∷
    (in_state 1 (rule 19 ∷ []) ∷ in_state 2 (rule 19 ∷ mark 26 ∷ rule 269 ∷ []) ∷ []) ∷
    (in_state 0 (rule 113 ∷ []) ∷ []) ∷
    (in_state 0 (rule 113 ∷ []) ∷ in_state 1 (rule 19 ∷ []) ∷ in_state 2 (rule 19 ∷ mark 26 ∷ rule 269 ∷ []) ∷ []) ∷
    (in_state 0 (rule 113 ∷ []) ∷ []) ∷
    (any (rule 132 ∷ rule 127 ∷ rule 124 ∷ rule 118 ∷ rule 116 ∷ rule 114 ∷ []) ∷ []) ∷
    (any (rule 23 ∷ rule 20 ∷ []) ∷ []) ∷
    (any (rule 158 ∷ []) ∷ []) ∷
    (any (rule 113 ∷ []) ∷ []) ∷
    (any (rule 158 ∷ []) ∷ []) ∷
    (any (rule 158 ∷ []) ∷ []) ∷
    (any (rule 158 ∷ []) ∷ []) ∷
    (any (rule 158 ∷ []) ∷ []) ∷
    []

-- by production, how it is read
abbrev pub scripts : List Script
scripts =
    no ∷
    done 0 (step 0 0 ∷ []) ∷
    done 0 (step 0 0 ∷ []) ∷
    done 0 (step 0 1 ∷ []) ∷
    done 0 (step 0 0 ∷ []) ∷
    done 0 (step 0 1 ∷ []) ∷
    done 0 (step 0 2 ∷ []) ∷
    done 0 (step 0 3 ∷ []) ∷
    done 0 (step 0 4 ∷ []) ∷
    done 0 (step 0 5 ∷ []) ∷
    done 0 (step 0 6 ∷ []) ∷
    done 0 (step 0 7 ∷ []) ∷
    done 0 (step 0 8 ∷ []) ∷
    done 0 (step 0 9 ∷ []) ∷
    done 0 (step 0 10 ∷ []) ∷
    done 0 (step 0 11 ∷ []) ∷
    done 0 (step 0 12 ∷ []) ∷
    done 0 (step 0 13 ∷ []) ∷
    no ∷
    no ∷
    done 0 (step 0 0 ∷ []) ∷
    done 0 (step 0 1 ∷ []) ∷
    done 0 (step 0 0 ∷ []) ∷
    done 0 (step 0 1 ∷ []) ∷
    done 0 (step 0 2 ∷ []) ∷
    done 0 (step 0 0 ∷ []) ∷
    done 0 (step 0 1 ∷ []) ∷
    done 0 (step 0 0 ∷ []) ∷
    done 0 (step 0 0 ∷ []) ∷
    done 0 (step 0 1 ∷ []) ∷
    done 0 (step 0 0 ∷ []) ∷
    done 0 (step 0 1 ∷ []) ∷
    done 0 (step 0 0 ∷ []) ∷
    done 0 (step 0 1 ∷ []) ∷
    done 0 (step 0 0 ∷ []) ∷
    done 0 (step 0 1 ∷ []) ∷
    done 0 (step 0 2 ∷ []) ∷
    done 0 (step 0 0 ∷ []) ∷
    no ∷
    done 0 (step 0 0 ∷ []) ∷
    done 0 (step 0 1 ∷ []) ∷
    done 0 (step 0 2 ∷ []) ∷
    done 0 (step 0 3 ∷ []) ∷
    done 0 (step 0 4 ∷ []) ∷
    done 0 (step 0 5 ∷ []) ∷
    done 0 (step 0 6 ∷ []) ∷
    done 0 (step 0 7 ∷ []) ∷
    done 0 (step 0 8 ∷ []) ∷
    done 0 (step 0 9 ∷ []) ∷
    done 0 (step 0 10 ∷ []) ∷
    done 0 (step 0 11 ∷ []) ∷
    done 0 (step 0 12 ∷ []) ∷
    done 0 (step 0 13 ∷ []) ∷
    done 0 (step 0 14 ∷ []) ∷
    done 0 (step 0 15 ∷ []) ∷
    done 0 (step 0 16 ∷ []) ∷
    done 0 (step 0 17 ∷ []) ∷
    done 0 (step 0 18 ∷ []) ∷
    done 0 (step 0 19 ∷ []) ∷
    done 0 (step 0 20 ∷ []) ∷
    done 0 (step 0 21 ∷ []) ∷
    done 0 (step 0 22 ∷ []) ∷
    done 0 (step 0 23 ∷ []) ∷
    done 0 (step 0 24 ∷ []) ∷
    done 0 (step 0 0 ∷ []) ∷
    done 0 (step 0 0 ∷ []) ∷
    done 0 (step 0 1 ∷ []) ∷
    done 0 (step 0 0 ∷ []) ∷
    done 0 (step 0 0 ∷ []) ∷
    done 0 (step 0 0 ∷ []) ∷
    done 0 (step 0 1 ∷ []) ∷
    done 0 (step 0 2 ∷ []) ∷
    done 0 (step 0 3 ∷ []) ∷
    done 0 (step 0 4 ∷ []) ∷
    done 0 (step 0 5 ∷ []) ∷
    done 0 (step 0 6 ∷ []) ∷
    done 0 (step 0 0 ∷ []) ∷
    done 0 (step 0 0 ∷ []) ∷
    done 0 (step 0 0 ∷ []) ∷
    done 0 (step 0 1 ∷ []) ∷
    done 0 (step 0 2 ∷ []) ∷
    done 0 (step 0 0 ∷ []) ∷
    done 0 (step 0 1 ∷ []) ∷
    done 0 (step 0 0 ∷ []) ∷
    done 0 (step 0 0 ∷ []) ∷
    done 0 (step 0 1 ∷ []) ∷
    done 0 (step 0 0 ∷ []) ∷
    done 0 (step 0 1 ∷ []) ∷
    done 0 (step 0 2 ∷ []) ∷
    done 0 (step 0 0 ∷ []) ∷
    done 0 (step 0 0 ∷ []) ∷
    done 0 (step 0 1 ∷ []) ∷
    done 0 (step 0 0 ∷ []) ∷
    done 0 (step 0 1 ∷ []) ∷
    done 0 (step 0 0 ∷ []) ∷
    done 0 (step 0 1 ∷ []) ∷
    done 0 (step 0 0 ∷ []) ∷
    done 0 (step 0 0 ∷ []) ∷
    done 0 (step 0 1 ∷ []) ∷
    done 0 (step 0 2 ∷ []) ∷
    done 0 (step 0 0 ∷ []) ∷
    done 0 (step 0 0 ∷ []) ∷
    done 0 (step 0 1 ∷ []) ∷
    done 0 (step 0 0 ∷ []) ∷
    done 0 (step 0 0 ∷ []) ∷
    done 0 (step 0 1 ∷ []) ∷
    done 0 (step 0 2 ∷ []) ∷
    done 0 (step 0 3 ∷ []) ∷
    done 0 (step 0 4 ∷ []) ∷
    done 0 (step 0 0 ∷ []) ∷
    done 0 (step 0 1 ∷ []) ∷
    done 0 (step 0 0 ∷ []) ∷
    done 0 (step 0 1 ∷ []) ∷
    done 0 (step 0 0 ∷ []) ∷
    done 0 (step 0 1 ∷ []) ∷
    done 0 (step 0 0 ∷ []) ∷
    done 0 (step 0 1 ∷ []) ∷
    done 0 (step 0 0 ∷ []) ∷
    done 0 (step 0 1 ∷ []) ∷
    done 0 (step 0 0 ∷ []) ∷
    done 0 (step 0 1 ∷ []) ∷
    done 0 (step 0 0 ∷ []) ∷
    done 0 (step 0 1 ∷ []) ∷
    done 0 (step 0 0 ∷ []) ∷
    done 0 (step 0 0 ∷ []) ∷
    done 0 (step 0 1 ∷ []) ∷
    done 0 (step 0 0 ∷ []) ∷
    done 0 (step 0 0 ∷ []) ∷
    done 0 (step 0 1 ∷ []) ∷
    done 0 (step 0 0 ∷ []) ∷
    done 0 (step 0 0 ∷ []) ∷
    done 0 (step 0 1 ∷ []) ∷
    done 0 (step 0 0 ∷ []) ∷
    done 0 (step 0 0 ∷ []) ∷
    done 0 (step 0 1 ∷ []) ∷
    done 0 (step 0 0 ∷ []) ∷
    done 0 (step 0 0 ∷ []) ∷
    done 0 (step 0 1 ∷ []) ∷
    done 0 (step 0 2 ∷ []) ∷
    done 0 (step 0 0 ∷ []) ∷
    done 0 (step 0 1 ∷ []) ∷
    done 0 (step 0 0 ∷ []) ∷
    done 0 (step 0 0 ∷ []) ∷
    done 0 (step 0 1 ∷ []) ∷
    done 0 (step 0 0 ∷ []) ∷
    at ([]) ([]) (both (done 0 ([])) (no)) ∷
    done 0 (step 0 1 ∷ []) ∷
    done 0 (step 0 0 ∷ []) ∷
    done 0 (step 0 1 ∷ step 0 1 ∷ step 0 1 ∷ step 5 0 ∷ []) ∷
    done 0 ([]) ∷
    done 0 (step 0 1 ∷ step 0 1 ∷ step 5 0 ∷ []) ∷
    at (word 191 ∷ mark 62 ∷ []) ([]) (both (done 0 (step 0 0 ∷ step 2 0 ∷ [])) (both (done 0 (step 0 1 ∷ step 0 2 ∷ step 2 0 ∷ [])) (no))) ∷
    done 0 (step 0 1 ∷ step 0 0 ∷ step 3 0 ∷ []) ∷
    done 0 ([]) ∷
    at (word 47 ∷ mark 63 ∷ []) ([]) (both (done 0 (step 0 0 ∷ [])) (both (done 1 (step 0 0 ∷ [])) (no))) ∷
    at (rule 113 ∷ mark 64 ∷ []) ([]) (both (done 0 (step 0 0 ∷ [])) (both (done 1 ([])) (no))) ∷
    done 0 (step 0 1 ∷ []) ∷
    at (word 49 ∷ []) ([]) (both (done 0 (step 0 0 ∷ [])) (both (done 1 (step 0 0 ∷ [])) (no))) ∷
    at (word 48 ∷ mark 66 ∷ []) ([]) (both (done 0 (step 0 1 ∷ [])) (both (done 1 (step 0 1 ∷ [])) (no))) ∷
    at (word 49 ∷ []) ([]) (both (done 0 (step 0 0 ∷ [])) (both (done 1 (step 0 0 ∷ [])) (no))) ∷
    done 1 (step 0 1 ∷ step 1 0 ∷ step 4 0 ∷ []) ∷
    done 1 (step 0 1 ∷ step 1 1 ∷ []) ∷
    done 1 (step 0 1 ∷ step 1 2 ∷ []) ∷
    done 1 (step 0 1 ∷ step 1 3 ∷ step 2 0 ∷ []) ∷
    done 1 (step 0 1 ∷ step 1 3 ∷ step 2 1 ∷ []) ∷
    done 0 (step 0 1 ∷ []) ∷
    done 0 (step 0 0 ∷ []) ∷
    done 0 (step 0 1 ∷ []) ∷
    done 0 (step 0 0 ∷ []) ∷
    done 0 (step 0 1 ∷ []) ∷
    done 0 (step 0 0 ∷ step 1 0 ∷ []) ∷
    done 0 (step 0 1 ∷ []) ∷
    done 0 (step 0 0 ∷ []) ∷
    done 0 (step 0 0 ∷ []) ∷
    done 0 (step 0 1 ∷ []) ∷
    done 0 (step 0 0 ∷ []) ∷
    done 0 (step 0 1 ∷ []) ∷
    done 0 (step 0 0 ∷ []) ∷
    done 0 (step 0 0 ∷ []) ∷
    done 0 (step 0 1 ∷ []) ∷
    done 0 (step 0 0 ∷ []) ∷
    done 0 (step 0 0 ∷ []) ∷
    done 0 (step 0 1 ∷ []) ∷
    done 0 (step 0 0 ∷ []) ∷
    done 0 (step 0 0 ∷ []) ∷
    done 0 (step 0 1 ∷ []) ∷
    done 0 (step 0 0 ∷ []) ∷
    done 0 (step 0 0 ∷ []) ∷
    done 0 (step 0 1 ∷ []) ∷
    done 0 (step 0 0 ∷ []) ∷
    done 0 (step 0 0 ∷ step 2 0 ∷ []) ∷
    done 0 (step 0 1 ∷ step 1 0 ∷ []) ∷
    no ∷
    done 0 (step 0 2 ∷ []) ∷
    done 0 ([]) ∷
    done 0 (step 0 0 ∷ []) ∷
    done 0 (step 0 1 ∷ []) ∷
    done 0 (step 0 0 ∷ []) ∷
    done 0 (step 0 1 ∷ []) ∷
    done 0 (step 0 0 ∷ []) ∷
    done 0 (step 0 0 ∷ []) ∷
    done 0 (step 0 1 ∷ []) ∷
    done 0 (step 0 0 ∷ []) ∷
    done 0 (step 0 1 ∷ []) ∷
    done 0 (step 0 2 ∷ []) ∷
    done 0 (step 0 0 ∷ []) ∷
    done 0 (step 0 1 ∷ []) ∷
    done 0 (step 0 2 ∷ []) ∷
    done 0 (step 0 0 ∷ []) ∷
    done 0 (step 0 1 ∷ []) ∷
    done 0 (step 0 2 ∷ []) ∷
    done 0 (step 0 3 ∷ []) ∷
    done 0 (step 0 4 ∷ []) ∷
    done 0 (step 0 0 ∷ []) ∷
    done 0 (step 0 1 ∷ []) ∷
    done 0 (step 0 0 ∷ []) ∷
    done 0 (step 0 1 ∷ []) ∷
    done 0 (step 0 0 ∷ []) ∷
    done 0 (step 0 1 ∷ []) ∷
    done 0 (step 0 0 ∷ []) ∷
    done 0 (step 0 1 ∷ []) ∷
    done 0 (step 0 0 ∷ []) ∷
    done 0 (step 0 1 ∷ []) ∷
    done 0 (step 0 2 ∷ []) ∷
    done 0 (step 0 3 ∷ []) ∷
    done 0 (step 0 0 ∷ []) ∷
    done 0 (step 0 1 ∷ []) ∷
    done 0 (step 0 0 ∷ []) ∷
    done 0 (step 0 1 ∷ []) ∷
    done 0 (step 0 0 ∷ []) ∷
    done 0 (step 0 1 ∷ []) ∷
    done 0 (step 0 2 ∷ []) ∷
    done 0 (step 0 3 ∷ []) ∷
    done 0 (step 0 0 ∷ []) ∷
    done 0 (step 0 1 ∷ []) ∷
    done 0 (step 0 2 ∷ []) ∷
    done 0 (step 0 3 ∷ []) ∷
    done 0 (step 0 4 ∷ []) ∷
    done 0 (step 0 5 ∷ []) ∷
    done 0 (step 0 6 ∷ []) ∷
    done 0 (step 0 7 ∷ []) ∷
    done 0 (step 0 8 ∷ []) ∷
    done 0 (step 0 9 ∷ []) ∷
    no ∷
    no ∷
    done 0 (step 0 2 ∷ []) ∷
    no ∷
    no ∷
    done 0 (step 0 0 ∷ []) ∷
    done 0 (step 0 0 ∷ []) ∷
    done 0 (step 0 1 ∷ []) ∷
    done 0 (step 0 0 ∷ []) ∷
    done 0 (step 0 1 ∷ []) ∷
    done 0 (step 0 0 ∷ []) ∷
    done 0 (step 0 0 ∷ []) ∷
    done 0 (step 0 1 ∷ []) ∷
    done 0 (step 0 0 ∷ []) ∷
    done 0 (step 0 0 ∷ []) ∷
    done 0 (step 0 1 ∷ []) ∷
    done 0 (step 0 2 ∷ []) ∷
    done 0 (step 0 3 ∷ []) ∷
    done 0 (step 0 4 ∷ []) ∷
    done 0 (step 0 0 ∷ []) ∷
    done 0 (step 0 1 ∷ []) ∷
    done 0 (step 0 0 ∷ []) ∷
    done 0 (step 0 1 ∷ []) ∷
    done 0 (step 0 2 ∷ []) ∷
    done 0 (step 0 0 ∷ []) ∷
    done 0 (step 0 1 ∷ []) ∷
    done 0 (step 0 0 ∷ []) ∷
    no ∷
    done 0 (step 0 0 ∷ []) ∷
    done 0 (step 0 1 ∷ []) ∷
    done 0 (step 0 0 ∷ []) ∷
    no ∷
    done 0 (step 0 0 ∷ []) ∷
    done 0 (step 0 0 ∷ []) ∷
    done 0 (step 0 1 ∷ []) ∷
    done 0 (step 0 0 ∷ []) ∷
    done 0 (step 0 0 ∷ []) ∷
    done 0 (step 0 1 ∷ []) ∷
    done 0 (step 0 0 ∷ []) ∷
    done 0 (step 0 1 ∷ []) ∷
    done 0 (step 0 2 ∷ []) ∷
    done 0 (step 0 0 ∷ []) ∷
    done 0 (step 0 1 ∷ []) ∷
    done 0 (step 0 0 ∷ []) ∷
    done 0 (step 0 1 ∷ []) ∷
    done 0 (step 0 2 ∷ []) ∷
    done 0 (step 0 3 ∷ []) ∷
    done 0 (step 0 4 ∷ []) ∷
    done 0 (step 0 5 ∷ []) ∷
    done 0 (step 0 6 ∷ []) ∷
    done 0 (step 0 7 ∷ []) ∷
    done 0 (step 0 8 ∷ []) ∷
    done 0 (step 0 9 ∷ []) ∷
    done 0 (step 0 0 ∷ []) ∷
    done 0 (step 0 1 ∷ []) ∷
    done 0 (step 0 0 ∷ []) ∷
    done 0 (step 0 1 ∷ []) ∷
    done 0 (step 0 2 ∷ []) ∷
    done 0 (step 0 0 ∷ []) ∷
    done 0 (step 0 1 ∷ []) ∷
    done 0 (step 0 0 ∷ []) ∷
    done 0 (step 0 0 ∷ []) ∷
    done 0 (step 0 1 ∷ []) ∷
    done 0 (step 0 0 ∷ []) ∷
    done 0 (step 0 1 ∷ []) ∷
    done 0 (step 0 2 ∷ []) ∷
    done 0 (step 0 0 ∷ []) ∷
    done 0 (step 0 0 ∷ []) ∷
    done 0 (step 0 1 ∷ []) ∷
    done 0 (step 0 0 ∷ []) ∷
    done 0 (step 0 1 ∷ []) ∷
    done 0 (step 0 0 ∷ []) ∷
    done 0 (step 0 1 ∷ []) ∷
    done 0 (step 0 0 ∷ []) ∷
    done 0 (step 0 1 ∷ []) ∷
    done 0 (step 0 0 ∷ []) ∷
    at (word 47 ∷ mark 23 ∷ []) ([]) (both (done 0 (step 0 1 ∷ [])) (both (done 0 (step 0 2 ∷ [])) (both (done 0 (step 0 3 ∷ [])) (no)))) ∷
    done 0 (step 0 0 ∷ []) ∷
    done 0 (step 0 1 ∷ []) ∷
    done 0 (step 0 0 ∷ []) ∷
    done 0 (step 0 1 ∷ []) ∷
    done 0 (step 0 0 ∷ []) ∷
    done 0 (step 0 1 ∷ []) ∷
    done 0 (step 0 0 ∷ []) ∷
    done 0 (step 0 1 ∷ []) ∷
    done 0 (step 0 0 ∷ []) ∷
    done 0 (step 0 1 ∷ []) ∷
    done 0 (step 0 2 ∷ []) ∷
    done 0 (step 0 3 ∷ []) ∷
    done 0 (step 0 4 ∷ []) ∷
    done 0 (step 0 5 ∷ []) ∷
    done 0 (step 0 6 ∷ []) ∷
    done 0 (step 0 7 ∷ []) ∷
    done 0 (step 0 8 ∷ []) ∷
    done 0 (step 0 9 ∷ []) ∷
    done 0 (step 0 10 ∷ []) ∷
    done 0 (step 0 11 ∷ []) ∷
    done 0 (step 0 12 ∷ []) ∷
    done 0 (step 0 13 ∷ []) ∷
    done 0 (step 0 14 ∷ []) ∷
    done 0 (step 0 15 ∷ []) ∷
    done 0 (step 0 16 ∷ []) ∷
    done 0 (step 0 17 ∷ []) ∷
    done 0 (step 0 18 ∷ []) ∷
    done 0 (step 0 0 ∷ []) ∷
    done 0 (step 0 1 ∷ []) ∷
    done 0 (step 0 0 ∷ []) ∷
    done 0 (step 0 1 ∷ []) ∷
    done 0 (step 0 0 ∷ []) ∷
    done 0 (step 0 1 ∷ []) ∷
    done 0 (step 0 0 ∷ []) ∷
    done 0 (step 0 1 ∷ []) ∷
    done 0 (step 0 0 ∷ []) ∷
    done 0 (step 0 1 ∷ []) ∷
    done 0 (step 0 2 ∷ []) ∷
    done 0 (step 0 3 ∷ []) ∷
    done 0 (step 0 4 ∷ []) ∷
    done 0 (step 0 0 ∷ []) ∷
    done 0 (step 0 1 ∷ []) ∷
    done 0 (step 0 0 ∷ []) ∷
    done 0 (step 0 1 ∷ []) ∷
    done 0 (step 0 0 ∷ []) ∷
    done 0 (step 0 1 ∷ []) ∷
    done 0 (step 0 2 ∷ []) ∷
    done 0 (step 0 3 ∷ []) ∷
    done 0 (step 0 4 ∷ []) ∷
    done 0 (step 0 5 ∷ []) ∷
    done 0 (step 0 0 ∷ []) ∷
    done 0 (step 0 1 ∷ []) ∷
    done 0 (step 0 0 ∷ []) ∷
    done 0 (step 0 1 ∷ []) ∷
    done 0 ([]) ∷
    done 0 ([]) ∷
    done 0 ([]) ∷
    done 0 (step 0 0 ∷ step 0 0 ∷ step 0 0 ∷ []) ∷
    done 0 (step 0 0 ∷ step 0 0 ∷ step 0 1 ∷ []) ∷
    done 0 (step 0 0 ∷ step 0 0 ∷ step 0 2 ∷ step 0 0 ∷ step 0 0 ∷ step 0 0 ∷ []) ∷
    done 0 (step 0 0 ∷ step 0 0 ∷ step 0 2 ∷ step 0 0 ∷ step 0 0 ∷ step 0 1 ∷ step 0 0 ∷ []) ∷
    at ([]) (step 0 0 ∷ step 0 0 ∷ step 0 0 ∷ []) (both (done 1 ([])) (both (done 2 ([])) (no))) ∷
    at ([]) (step 0 0 ∷ step 0 0 ∷ step 0 1 ∷ []) (both (done 1 ([])) (both (done 2 ([])) (no))) ∷
    at (word 47 ∷ mark 23 ∷ []) ([]) (both (at ([]) ([]) (both (done 0 ([])) (no))) (both (at ([]) ([]) (both (done 0 ([])) (both (done 1 ([])) (both (done 2 ([])) (no))))) (both (at ([]) ([]) (both (done 0 ([])) (no))) (no)))) ∷
    done 0 ([]) ∷
    done 1 (step 2 0 ∷ []) ∷
    done 1 (step 2 1 ∷ []) ∷
    done 0 ([]) ∷
    done 0 (step 0 0 ∷ step 0 0 ∷ step 0 2 ∷ step 0 0 ∷ step 0 0 ∷ step 0 1 ∷ step 0 1 ∷ []) ∷
    done 0 (step 0 0 ∷ step 0 0 ∷ step 0 2 ∷ step 0 0 ∷ step 0 0 ∷ step 0 1 ∷ step 0 2 ∷ []) ∷
    at ([]) (step 0 0 ∷ step 0 0 ∷ step 0 2 ∷ []) (both (done 1 ([])) (both (done 2 ([])) (no))) ∷
    done 2 (step 0 0 ∷ step 0 0 ∷ step 0 2 ∷ step 5 1 ∷ step 5 2 ∷ step 6 0 ∷ []) ∷
    done 2 (step 0 0 ∷ step 0 0 ∷ step 0 2 ∷ step 5 1 ∷ step 5 2 ∷ step 6 1 ∷ []) ∷
    done 1 (step 0 0 ∷ step 0 0 ∷ step 0 2 ∷ step 5 1 ∷ step 5 2 ∷ []) ∷
    done 0 (step 0 0 ∷ step 0 0 ∷ step 0 2 ∷ step 0 0 ∷ step 0 0 ∷ step 0 1 ∷ step 0 3 ∷ []) ∷
    done 0 (step 0 0 ∷ []) ∷
    done 0 (step 0 1 ∷ step 0 0 ∷ []) ∷
    done 0 (step 0 1 ∷ step 0 1 ∷ step 0 0 ∷ []) ∷
    done 0 (step 0 1 ∷ step 0 1 ∷ step 0 1 ∷ step 0 0 ∷ []) ∷
    done 0 (step 0 1 ∷ step 0 1 ∷ step 0 1 ∷ step 0 1 ∷ step 0 0 ∷ []) ∷
    done 0 (step 0 1 ∷ step 0 1 ∷ step 0 1 ∷ step 0 1 ∷ step 0 1 ∷ step 0 0 ∷ []) ∷
    done 0 (step 0 0 ∷ []) ∷
    done 0 (step 0 1 ∷ step 0 0 ∷ []) ∷
    done 0 (step 0 1 ∷ step 0 1 ∷ []) ∷
    done 0 (step 0 0 ∷ step 0 0 ∷ step 0 0 ∷ step 0 0 ∷ step 0 0 ∷ []) ∷
    done 0 (step 0 0 ∷ step 0 0 ∷ step 0 0 ∷ step 0 0 ∷ step 0 1 ∷ []) ∷
    at (word 47 ∷ mark 23 ∷ []) ([]) (both (at ([]) ([]) (both (done 0 ([])) (no))) (both (at ([]) ([]) (both (done 0 ([])) (no))) (both (at ([]) ([]) (both (done 0 ([])) (no))) (no)))) ∷
    at ([]) ([]) (both (done 0 ([])) (no)) ∷
    done 0 (step 0 0 ∷ step 0 0 ∷ step 0 0 ∷ []) ∷
    done 0 (step 0 0 ∷ step 0 0 ∷ step 0 1 ∷ []) ∷
    done 0 (step 0 0 ∷ step 0 0 ∷ step 0 2 ∷ step 0 0 ∷ step 0 0 ∷ step 0 0 ∷ []) ∷
    done 0 (step 0 0 ∷ step 0 0 ∷ step 0 2 ∷ step 0 0 ∷ step 0 0 ∷ step 0 1 ∷ step 0 0 ∷ []) ∷
    done 0 (step 0 1 ∷ step 0 0 ∷ []) ∷
    at ([]) (step 0 0 ∷ step 0 0 ∷ step 0 2 ∷ step 0 0 ∷ step 0 0 ∷ step 0 1 ∷ step 0 1 ∷ []) (both (done 0 ([])) (no)) ∷
    at ([]) (step 0 0 ∷ step 0 0 ∷ step 0 2 ∷ step 0 0 ∷ step 0 0 ∷ step 0 1 ∷ step 0 2 ∷ []) (both (done 0 ([])) (no)) ∷
    done 0 (step 0 0 ∷ step 0 0 ∷ step 0 0 ∷ step 0 0 ∷ step 0 2 ∷ []) ∷
    done 0 (step 0 0 ∷ step 0 0 ∷ step 0 0 ∷ step 0 0 ∷ step 0 2 ∷ step 5 1 ∷ step 5 2 ∷ step 6 0 ∷ []) ∷
    done 0 (step 0 0 ∷ step 0 0 ∷ step 0 0 ∷ step 0 0 ∷ step 0 2 ∷ step 5 1 ∷ step 5 2 ∷ step 6 1 ∷ step 6 0 ∷ []) ∷
    done 0 (step 0 0 ∷ step 0 0 ∷ step 0 0 ∷ step 0 0 ∷ step 0 2 ∷ step 5 1 ∷ step 5 2 ∷ step 6 1 ∷ step 6 1 ∷ []) ∷
    done 0 (step 0 1 ∷ step 0 0 ∷ step 0 0 ∷ step 0 0 ∷ step 0 2 ∷ step 0 0 ∷ step 0 0 ∷ step 0 1 ∷ step 0 2 ∷ step 5 1 ∷ step 5 1 ∷ step 5 1 ∷ step 5 1 ∷ step 5 1 ∷ step 5 1 ∷ step 6 0 ∷ []) ∷
    at ([]) (step 0 0 ∷ step 0 0 ∷ step 0 2 ∷ step 0 0 ∷ step 0 0 ∷ step 0 1 ∷ step 0 3 ∷ []) (both (done 0 ([])) (no)) ∷
    no ∷
    []

-- by rule, how its first reading goes on behind what stands in front
abbrev pub completions : List Completion
completions =
    completion_of (rule 0 ∷ []) ([]) ∷
    completion_of (rule 1 ∷ []) ([]) ∷
    completion_of (rule 2 ∷ []) ([]) ∷
    completion_of (rule 3 ∷ []) ([]) ∷
    completion_of (rule 4 ∷ []) ([]) ∷
    completion_of (rule 5 ∷ []) ([]) ∷
    completion_of (rule 6 ∷ []) ([]) ∷
    completion_of (rule 7 ∷ []) ([]) ∷
    completion_of (rule 8 ∷ []) ([]) ∷
    completion_of (rule 9 ∷ []) ([]) ∷
    completion_of (rule 10 ∷ []) ([]) ∷
    completion_of (rule 11 ∷ []) ([]) ∷
    completion_of (rule 12 ∷ []) ([]) ∷
    completion_of (rule 13 ∷ []) ([]) ∷
    completion_of (rule 14 ∷ []) ([]) ∷
    completion_of (rule 15 ∷ []) ([]) ∷
    completion_of (rule 16 ∷ []) ([]) ∷
    completion_of (rule 17 ∷ []) ([]) ∷
    completion_of (rule 18 ∷ []) ([]) ∷
    completion_of (rule 19 ∷ []) ([]) ∷
    completion_of (rule 20 ∷ []) ([]) ∷
    completion_of (rule 21 ∷ []) ([]) ∷
    completion_of (rule 22 ∷ []) ([]) ∷
    completion_of (rule 23 ∷ []) ([]) ∷
    completion_of (rule 24 ∷ []) ([]) ∷
    completion_of (rule 25 ∷ []) ([]) ∷
    completion_of (rule 26 ∷ []) ([]) ∷
    completion_of (rule 27 ∷ []) ([]) ∷
    completion_of (rule 28 ∷ []) ([]) ∷
    completion_of (rule 29 ∷ []) ([]) ∷
    completion_of (rule 30 ∷ []) ([]) ∷
    completion_of (rule 31 ∷ []) ([]) ∷
    completion_of (rule 32 ∷ []) ([]) ∷
    completion_of (rule 33 ∷ []) ([]) ∷
    completion_of (rule 34 ∷ []) ([]) ∷
    completion_of (rule 35 ∷ []) ([]) ∷
    completion_of (rule 36 ∷ []) ([]) ∷
    completion_of (rule 37 ∷ []) ([]) ∷
    completion_of (rule 38 ∷ []) ([]) ∷
    completion_of (rule 39 ∷ []) ([]) ∷
    completion_of (rule 40 ∷ []) ([]) ∷
    completion_of (rule 41 ∷ []) ([]) ∷
    completion_of (rule 42 ∷ []) ([]) ∷
    completion_of (rule 43 ∷ []) ([]) ∷
    completion_of (rule 44 ∷ []) ([]) ∷
    completion_of (rule 45 ∷ []) ([]) ∷
    completion_of (rule 46 ∷ []) ([]) ∷
    completion_of (rule 47 ∷ []) ([]) ∷
    completion_of (rule 48 ∷ []) ([]) ∷
    completion_of (rule 49 ∷ []) ([]) ∷
    completion_of (rule 50 ∷ []) ([]) ∷
    completion_of (rule 51 ∷ []) ([]) ∷
    completion_of (rule 52 ∷ []) ([]) ∷
    completion_of (rule 53 ∷ []) ([]) ∷
    completion_of (rule 54 ∷ []) ([]) ∷
    completion_of (rule 55 ∷ []) ([]) ∷
    completion_of (rule 56 ∷ []) ([]) ∷
    completion_of (rule 13 ∷ word 48 ∷ mark 60 ∷ rule 256 ∷ []) (step 0 0 ∷ []) ∷
    completion_of (rule 256 ∷ []) ([]) ∷
    completion_of (rule 256 ∷ []) ([]) ∷
    completion_of (rule 23 ∷ rule 20 ∷ mark 26 ∷ rule 47 ∷ rule 52 ∷ []) ([]) ∷
    completion_of (rule 259 ∷ rule 258 ∷ mark 68 ∷ []) ([]) ∷
    completion_of (rule 261 ∷ rule 260 ∷ word 48 ∷ mark 66 ∷ rule 258 ∷ mark 68 ∷ []) ([]) ∷
    completion_of (rule 260 ∷ word 48 ∷ mark 66 ∷ rule 258 ∷ mark 68 ∷ []) ([]) ∷
    completion_of (rule 258 ∷ mark 68 ∷ []) ([]) ∷
    completion_of (rule 260 ∷ word 48 ∷ mark 66 ∷ rule 258 ∷ mark 68 ∷ []) ([]) ∷
    completion_of (rule 261 ∷ []) ([]) ∷
    completion_of (rule 258 ∷ mark 68 ∷ []) ([]) ∷
    completion_of (rule 68 ∷ []) ([]) ∷
    completion_of (rule 69 ∷ []) ([]) ∷
    completion_of (rule 70 ∷ []) ([]) ∷
    completion_of (rule 71 ∷ []) ([]) ∷
    completion_of (rule 72 ∷ []) ([]) ∷
    completion_of (rule 73 ∷ []) ([]) ∷
    completion_of (rule 74 ∷ []) ([]) ∷
    completion_of (rule 75 ∷ []) ([]) ∷
    completion_of (rule 76 ∷ []) ([]) ∷
    completion_of (rule 77 ∷ []) ([]) ∷
    completion_of (rule 78 ∷ []) ([]) ∷
    completion_of (rule 79 ∷ []) ([]) ∷
    completion_of (rule 80 ∷ []) ([]) ∷
    completion_of (word 47 ∷ rule 83 ∷ rule 82 ∷ word 48 ∷ mark 83 ∷ []) ([]) ∷
    completion_of (rule 82 ∷ []) ([]) ∷
    completion_of (rule 83 ∷ []) ([]) ∷
    completion_of (rule 84 ∷ []) ([]) ∷
    completion_of (rule 85 ∷ []) ([]) ∷
    completion_of (rule 86 ∷ []) ([]) ∷
    completion_of (rule 87 ∷ []) ([]) ∷
    completion_of (rule 88 ∷ []) ([]) ∷
    completion_of (rule 89 ∷ []) ([]) ∷
    completion_of (rule 90 ∷ []) ([]) ∷
    completion_of (rule 91 ∷ []) ([]) ∷
    completion_of (rule 92 ∷ []) ([]) ∷
    completion_of (rule 93 ∷ []) ([]) ∷
    completion_of (rule 94 ∷ []) ([]) ∷
    completion_of (rule 95 ∷ []) ([]) ∷
    completion_of (rule 96 ∷ []) ([]) ∷
    completion_of (rule 97 ∷ []) ([]) ∷
    completion_of (rule 98 ∷ []) ([]) ∷
    completion_of ([]) ([]) ∷
    completion_of (rule 100 ∷ []) ([]) ∷
    completion_of (rule 101 ∷ []) ([]) ∷
    completion_of (rule 102 ∷ []) ([]) ∷
    completion_of (rule 103 ∷ []) ([]) ∷
    completion_of (rule 104 ∷ []) ([]) ∷
    completion_of (rule 105 ∷ []) ([]) ∷
    completion_of (rule 106 ∷ []) ([]) ∷
    completion_of (rule 107 ∷ []) ([]) ∷
    completion_of (rule 108 ∷ []) ([]) ∷
    completion_of (rule 109 ∷ []) ([]) ∷
    completion_of (rule 110 ∷ []) ([]) ∷
    completion_of (rule 111 ∷ []) ([]) ∷
    completion_of (rule 112 ∷ []) ([]) ∷
    completion_of (rule 113 ∷ []) ([]) ∷
    completion_of (rule 114 ∷ []) ([]) ∷
    completion_of (rule 115 ∷ []) ([]) ∷
    completion_of (rule 116 ∷ []) ([]) ∷
    completion_of (rule 117 ∷ []) ([]) ∷
    completion_of (rule 118 ∷ []) ([]) ∷
    completion_of (rule 119 ∷ []) ([]) ∷
    completion_of (rule 120 ∷ []) ([]) ∷
    completion_of (rule 121 ∷ []) ([]) ∷
    completion_of (rule 122 ∷ []) ([]) ∷
    completion_of (rule 123 ∷ []) ([]) ∷
    completion_of (rule 124 ∷ []) ([]) ∷
    completion_of (rule 125 ∷ []) ([]) ∷
    completion_of (rule 126 ∷ []) ([]) ∷
    completion_of (rule 127 ∷ []) ([]) ∷
    completion_of (rule 128 ∷ []) ([]) ∷
    completion_of (rule 129 ∷ []) ([]) ∷
    completion_of (rule 130 ∷ []) ([]) ∷
    completion_of (rule 131 ∷ []) ([]) ∷
    completion_of (rule 132 ∷ []) ([]) ∷
    completion_of (rule 133 ∷ []) ([]) ∷
    completion_of (rule 134 ∷ []) ([]) ∷
    completion_of (rule 135 ∷ []) ([]) ∷
    completion_of (rule 136 ∷ []) ([]) ∷
    completion_of (rule 137 ∷ []) ([]) ∷
    completion_of (rule 138 ∷ []) ([]) ∷
    completion_of (rule 139 ∷ []) ([]) ∷
    completion_of (rule 140 ∷ []) ([]) ∷
    completion_of (rule 141 ∷ []) ([]) ∷
    completion_of (rule 142 ∷ []) ([]) ∷
    completion_of (rule 143 ∷ []) ([]) ∷
    completion_of (rule 144 ∷ []) ([]) ∷
    completion_of (rule 145 ∷ []) ([]) ∷
    completion_of (rule 146 ∷ []) ([]) ∷
    completion_of (mark 198 ∷ []) ([]) ∷
    completion_of (mark 199 ∷ []) ([]) ∷
    completion_of (mark 180 ∷ []) ([]) ∷
    completion_of (rule 113 ∷ []) ([]) ∷
    completion_of (rule 127 ∷ rule 124 ∷ rule 118 ∷ rule 116 ∷ rule 114 ∷ []) ([]) ∷
    completion_of ([]) ([]) ∷
    completion_of (mark 198 ∷ rule 132 ∷ rule 127 ∷ rule 124 ∷ rule 118 ∷ rule 116 ∷ rule 114 ∷ []) (step 0 0 ∷ step 0 0 ∷ step 0 2 ∷ step 0 0 ∷ step 0 0 ∷ step 0 1 ∷ step 0 1 ∷ []) ∷
    completion_of (mark 199 ∷ rule 132 ∷ rule 127 ∷ rule 124 ∷ rule 118 ∷ rule 116 ∷ rule 114 ∷ []) (step 0 0 ∷ step 0 0 ∷ step 0 2 ∷ step 0 0 ∷ step 0 0 ∷ step 0 1 ∷ step 0 2 ∷ []) ∷
    completion_of (mark 180 ∷ rule 132 ∷ rule 127 ∷ rule 124 ∷ rule 118 ∷ rule 116 ∷ rule 114 ∷ []) (step 0 0 ∷ step 0 0 ∷ step 0 2 ∷ step 0 0 ∷ step 0 0 ∷ step 0 1 ∷ step 0 3 ∷ []) ∷
    completion_of (rule 132 ∷ rule 127 ∷ rule 124 ∷ rule 118 ∷ rule 116 ∷ rule 114 ∷ []) ([]) ∷
    completion_of (rule 23 ∷ rule 20 ∷ []) ([]) ∷
    completion_of (rule 158 ∷ []) ([]) ∷
    completion_of (rule 113 ∷ []) ([]) ∷
    completion_of (mark 52 ∷ rule 43 ∷ word 48 ∷ mark 71 ∷ []) (step 0 1 ∷ step 0 0 ∷ []) ∷
    completion_of (mark 198 ∷ rule 132 ∷ rule 127 ∷ rule 124 ∷ rule 118 ∷ rule 116 ∷ rule 114 ∷ mark 52 ∷ rule 43 ∷ word 48 ∷ mark 71 ∷ []) (step 0 1 ∷ step 0 0 ∷ step 0 0 ∷ step 0 0 ∷ step 0 2 ∷ step 0 0 ∷ step 0 0 ∷ step 0 1 ∷ step 0 1 ∷ []) ∷
    completion_of (mark 33 ∷ rule 23 ∷ rule 20 ∷ mark 26 ∷ rule 47 ∷ rule 52 ∷ word 48 ∷ mark 76 ∷ []) (step 0 0 ∷ step 0 0 ∷ step 0 0 ∷ step 0 0 ∷ step 0 2 ∷ []) ∷
    completion_of (mark 180 ∷ rule 132 ∷ rule 127 ∷ rule 124 ∷ rule 118 ∷ rule 116 ∷ rule 114 ∷ mark 52 ∷ rule 43 ∷ word 48 ∷ mark 71 ∷ []) (step 0 1 ∷ step 0 0 ∷ step 0 0 ∷ step 0 0 ∷ step 0 2 ∷ step 0 0 ∷ step 0 0 ∷ step 0 1 ∷ step 0 3 ∷ []) ∷
    []

-- by production that refuses a word, which of the literal ones that is
abbrev pub refused_as : List ℕ
refused_as = 0 ∷ 0 ∷ 0 ∷ 0 ∷ 0 ∷ 0 ∷ 0 ∷ 0 ∷ 0 ∷ 0 ∷ 0 ∷ 0 ∷ 0 ∷ 0 ∷ 0 ∷ 0 ∷ 0 ∷ 0 ∷ 0 ∷ 1 ∷ 0 ∷ 0 ∷ 0 ∷ 0 ∷ 0 ∷ 0 ∷ 0 ∷ 0 ∷ 0 ∷ 0 ∷ 0 ∷ 0 ∷ 0 ∷ 0 ∷ 0 ∷ 0 ∷ 0 ∷ 0 ∷ 2 ∷ 0 ∷ 0 ∷ 0 ∷ 0 ∷ 0 ∷ 0 ∷ 0 ∷ 0 ∷ 0 ∷ 0 ∷ 0 ∷ 0 ∷ 0 ∷ 0 ∷ 0 ∷ 0 ∷ 0 ∷ 0 ∷ 0 ∷ 0 ∷ 0 ∷ 0 ∷ 0 ∷ 0 ∷ 0 ∷ 0 ∷ 0 ∷ 0 ∷ 0 ∷ 0 ∷ 0 ∷ 0 ∷ 0 ∷ 0 ∷ 0 ∷ 0 ∷ 0 ∷ 0 ∷ 0 ∷ 0 ∷ 0 ∷ 0 ∷ 0 ∷ 0 ∷ 0 ∷ 0 ∷ 0 ∷ 0 ∷ 0 ∷ 0 ∷ 0 ∷ 0 ∷ 0 ∷ 0 ∷ 0 ∷ 0 ∷ 0 ∷ 0 ∷ 0 ∷ 0 ∷ 0 ∷ 0 ∷ 0 ∷ 0 ∷ 0 ∷ 0 ∷ 0 ∷ 0 ∷ 0 ∷ 0 ∷ 0 ∷ 0 ∷ 0 ∷ 0 ∷ 0 ∷ 0 ∷ 0 ∷ 0 ∷ 0 ∷ 0 ∷ 0 ∷ 0 ∷ 0 ∷ 0 ∷ 0 ∷ 0 ∷ 0 ∷ 0 ∷ 0 ∷ 0 ∷ 0 ∷ 0 ∷ 0 ∷ 0 ∷ 0 ∷ 0 ∷ 0 ∷ 0 ∷ 0 ∷ 0 ∷ 0 ∷ 0 ∷ 0 ∷ 0 ∷ 0 ∷ 0 ∷ 0 ∷ 0 ∷ 0 ∷ 0 ∷ 0 ∷ 0 ∷ 0 ∷ 0 ∷ 0 ∷ 0 ∷ 0 ∷ 0 ∷ 0 ∷ 0 ∷ 0 ∷ 0 ∷ 0 ∷ 0 ∷ 0 ∷ 0 ∷ 0 ∷ 0 ∷ 0 ∷ 0 ∷ 0 ∷ 0 ∷ 0 ∷ 0 ∷ 0 ∷ 0 ∷ 0 ∷ 0 ∷ 0 ∷ 0 ∷ 0 ∷ 0 ∷ 0 ∷ 0 ∷ 0 ∷ 0 ∷ 0 ∷ 0 ∷ 0 ∷ 0 ∷ 0 ∷ 0 ∷ 0 ∷ 3 ∷ 0 ∷ 0 ∷ 0 ∷ 0 ∷ 0 ∷ 0 ∷ 0 ∷ 0 ∷ 0 ∷ 0 ∷ 0 ∷ 0 ∷ 0 ∷ 0 ∷ 0 ∷ 0 ∷ 0 ∷ 0 ∷ 0 ∷ 0 ∷ 0 ∷ 0 ∷ 0 ∷ 0 ∷ 0 ∷ 0 ∷ 0 ∷ 0 ∷ 0 ∷ 0 ∷ 0 ∷ 0 ∷ 0 ∷ 0 ∷ 0 ∷ 0 ∷ 0 ∷ 0 ∷ 0 ∷ 0 ∷ 0 ∷ 0 ∷ 0 ∷ 0 ∷ 0 ∷ 0 ∷ 0 ∷ 0 ∷ 0 ∷ 0 ∷ 4 ∷ 0 ∷ 0 ∷ 0 ∷ 0 ∷ 0 ∷ 0 ∷ 0 ∷ 0 ∷ 0 ∷ 0 ∷ 0 ∷ 0 ∷ 0 ∷ 0 ∷ 0 ∷ 0 ∷ 0 ∷ 0 ∷ 0 ∷ 0 ∷ 0 ∷ 0 ∷ 0 ∷ 0 ∷ 0 ∷ 0 ∷ 5 ∷ 0 ∷ 0 ∷ 0 ∷ 6 ∷ 0 ∷ 0 ∷ 0 ∷ 0 ∷ 0 ∷ 0 ∷ 0 ∷ 0 ∷ 0 ∷ 0 ∷ 0 ∷ 0 ∷ 0 ∷ 0 ∷ 0 ∷ 0 ∷ 0 ∷ 0 ∷ 0 ∷ 0 ∷ 0 ∷ 0 ∷ 0 ∷ 0 ∷ 0 ∷ 0 ∷ 0 ∷ 0 ∷ 0 ∷ 0 ∷ 0 ∷ 0 ∷ 0 ∷ 0 ∷ 0 ∷ 0 ∷ 0 ∷ 0 ∷ 0 ∷ 0 ∷ 0 ∷ 0 ∷ 0 ∷ 0 ∷ 0 ∷ 0 ∷ 0 ∷ 0 ∷ 0 ∷ 0 ∷ 0 ∷ 0 ∷ 0 ∷ 0 ∷ 0 ∷ 0 ∷ 0 ∷ 0 ∷ 0 ∷ 0 ∷ 0 ∷ 0 ∷ 0 ∷ 0 ∷ 0 ∷ 0 ∷ 0 ∷ 0 ∷ 0 ∷ 0 ∷ 0 ∷ 0 ∷ 0 ∷ 0 ∷ 0 ∷ 0 ∷ 0 ∷ 0 ∷ 0 ∷ 0 ∷ 0 ∷ 0 ∷ 0 ∷ 0 ∷ 0 ∷ 0 ∷ 0 ∷ 0 ∷ 0 ∷ 0 ∷ 0 ∷ 0 ∷ 0 ∷ 0 ∷ 0 ∷ 0 ∷ 0 ∷ 0 ∷ 0 ∷ 0 ∷ 0 ∷ 0 ∷ 0 ∷ 0 ∷ 0 ∷ 0 ∷ 0 ∷ 0 ∷ 0 ∷ 0 ∷ 0 ∷ 0 ∷ 0 ∷ 0 ∷ 0 ∷ 0 ∷ 0 ∷ 0 ∷ 0 ∷ 0 ∷ 0 ∷ 0 ∷ 0 ∷ 0 ∷ 0 ∷ 0 ∷ 0 ∷ 0 ∷ 0 ∷ 0 ∷ 0 ∷ 0 ∷ 0 ∷ 0 ∷ 0 ∷ 0 ∷ 0 ∷ 0 ∷ 0 ∷ 0 ∷ 0 ∷ 0 ∷ 0 ∷ 0 ∷ 0 ∷ 0 ∷ 7 ∷ []

-- the productions that are read by hand
abbrev pub by_hand : List ℕ
by_hand = 244 ∷ 246 ∷ 247 ∷ []

abbrev pub in_parentheses : ℕ
in_parentheses = 244

abbrev pub some_scale : ℕ
some_scale = 246

abbrev pub no_scale : ℕ
no_scale = 247

-- the literal productions of a precision alone, and of one with a scale
abbrev pub alone : ℕ
alone = 237

abbrev pub with_scale : ℕ
with_scale = 238
