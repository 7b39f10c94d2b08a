-- How the table derives what each production of the literal grammar writes, made by grammar/make_literal.py.
use Rattle.std.specs.Prelude.{List, [], ◌∷◌}
use Rattle.hs_grammar.specs.declared.types.Symbol.TheVariants as S
use Rattle.hs_syntax.proofs.Runs.{to_any, owing, to_state, Claim, claim, Run, finish, by, take, turn, claimed, both, no}

-- by rule, from which steps that are owed and which symbols of the table it leads where
abbrev pub claims : List (List Claim)
claims =
    (claim ([]) (S.Rule 0 ∷ []) (to_any ([]) ∷ []) ∷ []) ∷
    (claim ([]) (S.Rule 1 ∷ []) (to_any ([]) ∷ []) ∷ []) ∷
    (claim ([]) (S.Rule 2 ∷ []) (to_any ([]) ∷ []) ∷ []) ∷
    (claim ([]) (S.Rule 3 ∷ []) (to_any ([]) ∷ []) ∷ []) ∷
    (claim ([]) (S.Rule 4 ∷ []) (to_any ([]) ∷ []) ∷ []) ∷
    (claim ([]) (S.Rule 5 ∷ []) (to_any ([]) ∷ []) ∷ []) ∷
    (claim ([]) (S.Rule 6 ∷ []) (to_any ([]) ∷ []) ∷ []) ∷
    (claim ([]) (S.Rule 7 ∷ []) (to_any ([]) ∷ []) ∷ []) ∷
    (claim ([]) (S.Rule 8 ∷ []) (to_any ([]) ∷ []) ∷ []) ∷
    (claim ([]) (S.Rule 9 ∷ []) (to_any ([]) ∷ []) ∷ []) ∷
    (claim ([]) (S.Rule 10 ∷ []) (to_any ([]) ∷ []) ∷ []) ∷
    (claim ([]) (S.Rule 11 ∷ []) (to_any ([]) ∷ []) ∷ []) ∷
    (claim ([]) (S.Rule 12 ∷ []) (to_any ([]) ∷ []) ∷ []) ∷
    (claim ([]) (S.Rule 13 ∷ []) (to_any ([]) ∷ []) ∷ []) ∷
    (claim ([]) (S.Rule 14 ∷ []) (to_any ([]) ∷ []) ∷ []) ∷
    (claim ([]) (S.Rule 15 ∷ []) (to_any ([]) ∷ []) ∷ []) ∷
    (claim ([]) (S.Rule 16 ∷ []) (to_any ([]) ∷ []) ∷ []) ∷
    (claim ([]) (S.Rule 17 ∷ []) (to_any ([]) ∷ []) ∷ []) ∷
    (claim ([]) (S.Rule 18 ∷ []) (to_any ([]) ∷ []) ∷ claim ([]) (S.Rule 158 ∷ []) (to_any (S.Take 48 ∷ S.Mark 76 ∷ []) ∷ owing (33 ∷ 26 ∷ []) (S.Rule 162 ∷ []) ∷ []) ∷ []) ∷
    (claim ([]) (S.Rule 19 ∷ []) (to_any ([]) ∷ []) ∷ claim ([]) (S.Rule 150 ∷ []) (to_any (S.Rule 152 ∷ []) ∷ owing (33 ∷ []) (S.Rule 154 ∷ []) ∷ []) ∷ claim ([]) (S.Rule 158 ∷ []) (to_any (S.Mark 26 ∷ S.Rule 47 ∷ S.Rule 52 ∷ S.Take 48 ∷ S.Mark 76 ∷ []) ∷ owing (33 ∷ []) (S.Rule 162 ∷ []) ∷ []) ∷ []) ∷
    (claim ([]) (S.Rule 20 ∷ []) (to_any ([]) ∷ []) ∷ claim (33 ∷ []) (S.Rule 154 ∷ []) (to_any (S.Rule 152 ∷ []) ∷ owing (33 ∷ []) (S.Rule 154 ∷ []) ∷ []) ∷ claim (33 ∷ []) (S.Rule 162 ∷ []) (to_any (S.Mark 26 ∷ S.Rule 47 ∷ S.Rule 52 ∷ S.Take 48 ∷ S.Mark 76 ∷ []) ∷ owing (33 ∷ []) (S.Rule 162 ∷ []) ∷ []) ∷ []) ∷
    (claim ([]) (S.Rule 21 ∷ []) (to_any ([]) ∷ []) ∷ []) ∷
    (claim ([]) (S.Rule 22 ∷ []) (to_any ([]) ∷ []) ∷ claim ([]) (S.Rule 150 ∷ []) (to_any (S.Rule 20 ∷ S.Rule 152 ∷ []) ∷ owing (33 ∷ []) (S.Rule 154 ∷ []) ∷ []) ∷ claim ([]) (S.Rule 158 ∷ []) (to_any (S.Rule 20 ∷ S.Mark 26 ∷ S.Rule 47 ∷ S.Rule 52 ∷ S.Take 48 ∷ S.Mark 76 ∷ []) ∷ owing (33 ∷ []) (S.Rule 162 ∷ []) ∷ []) ∷ []) ∷
    (claim ([]) (S.Rule 23 ∷ []) (to_any ([]) ∷ []) ∷ claim (33 ∷ []) (S.Rule 154 ∷ []) (to_any (S.Rule 20 ∷ S.Rule 152 ∷ []) ∷ owing (33 ∷ []) (S.Rule 154 ∷ []) ∷ []) ∷ claim (33 ∷ []) (S.Rule 162 ∷ []) (to_any (S.Rule 20 ∷ S.Mark 26 ∷ S.Rule 47 ∷ S.Rule 52 ∷ S.Take 48 ∷ S.Mark 76 ∷ []) ∷ owing (33 ∷ []) (S.Rule 162 ∷ []) ∷ []) ∷ []) ∷
    (claim ([]) (S.Rule 24 ∷ []) (to_any ([]) ∷ []) ∷ claim ([]) (S.Rule 150 ∷ []) (to_any (S.Rule 23 ∷ S.Rule 20 ∷ S.Rule 152 ∷ []) ∷ owing (33 ∷ []) (S.Rule 154 ∷ []) ∷ []) ∷ claim ([]) (S.Rule 158 ∷ []) (to_any (S.Rule 23 ∷ S.Rule 20 ∷ S.Mark 26 ∷ S.Rule 47 ∷ S.Rule 52 ∷ S.Take 48 ∷ S.Mark 76 ∷ []) ∷ owing (33 ∷ []) (S.Rule 162 ∷ []) ∷ []) ∷ []) ∷
    (claim ([]) (S.Rule 25 ∷ []) (to_any ([]) ∷ []) ∷ []) ∷
    (claim ([]) (S.Rule 26 ∷ []) (to_any ([]) ∷ []) ∷ []) ∷
    (claim ([]) (S.Rule 27 ∷ []) (to_any ([]) ∷ []) ∷ []) ∷
    (claim ([]) (S.Rule 28 ∷ []) (to_any ([]) ∷ []) ∷ []) ∷
    (claim ([]) (S.Rule 29 ∷ []) (to_any ([]) ∷ []) ∷ []) ∷
    (claim ([]) (S.Rule 30 ∷ []) (to_any ([]) ∷ []) ∷ []) ∷
    (claim ([]) (S.Rule 31 ∷ []) (to_any ([]) ∷ []) ∷ []) ∷
    (claim ([]) (S.Rule 32 ∷ []) (to_any ([]) ∷ []) ∷ []) ∷
    (claim ([]) (S.Rule 33 ∷ []) (to_any ([]) ∷ []) ∷ []) ∷
    (claim ([]) (S.Rule 34 ∷ []) (to_any ([]) ∷ []) ∷ []) ∷
    (claim ([]) (S.Rule 35 ∷ []) (to_any ([]) ∷ []) ∷ []) ∷
    (claim ([]) (S.Rule 36 ∷ []) (to_any ([]) ∷ []) ∷ []) ∷
    (claim ([]) (S.Rule 37 ∷ []) (to_any ([]) ∷ []) ∷ []) ∷
    (claim ([]) (S.Rule 38 ∷ []) (to_any ([]) ∷ []) ∷ []) ∷
    (claim ([]) (S.Rule 39 ∷ []) (to_any ([]) ∷ []) ∷ []) ∷
    (claim ([]) (S.Rule 40 ∷ []) (to_any ([]) ∷ []) ∷ []) ∷
    (claim ([]) (S.Rule 41 ∷ []) (to_any ([]) ∷ []) ∷ []) ∷
    (claim ([]) (S.Rule 42 ∷ []) (to_any ([]) ∷ []) ∷ claim ([]) (S.Rule 158 ∷ []) (to_any (S.Take 48 ∷ S.Mark 71 ∷ []) ∷ owing (199 ∷ 52 ∷ []) (S.Rule 162 ∷ []) ∷ []) ∷ []) ∷
    (claim ([]) (S.Rule 43 ∷ []) (to_any ([]) ∷ []) ∷ claim (199 ∷ 52 ∷ []) (S.Rule 162 ∷ []) (to_any (S.Take 48 ∷ S.Mark 71 ∷ []) ∷ owing (199 ∷ 52 ∷ []) (S.Rule 162 ∷ []) ∷ []) ∷ []) ∷
    (claim ([]) (S.Rule 44 ∷ []) (to_any ([]) ∷ []) ∷ []) ∷
    (claim ([]) (S.Rule 45 ∷ []) (to_any ([]) ∷ []) ∷ []) ∷
    (claim ([]) (S.Rule 46 ∷ []) (to_any ([]) ∷ []) ∷ []) ∷
    (claim ([]) (S.Rule 47 ∷ []) (to_any ([]) ∷ []) ∷ claim (33 ∷ 26 ∷ []) (S.Rule 162 ∷ []) (to_any (S.Rule 52 ∷ S.Take 48 ∷ S.Mark 76 ∷ []) ∷ owing (33 ∷ 26 ∷ []) (S.Rule 162 ∷ []) ∷ []) ∷ []) ∷
    (claim ([]) (S.Rule 48 ∷ []) (to_any ([]) ∷ []) ∷ []) ∷
    (claim ([]) (S.Rule 49 ∷ []) (to_any ([]) ∷ []) ∷ []) ∷
    (claim ([]) (S.Rule 50 ∷ []) (to_any ([]) ∷ []) ∷ []) ∷
    (claim ([]) (S.Rule 51 ∷ []) (to_any ([]) ∷ []) ∷ []) ∷
    (claim ([]) (S.Rule 52 ∷ []) (to_any ([]) ∷ []) ∷ claim (33 ∷ 26 ∷ []) (S.Rule 162 ∷ []) (to_any (S.Take 48 ∷ S.Mark 76 ∷ []) ∷ owing (33 ∷ 26 ∷ []) (S.Rule 162 ∷ []) ∷ []) ∷ []) ∷
    (claim ([]) (S.Rule 53 ∷ []) (to_any ([]) ∷ []) ∷ []) ∷
    (claim ([]) (S.Rule 54 ∷ []) (to_any ([]) ∷ []) ∷ []) ∷
    (claim ([]) (S.Rule 55 ∷ []) (to_any ([]) ∷ []) ∷ []) ∷
    (claim ([]) (S.Rule 56 ∷ []) (to_any ([]) ∷ []) ∷ []) ∷
    ([]) ∷
    ([]) ∷
    ([]) ∷
    (claim ([]) (S.Rule 60 ∷ []) (to_any ([]) ∷ []) ∷ []) ∷
    ([]) ∷
    ([]) ∷
    ([]) ∷
    ([]) ∷
    ([]) ∷
    ([]) ∷
    ([]) ∷
    (claim ([]) (S.Rule 68 ∷ []) (to_any ([]) ∷ []) ∷ []) ∷
    (claim ([]) (S.Rule 69 ∷ []) (to_any ([]) ∷ []) ∷ []) ∷
    (claim ([]) (S.Rule 70 ∷ []) (to_any ([]) ∷ []) ∷ []) ∷
    (claim ([]) (S.Rule 71 ∷ []) (to_any ([]) ∷ []) ∷ []) ∷
    (claim ([]) (S.Rule 72 ∷ []) (to_any ([]) ∷ []) ∷ []) ∷
    (claim ([]) (S.Rule 73 ∷ []) (to_any ([]) ∷ []) ∷ []) ∷
    (claim ([]) (S.Rule 74 ∷ []) (to_any ([]) ∷ []) ∷ []) ∷
    (claim ([]) (S.Rule 75 ∷ []) (to_any ([]) ∷ []) ∷ []) ∷
    (claim ([]) (S.Rule 76 ∷ []) (to_any ([]) ∷ []) ∷ []) ∷
    (claim ([]) (S.Rule 77 ∷ []) (to_any ([]) ∷ []) ∷ []) ∷
    (claim ([]) (S.Rule 78 ∷ []) (to_any ([]) ∷ []) ∷ []) ∷
    (claim ([]) (S.Rule 79 ∷ []) (to_any ([]) ∷ []) ∷ []) ∷
    (claim ([]) (S.Rule 80 ∷ []) (to_any ([]) ∷ []) ∷ []) ∷
    ([]) ∷
    (claim ([]) (S.Rule 82 ∷ []) (to_any ([]) ∷ []) ∷ []) ∷
    (claim ([]) (S.Rule 83 ∷ []) (to_any ([]) ∷ []) ∷ []) ∷
    (claim ([]) (S.Rule 84 ∷ []) (to_any ([]) ∷ []) ∷ []) ∷
    (claim ([]) (S.Rule 85 ∷ []) (to_any ([]) ∷ []) ∷ []) ∷
    (claim ([]) (S.Rule 86 ∷ []) (to_any ([]) ∷ []) ∷ []) ∷
    (claim ([]) (S.Rule 87 ∷ []) (to_any ([]) ∷ []) ∷ []) ∷
    (claim ([]) (S.Rule 88 ∷ []) (to_any ([]) ∷ []) ∷ []) ∷
    (claim ([]) (S.Rule 89 ∷ []) (to_any ([]) ∷ []) ∷ []) ∷
    (claim ([]) (S.Rule 90 ∷ []) (to_any ([]) ∷ []) ∷ []) ∷
    (claim ([]) (S.Rule 91 ∷ []) (to_any ([]) ∷ []) ∷ []) ∷
    (claim ([]) (S.Rule 92 ∷ []) (to_any ([]) ∷ []) ∷ []) ∷
    (claim ([]) (S.Rule 93 ∷ []) (to_any ([]) ∷ []) ∷ []) ∷
    (claim ([]) (S.Rule 94 ∷ []) (to_any ([]) ∷ []) ∷ []) ∷
    (claim ([]) (S.Rule 95 ∷ []) (to_any ([]) ∷ []) ∷ []) ∷
    (claim ([]) (S.Rule 96 ∷ []) (to_any ([]) ∷ []) ∷ []) ∷
    (claim ([]) (S.Rule 97 ∷ []) (to_any ([]) ∷ []) ∷ []) ∷
    (claim ([]) (S.Rule 98 ∷ []) (to_any ([]) ∷ []) ∷ []) ∷
    ([]) ∷
    (claim ([]) (S.Rule 100 ∷ []) (to_any ([]) ∷ []) ∷ []) ∷
    (claim ([]) (S.Rule 101 ∷ []) (to_any ([]) ∷ []) ∷ []) ∷
    (claim ([]) (S.Rule 102 ∷ []) (to_any ([]) ∷ []) ∷ []) ∷
    (claim ([]) (S.Rule 103 ∷ []) (to_any ([]) ∷ []) ∷ []) ∷
    (claim ([]) (S.Rule 104 ∷ []) (to_any ([]) ∷ []) ∷ []) ∷
    (claim ([]) (S.Rule 105 ∷ []) (to_any ([]) ∷ []) ∷ []) ∷
    (claim ([]) (S.Rule 106 ∷ []) (to_any ([]) ∷ []) ∷ []) ∷
    (claim ([]) (S.Rule 107 ∷ []) (to_any ([]) ∷ []) ∷ []) ∷
    (claim ([]) (S.Rule 108 ∷ []) (to_any ([]) ∷ []) ∷ []) ∷
    (claim ([]) (S.Rule 109 ∷ []) (to_any ([]) ∷ []) ∷ []) ∷
    (claim ([]) (S.Rule 110 ∷ []) (to_any ([]) ∷ []) ∷ []) ∷
    (claim ([]) (S.Rule 111 ∷ []) (to_any ([]) ∷ []) ∷ []) ∷
    (claim ([]) (S.Rule 112 ∷ []) (to_any ([]) ∷ []) ∷ []) ∷
    (claim ([]) (S.Rule 113 ∷ []) (to_any ([]) ∷ []) ∷ claim ([]) (S.Rule 150 ∷ []) (to_state 0 ∷ owing (199 ∷ []) (S.Rule 154 ∷ []) ∷ []) ∷ claim ([]) (S.Rule 158 ∷ []) (to_any (S.Rule 160 ∷ []) ∷ owing (199 ∷ []) (S.Rule 162 ∷ []) ∷ []) ∷ []) ∷
    (claim ([]) (S.Rule 114 ∷ []) (to_any ([]) ∷ []) ∷ claim (199 ∷ []) (S.Rule 154 ∷ []) (to_state 0 ∷ owing (199 ∷ []) (S.Rule 154 ∷ []) ∷ []) ∷ claim (199 ∷ []) (S.Rule 162 ∷ []) (to_any (S.Rule 160 ∷ []) ∷ owing (199 ∷ []) (S.Rule 162 ∷ []) ∷ []) ∷ []) ∷
    (claim ([]) (S.Rule 115 ∷ []) (to_any ([]) ∷ []) ∷ claim ([]) (S.Rule 150 ∷ []) (to_any (S.Rule 114 ∷ S.Keep 0 ∷ []) ∷ owing (199 ∷ []) (S.Rule 154 ∷ []) ∷ []) ∷ claim ([]) (S.Rule 158 ∷ []) (to_any (S.Rule 114 ∷ S.Rule 160 ∷ []) ∷ owing (199 ∷ []) (S.Rule 162 ∷ []) ∷ []) ∷ []) ∷
    (claim ([]) (S.Rule 116 ∷ []) (to_any ([]) ∷ []) ∷ claim (199 ∷ []) (S.Rule 154 ∷ []) (to_any (S.Rule 114 ∷ S.Keep 0 ∷ []) ∷ owing (199 ∷ []) (S.Rule 154 ∷ []) ∷ []) ∷ claim (199 ∷ []) (S.Rule 162 ∷ []) (to_any (S.Rule 114 ∷ S.Rule 160 ∷ []) ∷ owing (199 ∷ []) (S.Rule 162 ∷ []) ∷ []) ∷ []) ∷
    (claim ([]) (S.Rule 117 ∷ []) (to_any ([]) ∷ []) ∷ claim ([]) (S.Rule 150 ∷ []) (to_any (S.Rule 116 ∷ S.Rule 114 ∷ S.Keep 0 ∷ []) ∷ owing (199 ∷ []) (S.Rule 154 ∷ []) ∷ []) ∷ claim ([]) (S.Rule 158 ∷ []) (to_any (S.Rule 116 ∷ S.Rule 114 ∷ S.Rule 160 ∷ []) ∷ owing (199 ∷ []) (S.Rule 162 ∷ []) ∷ []) ∷ []) ∷
    (claim ([]) (S.Rule 118 ∷ []) (to_any ([]) ∷ []) ∷ claim (199 ∷ []) (S.Rule 154 ∷ []) (to_any (S.Rule 116 ∷ S.Rule 114 ∷ S.Keep 0 ∷ []) ∷ owing (199 ∷ []) (S.Rule 154 ∷ []) ∷ []) ∷ claim (199 ∷ []) (S.Rule 162 ∷ []) (to_any (S.Rule 116 ∷ S.Rule 114 ∷ S.Rule 160 ∷ []) ∷ owing (199 ∷ []) (S.Rule 162 ∷ []) ∷ []) ∷ []) ∷
    (claim ([]) (S.Rule 119 ∷ []) (to_any ([]) ∷ []) ∷ []) ∷
    (claim ([]) (S.Rule 120 ∷ []) (to_any ([]) ∷ []) ∷ []) ∷
    (claim ([]) (S.Rule 121 ∷ []) (to_any ([]) ∷ []) ∷ []) ∷
    (claim ([]) (S.Rule 122 ∷ []) (to_any ([]) ∷ []) ∷ []) ∷
    (claim ([]) (S.Rule 123 ∷ []) (to_any ([]) ∷ []) ∷ claim ([]) (S.Rule 150 ∷ []) (to_any (S.Rule 118 ∷ S.Rule 116 ∷ S.Rule 114 ∷ S.Keep 0 ∷ []) ∷ owing (199 ∷ []) (S.Rule 154 ∷ []) ∷ []) ∷ claim ([]) (S.Rule 158 ∷ []) (to_any (S.Rule 118 ∷ S.Rule 116 ∷ S.Rule 114 ∷ S.Rule 160 ∷ []) ∷ owing (199 ∷ []) (S.Rule 162 ∷ []) ∷ []) ∷ []) ∷
    (claim ([]) (S.Rule 124 ∷ []) (to_any ([]) ∷ []) ∷ claim (199 ∷ []) (S.Rule 154 ∷ []) (to_any (S.Rule 118 ∷ S.Rule 116 ∷ S.Rule 114 ∷ S.Keep 0 ∷ []) ∷ owing (199 ∷ []) (S.Rule 154 ∷ []) ∷ []) ∷ claim (199 ∷ []) (S.Rule 162 ∷ []) (to_any (S.Rule 118 ∷ S.Rule 116 ∷ S.Rule 114 ∷ S.Rule 160 ∷ []) ∷ owing (199 ∷ []) (S.Rule 162 ∷ []) ∷ []) ∷ []) ∷
    (claim ([]) (S.Rule 125 ∷ []) (to_any ([]) ∷ []) ∷ []) ∷
    (claim ([]) (S.Rule 126 ∷ []) (to_any ([]) ∷ []) ∷ claim ([]) (S.Rule 150 ∷ []) (to_any (S.Rule 124 ∷ S.Rule 118 ∷ S.Rule 116 ∷ S.Rule 114 ∷ S.Keep 0 ∷ []) ∷ owing (199 ∷ []) (S.Rule 154 ∷ []) ∷ []) ∷ claim ([]) (S.Rule 158 ∷ []) (to_any (S.Rule 124 ∷ S.Rule 118 ∷ S.Rule 116 ∷ S.Rule 114 ∷ S.Rule 160 ∷ []) ∷ owing (199 ∷ []) (S.Rule 162 ∷ []) ∷ []) ∷ []) ∷
    (claim ([]) (S.Rule 127 ∷ []) (to_any ([]) ∷ []) ∷ claim (199 ∷ []) (S.Rule 154 ∷ []) (to_any (S.Rule 124 ∷ S.Rule 118 ∷ S.Rule 116 ∷ S.Rule 114 ∷ S.Keep 0 ∷ []) ∷ owing (199 ∷ []) (S.Rule 154 ∷ []) ∷ []) ∷ claim (199 ∷ []) (S.Rule 162 ∷ []) (to_any (S.Rule 124 ∷ S.Rule 118 ∷ S.Rule 116 ∷ S.Rule 114 ∷ S.Rule 160 ∷ []) ∷ owing (199 ∷ []) (S.Rule 162 ∷ []) ∷ []) ∷ []) ∷
    (claim ([]) (S.Rule 128 ∷ []) (to_any ([]) ∷ []) ∷ []) ∷
    (claim ([]) (S.Rule 129 ∷ []) (to_any ([]) ∷ []) ∷ claim ([]) (S.Rule 150 ∷ []) (to_any (S.Rule 127 ∷ S.Rule 124 ∷ S.Rule 118 ∷ S.Rule 116 ∷ S.Rule 114 ∷ S.Keep 0 ∷ []) ∷ owing (199 ∷ []) (S.Rule 154 ∷ []) ∷ []) ∷ claim ([]) (S.Rule 158 ∷ []) (to_any (S.Rule 127 ∷ S.Rule 124 ∷ S.Rule 118 ∷ S.Rule 116 ∷ S.Rule 114 ∷ S.Rule 160 ∷ []) ∷ owing (199 ∷ []) (S.Rule 162 ∷ []) ∷ []) ∷ []) ∷
    (claim ([]) (S.Rule 130 ∷ []) (to_any ([]) ∷ []) ∷ []) ∷
    (claim ([]) (S.Rule 131 ∷ []) (to_any ([]) ∷ []) ∷ claim ([]) (S.Rule 150 ∷ []) (to_any (S.Rule 127 ∷ S.Rule 124 ∷ S.Rule 118 ∷ S.Rule 116 ∷ S.Rule 114 ∷ S.Keep 0 ∷ []) ∷ owing (199 ∷ []) (S.Rule 154 ∷ []) ∷ []) ∷ claim ([]) (S.Rule 158 ∷ []) (to_any (S.Rule 127 ∷ S.Rule 124 ∷ S.Rule 118 ∷ S.Rule 116 ∷ S.Rule 114 ∷ S.Rule 160 ∷ []) ∷ owing (199 ∷ []) (S.Rule 162 ∷ []) ∷ []) ∷ []) ∷
    (claim ([]) (S.Rule 132 ∷ []) (to_any ([]) ∷ []) ∷ claim (199 ∷ []) (S.Rule 154 ∷ []) (to_any (S.Rule 127 ∷ S.Rule 124 ∷ S.Rule 118 ∷ S.Rule 116 ∷ S.Rule 114 ∷ S.Keep 0 ∷ []) ∷ owing (199 ∷ []) (S.Rule 154 ∷ []) ∷ []) ∷ claim (199 ∷ []) (S.Rule 162 ∷ []) (to_any (S.Rule 127 ∷ S.Rule 124 ∷ S.Rule 118 ∷ S.Rule 116 ∷ S.Rule 114 ∷ S.Rule 160 ∷ []) ∷ owing (199 ∷ []) (S.Rule 162 ∷ []) ∷ []) ∷ []) ∷
    (claim ([]) (S.Rule 133 ∷ []) (to_any ([]) ∷ []) ∷ []) ∷
    (claim ([]) (S.Rule 134 ∷ []) (to_any ([]) ∷ []) ∷ []) ∷
    (claim ([]) (S.Rule 135 ∷ []) (to_any ([]) ∷ []) ∷ []) ∷
    (claim ([]) (S.Rule 136 ∷ []) (to_any ([]) ∷ []) ∷ []) ∷
    (claim ([]) (S.Rule 137 ∷ []) (to_any ([]) ∷ []) ∷ []) ∷
    (claim ([]) (S.Rule 138 ∷ []) (to_any ([]) ∷ []) ∷ []) ∷
    (claim ([]) (S.Rule 139 ∷ []) (to_any ([]) ∷ []) ∷ []) ∷
    (claim ([]) (S.Rule 140 ∷ []) (to_any ([]) ∷ []) ∷ []) ∷
    (claim ([]) (S.Rule 141 ∷ []) (to_any ([]) ∷ []) ∷ []) ∷
    (claim ([]) (S.Rule 142 ∷ []) (to_any ([]) ∷ []) ∷ []) ∷
    (claim ([]) (S.Rule 143 ∷ []) (to_any ([]) ∷ []) ∷ []) ∷
    (claim ([]) (S.Rule 144 ∷ []) (to_any ([]) ∷ []) ∷ []) ∷
    (claim ([]) (S.Rule 145 ∷ []) (to_any ([]) ∷ []) ∷ []) ∷
    (claim ([]) (S.Rule 146 ∷ []) (to_any ([]) ∷ []) ∷ []) ∷
    ([]) ∷
    ([]) ∷
    ([]) ∷
    ([]) ∷
    ([]) ∷
    ([]) ∷
    ([]) ∷
    ([]) ∷
    ([]) ∷
    ([]) ∷
    ([]) ∷
    (claim ([]) (S.Rule 158 ∷ []) (to_any ([]) ∷ []) ∷ []) ∷
    ([]) ∷
    ([]) ∷
    ([]) ∷
    ([]) ∷
    ([]) ∷
    [] ∷ [] ∷ [] ∷ [] ∷ [] ∷ [] ∷ [] ∷ [] ∷ [] ∷ [] ∷ [] ∷ [] ∷ [] ∷ [] ∷ [] ∷ [] ∷ [] ∷ [] ∷ [] ∷ [] ∷
    [] ∷ [] ∷ [] ∷ [] ∷ [] ∷ [] ∷ [] ∷ [] ∷ [] ∷ [] ∷ [] ∷ [] ∷ [] ∷ [] ∷ [] ∷ [] ∷ [] ∷ [] ∷ [] ∷ [] ∷
    [] ∷ [] ∷ [] ∷ [] ∷ [] ∷ [] ∷ [] ∷ [] ∷ [] ∷ [] ∷ [] ∷ [] ∷ [] ∷ [] ∷ [] ∷ [] ∷ [] ∷ [] ∷ [] ∷ [] ∷
    [] ∷ [] ∷ [] ∷ [] ∷ [] ∷ [] ∷ [] ∷ [] ∷ [] ∷ [] ∷ [] ∷ [] ∷ [] ∷ [] ∷ [] ∷ [] ∷ [] ∷ [] ∷ [] ∷ [] ∷
    [] ∷ [] ∷ [] ∷ [] ∷ [] ∷ [] ∷ [] ∷ [] ∷ [] ∷ [] ∷ [] ∷ [] ∷
    (claim ([]) (S.Rule 56 ∷ []) (to_any ([]) ∷ []) ∷ claim ([]) (S.Rule 58 ∷ []) (to_any ([]) ∷ []) ∷ []) ∷
    (claim ([]) (S.Rule 61 ∷ []) (to_any (S.Rule 64 ∷ []) ∷ to_any (S.Rule 67 ∷ []) ∷ []) ∷ []) ∷
    (claim ([]) (S.Rule 64 ∷ []) (to_any (S.Rule 64 ∷ []) ∷ to_any (S.Rule 67 ∷ []) ∷ []) ∷ claim ([]) (S.Rule 67 ∷ []) (to_any (S.Rule 67 ∷ []) ∷ []) ∷ []) ∷
    (claim ([]) (S.Rule 61 ∷ []) (to_any (S.Rule 64 ∷ []) ∷ to_any (S.Rule 67 ∷ []) ∷ []) ∷ claim ([]) (S.Take 47 ∷ S.Mark 63 ∷ S.Rule 66 ∷ S.Rule 65 ∷ []) (to_any (S.Rule 67 ∷ []) ∷ []) ∷ []) ∷
    (claim ([]) (S.Rule 63 ∷ []) (to_any (S.Rule 63 ∷ []) ∷ to_any (S.Rule 65 ∷ []) ∷ []) ∷ claim ([]) (S.Rule 65 ∷ []) (to_any (S.Rule 65 ∷ []) ∷ []) ∷ []) ∷
    (claim ([]) (S.Rule 62 ∷ []) (to_any (S.Rule 63 ∷ []) ∷ to_any (S.Rule 65 ∷ []) ∷ []) ∷ claim ([]) (S.Rule 66 ∷ []) (to_any ([]) ∷ []) ∷ []) ∷
    (claim ([]) (S.Rule 56 ∷ []) (to_any (S.Mark 61 ∷ []) ∷ []) ∷ claim ([]) (S.Rule 58 ∷ []) (to_any (S.Mark 61 ∷ []) ∷ []) ∷ []) ∷
    (claim ([]) (S.Rule 61 ∷ []) (to_any (S.Rule 64 ∷ []) ∷ []) ∷ []) ∷
    (claim ([]) (S.Rule 64 ∷ []) (to_any (S.Rule 64 ∷ []) ∷ []) ∷ []) ∷
    (claim ([]) (S.Rule 61 ∷ []) (to_any (S.Rule 64 ∷ []) ∷ []) ∷ []) ∷
    (claim ([]) (S.Rule 63 ∷ []) (to_any (S.Rule 63 ∷ []) ∷ []) ∷ []) ∷
    (claim (67 ∷ []) (S.Rule 64 ∷ []) (to_any (S.Mark 61 ∷ []) ∷ []) ∷ []) ∷
    (claim ([]) (S.Rule 12 ∷ S.Mark 81 ∷ S.Rule 81 ∷ []) (to_any ([]) ∷ []) ∷ []) ∷
    (claim (26 ∷ []) (S.Rule 152 ∷ []) (to_state 2 ∷ []) ∷ claim (33 ∷ 26 ∷ []) (S.Rule 154 ∷ []) (to_state 2 ∷ []) ∷ claim (67 ∷ 26 ∷ []) (S.Rule 64 ∷ []) (to_any (S.Mark 61 ∷ []) ∷ []) ∷ []) ∷
    []

-- by production, a run for each claim of its rule
abbrev pub all_runs : List (List Run)
all_runs =
    (by 1 (claimed 0 (both (claimed 0 (both (finish 0) (no))) (no))) ∷ []) ∷
    (take (by 2 (finish 0)) ∷ []) ∷
    (by 3 (finish 0) ∷ []) ∷
    (by 4 (claimed 0 (both (take (finish 0)) (no))) ∷ []) ∷
    (by 5 (claimed 0 (both (finish 0) (no))) ∷ []) ∷
    (by 6 (claimed 0 (both (finish 0) (no))) ∷ []) ∷
    (by 7 (claimed 0 (both (finish 0) (no))) ∷ []) ∷
    (by 8 (claimed 0 (both (finish 0) (no))) ∷ []) ∷
    (by 9 (claimed 0 (both (finish 0) (no))) ∷ []) ∷
    (by 10 (claimed 0 (both (finish 0) (no))) ∷ []) ∷
    (by 11 (claimed 0 (both (finish 0) (no))) ∷ []) ∷
    (by 12 (claimed 0 (both (finish 0) (no))) ∷ []) ∷
    (take (take (take (by 13 (claimed 0 (both (take (finish 0)) (no)))))) ∷ []) ∷
    (take (by 14 (claimed 0 (both (take (finish 0)) (no)))) ∷ []) ∷
    (take (by 15 (claimed 0 (both (finish 0) (no)))) ∷ []) ∷
    (take (by 16 (claimed 0 (both (take (finish 0)) (no)))) ∷ []) ∷
    (take (take (by 17 (claimed 0 (both (take (finish 0)) (no))))) ∷ []) ∷
    (take (by 20 (finish 0)) ∷ []) ∷
    (by 21 (finish 0) ∷ []) ∷
    (take (take (by 22 (finish 0))) ∷ []) ∷
    (take (take (by 23 (claimed 0 (both (take (finish 0)) (no))))) ∷ []) ∷
    (take (by 24 (finish 0)) ∷ []) ∷
    (by 25 (claimed 0 (both (claimed 0 (both (finish 0) (no))) (no))) ∷ []) ∷
    (by 26 (finish 0) ∷ []) ∷
    (take (by 27 (claimed 0 (both (claimed 0 (both (finish 0) (no))) (no)))) ∷ []) ∷
    (take (by 28 (claimed 0 (both (claimed 0 (both (finish 0) (no))) (no)))) ∷ []) ∷
    (by 29 (finish 0) ∷ []) ∷
    (take (take (by 30 (claimed 0 (both (finish 0) (no))))) ∷ []) ∷
    (take (by 31 (claimed 0 (both (finish 0) (no)))) ∷ []) ∷
    (take (take (by 32 (finish 0))) ∷ []) ∷
    (take (take (by 33 (finish 0))) ∷ []) ∷
    (take (by 34 (claimed 0 (both (finish 0) (no)))) ∷ []) ∷
    (take (take (take (by 35 (finish 0)))) ∷ []) ∷
    (take (take (by 36 (finish 0))) ∷ []) ∷
    (take (take (by 37 (finish 0))) ∷ []) ∷
    (take (take (by 39 (finish 0))) ∷ []) ∷
    (take (take (by 40 (finish 0))) ∷ []) ∷
    (take (take (by 41 (finish 0))) ∷ []) ∷
    (take (take (by 42 (finish 0))) ∷ []) ∷
    (take (take (by 43 (finish 0))) ∷ []) ∷
    (take (take (by 44 (finish 0))) ∷ []) ∷
    (take (take (by 45 (finish 0))) ∷ []) ∷
    (take (take (by 46 (finish 0))) ∷ []) ∷
    (take (take (by 47 (finish 0))) ∷ []) ∷
    (take (take (by 48 (finish 0))) ∷ []) ∷
    (take (take (by 49 (finish 0))) ∷ []) ∷
    (take (take (by 50 (finish 0))) ∷ []) ∷
    (take (take (by 51 (finish 0))) ∷ []) ∷
    (take (take (by 52 (finish 0))) ∷ []) ∷
    (take (take (by 53 (finish 0))) ∷ []) ∷
    (take (take (by 54 (finish 0))) ∷ []) ∷
    (take (take (by 55 (finish 0))) ∷ []) ∷
    (take (take (by 56 (finish 0))) ∷ []) ∷
    (take (take (by 57 (finish 0))) ∷ []) ∷
    (take (take (by 58 (finish 0))) ∷ []) ∷
    (take (take (by 59 (finish 0))) ∷ []) ∷
    (take (take (by 60 (finish 0))) ∷ []) ∷
    (take (take (by 61 (finish 0))) ∷ []) ∷
    (take (take (by 62 (finish 0))) ∷ []) ∷
    (take (take (by 63 (finish 0))) ∷ []) ∷
    (by 64 (claimed 0 (both (take (claimed 0 (both (finish 0) (no)))) (no))) ∷ []) ∷
    (take (by 65 (claimed 0 (both (take (claimed 0 (both (finish 0) (no)))) (no)))) ∷ []) ∷
    (by 66 (finish 0) ∷ []) ∷
    (by 67 (take (take (finish 0))) ∷ []) ∷
    (by 68 (take (take (finish 0))) ∷ []) ∷
    (by 69 (claimed 0 (both (take (finish 0)) (no))) ∷ []) ∷
    (by 70 (claimed 0 (both (take (finish 0)) (no))) ∷ []) ∷
    (take (take (by 71 (finish 0))) ∷ []) ∷
    (take (take (by 72 (finish 0))) ∷ []) ∷
    (take (take (by 73 (finish 0))) ∷ []) ∷
    (take (take (by 74 (claimed 0 (both (take (finish 0)) (no))))) ∷ []) ∷
    (take (take (by 75 (claimed 0 (both (take (finish 0)) (no))))) ∷ []) ∷
    (by 76 (claimed 0 (both (take (claimed 0 (both (claimed 0 (both (finish 0) (no))) (no)))) (no))) ∷ claimed 2 (both (take (claimed 0 (both (claimed 0 (both (finish 0) (no))) (no)))) (both (take (claimed 1 (both (claimed 0 (both (finish 0) (no))) (both (claimed 1 (both (finish 0) (both (finish 1) (no)))) (no))))) (no))) ∷ []) ∷
    (take (take (by 130 (claimed 0 (both (finish 0) (no))))) ∷ take (take (by 416 (claimed 0 (both (finish 0) (no))))) ∷ []) ∷
    (by 131 (finish 0) ∷ finish 1 ∷ []) ∷
    (by 132 (claimed 0 (both (claimed 0 (both (finish 0) (no))) (no))) ∷ []) ∷
    (take (by 133 (claimed 0 (both (claimed 0 (both (finish 0) (no))) (no)))) ∷ []) ∷
    (by 134 (finish 0) ∷ []) ∷
    (take (by 139 (claimed 0 (both (finish 0) (no)))) ∷ take (by 417 (claimed 0 (both (finish 0) (no)))) ∷ []) ∷
    (by 140 (finish 0) ∷ finish 1 ∷ []) ∷
    (by 141 (take (take (take (claimed 0 (both (finish 0) (no)))))) ∷ []) ∷
    (take (by 142 (take (take (take (finish 0))))) ∷ []) ∷
    (by 143 (finish 0) ∷ []) ∷
    (by 77 (claimed 0 (both (claimed 0 (both (finish 0) (no))) (no))) ∷ claimed 1 (both (claimed 0 (both (finish 0) (no))) (both (claimed 1 (both (finish 0) (both (finish 1) (no)))) (no))) ∷ claimed 2 (both (claimed 0 (both (finish 0) (no))) (both (claimed 2 (both (finish 0) (both (finish 1) (no)))) (no))) ∷ []) ∷
    (take (by 78 (claimed 0 (both (claimed 0 (both (finish 0) (no))) (no)))) ∷ take (by 390 (by 402 (claimed 0 (both (claimed 0 (both (finish 0) (no))) (no))))) ∷ take (by 415 (by 402 (claimed 0 (both (claimed 0 (both (finish 0) (no))) (no))))) ∷ []) ∷
    (take (by 79 (claimed 0 (both (take (claimed 0 (both (finish 0) (no)))) (no)))) ∷ take (by 390 (by 403 (claimed 0 (both (take (claimed 0 (both (finish 0) (no)))) (no))))) ∷ take (by 415 (by 403 (claimed 0 (both (take (claimed 0 (both (finish 0) (no)))) (no))))) ∷ []) ∷
    (by 80 (finish 0) ∷ finish 1 ∷ finish 1 ∷ []) ∷
    (take (by 81 (claimed 0 (both (take (finish 0)) (no)))) ∷ []) ∷
    (by 82 (claimed 0 (both (take (finish 0)) (no))) ∷ []) ∷
    (by 83 (claimed 0 (both (claimed 0 (both (finish 0) (no))) (no))) ∷ claimed 1 (both (claimed 0 (both (finish 0) (no))) (both (claimed 1 (both (finish 0) (both (finish 1) (no)))) (no))) ∷ claimed 2 (both (claimed 0 (both (finish 0) (no))) (both (claimed 2 (both (finish 0) (both (finish 1) (no)))) (no))) ∷ []) ∷
    (take (by 84 (claimed 0 (both (take (claimed 0 (both (finish 0) (no)))) (no)))) ∷ take (by 390 (by 401 (claimed 0 (both (take (claimed 0 (both (finish 0) (no)))) (no))))) ∷ take (by 415 (by 401 (claimed 0 (both (take (claimed 0 (both (finish 0) (no)))) (no))))) ∷ []) ∷
    (by 85 (finish 0) ∷ finish 1 ∷ finish 1 ∷ []) ∷
    (take (take (by 86 (claimed 0 (both (finish 0) (no))))) ∷ take (take (by 381 (claimed 0 (both (finish 0) (no))))) ∷ take (take (by 404 (claimed 0 (both (by 153 (finish 0)) (no))))) ∷ []) ∷
    (take (take (by 87 (claimed 0 (both (take (finish 0)) (no))))) ∷ take (take (by 382 (claimed 0 (both (take (finish 0)) (no))))) ∷ take (take (by 405 (claimed 0 (both (take (by 153 (finish 0))) (no))))) ∷ []) ∷
    (take (take (by 88 (claimed 0 (both (take (take (finish 0))) (no))))) ∷ take (take (by 383 (claimed 1 (both (take (take (by 387 (finish 1)))) (both (take (take (by 393 (finish 1)))) (no)))))) ∷ take (take (by 406 (claimed 1 (both (take (take (by 387 (finish 1)))) (both (take (take (by 393 (finish 1)))) (no)))))) ∷ []) ∷
    (by 89 (claimed 0 (both (take (claimed 0 (both (take (claimed 0 (both (claimed 0 (both (claimed 0 (both (claimed 0 (both (take (finish 0)) (no))) (no))) (no))) (no)))) (no)))) (no))) ∷ []) ∷
    (take (take (by 90 (finish 0))) ∷ []) ∷
    (take (by 91 (finish 0)) ∷ []) ∷
    (take (take (by 92 (finish 0))) ∷ []) ∷
    (by 93 (claimed 0 (both (claimed 0 (both (finish 0) (no))) (no))) ∷ []) ∷
    (take (by 94 (claimed 0 (both (claimed 0 (both (finish 0) (no))) (no)))) ∷ []) ∷
    (by 95 (finish 0) ∷ []) ∷
    (by 100 (claimed 0 (both (claimed 0 (both (finish 0) (no))) (no))) ∷ []) ∷
    (take (by 101 (claimed 0 (both (claimed 0 (both (finish 0) (no))) (no)))) ∷ []) ∷
    (by 102 (finish 0) ∷ []) ∷
    (take (by 115 (claimed 0 (both (take (finish 0)) (no)))) ∷ []) ∷
    (take (by 116 (finish 0)) ∷ []) ∷
    (take (take (by 117 (claimed 0 (both (take (claimed 0 (both (finish 0) (no)))) (no))))) ∷ []) ∷
    (by 118 (finish 0) ∷ []) ∷
    (take (by 119 (claimed 0 (both (take (claimed 0 (both (finish 0) (no)))) (no)))) ∷ []) ∷
    (by 120 (finish 0) ∷ []) ∷
    (take (by 121 (claimed 0 (both (take (finish 0)) (no)))) ∷ []) ∷
    (take (by 122 (finish 0)) ∷ []) ∷
    (by 123 (claimed 0 (both (take (claimed 0 (both (finish 0) (no)))) (no))) ∷ claimed 2 (both (take (by 412 (claimed 0 (both (finish 0) (no))))) (both (take (claimed 1 (both (finish 0) (both (finish 1) (no))))) (no))) ∷ []) ∷
    (take (by 124 (claimed 0 (both (take (claimed 0 (both (finish 0) (no)))) (no)))) ∷ take (by 419 (claimed 0 (both (take (claimed 0 (both (finish 0) (no)))) (no)))) ∷ []) ∷
    (by 125 (finish 0) ∷ finish 1 ∷ []) ∷
    (by 126 (claimed 0 (both (claimed 0 (both (finish 0) (no))) (no))) ∷ []) ∷
    (take (by 127 (claimed 0 (both (claimed 0 (both (finish 0) (no))) (no)))) ∷ []) ∷
    (by 128 (finish 0) ∷ []) ∷
    (take (by 129 (claimed 0 (both (take (take (finish 0))) (no)))) ∷ []) ∷
    (by 96 (claimed 0 (both (claimed 0 (both (take (finish 0)) (no))) (no))) ∷ []) ∷
    (take (by 97 (claimed 0 (both (take (finish 0)) (no)))) ∷ []) ∷
    (by 98 (claimed 0 (both (take (finish 0)) (no))) ∷ []) ∷
    (take (by 99 (finish 0)) ∷ []) ∷
    (by 103 (claimed 0 (both (take (claimed 0 (both (take (finish 0)) (no)))) (no))) ∷ []) ∷
    (take (take (by 104 (claimed 0 (both (take (claimed 0 (both (take (claimed 0 (both (finish 0) (no)))) (no)))) (no))))) ∷ []) ∷
    (take (by 105 (claimed 0 (both (take (claimed 0 (both (take (claimed 0 (both (finish 0) (no)))) (no)))) (no)))) ∷ []) ∷
    (take (by 106 (claimed 0 (both (take (claimed 0 (both (take (claimed 0 (both (take (claimed 0 (both (finish 0) (no)))) (no)))) (no)))) (no)))) ∷ []) ∷
    (take (take (by 107 (claimed 0 (both (take (claimed 0 (both (finish 0) (no)))) (no))))) ∷ []) ∷
    (by 108 (finish 0) ∷ []) ∷
    (take (by 109 (finish 0)) ∷ []) ∷
    (by 110 (finish 0) ∷ []) ∷
    (by 111 (claimed 0 (both (claimed 0 (both (take (finish 0)) (no))) (no))) ∷ []) ∷
    (take (by 112 (claimed 0 (both (take (claimed 0 (both (claimed 0 (both (take (finish 0)) (no))) (no)))) (no)))) ∷ []) ∷
    (take (by 113 (finish 0)) ∷ []) ∷
    (by 114 (finish 0) ∷ []) ∷
    (by 135 (claimed 0 (both (claimed 0 (both (finish 0) (no))) (no))) ∷ []) ∷
    (take (take (by 136 (finish 0))) ∷ []) ∷
    (take (take (by 137 (finish 0))) ∷ []) ∷
    (take (by 138 (finish 0)) ∷ []) ∷
    (take (take (by 144 (claimed 0 (both (take (claimed 0 (both (finish 0) (no)))) (no))))) ∷ []) ∷
    (take (take (by 145 (by 147 (claimed 0 (both (take (take (claimed 1 (both (finish 0) (no))))) (no)))))) ∷ []) ∷
    (claimed 0 (both (finish 0) (no)) ∷ []) ∷
    (take (take (by 146 (by 151 (claimed 0 (both (take (by 165 (finish 0))) (both (take (by 171 (finish 0))) (no))))))) ∷ take (take (by 149 (by 151 (claimed 0 (both (take (by 165 (finish 0))) (both (take (by 171 (finish 0))) (no))))))) ∷ []) ∷
    (claimed 0 (both (take (finish 0)) (no)) ∷ claimed 1 (both (take (finish 0)) (no)) ∷ []) ∷
    (claimed 0 (both (claimed 0 (both (finish 0) (both (finish 1) (no)))) (both (claimed 1 (both (finish 1) (no))) (no))) ∷ []) ∷
    (take (by 159 (claimed 0 (both (claimed 0 (both (finish 0) (both (finish 1) (no)))) (both (claimed 1 (both (finish 1) (no))) (no))))) ∷ take (by 170 (claimed 1 (both (claimed 1 (both (finish 0) (no))) (no)))) ∷ []) ∷
    (finish 0 ∷ finish 0 ∷ []) ∷
    (take (take (by 154 (claimed 0 (both (claimed 0 (both (take (take (by 158 (finish 0)))) (both (take (take (by 167 (finish 1)))) (no)))) (both (claimed 1 (both (take (take (by 167 (finish 1)))) (no))) (no)))))) ∷ take (take (claimed 1 (both (claimed 1 (both (take (take (by 167 (finish 0)))) (no))) (no)))) ∷ []) ∷
    (take (by 157 (claimed 0 (both (claimed 0 (both (finish 0) (both (finish 1) (no)))) (both (claimed 1 (both (finish 1) (no))) (no))))) ∷ take (by 166 (claimed 1 (both (claimed 1 (both (finish 0) (no))) (no)))) ∷ []) ∷
    (finish 0 ∷ finish 0 ∷ []) ∷
    (by 155 (claimed 0 (both (take (finish 0)) (no))) ∷ by 168 (claimed 0 (both (take (finish 0)) (no))) ∷ []) ∷
    (take (take (by 156 (finish 1))) ∷ take (take (by 169 (finish 0))) ∷ []) ∷
    (take (take (by 146 (by 152 (claimed 0 (both (claimed 0 (both (finish 0) (no))) (no)))))) ∷ take (take (by 149 (by 152 (claimed 0 (both (claimed 0 (both (finish 0) (no))) (no)))))) ∷ []) ∷
    (take (take (by 145 (by 148 (claimed 0 (both (take (take (claimed 0 (both (finish 0) (no))))) (no)))))) ∷ take (take (by 150 (claimed 0 (both (take (take (claimed 0 (both (finish 0) (no))))) (no))))) ∷ []) ∷
    (take (take (by 146 (by 151 (claimed 0 (both (take (claimed 0 (both (finish 0) (no)))) (no)))))) ∷ take (take (by 149 (by 151 (claimed 0 (both (take (claimed 0 (both (finish 0) (no)))) (no)))))) ∷ []) ∷
    (by 153 (claimed 0 (both (claimed 0 (both (take (claimed 0 (both (claimed 0 (both (finish 0) (no))) (no)))) (no))) (no))) ∷ []) ∷
    (claimed 0 (both (claimed 0 (both (finish 0) (no))) (no)) ∷ []) ∷
    (take (by 159 (claimed 0 (both (claimed 0 (both (finish 0) (no))) (no)))) ∷ []) ∷
    (finish 0 ∷ []) ∷
    (take (take (by 154 (by 155 (claimed 0 (both (take (claimed 0 (both (take (take (by 158 (finish 0)))) (no)))) (no)))))) ∷ []) ∷
    (take (by 157 (by 155 (claimed 0 (both (take (claimed 0 (both (finish 0) (no)))) (no))))) ∷ []) ∷
    (finish 0 ∷ []) ∷
    (take (by 160 (claimed 0 (both (take (claimed 0 (both (finish 0) (no)))) (no)))) ∷ []) ∷
    (take (by 161 (claimed 0 (both (claimed 0 (both (take (claimed 0 (both (claimed 0 (both (finish 0) (no))) (no)))) (no))) (no)))) ∷ []) ∷
    (take (by 162 (claimed 0 (both (take (claimed 0 (both (take (claimed 0 (both (claimed 0 (both (finish 0) (no))) (no)))) (no)))) (no)))) ∷ []) ∷
    (take (claimed 2 (both (finish 0) (no))) ∷ []) ∷
    (take (by 172 (claimed 0 (both (claimed 0 (both (take (take (claimed 0 (both (claimed 0 (both (claimed 0 (both (take (finish 0)) (no))) (no))) (no))))) (no))) (no)))) ∷ []) ∷
    (take (by 175 (claimed 0 (both (claimed 0 (both (finish 0) (no))) (no)))) ∷ []) ∷
    (by 176 (finish 0) ∷ []) ∷
    (by 177 (claimed 0 (both (take (claimed 0 (both (finish 0) (no)))) (no))) ∷ []) ∷
    (by 178 (claimed 0 (both (take (finish 0)) (no))) ∷ []) ∷
    (take (take (by 179 (finish 0))) ∷ []) ∷
    (take (by 173 (claimed 0 (both (take (finish 0)) (no)))) ∷ []) ∷
    (take (by 174 (finish 0)) ∷ []) ∷
    (take (take (by 180 (claimed 0 (both (claimed 0 (both (take (claimed 0 (both (take (finish 0)) (no)))) (no))) (no))))) ∷ []) ∷
    (take (by 181 (claimed 0 (both (take (finish 0)) (no)))) ∷ []) ∷
    (take (by 182 (finish 0)) ∷ []) ∷
    (take (take (take (by 183 (claimed 0 (both (claimed 0 (both (take (finish 0)) (no))) (no)))))) ∷ []) ∷
    (take (by 184 (claimed 0 (both (claimed 0 (both (finish 0) (no))) (no)))) ∷ []) ∷
    (by 185 (finish 0) ∷ []) ∷
    (by 186 (claimed 0 (both (claimed 0 (both (finish 0) (no))) (no))) ∷ []) ∷
    (take (take (by 187 (finish 0))) ∷ []) ∷
    (take (take (by 188 (finish 0))) ∷ []) ∷
    (take (by 189 (claimed 0 (both (finish 0) (no)))) ∷ []) ∷
    (take (take (by 190 (claimed 0 (both (finish 0) (no))))) ∷ []) ∷
    (take (by 191 (claimed 0 (both (finish 0) (no)))) ∷ []) ∷
    (take (by 193 (claimed 0 (both (take (claimed 0 (both (take (claimed 0 (both (take (take (finish 0))) (no)))) (no)))) (no)))) ∷ []) ∷
    (claimed 0 (both (take (take (by 194 (claimed 0 (both (claimed 0 (both (take (take (finish 0))) (no))) (no)))))) (no)) ∷ []) ∷
    (take (by 195 (claimed 0 (both (claimed 0 (both (finish 0) (no))) (no)))) ∷ []) ∷
    (by 196 (finish 0) ∷ []) ∷
    (by 197 (claimed 0 (both (take (finish 0)) (no))) ∷ []) ∷
    (by 198 (claimed 0 (both (take (finish 0)) (no))) ∷ []) ∷
    (by 199 (claimed 0 (both (claimed 0 (both (take (claimed 0 (both (claimed 0 (both (finish 0) (no))) (no)))) (no))) (no))) ∷ []) ∷
    (take (by 200 (claimed 0 (both (take (finish 0)) (no)))) ∷ []) ∷
    (by 201 (finish 0) ∷ []) ∷
    (by 202 (claimed 0 (both (finish 0) (no))) ∷ []) ∷
    (take (take (by 203 (claimed 0 (both (take (finish 0)) (no))))) ∷ []) ∷
    (take (take (by 204 (claimed 0 (both (take (finish 0)) (no))))) ∷ []) ∷
    (take (take (by 205 (claimed 0 (both (take (claimed 0 (both (claimed 0 (both (finish 0) (no))) (no)))) (no))))) ∷ []) ∷
    (take (take (by 206 (claimed 0 (both (claimed 0 (both (finish 0) (no))) (no))))) ∷ []) ∷
    (by 207 (finish 0) ∷ []) ∷
    (take (take (take (by 208 (finish 0)))) ∷ []) ∷
    (take (take (take (by 209 (finish 0)))) ∷ []) ∷
    (take (take (by 210 (finish 0))) ∷ []) ∷
    (take (take (by 211 (claimed 0 (both (take (take (finish 0))) (no))))) ∷ []) ∷
    (take (by 212 (claimed 0 (both (take (claimed 0 (both (claimed 0 (both (take (finish 0)) (no))) (no)))) (no)))) ∷ []) ∷
    (take (by 213 (claimed 0 (both (take (take (take (finish 0)))) (no)))) ∷ []) ∷
    (by 214 (finish 0) ∷ []) ∷
    (take (take (by 227 (claimed 0 (both (take (claimed 0 (both (finish 0) (no)))) (no))))) ∷ []) ∷
    (take (take (by 228 (claimed 0 (both (finish 0) (no))))) ∷ []) ∷
    (take (take (take (by 229 (claimed 0 (both (take (take (finish 0))) (no)))))) ∷ []) ∷
    (take (take (by 230 (claimed 0 (both (take (take (finish 0))) (no))))) ∷ []) ∷
    (take (take (by 231 (claimed 0 (both (take (take (finish 0))) (no))))) ∷ []) ∷
    (take (take (take (by 232 (claimed 0 (both (take (take (claimed 0 (both (take (claimed 0 (both (claimed 0 (both (take (finish 0)) (no))) (no)))) (no))))) (no)))))) ∷ []) ∷
    (take (by 215 (claimed 0 (both (take (take (finish 0))) (no)))) ∷ []) ∷
    (by 216 (finish 0) ∷ []) ∷
    (take (by 217 (claimed 0 (both (claimed 0 (both (finish 0) (no))) (no)))) ∷ []) ∷
    (by 218 (finish 0) ∷ []) ∷
    (take (by 219 (claimed 0 (both (take (finish 0)) (no)))) ∷ []) ∷
    (take (by 220 (claimed 0 (both (take (finish 0)) (no)))) ∷ []) ∷
    (take (take (by 221 (finish 0))) ∷ []) ∷
    (take (by 222 (claimed 0 (both (finish 0) (no)))) ∷ []) ∷
    (take (take (by 223 (finish 0))) ∷ []) ∷
    (take (take (take (by 224 (finish 0)))) ∷ []) ∷
    (take (take (by 225 (finish 0))) ∷ []) ∷
    (take (take (by 226 (finish 0))) ∷ []) ∷
    (take (take (by 233 (finish 0))) ∷ []) ∷
    (take (take (by 234 (finish 0))) ∷ []) ∷
    (take (take (by 235 (finish 0))) ∷ []) ∷
    (take (take (by 236 (finish 0))) ∷ []) ∷
    (take (by 237 (claimed 0 (both (finish 0) (no)))) ∷ []) ∷
    (take (by 238 (claimed 0 (both (finish 0) (no)))) ∷ []) ∷
    (take (take (by 239 (take (take (take (take (finish 0))))))) ∷ []) ∷
    (take (take (by 240 (finish 0))) ∷ []) ∷
    (take (take (by 241 (finish 0))) ∷ []) ∷
    (take (take (by 242 (finish 0))) ∷ []) ∷
    (take (by 244 (take (take (take (take (by 247 (finish 0))))))) ∷ []) ∷
    (no ∷ []) ∷
    (take (by 245 (finish 0)) ∷ []) ∷
    (take (take (by 248 (claimed 0 (both (claimed 0 (both (finish 0) (no))) (no))))) ∷ []) ∷
    (take (by 249 (claimed 0 (both (finish 0) (no)))) ∷ []) ∷
    (take (take (by 250 (claimed 0 (both (take (finish 0)) (no))))) ∷ []) ∷
    (take (by 251 (claimed 0 (both (take (finish 0)) (no)))) ∷ []) ∷
    (by 252 (claimed 0 (both (take (finish 0)) (no))) ∷ []) ∷
    (take (by 253 (claimed 0 (both (finish 0) (no)))) ∷ []) ∷
    (take (by 254 (claimed 0 (both (take (finish 0)) (no)))) ∷ []) ∷
    (take (by 255 (claimed 0 (both (take (finish 0)) (no)))) ∷ []) ∷
    (take (by 256 (claimed 0 (both (finish 0) (no)))) ∷ []) ∷
    (take (by 257 (claimed 0 (both (finish 0) (no)))) ∷ []) ∷
    (take (by 258 (claimed 0 (both (finish 0) (no)))) ∷ []) ∷
    (take (by 259 (claimed 0 (both (take (finish 0)) (no)))) ∷ []) ∷
    (take (take (take (take (by 260 (claimed 0 (both (take (finish 0)) (no))))))) ∷ []) ∷
    (take (take (take (by 261 (claimed 0 (both (finish 0) (no)))))) ∷ []) ∷
    (take (take (by 262 (claimed 0 (both (finish 0) (no))))) ∷ []) ∷
    (take (take (take (by 263 (claimed 0 (both (finish 0) (no)))))) ∷ []) ∷
    (take (take (by 264 (finish 0))) ∷ []) ∷
    (take (take (by 265 (finish 0))) ∷ []) ∷
    (take (take (by 266 (finish 0))) ∷ []) ∷
    (take (by 267 (claimed 0 (both (finish 0) (no)))) ∷ []) ∷
    (take (take (by 268 (finish 0))) ∷ []) ∷
    (take (take (by 269 (finish 0))) ∷ []) ∷
    (take (take (by 271 (finish 0))) ∷ []) ∷
    (take (take (by 272 (finish 0))) ∷ []) ∷
    (take (take (by 273 (finish 0))) ∷ []) ∷
    (by 275 (claimed 0 (both (claimed 0 (both (finish 0) (no))) (no))) ∷ claimed 1 (both (claimed 0 (both (finish 0) (no))) (both (claimed 1 (both (finish 0) (both (finish 1) (no)))) (no))) ∷ claimed 2 (both (claimed 0 (both (finish 0) (no))) (both (claimed 2 (both (finish 0) (both (finish 1) (no)))) (no))) ∷ []) ∷
    (take (by 276 (claimed 0 (both (take (claimed 0 (both (finish 0) (no)))) (no)))) ∷ take (by 389 (by 400 (claimed 0 (both (take (claimed 0 (both (finish 0) (no)))) (no))))) ∷ take (by 414 (by 400 (claimed 0 (both (take (claimed 0 (both (finish 0) (no)))) (no))))) ∷ []) ∷
    (by 277 (finish 0) ∷ finish 1 ∷ finish 1 ∷ []) ∷
    (by 278 (claimed 0 (both (claimed 0 (both (finish 0) (no))) (no))) ∷ claimed 1 (both (claimed 0 (both (finish 0) (no))) (both (claimed 1 (both (finish 0) (both (finish 1) (no)))) (no))) ∷ claimed 2 (both (claimed 0 (both (finish 0) (no))) (both (claimed 2 (both (finish 0) (both (finish 1) (no)))) (no))) ∷ []) ∷
    (take (by 279 (claimed 0 (both (take (claimed 0 (both (finish 0) (no)))) (no)))) ∷ take (by 389 (by 399 (claimed 0 (both (take (claimed 0 (both (finish 0) (no)))) (no))))) ∷ take (by 414 (by 399 (claimed 0 (both (take (claimed 0 (both (finish 0) (no)))) (no))))) ∷ []) ∷
    (by 280 (finish 0) ∷ finish 1 ∷ finish 1 ∷ []) ∷
    (take (take (by 281 (claimed 0 (both (take (finish 0)) (no))))) ∷ take (take (by 377 (claimed 0 (both (take (finish 0)) (no))))) ∷ take (take (by 407 (by 408 (claimed 0 (both (take (finish 0)) (no)))))) ∷ []) ∷
    (take (take (take (by 282 (claimed 0 (both (take (take (finish 0))) (no)))))) ∷ take (take (take (by 378 (claimed 0 (both (take (take (finish 0))) (no)))))) ∷ take (take (take (by 407 (by 409 (claimed 0 (both (take (take (finish 0))) (no))))))) ∷ []) ∷
    (by 283 (claimed 0 (both (claimed 0 (both (finish 0) (no))) (no))) ∷ claimed 1 (both (claimed 0 (both (finish 0) (no))) (both (claimed 1 (both (finish 0) (both (finish 1) (no)))) (no))) ∷ claimed 2 (both (claimed 0 (both (finish 0) (no))) (both (claimed 2 (both (finish 0) (both (finish 1) (no)))) (no))) ∷ []) ∷
    (by 284 (claimed 0 (both (finish 0) (no))) ∷ by 389 (by 398 (claimed 0 (both (finish 0) (no)))) ∷ by 414 (by 398 (claimed 0 (both (finish 0) (no)))) ∷ []) ∷
    (by 285 (finish 0) ∷ finish 1 ∷ finish 1 ∷ []) ∷
    (take (by 286 (claimed 0 (both (take (finish 0)) (no)))) ∷ []) ∷
    (take (by 287 (claimed 0 (both (take (finish 0)) (no)))) ∷ []) ∷
    (take (by 288 (claimed 0 (both (take (finish 0)) (no)))) ∷ []) ∷
    (take (by 289 (claimed 0 (both (take (finish 0)) (no)))) ∷ []) ∷
    (take (by 290 (claimed 0 (both (take (finish 0)) (no)))) ∷ []) ∷
    (take (by 291 (claimed 0 (both (take (finish 0)) (no)))) ∷ []) ∷
    (take (by 292 (claimed 0 (both (take (finish 0)) (no)))) ∷ []) ∷
    (take (by 293 (claimed 0 (both (finish 0) (no)))) ∷ []) ∷
    (take (take (by 294 (claimed 0 (both (finish 0) (no))))) ∷ []) ∷
    (take (by 295 (claimed 0 (both (finish 0) (no)))) ∷ []) ∷
    (take (take (by 296 (finish 0))) ∷ []) ∷
    (take (take (take (by 297 (finish 0)))) ∷ []) ∷
    (take (by 298 (claimed 0 (both (take (claimed 0 (both (take (finish 0)) (no)))) (no)))) ∷ []) ∷
    (take (take (by 299 (claimed 0 (both (finish 0) (no))))) ∷ []) ∷
    (take (by 300 (claimed 0 (both (claimed 0 (both (finish 0) (no))) (no)))) ∷ []) ∷
    (claimed 1 (both (take (take (finish 0))) (both (take (take (by 418 (finish 0)))) (no))) ∷ []) ∷
    (claimed 1 (both (take (take (finish 0))) (both (take (take (turn 1 (by 418 (finish 0))))) (no))) ∷ []) ∷
    (take (by 301 (claimed 0 (both (take (finish 0)) (no)))) ∷ []) ∷
    (take (by 302 (finish 0)) ∷ []) ∷
    (by 303 (claimed 0 (both (claimed 0 (both (finish 0) (no))) (no))) ∷ claimed 1 (both (claimed 0 (both (finish 0) (no))) (both (claimed 1 (both (finish 0) (both (finish 1) (no)))) (no))) ∷ claimed 2 (both (claimed 0 (both (finish 0) (no))) (both (claimed 2 (both (finish 0) (both (finish 1) (no)))) (no))) ∷ []) ∷
    (by 304 (claimed 0 (both (claimed 0 (both (finish 0) (no))) (no))) ∷ by 389 (by 397 (claimed 0 (both (claimed 0 (both (finish 0) (no))) (no)))) ∷ by 414 (by 397 (claimed 0 (both (claimed 0 (both (finish 0) (no))) (no)))) ∷ []) ∷
    (by 305 (finish 0) ∷ finish 1 ∷ finish 1 ∷ []) ∷
    (take (by 306 (claimed 0 (both (take (finish 0)) (no)))) ∷ []) ∷
    (take (by 307 (claimed 0 (both (take (finish 0)) (no)))) ∷ []) ∷
    (take (by 308 (claimed 0 (both (take (finish 0)) (no)))) ∷ []) ∷
    (by 309 (claimed 0 (both (claimed 0 (both (finish 0) (no))) (no))) ∷ claimed 1 (both (claimed 0 (both (finish 0) (no))) (both (claimed 1 (both (finish 0) (both (finish 1) (no)))) (no))) ∷ claimed 2 (both (claimed 0 (both (finish 0) (no))) (both (claimed 2 (both (finish 0) (both (finish 1) (no)))) (no))) ∷ []) ∷
    (by 310 (claimed 0 (both (claimed 0 (both (finish 0) (no))) (no))) ∷ by 389 (by 396 (claimed 0 (both (by 384 (claimed 0 (both (finish 0) (no)))) (no)))) ∷ by 414 (by 396 (claimed 0 (both (by 384 (claimed 0 (both (finish 0) (no)))) (no)))) ∷ []) ∷
    (by 311 (finish 0) ∷ finish 1 ∷ finish 1 ∷ []) ∷
    (take (by 312 (claimed 0 (both (take (finish 0)) (no)))) ∷ []) ∷
    (take (by 313 (claimed 0 (both (take (finish 0)) (no)))) ∷ []) ∷
    (by 314 (claimed 0 (both (finish 0) (no))) ∷ by 379 (claimed 0 (both (by 384 (finish 0)) (no))) ∷ by 407 (by 410 (claimed 0 (both (by 384 (finish 0)) (no)))) ∷ []) ∷
    (by 315 (claimed 0 (both (finish 0) (no))) ∷ claimed 1 (both (finish 0) (both (finish 1) (no))) ∷ claimed 2 (both (finish 0) (both (finish 1) (no))) ∷ []) ∷
    (take (take (by 316 (claimed 0 (both (take (finish 0)) (no))))) ∷ []) ∷
    (take (take (by 317 (claimed 0 (both (take (finish 0)) (no))))) ∷ []) ∷
    (by 318 (claimed 0 (both (claimed 0 (both (finish 0) (no))) (no))) ∷ by 380 (claimed 0 (both (claimed 0 (both (by 384 (finish 0)) (no))) (no))) ∷ by 407 (by 411 (claimed 0 (both (claimed 0 (both (by 384 (finish 0)) (no))) (no)))) ∷ []) ∷
    (take (take (by 319 (claimed 1 (both (take (take (by 374 (claimed 0 (both (finish 0) (no)))))) (both (take (take (turn 0 (by 393 (by 375 (claimed 0 (both (finish 0) (no)))))))) (no)))))) ∷ take (take (by 383 (claimed 1 (both (take (take (by 388 (claimed 0 (both (by 384 (finish 0)) (no)))))) (both (take (take (turn 0 (by 393 (claimed 1 (both (finish 0) (both (finish 1) (no)))))))) (no)))))) ∷ take (take (by 406 (claimed 1 (both (take (take (by 413 (claimed 0 (both (by 384 (finish 0)) (no)))))) (both (take (take (turn 0 (by 393 (claimed 2 (both (finish 0) (both (finish 1) (no)))))))) (no)))))) ∷ []) ∷
    (take (take (by 319 (claimed 1 (both (take (take (by 387 (by 375 (claimed 0 (both (finish 0) (no))))))) (both (take (take (by 393 (by 375 (claimed 0 (both (finish 0) (no))))))) (no)))))) ∷ take (take (by 383 (claimed 1 (both (take (take (by 387 (claimed 1 (both (finish 0) (both (finish 1) (no))))))) (both (take (take (by 393 (claimed 1 (both (finish 0) (both (finish 1) (no))))))) (no)))))) ∷ take (take (by 406 (claimed 1 (both (take (take (by 387 (claimed 2 (both (finish 0) (both (finish 1) (no))))))) (both (take (take (by 393 (claimed 2 (both (finish 0) (both (finish 1) (no))))))) (no)))))) ∷ []) ∷
    (take (take (by 319 (claimed 1 (both (take (claimed 0 (both (take (take (by 376 (claimed 0 (both (finish 0) (no)))))) (no)))) (both (take (claimed 1 (both (take (take (by 376 (claimed 0 (both (finish 0) (no)))))) (no)))) (no)))))) ∷ take (take (by 383 (claimed 1 (both (take (claimed 0 (both (take (take (by 394 (claimed 0 (both (by 384 (finish 0)) (no)))))) (no)))) (both (take (claimed 1 (both (take (take (by 394 (claimed 0 (both (by 384 (finish 0)) (no)))))) (no)))) (no)))))) ∷ take (take (by 406 (claimed 1 (both (take (claimed 0 (both (take (take (by 420 (claimed 0 (both (by 384 (finish 0)) (no)))))) (no)))) (both (take (claimed 1 (both (take (take (by 420 (claimed 0 (both (by 384 (finish 0)) (no)))))) (no)))) (no)))))) ∷ []) ∷
    (take (take (by 385 (claimed 0 (both (claimed 0 (both (finish 0) (no))) (no))))) ∷ take (take (by 391 (claimed 0 (both (claimed 0 (both (finish 0) (no))) (no))))) ∷ take (take (by 163 (claimed 0 (both (claimed 0 (both (finish 0) (no))) (no))))) ∷ []) ∷
    (take (by 386 (claimed 0 (both (finish 0) (no)))) ∷ take (by 392 (claimed 0 (both (finish 0) (no)))) ∷ take (by 164 (claimed 0 (both (finish 0) (no)))) ∷ []) ∷
    (by 320 (claimed 0 (both (claimed 0 (both (finish 0) (no))) (no))) ∷ by 389 (by 395 (claimed 0 (both (claimed 0 (both (by 384 (finish 0)) (no))) (no)))) ∷ by 414 (by 395 (claimed 0 (both (claimed 0 (both (by 384 (finish 0)) (no))) (no)))) ∷ []) ∷
    (by 321 (finish 0) ∷ finish 1 ∷ finish 1 ∷ []) ∷
    (take (take (take (take (take (by 322 (claimed 0 (both (finish 0) (no)))))))) ∷ []) ∷
    (take (take (take (take (take (by 323 (claimed 0 (both (finish 0) (no)))))))) ∷ []) ∷
    (take (take (by 324 (finish 0))) ∷ []) ∷
    (take (take (by 325 (finish 0))) ∷ []) ∷
    (take (take (by 326 (finish 0))) ∷ []) ∷
    (take (take (by 327 (finish 0))) ∷ []) ∷
    (by 328 (claimed 0 (both (take (finish 0)) (no))) ∷ []) ∷
    (by 329 (claimed 0 (both (claimed 0 (both (finish 0) (no))) (no))) ∷ []) ∷
    (take (take (take (by 330 (claimed 0 (both (take (claimed 0 (both (take (take (finish 0))) (no)))) (no)))))) ∷ []) ∷
    (take (take (by 331 (claimed 0 (both (claimed 0 (both (take (take (finish 0))) (no))) (no))))) ∷ []) ∷
    (take (take (take (by 332 (claimed 0 (both (take (take (finish 0))) (no)))))) ∷ []) ∷
    (take (take (take (by 333 (claimed 0 (both (take (take (finish 0))) (no)))))) ∷ []) ∷
    (take (take (take (by 334 (claimed 0 (both (take (take (finish 0))) (no)))))) ∷ []) ∷
    (take (take (take (by 335 (claimed 0 (both (take (take (finish 0))) (no)))))) ∷ []) ∷
    (take (take (take (by 336 (claimed 0 (both (take (take (finish 0))) (no)))))) ∷ []) ∷
    (take (take (take (by 337 (claimed 0 (both (take (take (finish 0))) (no)))))) ∷ []) ∷
    (take (take (take (by 338 (claimed 0 (both (take (take (finish 0))) (no)))))) ∷ []) ∷
    (take (take (take (by 339 (claimed 0 (both (take (claimed 0 (both (claimed 0 (both (finish 0) (no))) (no)))) (no)))))) ∷ []) ∷
    (take (take (take (by 340 (claimed 0 (both (take (finish 0)) (no)))))) ∷ []) ∷
    (take (take (take (by 341 (claimed 0 (both (take (claimed 0 (both (take (take (finish 0))) (no)))) (no)))))) ∷ []) ∷
    (take (take (take (by 342 (claimed 0 (both (finish 0) (no)))))) ∷ []) ∷
    (take (take (take (by 343 (claimed 0 (both (take (take (finish 0))) (no)))))) ∷ []) ∷
    (take (take (take (by 344 (claimed 0 (both (take (take (finish 0))) (no)))))) ∷ []) ∷
    (take (take (take (by 345 (claimed 0 (both (take (take (finish 0))) (no)))))) ∷ []) ∷
    (take (take (take (by 346 (claimed 0 (both (take (take (finish 0))) (no)))))) ∷ []) ∷
    (take (by 347 (claimed 0 (both (take (finish 0)) (no)))) ∷ []) ∷
    (take (by 348 (finish 0)) ∷ []) ∷
    (take (by 349 (claimed 0 (both (take (claimed 0 (both (take (claimed 0 (both (finish 0) (no)))) (no)))) (no)))) ∷ []) ∷
    (by 350 (finish 0) ∷ []) ∷
    (take (by 351 (claimed 0 (both (take (finish 0)) (no)))) ∷ []) ∷
    (take (by 352 (finish 0)) ∷ []) ∷
    (take (by 353 (claimed 0 (both (take (take (finish 0))) (no)))) ∷ []) ∷
    (take (take (by 354 (finish 0))) ∷ []) ∷
    (take (take (by 355 (claimed 0 (both (finish 0) (no))))) ∷ []) ∷
    (take (take (by 356 (claimed 0 (both (finish 0) (no))))) ∷ []) ∷
    (take (take (by 357 (claimed 0 (both (finish 0) (no))))) ∷ []) ∷
    (take (take (by 358 (claimed 0 (both (take (finish 0)) (no))))) ∷ []) ∷
    (by 359 (claimed 0 (both (claimed 0 (both (finish 0) (no))) (no))) ∷ []) ∷
    (take (by 360 (claimed 0 (both (take (finish 0)) (no)))) ∷ []) ∷
    (by 361 (claimed 0 (both (take (claimed 0 (both (take (finish 0)) (no)))) (no))) ∷ []) ∷
    (take (take (by 362 (claimed 0 (both (take (finish 0)) (no))))) ∷ []) ∷
    (take (take (by 363 (finish 0))) ∷ []) ∷
    (take (take (by 364 (finish 0))) ∷ []) ∷
    (take (take (by 365 (finish 0))) ∷ []) ∷
    (take (take (by 366 (finish 0))) ∷ []) ∷
    (take (take (by 367 (finish 0))) ∷ []) ∷
    (take (take (by 368 (finish 0))) ∷ []) ∷
    (take (take (by 369 (finish 0))) ∷ []) ∷
    (take (take (take (by 370 (finish 0)))) ∷ []) ∷
    (by 371 (claimed 0 (both (take (take (finish 0))) (no))) ∷ []) ∷
    (take (take (by 372 (claimed 0 (both (finish 0) (no))))) ∷ []) ∷
    (take (by 373 (claimed 0 (both (finish 0) (no)))) ∷ []) ∷
    []

-- by word that is not offered, how each claim of its rule comes to it
abbrev pub refusal_runs : List (List Run)
refusal_runs =
    (by 18 (finish 0) ∷ []) ∷
    (by 19 (finish 0) ∷ []) ∷
    (by 38 (finish 0) ∷ []) ∷
    (by 192 (finish 0) ∷ []) ∷
    (by 243 (finish 0) ∷ []) ∷
    (by 270 (finish 0) ∷ []) ∷
    (by 274 (finish 0) ∷ []) ∷
    (by 421 (finish 0) ∷ []) ∷
    []
