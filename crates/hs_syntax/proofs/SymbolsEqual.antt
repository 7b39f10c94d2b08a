-- Equal lists of symbols, by computation.
use Rattle.std.proofs.Common.{◌≡◌, ℕ, zero, suc, Bool, true, false, ◌&&◌, eqb, T, Option, Some, None, List, [], ◌∷◌, ◌++◌, refl, ap, sym, ◌∙◌}
use Rattle.std.proofs.Math.Facts.{eqb_yes}
use Rattle.hs_grammar.proofs.Sets.{and_left, and_right}
use Rattle.hs_grammar.specs.declared.types.Symbol.{Symbol}
use Rattle.hs_grammar.specs.declared.types.Symbol.TheVariants as S

abbrev pub code : Symbol → List ℕ
code (S.Take c) = 0 ∷ c ∷ []
code (S.TakeKeep a b) = 1 ∷ a ∷ b ∷ []
code (S.TakeUpTo a b) = 2 ∷ a ∷ b ∷ []
code (S.Refuse a b) = 3 ∷ a ∷ b ∷ []
code (S.Rule n) = 4 ∷ n ∷ []
code (S.Turn n) = 5 ∷ n ∷ []
code (S.Mark m) = 6 ∷ m ∷ []
code (S.Keep k) = 7 ∷ k ∷ []

abbrev decode : List ℕ → Symbol
decode (zero ∷ c ∷ []) = S.Take c
decode (suc zero ∷ a ∷ b ∷ []) = S.TakeKeep a b
decode (suc (suc zero) ∷ a ∷ b ∷ []) = S.TakeUpTo a b
decode (suc (suc (suc zero)) ∷ a ∷ b ∷ []) = S.Refuse a b
decode (suc (suc (suc (suc zero))) ∷ n ∷ []) = S.Rule n
decode (suc (suc (suc (suc (suc zero)))) ∷ n ∷ []) = S.Turn n
decode (suc (suc (suc (suc (suc (suc zero))))) ∷ m ∷ []) = S.Mark m
decode (suc (suc (suc (suc (suc (suc (suc zero)))))) ∷ k ∷ []) = S.Keep k
decode _ = S.Take 0

decoded : (x : Symbol) → decode (code x) ≡ x
decoded (S.Take c) = refl
decoded (S.TakeKeep a b) = refl
decoded (S.TakeUpTo a b) = refl
decoded (S.Refuse a b) = refl
decoded (S.Rule n) = refl
decoded (S.Turn n) = refl
decoded (S.Mark m) = refl
decoded (S.Keep k) = refl

abbrev pub numbers_eq : List ℕ → List ℕ → Bool
numbers_eq [] [] = true
numbers_eq (x ∷ a) (y ∷ b) = eqb x y && numbers_eq a b
numbers_eq _ _ = false

numbers_same : (a b : List ℕ) → T (numbers_eq a b) → a ≡ b
numbers_same [] [] h = refl
numbers_same [] (y ∷ b) h = absurd h
numbers_same (x ∷ a) [] h = absurd h
numbers_same (x ∷ a) (y ∷ b) h =
    let e : x ≡ y = eqb_yes (and_left (eqb x y) (numbers_eq a b) h) in let f = numbers_same a b (and_right (eqb x y) (numbers_eq a b) h) in cc

abbrev symbol_eq : Symbol → Symbol → Bool
symbol_eq x y = numbers_eq (code x) (code y)

pub symbol_same : (x y : Symbol) → T (symbol_eq x y) → x ≡ y
symbol_same x y h = sym (decoded x) ∙ ap decode (numbers_same (code x) (code y) h) ∙ decoded y

abbrev pub symbols_eq : List Symbol → List Symbol → Bool
symbols_eq [] [] = true
symbols_eq (x ∷ a) (y ∷ b) = symbol_eq x y && symbols_eq a b
symbols_eq _ _ = false

pub symbols_same : (a b : List Symbol) → T (symbols_eq a b) → a ≡ b
symbols_same [] [] h = refl
symbols_same [] (y ∷ b) h = absurd h
symbols_same (x ∷ a) [] h = absurd h
symbols_same (x ∷ a) (y ∷ b) h =
    let e = symbol_same x y (and_left (symbol_eq x y) (symbols_eq a b) h) in let f = symbols_same a b (and_right (symbol_eq x y) (symbols_eq a b) h) in cc

abbrev pub if_equal : Bool → Option (List Symbol) → Option (List Symbol)
if_equal true o = o
if_equal false o = None

-- what is left behind a front
abbrev pub stripped : List Symbol → List Symbol → Option (List Symbol)
stripped [] a = Some a
stripped (x ∷ c) [] = None
stripped (x ∷ c) (y ∷ a) = if_equal (symbol_eq x y) (stripped c a)

equal_of : (k : Bool) (o : Option (List Symbol)) (r : List Symbol) → if_equal k o ≡ Some r → T k × (o ≡ Some r)
equal_of true o r e = (tt, e)
equal_of false o r e = cc

pub stripped_same : (c a r : List Symbol) → stripped c a ≡ Some r → a ≡ c ++ r
stripped_same [] a r e = cc
stripped_same (x ∷ c) [] r e = cc
stripped_same (x ∷ c) (y ∷ a) r e =
    let k = equal_of (symbol_eq x y) (stripped c a) r e in
    let f = symbol_same x y k.0 in let g = stripped_same c a r k.1 in cc
