-- The tables to which things belong.
use Rattle.std.proofs.Common.{◌≡◌, ℕ, ◌+◌, ◌==◌, ◌<◌, Bool, true, false, cond, ◌||◌, List, [], ◌∷◌, ◌++◌, length, get_or, take, refl, sym, ap, subst, ◌∙◌, arith, add-one}
use Rattle.std.specs.List.{All}
use Rattle.std.proofs.Math.Seq.{take-suc}
use Rattle.std.proofs.lemmas.Bool.Decides.{nat_tests}
use Rattle.std.proofs.lemmas.List.Elements.{All-append, All-cons, All-nil}
use Rattle.std.proofs.lemmas.List.Folds.{list_any-append}
use Rattle.hs_base.specs.declared.numbers.TableNo.{TableNo}
use Rattle.hs_schema.specs.Catalogue.{Things}
use Rattle.hs_schema.specs.declared.thing.Thing.{Thing}
use Rattle.hs_redefining.specs.Tables.{has_number, is_in, with_table}

pub in_more : (all : List TableNo) (one : TableNo) (t : ℕ) → is_in (all ++ one ∷ []) t ≡ (is_in all t || ((one.0 == t) || false))
in_more all one t = list_any-append (has_number t) all (one ∷ [])

kept_by_table : (all : List TableNo) (one : TableNo) (t : ℕ) → is_in all t ≡ true → is_in (with_table all one) t ≡ true
kept_by_table all one t is = by (is_in all one.0)
  where
    by : (b : Bool) → is_in (cond b all (all ++ one ∷ [])) t ≡ true
    by true = is
    by false = let m = in_more all one t in grind (arith, m, is)

found_by_table : (all : List TableNo) (one : TableNo) → is_in (with_table all one) one.0 ≡ true
found_by_table all one = by (is_in all one.0) refl
  where
    by : (b : Bool) → is_in all one.0 ≡ b → is_in (cond b all (all ++ one ∷ [])) one.0 ≡ true
    by true is = is
    by false is = let m = in_more all one one.0 in grind (arith, nat_tests, m)

-- the tables of these things are among these
abbrev pub AreIn : List TableNo → Things → Type 0
AreIn all things = All (λ (t : Thing). is_in all t.table.0 ≡ true) things

pub none_in : (all : List TableNo) (things : Things) → AreIn all (take 0 things)
none_in all things = All-nil (λ (t : Thing). is_in all t.table.0 ≡ true)

pub one_in : (all grown : List TableNo) (things : Things) (i : ℕ) (thing : Thing) → i < length things → thing ≡ get_or things i thing → grown ≡ with_table all thing.table → AreIn all (take i things) → AreIn grown (take (i + 1) things)
one_in all grown things i thing low is made before =
    subst (λ (l : List TableNo). AreIn l (take (i + 1) things)) (sym made)
    (subst (AreIn (with_table all thing.table)) (sym more)
    (All-append (λ (t : Thing). is_in (with_table all thing.table) t.table.0 ≡ true) (take i things) (thing ∷ []) kept
    (All-cons (λ (t : Thing). is_in (with_table all thing.table) t.table.0 ≡ true) thing [] (found_by_table all thing.table) (All-nil (λ (t : Thing). is_in (with_table all thing.table) t.table.0 ≡ true)))))
  where
    more : take (i + 1) things ≡ take i things ++ thing ∷ []
    more = ap (λ n. take n things) (add-one i) ∙ take-suc things i thing low ∙ ap (λ (x : Thing). take i things ++ x ∷ []) (sym is)

    kept : All (λ (t : Thing). is_in (with_table all thing.table) t.table.0 ≡ true) (take i things)
    kept = λ k e lt. kept_by_table all thing.table (get_or (take i things) k e).table.0 (before k e lt)
