use Rattle.std.proofs.Common.{◌≡◌, ◌≢◌, ◌∷◌, ◌<◌, ◌^◌, ◌∙◌, ℕ, List, sym, pos, lit<, FitsSigned}
use Rattle.std.specs.Int.{w128}
use Rattle.std.specs.Prelude.{◌-ℤ◌, unsigned_abs}
use Rattle.std.proofs.lemmas.Int.{to_z-of_z}
use Rattle.std.proofs.lemmas.Str.Pattern.{strip_prefix_char}
use Rattle.hs_values.proofs.DecimalWidths.{narrow}
use Rattle.hs_decimal.proofs.PrintedLines.{unsigned_found, signed_found, turned_few, turned_back}
use Rattle.hs_decimal.proofs.printed.signed_number.Goals as goal

pub returns-in-None-clause-found : goal.returns-in-None-clause-found
returns-in-None-clause-found c =
    let others : (rest : List ℕ) → c.args.line.now ≢ 45 ∷ rest = rw c.in-None.is at (strip_prefix_char 45 c.args.line.now c.strip_prefix.result c.strip_prefix.ensures.cases (lit< tt)) in
    unsigned_found c.args.line.now c.unsigned_number.result others c.unsigned_number.ensures.found

pub returns-in_err-size-in-Some-clause-found : goal.returns-in_err-size-in-Some-clause-found
returns-in_err-size-in-Some-clause-found c =
    let sign : c.args.line.now ≡ 45 ∷ c.in-Some.size.now = rw c.in-Some.is at (strip_prefix_char 45 c.args.line.now c.strip_prefix.result c.strip_prefix.ensures.cases (lit< tt)) in
    λ a lawful e.
    let found = signed_found c.args.line.now c.in-Some.size.now c.unsigned_number-in-Some.result sign c.unsigned_number-in-Some.ensures.found a lawful e in
    let none = c.in_err-size-in-Some.was in cc

pub returns-in_ok-size-in-Some-clause-found : goal.returns-in_ok-size-in-Some-clause-found
returns-in_ok-size-in-Some-clause-found c =
    let sign : c.args.line.now ≡ 45 ∷ c.in-Some.size.now = rw c.in-Some.is at (strip_prefix_char 45 c.args.line.now c.strip_prefix.result c.strip_prefix.ensures.cases (lit< tt)) in
    let d = c.in_ok-size-in-Some.size in
    let few : unsigned_abs d.units < 10 ^ 38 = c.in_ok-size-in-Some.ensures.lawful.digits in
    let plain : FitsSigned w128 d.units = narrow d.units few in
    let turned : FitsSigned w128 (pos 0 -ℤ d.units) = narrow (pos 0 -ℤ d.units) (turned_few d.units few) in
    λ a lawful e.
    simp to_z-of_z (turned_back a d (sym c.in_ok-size-in-Some.was ∙ signed_found c.args.line.now c.in-Some.size.now c.unsigned_number-in-Some.result sign c.unsigned_number-in-Some.ensures.found a lawful e))
