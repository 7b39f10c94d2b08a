use Rattle.std.proofs.Common.{rules, ◌≡◌, ◌-◌, ◌∙◌, ap, ℕ, take, drop, w64}
use Rattle.std.specs.Prelude.{pos, ◌+ℤ◌, ◌-ℤ◌}
use mir.Val.{SFits}
use Rattle.std.specs.Str.{chars}
use Rattle.std.proofs.lemmas.Int.{to_z-of_z}
use Rattle.hs_scalar.specs.Positions.{positions_through}
use Rattle.hs_scalar.proofs.CharLemmas.{spelled, take_past}
use Rattle.hs_scalar.proofs.positions.substring.Goals as goal

pub returns-in-None : goal.returns-in-None
returns-in-None c =
    let fits = c.ranges.from in
    let before : c.positions_before-before.result ≡ positions_through (c.args.from -ℤ pos 1) = simp to_z-of_z at c.positions_before-before.ensures in
    rw c.in-None.is (spelled c.without_first-rest.result.now _ c.without_first-rest.utf8
    (c.without_first-rest.ensures ∙ ap (λ (n : ℕ). drop n (chars c.args.text.now)) before))

pub returns-in-Some : goal.returns-in-Some
returns-in-Some c =
    let fits = c.ranges.from in
    let before : c.positions_before-before.result ≡ positions_through (c.args.from -ℤ pos 1) = simp to_z-of_z at c.positions_before-before.ensures in
    let through : c.positions_up_to_last-through.result ≡ positions_through (c.args.from +ℤ c.in-Some.count -ℤ pos 1) = (let fits_count : SFits w64 c.in-Some.count = search rules in simp to_z-of_z at c.positions_up_to_last-through.ensures) in
    let rest : chars c.first_of.result.now ≡ take (c.positions_up_to_last-through.result - c.positions_before-before.result) (drop c.positions_before-before.result (chars c.args.text.now)) = cc in
    rw c.in-Some.is (spelled c.first_of.result.now _ c.first_of.utf8 (rest ∙ (rw (before, through) (take_past _ _ (chars c.args.text.now)))))
