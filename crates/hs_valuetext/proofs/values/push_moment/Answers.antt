use Rattle.std.proofs.Common.{List, ℕ, ℤ, ◌++◌, ◌∷◌, [], ap, ◌∙◌, append_assoc, to_z-of_z}
use Rattle.std.specs.Prelude.{codes}
use Rattle.hs_temporal.specs.Texts.{stamp_text}
use Rattle.hs_valuetext.proofs.values.push_moment.Goals as goal

pub returns-in_ok-push_text-in-Ok : goal.returns-in_ok-push_text-in-Ok
returns-in_ok-push_text-in-Ok c =
    c.in_ok-push_text-in-Ok.ensures.ok
    ∙ ap (λ (xs : List ℕ). xs ++ 39 ∷ [])
    (c.in-Ok.ensures.ok ∙ ap (λ (z : ℤ). c.push_text.new.self ++ stamp_text z) (to_z-of_z c.ranges.micros) ∙ ap (λ (xs : List ℕ). xs ++ stamp_text c.args.micros) c.in_ok-push_text.ensures.ok)
    ∙ append_assoc (c.args.out.now ++ codes "TIMESTAMP '") (stamp_text c.args.micros) (39 ∷ [])
    ∙ append_assoc c.args.out.now (codes "TIMESTAMP '") (stamp_text c.args.micros ++ 39 ∷ [])
