use Rattle.std.proofs.Common.{◌≡◌, ◌-◌, ◌∷◌, [], length, length-append, take, ap, ◌∙◌, arith}
use Rattle.hs_schema.proofs.Lists.{front_taken}
use Rattle.hs_schema.proofs.children.take_last.Goals as goal

pub returns : goal.returns
returns c = λ front last is.
    let e : c.args.list.now.len - 1 ≡ length front = omega (arith, c.args.list.now.ok.0, ap length is, length-append front (last ∷ [])) in
    c.pop-last.ensures.rest ∙ ap (λ n. take n c.args.list.now.items) e ∙ ap (take (length front)) is ∙ front_taken front (last ∷ [])
