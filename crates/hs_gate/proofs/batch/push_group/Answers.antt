use Rattle.std.proofs.Common.{ℕ, List, ◌∷◌, ◌++◌, length, ◌∙◌, ap, append_assoc, append-nil}
use Rattle.hs_gate.specs.Groups.{eight_bytes}
use Rattle.hs_gate.proofs.batch.push_group.Goals as goal

pub returns-clause-ok : goal.returns-clause-ok
unfolding eight_bytes
returns-clause-ok c =
    let bytes = c.args.bytes.now.items in
    let payload = c.args.payload.now in
    c.in_default.ensures.items
    ∙ ap (λ (l : List ℕ). l ++ payload) (c.in_ok-extend_from_slice.ensures.items ∙ ap (λ (l : List ℕ). bytes ++ 1 ∷ l) (append-nil c.copy_from_slice.new.self ∙ c.copy_from_slice.ensures.after ∙ c.to_be_bytes.ensures))
    ∙ append_assoc bytes (1 ∷ eight_bytes (length payload)) payload
