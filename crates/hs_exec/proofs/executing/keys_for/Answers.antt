use Rattle.std.proofs.Common.{◌≡◌, true, false, sym, ◌∙◌}
use Rattle.hs_exec.proofs.executing.keys_for.Goals as goal

pub returns-clause-keys : goal.returns-clause-keys
returns-clause-keys c = λ needs.
    let clash : true ≡ false = sym needs ∙ sym c.needs_keys.ensures ∙ c.if-needs_keys.false in
    absurd (cc)
