use Rattle.std.proofs.Common.{refl, sym, ◌∙◌}
use Rattle.hs_keytext.specs.Owners.{seen}
use Rattle.hs_keytext.proofs.KeyLemmas.{behind_found, behind_unpaired, behind_parentless, behind_unbegun}
use Rattle.hs_keytext.proofs.foreign_keys.read_behind.Goals as goal

pub returns-in_default : goal.returns-in_default
returns-in_default c = behind_unbegun (seen c.args.owner.now) c.args.columns c.args.text.now c.in_default.ensures

pub returns-then-len : goal.returns-then-len
returns-then-len c =
    behind_found (seen c.args.owner.now) c.args.columns c.args.text.now c.in-Some.parent_text.now
    (record { columns = c.args.columns; parent = c.in-Some-2.found.0; parent_columns = c.in-Some-2.found.1.0; on_delete = c.in-Some-2.found.1.1.0; on_update = c.in-Some-2.found.1.1.1 })
    c.in-Some.ensures
    (rw c.in-Some-2.is at c.in_ok-found.ensures)
    refl
    (sym c.len.ensures ∙ c.if-len.true ∙ c.len-in-Some-2.ensures)

pub returns-else-len : goal.returns-else-len
returns-else-len c =
    behind_unpaired (seen c.args.owner.now) c.args.columns c.args.text.now c.in-Some.parent_text.now c.in-Some-2.found c.in-Some.ensures
    (rw c.in-Some-2.is at c.in_ok-found.ensures)
    (λ e. c.if-len.false (c.len.ensures ∙ e ∙ sym c.len-in-Some-2.ensures))

pub returns-in-None : goal.returns-in-None
returns-in-None c =
    behind_parentless (seen c.args.owner.now) c.args.columns c.args.text.now c.in-Some.parent_text.now c.in-Some.ensures
    (rw c.in-None.is at c.in_ok-found.ensures)
