use Rattle.std.proofs.Common.{ℕ, Option, ap, sym, ◌∙◌}
use Rattle.hs_log.specs.CommitText.{split_of}
use Rattle.hs_committext.proofs.TextLemmas.{text_unsplit, text_found, text_missing}
use Rattle.hs_committext.proofs.commits.read_known.Goals as goal

pub returns-in_default : goal.returns-in_default
returns-in_default g c =
    text_unsplit (g.C.Conditions.wording c.args.conditions.now) c.args.catalog.now c.args.before c.args.text.now
    (ap (λ (b : Option ℕ). split_of b c.args.text.now) (sym c.number_of.ensures) ∙ sym c.in_default.ensures)

pub returns-in-Some-2 : goal.returns-in-Some-2
returns-in-Some-2 g c =
    text_found (g.C.Conditions.wording c.args.conditions.now) c.args.catalog.now c.args.before c.args.text.now (record { 0 = c.in-Some.session }) c.in-Some.lines.now c.in-Some-2.changes
    (ap (λ (b : Option ℕ). split_of b c.args.text.now) (sym c.number_of.ensures) ∙ sym c.in-Some.ensures)
    (rw c.in-Some-2.is at c.in_ok-changes.ensures)

pub returns-in-None : goal.returns-in-None
returns-in-None g c =
    text_missing (g.C.Conditions.wording c.args.conditions.now) c.args.catalog.now c.args.before c.args.text.now (record { 0 = c.in-Some.session }) c.in-Some.lines.now
    (ap (λ (b : Option ℕ). split_of b c.args.text.now) (sym c.number_of.ensures) ∙ sym c.in-Some.ensures)
    (rw c.in-None.is at c.in_ok-changes.ensures)
