use Rattle.std.proofs.Common.{ℕ, List, subst, sym}
use Rattle.hs_committext.specs.Commits.{IsCommitText}
use Rattle.hs_logged.specs.Entered.{Decides}
use Rattle.hs_logged.proofs.Writing.{no_text, text_made}
use Rattle.hs_logged.proofs.texts.written.Goals as goal

pub returns-then-branch : goal.returns-then-branch
returns-then-branch g c =
    text_made (g.C.Conditions.wording c.args.conditions.now) c.args.catalog.now c.args.before c.args.commit.now.session c.args.commit.now.changes _ c.in_ok-text.ensures.text
    (subst (λ (t : List ℕ). IsCommitText (g.C.Conditions.wording c.args.conditions.now) c.args.catalog.now c.args.before t c.args.commit.now.session c.args.commit.now.changes) c.as_slice.ensures
    (subst (Decides (IsCommitText (g.C.Conditions.wording c.args.conditions.now) c.args.catalog.now c.args.before c.as_slice.result.now c.args.commit.now.session c.args.commit.now.changes)) c.if-branch.true c.in_ok-is_text_of.ensures))

pub returns-else-branch : goal.returns-else-branch
returns-else-branch g c =
    no_text (g.C.Conditions.wording c.args.conditions.now) c.args.catalog.now c.args.before c.args.commit.now.session c.args.commit.now.changes _ c.in_ok-text.ensures.text
    (λ h.
    subst (Decides (IsCommitText (g.C.Conditions.wording c.args.conditions.now) c.args.catalog.now c.args.before c.as_slice.result.now c.args.commit.now.session c.args.commit.now.changes)) c.if-branch.false c.in_ok-is_text_of.ensures
    (subst (λ (t : List ℕ). IsCommitText (g.C.Conditions.wording c.args.conditions.now) c.args.catalog.now c.args.before t c.args.commit.now.session c.args.commit.now.changes) (sym c.as_slice.ensures) h))
