use Rattle.std.proofs.Common.{rules, ◌≡◌, ℕ, List, subst, sym}
use Rattle.std.specs.Prelude.{IsUtf8}
use Rattle.hs_committext.specs.Commits as spec
use Rattle.hs_committext.proofs.OneText.{there}
use Rattle.hs_committext.proofs.commits.commit_text.Goals as goal

pub returns-clause-back : goal.returns-clause-back
returns-clause-back g c =
    let wording = g.C.Conditions.wording c.args.conditions.now in
    let changes = c.args.commit.now.changes in
    let session = c.args.commit.now.session in
    let lines_is : c.as_str.result.now ≡ spec.changes_text wording c.args.catalog.now changes = search rules in
    let text_is : c.from_vec.result ≡ spec.commit_text wording c.args.catalog.now c.args.before session changes = search rules in
    λ whole lawful h.
    subst (λ (t : List ℕ). spec.IsCommitText wording c.args.catalog.now c.args.before t session changes) (sym text_is)
    (there wording c.args.catalog.now c.args.before session changes whole lawful h (subst IsUtf8 lines_is c.as_str.utf8))
