use Rattle.std.proofs.Common.{ap, subst, ◌∙◌}
use Rattle.hs_asking.proofs.Entries.{tree_in}
use Rattle.hs_read.specs.Read.{statement_in}
use Rattle.hs_requested.specs.Asked.{HasTree}
use Rattle.hs_requests.specs.Requests.{request_of}
use Rattle.hs_schema.specs.Catalogue.{Text}
use Rattle.hs_turns.specs.Turns.{whole_text}
use Rattle.hs_asking.proofs.asking.asked.Goals as goal

pub returns-clause-asked : goal.returns-clause-asked
returns-clause-asked c =
    c.as_asked.ensures.asked
    ∙ (c.in_ok-request.ensures.entry c.args.entry.now.name c.requires.session c.place-at.ensures ∙ ap (λ (t : Text). request_of (whole_text c.args.entry.now.name t)) c.as_str.ensures)

pub returns-clause-tree : goal.returns-clause-tree
returns-clause-tree c =
    c.as_asked.ensures.tree _
    (tree_in c.args.entry.now.name c.args.entry.now.text c.in_ok-request.request c.requires.session
    (subst (λ (t : Text). HasTree (statement_in t) c.in_ok-request.request) c.as_str.ensures c.in_ok-request.ensures.tree))
