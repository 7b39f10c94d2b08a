use Rattle.std.proofs.Common.{◌≡◌, ap, ◌∙◌}
use Rattle.hs_meaning.specs.Statements.{query_meaning}
use Rattle.hs_meaning.specs.Trees.{query_of}
use Rattle.hs_meaning.specs.Around.{seen}
use Rattle.hs_resolve.proofs.Answered.{query_answered}
use Rattle.hs_resolve.proofs.statements.bound_query.Goals as goal

pub returns : goal.returns
returns c =
    let things = c.args.catalog.now in
    let query = c.args.query.now in
    let same : query_of things query (seen c.outermost-around.result) ≡ query_meaning things query = ap (query_of things query) c.outermost-around.ensures in
    query_answered (query_meaning things query) (query_of things query (seen c.outermost-around.result)) c.new-faults.result c.bind_query.new.faults
    c.in_ok-bound.bound.columns.items c.in_ok-bound.bound.plan c.whole.result c.answer.result
    c.answer.ensures same c.new-faults.ensures c.whole.ensures c.in_ok-bound.ensures.0 c.in_ok-bound.ensures.1 c.in_ok-bound.ensures.2
