use Rattle.std.proofs.Common.{ap, []}
use Rattle.hs_answer.specs.Places.{over_row}
use Rattle.hs_answer_laws.proofs.Framed.{query_framed, value_framed}
use Rattle.hs_answer_laws.proofs.frame.an_answer_depends_on_the_named_tables_alone.Goals as goal

pub returns : goal.returns
returns c = record {
  query = λ a b query agree. ap (λ f. f []) (query_framed a b query agree);
  subquery = λ a b query outer agree. ap (λ f. f outer) (query_framed a b query agree);
  expression = λ a b e row agree. ap (λ f. f (over_row [] row)) (value_framed a b e agree);
}
