use Rattle.std.proofs.Common.{ap}
use Rattle.hs_scope.specs.Names.{inside, found_in}
use Rattle.hs_scope.proofs.laws.the_inner_query_comes_before_the_outer_ones.Goals as goal

pub returns : goal.returns
returns c = record {
  one = λ tables around name at kind h. ap (λ s. inside s (found_in around name)) h;
  several = λ tables around name h. ap (λ s. inside s (found_in around name)) h;
  missing = λ tables around name h. ap (λ s. inside s (found_in around name)) h;
}
