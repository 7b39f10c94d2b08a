use Rattle.hs_applicable.proofs.Tested.{bound_from, bound_test, proper_from, proper_test}
use Rattle.hs_applicable.proofs.laws.the_tests_of_definitions_are_exact.Goals as goal

pub returns : goal.returns
returns c = record {
  bound = λ things definition. (bound_from things definition, bound_test things definition);
  proper = λ things definition. (proper_from things definition, proper_test things definition);
}
