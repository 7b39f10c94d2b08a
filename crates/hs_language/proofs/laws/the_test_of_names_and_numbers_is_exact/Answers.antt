use Rattle.hs_language.proofs.Whole.{whole_from, whole_test}
use Rattle.hs_language.proofs.laws.the_test_of_names_and_numbers_is_exact.Goals as goal

pub returns : goal.returns
returns c = λ things. (whole_from things, whole_test things)
