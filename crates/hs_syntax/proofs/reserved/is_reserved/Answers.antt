use Rattle.hs_syntax.proofs.NameOrReserved.{name_exactly}
use Rattle.hs_syntax.proofs.reserved.is_reserved.Goals as goal

pub returns-clause-name : goal.returns-clause-name
returns-clause-name c = name_exactly c.args.word.now c.is_name_class.result c.word_class.result c.is_name_class.ensures c.word_class.ensures
