use Rattle.std.proofs.Common.{arith}
use Rattle.hs_asking.proofs.Entries.{short_name}
use Rattle.hs_asking.proofs.meaning.behind.Goals as goal

pub overflow_cast-result : goal.overflow_cast-result
overflow_cast-result c = let short = short_name c.args.name.now c.requires in omega (arith, short)

pub overflow_add-result : goal.overflow_add-result
overflow_add-result c = let short = short_name c.args.name.now c.requires in omega (arith, short)
