use Rattle.std.specs.Cow.{cow_str_bytes}
use Rattle.hs_valuetext.proofs.Splits.{nonempty_from}
use Rattle.hs_parttext.proofs.NamedLemmas.{whole_more, whole_nameless}
use Rattle.hs_parttext.proofs.whole_names.read_whole_name.Goals as goal

pub returns-in-Ok-Some : goal.returns-in-Ok-Some
returns-in-Ok-Some c =
    whole_more c.args.text.now (cow_str_bytes c.in-Ok-Some.name) c.in-Ok-Some.rest.now
    (rw c.in-Ok-Some.field-0-is at c.in-Ok-Some.ensures)
    (nonempty_from c.in-Ok-Some.rest.now c.is_empty.result c.is_empty.ensures c.if-is_empty.false)

pub returns-in-Ok-None : goal.returns-in-Ok-None
returns-in-Ok-None c = whole_nameless c.args.text.now (rw c.in-Ok-None.field-0-is at c.in-Ok-None.ensures)
