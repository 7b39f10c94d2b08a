use Rattle.hs_entries.proofs.Leading.{text_keeps, quoted_keeps, line_keeps, line_between_keeps, block_keeps, block_between_keeps}
use Rattle.hs_entries.proofs.place.Place.run.Goals as goal

pub run_to-requires : goal.run_to-requires
run_to-requires c = text_keeps _ c.in-Text.is

pub run_to-requires-in-Quoted : goal.run_to-requires-in-Quoted
run_to-requires-in-Quoted c = quoted_keeps _ c.in-Quoted.is

pub run_to-requires-in-Line : goal.run_to-requires-in-Line
run_to-requires-in-Line c = line_keeps _ c.in-Line.is

pub run_to-requires-in-LineBetween : goal.run_to-requires-in-LineBetween
run_to-requires-in-LineBetween c = line_between_keeps _ c.in-LineBetween.is

pub run_to-requires-in-Block : goal.run_to-requires-in-Block
run_to-requires-in-Block c = block_keeps _ c.in-Block.is

pub run_to-requires-in-BlockBetween : goal.run_to-requires-in-BlockBetween
run_to-requires-in-BlockBetween c = block_between_keeps _ c.in-BlockBetween.is
