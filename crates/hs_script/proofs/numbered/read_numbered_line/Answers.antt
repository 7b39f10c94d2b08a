use Rattle.std.proofs.Common.{codes}
use Rattle.hs_valuetext.proofs.Splits.{same_texts, other_texts}
use Rattle.hs_script.proofs.NumberedLemmas.{line_found, line_wordless, line_short, line_unsaid, line_numberless}
use Rattle.hs_script.proofs.numbered.read_numbered_line.Goals as goal

pub returns-in_default : goal.returns-in_default
returns-in_default c = line_wordless c.args.line.now c.in_default.ensures

pub returns-in_default-last_word : goal.returns-in_default-last_word
returns-in_default-last_word c = line_short c.args.line.now c.in-Some.front.now c.in-Some.digits.now c.in-Some.ensures.0 c.in-Some.ensures.1 c.in_default-last_word.ensures

pub returns-in_default-read_unsigned : goal.returns-in_default-read_unsigned
returns-in_default-read_unsigned c = line_numberless c.args.line.now c.in-Some.front.now c.in-Some.digits.now c.in-Some.ensures.0 c.in-Some.ensures.1 c.in_default-read_unsigned.ensures

pub returns-then-eq : goal.returns-then-eq
returns-then-eq c =
    line_found c.args.line.now c.in-Some.front.now c.in-Some.digits.now c.in-Some-last_word.said.now c.in-Some-last_word.word.now c.in-Some-read_unsigned.number
    c.in-Some.ensures.0 c.in-Some.ensures.1 c.in-Some-last_word.ensures.0 c.in-Some-last_word.ensures.1
    (same_texts c.in-Some-last_word.word.now (codes "NUMBER") c.eq.result c.eq.ensures c.if-eq.true) c.in-Some-read_unsigned.ensures.0

pub returns-else-eq : goal.returns-else-eq
returns-else-eq c =
    line_unsaid c.args.line.now c.in-Some.front.now c.in-Some.digits.now c.in-Some-last_word.said.now c.in-Some-last_word.word.now
    c.in-Some.ensures.0 c.in-Some.ensures.1 c.in-Some-last_word.ensures.0 c.in-Some-last_word.ensures.1
    (other_texts c.in-Some-last_word.word.now (codes "NUMBER") c.eq.result c.eq.ensures c.if-eq.false)
