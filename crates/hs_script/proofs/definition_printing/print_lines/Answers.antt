use Rattle.std.proofs.Common.{◌++◌, rules}
use Rattle.std.proofs.lemmas.Result.{on_ok_weaker}
use Rattle.hs_script.specs.Numbered.{numbered_text}
use Rattle.hs_script.proofs.PrintedLemmas.{printed_line, printed_last}
use Rattle.hs_script.proofs.definition_printing.print_lines.Goals as goal

pub loop-line-preserved : goal.loop-line-preserved
loop-line-preserved c = (
  search rules,
  printed_line c.args.number c.loop-line.rest.now c.in-Some.line.now c.in-Some.more.now c.loop-line.out c.print_line.new.out (c.args.out.now ++ numbered_text c.args.number c.args.text.now)
      c.in-Some.ensures.0 c.in-Some.ensures.1 c.loop-line.invariant.1 c.in_ok-print_line.ensures,
)

pub returns : goal.returns
returns c =
    on_ok_weaker c.print_line-2.result
    (printed_last c.args.number c.loop-line.rest.now c.loop-line.out c.print_line-2.new.out (c.args.out.now ++ numbered_text c.args.number c.args.text.now) c.in_default.ensures c.loop-line.invariant.1)
    c.print_line-2.ensures
