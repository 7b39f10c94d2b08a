use Rattle.std.proofs.Common.{◌<◌, length, arith}
use Rattle.hs_lines.specs.Told.{lines_of}
use Rattle.hs_gathering.proofs.Printing.{printed_more}
use Rattle.hs_gathering.proofs.gathering.print.Goals as goal

pub loop-at-preserved : goal.loop-at-preserved
loop-at-preserved c =
    let within : c.loop-at.at < length (lines_of c.args.names.now c.args.told.now) = omega (arith, c.len-at-end.ensures c.args.names.now) in
    printed_more c.args.names.now c.args.told.now c.loop-at.at c.args.text.now.items c.loop-at.text.items c.print_line.new.out.items within c.loop-at.invariant c.in_ok-print_line.ensures
