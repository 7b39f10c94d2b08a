use Rattle.std.proofs.Common.{List}
use Rattle.hs_base.specs.declared.numbers.RowNo.{RowNo}
use Rattle.hs_values.specs.declared.value.Value.{Value}
use Rattle.hs_rowtext.specs.Lines.{IsKeptLine, IsNumberedPart}
use Rattle.hs_rowtext.proofs.LineLemmas.{known_ok, kept_from, from_kept, kept_unbegun}
use Rattle.hs_rowtext.proofs.lines.read_kept_line.Goals as goal

pub returns-in_default : goal.returns-in_default
returns-in_default c = kept_unbegun c.args.written.now c.args.columns.now c.args.line.now c.in_default.ensures

pub returns-in-Some-behind : goal.returns-in-Some-behind
returns-in-Some-behind c =
    known_ok (λ (p : RowNo × List Value). p) (IsNumberedPart c.args.columns.now c.in-Some-behind.rest.now) (IsKeptLine c.args.written.now c.args.columns.now c.args.line.now)
    (kept_from c.args.written.now c.args.columns.now c.args.line.now c.in-Some.named.now c.in-Some-behind.rest.now c.in-Some.ensures c.in-Some-behind.ensures)
    (from_kept c.args.written.now c.args.columns.now c.args.line.now c.in-Some.named.now c.in-Some-behind.rest.now c.in-Some.ensures c.in-Some-behind.ensures)
    c.read_numbered_part.result c.read_numbered_part.ensures
