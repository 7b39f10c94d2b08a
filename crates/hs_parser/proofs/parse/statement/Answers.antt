use Rattle.std.proofs.Common.{arith, ◌∙◌}
use Rattle.hs_parser.proofs.LawfulParsing.{lawful_of}
use Rattle.hs_parser.proofs.Parsing.{read_of, parsed_of, fits_of}
use Rattle.hs_parser.proofs.parse.statement.Goals as goal

pub returns-in-Ok-clause-statement : goal.returns-in-Ok-clause-statement
returns-in-Ok-clause-statement c =
    read_of c.args.text.now c.args.tokens.now c.as_slice-list.result.now c.as_slice.result.now c.in-Ok.items.items c.as_slice-in-Ok.result.now c.tree.result
    c.as_slice-list.ensures (c.as_slice.ensures.value ∙ c.in_ok-classes.ensures) c.in-Ok.ensures.table c.in-Ok.ensures.statement c.as_slice-in-Ok.ensures.value c.tree.ensures

pub returns-in-Ok-clause-tree : goal.returns-in-Ok-clause-tree
returns-in-Ok-clause-tree c =
    parsed_of c.args.text.now c.args.tokens.now c.as_slice-list.result.now c.as_slice.result.now c.in-Ok.items.items c.as_slice-in-Ok.result.now c.tree.result
    c.as_slice-list.ensures (c.as_slice.ensures.value ∙ c.in_ok-classes.ensures) c.in-Ok.ensures.table c.as_slice-in-Ok.ensures.value c.tree.ensures

pub returns-in-Ok-clause-depth : goal.returns-in-Ok-clause-depth
returns-in-Ok-clause-depth c =
    fits_of c.args.text.now c.as_slice-list.result.now c.as_slice.result.now c.in-Ok.items.items c.as_slice-in-Ok.result.now c.tree.result
    (c.as_slice.ensures.value ∙ c.in_ok-classes.ensures) c.in-Ok.ensures.table c.as_slice-in-Ok.ensures.value c.tree.ensures

pub returns-in-Ok-clause-lawful : goal.returns-in-Ok-clause-lawful
returns-in-Ok-clause-lawful c =
    lawful_of c.args.text.now c.args.tokens.now c.as_slice-list.result.now c.as_slice.result.now c.in-Ok.items.items c.as_slice-in-Ok.result.now c.tree.result c.utf8.text
    c.as_slice-list.ensures (c.as_slice.ensures.value ∙ c.in_ok-classes.ensures) c.in-Ok.ensures.statement c.as_slice-in-Ok.ensures.value c.tree.ensures
