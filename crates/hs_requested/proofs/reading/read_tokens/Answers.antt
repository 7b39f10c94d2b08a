use Rattle.hs_read.specs.Read.{Unparsed}
use Rattle.hs_requested.proofs.Telling.{a_statement, read_as, refused_as, unparsed}
use Rattle.hs_requested.proofs.reading.read_tokens.Goals as goal

pub returns-in-Ok : goal.returns-in-Ok
returns-in-Ok c =
    read_as c.args.at c.args.text.now c.in-Ok.statement (a_statement c.args.text.now c.args.tokens.now c.in-Ok.statement c.requires c.in-Ok.ensures.statement)

pub returns-in_ok-grammar_words-in-Err : goal.returns-in_ok-grammar_words-in-Err
returns-in_ok-grammar_words-in-Err c =
    refused_as c.args.at c.args.text.now (Unparsed c.in-Err.fault) c.in_ok-grammar_words-in-Err.field-0
    (unparsed c.args.text.now c.args.tokens.now c.in-Err.fault c.requires c.in-Err.ensures.statement c.in_ok-grammar_words-in-Err.ensures.some) c.in_ok-grammar_words-in-Err.ensures.told
