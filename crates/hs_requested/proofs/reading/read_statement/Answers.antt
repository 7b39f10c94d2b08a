use Rattle.hs_read.specs.Read.{Uncut}
use Rattle.hs_requested.proofs.Telling.{refused_as, uncut}
use Rattle.hs_requested.proofs.reading.read_statement.Goals as goal

pub returns-in_ok-token_words-in-Err : goal.returns-in_ok-token_words-in-Err
returns-in_ok-token_words-in-Err c =
    refused_as c.args.at c.args.text.now (Uncut c.in-Err.fault) c.in_ok-token_words-in-Err.field-0
    (uncut c.args.text.now c.in-Err.fault (c.in-Err.ensures c.in_ok-token_words-in-Err.ensures.some)) c.in_ok-token_words-in-Err.ensures.told
