use Rattle.std.proofs.Common.{◌≡◌, ◌∙◌, ap}
use Rattle.hs_lexer.specs.Content.{escape_len}
use Rattle.hs_lexer.proofs.Parts.{escape_boundary}
use Rattle.hs_lexer.proofs.meaning.past_escape.Goals as goal

pub range_from-requires : goal.range_from-requires
range_from-requires c =
    let len : c.escape_len.result ≡ escape_len c.args.behind.now = c.escape_len.ensures.value ∙ ap escape_len c.as_bytes.ensures.value in
    rw len (escape_boundary c.args.behind.now c.utf8.behind)
