use Rattle.std.proofs.Common.{sym, ◌∙◌}
use Rattle.hs_nametext.proofs.NameLemmas.{plain_found, plain_not_whole, plain_not_plain}
use Rattle.hs_nametext.proofs.names.read_plain.Goals as goal
use Rattle.hs_nametext.proofs.names.read_plain.Goals.{else-is_plain-via-then-is_plain+else-is_whole_name, else-is_plain-via-else-is_plain}

pub returns-then-is_whole_name : goal.returns-then-is_whole_name
returns-then-is_whole_name c =
    plain_found c.args.text.now c.word.result.0.now c.word.result.1.now c.word.ensures.front c.word.ensures.rest
    (sym c.is_plain.ensures ∙ c.if-is_plain.true)
    (sym c.is_whole_name.ensures ∙ c.if-is_whole_name.true)

pub returns-else-is_plain : goal.returns-else-is_plain
returns-else-is_plain c = elim c.else-is_plain.branch [
  | else-is_plain-via-then-is_plain+else-is_whole_name w ↦ plain_not_whole c.args.text.now c.word.result.0.now c.word.result.1.now c.word.ensures.front c.word.ensures.rest (sym w.is_whole_name.ensures ∙ w.if-is_whole_name.false)
  | else-is_plain-via-else-is_plain w ↦ plain_not_plain c.args.text.now c.word.result.0.now c.word.result.1.now c.word.ensures.front c.word.ensures.rest (sym c.is_plain.ensures ∙ w.if-is_plain.false)
]
