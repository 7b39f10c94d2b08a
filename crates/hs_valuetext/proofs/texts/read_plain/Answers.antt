use Rattle.std.proofs.Common.{ap, sym, ◌∙◌}
use Rattle.std.specs.Prelude.{string_bytes}
use Rattle.std.proofs.lemmas.Str.{IsUtf8-string_bytes}
use Rattle.hs_valuetext.specs.Texts.{has_control}
use Rattle.hs_valuetext.proofs.TextLemmas.{plain_found}
use Rattle.hs_valuetext.proofs.texts.read_plain.Goals as goal

pub returns-in-Ok-Some : goal.returns-in-Ok-Some
returns-in-Ok-Some c =
    plain_found c.args.text.now (string_bytes c.in-Ok-Some.content) c.in-Ok-Some.rest.now (rw c.in-Ok-Some.field-0-is at c.in-Ok-Some.ensures)
    (ap has_control (sym c.as_bytes.ensures.value) ∙ sym c.has_control.ensures ∙ c.if-has_control.false)
    (IsUtf8-string_bytes c.in-Ok-Some.content)
