use Rattle.std.proofs.Common.{◌≡◌, ◌≤◌, length, subst, ◌∙◌, sym, arith}
use Rattle.std.proofs.lemmas.Bool.{le-leb}
use Rattle.std.proofs.lemmas.Str.{encodes-chars, length-le-encodes}
use Rattle.std.specs.Str.{chars}
use Rattle.hs_values.proofs.sql_type.has_characters.Goals as goal

-- a text has no more characters than bytes
pub returns-then-text-most : goal.returns-then-text-most
returns-then-text-most c =
    let few : length (chars c.args.text.now) ≤ length c.args.text.now = subst (λ bytes. length (chars c.args.text.now) ≤ length bytes) (encodes-chars c.args.text.now c.utf8.text) (length-le-encodes (chars c.args.text.now)) in
    let most : length c.args.text.now ≤ c.args.most = omega arith in
    le-leb (length c.args.text.now) c.from-most.result c.if-text-most.true ∙ sym (le-leb (length (chars c.args.text.now)) c.args.most (omega arith))
