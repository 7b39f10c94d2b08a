use Rattle.std.proofs.Common.{rules, subst}
use Rattle.std.specs.Prelude.{IsUtf8}
use Rattle.std.proofs.lemmas.Str.{IsUtf8-string_bytes}
use Rattle.hs_logged.proofs.KnownTexts as told
use Rattle.hs_logged.proofs.known.known_text.Goals as goal

pub lines_of-requires : goal.lines_of-requires
lines_of-requires g c = told.known_printable (g.C.Conditions.wording c.args.conditions.now) c.args.catalog.now c.args.commit.now.session c.args.commit.now.changes c.requires

pub returns : goal.returns
returns g c =
    told.known_text (g.C.Conditions.wording c.args.conditions.now) c.args.catalog.now c.args.commit.now.session c.args.commit.now.changes c.requires c.args.before c.from_vec.result
    (subst IsUtf8 c.in_ok-lines.ensures (IsUtf8-string_bytes c.in_ok-lines.lines)) (search rules)
