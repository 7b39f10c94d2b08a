use Rattle.std.proofs.Common.{◌≡◌, [], ◌∷◌, ◌++◌, if◌then◌else◌, sym, ◌∙◌}
use Rattle.std.specs.List.{list_any}
use Rattle.std.specs.String.{string_eq}
use Rattle.hs_sessions.proofs.Made.{ok_holds}
use Rattle.hs_sessions.proofs.Numbered.{added}
use Rattle.hs_lines.proofs.names.Names.add.Goals as goal

pub returns-clause-ok : goal.returns-clause-ok
returns-clause-ok c =
    let keys = c.self.inside.names.keys in
    let key = c.into_string-key.result in
    added keys c.insert.new.self.keys key c.args.self.now c.args.name.now c.self.view_is (c.into_string-key.ensures ∙ c.in_ok-copy.ensures) c.requires.new
    (ok_holds c.insert.result (c.insert.new.self.keys ≡ (if list_any (string_eq key) keys then keys else keys ++ key ∷ [])) (sym c.is_err.ensures.value ∙ c.if-is_err.false) c.insert.ensures.keys)
