use Rattle.std.proofs.Common.{◌≡◌, ◌+◌, List, [], ◌∷◌, ◌++◌, length, map, string_bytes, length-append, if◌then◌else◌, sym, ap, ◌∙◌, arith}
use Rattle.std.specs.List.{list_any}
use Rattle.std.specs.String.{string_eq}
use Rattle.hs_sessions.specs.declared.session.Session.{Session}
use Rattle.hs_sessions.specs.Book.{Book}
use Rattle.hs_sessions.specs.Settings.{fresh}
use Rattle.hs_sessions.proofs.Made.{ok_holds, one_longer}
use Rattle.hs_sessions.proofs.Numbered.{added}
use Rattle.hs_sessions.proofs.sessions.Sessions.make.Goals as goal

pub invariant_of-self-else-is_err : goal.invariant_of-self-else-is_err
invariant_of-self-else-is_err c =
    let keys = c.self.inside.names.keys in
    let key = c.into_string-key.result in
    let before : map string_bytes keys ≡ c.args.self.now.names = ap (λ (b : Book). b.names) c.self.view_is in
    let after = added keys c.insert.new.self.keys key c.args.self.now.names c.args.name.now before (c.into_string-key.ensures ∙ c.in_ok-copy.ensures) c.requires.new
    (ok_holds c.insert.result (c.insert.new.self.keys ≡ (if list_any (string_eq key) keys then keys else keys ++ key ∷ [])) (sym c.is_err.ensures.value ∙ c.if-is_err.false) c.insert.ensures.keys) in
    let grown = one_longer keys c.insert.new.self.keys c.args.self.now.names c.args.name.now before after in
    let longer : length c.push.new.self.items ≡ length c.self.inside.sessions.items + 1 = ap (λ (l : List Session). length l) c.in_ok-push.ensures.items ∙ length-append c.self.inside.sessions.items (c.new.result ∷ []) in
    let same : length c.self.inside.sessions.items ≡ length c.args.self.now.sessions = ap (λ (b : Book). length b.sessions) c.self.view_is in
    (grown ∙ ap (λ n. n + 1) c.self.invariant.0 ∙ sym longer, omega (arith, longer, same, c.requires.few))

pub returns-clause-ok : goal.returns-clause-ok
returns-clause-ok c =
    let keys = c.self.inside.names.keys in
    let key = c.into_string-key.result in
    let before : map string_bytes keys ≡ c.args.self.now.names = ap (λ (b : Book). b.names) c.self.view_is in
    let names = added keys c.insert.new.self.keys key c.args.self.now.names c.args.name.now before (c.into_string-key.ensures ∙ c.in_ok-copy.ensures) c.requires.new
    (ok_holds c.insert.result (c.insert.new.self.keys ≡ (if list_any (string_eq key) keys then keys else keys ++ key ∷ [])) (sym c.is_err.ensures.value ∙ c.if-is_err.false) c.insert.ensures.keys) in
    let sessions = c.in_ok-push.ensures.items ∙ ap (λ (s : Session). c.self.inside.sessions.items ++ s ∷ []) c.new.ensures ∙ ap (λ (b : Book). b.sessions ++ fresh b.level ∷ []) c.self.view_is in
    let level = ap (λ (b : Book). b.level) c.self.view_is in
    λ i. record { names = names i; sessions = sessions i; level = level i }
