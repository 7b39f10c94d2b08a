use Rattle.std.proofs.Common.{◌≡◌, ℕ, ◌<◌, ◌^◌, List, ◌++◌, take, Some, codes, sym, ap, subst, ◌∙◌, arith}
use Rattle.std.specs.Fmt.{decimal}
use Rattle.std.specs.Str.{IsUtf8}
use Rattle.std.proofs.lemmas.Bool.Decides.{Decides-eqb}
use Rattle.std.proofs.lemmas.Fmt.{parse-decimal, IsAscii-decimal}
use Rattle.std.proofs.lemmas.Slice.Eq.{strip_prefix_is}
use Rattle.std.proofs.lemmas.Str.{IsUtf8-from_ascii}
use Rattle.hs_log.specs.CommitText.{IsSession, mark}
use Rattle.hs_log.proofs.CommitTexts.{behind_digits, ok_same, never_both}
use Rattle.hs_log.proofs.commit_text.session_in.Goals as goal
use Rattle.hs_log.proofs.commit_text.session_in.Goals.{After-from_utf8}

-- the digits at hand are those of a mark at the front
digits : (c : After-from_utf8) (session : ℕ) (rest : List ℕ) → IsSession session → c.args.text.now ≡ mark session ++ rest → take c.digits_len-count.result c.in_ok-behind.behind.now ≡ decimal session
digits c session rest good is =
    let front : c.args.text.now ≡ codes "/*C" ++ c.in_ok-behind.behind.now = strip_prefix_is Decides-eqb c.args.text.now (codes "/*C") (Some c.in_ok-behind.behind) c.in_ok-behind.ensures.cases in
    ap (λ (n : ℕ). take n c.in_ok-behind.behind.now) c.digits_len-count.ensures.count ∙ behind_digits c.args.text.now c.in_ok-behind.behind.now session rest good front is

pub returns-in_default : goal.returns-in_default
returns-in_default c = λ session rest good is.
    let small : session < 2 ^ 64 = omega (arith, good.1) in
    let text : IsUtf8 (take c.digits_len-count.result c.in_ok-behind.behind.now) =
    subst IsUtf8 (sym (digits (goal.at.returns-in_default c).After-from_utf8 session rest good is)) (IsUtf8-from_ascii (decimal session) (IsAscii-decimal session small)) in
    absurd (c.in_default.ensures.cases.0 text)

pub returns-in-Ok-parse : goal.returns-in-Ok-parse
returns-in-Ok-parse c = λ session rest good is.
    let small : session < 2 ^ 64 = omega (arith, good.1) in
    let here : c.in-Ok.digits.now ≡ decimal session = c.in-Ok.ensures.cases.0 ∙ digits (goal.at.returns-in-Ok-parse c).After-from_utf8 session rest good is in
    let read = parse-decimal 32 session c.in-Ok.digits.now c.parse.result good.1 small here c.parse.ensures.value.0 in
    ap Some (ok_same c.in-Ok-parse.session session (sym c.in-Ok-parse.is ∙ read))

pub returns-in-Err : goal.returns-in-Err
returns-in-Err c = λ session rest good is.
    let small : session < 2 ^ 64 = omega (arith, good.1) in
    let here : c.in-Ok.digits.now ≡ decimal session = c.in-Ok.ensures.cases.0 ∙ digits (goal.at.returns-in-Err c).After-from_utf8 session rest good is in
    absurd (never_both c.in-Err.field-0 session (sym c.in-Err.is ∙ parse-decimal 32 session c.in-Ok.digits.now c.parse.result good.1 small here c.parse.ensures.value.0))
