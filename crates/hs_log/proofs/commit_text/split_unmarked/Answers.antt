use Rattle.std.proofs.Common.{◌≡◌, ℕ, Option, None, Some, true, rules, sym, ap, ◌∙◌, arith}
use Rattle.std.proofs.lemmas.Option.{none-some, same_Some}
use Rattle.hs_log.specs.CommitText.{is_of}
use Rattle.hs_log.proofs.CommitTexts.{unmarked_is, without_mark, of_itself, split_found, split_none, none_split}
use Rattle.hs_log.proofs.commit_text.split_unmarked.Goals as goal

pub returns-in_err-session : goal.returns-in_err-session
returns-in_err-session c =
    let none : c.from_residual.result ≡ None = search rules in
    let unknown : c.args.before ≡ None = search rules in
    none_split c.args.before c.args.text.now c.from_residual.result none
    (λ session lines h. none-some session (sym unknown ∙ (unmarked_is c.args.before c.args.text.now session lines h c.requires).0))

pub returns-then-session-eq0 : goal.returns-then-session-eq0
returns-then-session-eq0 c =
    let known : c.args.before ≡ Some c.in_ok-session.session = search rules in
    sym (split_none c.args.before c.args.text.now (λ session lines h.
    let same : c.in_ok-session.session ≡ session = same_Some _ _ (sym known ∙ (unmarked_is c.args.before c.args.text.now session lines h c.requires).0) in
    omega (arith, same, h.session_is.0)))

pub returns-in_err-lines : goal.returns-in_err-lines
returns-in_err-lines c =
    let none : c.from_residual-in_err-lines.result ≡ None = search rules in
    none_split c.args.before c.args.text.now c.from_residual-in_err-lines.result none
    (λ session lines h. c.in_err-lines.ensures lines h.lines_are (unmarked_is c.args.before c.args.text.now session lines h c.requires).1)

pub returns : goal.returns
returns c =
    let known : c.args.before ≡ Some c.in_ok-session.session = search rules in
    let same : is_of c.args.before c.in_ok-session.session ≡ true = ap (λ (b : Option ℕ). is_of b c.in_ok-session.session) known ∙ of_itself c.in_ok-session.session in
    sym (split_found c.args.before c.args.text.now c.in_ok-session.session c.in_ok-lines.lines.now (record {
      session_is = (omega arith, omega arith);
      lines_are = c.in_ok-lines.ensures.0;
      is = c.in_ok-lines.ensures.1 ∙ sym (without_mark c.args.before c.in_ok-session.session c.in_ok-lines.lines.now same);
    }))
