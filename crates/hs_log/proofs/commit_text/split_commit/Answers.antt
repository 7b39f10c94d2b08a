use Rattle.std.proofs.Common.{◌≡◌, ℕ, List, ◌++◌, None, true, false, rules, sym, ap, ◌∙◌}
use Rattle.hs_log.specs.CommitText.{begin_marked, ending, is_of, mark}
use Rattle.hs_log.proofs.CommitTexts.{mark_same, marked_is, with_mark, split_found, split_none, none_split}
use Rattle.hs_log.proofs.commit_text.split_commit.Goals as goal

pub returns-in_err-session : goal.returns-in_err-session
returns-in_err-session c =
    let none : c.from_residual.result ≡ None = search rules in
    let marked : begin_marked c.args.text.now ≡ true = search rules in
    none_split c.args.before c.args.text.now c.from_residual.result none
    (λ session lines h. c.in_err-session.ensures session (lines ++ ending) h.session_is (marked_is c.args.before c.args.text.now session lines h marked).1)

pub returns-then-is_of : goal.returns-then-is_of
returns-then-is_of c =
    let marked : begin_marked c.args.text.now ≡ true = search rules in
    let here : is_of c.args.before c.in_ok-session.session ≡ true = search rules in
    sym (split_none c.args.before c.args.text.now (λ session lines h.
    let m = marked_is c.args.before c.args.text.now session lines h marked in
    let same = mark_same c.in_ok-session.session session c.in_ok-session.rest.now (lines ++ ending) c.in_ok-session.ensures.0 h.session_is (sym c.in_ok-session.ensures.1 ∙ m.1) in
    let other : is_of c.args.before c.in_ok-session.session ≡ false = ap (is_of c.args.before) same.0 ∙ m.0 in
    cc))

pub returns-in_err-lines : goal.returns-in_err-lines
returns-in_err-lines c =
    let none : c.from_residual-in_err-lines.result ≡ None = search rules in
    let marked : begin_marked c.args.text.now ≡ true = search rules in
    none_split c.args.before c.args.text.now c.from_residual-in_err-lines.result none
    (λ session lines h.
    let m = marked_is c.args.before c.args.text.now session lines h marked in
    let same = mark_same c.in_ok-session.session session c.in_ok-session.rest.now (lines ++ ending) c.in_ok-session.ensures.0 h.session_is (sym c.in_ok-session.ensures.1 ∙ m.1) in
    c.in_err-lines.ensures lines h.lines_are same.1)

pub returns : goal.returns
returns c =
    let other : is_of c.args.before c.in_ok-session.session ≡ false = search rules in
    sym (split_found c.args.before c.args.text.now c.in_ok-session.session c.in_ok-lines.lines.now (record {
      session_is = c.in_ok-session.ensures.0;
      lines_are = c.in_ok-lines.ensures.0;
      is = c.in_ok-session.ensures.1 ∙ ap (λ (l : List ℕ). mark c.in_ok-session.session ++ l) c.in_ok-lines.ensures.1 ∙ sym (with_mark c.args.before c.in_ok-session.session c.in_ok-lines.lines.now other);
    }))
