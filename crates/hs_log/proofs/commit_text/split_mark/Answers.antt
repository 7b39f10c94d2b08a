use Rattle.std.proofs.Common.{◌≡◌, ℕ, List, ◌++◌, None, Some, rules, codes, sym, ap, ◌∙◌, arith}
use Rattle.std.specs.Fmt.{decimal}
use Rattle.std.proofs.lemmas.Bool.Decides.{Decides-eqb}
use Rattle.std.proofs.lemmas.Option.{same_Some}
use Rattle.std.proofs.lemmas.Slice.Eq.{strip_prefix_is}
use Rattle.hs_log.proofs.CommitTexts.{mark_behind, mark_found, on_none}
use Rattle.hs_log.proofs.commit_text.split_mark.Goals as goal

pub returns-in_err-rest-2 : goal.returns-in_err-rest-2
returns-in_err-rest-2 c =
    let none : c.from_residual-in_err-rest-2.result ≡ None = search rules in
    on_none _ c.from_residual-in_err-rest-2.result none (λ session rest good is.
    let same : c.in_ok-session.session ≡ session = same_Some _ _ (sym c.in_ok-session.was ∙ c.session_in.ensures session rest good is) in
    let front : c.args.text.now ≡ codes "/*C" ++ c.in_ok-rest.rest.now = strip_prefix_is Decides-eqb c.args.text.now (codes "/*C") (Some c.in_ok-rest.rest) c.in_ok-rest.ensures.cases in
    let behind = mark_behind c.args.text.now c.in_ok-rest.rest.now session rest front is in
    let digits : c.as_bytes.result.now ≡ decimal session = c.as_bytes.ensures.value ∙ c.format.ensures.text ∙ ap decimal same in
    strip_prefix_is Decides-eqb c.in_ok-rest.rest.now c.as_bytes.result.now None c.in_err-rest-2.ensures.cases (codes "*/\n" ++ rest)
    (behind ∙ ap (λ (l : List ℕ). l ++ (codes "*/\n" ++ rest)) (sym digits)))

pub returns : goal.returns
returns c =
    let front : c.args.text.now ≡ codes "/*C" ++ c.in_ok-rest.rest.now = strip_prefix_is Decides-eqb c.args.text.now (codes "/*C") (Some c.in_ok-rest.rest) c.in_ok-rest.ensures.cases in
    let next : c.in_ok-rest.rest.now ≡ c.as_bytes.result.now ++ c.in_ok-rest-2.rest.now = strip_prefix_is Decides-eqb c.in_ok-rest.rest.now c.as_bytes.result.now (Some c.in_ok-rest-2.rest) c.in_ok-rest-2.ensures.cases in
    let last : c.in_ok-rest-2.rest.now ≡ codes "*/\n" ++ c.in_ok-rest-3.rest.now = strip_prefix_is Decides-eqb c.in_ok-rest-2.rest.now (codes "*/\n") (Some c.in_ok-rest-3.rest) c.in_ok-rest-3.ensures.cases in
    let digits : c.as_bytes.result.now ≡ decimal c.in_ok-session.session = c.as_bytes.ensures.value ∙ c.format.ensures.text in
    ((omega arith, omega arith), mark_found c.args.text.now c.in_ok-rest.rest.now c.as_bytes.result.now c.in_ok-rest-2.rest.now c.in_ok-rest-3.rest.now c.in_ok-session.session front digits next last)
