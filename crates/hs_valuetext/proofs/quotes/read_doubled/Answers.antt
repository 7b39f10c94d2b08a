use Rattle.std.proofs.Common.{◌≡◌, ◌∷◌, ◌++◌, List, ℕ, ap, ◌∙◌}
use Rattle.std.specs.Prelude.{string_bytes}
use Rattle.std.proofs.lemmas.Str.Pattern.{strip_prefix_char}
use Rattle.hs_valuetext.proofs.QuoteLemmas.{all_read, more_read, never_closed}
use Rattle.hs_valuetext.proofs.Splits.{split, uncut, not_begun, pushed_quote, begun_valid}
use Rattle.hs_valuetext.proofs.quotes.read_doubled.Goals as goal

pub returns-in-None : goal.returns-in-None
returns-in-None c =
    let cut = split c.args.quote c.loop-front.rest.now c.in-Some.front.now c.in-Some.behind.now c.requires c.loop-front.invariant.0 c.in-Some.ensures.cases in
    all_read c.args.quote c.args.text.now (string_bytes c.loop-front.content) c.loop-front.rest.now c.in-Some.front.now c.in-Some.behind.now (string_bytes c.push_str.new.self) c.loop-front.invariant.1 cut.parts cut.lacks
    (not_begun c.args.quote c.in-Some.behind.now c.requires c.in-None.ensures.cases)
    c.in_ok-push_str.ensures.bytes

pub loop-front-preserved : goal.loop-front-preserved
loop-front-preserved c =
    let cut = split c.args.quote c.loop-front.rest.now c.in-Some.front.now c.in-Some.behind.now c.requires c.loop-front.invariant.0 c.in-Some.ensures.cases in
    let second : c.in-Some.behind.now ≡ c.args.quote ∷ c.in-Some-strip_prefix.more.now = rw c.in-Some-strip_prefix.is at (strip_prefix_char c.args.quote c.in-Some.behind.now c.strip_prefix.result c.strip_prefix.ensures.cases c.requires) in (
      begun_valid c.args.quote c.in-Some.behind.now c.in-Some-strip_prefix.more.now c.requires cut.valid second,
      more_read c.args.quote c.args.text.now (string_bytes c.loop-front.content) c.loop-front.rest.now c.in-Some.front.now c.in-Some-strip_prefix.more.now (string_bytes c.push.new.self) c.loop-front.invariant.1
          (cut.parts ∙ ap (λ (xs : List ℕ). c.in-Some.front.now ++ c.args.quote ∷ xs) second)
          cut.lacks
          (pushed_quote c.args.quote (string_bytes c.loop-front.content ++ c.in-Some.front.now) (string_bytes c.push.new.self) (string_bytes c.push_str.new.self) c.requires c.in_ok-push-in-Some-strip_prefix.ensures.bytes c.in_ok-push_str.ensures.bytes),
    )

pub returns : goal.returns
returns c =
    never_closed c.args.quote c.args.text.now (string_bytes c.loop-front.content) c.loop-front.rest.now c.loop-front.invariant.1 (uncut c.args.quote c.loop-front.rest.now c.requires c.in_default.ensures.cases)
