use Rattle.std.proofs.Common.{◌≡◌, ◌++◌, List, [], if◌then◌else◌, sym, ap, subst, ◌∙◌}
use Rattle.std.proofs.lemmas.List.{append-nil}
use Rattle.std.proofs.lemmas.Result.{on_ok_weaker}
use Rattle.hs_plan.specs.declared.change.Change.{Change}
use Rattle.hs_seated.specs.Seated.{IsSeated}
use Rattle.hs_evaluated.proofs.Attempted.{front_of}
use Rattle.hs_evaluated.proofs.attempting.keep.Goals as goal

pub returns-then-is_kept : goal.returns-then-is_kept
returns-then-is_kept c = λ maps behind changes len is.
    subst (λ (l : List Change). IsSeated maps (behind ++ l) c.args.seated.now) (sym (ap (λ b. if b then changes else []) c.if-is_kept.true)) is

pub returns : goal.returns
returns c = λ maps behind changes len is.
    on_ok_weaker c.back.result
    (λ back. subst (λ (l : List Change). IsSeated maps l c.back.new.self)
    (front_of behind changes c.args.len len ∙ sym (append-nil behind) ∙ ap (λ (l : List Change). behind ++ l) (sym (ap (λ b. if b then changes else []) c.if-is_kept.false))) back)
    (c.back.ensures maps (behind ++ changes) is)
