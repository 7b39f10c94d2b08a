use Rattle.std.proofs.Common.{◌==◌, ◌&&◌, ◌||◌, not, ap, ◌∙◌}
use Rattle.std.specs.Map.{lookup}
use Rattle.std.specs.Option.{unwrap_or}
use Rattle.std.specs.Ordering.{is_eq}
use Rattle.hs_claims.specs.Compatible.{same_key}
use Rattle.hs_values.specs.Order.{row_order_of}
use Rattle.hs_claimtable.specs.Marks.{no_marks, is_marked, marks_at}
use Rattle.hs_claimtable.proofs.Kept.{nobody}
use Rattle.hs_claimtable.proofs.Resources.{none_or}
use Rattle.hs_claimtable.proofs.places.first_key.Goals as goal

pub returns : goal.returns
returns c = λ only v s h. c.in_ok-mark.ensures only v s h
    ∙ none_or (same_key c.args.values v && (not only || c.args.exclusive) && (s == c.args.session.0)) (is_marked only (marks_at row_order_of c.new-keys.result v) s)
    (ap (λ es. is_marked only (unwrap_or (lookup (λ k. is_eq (row_order_of v k)) es) no_marks) s) c.new-keys.ensures.empty ∙ nobody only s)
