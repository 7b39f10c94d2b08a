use Rattle.std.proofs.Common.{Some, not, sym, ◌∙◌}
use Rattle.std.proofs.lemmas.Bool.{and_parts, not-true}
use Rattle.std.proofs.lemmas.Bool.Decides.{Decides-eqb}
use Rattle.std.proofs.lemmas.Slice.Eq.{strip_suffix_is}
use Rattle.hs_log.specs.CommitText.{ending, are_whole, begin_marked}
use Rattle.hs_log.proofs.commit_text.split_lines.Goals as goal

pub returns-then-are_lines : goal.returns-then-are_lines
returns-then-are_lines c =
    let parts = and_parts (are_whole c.in_ok-lines.lines.now) (not (begin_marked c.in_ok-lines.lines.now)) (sym c.are_lines.ensures ∙ c.if-are_lines.true) in (
      record { whole = parts.0; unmarked = not-true (begin_marked c.in_ok-lines.lines.now) parts.1 },
      strip_suffix_is Decides-eqb c.args.text.now ending (Some c.in_ok-lines.lines) c.in_ok-lines.ensures.cases,
    )
