use Rattle.std.proofs.Common.{sym, inl, inr}
use Rattle.std.specs.Str.{chars}
use Rattle.hs_scalar.specs.Like.{items_of, matches}
use Rattle.hs_scalar.proofs.LikeLemmas.{whole_fails}
use Rattle.hs_scalar.proofs.matching.like.Goals as goal

pub returns-in-Fails : goal.returns-in-Fails
returns-in-Fails c = elim c.in-Fails.is [
  | inl is ↦ sym (rw is at c.try_start.ensures)
  | inr is ↦ sym (whole_fails (matches (items_of c.args.escape (chars c.args.pattern.now))) (chars c.args.text.now) (rw is at c.try_start.ensures))
]
