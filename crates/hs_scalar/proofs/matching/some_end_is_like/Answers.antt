use Rattle.std.proofs.Common.{rules, sym, ◌∙◌, ◌≡◌, []}
use Rattle.std.specs.Str.{chars}
use Rattle.hs_scalar.specs.Like.{items_of, matches}
use Rattle.hs_scalar.proofs.CharLemmas.{chars_of_none}
use Rattle.hs_scalar.proofs.LikeLemmas.{some_end_from_whole, some_end_of_no_items}
use Rattle.hs_scalar.proofs.matching.some_end_is_like.Goals as goal

pub returns-in-Whole : goal.returns-in-Whole
returns-in-Whole c =
    sym (some_end_from_whole (matches (items_of c.args.escape (chars c.loop-start.items.now))) (chars c.from_first_fit-start.result.now) c.in-Whole.ensures)
    ∙ c.from_first_fit-start.ensures.ends ∙ c.loop-start.invariant.2

pub returns : goal.returns
returns c =
    let none : chars c.loop-start.items.now ≡ [] = chars_of_none c.loop-start.items.now (search rules) in
    sym (some_end_of_no_items c.args.escape (chars c.loop-start.items.now) (chars c.loop-start.start.now) none) ∙ c.loop-start.invariant.2
