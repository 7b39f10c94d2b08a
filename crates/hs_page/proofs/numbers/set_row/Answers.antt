-- The first part still stands there after the second is written.
use Rattle.std.proofs.Common.{◌≡◌, ℕ, ◌+◌, ◌<◌, ◌≤◌, List, ◌++◌, length, slice_range, ◌∙◌, ap, arith, inl, inr}
use Rattle.hs_page.proofs.Ranges.{same_range, joined_range}
use Rattle.hs_page.proofs.numbers.set_row.Goals as goal

pub returns-clause-row : goal.returns-clause-row
returns-clause-row c =
    let first : slice_range c.set_bytes-2.new.bytes c.args.at (c.args.at + length c.args.head.now) ≡ c.args.head.now =
    same_range _ _ _ _ (omega arith) (omega arith) (λ k _ below. c.set_bytes-2.ensures.others k (inl below)) ∙ c.set_bytes.ensures.part
    in
    joined_range c.set_bytes-2.new.bytes c.args.at (length c.args.head.now) (length c.args.rest.now)
    ∙ ap (λ (l : List ℕ). l ++ slice_range c.set_bytes-2.new.bytes (c.args.at + length c.args.head.now) (c.args.at + length c.args.head.now + length c.args.rest.now)) first
    ∙ ap (λ (l : List ℕ). c.args.head.now ++ l) c.set_bytes-2.ensures.part
