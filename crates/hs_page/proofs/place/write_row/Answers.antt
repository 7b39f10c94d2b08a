-- Each write leaves the numbers that it doesn't meet, and none meets the rows.
use Rattle.std.proofs.Common.{◌≡◌, ◌≢◌, ℕ, ◌+◌, ◌-◌, ◌*◌, ◌<◌, ◌≤◌, max, List, ◌++◌, length, get_or, slice_range, ◌∙◌, sym, ap, arith, inl, inr, length-append}
use Rattle.hs_page.specs.Pages.{number_at, low, slot_count}
use Rattle.hs_page.proofs.KeptNumbers.{same_number, kept_number}
use Rattle.hs_page.proofs.Ranges.{same_range}
use Rattle.hs_page.proofs.place.write_row.Goals as goal

pub returns : goal.returns
returns c =
    let len = length c.args.head.now + length c.args.rest.now in
    let slot = c.args.slot in
    let new = c.set_number-4.new.bytes in
    let long : length (c.args.head.now ++ c.args.rest.now) ≡ len = length-append c.args.head.now c.args.rest.now in
    let at : c.number.result - len + len ≡ low c.args.bytes.now = omega (arith, c.number.ensures.value, c.requires.gap) in
    let low_is : low new ≡ c.number.result - len =
    kept_number _ _ 0 c.set_number-4.ensures.others 2 (omega arith) (omega arith) (omega arith) ∙ c.set_number-3.ensures.number
    in
    let after_two : (q : ℕ) → 4 ≤ q → number_at new q ≡ number_at c.set_number-2.new.bytes q =
    λ q h. kept_number _ _ 0 c.set_number-4.ensures.others q (omega arith) (omega arith) (omega arith)
    ∙ kept_number _ _ 2 c.set_number-3.ensures.others q (omega arith) (omega arith) (omega arith)
    in
    let behind : (k : ℕ) → 8 + 4 * slot ≤ k → get_or new k 0 ≡ get_or c.set_row.new.bytes k 0 =
    λ k h. c.set_number-4.ensures.others k (omega arith) (omega arith) ∙ c.set_number-3.ensures.others k (omega arith) (omega arith)
    ∙ c.set_number-2.ensures.others k (omega arith) (omega arith) ∙ c.set_number.ensures.others k (omega arith) (omega arith)
    in
    let count_is : slot_count new ≡ c.max.result = c.set_number-4.ensures.number in
    let count_was : c.number-count.result ≡ slot_count c.args.bytes.now = c.number-count.ensures.value in
    let written : slice_range c.set_row.new.bytes (c.number.result - len) (c.number.result - len + length c.args.head.now + length c.args.rest.now) ≡ c.args.head.now ++ c.args.rest.now =
    c.set_row.ensures.row
    in
    let room : 8 + 4 * slot ≤ c.number.result - len = omega (arith, c.requires.gap, at) in
    let kept_row : slice_range new (c.number.result - len) (c.number.result - len + length c.args.head.now + length c.args.rest.now) ≡ c.args.head.now ++ c.args.rest.now =
    same_range _ _ _ _ (omega arith) (omega arith) (λ k from _. behind k (omega arith)) ∙ written
    in
    let where_is : c.number.result - len + length c.args.head.now + length c.args.rest.now ≡ low new + length (c.args.head.now ++ c.args.rest.now) = omega (arith, low_is, long) in
    record {
      count = count_is ∙ c.max.ensures ∙ ap (λ (n : ℕ). max n (slot + 1)) count_was;
      in_front = omega (arith, low_is, long, at);
      offset = after_two (4 + 4 * slot) (omega arith) ∙ kept_number _ _ (6 + 4 * slot) c.set_number-2.ensures.others (4 + 4 * slot) (omega arith) (omega arith) (omega arith) ∙ c.set_number.ensures.number ∙ sym low_is;
      len = after_two (6 + 4 * slot) (omega arith) ∙ c.set_number-2.ensures.number ∙ sym long;
      bytes = ap (λ (a : ℕ). slice_range new a (low new + length (c.args.head.now ++ c.args.rest.now))) low_is ∙ sym (ap (λ (b : ℕ). slice_range new (c.number.result - len) b) where_is) ∙ kept_row;
      rows = λ k h. behind k (omega arith) ∙ c.set_row.ensures.others k (inr (omega (arith, at, h)));
      slots = λ i within other.
          let below : 8 + 4 * i ≤ c.number.result - len = omega (arith, c.requires.gap, at, within) in
          record {
            offset = after_two (4 + 4 * i) (omega arith)
                ∙ kept_number _ _ (6 + 4 * slot) c.set_number-2.ensures.others (4 + 4 * i) (omega arith) (omega arith) (omega arith)
                ∙ kept_number _ _ (4 + 4 * slot) c.set_number.ensures.others (4 + 4 * i) (omega arith) (omega arith) (omega arith)
                ∙ same_number _ _ (4 + 4 * i) (c.set_row.ensures.others (4 + 4 * i) (inl (omega arith))) (c.set_row.ensures.others (4 + 4 * i + 1) (inl (omega arith)));
            len = after_two (6 + 4 * i) (omega arith)
                ∙ kept_number _ _ (6 + 4 * slot) c.set_number-2.ensures.others (6 + 4 * i) (omega arith) (omega arith) (omega arith)
                ∙ kept_number _ _ (4 + 4 * slot) c.set_number.ensures.others (6 + 4 * i) (omega arith) (omega arith) (omega arith)
                ∙ same_number _ _ (6 + 4 * i) (c.set_row.ensures.others (6 + 4 * i) (inl (omega arith))) (c.set_row.ensures.others (6 + 4 * i + 1) (inl (omega arith)));
          };
    }
