use Rattle.std.proofs.Common.{◌≡◌, ◌≤◌, ◌+◌, ◌-◌, ◌∷◌, ◌++◌, ◌<◌, true, length, take, drop, ap, subst, sym, ◌∙◌, arith}
use Rattle.std.proofs.lemmas.List.{length-drop, take_all}
use Rattle.hs_rel.specs.Groups.{runs_of, same_key}
use Rattle.hs_stages.specs.Parts.{are_ends, last_end, parts_from}
use Rattle.hs_stages.proofs.Parts.{ends_more, last_more, parts_next}
use Rattle.hs_stages.proofs.groups.group_ends.Goals as goal

pub loop-start-preserved : goal.loop-start-preserved
loop-start-preserved c =
    let sorted = c.args.sorted.now in
    let ends = c.loop-start.ends.items in
    let start = c.loop-start.start in
    let n = c.first_group-start.result in
    let same = same_key c.args.keys in
    let long = length-drop start sorted in
    let whole : take (length sorted - start) (drop start sorted) ≡ drop start sorted = take_all (length sorted - start) (drop start sorted) (omega (arith, long)) in
    let few : n ≤ length (drop start sorted) = subst (λ l. n ≤ length l) whole c.first_group-start.ensures.within in
    let some : 0 < length (drop start sorted) = omega (arith, long) in
    let first = subst (λ l. 0 < length l → runs_of same l ≡ take n l ∷ runs_of same (drop n l)) whole c.first_group-start.ensures.first in
    let within : start + n ≤ length sorted = omega (arith, long, few) in
    let pushed = c.in_ok-push.ensures.items in
    record {
      within = within;
      in_rows = subst (λ l. are_ends 0 l (length sorted) ≡ true) (sym pushed) (ends_more 0 ends (start + n) (length sorted) c.loop-start.invariant.in_rows (omega (arith, c.loop-start.invariant.last)) within);
      last = ap (last_end 0) pushed ∙ last_more 0 ends (start + n);
      parts = ap (λ l. parts_from 0 l sorted ++ runs_of same (drop (start + n) sorted)) pushed ∙ parts_next same sorted ends start n c.loop-start.invariant.last c.loop-start.invariant.parts (first some);
    }
