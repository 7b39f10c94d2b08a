use Rattle.std.proofs.Common.{◌==◌, ◌&&◌, ◌||◌, not, cond, Some, rules, ap, ◌∙◌}
use Rattle.std.proofs.lemmas.Result.{on_ok_weaker}
use Rattle.std.specs.BTreeMap.{get}
use Rattle.std.specs.Ordering.{is_eq}
use Rattle.hs_claims.specs.Compatible.{same_key}
use Rattle.hs_claimtable.specs.Marks.{is_marked}
use Rattle.hs_claimtable.specs.Places.{owner_cmp, marks_in, key_marks}
use Rattle.hs_claimtable.proofs.Resources.{keys_marked, no_keys, or_none}
use Rattle.hs_claimtable.proofs.places.mark_key.Goals as goal

pub returns-in-Some : goal.returns-in-Some
returns-in-Some c =
    let up = (c.get_mut.follows.holds c.mark.new.places).3 (search rules) in
    on_ok_weaker c.mark.result
    (λ marked. keys_marked c.args.keys.now (c.get_mut.follows.lender c.mark.new.places) c.args.place c.mark.new.places up.0 c.args.session.0 c.args.values (λ only. not only || c.args.exclusive)
    (λ only v s h. marked only v s h ∙ ap (λ k. (same_key c.args.values v && (not only || c.args.exclusive) && (s == c.args.session.0)) || is_marked only (marks_in k v) s) c.in-Some.ensures.value))
    c.mark.ensures

pub returns : goal.returns
returns c =
    let old = c.args.keys.now in
    let first = c.in_ok-first.first in
    keys_marked old c.insert.new.self c.args.place first
    (λ q. c.in_ok-insert.ensures.updates.0 q ∙ ap (λ (m : _). cond (is_eq (owner_cmp c.args.place q)) (Some first) (get owner_cmp m q)) c.get_mut.follows.holds-at-none)
    c.args.session.0 c.args.values (λ only. not only || c.args.exclusive)
    (λ only v s h. c.in_ok-first.ensures only v s h ∙ or_none (same_key c.args.values v && (not only || c.args.exclusive) && (s == c.args.session.0)) (is_marked only (key_marks old c.args.place v) s) (no_keys old c.args.place c.in_default.ensures.value only v s))
