use Rattle.std.proofs.Common.{◌≡◌, ℕ, ◌==◌, ◌&&◌, not, Bool, List, rules, sym, ap, subst, ◌∙◌}
use Rattle.std.specs.Ordering.{is_eq}
use Rattle.hs_claims.specs.Compatible.{same_key}
use Rattle.hs_claims.specs.Session.{IsSession}
use Rattle.hs_values.specs.declared.value.Value.{Value}
use Rattle.hs_claimtable.specs.declared.places.KeyOwner.{KeyOwner}
use Rattle.hs_claimtable.specs.Marks.{is_marked}
use Rattle.hs_claimtable.specs.Places.{owner_cmp, marks_in, key_marks}
use Rattle.hs_claimtable.proofs.Resources.{keys_unmarked, no_keys_lost}
use Rattle.hs_claimtable.proofs.places.unmark_key.Goals as goal

pub returns-in-Some : goal.returns-in-Some
returns-in-Some c =
    let up = (c.get_mut.follows.holds c.unmark.new.places).3 (search rules) in
    keys_unmarked c.args.keys.now (c.get_mut.follows.lender c.unmark.new.places) c.args.place c.unmark.new.places up.0 c.args.session.0 c.args.values.now
    (λ only v s h. c.unmark.ensures only v s h ∙ ap (λ k. not (same_key c.args.values.now v && (s == c.args.session.0)) && is_marked only (marks_in k v) s) c.in-Some.ensures.value)

pub returns-in_default : goal.returns-in_default
returns-in_default c =
    subst (λ (new : _). (only : Bool) (o : KeyOwner) (v : List Value) (s : ℕ) → IsSession s → is_marked only (key_marks new o v) s ≡ (not (is_eq (owner_cmp c.args.place o) && same_key c.args.values.now v && (s == c.args.session.0)) && is_marked only (key_marks c.args.keys.now o v) s))
    (sym c.get_mut.follows.holds-at-none)
    (λ only o v s h. no_keys_lost c.args.keys.now c.args.place c.args.session.0 c.args.values.now (sym c.in_default.ensures.value) only o v s)
