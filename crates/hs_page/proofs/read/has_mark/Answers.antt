use Rattle.std.proofs.Common.{◌≡◌, ℕ, ◌+◌, ◌-◌, ◌<◌, ◌≤◌, Bool, true, false, List, length, get_or, slice_range, refl, sym, ◌∙◌, ap, arith}
use mathlib.Core.Bool.{beq}
use Rattle.std.proofs.lemmas.Bool.Decides.{when_true, when_false}
use Rattle.std.proofs.lemmas.List.Edits.{length-between, get_or-between}
use Rattle.hs_page.specs.Marks.{HasMark}
use Rattle.hs_page.proofs.read.has_mark.Goals as goal

beq_true : (b : Bool) → beq b true ≡ true → b ≡ true
beq_true true h = refl
beq_true false h = h

beq_false : (b : Bool) → beq b true ≡ false → b ≡ false
beq_false true h = h
beq_false false h = refl

pub returns-clause-yes : goal.returns-clause-yes
returns-clause-yes c = λ yes.
    let some = when_true _ _ yes c.contains.ensures.cases in
    let long : length (slice_range c.args.marks.now c.args.at c.args.end) ≡ c.args.end - c.args.at = length-between c.args.marks.now c.args.at c.args.end c.requires.end in
    let below : c.args.at + some.0 < c.args.end = omega (arith, long, some.1) in
    record {
      place = c.args.at + some.0;
      from = omega arith;
      below = below;
      is = sym (get_or-between c.args.marks.now c.args.at c.args.end some.0 false below) ∙ beq_true _ (some.2 false);
    }

pub returns-clause-no : goal.returns-clause-no
returns-clause-no c = λ no p from below.
    let long : length (slice_range c.args.marks.now c.args.at c.args.end) ≡ c.args.end - c.args.at = length-between c.args.marks.now c.args.at c.args.end c.requires.end in
    let there : c.args.at + (p - c.args.at) ≡ p = omega arith in
    ap (λ (k : ℕ). get_or c.args.marks.now k false) (sym there) ∙ sym (get_or-between c.args.marks.now c.args.at c.args.end (p - c.args.at) false (omega (arith, there, below)))
    ∙ beq_false _ (when_false _ _ no c.contains.ensures.cases (p - c.args.at) false (omega arith) (omega (arith, long, there, below)))
