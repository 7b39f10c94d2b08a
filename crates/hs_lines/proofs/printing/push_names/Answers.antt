use Rattle.std.proofs.Common.{ℕ, ◌+◌, Bool, cond, List, [], ◌++◌, ap, sym, ◌∙◌, append_assoc}
use Rattle.std.specs.Prelude.{not, ◌&&◌}
use Rattle.hs_claims.specs.Blockers.{has}
use Rattle.hs_turns.specs.Lines.{listed}
use Rattle.hs_lines.specs.Names.{name_in}
use Rattle.hs_lines.specs.Told.{behind}
use Rattle.hs_lines.proofs.Listing.{among, listed_step, none_step}
use Rattle.hs_lines.proofs.printing.push_names.Goals as goal

pub loop-s-preserved : goal.loop-s-preserved
loop-s-preserved c =
    let f = name_in c.args.names.now in
    let p = has c.args.sessions in
    let s = c.loop-s.s in
    let out = c.args.out.now.items in
    record {
      text =
          c.in_ok-is_first.ensures.more
          ∙ ap (λ (l : List ℕ). l ++ cond (p (s + 1)) (behind c.loop-s.is_first ++ f (s + 1)) []) c.loop-s.invariant.text
          ∙ append_assoc out (listed (among f p s)) (cond (p (s + 1)) (behind c.loop-s.is_first ++ f (s + 1)) [])
          ∙ ap (λ (l : List ℕ). out ++ l) (ap (λ (b : Bool). listed (among f p s) ++ cond (p (s + 1)) (behind b ++ f (s + 1)) []) c.loop-s.invariant.first ∙ sym (listed_step f p s));
      first = c.in_ok-is_first.ensures.first ∙ ap (λ (b : Bool). b && not (p (s + 1))) c.loop-s.invariant.first ∙ sym (none_step f p s);
    }
