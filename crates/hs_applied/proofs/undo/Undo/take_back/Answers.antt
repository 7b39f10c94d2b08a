use Rattle.std.proofs.Common.{◌≡◌, ◌-◌, ◌==◌, false, List, length, map, take, sym, ap, ◌∙◌, arith}
use Rattle.hs_changes.specs.Settings.{Maps}
use Rattle.hs_draft.specs.Drafted.{after}
use Rattle.hs_applied.specs.declared.undo.OldRow.{OldRow}
use Rattle.hs_applied.specs.Undone.{setting_of, undone}
use Rattle.hs_applied.proofs.Undoing.{last_back}
use Rattle.hs_applied.proofs.undo.Undo.take_back.Goals as goal

pub loop-self-preserved : goal.loop-self-preserved
loop-self-preserved c =
    let olds = c.loop-self.self.olds.items in
    let n = c.len-last.result - 1 in
    let held : c.loop-self.self.olds.len ≡ length olds = c.loop-self.self.olds.ok.0 in
    let some : c.is_empty.result ≡ false = grind (arith, c.loop-self-test.true) in
    record {
      before = c.in_ok-put_back.ensures.before ∙ c.loop-self.invariant.before;
      back =
          ap (λ (items : List OldRow). undone (after c.put_back.new.draft) (map setting_of items)) c.truncate.ensures.items
          ∙ ap (λ (maps : Maps). undone maps (map setting_of (take n olds))) c.in_ok-put_back.ensures.set.after
          ∙ sym (last_back setting_of (after c.loop-self.draft) olds c.is_empty.result (c.is_empty.ensures ∙ ap (λ k. k == 0) held) some c.len-last.result (c.len-last.ensures ∙ held) c.index.result.now c.index.ensures)
          ∙ c.loop-self.invariant.back;
    }
