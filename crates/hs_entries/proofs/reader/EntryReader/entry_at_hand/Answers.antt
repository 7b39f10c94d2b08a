use Rattle.std.proofs.Common.{◌≡◌, ◌∙◌, ◌+◌, ◌∷◌, ◌++◌, [], ℕ, List, ap, sym, subst, slice_index, arith}
use Rattle.hs_entries.specs.declared.item.Item.{Item}
use Rattle.hs_entries.specs.Entry.{item_of}
use Rattle.hs_entries.specs.Left.{IsNumbered}
use Rattle.hs_entries.specs.Window.{begun_of}
use Rattle.hs_entries.proofs.LeftSteps.{entry_step}
use Rattle.hs_entries.proofs.Sessions.{item_of-numbered}
use Rattle.hs_entries.proofs.reader.EntryReader.entry_at_hand.Goals as goal

pub returns-clause-takes : goal.returns-clause-takes
returns-clause-takes c = λ rest.
    let r = c.args.self.now in
    let n = r.count + 1 in
    let w = r.window in
    let byte = slice_index w.buffer.items w.at in
    let item : c.in_ok-item.item ≡ item_of n (begun_of w ++ byte ∷ []) = c.in_ok-item.ensures ∙ ap (λ (l : List ℕ). item_of n l) c.entry.ensures in
    entry_step n w c.use_to.new.self c.in_ok-item.item rest r.sound c.requires.found item c.use_to.ensures.ahead c.use_to.ensures.fresh c.use_to.ensures.room

pub returns-clause-number : goal.returns-clause-number
returns-clause-number c =
    rw c.in_ok-item.ensures (item_of-numbered (c.args.self.now.count + 1) _)

pub returns-clause-some : goal.returns-clause-some
returns-clause-some c = λ is.
    let n = c.args.self.now.count + 1 in
    let P : Item → Type 0 = λ i. IsNumbered i n (n + 1) in
    let no : n + 1 ≡ n = subst P (sym c.in_ok-item.ensures ∙ is) (item_of-numbered n _) in absurd (omega (arith, no))
