use Rattle.std.proofs.Common.{◌∙◌, ◌+◌, ℕ, List, ◌||◌, nat_lt, length, take, ap}
use Rattle.hs_entries.specs.Items.{whole_items, has_item}
use Rattle.hs_entries.specs.Window.{ahead_of, room_of}
use Rattle.hs_entries.proofs.Looking.{look_tells}
use Rattle.hs_entries.proofs.reader.EntryReader.look.Goals as goal

pub returns-clause-at_hand : goal.returns-clause-at_hand
returns-clause-at_hand c =
    let n = c.args.self.now.count + 1 in
    let w = c.look.new.self in
    let old = c.args.self.now.window in
    look_tells w c.look.ensures.sound n c.look.result c.look.ensures.entry c.look.ensures.limit c.look.ensures.nothing
    ∙ ap (λ (l : List ℕ). nat_lt (room_of w) (length l) || has_item (whole_items n (take (room_of w) l))) c.look.ensures.ahead
    ∙ ap (λ (k : ℕ). nat_lt k (length (ahead_of old)) || has_item (whole_items n (take k (ahead_of old)))) c.look.ensures.room
