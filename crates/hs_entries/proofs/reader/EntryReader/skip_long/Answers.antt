use Rattle.std.proofs.Common.{◌≡◌, ◌∙◌, ◌+◌, ◌++◌, ℕ, [], List, length-append, ap, sym, arith}
use Rattle.hs_entries.specs.Window.{ahead_of, left_of, room_of}
use Rattle.hs_entries.specs.Left.{Continues}
use Rattle.hs_entries.specs.Asking.{NeedsMore}
use Rattle.hs_entries.proofs.Asking.{looked_needs, asks_once, asks_at_most_once, gathers_once, gathers_then_asked, gets_over, asked_err}
use Rattle.hs_entries.specs.Reader.{left_over, left_within, ahead, room}
use Rattle.hs_entries.proofs.LeftSteps.{long_start, long_cut, becomes_on, continues_beyond, fresh_ahead, fresh_room}
use Rattle.hs_entries.proofs.reader.EntryReader.skip_long.Goals as goal

-- the long entry or comment goes on
goes_on : (g : _) (c : goal.After-skip_from g) → g.S.Source.tells
    → Continues (left_over c.args.self.now (g.S.Source.unread c.args.source.now)) (left_within c.refill.new.self c.place-place.result (g.S.Source.unread c.refill.new.source))
goes_on g c told =
    let r = c.args.self.now in
    let used = c.use_to.new.self in
    let after = c.refill.new.self in
    let read = c.in_ok-refill.ensures in
    let fresh = c.use_to.ensures.fresh in
    let unread = g.S.Source.unread c.refill.new.source in
    let input : ahead after ++ unread ≡ left_of r.window ++ g.S.Source.unread c.args.source.now =
    (read.gets told).bytes fresh ∙ ap (λ (l : List ℕ). l ++ g.S.Source.unread c.args.source.now) c.use_to.ensures.ahead in
    let all = length-append (ahead after) unread in
    let grown = read.refills.more c.if-branch.true in
    let same = read.refills.fresh_room fresh in
    rw c.place-place.ensures (long_start (r.count + 1) (after.count + 1) r.window (g.S.Source.unread c.args.source.now) (ahead after ++ unread) (room after)
    r.sound c.requires.full input (omega arith) (let count = read.keeps.count in omega arith)
    (same ∙ fresh_room used fresh ∙ omega (arith, c.use_to.ensures.room)))

pub returns-then-branch-clause-becomes : goal.returns-then-branch-clause-becomes
returns-then-branch-clause-becomes g c = λ told. becomes_on _ _ _ c.skip_from.result (goes_on g c told) (c.skip_from.ensures.becomes told)

pub returns-then-branch-clause-beyond : goal.returns-then-branch-clause-beyond
returns-then-branch-clause-beyond g c = λ told err. continues_beyond _ _ (goes_on g c told) (c.skip_from.ensures.beyond told err)

pub returns-else-branch-clause-becomes : goal.returns-else-branch-clause-becomes
returns-else-branch-clause-becomes g c = λ told.
    let r = c.args.self.now in
    let used = c.use_to.new.self in
    let after = c.refill.new.self in
    let read = c.in_ok-refill.ensures in
    let fresh = c.use_to.ensures.fresh in
    let before = g.S.Source.unread c.args.source.now in
    let unread = g.S.Source.unread c.refill.new.source in
    let end : unread ≡ [] = (read.gets told).end c.if-branch.false in
    let left_over : ahead after ≡ [] = fresh_ahead after.window (read.refills.fresh fresh) ∙ read.refills.none c.if-branch.false in
    let nothing : before ≡ [] =
    ap (λ (l : List ℕ). l ++ before) (sym (c.use_to.ensures.ahead ∙ c.requires.looked)) ∙ sym ((read.gets told).bytes fresh) ∙ ap (λ (l : List ℕ). l ++ unread) left_over ∙ end in
    let ahead_is = ap ahead_of c.cut_item.ensures.window ∙ left_over in
    let room_is : room c.cut_item.new.self ≡ r.window.room =
    ap room_of c.cut_item.ensures.window ∙ read.refills.fresh_room fresh ∙ fresh_room used fresh ∙ omega (arith, c.use_to.ensures.room) in
    let count : after.count + 1 ≡ r.count + 1 = let same = read.keeps.count in omega arith in
    rw (c.cut_item.ensures.item, c.place-place.ensures, count, end ∙ sym nothing)
    (long_cut (r.count + 1) (c.cut_item.new.self.count + 1) r.window c.cut_item.new.self.window before c.is_too_long-is_too_long.result r.sound c.requires.looked
    (sym c.is_too_long-is_too_long.ensures) nothing ahead_is room_is)

pub returns-in_err-refill-clause-asked : goal.returns-in_err-refill-clause-asked
returns-in_err-refill-clause-asked g c =
    let r = c.args.self.now in
    let needs = looked_needs (r.count + 1) r.window r.sound c.requires.looked in
    asked_err g.S.Source.reads (left_over r) (left_over c.refill.new.self) c.refill.new.self.has_ended c.from_residual.result c.args.source.now c.refill.new.source _ c.from_residual.ensures.1
    (asks_at_most_once g.S.Source.reads (λ given. NeedsMore (left_over r given)) c.args.source.now c.refill.new.source needs c.in_err-refill.ensures.err)

pub returns-else-branch-clause-asked : goal.returns-else-branch-clause-asked
returns-else-branch-clause-asked g c =
    let r = c.args.self.now in
    let needs = looked_needs (r.count + 1) r.window r.sound c.requires.looked in
    let new = c.cut_item.new.self in
    gets_over g.S.Source.reads (left_over r) (left_over new) c.cut_item.result new.has_ended c.args.source.now c.refill.new.source c.cut_item.ensures.ended
    (asks_once g.S.Source.reads (λ given. NeedsMore (left_over r given)) new.has_ended c.args.source.now c.refill.new.source
    (left_of c.refill.new.self.window) needs c.in_ok-refill.ensures.one
    (λ _. c.cut_item.ensures.ended))

-- the same, whatever the source gives behind the bytes of the one read
goes_on_with : (g : _) (c : goal.After-skip_from g) (rest : List ℕ)
    → Continues (left_over c.args.self.now (left_of c.refill.new.self.window ++ rest)) (left_within c.refill.new.self c.place-place.result rest)
goes_on_with g c rest =
    let r = c.args.self.now in
    let used = c.use_to.new.self in
    let after = c.refill.new.self in
    let read = c.in_ok-refill.ensures in
    let fresh = c.use_to.ensures.fresh in
    let bytes = left_of after.window in
    let input : ahead after ++ rest ≡ left_of r.window ++ (bytes ++ rest) =
    ap (λ (l : List ℕ). l ++ rest) (fresh_ahead after.window (read.refills.fresh fresh)) ∙ ap (λ (l : List ℕ). l ++ (bytes ++ rest)) (sym c.requires.looked) in
    let all = length-append (ahead after) rest in
    let grown = read.refills.more c.if-branch.true in
    let same = read.refills.fresh_room fresh in
    rw c.place-place.ensures (long_start (r.count + 1) (after.count + 1) r.window (bytes ++ rest) (ahead after ++ rest) (room after)
    r.sound c.requires.full input (omega arith) (let count = read.keeps.count in omega arith)
    (same ∙ fresh_room used fresh ∙ omega (arith, c.use_to.ensures.room)))

pub returns-then-branch-clause-asked : goal.returns-then-branch-clause-asked
returns-then-branch-clause-asked g c =
    let r = c.args.self.now in
    let after = c.refill.new.self in
    let needs = looked_needs (r.count + 1) r.window r.sound c.requires.looked in
    gathers_then_asked g.S.Source.reads (left_over r) (left_within after c.place-place.result) (left_over c.skip_from.new.self) c.skip_from.new.self.has_ended c.skip_from.result c.args.source.now
    c.refill.new.source c.skip_from.new.source
    (gathers_once g.S.Source.reads (left_over r) (left_within after c.place-place.result) c.args.source.now c.refill.new.source (left_of after.window) needs
    c.in_ok-refill.ensures.one (c.in_ok-refill.ensures.refills.some c.if-branch.true) (λ rest. goes_on_with g c rest))
    c.skip_from.ensures.asked
