use Rattle.std.proofs.Common.{rules, ◌≡◌, ◌+◌, ◌++◌, ℕ, List, [], None, ap, sym, arith, true}
use Rattle.hs_entries.specs.declared.reader.EntryReader.{EntryReader}
use Rattle.hs_entries.specs.declared.place.Place.TheVariants.{Between}
use Rattle.hs_entries.specs.Asking.{Gathers}
use Rattle.hs_entries.proofs.Asking.{gathers_on, gathers_then, gathers_gets, gathers_then_asks, gathers_then_gets, asked_some, match_err, asked_none}
use Rattle.hs_entries.proofs.LeftSteps.{continues_trans, continues_beyond, continues_same, limit_beyond}
use Rattle.hs_entries.specs.Reader.{ahead, room, left_over}
use Rattle.hs_entries.proofs.reader.EntryReader.read_item.Goals as goal

pub returns-in-Limit-clause-beyond : goal.returns-in-Limit-clause-beyond
returns-in-Limit-clause-beyond g c = λ told _.
    let here = c.items.self in
    let looked = c.look.new.self in
    let unread = g.S.Source.unread c.items.source in
    let (full, more) = c.look.ensures.limit c.in-Limit.is in
    let same = continues_same (here.count + 1) (looked.count + 1) _ _ (room here) (room looked) (ahead here ++ unread) (ahead looked ++ unread)
    (let count = c.look.ensures.count in omega arith) (sym c.look.ensures.room) (ap (λ l. l ++ unread) (sym c.look.ensures.ahead)) in
    continues_beyond _ _ (continues_trans _ _ _ (c.items.invariant.continues told) same)
    (limit_beyond (looked.count + 1) looked.window unread looked.sound full more)

-- a look leaves the same
looked_so_far : {T : Type 0} (reads : T → T → List ℕ → Type 0) (before here looked : EntryReader) (a b : T) → Gathers reads (left_over before) (left_over here) a b
    → looked.count ≡ here.count → ahead looked ≡ ahead here → room looked ≡ room here → Gathers reads (left_over before) (left_over looked) a b
looked_so_far reads before here looked a b so_far count_is ahead_is room_is =
    gathers_on reads (left_over before) (left_over here) (left_over looked) a b so_far
    (λ rest. continues_same (here.count + 1) (looked.count + 1) Between [] (room here) (room looked) (ahead here ++ rest) (ahead looked ++ rest)
    (omega arith) (sym room_is) (ap (λ (l : List ℕ). l ++ rest) (sym ahead_is)))

pub returns-in_err-item-clause-needed : goal.returns-in_err-item-clause-needed
returns-in_err-item-clause-needed g c =
    match_err c.from_residual-in_err-item.result _ _ _ c.from_residual-in_err-item.ensures.1 (gathers_then_asks g.S.Source.reads (left_over c.args.self.now) (left_over c.look.new.self) true c.args.source.now c.items.source c.read_on.new.source
    (looked_so_far g.S.Source.reads c.args.self.now c.items.self c.look.new.self c.args.source.now c.items.source c.items.invariant.gathers
    c.look.ensures.count c.look.ensures.ahead c.look.ensures.room) c.in_err-item.ensures.asked)

pub returns-in-Some-clause-needed : goal.returns-in-Some-clause-needed
returns-in-Some-clause-needed g c =
    gathers_then_gets g.S.Source.reads (left_over c.args.self.now) (left_over c.look.new.self) (left_over c.read_on.new.self) c.in-Some.item c.read_on.new.self.has_ended c.args.source.now c.items.source c.read_on.new.source
    (looked_so_far g.S.Source.reads c.args.self.now c.items.self c.look.new.self c.args.source.now c.items.source c.items.invariant.gathers
    c.look.ensures.count c.look.ensures.ahead c.look.ensures.room)
    (asked_some g.S.Source.reads (left_over c.look.new.self) (left_over c.read_on.new.self) c.read_on.new.self.has_ended c.in_ok-item.field-0 c.in-Some.item c.items.source c.read_on.new.source c.in-Some.is c.in_ok-item.ensures.asked)

pub items-preserved : goal.items-preserved
items-preserved g c =
    let none : c.in_ok-item.field-0 ≡ None = search rules in
    record {
      continues = search rules;
      number = search rules;
      shrinks = search rules;
      kept = search rules;
      goes_on = search rules;
      ready = search rules;
      gathers = gathers_then g.S.Source.reads (left_over c.args.self.now) (left_over c.look.new.self) (left_over c.read_on.new.self) c.args.source.now c.items.source c.read_on.new.source
          (looked_so_far g.S.Source.reads c.args.self.now c.items.self c.look.new.self c.args.source.now c.items.source c.items.invariant.gathers
          c.look.ensures.count c.look.ensures.ahead c.look.ensures.room)
          (asked_none g.S.Source.reads (left_over c.look.new.self) (left_over c.read_on.new.self) c.read_on.new.self.has_ended c.in_ok-item.field-0 c.items.source c.read_on.new.source none c.in_ok-item.ensures.asked);
      uses = search rules;
      calm = search rules;
    }
