use Rattle.std.proofs.Common.{rules, ◌≡◌, ◌∙◌, ◌+◌, ◌++◌, true, ℕ, [], List, length, ap, sym, subst, arith}
use Rattle.hs_entries.specs.declared.item.Item.TheVariants.{TooLong}
use Rattle.hs_entries.specs.Window.{ahead_of, left_of, room_of}
use Rattle.hs_entries.specs.Left.{long, IsNumbered}
use Rattle.hs_entries.specs.Reader.{ahead, room, cut_at, left_over, left_within}
use Rattle.hs_entries.specs.Asking.{NeedsMore}
use Rattle.hs_entries.proofs.Asking.{empty_needs, asks_once, asks_at_most_once, gathers_on, gathers_once, gathers_gets, gathers_then, gathers_then_asks, gets_over, asked_err}
use Rattle.hs_entries.proofs.LeftSteps.{left_at, continues_trans, continues_takes, continues_same, cut_step, takes_at, fresh_ahead, long_too_long}
use Rattle.hs_entries.proofs.reader.EntryReader.skip_from.Goals as goal

pub returns-in-Limit-clause-past : goal.returns-in-Limit-clause-past
returns-in-Limit-clause-past g c = λ _. (c.in-Limit.ensures.skims []).1

pub refill-requires-clause-looked : goal.refill-requires-clause-looked
refill-requires-clause-looked g c =
    sym (fresh_ahead c.skim.new.self.window c.in-Nothing.ensures.fresh) ∙ (c.in-Nothing.ensures.skims []).1

pub returns-then-not-branch-clause-becomes : goal.returns-then-not-branch-clause-becomes
returns-then-not-branch-clause-becomes g c = λ told.
    let from = c.args.self.now in
    let here = c.skims.self in
    let skimmed = c.skim.new.self in
    let after = c.refill.new.self in
    let rest = g.S.Source.unread c.skims.source in
    let unread = g.S.Source.unread c.refill.new.source in
    let on = c.in-Nothing.ensures.skims rest in
    let read = c.in_ok-refill.ensures in
    let fresh = c.in-Nothing.ensures.fresh in
    let place = c.in-Nothing.next in
    let n = after.count + 1 in
    let left_over : ahead after ≡ [] = fresh_ahead after.window (read.refills.fresh fresh) ∙ read.refills.none c.if-not-branch.true in
    let input : ahead after ++ unread ≡ [] = rw left_over ((read.gets told).end c.if-not-branch.true) in
    let same = continues_same (skimmed.count + 1) n place long (room skimmed) (room after) (ahead skimmed ++ rest) (ahead after ++ unread)
    (let count = read.keeps.count in omega arith) (sym (read.refills.fresh_room fresh)) (sym ((read.gets told).bytes fresh)) in
    continues_takes _ (left_at n place long (room after) (ahead after ++ unread)) _ c.cut_item.result
    (continues_trans _ _ _ (continues_trans _ _ _ (c.skims.invariant.continues told) on.0) same)
    (takes_at n (c.cut_item.new.self.count + 1) place long (ahead after ++ unread) [] (ahead c.cut_item.new.self ++ unread) [] (room after) (room c.cut_item.new.self) (room after)
    c.cut_item.result (cut_at place true n) input
    (ap (λ (l : List ℕ). l ++ unread) (ap ahead_of c.cut_item.ensures.window) ∙ input) (ap room_of c.cut_item.ensures.window) c.cut_item.ensures.item
    (cut_step n (c.cut_item.new.self.count + 1) place long (room after) true long_too_long))

pub returns-in_err-refill-clause-asked : goal.returns-in_err-refill-clause-asked
returns-in_err-refill-clause-asked g c =
    let old = left_within c.args.self.now c.args.from in
    let skimmed = c.skim.new.self in
    let mid = left_within skimmed c.in-Nothing.next in
    let needs = empty_needs (skimmed.count + 1) c.in-Nothing.next long (room skimmed) (ahead skimmed) (c.in-Nothing.ensures.skims []).1 in
    asked_err g.S.Source.reads old (left_over c.refill.new.self) c.refill.new.self.has_ended c.from_residual.result c.args.source.now c.refill.new.source _ c.from_residual.ensures.1
    (gathers_then_asks g.S.Source.reads old mid true c.args.source.now c.skims.source c.refill.new.source (gathers_on g.S.Source.reads old (left_within c.skims.self c.skims.place) mid c.args.source.now c.skims.source
    c.skims.invariant.gathers (λ rest. (c.in-Nothing.ensures.skims rest).0))
    (asks_at_most_once g.S.Source.reads (λ given. NeedsMore (mid given)) c.skims.source c.refill.new.source needs c.in_err-refill.ensures.err))

pub returns-then-not-branch-clause-asked : goal.returns-then-not-branch-clause-asked
returns-then-not-branch-clause-asked g c =
    let old = left_within c.args.self.now c.args.from in
    let skimmed = c.skim.new.self in
    let mid = left_within skimmed c.in-Nothing.next in
    let needs = empty_needs (skimmed.count + 1) c.in-Nothing.next long (room skimmed) (ahead skimmed) (c.in-Nothing.ensures.skims []).1 in
    let new = c.cut_item.new.self in
    gets_over g.S.Source.reads old (left_over new) c.cut_item.result new.has_ended c.args.source.now c.refill.new.source c.cut_item.ensures.ended
    (gathers_then_asks g.S.Source.reads old mid new.has_ended c.args.source.now c.skims.source c.refill.new.source (gathers_on g.S.Source.reads old (left_within c.skims.self c.skims.place) mid c.args.source.now c.skims.source
    c.skims.invariant.gathers (λ rest. (c.in-Nothing.ensures.skims rest).0))
    (asks_once g.S.Source.reads (λ given. NeedsMore (mid given)) new.has_ended c.skims.source c.refill.new.source (left_of c.refill.new.self.window) needs c.in_ok-refill.ensures.one
    (λ _. c.cut_item.ensures.ended)))

pub returns-in-Entry-clause-asked : goal.returns-in-Entry-clause-asked
returns-in-Entry-clause-asked g c =
    let here = c.skims.self in
    let new = c.long_item.new.self in
    let count = c.in-Entry.ensures.count in
    gathers_gets g.S.Source.reads (left_within c.args.self.now c.args.from) (left_within here c.skims.place) (left_over new) c.long_item.result new.has_ended c.args.source.now c.skims.source c.skims.invariant.gathers
    (λ rest.
    let item : c.long_item.result ≡ TooLong (here.count + 1) = c.long_item.ensures.item ∙ ap (λ (k : ℕ). TooLong (k + 1)) count in
    let number : new.count + 1 ≡ here.count + 1 + 1 = omega (arith, c.long_item.ensures.number, count) in
    rw (item, number, c.long_item.ensures.window) (c.in-Entry.ensures.skims rest))

pub skims-preserved : goal.skims-preserved
skims-preserved g c =
    let from = c.args.self.now in
    let here = c.skims.self in
    let skimmed = c.skim.new.self in
    let after = c.refill.new.self in
    let rest = g.S.Source.unread c.skims.source in
    let unread = g.S.Source.unread c.refill.new.source in
    let read = c.in_ok-refill.ensures in
    let fresh = c.in-Nothing.ensures.fresh in
    let empty : length (ahead skimmed) ≡ 0 = ap (λ (l : List ℕ). length l) (c.in-Nothing.ensures.skims []).1 in
    let same = read.refills.fresh_room fresh in
    let count = read.keeps.count in
    let grown = read.refills.more c.if-not-branch.false in
    record {
      continues = λ told.
          let on = c.in-Nothing.ensures.skims rest in
          continues_trans _ _ _ (continues_trans _ _ _ (c.skims.invariant.continues told) on.0)
          (continues_same (skimmed.count + 1) (after.count + 1) c.in-Nothing.next _ (room skimmed) (room after) (ahead skimmed ++ rest) (ahead after ++ unread) (omega arith) (sym same) (sym ((read.gets told).bytes fresh)));
      fresh = read.refills.fresh fresh;
      some = omega arith;
      number = omega (arith, c.in-Nothing.ensures.count, c.in-Nothing.ensures.shrinks);
      count = omega (arith, c.in-Nothing.ensures.count);
      shrinks = omega (arith, c.in-Nothing.ensures.shrinks);
      grows = omega (arith, c.in-Nothing.ensures.uses);
      kept = search rules;
      goes_on = read.keeps.ended ∙ c.in-Nothing.ensures.goes_on;
      gathers =
          let old = left_within c.args.self.now c.args.from in
          let mid = left_within skimmed c.in-Nothing.next in
          let bytes = left_of after.window in
          let none = (c.in-Nothing.ensures.skims []).1 in
          let needs = empty_needs (skimmed.count + 1) c.in-Nothing.next long (room skimmed) (ahead skimmed) none in
          gathers_then g.S.Source.reads old mid (left_within after c.in-Nothing.next) c.args.source.now c.skims.source c.refill.new.source (gathers_on g.S.Source.reads old (left_within c.skims.self c.skims.place) mid c.args.source.now c.skims.source
          c.skims.invariant.gathers (λ rest. (c.in-Nothing.ensures.skims rest).0))
          (gathers_once g.S.Source.reads mid (left_within after c.in-Nothing.next) c.skims.source c.refill.new.source bytes needs read.one (read.refills.some c.if-not-branch.false) (λ more.
          continues_same (skimmed.count + 1) (after.count + 1) c.in-Nothing.next long (room skimmed) (room after) (ahead skimmed ++ (bytes ++ more)) (ahead after ++ more)
          (omega arith) (sym same)
          (ap (λ (l : List ℕ). l ++ (bytes ++ more)) none ∙ ap (λ (l : List ℕ). l ++ more) (sym (fresh_ahead after.window (read.refills.fresh fresh))))));
      uses = search rules;
      calm = read.fails ∙ c.skims.invariant.calm;
    }

pub returns-then-not-branch-clause-passes : goal.returns-then-not-branch-clause-passes
returns-then-not-branch-clause-passes g c =
    let from = c.args.self.now in
    let after = c.refill.new.self in
    let new = c.cut_item.new.self in
    let read = c.in_ok-refill.ensures in
    let fresh = c.in-Nothing.ensures.fresh in
    let nothing : ahead after ≡ [] = fresh_ahead after.window (read.refills.fresh fresh) ∙ read.refills.none c.if-not-branch.true in
    let empty : length (ahead c.skim.new.self) ≡ 0 = ap (λ (l : List ℕ). length l) (c.in-Nothing.ensures.skims []).1 in
    let room_is : room new ≡ room after = ap room_of c.cut_item.ensures.window in
    let same = read.refills.fresh_room fresh in
    record {
      number = subst (λ (k : ℕ). IsNumbered c.cut_item.result (k + 1) (new.count + 1)) (read.keeps.count ∙ c.in-Nothing.ensures.count ∙ c.skims.invariant.count) c.cut_item.ensures.number;
      grows = omega (arith, c.in-Nothing.ensures.uses, c.skims.invariant.grows, room_is, same, empty);
      shrinks = omega (arith, c.in-Nothing.ensures.shrinks, c.skims.invariant.shrinks, room_is, same);
      ended = λ _. (c.cut_item.ensures.ended, ap ahead_of c.cut_item.ensures.window ∙ nothing);
    }

pub skims-smaller : goal.skims-smaller
skims-smaller g c =
    let empty : length (ahead c.skim.new.self) ≡ 0 = ap (λ (l : List ℕ). length l) (c.in-Nothing.ensures.skims []).1 in
    omega (arith, c.in-Nothing.ensures.uses, c.in_ok-refill.ensures.refills.fresh_room c.in-Nothing.ensures.fresh, empty, c.skims.invariant.some)
