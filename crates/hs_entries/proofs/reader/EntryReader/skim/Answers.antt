use Rattle.std.proofs.Common.{◌≡◌, ◌∙◌, ◌+◌, ◌<◌, [], length, sym, arith}
use Rattle.std.proofs.lemmas.List.{nil_from_length}
use Rattle.hs_entries.specs.Window.{ahead_of, left_of}
use Rattle.hs_entries.proofs.LeftSteps.{skim_nothing, skim_limit, skim_entry, skim_skipped, fresh_ahead}
use Rattle.hs_entries.proofs.reader.EntryReader.skim.Goals as goal

pub returns-then-has_more-clause-skims : goal.returns-then-has_more-clause-skims
returns-then-has_more-clause-skims c = λ rest.
    let r = c.args.self.now in
    let after = c.use_to.new.self in
    let done = c.use_to.ensures in
    let leads = rw c.in_limit-bytes.ensures at c.scan-scanned.ensures.leads in
    let whole = rw c.in_limit-bytes.ensures at c.if-scanned-most.true in
    let more : 0 < length (ahead_of after) = rw (fresh_ahead after done.fresh) (c.has_more.ensures.0 c.if-has_more.true) in
    skim_limit (r.count + 1) c.args.from c.scan-scanned.result.place r.window after c.scan-scanned.result.count rest c.requires.fresh done.fresh leads whole done.ahead done.room more

pub returns-else-has_more-clause-skims : goal.returns-else-has_more-clause-skims
returns-else-has_more-clause-skims c = λ rest.
    let r = c.args.self.now in
    let after = c.use_to.new.self in
    let done = c.use_to.ensures in
    let leads = rw c.in_limit-bytes.ensures at c.scan-scanned.ensures.leads in
    let whole = rw c.in_limit-bytes.ensures at c.if-scanned-most.true in
    let none : left_of after ≡ [] = nil_from_length (left_of after) (grind (arith, c.has_more.ensures, c.if-has_more.false)) in (
      skim_nothing (r.count + 1) c.args.from c.scan-scanned.result.place r.window after c.scan-scanned.result.count rest c.requires.fresh done.fresh leads (omega (arith, whole)) done.ahead done.room,
      fresh_ahead after done.fresh ∙ none,
    )

pub returns-then-is_entry-clause-skims : goal.returns-then-is_entry-clause-skims
returns-then-is_entry-clause-skims c = λ rest.
    let r = c.args.self.now in
    let q = c.scan-scanned.result.place in
    let count = c.scan-scanned.result.count in
    let done = c.use_to-2.ensures in
    let leads = rw c.in_limit-bytes.ensures at c.scan-scanned.ensures.leads in
    let inside : count < length c.in_limit-bytes.result.now = omega arith in
    let is = rw c.in_limit-bytes.ensures at (sym c.ends-is_entry.ensures ∙ c.if-is_entry.true) in
    skim_entry (r.count + 1) c.args.from q r.window c.use_to-2.new.self count rest c.requires.fresh done.fresh leads (rw c.in_limit-bytes.ensures at inside) done.ahead done.room is

pub returns-else-is_entry-clause-skims : goal.returns-else-is_entry-clause-skims
returns-else-is_entry-clause-skims c = λ rest.
    let r = c.args.self.now in
    let q = c.scan-scanned.result.place in
    let count = c.scan-scanned.result.count in
    let done = c.use_to-2.ensures in
    let leads = rw c.in_limit-bytes.ensures at c.scan-scanned.ensures.leads in
    let inside : count < length c.in_limit-bytes.result.now = omega arith in
    let goes = rw c.in_limit-bytes.ensures at (sym c.ends-is_entry.ensures ∙ c.if-is_entry.false) in
    let stop = rw c.in_limit-bytes.ensures at (c.scan-scanned.ensures.stops inside) in
    skim_skipped (r.count + 1) c.args.from q r.window c.use_to-2.new.self count rest c.requires.fresh done.fresh leads (rw c.in_limit-bytes.ensures at inside) done.ahead done.room goes stop
