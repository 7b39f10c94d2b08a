use Rattle.std.proofs.Common.{refl, sym, arith}
use Rattle.hs_grammar.specs.Grammar.{grammar}
use Rattle.hs_grammar.specs.declared.types.Fault.TheVariants as F
use Rattle.hs_grammar.proofs.Exact.{plain, later_whole, later_far, same_stuck, same_before, refused_there}
use Rattle.hs_grammar.proofs.recogniser.exact.Goals as goal

pub returns-in_default-other_next : goal.returns-in_default-other_next
returns-in_default-other_next g c = plain (grammar c.args.tables.now) c.args.classes.now c.args.fault c.in-Some.at c.requires.1 (sym c.in-Some.ensures) (sym c.in_default-other_next.ensures)

pub returns-in-Ok : goal.returns-in-Ok
returns-in-Ok g c = later_whole (grammar c.args.tables.now) c.args.tables.now.rows.now g.table c.requires.0 c.args.classes.now c.args.fault c.in-Some.at c.in-Some-other_next.next c.requires.1 (sym c.in-Some.ensures) (sym c.in-Some-other_next.ensures) c.in-Ok.field-0.items c.in-Ok.ensures

pub returns-then-other-at : goal.returns-then-other-at
returns-then-other-at g c = later_far (grammar c.args.tables.now) c.args.tables.now.rows.now g.table c.requires.0 c.args.classes.now c.args.fault c.in-Some.at c.in-Some-other_next.next c.requires.1 (sym c.in-Some.ensures) (sym c.in-Some-other_next.ensures) (F.At c.in-Err-At.other) c.in-Err-At.other (rw c.in-Err-At.field-0-is at c.in-Err-At.ensures) refl c.if-other-at.true

pub returns-in-Err-At : goal.returns-in-Err-At
returns-in-Err-At g c = same_stuck (grammar c.args.tables.now) c.args.tables.now.rows.now g.table c.requires.0 c.args.classes.now c.args.fault c.in-Some.at c.in-Some-other_next.next c.in-Err-At.other c.requires.1 (sym c.in-Some.ensures) (sym c.in-Some-other_next.ensures) (rw c.in-Err-At.field-0-is at c.in-Err-At.ensures) c.if-other-at.false

pub returns-then-other-at-2 : goal.returns-then-other-at-2
returns-then-other-at-2 g c = later_far (grammar c.args.tables.now) c.args.tables.now.rows.now g.table c.requires.0 c.args.classes.now c.args.fault c.in-Some.at c.in-Some-other_next.next c.requires.1 (sym c.in-Some.ensures) (sym c.in-Some-other_next.ensures) (F.NotOffered c.in-Err-NotOffered.other) c.in-Err-NotOffered.other (rw c.in-Err-NotOffered.field-0-is at c.in-Err-NotOffered.ensures) refl c.if-other-at-2.true

pub returns-then-other-at-3 : goal.returns-then-other-at-3
returns-then-other-at-3 g c = refused_there (grammar c.args.tables.now) c.args.tables.now.rows.now g.table c.requires.0 c.args.classes.now c.args.fault c.in-Some.at c.in-Some-other_next.next c.in-Err-NotOffered.other c.requires.1 (sym c.in-Some.ensures) (sym c.in-Some-other_next.ensures) (rw c.in-Err-NotOffered.field-0-is at c.in-Err-NotOffered.ensures) c.if-other-at-3.true

pub returns-in-Err-NotOffered : goal.returns-in-Err-NotOffered
returns-in-Err-NotOffered g c = same_before (grammar c.args.tables.now) c.args.tables.now.rows.now g.table c.requires.0 c.args.classes.now c.args.fault c.in-Some.at c.in-Some-other_next.next c.in-Err-NotOffered.other c.requires.1 (sym c.in-Some.ensures) (sym c.in-Some-other_next.ensures) (rw c.in-Err-NotOffered.field-0-is at c.in-Err-NotOffered.ensures) (let a = c.if-other-at-2.false in let b = c.if-other-at-3.false in omega (arith, a, b))
