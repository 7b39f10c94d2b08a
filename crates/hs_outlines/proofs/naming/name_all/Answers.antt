use Rattle.std.proofs.Common.{◌≡◌, ◌++◌, [], ◌∷◌, ◌≤◌, ◌+◌, length, drop, arith, subst, sym, ap, ◌∙◌}
use Rattle.std.proofs.lemmas.List.{drop_all}
use Rattle.hs_elements.proofs.Finding.{item}
use Rattle.hs_outlines.specs.Named.{first_key}
use Rattle.hs_outlines.proofs.Giving.{Tells, begun, ended, next}
use Rattle.hs_outlines.proofs.naming.name_all.Goals as goal

pub loop-w-init : goal.loop-w-init
loop-w-init c = record {
  given = c.new-given.ensures.given c.args.catalog.now c.args.table.now;
  tells = begun c.args.catalog.now c.args.table.now c.new-given.result.names.items c.args.first c.args.written.now c.args.faults.now c.new-given.ensures.names;
}

pub loop-w-preserved : goal.loop-w-preserved
loop-w-preserved c =
    let things = c.args.catalog.now in
    let table = c.args.table.now in
    let ws = c.args.written.now in
    let i = c.loop-w.w-index in
    let w = c.w-item.result in
    let rest = drop (i + 1) ws in
    let names = c.loop-w.given.names.items in
    let name = c.in_ok-name.name in
    let key = c.loop-w.key in
    let old = c.args.faults.now in
    let first = c.args.first in
    let now = c.note_second.new.faults in
    let more : c.add.new.self.names.items ≡ names ++ name ∷ [] = c.in_ok-add.ensures.names ∙ ap (λ l. l ++ name ∷ []) c.in_ok-name.ensures.names in
    let here : Tells things table names key (w ∷ rest) c.loop-w.faults ws first old =
    subst (λ z. Tells things table names key z c.loop-w.faults ws first old) (item ws i w c.loop-w-test.true c.w-item.is) c.loop-w.invariant.tells in
    let then_ : Tells things table (names ++ name ∷ []) (first_key key w name) rest now ws first old =
    next things table names key w rest c.loop-w.faults c.note_clash.new.faults now ws first old name here c.in_ok-name.ensures.name
    (c.in_ok-note_clash.ensures table c.loop-w.invariant.given) c.in_ok-note_second.ensures in
    record {
      given = c.in_ok-add.ensures.given things table c.in_ok-name.ensures.given;
      tells = subst (λ z. Tells things table z c.in_ok-key.key rest now ws first old) (sym more)
          (subst (λ k. Tells things table (names ++ name ∷ []) k rest now ws first old) (sym c.in_ok-key.ensures) then_);
    }

pub returns-clause-named : goal.returns-clause-named
returns-clause-named c =
    let ws = c.args.written.now in
    let i = c.loop-w.w-index in
    let end : length ws ≤ i = omega arith in
    (ended c.args.catalog.now c.args.table.now c.loop-w.given.names.items c.loop-w.key (drop i ws) c.loop-w.faults ws c.args.first c.args.faults.now (drop_all i ws end) c.loop-w.invariant.tells).0

pub returns-clause-noted : goal.returns-clause-noted
returns-clause-noted c =
    let ws = c.args.written.now in
    let i = c.loop-w.w-index in
    let end : length ws ≤ i = omega arith in
    (ended c.args.catalog.now c.args.table.now c.loop-w.given.names.items c.loop-w.key (drop i ws) c.loop-w.faults ws c.args.first c.args.faults.now (drop_all i ws end) c.loop-w.invariant.tells).1
