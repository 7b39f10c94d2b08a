use Rattle.std.proofs.Common.{◌≡◌, ◌∙◌, ◌+◌, Some, take, drop, sym, ap, arith}
use Rattle.hs_entries.specs.Place.{leads}
use Rattle.hs_entries.proofs.Leading.{leads_run, leads_more}
use Rattle.std.proofs.lemmas.List.{take_rest}
use Rattle.hs_entries.proofs.place.scan.Goals as goal

pub returns-then-count-bytes-clause-leads : goal.returns-then-count-bytes-clause-leads
returns-then-count-bytes-clause-leads c =
    let run : leads c.loop-count.place (take c.run-count.result (drop c.loop-count.count c.args.bytes.now)) ≡ Some c.loop-count.place = grind (arith, take_rest, c.run-count.ensures.leads) in
    leads_run c.args.from c.loop-count.place c.loop-count.place c.args.bytes.now c.loop-count.count c.run-count.result c.loop-count.invariant.leads run

pub loop-count-preserved : goal.loop-count-preserved
loop-count-preserved c =
    let run : leads c.loop-count.place (take c.run-count.result (drop c.loop-count.count c.args.bytes.now)) ≡ Some c.loop-count.place = grind (arith, take_rest, c.run-count.ensures.leads) in
    let before = leads_run c.args.from c.loop-count.place c.loop-count.place c.args.bytes.now c.loop-count.count c.run-count.result c.loop-count.invariant.leads run in
    record {
      within = omega arith;
      leads = leads_more c.args.from c.loop-count.place c.args.bytes.now (c.loop-count.count + c.run-count.result) (omega arith) before (sym c.stops.ensures ∙ c.if-stops.false) ∙ ap (λ p. Some p) (sym c.next-place.ensures);
    }
