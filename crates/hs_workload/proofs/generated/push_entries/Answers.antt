use Rattle.std.proofs.Common.{◌≡◌, ℕ, List, ◌+◌, ◌++◌, sym, ◌∙◌, ap}
use Rattle.hs_workload.specs.Generator.{entry_line, next_number, number_of}
use Rattle.hs_workload.proofs.Lines.{written_more, number_more}
use Rattle.hs_workload.proofs.generated.push_entries.Goals as goal

pub loop-preserved : goal.loop-preserved
loop-preserved c =
    let number : c.next_number-x.result ≡ number_of c.args.n (c.loop.counter + 1) = c.next_number-x.ensures ∙ ap next_number c.loop.invariant.number ∙ sym (number_more c.args.n c.loop.counter) in
    record {
      number = number;
      written = written_more (λ (i : ℕ). entry_line (number_of c.args.n (i + 1))) c.loop.counter c.args.out.now c.loop.out _ c.loop.invariant.written
          (c.in_ok-push_entry.ensures ∙ ap (λ (x : ℕ). c.loop.out ++ entry_line x) number);
    }
