use Rattle.std.proofs.Common.{◌≡◌}
use Rattle.std.specs.List.{list_any}
use Rattle.hs_sentences.specs.Asking.{passes_at}
use Rattle.hs_draft.proofs.draft.looking.any_then.Given as goal

abbrev pub invariant-loop-number : goal.invariant-loop-number
invariant-loop-number g l =
    let test = g.T.RowTest.test l.test in
    list_any (λ e. passes_at test e.0 e.1) l.olds.entries ≡ list_any (λ e. passes_at test e.0 e.1) l.number-iterator
