use Rattle.std.proofs.Common.{◌≡◌, ℕ, ◌++◌}
use Rattle.std.specs.Map.{lookup}
use Rattle.hs_draft.specs.Drafted.{is}
use Rattle.hs_draft.proofs.Drafted.{Tables}
use Rattle.hs_draft.proofs.draft.copying.copied.Given as goal

abbrev pub invariant-loop-number : goal.invariant-loop-number
invariant-loop-number l = record {
  front : Tables;
  all : front ++ l.number-iterator ≡ l.tables.entries;
  so_far : (t : ℕ) → lookup (is t) l.made.entries ≡ lookup (is t) front;
}
