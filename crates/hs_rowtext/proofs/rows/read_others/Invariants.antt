-- The rows that are meant are those that complete what was read.
use Rattle.std.proofs.Common.{drop}
use denote.Text.{Utf8}
use denote.Shadow.{shadow}
use Rattle.hs_rowtext.specs.Rows.{types_of}
use Rattle.hs_rowtext.proofs.RowLemmas.{SameRows}
use Rattle.hs_rowtext.proofs.rows.read_others.Given as goal

abbrev pub invariant-loop-column : goal.invariant-loop-column
invariant-loop-column l = shadow (Utf8 l.rest) × SameRows l.fn.values.items (types_of l.columns) l.fn.text l.values.items (types_of (drop l.column-index l.columns)) l.rest
