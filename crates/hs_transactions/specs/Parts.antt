-- The parts of an engine, by its fields.
use Rattle.hs_moves.specs.Parts.{Parts, Spans}
use Rattle.hs_snapshots.specs.Stores.{starts_of}
use Rattle.hs_snapshots.specs.declared.stores.Stores.{Stores}
use Rattle.hs_transactions.specs.declared.transactions.Transactions.{Transactions}

abbrev pub spans_of : {S : Type 0} → Transactions S → Spans
spans_of t = record { kind = t.kind; made = t.made; count = t.count; live = starts_of t.stores; first = t.past.first; claims = t.past.claims.items }

abbrev pub parts_of : {S : Type 0} → Transactions S → Parts (Stores S)
parts_of t = record { store = t.stores; holding = t.holding; seated = t.seated; commits = t.commits; spans = spans_of t }
