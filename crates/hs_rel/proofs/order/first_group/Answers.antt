use Rattle.std.proofs.Common.{◌≡◌, ◌∙◌, ℕ, ◌-◌, ◌<◌, false, List, length, get_or, sym, arith}
use Rattle.std.proofs.lemmas.List.{get_or_read}
use Rattle.hs_values.specs.declared.value.Value.{Value}
use Rattle.hs_rel.specs.Groups.{same_key}
use Rattle.hs_rel.proofs.Runs.{first_run_of}
use Rattle.hs_rel.proofs.order.first_group.Goals as goal

pub returns-then-not-has_same_key-clause-first : goal.returns-then-not-has_same_key-clause-first
returns-then-not-has_same_key-clause-first c some =
    let rows = c.args.rows.now in
    let keys = c.args.keys in
    let end = c.loop-end.end in
    let other : same_key keys c.index-rows-end.result c.index-rows-end-in-loop-end.result ≡ false = sym c.has_same_key.ensures ∙ c.if-not-has_same_key.true in
    first_run_of (same_key keys) rows end (omega arith) (omega arith) c.loop-end.invariant
    (λ d inside.
    let before = get_or_read rows (end - 1) c.index-rows-end.result (omega arith) c.index-rows-end.is d in
    let here = get_or_read rows end c.index-rows-end-in-loop-end.result inside c.index-rows-end-in-loop-end.is d in
    sym (λ i. same_key keys (before i) (here i)) ∙ other)

pub returns-clause-first : goal.returns-clause-first
returns-clause-first c some =
    let rows = c.args.rows.now in
    first_run_of (same_key c.args.keys) rows (length rows) some (omega arith)
    (λ k d inside. c.loop-end.invariant k d (omega arith))
    (λ d inside. absurd (omega arith))
