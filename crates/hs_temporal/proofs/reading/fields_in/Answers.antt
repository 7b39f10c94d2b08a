use Rattle.std.proofs.Common.{◌+◌, sym, ◌∙◌}
use Rattle.std.proofs.lemmas.List.{take_rest}
use Rattle.hs_temporal.proofs.TextLemmas.{fields_are, as_long}
use Rattle.hs_temporal.proofs.reading.fields_in.Goals as goal
use Rattle.hs_temporal.proofs.reading.fields_in.Goals.{then-text-places-via-then-text-places, then-text-places-via-else-text-places+then-text-places-2, then-text-places-via-else-text-places+else-text-places-2+then-text-places-3}

pub returns-then-text-places : goal.returns-then-text-places
returns-then-text-places c = λ a b d e.
    let h = fields_are c.args.text.now c.args.places c.args.between a b d e in
    elim c.then-text-places.branch [
      | then-text-places-via-then-text-places w ↦ w.if-text-places.true h.long
      | then-text-places-via-else-text-places+then-text-places-2 w ↦ w.if-text-places-2.true h.first_byte
      | then-text-places-via-else-text-places+else-text-places-2+then-text-places-3 w ↦ w.if-text-places-3.true h.second_byte
    ]

pub returns-in_err-first : goal.returns-in_err-first
returns-in_err-first c =
    rw c.from_residual.ensures (λ a b d e.
    let h = fields_are c.args.text.now c.args.places c.args.between a b d e in
    c.in_err-first.ensures a (as_long _ a _ h.first))

pub returns-in_err-second : goal.returns-in_err-second
returns-in_err-second c =
    rw c.from_residual-in_err-second.ensures (λ a b d e.
    let h = fields_are c.args.text.now c.args.places c.args.between a b d e in
    c.in_err-second.ensures b (as_long _ b _ h.second))

pub returns-in_err-third : goal.returns-in_err-third
returns-in_err-third c =
    rw c.from_residual-in_err-third.ensures (λ a b d e.
    let h = fields_are c.args.text.now c.args.places c.args.between a b d e in
    c.in_err-third.ensures d (as_long _ d _ (h.third ∙ sym (take_rest c.args.text.now (c.args.places + 4)))))
