use Rattle.std.proofs.Common.{◌≡◌, ◌+◌, ◌-◌, ◌∙◌, ℕ, List, Some, min, length, take, drop, slice_range, sym, ap, arith}
use Rattle.std.proofs.lemmas.List.{length-take, length-drop, take_all}
use Rattle.std.proofs.lemmas.List.Edits.{length-between}
use Rattle.hs_entries.specs.Place.{passes}
use Rattle.hs_entries.specs.declared.place.Place.TheVariants.{Between}
use Rattle.hs_entries.proofs.Spans.{white_span}
use Rattle.hs_entries.proofs.window.Window.white_behind.Goals as goal

pub returns-clause-passes : goal.returns-clause-passes
returns-clause-passes c =
    let w = c.args.self.now in
    let n = c.white_run.result in
    let bytes = c.in_limit.result.now in
    let part = slice_range w.buffer.items w.at w.end in
    let long : length part ≡ w.end - w.at = length-between w.buffer.items w.at w.end c.requires.sound.end in
    let short : length bytes ≡ min w.room (length part) = ap length c.in_limit.ensures ∙ length-take w.room part in
    let behind = length-drop 1 bytes in
    let run : passes Between (take n (drop 1 bytes)) ≡ Some Between =
    ap (λ (l : List ℕ). passes Between (take n l)) (sym (take_all (length bytes - 1) (drop 1 bytes) (omega arith))) ∙ c.white_run.ensures.passes in
    let same : take n (drop 1 bytes) ≡ slice_range w.buffer.items (w.at + 1) (w.at + (1 + n)) =
    ap (λ (l : List ℕ). take n (drop 1 l)) c.in_limit.ensures ∙ white_span w.buffer.items w.room w.at w.end n (omega arith) (omega arith) in
    ap (λ (l : List ℕ). passes Between l) (sym same) ∙ run
