use Rattle.std.proofs.Common.{◌≡◌, ◌<◌, ◌+◌, length, slice_index, false, arith}
use Rattle.hs_entries.specs.Place.{ends}
use Rattle.hs_entries.proofs.Leading.{stop_leads}
use Rattle.hs_entries.proofs.Spans.{index-span}
use Rattle.hs_entries.proofs.window.Window.look.Goals as goal

pub skip-requires-clause-between : goal.skip-requires-clause-between
skip-requires-clause-between c =
    let w = c.loop-most.self in
    let short : c.scan-scanned.result.count < length c.in_limit-bytes.result.now = omega arith in
    let here : slice_index c.in_limit-bytes.result.now c.scan-scanned.result.count ≡ slice_index w.buffer.items (w.at + c.scan-scanned.result.count) =
    grind (arith, index-span w.buffer.items w.room w.at w.end c.scan-scanned.result.count) in
    let on : ends c.scan-scanned.result.place (slice_index w.buffer.items (w.at + c.scan-scanned.result.count)) ≡ false = grind arith in
    let back = stop_leads c.scan-scanned.result.place _ _ (c.scan-scanned.ensures.stops short) here on in
    rw c.advance.ensures.fields back
