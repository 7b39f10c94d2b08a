use Rattle.std.proofs.Common.{◌≡◌, ◌-◌, ◌<◌, ◌≤◌, ◌++◌, length, sym, ap, ◌∙◌, append_assoc, append-nil, string_bytes, arith}
use Rattle.std.proofs.lemmas.Str.{IsUtf8-past_char, chars_past_char}
use Rattle.std.specs.Char.{encode_utf8}
use Rattle.std.specs.Str.{chars}
use Rattle.std.specs.Str.Iter.{chars_rest}
use Rattle.hs_elements.specs.Names.{within}
use Rattle.hs_elements.proofs.Cutting.{no_room, has_room, all_taken}
use Rattle.hs_elements.proofs.names.push_front.Goals as goal

pub returns-then-room-size : goal.returns-then-room-size
returns-then-room-size c =
    let held = c.loop-c.invariant in
    let ch = c.in-Some.c in
    let step = chars_past_char _ _ ch held.0 c.in-Some.ensures.steps.0 in
    let rest = chars (chars_rest c.next.new.self) in
    let less : c.loop-c.room < length (encode_utf8 ch) = omega (arith, c.len_utf8-size.ensures.len, c.if-room-size.true) in
    sym (append-nil (string_bytes c.loop-c.out)) ∙ ap (λ w. string_bytes c.loop-c.out ++ w) (sym (ap (within c.loop-c.room) step ∙ no_room c.loop-c.room ch rest less)) ∙ held.1

pub loop-c-preserved : goal.loop-c-preserved
loop-c-preserved c =
    let held = c.loop-c.invariant in
    let ch = c.in-Some.c in
    let parts = c.in-Some.ensures.steps.0 in
    let step = chars_past_char _ _ ch held.0 parts in
    let rest = chars (chars_rest c.next.new.self) in
    let room = c.loop-c.room in
    let out = string_bytes c.loop-c.out in
    let size : length (encode_utf8 ch) ≡ c.len_utf8-size.result = omega (arith, c.len_utf8-size.ensures.len) in
    let fits : length (encode_utf8 ch) ≤ room = omega (arith, size, c.if-room-size.false) in (
      IsUtf8-past_char _ _ ch held.0 parts,
      ap (λ b. b ++ within (room - c.len_utf8-size.result) rest) c.in_ok-push.ensures.bytes
          ∙ append_assoc out (encode_utf8 ch) (within (room - c.len_utf8-size.result) rest)
          ∙ ap (λ w. out ++ w) (sym (ap (within room) step ∙ has_room room ch rest fits ∙ ap (λ k. encode_utf8 ch ++ within (room - k) rest) size))
          ∙ held.1,
    )

pub returns : goal.returns
returns c =
    sym (append-nil (string_bytes c.loop-c.out)) ∙ ap (λ w. string_bytes c.loop-c.out ++ w) (sym (all_taken c.loop-c.room (chars_rest c.loop-c.c-iterator) c.in-None.ensures.steps.0.0)) ∙ c.loop-c.invariant.1
