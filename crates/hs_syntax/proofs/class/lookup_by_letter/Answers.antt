use Rattle.std.proofs.Common.{◌≡◌, ◌+◌, sym, ap, ◌∙◌, slice_index_or}
use Rattle.hs_syntax.specs.Classes as spec
use Rattle.hs_syntax.specs.Letters.{letter_of}
use Rattle.hs_syntax.proofs.Letters.{taken}
use Rattle.hs_syntax.proofs.class.lookup_by_letter.Goals as goal

pub returns-in-Some : goal.returns-in-Some
returns-in-Some c =
    let starts = c.args.starts.now in
    let letter = c.letter_of-letter.ensures.value in
    let first : slice_index_or starts (letter_of c.args.word.now) 0 ≡ c.start-first.result = sym (c.start-first.ensures ∙ ap (λ k. slice_index_or starts k 0) letter) in
    let end : slice_index_or starts (letter_of c.args.word.now + 1) 0 ≡ c.start-end.result = sym (c.start-end.ensures ∙ ap (λ k. slice_index_or starts (k + 1) 0) letter) in
    let range = c.in-Some.ensures.lookup.0 in
    let part = taken (λ entry. (entry.0.now, entry.1)) c.args.table.now c.in-Some.words.now c.start-first.result c.start-end.result range.0 range.1 range.2 in
    rw (first, end) (c.lookup.ensures ∙ ap (λ l. spec.lookup l c.args.word.now c.args.other) (sym part))
