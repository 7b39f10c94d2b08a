use Rattle.std.proofs.Common.{List, ℕ, length, ap, subst, ◌∙◌, IsUtf8, arith}
use Rattle.std.specs.List.{prefix_len}
use Rattle.hs_lexer.specs.Bytes.{is_digit}
use Rattle.hs_rowtext.proofs.NumberLemmas.{digits_boundary}
use Rattle.hs_rowtext.proofs.numbers.digits.Goals as goal

pub split_at-requires : goal.split_at-requires
split_at-requires c =
    digits_boundary c.args.text.now c.digits_len.result
    (c.digits_len.ensures.value ∙ ap (λ (text : List ℕ). prefix_len is_digit text) c.as_bytes.ensures.value)
    (omega (arith, c.digits_len.ensures.within, ap length c.as_bytes.ensures.value))
    (subst IsUtf8 c.as_bytes.ensures.value c.as_bytes.ensures.utf8)
