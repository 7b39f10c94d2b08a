use Rattle.std.proofs.Common.{List, ℕ, length, ap, subst, ◌∙◌, IsUtf8, arith}
use Rattle.std.specs.List.{prefix_len}
use Rattle.hs_nametext.specs.Names.{is_in_word}
use Rattle.hs_nametext.proofs.NameLemmas.{word_boundary}
use Rattle.hs_nametext.proofs.names.word.Goals as goal

pub split_at-requires : goal.split_at-requires
split_at-requires c =
    word_boundary c.args.text.now c.word_len.result
    (c.word_len.ensures.value ∙ ap (λ (text : List ℕ). prefix_len is_in_word text) c.as_bytes.ensures.value)
    (omega (arith, c.word_len.ensures.within, ap length c.as_bytes.ensures.value))
    (subst IsUtf8 c.as_bytes.ensures.value c.as_bytes.ensures.utf8)
