use Rattle.std.proofs.Common.{◌≡◌, ℕ, List, [], ◌∷◌, length, rules, arith}
use Rattle.std.proofs.lemmas.Str.{chars-nil, chars_past_char}
use Rattle.std.specs.Str.{chars}
use Rattle.hs_typed.proofs.comparing.split_first.Goals as goal

-- no bytes are no characters
none : (text : List ℕ) → length text ≡ 0 → chars text ≡ []
none [] e = chars-nil
none (b ∷ bs) e = absurd (omega arith)

pub returns-in-Some : goal.returns-in-Some
returns-in-Some c = chars_past_char c.args.text.now c.as_str.result.now c.in-Some.first c.utf8.text (search rules)

pub returns-in-None : goal.returns-in-None
returns-in-None c = none c.args.text.now (search rules)
