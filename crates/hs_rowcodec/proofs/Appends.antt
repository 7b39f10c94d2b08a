-- Bytes behind bytes that are there.
use Rattle.std.proofs.Common.{◌≡◌, ℕ, List, ◌++◌, cond, is_ok, OnOk, Result, Ok, Err, ap, ◌∙◌}

pub appended : {E : Type 0} (r : Result (Unit {0}) E) (old new more bytes : List ℕ) → new ≡ cond (is_ok r) (old ++ more) old → more ≡ bytes → OnOk r (new ≡ old ++ bytes)
appended (Ok u) old new more bytes is same = is ∙ ap (λ bs. old ++ bs) same
appended (Err e) old new more bytes is same = tt

pub on_ok : {T E P : Type 0} (r : Result T E) → P → OnOk r P
on_ok (Ok x) holds = holds
on_ok (Err e) holds = tt
