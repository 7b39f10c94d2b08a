-- A session more.
use Rattle.std.proofs.Common.{◌≡◌, ℕ, ◌+◌, false, List, [], ◌∷◌, ◌++◌, length, map, Result, Ok, Err, OnOk, sym, ap, ◌∙◌, string_bytes, length-append}
use Rattle.std.specs.Prelude.{is_err}
use Rattle.std.proofs.lemmas.List.{length-map}
use Rattle.std.specs.declared.string.String.{String}
use Rattle.std.specs.declared.alloc.Global.{Global}

-- what an `Ok` says, of a call that didn't fail
pub ok_holds : {X Y : Type 0} (r : Result X Y) (P : Type 0) → is_err r ≡ false → OnOk r P → P
ok_holds (Ok x) P e h = h
ok_holds (Err y) P e h = absurd cc

-- a name more
pub one_longer : (old new : List (String Global)) (names : List (List ℕ)) (name : List ℕ) → map string_bytes old ≡ names → map string_bytes new ≡ names ++ name ∷ [] → length new ≡ length old + 1
one_longer old new names name before after =
    sym (length-map new string_bytes) ∙ ap length (after ∙ ap (λ (l : List (List ℕ)). l ++ name ∷ []) (sym before))
    ∙ length-append (map string_bytes old) (name ∷ []) ∙ ap (λ n. n + 1) (length-map old string_bytes)
