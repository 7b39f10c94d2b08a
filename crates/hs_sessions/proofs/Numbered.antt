-- The numbers of sessions against the set that keeps their names.
use Rattle.std.proofs.Common.{◌≡◌, ℕ, ◌+◌, Bool, false, cond, List, [], ◌∷◌, ◌++◌, Option, None, map, refl, sym, ap, ◌∙◌, arith, string_bytes}
use Rattle.std.specs.Prelude.{position, if◌then◌else◌}
use Rattle.std.proofs.lemmas.List.{map-append}
use Rattle.std.proofs.lemmas.Iterator.Adapters.{position_from-zero}
use Rattle.std.specs.List.{position_from, list_any}
use Rattle.std.specs.Option.{option_map}
use Rattle.std.specs.Str.{bytes_eq}
use Rattle.std.specs.String.{string_eq}
use Rattle.std.specs.declared.string.String.{String}
use Rattle.std.specs.declared.alloc.Global.{Global}
use Rattle.hs_sessions.specs.Book.{number_from}

-- a number is that of the place behind
pub numbered : (keys : List (String Global)) (n : ℕ) (name : List ℕ)
    → number_from (n + 1) name (map string_bytes keys) ≡ option_map (λ at. at + 1) (position_from (λ (k : String Global). bytes_eq name (string_bytes k)) n keys)
numbered [] n name = refl
numbered (k ∷ keys) n name = grind (arith, numbered keys (n + 1) name)

-- a name without a number is new
pub is_new : (keys : List (String Global)) (n : ℕ) (key : String Global) → number_from n (string_bytes key) (map string_bytes keys) ≡ None → list_any (string_eq key) keys ≡ false
is_new [] n key none = refl
is_new (k ∷ keys) n key none = grind (arith, is_new keys (n + 1) key)

-- the place that the set tells is that of the session
pub found : (keys : List (String Global)) (names : List (List ℕ)) (name : List ℕ) (at : Option ℕ) → map string_bytes keys ≡ names → at ≡ position (λ (k : String Global). bytes_eq name (string_bytes k)) keys
    → option_map (λ n. n + 1) at ≡ number_from 1 name names
found keys names name at same is =
    ap (option_map (λ n. n + 1)) (is ∙ position_from-zero (λ (k : String Global). bytes_eq name (string_bytes k)) keys) ∙ sym (numbered keys 0 name) ∙ ap (number_from 1 name) same

-- a new name goes last
pub added : (keys new : List (String Global)) (key : String Global) (names : List (List ℕ)) (name : List ℕ) → map string_bytes keys ≡ names → string_bytes key ≡ name → number_from 1 name names ≡ None
    → new ≡ (if list_any (string_eq key) keys then keys else keys ++ key ∷ []) → map string_bytes new ≡ names ++ name ∷ []
added keys new key names name same is none inserted =
    let absent = is_new keys 1 key (ap (λ (n : List ℕ). number_from 1 n (map string_bytes keys)) is ∙ ap (number_from 1 name) same ∙ none) in
    ap (map string_bytes) (inserted ∙ ap (λ (b : Bool). cond b keys (keys ++ key ∷ [])) absent) ∙ map-append string_bytes keys (key ∷ [])
    ∙ ap (λ (l : List (List ℕ)). l ++ string_bytes key ∷ []) same ∙ ap (λ (n : List ℕ). names ++ n ∷ []) is
