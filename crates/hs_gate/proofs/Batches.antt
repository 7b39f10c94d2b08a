-- Groups in memory, as they stand in a file.
use Rattle.std.proofs.Common.{◌≡◌, ℕ, ◌+◌, ◌<◌, ◌^◌, List, [], ◌∷◌, ◌++◌, length, refl, sym, ◌∙◌, ap, arith, append-nil, length-append}
use Rattle.hs_gate.specs.Groups.{Groups, group, spelled, groups_at}
use Rattle.hs_gate.proofs.Numbers.{few_groups, length-group}
use Rattle.hs_gate.proofs.Spelling.{spelled-append, spelled_read}
use Rattle.hs_gate.proofs.Steps.{closed_first}

-- the payloads of the groups that these bytes spell
abbrev pub viewed : List ℕ → List (List ℕ)
viewed items = (groups_at 0 (items ++ 0 ∷ [])).payloads

pub viewed_none : (items : List ℕ) → items ≡ [] → viewed items ≡ []
viewed_none items is = ap viewed is ∙ ap (λ (g : Groups). g.payloads) (closed_first (0 ∷ []) refl)

pub none_spelled : (items : List ℕ) → items ≡ [] → items ≡ spelled (viewed items)
none_spelled items is = is ∙ ap spelled (sym (viewed_none items is))

pub none_counted : (items : List ℕ) → items ≡ [] → 0 ≡ length (viewed items)
none_counted items is = ap length (sym (viewed_none items is))

one_more : (items new payload : List ℕ) → items ≡ spelled (viewed items) → new ≡ items ++ group payload → new ≡ spelled (viewed items ++ payload ∷ [])
one_more items new payload sound is =
    is ∙ ap (λ (l : List ℕ). l ++ group payload) sound ∙ ap (λ (l : List ℕ). spelled (viewed items) ++ l) (sym (append-nil (group payload))) ∙ sym (spelled-append (viewed items) (payload ∷ []))

-- one group more
pub viewed_push : (items new payload : List ℕ) → items ≡ spelled (viewed items) → new ≡ items ++ group payload → length new < 2 ^ 64 → viewed new ≡ viewed items ++ payload ∷ []
viewed_push items new payload sound is small =
    let more = viewed items ++ payload ∷ [] in
    let now = one_more items new payload sound is in
    ap viewed now ∙ ap (λ (g : Groups). g.payloads) (spelled_read more [] (omega (arith, ap length now, small)))

pub push_spelled : (items new payload : List ℕ) → items ≡ spelled (viewed items) → new ≡ items ++ group payload → length new < 2 ^ 64 → new ≡ spelled (viewed new)
push_spelled items new payload sound is small = one_more items new payload sound is ∙ ap spelled (sym (viewed_push items new payload sound is small))

pub push_counted : (items new payload : List ℕ) (count : ℕ) → items ≡ spelled (viewed items) → count ≡ length (viewed items) → new ≡ items ++ group payload → length new < 2 ^ 64 → count + 1 ≡ length (viewed new)
push_counted items new payload count sound counted is small = omega (arith, counted, ap length (viewed_push items new payload sound is small), length-append (viewed items) (payload ∷ []))

pub push_fits : (items new payload : List ℕ) (count : ℕ) → items ≡ spelled (viewed items) → count ≡ length (viewed items) → new ≡ items ++ group payload → length new < 2 ^ 64 → count + 1 < 2 ^ 64
push_fits items new payload count sound counted is small =
    omega (arith, counted, few_groups (viewed items), ap length sound, ap length is, length-append items (group payload), length-group payload, small)

-- ---- the groups of another batch behind them

both : (items more new : List ℕ) → items ≡ spelled (viewed items) → more ≡ spelled (viewed more) → new ≡ items ++ more → new ≡ spelled (viewed items ++ viewed more)
both items more new sound sound_more is = is ∙ ap (λ (l : List ℕ). l ++ more) sound ∙ ap (λ (l : List ℕ). spelled (viewed items) ++ l) sound_more ∙ sym (spelled-append (viewed items) (viewed more))

pub viewed_both : (items more new : List ℕ) → items ≡ spelled (viewed items) → more ≡ spelled (viewed more) → new ≡ items ++ more → length new < 2 ^ 64 → viewed new ≡ viewed items ++ viewed more
viewed_both items more new sound sound_more is small =
    let now = both items more new sound sound_more is in
    ap viewed now ∙ ap (λ (g : Groups). g.payloads) (spelled_read (viewed items ++ viewed more) [] (omega (arith, ap length now, small)))

pub both_spelled : (items more new : List ℕ) → items ≡ spelled (viewed items) → more ≡ spelled (viewed more) → new ≡ items ++ more → length new < 2 ^ 64 → new ≡ spelled (viewed new)
both_spelled items more new sound sound_more is small = both items more new sound sound_more is ∙ ap spelled (sym (viewed_both items more new sound sound_more is small))

pub both_counted : (items more new : List ℕ) (count other : ℕ) → items ≡ spelled (viewed items) → more ≡ spelled (viewed more) → count ≡ length (viewed items) → other ≡ length (viewed more) → new ≡ items ++ more → length new < 2 ^ 64 → count + other ≡ length (viewed new)
both_counted items more new count other sound sound_more counted counted_more is small =
    omega (arith, counted, counted_more, ap length (viewed_both items more new sound sound_more is small), length-append (viewed items) (viewed more))

pub both_fit : (items more new : List ℕ) (count other : ℕ) → items ≡ spelled (viewed items) → more ≡ spelled (viewed more) → count ≡ length (viewed items) → other ≡ length (viewed more) → new ≡ items ++ more → length new < 2 ^ 64 → count + other < 2 ^ 64
both_fit items more new count other sound sound_more counted counted_more is small =
    omega (arith, counted, counted_more, few_groups (viewed items), few_groups (viewed more), ap length sound, ap length sound_more, ap length is, length-append items more, small)
