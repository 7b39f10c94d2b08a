-- How the items of a pattern match a text, one character at a time.
use Rattle.std.proofs.Common.{◌≡◌, ◌≢◌, ◌⊎◌, ℕ, List, [], ◌∷◌, Bool, true, false, ◌&&◌, ◌||◌, ◌==◌, inl, inr, refl, sym, ◌∙◌}
use Rattle.std.specs.Prelude.{Option}
use Rattle.hs_scalar.specs.declared.pattern.Item.{Item}
use Rattle.hs_scalar.specs.declared.pattern.Item.TheVariants.{AnyRun, AnyCharacter, This}
use Rattle.hs_scalar.specs.Like.{items_of, matches, some_end_passes, stands_for}

-- no item is left, and no character
pub matches_none : matches [] [] ≡ true
unfolding matches
matches_none = refl

matches_some : (cs : List ℕ) → cs ≢ [] → matches [] cs ≡ false
unfolding matches
matches_some [] some = absurd (some refl)
matches_some (c ∷ cs) some = refl

pub matches_run : (items : List Item) (cs : List ℕ) → matches (AnyRun ∷ items) cs ≡ some_end_passes (matches items) cs
unfolding matches
matches_run items cs = refl

-- a character that the first item stands for
pub matches_fitting : (item : Item) (items : List Item) (c : ℕ) (cs : List ℕ) → stands_for item c ≡ true → matches (item ∷ items) (c ∷ cs) ≡ matches items cs
unfolding matches
matches_fitting AnyRun items c cs fits = cc
matches_fitting AnyCharacter items c cs fits = refl
matches_fitting (This d) items c cs fits = rw fits

-- one that it does not
pub matches_unfit : (item : Item) (items : List Item) (c : ℕ) (cs : List ℕ) → item ≢ AnyRun → stands_for item c ≡ false → matches (item ∷ items) (c ∷ cs) ≡ false
unfolding matches
matches_unfit AnyRun items c cs single unfit = absurd (single refl)
matches_unfit AnyCharacter items c cs single unfit = cc
matches_unfit (This d) items c cs single unfit = rw unfit

-- no character for the first item
pub matches_short : (item : Item) (items : List Item) → item ≢ AnyRun → matches (item ∷ items) [] ≡ false
unfolding matches
matches_short AnyRun items single = absurd (single refl)
matches_short AnyCharacter items single = refl
matches_short (This d) items single = refl

-- the whole is an end
pub some_end_from_whole : (test : List ℕ → Bool) (cs : List ℕ) → test cs ≡ true → some_end_passes test cs ≡ true
some_end_from_whole test [] passes = passes
some_end_from_whole test (c ∷ cs) passes = rw passes

-- the empty pattern is like the empty end
pub some_end_matches_none : (cs : List ℕ) → some_end_passes (matches []) cs ≡ true
unfolding matches
some_end_matches_none [] = refl
some_end_matches_none (c ∷ cs) = some_end_matches_none cs

-- where the whole fails, an end that passes is an end of the rest
pub some_end_past : (test : List ℕ → Bool) (c : ℕ) (cs : List ℕ) → test (c ∷ cs) ≡ false → some_end_passes test (c ∷ cs) ≡ some_end_passes test cs
some_end_past test c cs fails = rw fails

or_again : (a b : Bool) → ((a || b) || b) ≡ (a || b)
or_again true b = refl
or_again false true = refl
or_again false false = refl

-- an end of an end is an end
pub some_end_of_end : (test : List ℕ → Bool) (cs : List ℕ) → some_end_passes (some_end_passes test) cs ≡ some_end_passes test cs
some_end_of_end test [] = refl
some_end_of_end test (c ∷ cs) = rw (some_end_of_end test cs) (or_again (test (c ∷ cs)) (some_end_passes test cs))

-- what passes the longer test is a character and then what passes the shorter one
record TakesOne (longer shorter : List ℕ → Bool) : Type 0 where
  pub none : longer [] ≡ false
  pub one : (c : ℕ) (cs : List ℕ) → longer (c ∷ cs) ≡ true → shorter cs ≡ true

pub or_cases : (a b : Bool) → (a || b) ≡ true → (a ≡ true) ⊎ (b ≡ true)
or_cases true b e = inl refl
or_cases false b e = inr e

pub or_second : (a b : Bool) → b ≡ true → (a || b) ≡ true
or_second true b e = refl
or_second false b e = e

some_end_after_one : (longer shorter : List ℕ → Bool) → TakesOne longer shorter → (c : ℕ) (cs : List ℕ) → some_end_passes longer (c ∷ cs) ≡ true → some_end_passes shorter cs ≡ true
some_end_after_one longer shorter h c [] passes = elim (or_cases (longer (c ∷ [])) (longer []) passes) [
  | inl here ↦ h.one c [] here
  | inr later ↦ let never : longer [] ≡ false = h.none in cc
]
some_end_after_one longer shorter h c (d ∷ ds) passes = elim (or_cases (longer (c ∷ d ∷ ds)) (some_end_passes longer (d ∷ ds)) passes) [
  | inl here ↦ some_end_from_whole shorter (d ∷ ds) (h.one c (d ∷ ds) here)
  | inr later ↦ or_second (shorter (d ∷ ds)) (some_end_passes shorter ds) (some_end_after_one longer shorter h d ds later)
]

pub and_first : (a b : Bool) → (a && b) ≡ true → a ≡ true
and_first true b e = refl
and_first false b e = e

pub and_second : (a b : Bool) → (a && b) ≡ true → b ≡ true
and_second true b e = e
and_second false b e = absurd cc

-- the character and the rest that one item and the others match
one_more : (item : Item) (items : List Item) (c : ℕ) (cs : List ℕ) → item ≢ AnyRun → matches (item ∷ items) (c ∷ cs) ≡ true → matches items cs ≡ true
unfolding matches
one_more AnyRun items c cs single matched = absurd (single refl)
one_more AnyCharacter items c cs single matched = matched
one_more (This d) items c cs single matched = and_second (c == d) (matches items cs) matched

takes_one : (item : Item) (items : List Item) → item ≢ AnyRun → TakesOne (matches (item ∷ items)) (matches items)
takes_one item items single = record { none = matches_short item items single; one = λ c cs matched. one_more item items c cs single matched }

-- Items q over the text r have come to the items p over the text t: they match just where those do, and if they match some end of r, those match some end of t.
pub record Continues (q : List Item) (r : List ℕ) (p : List Item) (t : List ℕ) : Type 0 where
  pub whole : matches q r ≡ matches p t
  pub ends : some_end_passes (matches q) r ≡ true → some_end_passes (matches p) t ≡ true

pub continues_start : (q : List Item) (r : List ℕ) → Continues q r q r
continues_start q r = record { whole = refl; ends = λ passes. passes }

-- the next item is one character, and the next character fits it
pub continues_one : {q p later : List Item} {r t cs : List ℕ} {item : Item} {c : ℕ}
    → Continues q r p t → p ≡ item ∷ later → t ≡ c ∷ cs → item ≢ AnyRun → stands_for item c ≡ true → Continues q r later cs
continues_one {q} {p} {later} {r} {t} {cs} {item} {c} h next first single fits = record {
  whole = h.whole ∙ (rw (next, first) (matches_fitting item later c cs fits));
  ends = λ passes. some_end_after_one (matches (item ∷ later)) (matches later) (takes_one item later single) c cs (rw (next, first) at h.ends passes);
}

-- the next character does not
pub continues_fails : {q p later : List Item} {r t cs : List ℕ} {item : Item} {c : ℕ}
    → Continues q r p t → p ≡ item ∷ later → t ≡ c ∷ cs → item ≢ AnyRun → stands_for item c ≡ false → matches q r ≡ false
continues_fails {q} {p} {later} {r} {t} {cs} {item} {c} h next first single unfit = h.whole ∙ (rw (next, first) (matches_unfit item later c cs single unfit))

same_tests : (a b : Bool) → (a ≡ true → b ≡ true) → (b ≡ true → a ≡ true) → a ≡ b
same_tests true b f g = sym (f refl)
same_tests false true f g = g refl
same_tests false false f g = refl

-- there is no next character
pub continues_short : {q p later : List Item} {r t : List ℕ} {item : Item}
    → Continues q r p t → p ≡ item ∷ later → t ≡ [] → item ≢ AnyRun → some_end_passes (matches q) r ≡ false
continues_short {q} {p} {later} {r} {t} {item} h next none single =
    let short : some_end_passes (matches p) t ≡ false = rw (next, none) (matches_short item later single) in
    same_tests (some_end_passes (matches q) r) false (λ passes. sym short ∙ h.ends passes) (λ never. absurd cc)

-- the next item is any run
pub continues_run : {q p later : List Item} {r t : List ℕ} {item : Item}
    → Continues q r p t → p ≡ item ∷ later → item ≡ AnyRun → matches q r ≡ some_end_passes (matches later) t
continues_run {q} {p} {later} {r} {t} {item} h next run = h.whole ∙ (rw (next, run) (matches_run later t))

some_end_of_run : (p : List Item) (t : List ℕ) → some_end_passes (matches (AnyRun ∷ p)) t ≡ some_end_passes (matches p) t
unfolding matches
some_end_of_run p t = some_end_of_end (matches p) t

pub continues_run_ends : {q p later : List Item} {r t : List ℕ} {item : Item}
    → Continues q r p t → p ≡ item ∷ later → item ≡ AnyRun → some_end_passes (matches q) r ≡ some_end_passes (matches later) t
continues_run_ends {q} {p} {later} {r} {t} {item} h next run =
    let same : some_end_passes (matches p) t ≡ some_end_passes (matches later) t = rw (next, run) (some_end_of_run later t) in
    same_tests (some_end_passes (matches q) r) (some_end_passes (matches later) t)
    (λ passes. sym same ∙ h.ends passes)
    (λ passes. some_end_from_whole (matches q) r (continues_run h next run ∙ passes))

-- there is no next item
pub continues_to_end : {q p : List Item} {r t : List ℕ} → Continues q r p t → p ≡ [] → t ≡ [] → matches q r ≡ true
continues_to_end {q} {p} {r} {t} h done none = h.whole ∙ (rw (done, none) matches_none)

pub continues_left_over : {q p : List Item} {r t : List ℕ} → Continues q r p t → p ≡ [] → t ≢ [] → matches q r ≡ false
continues_left_over {q} {p} {r} {t} h done some = h.whole ∙ (rw done (matches_some t some))

-- no end is lost with a character that the first item does not stand for
pub some_end_past_misfit : {q later : List Item} {t cs : List ℕ} {item : Item} {c : ℕ}
    → q ≡ item ∷ later → t ≡ c ∷ cs → item ≢ AnyRun → stands_for item c ≡ false → some_end_passes (matches q) cs ≡ some_end_passes (matches q) t
some_end_past_misfit {q} {later} {t} {cs} {item} {c} next first single unfit = rw (next, first) (sym (some_end_past (matches (item ∷ later)) c cs (matches_unfit item later c cs single unfit)))

-- the whole fails where every end does
pub whole_fails : (test : List ℕ → Bool) (cs : List ℕ) → some_end_passes test cs ≡ false → test cs ≡ false
whole_fails test cs fails = same_tests (test cs) false (λ passes. sym fails ∙ some_end_from_whole test cs passes) (λ never. absurd cc)

-- a pattern without characters is like the empty end
pub some_end_of_no_items : (escape : Option ℕ) (pattern cs : List ℕ) → pattern ≡ [] → some_end_passes (matches (items_of escape pattern)) cs ≡ true
some_end_of_no_items escape pattern cs none = rw none (some_end_matches_none cs)
