-- What the entries of a cache are after a change of one of them.
use Rattle.std.proofs.Common.{◌≡◌, ℕ, ◌-◌, ◌<◌, Bool, true, false, [], ◌∷◌, length, take, nat_eq, Option, Some, None, is_some, if◌then◌else◌, refl, sym, ◌∙◌, ap, arith}
use Rattle.std.specs.Option.{option_map, option_map_or}
use Rattle.std.specs.Map.{lookup, lookup_entry, set_value, remove_entry}
use Rattle.std.proofs.lemmas.List.{take_all}
use Rattle.lru.specs.LruCache.{LruCache, put_entries}
use Rattle.lru.proofs.Pairs.{lookup-lookup_entry}
use Rattle.hs_cache.specs.declared.frames.Frame.{Frame}
use Rattle.hs_cache.specs.Held.{Pages, changed}

-- the first pair's place is settled by its test
changed_step : (p : ℕ) (f : Frame → Frame) (e : ℕ × Frame) (rest : Pages) (v : Frame) (t : Bool)
    → (if t then Some e.1 else lookup (nat_eq p) rest) ≡ Some v → (lookup (nat_eq p) rest ≡ Some v → set_value (nat_eq p) rest (f v) ≡ changed p f rest)
    → (if t then (e.0, f v) ∷ rest else e ∷ set_value (nat_eq p) rest (f v)) ≡ (if t then (e.0, f e.1) ∷ rest else e ∷ changed p f rest)
changed_step p f e rest v true found behind = let same : e.1 ≡ v = (cc) in ap (λ (x : Frame). (e.0, f x) ∷ rest) (sym same)
changed_step p f e rest v false found behind = ap (λ (l : Pages). e ∷ l) (behind found)

-- a frame that was found, changed and put back
pub changed_is : (p : ℕ) (f : Frame → Frame) (pages : Pages) (v : Frame) → lookup (nat_eq p) pages ≡ Some v → set_value (nat_eq p) pages (f v) ≡ changed p f pages
changed_is p f [] v found = (cc)
changed_is p f (e ∷ rest) v found = changed_step p f e rest v (nat_eq p e.0) found (changed_is p f rest v)

absent_step : (p : ℕ) (f : Frame → Frame) (e : ℕ × Frame) (rest : Pages) (t : Bool)
    → (if t then Some e.1 else lookup (nat_eq p) rest) ≡ None → (lookup (nat_eq p) rest ≡ None → rest ≡ changed p f rest) → (e ∷ rest) ≡ (if t then (e.0, f e.1) ∷ rest else e ∷ changed p f rest)
absent_step p f e rest true found behind = (cc)
absent_step p f e rest false found behind = ap (λ (l : Pages). e ∷ l) (behind found)

-- where the page isn't there, nothing changes
pub changed_none : (p : ℕ) (f : Frame → Frame) (pages : Pages) → lookup (nat_eq p) pages ≡ None → pages ≡ changed p f pages
changed_none p f [] found = refl
changed_none p f (e ∷ rest) found = absent_step p f e rest (nat_eq p e.0) found (changed_none p f rest)

none_from : (o : Option (ℕ × Frame)) → is_some (option_map (λ e. e.1) o) ≡ false → o ≡ None
none_from None h = refl
none_from (Some e) h = (cc)

-- a page that isn't held, put in front of fewer than may be held
pub added_is : (c : LruCache ℕ Frame) (p : ℕ) (v : Frame) → is_some (lookup (nat_eq p) c.entries) ≡ false → length c.entries < c.cap → put_entries nat_eq c p v ≡ (p, v) ∷ c.entries
added_is c p v fresh room =
    let none : lookup_entry (nat_eq p) c.entries ≡ None = none_from _ (ap is_some (lookup-lookup_entry (nat_eq p) c.entries) ∙ fresh) in
    ap (λ (o : Option (ℕ × Frame)). option_map_or (λ e. (e.0, v) ∷ remove_entry (nat_eq p) c.entries) o ((p, v) ∷ take (c.cap - 1) c.entries)) none
    ∙ ap (λ (l : Pages). (p, v) ∷ l) (take_all (c.cap - 1) c.entries (omega (arith, room)))
