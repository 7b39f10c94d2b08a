-- Changes within footprints, and databases that agree where a statement reads and writes.
use Rattle.std.proofs.Common.{◌≡◌, ℕ, ◌<◌, ◌^◌, ◌==◌, ◌&&◌, Bool, true, false, cond, List, [], ◌∷◌, ◌⊎◌, inl, inr, refl, ap, ap₂, sym, ◌∙◌, eqb-true, arith}
use Rattle.std.specs.List.{list_any}
use Rattle.hs_claims.specs.declared.footprint.Footprint.{Footprint}
use Rattle.hs_claims.specs.Footprint.{has_table, has_row, touches, IsClear, IsApart}
use Rattle.hs_plan.specs.declared.change.Change.{Change}
use Rattle.hs_plan.specs.declared.change.Change.TheVariants as change
use Rattle.hs_index.specs.Table.{Rows}
use Rattle.hs_changes.specs.Changes.{settings_of, is_named}
use Rattle.hs_changes.specs.Settings.{Maps, Setting, set_row, set_rows, with_values}
use Rattle.hs_turns.specs.Database.{Database, view, committed, is_of_table, is_definition}
use Rattle.hs_turns.proofs.Tables.{Frame, frame_stays, table_stays}
use Rattle.hs_turns.specs.Each.{Each, Across}
use Rattle.hs_turns.specs.Language.{Agree, IsWithin, IsRowWithin}
use Rattle.hs_turns.specs.Promises.{NoCommonRow}
use Rattle.hs_turns.proofs.Lists.{each_map, each_none, some_of}

-- ---- within the footprint of some statement

abbrev pub WithinSome : List Footprint → Change → Type 0
WithinSome [] c = ⊥
WithinSome (f ∷ fs) c = IsWithin f c ⊎ WithinSome fs c

abbrev pub IsWithinFeet : List Footprint → List Change → Type 0
IsWithinFeet feet changes = Each (WithinSome feet) changes

-- some statement of these writes the table
abbrev pub Writes : List Footprint → ℕ → Type 0
Writes [] t = ⊥
Writes (f ∷ fs) t = (has_table t f.writes ≡ true) ⊎ Writes fs t

-- some statement of these changes the row
abbrev pub ChangesRow : List Footprint → ℕ → ℕ → Type 0
ChangesRow [] t r = ⊥
ChangesRow (f ∷ fs) t r = (has_row t r f.rows ≡ true) ⊎ ChangesRow fs t r

-- ---- a change is of a table that is written, and is no definition

same_table : (f : Footprint) (t u : ℕ) → (t == u) ≡ true → has_table u f.writes ≡ true → has_table t f.writes ≡ true
same_table f t u is h = ap (λ (x : ℕ). has_table x f.writes) (eqb-true t u is) ∙ h

one_writes : (f : Footprint) (t : ℕ) (c : Change) → IsWithin f c → is_of_table t c ≡ true → has_table t f.writes ≡ true
one_writes f t (change.Insert table values) h is = same_table f t table.0 is h
one_writes f t (change.Put table row values) h is = same_table f t table.0 is h.written
one_writes f t (change.Delete table row) h is = same_table f t table.0 is h.written
one_writes f t (change.Define definition) h is = absurd h

some_writes : (t : ℕ) (c : Change) → (fs : List Footprint) → WithinSome fs c → is_of_table t c ≡ true → Writes fs t
some_writes t c [] h is = absurd h
some_writes t c (f ∷ fs) (inl h) is = inl (one_writes f t c h is)
some_writes t c (f ∷ fs) (inr h) is = inr (some_writes t c fs h is)

one_is_no_definition : (f : Footprint) (c : Change) → IsWithin f c → is_definition c ≡ false
one_is_no_definition f (change.Insert table values) h = refl
one_is_no_definition f (change.Put table row values) h = refl
one_is_no_definition f (change.Delete table row) h = refl
one_is_no_definition f (change.Define definition) h = absurd h

is_no_definition : (c : Change) → (fs : List Footprint) → WithinSome fs c → is_definition c ≡ false
is_no_definition c [] h = absurd h
is_no_definition c (f ∷ fs) (inl h) = one_is_no_definition f c h
is_no_definition c (f ∷ fs) (inr h) = is_no_definition c fs h

pub no_definition : (fs : List Footprint) (cs : List Change) → IsWithinFeet fs cs → list_any is_definition cs ≡ false
no_definition fs cs h = each_none is_definition cs (each_map (WithinSome fs) (λ c. is_definition c ≡ false) (λ c w. is_no_definition c fs w) cs h)

-- changes of rows leave the catalogue as it is at their commit
pub same_things : (db : Database) (fs : List Footprint) (cs : List Change) → IsWithinFeet fs cs → (committed db cs).things ≡ db.things
same_things db fs cs h = ap (λ (f : Frame). f.things) (frame_stays db cs (no_definition fs cs h))

pub same_control : (db : Database) (fs : List Footprint) (cs : List Change) → IsWithinFeet fs cs → (committed db cs).control ≡ db.control
same_control db fs cs h = ap (λ (f : Frame). f.control) (frame_stays db cs (no_definition fs cs h))

-- ---- databases that agree

rows_agree : (t : ℕ) → (ss : List Setting) (a b : Maps) → a t ≡ b t → set_rows a ss t ≡ set_rows b ss t
rows_agree t [] a b h = h
rows_agree t (s ∷ ss) a b h = rows_agree t ss (set_row a s) (set_row b s) (ap (λ (rows : Rows). cond (t == s.table) (with_values rows s.row s.values) rows) h)

pub view_agrees : (f : Footprint) (cs : List Change) (a b : Database) → Agree f a b → Agree f (view a cs) (view b cs)
view_agrees f cs a b h = record { things = h.things; rows = λ t at. rows_agree t (settings_of 0 cs) a.rows b.rows (h.rows t at) }

apart_at : (f : Footprint) (t : ℕ) → (gs : List Footprint) → Each (IsApart f) gs → Writes gs t → touches f t ≡ false
apart_at f t [] h w = absurd w
apart_at f t (g ∷ gs) h (inl w) = h.0 t w
apart_at f t (g ∷ gs) h (inr w) = apart_at f t gs h.1 w

-- a change of others is of no table that this statement touches
apart_from : (f : Footprint) (gs : List Footprint) → Each (IsApart f) gs → (t : ℕ) → touches f t ≡ true → (c : Change) → WithinSome gs c → is_of_table t c ≡ false
apart_from f gs apart t at c w = by (is_of_table t c) refl
  where
    by : (b : Bool) → is_of_table t c ≡ b → is_of_table t c ≡ false
    by true is = absurd (let off = apart_at f t gs apart (some_writes t c gs w is) in cc)
    by false is = is

-- what others commit where this one neither reads nor writes
pub agree_after : (f : Footprint) (gs : List Footprint) → Each (IsApart f) gs → (cs : List Change) (db : Database) → IsWithinFeet gs cs → Agree f db (committed db cs)
agree_after f gs apart cs db h = record {
  things = sym (same_things db gs cs h);
  rows = λ t at. sym (table_stays db cs t (no_definition gs cs h) (each_none (is_of_table t) cs (each_map (WithinSome gs) (λ c. is_of_table t c ≡ false) (apart_from f gs apart t at) cs h)));
}

-- ---- rows of clear footprints

and_parts : (a b : Bool) → (a && b) ≡ true → (a ≡ true) × (b ≡ true)
and_parts true b h = (refl, h)
and_parts false b h = absurd cc

same_row : (f : Footprint) (t r u s : ℕ) → r < 2 ^ 63 → ((t == u) && (r == s)) ≡ true → IsRowWithin f u s → has_row t r f.rows ≡ true
same_row f t r u s old is h =
    let both = and_parts (t == u) (r == s) is in
    let rows : r ≡ s = eqb-true r s both.1 in
    ap₂ (λ (x y : ℕ). has_row x y f.rows) (eqb-true t u both.0) rows ∙ h.changed (subst_lt r s rows old)
  where
    subst_lt : (x y : ℕ) → x ≡ y → x < 2 ^ 63 → y < 2 ^ 63
    subst_lt x y e lt = omega (arith, e, lt)

one_row : (f : Footprint) (t r : ℕ) → r < 2 ^ 63 → (c : Change) → IsWithin f c → is_named t r c ≡ true → has_row t r f.rows ≡ true
one_row f t r old (change.Insert table values) h is = absurd cc
one_row f t r old (change.Put table row values) h is = same_row f t r table.0 row.0 old is h
one_row f t r old (change.Delete table row) h is = same_row f t r table.0 row.0 old is h
one_row f t r old (change.Define definition) h is = absurd h

some_row : (t r : ℕ) → r < 2 ^ 63 → (c : Change) → (fs : List Footprint) → WithinSome fs c → is_named t r c ≡ true → ChangesRow fs t r
some_row t r old c [] h is = absurd h
some_row t r old c (f ∷ fs) (inl h) is = inl (one_row f t r old c h is)
some_row t r old c (f ∷ fs) (inr h) is = inr (some_row t r old c fs h is)

row_at : (t r : ℕ) (f : Footprint) → has_row t r f.rows ≡ true → (gs : List Footprint) → Each (IsClear f) gs → ChangesRow gs t r → ⊥
row_at t r f at [] h w = w
row_at t r f at (g ∷ gs) h (inl w) = h.0.rows t r at w
row_at t r f at (g ∷ gs) h (inr w) = row_at t r f at gs h.1 w

rows_at : (t r : ℕ) (gs : List Footprint) → (fs : List Footprint) → Across IsClear fs gs → ChangesRow fs t r → ChangesRow gs t r → ⊥
rows_at t r gs [] h v w = v
rows_at t r gs (f ∷ fs) h (inl v) w = row_at t r f v gs h.0 w
rows_at t r gs (f ∷ fs) h (inr v) w = rows_at t r gs fs h.1 v w

-- the committed rows that changes name are among those that the statements change
abbrev pub NamesWithin : List Footprint → List Change → Type 0
NamesWithin fs cs = (t r : ℕ) → r < 2 ^ 63 → list_any (is_named t r) cs ≡ true → ChangesRow fs t r

pub names_within : (fs : List Footprint) (cs : List Change) → IsWithinFeet fs cs → NamesWithin fs cs
names_within fs cs h t r old at = some_of (WithinSome fs) (is_named t r) (ChangesRow fs t r) (λ c k is. some_row t r old c fs k is) cs h at

-- changes of clear footprints have no common row
pub other_rows : (fs gs : List Footprint) (cs ds : List Change) → Across IsClear fs gs → NamesWithin fs cs → NamesWithin gs ds → NoCommonRow cs ds
other_rows fs gs cs ds h v w t r old x y = rows_at t r gs fs h (v t r old x) (w t r old y)
