-- The commit of another transaction, of which this one is clear, leaves its changes described and valid.
use Rattle.std.proofs.Common.{◌≡◌, ◌⊎◌, inl, inr, ℕ, ◌^◌, ◌≤◌, ◌==◌, ◌||◌, true, false, List, Option, refl, sym, ap, ap₂, subst, ◌∙◌, arith}
use Rattle.std.specs.Prelude.{nat_le}
use Rattle.std.specs.FinMap.{get}
use Rattle.std.specs.List.{Contains, list_all}
use Rattle.std.proofs.lemmas.Bool.{and_from, and_parts, cases_Bool, eq-eqb, eqb-true, leb-true, or_cases}
use Rattle.hs_claims.specs.declared.footprint.Footprint.{Footprint}
use Rattle.hs_claims.specs.Footprint.{IsClear}
use Rattle.hs_plan.specs.declared.change.Change.{Change}
use Rattle.hs_values.specs.declared.value.Value.{Value}
use Rattle.hs_values.specs.SqlType.{row_fits}
use Rattle.hs_changes.specs.Changes.{count_all_inserted, settings_of}
use Rattle.hs_changes.specs.Settings.{Maps, Setting, is_set, last_values, names, set_rows}
use Rattle.hs_changes.proofs.Set.{get-set_rows, last_values-unset}
use Rattle.hs_schema.specs.Catalogue.{Things}
use Rattle.hs_turns.specs.Database.{Database, committed, has_room, view, IsNumbered}
use Rattle.hs_turns.specs.Numbers.{IsKnown, NamesKnown}
use Rattle.hs_turns.proofs.Applied.{committed-count}
use Rattle.hs_turns.proofs.Bounded.{committed_numbered}
use Rattle.hs_turns.specs.Each.{Across}
use Rattle.hs_language.specs.Described.{described, names_known, tell_of, tell_row, tell_setting}
use Rattle.hs_language.specs.Sql.{is_valid}
use Rattle.hs_language.specs.Validity.{lets_pass, types_in}
use Rattle.hs_validity.proofs.Finals.{Seen, seen_as}
use Rattle.hs_validity.proofs.Judged.{IsValid, valid_from, valid_to, valid_with}
use Rattle.hs_validity.proofs.Knowing.{names_later, names_to, set_known}
use Rattle.hs_validity.proofs.Lists.{all_at, all_from, any_found, any_from}
use Rattle.hs_validity.proofs.Merging.{each_row, met_both}
use Rattle.hs_validity.proofs.Placed.{IsFirsts, IsLeft, IsSeconds, Told}
use Rattle.hs_validity.proofs.Numbered.{known_in, still_numbered, things_stay, valid_committed, valid_parts, valid_whole}
use Rattle.hs_validity.proofs.Standing.{placed_in, referenced_in}
use Rattle.hs_validity.proofs.Telling.{Tells, clear_children, clear_keys, clear_parents, clear_rows, teller_of, told_where_set}

module _ (db : Database) (changes others : List Change) (feet other_feet : List Footprint) (numbered : IsNumbered db) (room : has_room db others ≡ true)
    (known : NamesKnown db.count 0 changes) (other_known : NamesKnown db.count 0 others)
    (all : list_all (tell_setting db.things feet db.rows (set_rows db.rows (settings_of 0 changes))) (settings_of 0 changes) ≡ true)
    (other_all : list_all (tell_setting db.things other_feet db.rows (set_rows db.rows (settings_of 0 others))) (settings_of 0 others) ≡ true)
    (clear : Across IsClear feet other_feet) where
  abbrev own : List Setting
  own = settings_of 0 changes

  abbrev theirs : List Setting
  theirs = settings_of 0 others

  abbrev next : Database
  next = committed db others

  -- the four states: before both, with each, and with both
  abbrev before : Maps
  before = db.rows

  abbrev first : Maps
  first = set_rows db.rows own

  abbrev second : Maps
  second = next.rows

  abbrev both : Maps
  both = set_rows next.rows own

  unset : (maps : Maps) (settings : List Setting) (table row : ℕ) → is_set table row settings ≡ false → get (set_rows maps settings table) row ≡ get (maps table) row
  unset maps settings table row none = get-set_rows maps settings table row ∙ last_values-unset table row (get (maps table) row) settings none

  -- ---- rows of this transaction

  -- one that is set was committed before, or this transaction inserted it
  own_known : (table row : ℕ) → is_set table row own ≡ true → IsKnown db.count (count_all_inserted changes) row
  own_known table row set =
      let s = any_found (names table row) own set in
      let parts = and_parts (table == s.0.table) (row == s.0.row) s.2 in
      subst (λ (r : ℕ). IsKnown db.count (count_all_inserted changes) r) (sym (eqb-true row s.0.row parts.1)) (set_known db.count (count_all_inserted changes) changes 0 (omega arith) known s.0 s.1)

  row_told : (fs : List Footprint) (table row : ℕ) → row ≤ db.count → (nat_le (2 ^ 63) row || tell_row fs table row) ≡ true → tell_row fs table row ≡ true
  row_told fs table row old h =
      let few = numbered.few in
      elim (or_cases (nat_le (2 ^ 63) row) (tell_row fs table row) h) [
        | inl above ↦ absurd (let high = leb-true (2 ^ 63) row above in omega (arith, high, old, few))
        | inr told ↦ told
      ]

  own_tells : (table row : ℕ) → is_set table row own ≡ true → Tells db.things feet table row (get (before table) row) (get (first table) row)
  own_tells table row set = told_where_set db.things feet before first own all table row set

  other_tells : (table row : ℕ) → is_set table row theirs ≡ true → Tells db.things other_feet table row (get (before table) row) (get ((view db others).rows table) row)
  other_tells table row set = told_where_set db.things other_feet before (view db others).rows theirs other_all table row set

  -- the other transaction left it
  stays : (table row : ℕ) → is_set table row own ≡ true → get (second table) row ≡ get (before table) row
  stays table row set = by (own_known table row set)
    where
      left : row ≤ db.count → Seen db others numbered other_known table row ⊎ (get (second table) row ≡ get (before table) row) → get (second table) row ≡ get (before table) row
      left old (inr same) = same
      left old (inl s) =
          let is = s.old old in
          s.now
          ∙ ap (get ((view db others).rows table)) is
          ∙ elim (cases_Bool (is_set table row theirs)) [
            | inl also ↦ absurd (clear_rows feet other_feet clear table row (row_told feet table row old (own_tells table row set).row_told) (row_told other_feet table row old (other_tells table row also).row_told))
            | inr none ↦ unset before theirs table row none
          ]

      by : IsKnown db.count (count_all_inserted changes) row → get (second table) row ≡ get (before table) row
      by (inl old) = left old (seen_as db others numbered other_known table row)
      by (inr k) =
          let is = k.2 in
          let few = numbered.few in
          let after : IsNumbered next = committed_numbered db others numbered other_known room in
          let most = after.few in
          after.above table row (omega (arith, is, most)) ∙ sym (numbered.above table row (omega (arith, is, few)))

  is_first : (table row : ℕ) → is_set table row own ≡ true → get (both table) row ≡ get (first table) row
  is_first table row set =
      get-set_rows second own table row
      ∙ ap (λ o. last_values table row o own) (stays table row set)
      ∙ sym (get-set_rows before own table row)

  -- ---- every row

  abbrev Turned : ℕ → ℕ → Type 0
  Turned table row = IsFirsts db.things (teller_of feet) before first second both table row ⊎ (IsSeconds db.things (teller_of other_feet) before first second both table row ⊎ IsLeft before first second both table row)

  turn : (table row : ℕ) → Turned table row
  turn table row = elim (cases_Bool (is_set table row own)) [
    | inl set ↦ inl (record { is = is_first table row set; stays = stays table row set; told = (own_tells table row set).told })
    | inr none ↦ inr (by (unset second own table row none) (unset before own table row none) (seen_as db others numbered other_known table row))
  ]
    where
      left : get (both table) row ≡ get (second table) row → get (first table) row ≡ get (before table) row → get (second table) row ≡ get (before table) row → IsLeft before first second both table row
      left is stay same = record { is = is ∙ same; in_first = stay; in_second = same }

      by : get (both table) row ≡ get (second table) row → get (first table) row ≡ get (before table) row → Seen db others numbered other_known table row ⊎ (get (second table) row ≡ get (before table) row)
          → IsSeconds db.things (teller_of other_feet) before first second both table row ⊎ IsLeft before first second both table row
      by is stay (inr same) = inr (left is stay same)
      by is stay (inl s) = elim (cases_Bool (is_set table s.row theirs)) [
        | inl set ↦ inl (record {
          is = is;
          stays = stay;
          told =
              subst (λ (o : Option (List Value)). Told db.things (teller_of other_feet) table o (get (second table) row)) (sym s.before)
              (subst (λ (o : Option (List Value)). Told db.things (teller_of other_feet) table (get (before table) s.row) o) (sym s.now) (other_tells table s.row set).told);
        })
        | inr none ↦ inr (left is stay (s.now ∙ unset before theirs table s.row none ∙ sym s.before))
      ]

  pub valid_both : IsValid db.things first → IsValid db.things second → IsValid db.things both
  valid_both f s =
      let keys = clear_keys feet other_feet clear in
      let parents = clear_parents feet other_feet clear in
      let children = clear_children feet other_feet clear in
      let placed = placed_in db.things f.sound in
      let referenced = referenced_in db.things f.sound in
      record {
        sound = f.sound;
        fits = λ t found.
            each_row lets_pass db.things (teller_of feet) (teller_of other_feet) keys parents children placed referenced before first second both turn f.met s.met
            (λ row. row_fits (types_in db.things t.table.0) row ≡ true) t.table.0 (f.fits t found) (s.fits t found);
        met = met_both lets_pass db.things (teller_of feet) (teller_of other_feet) keys parents children placed referenced before first second both turn f.met s.met;
      }

  -- ---- what is told

  set_here : (s : Setting) → Contains own s → is_set s.table s.row own ≡ true
  set_here s found = any_from (names s.table s.row) own s found (and_from (s.table == s.table) (s.row == s.row) (eq-eqb s.table s.table refl) (eq-eqb s.row s.row refl))

  pub described_next : described next changes feet ≡ true
  described_next =
      let more = committed-count db others in
      and_from (names_known next.count 0 changes) (list_all (tell_setting next.things feet second both) own)
      (names_to next.count 0 changes (names_later db.count next.count 0 changes (omega (arith, more)) known))
      (ap (λ (things : Things). list_all (tell_setting things feet second both) own) (things_stay db others other_known)
      ∙ all_from (tell_setting db.things feet second both) own (λ s found.
      let set = set_here s found in
      ap₂ (λ (old new : Option (List Value)). tell_of db.things feet s.table s.row old new) (stays s.table s.row set) (is_first s.table s.row set)
      ∙ all_at (tell_setting db.things feet before first) own s all found))

pub moved : (db : Database) (changes others : List Change) (feet other_feet : List Footprint) → (is_valid db ≡ true) × IsNumbered db → (described db changes feet ≡ true) × (is_valid (view db changes) ≡ true)
    → (described db others other_feet ≡ true) × (is_valid (view db others) ≡ true) → has_room db others ≡ true → Across IsClear feet other_feet → (described (committed db others) changes feet ≡ true) × (is_valid (view (committed db others) changes) ≡ true)
moved db changes others feet other_feet stands fine others_fine room clear =
    let known = known_in db changes feet fine.0 in
    let other_known = known_in db others other_feet others_fine.0 in
    let all = (and_parts (names_known db.count 0 changes) (list_all (tell_setting db.things feet db.rows (set_rows db.rows (settings_of 0 changes))) (settings_of 0 changes)) fine.0).1 in
    let other_all = (and_parts (names_known db.count 0 others) (list_all (tell_setting db.things other_feet db.rows (set_rows db.rows (settings_of 0 others))) (settings_of 0 others)) others_fine.0).1 in
    let f = valid_from db.things (set_rows db.rows (settings_of 0 changes)) (valid_parts (view db changes) fine.1).1 in
    let s = valid_committed db others stands.1 other_known (valid_from db.things (view db others).rows (valid_parts (view db others) others_fine.1).1) in
    let next = set_rows (committed db others).rows (settings_of 0 changes) in (
      described_next db changes others feet other_feet stands.1 room known other_known all other_all clear,
      valid_whole (view (committed db others) changes) (still_numbered db others other_known (valid_parts db stands.0).0)
          (ap (λ (things : Things). valid_with things next) (things_stay db others other_known)
          ∙ valid_to db.things next (valid_both db changes others feet other_feet stands.1 room known other_known all other_all clear f s)),
    )
