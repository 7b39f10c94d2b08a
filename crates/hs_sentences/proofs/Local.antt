-- Where all held before, the touched rows tell what holds afterwards.
use Rattle.std.proofs.Common.{◌≡◌, ℕ, Bool, true, false, not, ◌&&◌, ◌==◌, List, Option, Some, None, refl, sym, ap, ◌∙◌}
use Rattle.std.proofs.lemmas.Bool.{and_parts, and_from, not-true}
use Rattle.std.specs.Cmp.{eq_by_cmp_equiv, nat_eq_equiv}
use Rattle.std.specs.FinMap.{get}
use Rattle.hs_values.specs.declared.value.Value.{Value}
use Rattle.hs_values.specs.TotalOrder.{row_order_of_total}
use Rattle.hs_index.specs.Keys.{key_in, has_null, same_key}
use Rattle.hs_index.specs.Table.{Rows, has_key}
use Rattle.hs_index.proofs.Indexed.{same_key-symm, has_null-same}
use Rattle.hs_sentences.specs.Asking.{Test, any_row, any_of, is_one_of}
use Rattle.hs_sentences.specs.Sentences.{carries, is_double, is_orphan, is_missed}
use Rattle.hs_sentences.proofs.Looking.{Found, any_row-found, any_row-from, any_of-found, any_of-from, same_tests}

-- ---- keys

-- rows have equal keys alike
pub has_key-same : (columns : List ℕ) (a b : List Value) (row : Option (List Value)) → same_key a b ≡ true → has_key columns a row ≡ has_key columns b row
has_key-same columns a b None h = refl
has_key-same columns a b (Some row) h =
    ap (λ s. s && not (has_null a)) ((eq_by_cmp_equiv row_order_of_total).congr a b (key_in columns row) h)
    ∙ ap (λ n. same_key b (key_in columns row) && not n) (has_null-same a b h)

-- a row that has another's key: so has the other the row's
pub has_key-turned : (columns its : List ℕ) (a b : List Value) → has_key columns (key_in its a) (Some b) ≡ true → has_key its (key_in columns b) (Some a) ≡ true
has_key-turned columns its a b h =
    let parts = and_parts (same_key (key_in its a) (key_in columns b)) (not (has_null (key_in its a))) h in
    and_from (same_key (key_in columns b) (key_in its a)) (not (has_null (key_in columns b)))
    (same_key-symm (key_in columns b) (key_in its a) ∙ parts.0)
    (ap not (sym (has_null-same (key_in its a) (key_in columns b) parts.0)) ∙ parts.1)

-- ---- one table: the touched rows, and all others as they were

module _ (before after : Rows) (touched : List ℕ) (kept : (row : ℕ) → is_one_of touched row ≡ false → get after row ≡ get before row) where
  -- the row was there before, where it isn't touched
  was_there : (number : ℕ) (row : List Value) → is_one_of touched number ≡ false → get after number ≡ Some row → get before number ≡ Some row
  was_there number row untouched there = sym (kept number untouched) ∙ there

  is_there : (number : ℕ) (row : List Value) → is_one_of touched number ≡ false → get before number ≡ Some row → get after number ≡ Some row
  is_there number row untouched there = kept number untouched ∙ there

  -- a test of a row alone
  pub rows_local : (test : Test) → any_row test before ≡ false → any_row test after ≡ any_of touched test after
  rows_local test none = same_tests (any_row test after) (any_of touched test after) to from
    where
      by : (f : Found test after) → (b : Bool) → is_one_of touched f.number ≡ b → any_of touched test after ≡ true
      by f true one = any_of-from touched test after f.number f.row one f.there f.passes
      by f false untouched = absurd (let was = any_row-from test before f.number f.row (was_there f.number f.row untouched f.there) f.passes in let no : true ≡ false = sym was ∙ none in cc)

      to : any_row test after ≡ true → any_of touched test after ≡ true
      to h = let f : Found test after = any_row-found test after h in by f (is_one_of touched f.number) refl

      from : any_of touched test after ≡ true → any_row test after ≡ true
      from h = let f : Found test after = any_of-found touched test after h in any_row-from test after f.number f.row f.there f.passes

  -- a row with a key without NULL that another row has too
  pub doubles_local : (columns : List ℕ) → any_row (is_double columns before) before ≡ false → any_row (is_double columns after) after ≡ any_of touched (is_double columns after) after
  doubles_local columns none = same_tests (any_row (is_double columns after) after) (any_of touched (is_double columns after) after) to from
    where
      has_its : ℕ → List Value → Test
      has_its number row other its = not (other == number) && has_key columns (key_in columns row) (Some its)

      turned : (a b : ℕ) (x y : List Value) → has_its a x b y ≡ true → has_its b y a x ≡ true
      turned a b x y h =
          let parts = and_parts (not (b == a)) (has_key columns (key_in columns x) (Some y)) h in
          and_from (not (a == b)) (has_key columns (key_in columns y) (Some x)) (ap not (nat_eq_equiv.symm a b) ∙ parts.0) (has_key-turned columns columns x y parts.1)

      other_by : (n : ℕ) (row : List Value) (m : ℕ) (its : List Value) → is_one_of touched n ≡ false → get after n ≡ Some row → get after m ≡ Some its → has_its n row m its ≡ true
          → (b : Bool) → is_one_of touched m ≡ b → any_of touched (is_double columns after) after ≡ true
      other_by n row m its untouched there other both true one =
          any_of-from touched (is_double columns after) after m its one other (any_row-from (has_its m its) after n row there (turned n m row its both))
      other_by n row m its untouched there other both false still =
          absurd (let was = any_row-from (is_double columns before) before n row (was_there n row untouched there) (any_row-from (has_its n row) before m its (was_there m its still other) both) in let no : true ≡ false = sym was ∙ none in cc)

      by : (f : Found (is_double columns after) after) → (b : Bool) → is_one_of touched f.number ≡ b → any_of touched (is_double columns after) after ≡ true
      by f true one = any_of-from touched (is_double columns after) after f.number f.row one f.there f.passes
      by f false untouched =
          let g : Found (has_its f.number f.row) after = any_row-found (has_its f.number f.row) after f.passes in
          other_by f.number f.row g.number g.row untouched f.there g.there g.passes (is_one_of touched g.number) refl

      to : any_row (is_double columns after) after ≡ true → any_of touched (is_double columns after) after ≡ true
      to h = let f : Found (is_double columns after) after = any_row-found (is_double columns after) after h in by f (is_one_of touched f.number) refl

      from : any_of touched (is_double columns after) after ≡ true → any_row (is_double columns after) after ≡ true
      from h = let f : Found (is_double columns after) after = any_of-found touched (is_double columns after) after h in any_row-from (is_double columns after) after f.number f.row f.there f.passes

-- ---- a child and its parent

module _ (columns parent_columns : List ℕ) (before after parents_before parents_after : Rows) (touched touched_parents : List ℕ)
    (kept : (row : ℕ) → is_one_of touched row ≡ false → get after row ≡ get before row)
    (parents_kept : (row : ℕ) → is_one_of touched_parents row ≡ false → get parents_after row ≡ get parents_before row)
    (none : any_row (is_orphan columns parent_columns parents_before) before ≡ false)
    (put : any_of touched (is_orphan columns parent_columns parents_after) after ≡ false) where
  abbrev lost : Test
  lost = is_orphan columns parent_columns parents_after

  abbrev missed : Test
  missed = is_missed columns parent_columns parents_after after

  -- no row of the parent has one of two equal keys: none has the other
  none_has : (a b : List Value) → same_key a b ≡ true → any_row (carries parent_columns a) parents_after ≡ false → any_row (carries parent_columns b) parents_after ≡ false
  none_has a b same absent = by (any_row (carries parent_columns b) parents_after) refl
    where
      by : (t : Bool) → any_row (carries parent_columns b) parents_after ≡ t → any_row (carries parent_columns b) parents_after ≡ false
      by true h =
          let f : Found (carries parent_columns b) parents_after = any_row-found (carries parent_columns b) parents_after h in
          absurd (let has = any_row-from (carries parent_columns a) parents_after f.number f.row f.there (has_key-same parent_columns a b (Some f.row) same ∙ f.passes) in let both : true ≡ false = sym has ∙ absent in cc)
      by false h = h

  -- an orphan that isn't touched had a parent before, which is touched and missed
  parent_of : (n : ℕ) (row : List Value) → get after n ≡ Some row → lost n row ≡ true → (m : ℕ) (its : List Value) → get parents_before m ≡ Some its → carries parent_columns (key_in columns row) m its ≡ true
      → (b : Bool) → is_one_of touched_parents m ≡ b → any_of touched_parents missed parents_before ≡ true
  parent_of n row there orphan m its parent has true one =
      let alone = and_parts (not (has_null (key_in columns row))) (not (any_row (carries parent_columns (key_in columns row)) parents_after)) orphan in
      let same = and_parts (same_key (key_in columns row) (key_in parent_columns its)) (not (has_null (key_in columns row))) has in
      any_of-from touched_parents missed parents_before m its one parent (
      and_from (any_row (carries columns (key_in parent_columns its)) after) (not (any_row (carries parent_columns (key_in parent_columns its)) parents_after))
      (any_row-from (carries columns (key_in parent_columns its)) after n row there (has_key-turned parent_columns columns row its has))
      (ap not (none_has (key_in columns row) (key_in parent_columns its) same.0 (not-true _ alone.1)))
      )
  parent_of n row there orphan m its parent has false still =
      let alone = and_parts (not (has_null (key_in columns row))) (not (any_row (carries parent_columns (key_in columns row)) parents_after)) orphan in
      absurd (let found = any_row-from (carries parent_columns (key_in columns row)) parents_after m its (parents_kept m still ∙ parent) has in let both : true ≡ false = sym found ∙ not-true _ alone.1 in cc)

  had_parent : (n : ℕ) (row : List Value) → get after n ≡ Some row → get before n ≡ Some row → lost n row ≡ true → (b : Bool) → any_row (carries parent_columns (key_in columns row)) parents_before ≡ b → any_of touched_parents missed parents_before ≡ true
  had_parent n row there was orphan true h =
      let f : Found (carries parent_columns (key_in columns row)) parents_before = any_row-found (carries parent_columns (key_in columns row)) parents_before h in
      parent_of n row there orphan f.number f.row f.there f.passes (is_one_of touched_parents f.number) refl
  had_parent n row there was orphan false h =
      let alone = and_parts (not (has_null (key_in columns row))) (not (any_row (carries parent_columns (key_in columns row)) parents_after)) orphan in
      absurd (let orphan_before = any_row-from (is_orphan columns parent_columns parents_before) before n row was (and_from (not (has_null (key_in columns row))) (not (any_row (carries parent_columns (key_in columns row)) parents_before)) alone.0 (ap not h)) in let both : true ≡ false = sym orphan_before ∙ none in cc)

  pub orphans_local : any_row lost after ≡ any_of touched_parents missed parents_before
  orphans_local = same_tests (any_row lost after) (any_of touched_parents missed parents_before) to from
    where
      by : (f : Found lost after) → (b : Bool) → is_one_of touched f.number ≡ b → any_of touched_parents missed parents_before ≡ true
      by f true one = absurd (let is = any_of-from touched lost after f.number f.row one f.there f.passes in let both : true ≡ false = sym is ∙ put in cc)
      by f false untouched = had_parent f.number f.row f.there (sym (kept f.number untouched) ∙ f.there) f.passes (any_row (carries parent_columns (key_in columns f.row)) parents_before) refl

      to : any_row lost after ≡ true → any_of touched_parents missed parents_before ≡ true
      to h = let f : Found lost after = any_row-found lost after h in by f (is_one_of touched f.number) refl

      from : any_of touched_parents missed parents_before ≡ true → any_row lost after ≡ true
      from h =
          let f : Found missed parents_before = any_of-found touched_parents missed parents_before h in
          let parts = and_parts (any_row (carries columns (key_in parent_columns f.row)) after) (not (any_row (carries parent_columns (key_in parent_columns f.row)) parents_after)) f.passes in
          let child : Found (carries columns (key_in parent_columns f.row)) after = any_row-found (carries columns (key_in parent_columns f.row)) after parts.0 in
          let own = key_in columns child.row in
          let full = and_parts (same_key own (key_in parent_columns f.row)) (not (has_null own)) (has_key-turned columns parent_columns f.row child.row child.passes) in
          any_row-from lost after child.number child.row child.there (
          and_from (not (has_null own)) (not (any_row (carries parent_columns own) parents_after)) full.1
          (ap not (none_has (key_in parent_columns f.row) own (same_key-symm (key_in parent_columns f.row) own ∙ full.0) (not-true _ parts.1)))
          )
