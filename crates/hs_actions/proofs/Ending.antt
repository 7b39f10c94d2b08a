-- The list of rows on which foreign keys act ends.
use Rattle.std.proofs.Common.{◌≡◌, ℕ, zero, suc, ◌+◌, ◌≤◌, Bool, true, false, not, ◌||◌, cond, if◌then◌else◌, ◌⊎◌, inl, inr, List, [], ◌∷◌, ◌++◌, length, map, filter, fold, Option, Some, None, Result, Ok, Err, refl, sym, ap, subst, ◌∙◌, arith, length-append}
use Rattle.std.proofs.lemmas.Bool.{or_parts, or_right}
use Rattle.std.specs.BTreeSet.{insert_key}
use Rattle.std.specs.Cmp.{nat_cmp_total, tied_itself}
use Rattle.std.specs.FinMap.{entries, get}
use Rattle.std.specs.List.{flat_map, list_any}
use Rattle.std.specs.Map.{lookup}
use Rattle.std.specs.Option.{option_map_or, unwrap_or}
use Rattle.std.specs.Ordering.{nat_cmp, eq_by_cmp, is_eq, match_ordering, ordering_then}
use Rattle.std.specs.declared.cmp.Ordering.{Ordering}
use Rattle.std.specs.declared.cmp.Ordering.TheVariants.{Less, Equal, Greater}
use Rattle.hs_base.specs.declared.numbers.RowName.{RowName}
use Rattle.hs_values.specs.declared.fault.EvalFault.{EvalFault}
use Rattle.hs_values.specs.declared.value.Value.{Value}
use Rattle.hs_index.specs.Keys.{key_in}
use Rattle.hs_index.specs.Table.{has_key}
use Rattle.hs_changes.specs.Settings.{Maps}
use Rattle.hs_actions.specs.declared.reference.Acted.{Acted}
use Rattle.hs_actions.specs.declared.reference.Reference.{Reference}
use Rattle.hs_actions.specs.Acting.{acts_at, effect}
use Rattle.hs_actions.specs.Referencing.{Keys, is, keys_on, all_keys}
use Rattle.hs_actions.specs.Work.{Work, acted_cmp, has_acted, now_acted, child_name, is_deleted, edit_of, is_now, is_left_out, settled, act, children_of, take_key, take_keys, step_on, step, steps, left_for, left_of, enough, worked, was}

-- ---- what was done

module _ (k : Acted) where
  still : (test : Acted → Bool) (acted : List Acted) → list_any test acted ≡ true → list_any test (insert_key acted_cmp acted k) ≡ true
  still test [] h = absurd (let no : false ≡ true = h in cc)
  still test (x ∷ xs) h = by (acted_cmp k x) (test x) refl (λ there. still test xs there) h
    where
      by : (o : Ordering) (b : Bool) → test x ≡ b → (list_any test xs ≡ true → list_any test (insert_key acted_cmp xs k) ≡ true) → (test x || list_any test xs) ≡ true → list_any test (match_ordering o (k ∷ x ∷ xs) (x ∷ xs) (x ∷ insert_key acted_cmp xs k)) ≡ true
      by Less b e more h = or_right (test k) (test x || list_any test xs) h
      by Equal b e more h = h
      by Greater true e more h = ap (λ b. b || list_any test (insert_key acted_cmp xs k)) e
      by Greater false e more h = or_right (test x) _ (more (sym (ap (λ b. b || list_any test xs) e) ∙ h))

  itself : is_eq (acted_cmp k k) ≡ true
  itself = ap is_eq (ap (λ o. ordering_then o (nat_cmp k.row.0 k.row.0)) (tied_itself nat_cmp_total k.place) ∙ tied_itself nat_cmp_total k.row.0)

  there : (acted : List Acted) → list_any (eq_by_cmp acted_cmp k) (insert_key acted_cmp acted k) ≡ true
  there [] = ap (λ b. b || false) itself
  there (x ∷ xs) = by (acted_cmp k x) refl (there xs)
    where
      by : (o : Ordering) → acted_cmp k x ≡ o → list_any (eq_by_cmp acted_cmp k) (insert_key acted_cmp xs k) ≡ true → list_any (eq_by_cmp acted_cmp k) (match_ordering o (k ∷ x ∷ xs) (x ∷ xs) (x ∷ insert_key acted_cmp xs k)) ≡ true
      by Less e more = ap (λ b. b || list_any (eq_by_cmp acted_cmp k) (x ∷ xs)) itself
      by Equal e more = ap (λ o. is_eq o || list_any (eq_by_cmp acted_cmp k) xs) e
      by Greater e more = or_right (is_eq (acted_cmp k x)) _ more

abbrev the : ℕ → ℕ → Acted
the place row = record { place = place; row = record { 0 = row } }

still_acted : (acted : List Acted) (place row p r : ℕ) → has_acted acted p r ≡ true → has_acted (now_acted acted place row) p r ≡ true
still_acted acted place row p r h = still (the place row) (eq_by_cmp acted_cmp (the p r)) acted h

has_now : (acted : List Acted) (place row : ℕ) → has_acted (now_acted acted place row) place row ≡ true
has_now acted place row = there (the place row) acted

-- ---- members of lists

abbrev pub IsIn : {X : Type 0} → X → List X → Type 0
IsIn x [] = ⊥
IsIn x (y ∷ ys) = (x ≡ y) ⊎ IsIn x ys

in_left : {X : Type 0} (x : X) (xs ys : List X) → IsIn x xs → IsIn x (xs ++ ys)
in_left x [] ys h = absurd h
in_left x (y ∷ xs) ys h = elim h [ inl e ↦ inl e | inr more ↦ inr (in_left x xs ys more) ]

in_right : {X : Type 0} (x : X) (xs ys : List X) → IsIn x ys → IsIn x (xs ++ ys)
in_right x [] ys h = h
in_right x (y ∷ xs) ys h = inr (in_right x xs ys h)

key_of_all : (keys : Keys) (table : ℕ) (key : Reference) → IsIn key (keys_on keys table) → IsIn key (all_keys keys)
key_of_all [] table key h = absurd h
key_of_all (e ∷ es) table key h = by (is table e.0) (λ more. key_of_all es table key more) h
  where
    by : (b : Bool) → (IsIn key (keys_on es table) → IsIn key (all_keys es)) → IsIn key (unwrap_or (cond b (Some e.1) (lookup (is table) es)) []) → IsIn key (e.1 ++ all_keys es)
    by true more h = in_left key e.1 (all_keys es) h
    by false more h = in_right key e.1 (all_keys es) (more h)

-- ---- what is left to do

abbrev numbers_among : List ℕ → List Value → List (ℕ × List Value) → List ℕ
numbers_among columns key es = map (λ e. e.0) (filter (λ e. has_key columns key (Some e.1)) es)

abbrev isnt : List Acted → ℕ → (ℕ × List Value) → Bool
isnt acted place e = not (has_acted acted place e.0)

module _ (acted : List Acted) (place row : ℕ) where
  abbrev marked : List Acted
  marked = now_acted acted place row

  -- for every foreign key no more is left
  fewer : (p : ℕ) (es : List (ℕ × List Value)) → length (filter (isnt marked p) es) ≤ length (filter (isnt acted p) es)
  fewer p [] = omega arith
  fewer p (e ∷ es) = by (has_acted acted p e.0) refl (has_acted marked p e.0) refl (fewer p es)
    where
      by : (b : Bool) → has_acted acted p e.0 ≡ b → (d : Bool) → has_acted marked p e.0 ≡ d → length (filter (isnt marked p) es) ≤ length (filter (isnt acted p) es)
          → length (cond (not d) (e ∷ filter (isnt marked p) es) (filter (isnt marked p) es)) ≤ length (cond (not b) (e ∷ filter (isnt acted p) es) (filter (isnt acted p) es))
      by true hb true hd more = more
      by true hb false hd more = absurd (let both : true ≡ false = sym (still_acted acted place row p e.0 hb) ∙ hd in cc)
      by false hb true hd more = omega arith
      by false hb false hd more = omega arith

  fewer_of : (before : Maps) (keys : List Reference) → left_of before marked keys ≤ left_of before acted keys
  fewer_of before [] = omega arith
  fewer_of before (key ∷ keys) = let here = fewer key.place (entries (before key.child.0)) in let rest = fewer_of before keys in omega arith

  -- for the one that acts on a row one less is left
  one_less : (columns : List ℕ) (key : List Value) (es : List (ℕ × List Value)) → has_acted acted place row ≡ false → IsIn row (numbers_among columns key es) → length (filter (isnt marked place) es) + 1 ≤ length (filter (isnt acted place) es)
  one_less columns key [] new h = absurd h
  one_less columns key (e ∷ es) new h = by (λ more. one_less columns key es new more) (has_key columns key (Some e.1)) h
    where
      here : row ≡ e.0 → (b : Bool) → has_acted acted place e.0 ≡ b → (d : Bool) → has_acted marked place e.0 ≡ d → length (cond (not d) (e ∷ filter (isnt marked place) es) (filter (isnt marked place) es)) + 1 ≤ length (cond (not b) (e ∷ filter (isnt acted place) es) (filter (isnt acted place) es))
      here same true hb d hd = absurd (let both : true ≡ false = sym hb ∙ ap (has_acted acted place) (sym same) ∙ new in cc)
      here same false hb true hd = let rest = fewer place es in omega arith
      here same false hb false hd = absurd (let both : true ≡ false = sym (has_now acted place row) ∙ ap (has_acted marked place) same ∙ hd in cc)

      later : (b : Bool) → has_acted acted place e.0 ≡ b → (d : Bool) → has_acted marked place e.0 ≡ d → length (filter (isnt marked place) es) + 1 ≤ length (filter (isnt acted place) es)
          → length (cond (not d) (e ∷ filter (isnt marked place) es) (filter (isnt marked place) es)) + 1 ≤ length (cond (not b) (e ∷ filter (isnt acted place) es) (filter (isnt acted place) es))
      later true hb true hd more = more
      later true hb false hd more = absurd (let both : true ≡ false = sym (still_acted acted place row place e.0 hb) ∙ hd in cc)
      later false hb true hd more = omega arith
      later false hb false hd more = omega arith

      by : (IsIn row (numbers_among columns key es) → length (filter (isnt marked place) es) + 1 ≤ length (filter (isnt acted place) es)) → (b : Bool) → IsIn row (map (λ x. x.0) (cond b (e ∷ filter (λ x. has_key columns key (Some x.1)) es) (filter (λ x. has_key columns key (Some x.1)) es))) → length (filter (isnt marked place) (e ∷ es)) + 1 ≤ length (filter (isnt acted place) (e ∷ es))
      by go true h = elim h [
        | inl same ↦ here same (has_acted acted place e.0) refl (has_acted marked place e.0) refl
        | inr more ↦ later (has_acted acted place e.0) refl (has_acted marked place e.0) refl (go more)
      ]
      by go false h = later (has_acted acted place e.0) refl (has_acted marked place e.0) refl (go h)

one_less_of : (acted : List Acted) (row : ℕ) (before : Maps) (old : List Value) (key : Reference) (keys : List Reference) → has_acted acted key.place row ≡ false → IsIn row (children_of before key old) → IsIn key keys
    → left_of before (now_acted acted key.place row) keys + 1 ≤ left_of before acted keys
one_less_of acted row before old key [] new child h = absurd h
one_less_of acted row before old key (k ∷ ks) new child h = elim h [
  | inl same ↦
      let here : left_for before (now_acted acted key.place row) key + 1 ≤ left_for before acted key = one_less acted key.place row key.columns (key_in key.parent_columns old) (entries (before key.child.0)) new child in
      let at : left_for before (now_acted acted key.place row) k + 1 ≤ left_for before acted k = subst (λ (x : Reference). left_for before (now_acted acted key.place row) x + 1 ≤ left_for before acted x) same here in
      let rest = fewer_of acted key.place row before ks in
      omega arith
  | inr more ↦
      let here = fewer acted key.place row k.place (entries (before k.child.0)) in
      let rest = one_less_of acted row before old key ks new child more in
      omega arith
]

-- ---- no step adds more than it takes

module _ (before : Maps) (keys : Keys) where
  abbrev weight : Work → ℕ
  weight work = enough before keys work

  abbrev after_acting : Reference → ℕ → Work → Work
  after_acting key row work = record work { acted = now_acted work.acted key.place row }

  settled_weight : (key : Reference) (row : ℕ) (work : Work) (r : Result (Option (List Value)) EvalFault) → weight (after_acting key row work) + 1 ≤ weight work → weight (settled (child_name key row) (after_acting key row work) r) ≤ weight work
  settled_weight key row work (Ok values) h = let longer = length-append work.list (child_name key row ∷ []) in omega arith
  settled_weight key row work (Err fault) h = omega arith

  act_weight : (key : Reference) (new : Option (List Value)) (old : List Value) (work : Work) (row : ℕ) → IsIn key (all_keys keys) → IsIn row (children_of before key old) → weight (act before key new work row) ≤ weight work
  act_weight key new old work row one child = by (is_left_out key work row) refl
    where
      by : (b : Bool) → is_left_out key work row ≡ b
          → weight (if b then work else settled (child_name key row) (after_acting key row work) (effect key new (unwrap_or (is_now before work.edits (child_name key row)) []))) ≤ weight work
      by true out = omega arith
      by false acts =
          let parts = or_parts (is_deleted (edit_of work.edits (child_name key row))) (has_acted work.acted key.place row) acts in
          let less = one_less_of work.acted row before old key (all_keys keys) parts.1 child one in
          settled_weight key row work _ (omega arith)

  acts_weight : (key : Reference) (new : Option (List Value)) (old : List Value) (rows : List ℕ) (work : Work) → IsIn key (all_keys keys) → ((row : ℕ) → IsIn row rows → IsIn row (children_of before key old)) → weight (fold (act before key new) work rows) ≤ weight work
  acts_weight key new old [] work one all = omega arith
  acts_weight key new old (row ∷ rows) work one all =
      let here = act_weight key new old work row one (all row (inl refl)) in
      let rest = acts_weight key new old rows (act before key new work row) one (λ r h. all r (inr h)) in
      omega arith

  take_weight : (name : RowName) (old : List Value) (work : Work) (key : Reference) → IsIn key (all_keys keys) → weight (take_key before name old work key) ≤ weight work
  take_weight name old work key one = by (acts_at key old (is_now before work.edits name))
    where
      by : (b : Bool) → weight (if b then fold (act before key (is_now before work.edits name)) work (children_of before key old) else work) ≤ weight work
      by true = acts_weight key (is_now before work.edits name) old (children_of before key old) work one (λ r h. h)
      by false = omega arith

  takes_weight : (name : RowName) (old : List Value) (ks : List Reference) (work : Work) → ((key : Reference) → IsIn key ks → IsIn key (all_keys keys)) → weight (fold (take_key before name old) work ks) ≤ weight work
  takes_weight name old [] work all = omega arith
  takes_weight name old (key ∷ ks) work all =
      let here = take_weight name old work key (all key (inl refl)) in
      let rest = takes_weight name old ks (take_key before name old work key) (λ k h. all k (inr h)) in
      omega arith

  worked_weight : (name : RowName) (work : Work) → weight (take_keys before keys name work) ≤ weight work
  worked_weight name work = by (was before name)
    where
      by : (o : Option (List Value)) → weight (option_map_or (λ old. fold (take_key before name old) work (keys_on keys name.table.0)) o work) ≤ weight work
      by None = omega arith
      by (Some old) = takes_weight name old (keys_on keys name.table.0) work (λ key h. key_of_all keys name.table.0 key h)

  -- ---- the list ends

  no_rows : (list : List RowName) → length list ≡ 0 → list ≡ []
  no_rows [] h = refl
  no_rows (x ∷ xs) h = absurd (omega arith)

  nothing_left : (work : Work) → work.list ≡ [] → step before keys work ≡ work
  nothing_left work h = ap (step_on before keys work) h

  pub steps_done : (n : ℕ) (work : Work) → work.list ≡ [] → steps n before keys work ≡ work
  steps_done zero work h = refl
  steps_done (suc n) work h = ap (steps n before keys) (nothing_left work h) ∙ steps_done n work h

  pub steps_end : (n : ℕ) (work : Work) → weight work ≤ n → (steps n before keys work).list ≡ []
  steps_end zero work h = no_rows work.list (omega arith)
  steps_end (suc n) work h = by (λ w less. steps_end n w less) work.list refl
    where
      by : ((w : Work) → weight w ≤ n → (steps n before keys w).list ≡ []) → (list : List RowName) → work.list ≡ list → (steps n before keys (step before keys work)).list ≡ []
      by go [] e = ap (λ (w : Work). w.list) (steps_done (suc n) work e) ∙ e
      by go (name ∷ rest) e =
          let less = worked_weight name (record work { list = rest }) in
          let long : length work.list ≡ suc (length rest) = ap length e in
          let is : step before keys work ≡ take_keys before keys name (record work { list = rest }) = ap (step_on before keys work) e in
          ap (λ (w : Work). (steps n before keys w).list) is ∙ go (take_keys before keys name (record work { list = rest })) (omega arith)

  pub list_ends : (work : Work) → (worked before keys work).list ≡ []
  list_ends work = steps_end (weight work) work (omega arith)

  pub ends_alike : (n m : ℕ) (work : Work) → (steps n before keys work).list ≡ [] → (steps m before keys work).list ≡ [] → steps n before keys work ≡ steps m before keys work
  ends_alike zero m work h g = sym (steps_done m work h)
  ends_alike (suc n) zero work h g = steps_done (suc n) work g
  ends_alike (suc n) (suc m) work h g = ends_alike n m (step before keys work) h g

  -- a step doesn't change what is reached
  pub worked_step : (work : Work) → worked before keys (step before keys work) ≡ worked before keys work
  worked_step work = ends_alike (suc (weight (step before keys work))) (weight work) work (list_ends (step before keys work)) (list_ends work)

  pub worked_done : (work : Work) → work.list ≡ [] → worked before keys work ≡ work
  worked_done work h = steps_done (weight work) work h

-- ---- a foreign key acts on a child row once

module _ (before : Maps) (key : Reference) (new : Option (List Value)) (work : Work) (row : ℕ) where
  abbrev begun : Work
  begun = record work { acted = now_acted work.acted key.place row }

  abbrev becomes : Result (Option (List Value)) EvalFault
  becomes = effect key new (unwrap_or (is_now before work.edits (child_name key row)) [])

  abbrev changed : Work
  changed = settled (child_name key row) begun becomes

  abbrev or_changed : Bool → Work
  or_changed b = if b then work else changed

  settled_acted : (w : Work) (r : Result (Option (List Value)) EvalFault) → (settled (child_name key row) w r).acted ≡ w.acted
  settled_acted w (Ok values) = refl
  settled_acted w (Err fault) = refl

  pub not_again : has_acted work.acted key.place row ≡ true → act before key new work row ≡ work
  not_again h = ap or_changed (or_right (is_deleted (edit_of work.edits (child_name key row))) (has_acted work.acted key.place row) h)

  pub acted_then : is_left_out key work row ≡ false → has_acted (act before key new work row).acted key.place row ≡ true
  acted_then h = ap (λ b. has_acted (or_changed b).acted key.place row) h ∙ ap (λ acted. has_acted acted key.place row) (settled_acted begun becomes) ∙ has_now work.acted key.place row

  pub acted_still : (place other : ℕ) → has_acted work.acted place other ≡ true → has_acted (act before key new work row).acted place other ≡ true
  acted_still place other h = by (is_left_out key work row)
    where
      by : (b : Bool) → has_acted (or_changed b).acted place other ≡ true
      by true = h
      by false = ap (λ acted. has_acted acted place other) (settled_acted begun becomes) ∙ still_acted work.acted key.place row place other h
