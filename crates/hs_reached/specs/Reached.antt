-- The tables that a statement reads and those that it writes, as ascending lists.
use Rattle.std.specs.Prelude.{ℕ, zero, suc, ◌+◌, nat_eq, nat_lt, not, if◌then◌else◌, List, [], ◌∷◌, ◌++◌, filter, length, map}
use Rattle.std.specs.List.{flat_map}
use Rattle.indexmap.specs.IndexSet.{insert_all}
use Rattle.hs_base.specs.declared.numbers.TableNo.{TableNo}
use Rattle.hs_closure.specs.Changing.{put_or_locked}
use Rattle.hs_closure.specs.Sets.{is_in}
use Rattle.hs_closure.specs.Steps.{delete_target, followers, neighbours_of, numbers, update_target}
use Rattle.hs_closure.specs.declared.way.Way.TheVariants as way
use Rattle.hs_plan.specs.Named.{named_in_plan}
use Rattle.hs_plan.specs.declared.plan.Plan.{Plan}
use Rattle.hs_schema.specs.Catalogue.{Things}

-- ---- what is reached from some numbers

-- those seen, and those reached from others that are to be looked at, in so many looks at most
unfoldable pub seen_after : (ℕ → List ℕ) → ℕ → List ℕ → List ℕ → List ℕ
seen_after next zero ahead seen = seen
seen_after next (suc n) [] seen = seen
seen_after next (suc n) (x ∷ ahead) seen = if is_in seen x then seen_after next n ahead seen else seen_after next n (next x ++ ahead) (x ∷ seen)

-- how many looks the numbers that aren't seen may cost
abbrev pub looks : (ℕ → List ℕ) → List ℕ → List ℕ → ℕ
looks next seen [] = 0
looks next seen (x ∷ all) = (if is_in seen x then 0 else length (next x) + 1) + looks next seen all

-- what is reached, where only these numbers lead on
abbrev pub reached : (ℕ → List ℕ) → List ℕ → List ℕ → List ℕ
reached next all old = seen_after next (length old + looks next [] all + 1) old []

-- ---- in order

-- with one number more in its place among ascending ones, where it isn't there yet
abbrev pub with_number : ℕ → List ℕ → List ℕ
with_number n [] = n ∷ []
with_number n (m ∷ ms) = if nat_lt n m then n ∷ m ∷ ms else if nat_lt m n then m ∷ with_number n ms else m ∷ ms

-- by ascending numbers, each once
abbrev pub in_order : List ℕ → List ℕ
in_order [] = []
in_order (n ∷ ns) = with_number n (in_order ns)

-- ---- tables

abbrev pub all_tables : Things → List ℕ
all_tables things = map (λ t. t.table.0) things

-- the tables of which the statement deletes rows, and those whose rows it changes otherwise
unfoldable pub deleted_in : Things → Plan → List ℕ
deleted_in things plan = reached (followers things way.Deletion way.Deletion) (all_tables things) (delete_target plan)

unfoldable pub updated_in : Things → Plan → List ℕ
updated_in things plan =
    let carried = flat_map (followers things way.Deletion way.Update) (deleted_in things plan) in
    reached (followers things way.Update way.Update) (all_tables things) (insert_all nat_eq (update_target plan) carried)

abbrev pub put_in : Plan → List ℕ
put_in plan = insert_all nat_eq [] (numbers (put_or_locked plan))

unfoldable pub written_in : Things → Plan → List ℕ
written_in things plan = insert_all nat_eq (insert_all nat_eq (put_in plan) (updated_in things plan)) (deleted_in things plan)

-- the tables that are named to be read, and those at which the constraints of written tables look
unfoldable pub needed_in : Things → Plan → List ℕ
needed_in things plan = insert_all nat_eq (insert_all nat_eq [] (numbers (named_in_plan plan))) (flat_map (neighbours_of things) (written_in things plan))

abbrev pub tabled : ℕ → TableNo
tabled n = record { 0 = n }

-- by ascending numbers, each once
unfoldable pub tables_written : Things → Plan → List TableNo
tables_written things plan = map tabled (in_order (written_in things plan))

-- so too; a table that is read and written counts as written
unfoldable pub tables_read : Things → Plan → List TableNo
tables_read things plan = map tabled (filter (λ n. not (is_in (written_in things plan) n)) (in_order (needed_in things plan)))
