-- The tables that a statement reads and writes.
use Rattle.std.proofs.Common.{◌≡◌, ◌↔◌, ℕ, Bool, true, false, cond, not, ◌||◌, nat_eq, List, [], ◌∷◌, filter, map, refl, ap, sym, ◌∙◌, subst}
use Rattle.std.proofs.lemmas.List.Kept.{IsStrictlyIncreasing-filter}
use Rattle.std.specs.List.{flat_map, Contains}
use Rattle.std.specs.List.Sorted.{IsStrictlyIncreasing}
use Rattle.std.specs.Option.{option_map_or}
use Rattle.indexmap.specs.IndexSet.{insert_all}
use Rattle.hs_base.specs.declared.numbers.TableNo.{TableNo}
use Rattle.hs_plan.specs.declared.plan.Plan.{Plan}
use Rattle.hs_schema.specs.Catalogue.{Things, children_of, own, table_in}
use Rattle.hs_closure.specs.Changing.{follows, IsRead, IsWritten}
use Rattle.hs_closure.specs.Sets.{is_in, IsClosure}
use Rattle.hs_closure.specs.Steps.{delete_target, followers, numbers, update_target, IsExact}
use Rattle.hs_closure.specs.declared.way.Way.{Way}
use Rattle.hs_closure.specs.declared.way.Way.TheVariants as way
use Rattle.hs_closure.proofs.Answered.{HasNeeded, HasWritten, answers_read, answers_written, has_needed, has_written}
use Rattle.hs_closure.proofs.Exact.{exact}
use Rattle.hs_closure.proofs.Lists.{exactly}
use Rattle.hs_reached.specs.Reached.{all_tables, deleted_in, in_order, needed_in, put_in, tabled, tables_read, tables_written, updated_in, written_in}
use Rattle.hs_reached.proofs.Order.{ascends, same_numbers}
use Rattle.hs_reached.proofs.Reaching.{LeadOn, closure}

-- ---- only the tables of a catalogue lead on

neither : (a b : Bool) → (a || b) ≡ false → (a ≡ false) × (b ≡ false)
neither false b h = (refl, h)
neither true b h = let no : true ≡ false = h in absurd (cc)

none_own : (things : Things) (n : ℕ) → is_in (all_tables things) n ≡ false → own things (tabled n) ≡ []
none_own [] n h = refl
none_own (t ∷ things) n h =
    let p = neither (nat_eq n t.table.0) (is_in (all_tables things) n) h in
    ap (λ b. cond b (t ∷ own things (tabled n)) (own things (tabled n))) p.0 ∙ none_own things n p.1

followers_lead : (things : Things) (from to : Way) → LeadOn (followers things from to) (all_tables things)
followers_lead things from to = λ n h.
    ap (λ (l : Things). map (λ c. c.table.0) (filter (follows from to) (option_map_or (λ t. children_of things t.name) (table_in (tabled n) l) []))) (none_own things n h)

-- ---- the tables whose rows are changed

by_deletion : (things : Things) (plan : Plan) → IsClosure (followers things way.Deletion way.Deletion) (delete_target plan) (deleted_in things plan)
unfolding deleted_in
by_deletion things plan =
    closure (followers things way.Deletion way.Deletion) (all_tables things) (followers_lead things way.Deletion way.Deletion) (delete_target plan)

by_update : (things : Things) (plan : Plan)
    → IsClosure (followers things way.Update way.Update) (insert_all nat_eq (update_target plan) (flat_map (followers things way.Deletion way.Update) (deleted_in things plan))) (updated_in things plan)
unfolding updated_in
by_update things plan =
    closure (followers things way.Update way.Update) (all_tables things) (followers_lead things way.Update way.Update)
    (insert_all nat_eq (update_target plan) (flat_map (followers things way.Deletion way.Update) (deleted_in things plan)))

changed : (things : Things) (plan : Plan) → IsExact things plan (updated_in things plan) (deleted_in things plan)
changed things plan = exact things plan (updated_in things plan) (deleted_in things plan) (by_deletion things plan) (by_update things plan)

-- ---- the tables that are written, and those that are needed

writes : (things : Things) (plan : Plan) → HasWritten things plan (written_in things plan)
unfolding written_in
writes things plan =
    let two : List ℕ = insert_all nat_eq (put_in plan) (updated_in things plan) in
    has_written things plan (updated_in things plan) (deleted_in things plan) (put_in plan) two (insert_all nat_eq two (deleted_in things plan)) (changed things plan) refl refl refl

needs : (things : Things) (plan : Plan) → HasNeeded things plan (needed_in things plan)
unfolding needed_in
needs things plan = has_needed things plan (written_in things plan) _ (needed_in things plan) (writes things plan) refl refl

-- ---- as lists of tables

numbered : (ns : List ℕ) → numbers (map tabled ns) ≡ ns
numbered [] = refl
numbered (n ∷ ns) = ap (λ l. n ∷ l) (numbered ns)

all_kept : (ns : List ℕ) → filter (λ n. true) ns ≡ ns
all_kept [] = refl
all_kept (n ∷ ns) = ap (λ l. n ∷ l) (all_kept ns)

pub written : (things : Things) (plan : Plan) (table : TableNo) → Contains (tables_written things plan) table ↔ IsWritten things plan table
unfolding tables_written
written things plan =
    let set = written_in things plan in
    let ordered : List ℕ = in_order set in
    answers_written things plan set (map tabled ordered) (writes things plan) (exactly set ordered [] (map tabled ordered) (same_numbers set) (numbered ordered ∙ sym (all_kept ordered)))

pub read : (things : Things) (plan : Plan) (table : TableNo) → Contains (tables_read things plan) table ↔ IsRead things plan table
unfolding tables_read
read things plan =
    let set = needed_in things plan in
    let others = written_in things plan in
    let left : List ℕ = filter (λ n. not (is_in others n)) (in_order set) in
    answers_read things plan set others (map tabled left) (needs things plan) (writes things plan) (exactly set (in_order set) others (map tabled left) (same_numbers set) (numbered left))

-- ---- in order

listed : (ns : List ℕ) → IsStrictlyIncreasing ns → IsStrictlyIncreasing (numbers (map tabled ns))
listed ns up = subst IsStrictlyIncreasing (sym (numbered ns)) up

pub written_ascends : (things : Things) (plan : Plan) → IsStrictlyIncreasing (numbers (tables_written things plan))
unfolding tables_written
written_ascends things plan = listed (in_order (written_in things plan)) (ascends (written_in things plan))

pub read_ascends : (things : Things) (plan : Plan) → IsStrictlyIncreasing (numbers (tables_read things plan))
unfolding tables_read
read_ascends things plan =
    let test = λ (n : ℕ). not (is_in (written_in things plan) n) in
    let needed = in_order (needed_in things plan) in
    listed (filter test needed) (IsStrictlyIncreasing-filter test needed (ascends (needed_in things plan)))
