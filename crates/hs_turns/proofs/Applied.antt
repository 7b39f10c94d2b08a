-- Changes and commits, one after another.
use Rattle.std.proofs.Common.{◌≡◌, ℕ, ◌+◌, ◌≤◌, List, [], ◌∷◌, ◌++◌, length, fold, refl, ap, ◌∙◌, arith}
use Rattle.std.specs.Prelude.{Some, slice_get}
use Rattle.std.proofs.lemmas.List.{length-map, take-append-le}
use Rattle.std.proofs.lemmas.List.Sums.{fold-append, fold_more}
use Rattle.std.proofs.lemmas.Option.{slice_get_within, get_or_from_slice_get}
use Rattle.hs_plan.specs.declared.change.Change.{Change}
use Rattle.hs_plan.specs.declared.change.Change.TheVariants as change
use Rattle.hs_sessions.specs.declared.commit.Commit.{Commit}
use Rattle.hs_turns.specs.Database.{Database, make, apply, committed, after_commit, state}
use Rattle.hs_turns.specs.Numbers.{numbers_from, final_change, numbered}

pub apply-append : (db : Database) (xs ys : List Change) → apply db (xs ++ ys) ≡ apply (apply db xs) ys
apply-append db xs ys = fold-append make db xs ys

one_more : (db : Database) (c : Change) → (make db c).count ≡ db.count + 1
one_more db (change.Insert table values) = refl
one_more db (change.Put table row values) = refl
one_more db (change.Delete table row) = refl
one_more db (change.Define definition) = refl

pub apply-count : (db : Database) (changes : List Change) → (apply db changes).count ≡ db.count + length changes
apply-count db [] = omega arith
apply-count db (c ∷ cs) = let rest = apply-count (make db c) cs in let one = one_more db c in omega (arith, rest, one)

pub committed-count : (db : Database) (changes : List Change) → (committed db changes).count ≡ db.count + length changes
committed-count db changes = apply-count db (numbered db.count changes) ∙ ap (λ n. db.count + n) (length-map changes (final_change (numbers_from (db.count + 1) changes)))

pub state-next : (opening : Database) (commits : List Commit) (k : ℕ) (commit : Commit) → slice_get commits k ≡ Some commit → state opening commits (k + 1) ≡ after_commit (state opening commits k) commit
state-next opening commits k commit is =
    fold_more after_commit opening commits k commit (slice_get_within commits k commit is)
    ∙ ap (after_commit (state opening commits k)) (get_or_from_slice_get commits k commit commit is)

pub state-stays : (opening : Database) (commits more : List Commit) (k : ℕ) → k ≤ length commits → state opening (commits ++ more) k ≡ state opening commits k
state-stays opening commits more k h = ap (fold after_commit opening) (take-append-le k commits more h)
