-- Inserts that stay on the rows at their commit.
use Rattle.std.proofs.Common.{◌≡◌, ℕ, ◌+◌, ◌^◌, ◌<◌, ◌≤◌, ◌&&◌, ◌||◌, Bool, true, false, List, [], ◌∷◌, map, get_or, length, take, refl, sym, ap, ◌∙◌, subst, le-leb}
use Rattle.std.proofs.lemmas.Bool.{and_from}
use Rattle.std.proofs.lemmas.List.Folds.{list_all_more}
use Rattle.std.specs.List.{list_any}
use Rattle.hs_applicable.specs.Applicable.{may_make_all, may_make_each}
use Rattle.hs_applicable.proofs.Keeping.{all_sound}
use Rattle.hs_applicable.specs.SoundDatabase.{IsSoundDatabase}
use Rattle.hs_plan.specs.declared.change.Change.{Change}
use Rattle.hs_plan.specs.declared.change.Change.TheVariants as change
use Rattle.hs_turns.specs.Database.{Database, apply, has_room, is_definition}
use Rattle.hs_turns.specs.Numbers.{final_change, numbered, numbers_from}
use Rattle.hs_turns.proofs.Tables.{Frame}
use Rattle.hs_logged.specs.Made.{Makes}
use Rattle.hs_instance.specs.Instance.{IsInstance}
use Rattle.hs_instance.specs.Lawful.{IsLawful, takes}
use Rattle.hs_instance.specs.Staying.{are_inserts, is_insert}
use Rattle.hs_instance.specs.declared.instance.Instance.{Instance}
use Rattle.hs_instance.proofs.Behind.{frame_all}

-- none is a definition
pub row_kinds : (cs : List Change) → are_inserts cs ≡ true → list_any is_definition cs ≡ false
row_kinds [] all = refl
row_kinds (change.Insert table values ∷ cs) all = row_kinds cs all
row_kinds (change.Put table row values ∷ cs) all = absurd (let no : false ≡ true = all in cc)
row_kinds (change.Delete table row ∷ cs) all = absurd (let no : false ≡ true = all in cc)
row_kinds (change.Define definition ∷ cs) all = absurd (let no : false ≡ true = all in cc)

-- so the things are as they were
pub same_things : (db : Database) (cs : List Change) → are_inserts cs ≡ true → (apply db cs).things ≡ db.things
same_things db cs all = ap (λ (f : Frame). f.things) (frame_all db cs (row_kinds cs all))

-- they name no row
kept_numbers : (ns : List ℕ) (cs : List Change) → are_inserts cs ≡ true → map (final_change ns) cs ≡ cs
kept_numbers ns [] all = refl
kept_numbers ns (change.Insert table values ∷ cs) all = ap (λ (l : List Change). change.Insert table values ∷ l) (kept_numbers ns cs all)
kept_numbers ns (change.Put table row values ∷ cs) all = absurd (let no : false ≡ true = all in cc)
kept_numbers ns (change.Delete table row ∷ cs) all = absurd (let no : false ≡ true = all in cc)
kept_numbers ns (change.Define definition ∷ cs) all = absurd (let no : false ≡ true = all in cc)

-- one more
pub inserts_on : (cs : List Change) (i : ℕ) (c : Change) → i < length cs → c ≡ get_or cs i c → are_inserts (take i cs) ≡ true → is_insert c ≡ true → are_inserts (take (i + 1) cs) ≡ true
inserts_on cs i c low is before here =
    list_all_more is_insert cs i c low ∙ and_from (are_inserts (take i cs)) (is_insert (get_or cs i c)) before (ap is_insert (sym is) ∙ here)

-- their commit
pub stayed : (db : Database) (cs : List Change) → IsSoundDatabase db → (new : Instance) → db.count + length cs ≤ 2 ^ 48 → may_make_each db cs ≡ true → are_inserts cs ≡ true → IsInstance (apply db cs) [] new
    → Makes takes (IsLawful [] new) db (numbered db.count cs) true
stayed db cs sound new room each all is =
    let may : may_make_all db cs ≡ true = and_from (has_room db cs) (may_make_each db cs) (le-leb (db.count + length cs) (2 ^ 48) room) each in
    subst (λ (l : List Change). Makes takes (IsLawful [] new) db l true) (sym (kept_numbers (numbers_from (db.count + 1) cs) cs all)) (may, record { is = is; sound = all_sound db cs sound may })
