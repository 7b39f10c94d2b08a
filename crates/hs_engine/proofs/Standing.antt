-- Stores that stand behind commits.
use Rattle.std.proofs.Common.{◌≡◌, ℕ, ◌||◌, Bool, true, false, List, [], ◌∷◌, ◌++◌, refl, sym, subst}
use Rattle.std.specs.List.{All, list_any}
use Rattle.std.proofs.lemmas.List.Elements.{All-cons, All-nil}
use Rattle.hs_turns.specs.Database.{Database, is_definition}
use Rattle.hs_entering.specs.Taken.{IsSettled}
use Rattle.hs_turns.specs.Histories.{Commit}
use Rattle.hs_instance.specs.declared.instance.Instance.{Instance}
use Rattle.hs_logged.specs.Logged.{IsBehind}
use Rattle.hs_logged.specs.Writable.{IsWritable}
use Rattle.hs_logged.specs.declared.logbook.Logbook.{Logbook}
use Rattle.hs_plan.specs.declared.change.Change.{Change}
use Rattle.hs_plan.specs.declared.change.Change.TheVariants as c
use Rattle.hs_instance.specs.Instance.{IsInstance}
use Rattle.hs_instance.specs.Lawful.{IsLawful, stands_for}
use Rattle.hs_instance.specs.declared.restoring.Restoring.{Restoring}
use Rattle.hs_tabletext.specs.Conditions.{Wording}
use Rattle.hs_schema.specs.Catalogue.{Things}
use Rattle.hs_seams.specs.Stores.{Commits, present}
use Rattle.hs_seams.specs.World.{World}
use Rattle.hs_seated.specs.Seated.{IsSeated}
use Rattle.hs_seated.specs.declared.seated.Seated.{Seated}
use Rattle.hs_engine.specs.Store.{IsHere, IsSqlWorld, Stands}

-- ---- the same database with other changes on it

pub with_rows : (db : Database) (seated others : List Change) (i : Instance) (rows : Seated) → IsInstance db seated i → IsSeated db.rows others rows → IsInstance db others (record i { seated = rows })
with_rows db seated others i rows is has = record { things = is.things; keys = is.keys; rows = has; count = is.count; level = is.level; control = is.control }

pub seated_so : (wording : Wording) (i j : Instance) (book : Logbook) (w : World) (commits : List Commit) (seated others : List Change) → Stands wording i book w commits seated → IsHere j w commits others → Stands wording j book w commits others
seated_so wording i j book w commits seated others stands here = record { start = stands.start; world = stands.world; lawful = record { is = here; sound = stands.lawful.sound }; behind = stands.behind }

-- ---- changes of rows can be written

not_either : (a b : Bool) → (a || b) ≡ false → (a ≡ false) × (b ≡ false)
not_either true b h = absurd (let no : true ≡ false = h in cc)
not_either false b h = (refl, h)

row_writable : (wording : Wording) (things : Things) (change : Change) → is_definition change ≡ false → IsWritable wording things change
row_writable wording things (c.Insert table values) h = tt
row_writable wording things (c.Put table row values) h = tt
row_writable wording things (c.Delete table row) h = tt
row_writable wording things (c.Define definition) h = absurd (let no : true ≡ false = h in cc)

pub rows_writable : (wording : Wording) (things : Things) (changes : List Change) → list_any is_definition changes ≡ false → All (IsWritable wording things) changes
rows_writable wording things [] h = All-nil (IsWritable wording things)
rows_writable wording things (x ∷ xs) h =
    let parts = not_either (is_definition x) (list_any is_definition xs) h in
    All-cons (IsWritable wording things) x xs (row_writable wording things x parts.0) (rows_writable wording things xs parts.1)

-- ---- one commit more

module _ (wording : Wording) (start old book : Logbook) (w : World) (commits : List Commit) (k : Commit) (world : IsSqlWorld wording start w) (seated : List Change) (i j : Restoring) (old_made made : List (List ℕ)) where
  pub behind_it : stands_for j (present w (commits ++ k ∷ [])) → IsBehind start w (commits ++ k ∷ []) book → Stands wording j.instance book w (commits ++ k ∷ []) []
  behind_it rests behind = record { start = start; world = world; lawful = rests; behind = behind }

  -- it was made
  pub made_so : IsSettled stands_for start w commits k i j old book old_made made true → Commits (Stands wording j.instance book) w commits seated k old_made made true
  made_so settled = record {
    room = settled.room;
    done = λ e. let done = settled.done e in (behind_it done.0 done.1, done.2);
    kept = λ e. absurd (let no : true ≡ false = e in cc);
  }

  -- it wasn't, and the changes are on the database as before
  pub left_so : {other : Restoring} → IsSettled stands_for start w commits k i other old book old_made made false → IsBehind start w commits old → IsLawful seated j.instance (present w commits)
      → Commits (Stands wording j.instance book) w commits seated k old_made made false
  left_so settled behind lawful = record {
    room = settled.room;
    done = λ e. absurd (let no : false ≡ true = e in cc);
    kept = λ e.
        let kept = settled.kept e in (
          record { start = start; world = world; lawful = lawful; behind = subst (IsBehind start w commits) (sym kept.1) behind },
          kept.2,
        );
  }

  -- the same of a definition
  pub defined_so : Stands wording i.instance old w commits [] → (b : Bool) → IsSettled stands_for start w commits k i j old book old_made made b → Commits (Stands wording j.instance book) w commits [] k old_made made b
  defined_so stands true settled = record {
    room = settled.room;
    done = λ e. let done = settled.done e in (behind_it done.0 done.1, done.2);
    kept = λ e. absurd (let no : true ≡ false = e in cc);
  }
  defined_so stands false settled = record {
    room = settled.room;
    done = λ e. absurd (let no : false ≡ true = e in cc);
    kept = λ e.
        let kept = settled.kept e in (
          subst (λ (p : Restoring × Logbook). Stands wording p.0.instance p.1 w commits []) (λ n. (sym kept.0 n, sym kept.1 n)) stands,
          kept.2,
        );
  }
