-- Open transactions leave valid databases, at their commit too.
use Rattle.std.proofs.Common.{◌≡◌, ◌⊎◌, inl, inr, ℕ, ◌≤◌, Bool, true, false, cond, List, [], ◌∷◌, ◌++◌, length, take, drop, refl, sym, ap, ◌∙◌, subst, le_refl}
use Rattle.std.proofs.lemmas.List.{drop_all, drop-append-le, take-append-drop}
use Rattle.std.proofs.lemmas.List.Sums.{fold-append}
use Rattle.hs_claims.specs.declared.footprint.Footprint.{Footprint}
use Rattle.hs_claims.specs.declared.model.ControlKind.{ControlKind}
use Rattle.hs_claims.specs.declared.model.Level.TheVariants.{Snap}
use Rattle.hs_claims.specs.Footprint.{IsClear}
use Rattle.hs_claims.specs.Wants.{reads_start_of}
use Rattle.hs_turns.specs.Database.{Database, has_room}
use Rattle.hs_turns.specs.Each.{Each, Across}
use Rattle.hs_turns.specs.Language.{Language, Laws, IsFine, Stands}
use Rattle.hs_turns.specs.Transactions.{Statement, settle}
use Rattle.hs_turns.specs.Histories.{Open, Commit, make, now, state, base, commit_of}
use Rattle.hs_turns.specs.Events.{Event, fresh, said}
use Rattle.hs_turns.proofs.Kept.{Changes, Kept, kept_map}
use Rattle.hs_turns.proofs.Models.{starts}
use Rattle.hs_turns.proofs.Replay.{nothing_fine, settle_fine}
use Rattle.hs_turns.proofs.Sound.{Sound, state_more, state_now, now_more}

-- each state is one that commits may lead to
abbrev pub AllStand : Language → Database → List Commit → Type 0
AllStand lang opening commits = (k : ℕ) → Stands lang (state opening commits k)

pub stands_now : (lang : Language) (opening : Database) (commits : List Commit) → AllStand lang opening commits → Stands lang (now opening commits)
stands_now lang opening commits v = subst (Stands lang) (state_now opening commits) (v (length commits))

-- it has a change
abbrev pub IsChanged : Changes → Type 0
IsChanged [] = ⊥
IsChanged (c ∷ cs) = Unit {0}

module _ (lang : Language) (laws : Laws lang) (kind : ControlKind) (opening : Database) where
  -- commits of transactions that were fine where they were made
  abbrev pub MadeOn : Database → List Commit → Type 0
  MadeOn db [] = Unit {0}
  MadeOn db (k ∷ ks) = IsFine lang db k.feet k.changes × (has_room db k.changes ≡ true) × MadeOn (make db k) ks

  -- a transaction is fine on the database that it reads, and so were those that committed since its start
  pub record Fine (commits : List Commit) (o : Open) : Type 0 where
    pub at_start : reads_start_of kind o.level o.read_only ≡ true → Kept (IsFine lang (state opening commits o.start) o.trace.feet) o.trace
    pub at_now : reads_start_of kind o.level o.read_only ≡ false → Kept (IsFine lang (now opening commits) o.trace.feet) o.trace
    pub made : reads_start_of kind o.level o.read_only ≡ true → MadeOn (state opening commits o.start) (drop o.start commits)

  -- what is fine stays fine over a commit that is clear of it
  passes : (db : Database) (k : Commit) (fs : List Footprint) (cs : Changes) → Stands lang db → IsFine lang db k.feet k.changes → has_room db k.changes ≡ true → Across IsClear fs k.feet → IsFine lang db fs cs → IsFine lang (make db k) fs cs
  passes db k fs cs v fine room clear h = laws.moved db cs k.changes fs k.feet v h fine room clear

  caught_up : (fs : List Footprint) (cs : Changes) → (ks : List Commit) (db : Database) → Stands lang db → MadeOn db ks → Each (λ (k : Commit). Across IsClear fs k.feet) ks → IsFine lang db fs cs → IsFine lang (now db ks) fs cs
  caught_up fs cs [] db v h clear fine = fine
  caught_up fs cs (k ∷ ks) db v h clear fine = caught_up fs cs ks (make db k) (laws.numbers db k.changes k.feet v h.0 h.1) h.2 clear.1 (passes db k fs cs v h.0 h.1 clear.0 fine)

  made_more : (k : Commit) → (ks : List Commit) (db : Database) → MadeOn db ks → IsFine lang (now db ks) k.feet k.changes → has_room (now db ks) k.changes ≡ true → MadeOn db (ks ++ k ∷ [])
  made_more k [] db h fine room = (fine, room, tt)
  made_more k (j ∷ ks) db h fine room = (h.0, h.1, made_more k ks (make db j) h.2 fine room)

  since : (commits : List Commit) (n : ℕ) → now (state opening commits n) (drop n commits) ≡ now opening commits
  since commits n = sym (fold-append make opening (take n commits) (drop n commits)) ∙ ap (λ (cs : List Commit). now opening cs) (take-append-drop n commits)

  -- ---- a transaction that may commit now

  ready_snap : (commits : List Commit) (o : Open) → AllStand lang opening commits → Sound lang kind opening commits o → Fine commits o → IsChanged o.trace.changes → reads_start_of kind o.level o.read_only ≡ true → (o.read_only ≡ true) ⊎ (o.level ≡ Snap)
      → IsFine lang (now opening commits) o.trace.feet o.trace.changes
  ready_snap commits o v s f some rs (inl ro) = absurd (subst IsChanged (s.reader ro).stands some)
  ready_snap commits o v s f some rs (inr at) = subst (λ (d : Database). IsFine lang d o.trace.feet o.trace.changes) (since commits o.start)
      (caught_up o.trace.feet o.trace.changes (drop o.start commits) (state opening commits o.start) (v o.start) (f.made rs) (s.first at) (f.at_start rs).stands)

  ready_by : (b : Bool) (commits : List Commit) (o : Open) → reads_start_of kind o.level o.read_only ≡ b → AllStand lang opening commits → Sound lang kind opening commits o → Fine commits o → IsChanged o.trace.changes → IsFine lang (now opening commits) o.trace.feet o.trace.changes
  ready_by true commits o rs v s f some = ready_snap commits o v s f some rs (starts kind o.level o.read_only rs)
  ready_by false commits o rs v s f some = (f.at_now rs).stands

  pub ready : (commits : List Commit) (o : Open) → AllStand lang opening commits → Sound lang kind opening commits o → Fine commits o → IsChanged o.trace.changes → IsFine lang (now opening commits) o.trace.feet o.trace.changes
  ready commits o v s f some = ready_by (reads_start_of kind o.level o.read_only) commits o refl v s f some

  pub stands_after : (commits : List Commit) (o : Open) → Stands lang (now opening commits) → IsFine lang (now opening commits) o.trace.feet o.trace.changes → has_room (now opening commits) o.trace.changes ≡ true → Stands lang (now opening (commits ++ commit_of o ∷ []))
  stands_after commits o v fine room = subst (Stands lang) (sym (now_more opening commits (commit_of o))) (laws.numbers (now opening commits) o.trace.changes o.trace.feet v fine room)

  -- ---- what another one's commit leaves

  pub others_fine : (commits : List Commit) (o u : Open) → Stands lang (now opening commits) → IsFine lang (now opening commits) o.trace.feet o.trace.changes → has_room (now opening commits) o.trace.changes ≡ true → Across IsClear u.trace.feet o.trace.feet → u.start ≤ length commits → Fine commits u
      → Fine (commits ++ commit_of o ∷ []) u
  others_fine commits o u v fine room clear started f =
      let k = commit_of o in
      let db = now opening commits in
      let stays = sym (state_more opening commits (k ∷ []) u.start started) in
      record {
        at_start = λ rs. subst (λ (d : Database). Kept (IsFine lang d u.trace.feet) u.trace) stays (f.at_start rs);
        at_now = λ rs. subst (λ (d : Database). Kept (IsFine lang d u.trace.feet) u.trace) (sym (now_more opening commits k))
            (kept_map (IsFine lang db u.trace.feet) (IsFine lang (make db k) u.trace.feet) (λ cs h. passes db k u.trace.feet cs v fine room clear h) u.trace.changes u.trace.savepoints (f.at_now rs));
        made = λ rs. subst (λ (d : Database). MadeOn d (drop u.start (commits ++ k ∷ []))) stays
            (subst (MadeOn (state opening commits u.start)) (sym (drop-append-le u.start commits (k ∷ []) started))
            (made_more k (drop u.start commits) (state opening commits u.start) (f.made rs)
            (subst (λ (d : Database). IsFine lang d k.feet k.changes) (sym (since commits u.start)) fine)
            (subst (λ (d : Database). has_room d k.changes ≡ true) (sym (since commits u.start)) room)));
      }

  -- ---- one statement more, and a new transaction

  pub said_fine : (commits : List Commit) (o : Open) (s : Statement) → AllStand lang opening commits → Fine commits o → Fine commits (said lang (base kind opening commits o) s o)
  said_fine commits o s v f =
      let start = state opening commits o.start in
      let present = now opening commits in
      let reads = λ (b : Bool). cond b start present in
      record {
        at_start = λ rs. subst (λ (d : Database). Kept (IsFine lang start (settle lang o.read_only d s o.trace).feet) (settle lang o.read_only d s o.trace)) (sym (ap reads rs)) (settle_fine lang laws o.read_only start (v o.start) s o.trace (f.at_start rs));
        at_now = λ rs. subst (λ (d : Database). Kept (IsFine lang present (settle lang o.read_only d s o.trace).feet) (settle lang o.read_only d s o.trace)) (sym (ap reads rs)) (settle_fine lang laws o.read_only present (stands_now lang opening commits v) s o.trace (f.at_now rs));
        made = f.made;
      }

  pub fresh_fine : (e : Event) (commits : List Commit) → Stands lang (now opening commits) → Fine commits (fresh kind e (length commits))
  fresh_fine e commits v =
      let v2 : Stands lang (state opening commits (length commits)) = subst (Stands lang) (sym (state_now opening commits)) v in
      record {
        at_start = λ rs. record { stands = nothing_fine lang laws e.read_only (state opening commits (length commits)) v2; points = tt; ordered = tt };
        at_now = λ rs. record { stands = nothing_fine lang laws e.read_only (now opening commits) v; points = tt; ordered = tt };
        made = λ rs. subst (MadeOn (state opening commits (length commits))) (sym (drop_all (length commits) commits (le_refl (length commits)))) tt;
      }
