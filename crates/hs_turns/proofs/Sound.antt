-- What holds of each open transaction, and of each two.
use Rattle.std.proofs.Common.{◌≡◌, ℕ, ◌≤◌, ◌==◌, ◌&&◌, not, Bool, true, false, cond, List, [], ◌∷◌, ◌++◌, length, drop, refl, sym, ap, ◌∙◌, subst, arith, length-append, le_refl}
use Rattle.std.specs.List.{flat_map}
use Rattle.std.proofs.lemmas.List.{take-append-le, take_all, drop_all, drop-append-le}
use Rattle.std.proofs.lemmas.List.Folds.{list_all-append}
use Rattle.std.proofs.lemmas.List.Sums.{fold-append}
use Rattle.hs_claims.specs.declared.claim.Claim.{Claim}
use Rattle.hs_claims.specs.declared.footprint.Footprint.{Footprint}
use Rattle.hs_claims.specs.declared.model.ControlKind.{ControlKind}
use Rattle.hs_claims.specs.declared.model.Level.{Level}
use Rattle.hs_claims.specs.declared.model.Level.TheVariants.{Ser, Snap}
use Rattle.hs_claims.specs.Compatible.{fits, fits_one}
use Rattle.hs_claims.specs.Footprint.{IsApart, IsClear, IsLawful}
use Rattle.hs_claims.specs.Wants.{catalog_claim, keeps_of, reads_start_of, offers}
use Rattle.hs_schema.specs.Catalogue.{Things}
use Rattle.hs_turns.specs.Database.{Database}
use Rattle.hs_turns.specs.Each.{Each, Across, EachTwo}
use Rattle.hs_turns.specs.Language.{Language, Laws, Agree, Stands, references_of}
use Rattle.hs_turns.specs.Transactions.{Trace, replay}
use Rattle.hs_turns.specs.Histories.{Open, Commit, make, now, state, held, others, own, commit_of}
use Rattle.hs_turns.specs.Events.{Event, fresh}
use Rattle.hs_turns.proofs.Kept.{Changes, Kept}
use Rattle.hs_turns.proofs.Lists.{each_map, each_append, each_true, each_filter}
use Rattle.hs_turns.proofs.Models.{offered}
use Rattle.hs_turns.proofs.Replay.{replay_moves}
use Rattle.hs_turns.proofs.Within.{IsWithinFeet, same_things, agree_after}

-- ---- what fits all that a transaction holds fits what each of its statements keeps

and_parts : (a b : Bool) → (a && b) ≡ true → (a ≡ true) × (b ≡ true)
and_parts true b h = (refl, h)
and_parts false b h = absurd cc

kept_fits : (kind : ControlKind) (wanted : List Claim) (level : Level) (ro : Bool) → (fs : List Footprint) → fits wanted (flat_map (keeps_of kind level ro) fs) ≡ true → Each (λ g. fits wanted (keeps_of kind level ro g) ≡ true) fs
kept_fits kind wanted level ro [] h = tt
kept_fits kind wanted level ro (f ∷ fs) h =
    let both = and_parts (fits wanted (keeps_of kind level ro f)) (fits wanted (flat_map (keeps_of kind level ro) fs)) (sym (list_all-append (fits_one wanted) (keeps_of kind level ro f) (flat_map (keeps_of kind level ro) fs)) ∙ h) in
    (both.0, kept_fits kind wanted level ro fs both.1)

pub each_fits : (kind : ControlKind) (wanted : List Claim) (level : Level) (ro : Bool) (fs : List Footprint) → fits wanted (held kind level ro fs) ≡ true → Each (λ g. fits wanted (keeps_of kind level ro g) ≡ true) fs
each_fits kind wanted level ro fs h = kept_fits kind wanted level ro fs (and_parts (fits_one wanted (catalog_claim false)) (fits wanted (flat_map (keeps_of kind level ro) fs)) h).1

-- ---- states

pub state_more : (opening : Database) (commits more : List Commit) (k : ℕ) → k ≤ length commits → state opening (commits ++ more) k ≡ state opening commits k
state_more opening commits more k h = ap (λ (cs : List Commit). now opening cs) (take-append-le k commits more h)

pub state_now : (opening : Database) (commits : List Commit) → state opening commits (length commits) ≡ now opening commits
state_now opening commits = ap (λ (cs : List Commit). now opening cs) (take_all (length commits) commits (le_refl (length commits)))

pub now_more : (opening : Database) (commits : List Commit) (k : Commit) → now opening (commits ++ k ∷ []) ≡ make (now opening commits) k
now_more opening commits k = fold-append make opening commits (k ∷ [])

-- ---- one transaction, and two

-- the first is apart from the second where it is serializable and reads the present state, and clear of it anyway
pub record Meets (kind : ControlKind) (tl : Level) (tr : Bool) (tf uf : List Footprint) : Type 0 where
  pub apart : tl ≡ Ser → reads_start_of kind tl tr ≡ false → Across IsApart tf uf
  pub clear : Across IsClear tf uf

abbrev pub Between : ControlKind → Open → Open → Type 0
Between kind t u = Meets kind t.level t.read_only t.trace.feet u.trace.feet

abbrev pub AreLawful : Things → Commit → Type 0
AreLawful things k = Each (IsLawful (references_of things) k.read_only) k.feet

abbrev pub HasNone : Changes → Type 0
HasNone cs = cs ≡ []

pub record Sound (lang : Language) (kind : ControlKind) (opening : Database) (commits : List Commit) (o : Open) : Type 0 where
  pub started : o.start ≤ length commits
  pub offers_it : offers kind o.level ≡ true
  -- one catalogue from its start on, over which its statements and those of the commits since are lawful
  pub things : (state opening commits o.start).things ≡ (now opening commits).things
  pub lawful : Each (IsLawful (references_of (now opening commits).things) o.read_only) o.trace.feet
  pub newer_lawful : Each (AreLawful (now opening commits).things) (drop o.start commits)
  pub reader : o.read_only ≡ true → Kept HasNone o.trace
  pub within : Kept (IsWithinFeet o.trace.feet) o.trace
  pub snapshot : reads_start_of kind o.level o.read_only ≡ true → o.trace ≡ replay lang o.read_only (state opening commits o.start) o.statements
  pub serial : reads_start_of kind o.level o.read_only ≡ false → o.level ≡ Ser → o.trace ≡ replay lang o.read_only (now opening commits) o.statements
  pub first : o.level ≡ Snap → Each (λ k. Across IsClear o.trace.feet k.feet) (drop o.start commits)

-- ---- the transaction of a session, and the others

own_cond : (P : Open → Type 0) (b : Bool) (o p : Open) → P o → P p → P (cond b o p)
own_cond P true o p h k = h
own_cond P false o p h k = k

pub own_each : (P : Open → Type 0) (s : ℕ) (f : Open) → P f → (os : List Open) → Each P os → P (own s f os)
own_each P s f is [] h = is
own_each P s f is (o ∷ os) h = own_cond P (o.session == s) o (own s f os) h.0 (own_each P s f is os h.1)

split_cond : (R : Open → Open → Type 0) (b : Bool) (o p : Open) (rest : List Open) → Each (λ u. R o u × R u o) rest → R p o × R o p → Each (λ u. R p u × R u p) rest → Each (λ u. R (cond b o p) u × R u (cond b o p)) (cond (not b) (o ∷ rest) rest)
split_cond R true o p rest h one k = h
split_cond R false o p rest h one k = (one, k)

pub own_two : (R : Open → Open → Type 0) (s : ℕ) (f : Open) → (os : List Open) → Each (λ u. R f u × R u f) os → EachTwo R os → Each (λ u. R (own s f os) u × R u (own s f os)) (others s os)
own_two R s f [] h k = tt
own_two R s f (o ∷ os) h k = split_cond R (o.session == s) o (own s f os) (others s os)
    (each_filter (λ u. R o u × R u o) (λ u. not (u.session == s)) os k.0)
    (own_each (λ p. R p o × R o p) s f h.0 os (each_map (λ y. R o y × R y o) (λ y. R y o × R o y) (λ y both. (both.1, both.0)) os k.0))
    (own_two R s f os h.1 k.1)

-- ---- transactions, over one model

module _ (lang : Language) (laws : Laws lang) (kind : ControlKind) (opening : Database) where
  abbrev pub after : List Commit → Open → List Commit
  after commits o = commits ++ commit_of o ∷ []

  pub fresh_sound : (e : Event) (commits : List Commit) → Sound lang kind opening commits (fresh kind e (length commits))
  fresh_sound e commits = record {
    started = le_refl (length commits);
    offers_it = offered kind e.isolation;
    things = ap (λ (d : Database). d.things) (state_now opening commits);
    lawful = tt;
    newer_lawful = subst (Each (AreLawful (now opening commits).things)) (sym (drop_all (length commits) commits (le_refl (length commits)))) tt;
    reader = λ ro. record { stands = refl; points = tt; ordered = tt };
    within = record { stands = tt; points = tt; ordered = tt };
    snapshot = λ rs. refl;
    serial = λ rs at. refl;
    first = λ at. each_true (λ k. Unit {0}) (λ k. tt) (drop (length commits) commits);
  }

  pub fresh_between : (e : Event) (n : ℕ) (u : Open) → Between kind (fresh kind e n) u × Between kind u (fresh kind e n)
  fresh_between e n u = (record { apart = λ at rs. tt; clear = tt }, record { apart = λ at rs. each_true (λ f. Unit {0}) (λ f. tt) u.trace.feet; clear = each_true (λ f. Unit {0}) (λ f. tt) u.trace.feet })

  pub things_after : (commits : List Commit) (o : Open) → IsWithinFeet o.trace.feet o.trace.changes → (now opening (after commits o)).things ≡ (now opening commits).things
  things_after commits o within = ap (λ (d : Database). d.things) (now_more opening commits (commit_of o)) ∙ same_things (now opening commits) o.trace.feet o.trace.changes within

  -- another one commits
  pub others_sound : (commits : List Commit) (o u : Open) → Stands lang (now opening commits) → Stands lang (now opening (after commits o))
      → Sound lang kind opening commits o → Sound lang kind opening commits u → Between kind u o → Sound lang kind opening (after commits o) u
  others_sound commits o u v w so su b =
      let db = now opening commits in
      let k = commit_of o in
      let next : now opening (after commits o) ≡ make db k = now_more opening commits k in
      let same = things_after commits o so.within.stands in
      let start = state_more opening commits (k ∷ []) u.start su.started in
      let newer = drop-append-le u.start commits (k ∷ []) su.started in
      record {
        started = let len = length-append commits (k ∷ []) in let s = su.started in omega (arith, s, len);
        offers_it = su.offers_it;
        things = ap (λ (d : Database). d.things) start ∙ su.things ∙ sym same;
        lawful = subst (λ (ts : Things). Each (IsLawful (references_of ts) u.read_only) u.trace.feet) (sym same) su.lawful;
        newer_lawful = subst (λ (ts : Things). Each (AreLawful ts) (drop u.start (after commits o))) (sym same)
            (subst (Each (AreLawful db.things)) (sym newer) (each_append (AreLawful db.things) (drop u.start commits) (k ∷ []) su.newer_lawful (so.lawful, tt)));
        reader = su.reader;
        within = su.within;
        snapshot = λ rs. su.snapshot rs ∙ ap (λ (d : Database). replay lang u.read_only d u.statements) (sym start);
        serial = λ rs at.
            let was = su.serial rs at in
            let agrees : Each (λ f. Agree f db (make db k)) u.trace.feet = each_map (λ f. Each (IsApart f) o.trace.feet) (λ f. Agree f db (make db k)) (λ f apart. agree_after f o.trace.feet apart o.trace.changes db so.within.stands) u.trace.feet (b.apart at rs) in
            let moves = replay_moves lang laws u.read_only db (make db k) v (subst (Stands lang) next w) u.statements (subst (λ (t : Trace). Each (λ f. Agree f db (make db k)) t.feet) was agrees) in
            was ∙ sym moves ∙ ap (λ (d : Database). replay lang u.read_only d u.statements) (sym next);
        first = λ at. subst (Each (λ (k : Commit). Across IsClear u.trace.feet k.feet)) (sym newer) (each_append (λ (k : Commit). Across IsClear u.trace.feet k.feet) (drop u.start commits) (k ∷ []) (su.first at) (b.clear, tt));
      }
