-- Texts that are made again, one behind another.
use Rattle.std.proofs.Common.{◌≡◌, ℕ, ◌+◌, ◌<◌, ◌≤◌, Bool, true, false, List, [], ◌∷◌, ◌++◌, get_or, length, take, drop, refl, sym, ap, subst, ◌∙◌, arith}
use Rattle.std.specs.Prelude.{Option, Some, Result, Ok, Err, IfOk, IsErrAnd}
use Rattle.std.proofs.lemmas.List.{drop_more, length-take-le, take-append-drop, take_all, take_more}
use Rattle.hs_base.specs.declared.numbers.SessionNo.{SessionNo}
use Rattle.hs_committext.specs.Commits.{IsCommitText}
use Rattle.hs_turns.specs.Database.{Database, apply}
use Rattle.hs_plan.specs.declared.change.Change.{Change}
use Rattle.hs_logged.specs.declared.fault.ReplayFault.{ReplayFault}
use Rattle.hs_logged.specs.declared.fault.ReplayFault.TheVariants as fault
use Rattle.hs_tabletext.specs.Conditions.{Wording}
use Rattle.hs_schema.specs.Catalogue.{Things}
use Rattle.hs_logged.specs.Made.{Makes}
use Rattle.hs_logged.specs.Read.{AllStop, NextStops, Redoes, RedoesAll, Remakes, Restores, StandsFor}
use Rattle.hs_logged.specs.Redone.{AreRedone, IsFirstBroken, IsRedone, State, Takes, after}

pub if_ok : {T E : Type 0} (P Q : T → Type 0) (r : Result T E) → ((x : T) → P x → Q x) → IfOk r P → IfOk r Q
if_ok P Q (Ok x) f p = f x p
if_ok P Q (Err e) f p = tt

pub remade : {D : Type 0} (stands : D → Database → Type 0) (takes : Takes) (database : D) (last : Option SessionNo) (session : SessionNo) (at : State) (changes : List Change) (b : Bool)
    → last ≡ Some session → Makes takes (stands database) at.database changes b → Remakes takes (StandsFor stands database last) at session changes b
remade stands takes database last session at changes true is made = (made.0, record { held = made.1; behind = is })
remade stands takes database last session at changes false is made = made

module _ (wording : Wording) (takes : Takes) where
  -- ---- several texts

  pub behind : (first middle last : State) (texts more : List (List ℕ)) → AreRedone wording takes first texts middle → AreRedone wording takes middle more last → AreRedone wording takes first (texts ++ more) last
  behind first middle last [] more a b = subst (λ (m : State). AreRedone wording takes m more last) a b
  behind first middle last (t ∷ ts) more a b = (a.0, a.1, behind a.0 middle last ts more a.2 b)

  one_more : (first middle last : State) (texts : List (List ℕ)) (text : List ℕ) → AreRedone wording takes first texts middle → IsRedone wording takes middle text last → AreRedone wording takes first (texts ++ text ∷ []) last
  one_more first middle last texts text a b = behind first middle last texts (text ∷ []) a (last, b, refl)

  -- what stands before the last text
  pub record Before (first last : State) (texts : List (List ℕ)) (text : List ℕ) : Type 0 where
    pub middle : State
    pub made : AreRedone wording takes first texts middle
    pub one : IsRedone wording takes middle text last

  split : (first last : State) (texts : List (List ℕ)) (text : List ℕ) → AreRedone wording takes first (texts ++ text ∷ []) last → Before first last texts text
  split first last [] text a = record { middle = first; made = refl; one = subst (λ (n : State). IsRedone wording takes first text n) (sym a.2) a.1 }
  split first last (t ∷ ts) text a =
      let rest = split a.0 last ts text a.2 in
      record { middle = rest.middle; made = (a.0, a.1, rest.made); one = rest.one }

  pub kept : (is_valid : Database → Bool) → ((db : Database) (changes : List Change) → is_valid db ≡ true → takes db changes → is_valid (apply db changes) ≡ true)
      → (first last : State) (texts : List (List ℕ)) → AreRedone wording takes first texts last → is_valid first.database ≡ true → is_valid last.database ≡ true
  kept is_valid keeps first last [] a valid = ap (λ (s : State). is_valid s.database) a ∙ valid
  kept is_valid keeps first last (t ∷ ts) a valid =
      kept is_valid keeps a.0 last ts a.2 (ap (λ (s : State). is_valid s.database) a.1.is ∙ keeps first.database a.1.changes valid a.1.may)

  -- ---- one text

  moved : (at : State) (things : Things) (before : Option SessionNo) (text : List ℕ) (session : SessionNo) (changes : List Change) → things ≡ at.database.things → before ≡ at.last
      → IsCommitText wording things before text session changes → IsCommitText wording at.database.things at.last text session changes
  moved at things before text session changes same last is =
      subst (λ (b : Option SessionNo). IsCommitText wording at.database.things b text session changes) last
      (subst (λ (t : Things). IsCommitText wording t before text session changes) same is)

  back : (at : State) (things : Things) (before : Option SessionNo) (text : List ℕ) (session : SessionNo) (changes : List Change) → things ≡ at.database.things → before ≡ at.last
      → IsCommitText wording at.database.things at.last text session changes → IsCommitText wording things before text session changes
  back at things before text session changes same last is =
      subst (λ (b : Option SessionNo). IsCommitText wording things b text session changes) (sym last)
      (subst (λ (t : Things). IsCommitText wording t at.last text session changes) (sym same) is)

  -- the text is that of one commit, whose changes may be made or not
  pub redone : (Stands : State → Type 0) (at : State) (things : Things) (before : Option SessionNo) (text : List ℕ) (session : SessionNo) (changes : List Change) (may : Bool) → things ≡ at.database.things → before ≡ at.last
      → IsCommitText wording things before text session changes → ((p : SessionNo × List Change) → IsCommitText wording things before text p.0 p.1 → p ≡ (session, changes))
      → Remakes takes Stands at session changes may → Redoes wording takes Stands at text may
  redone Stands at things before text session changes true same last is only made = (
    after at session changes,
    record { session = session; changes = changes; of = moved at things before text session changes same last is; may = made.0; is = refl },
    (λ other o. o.is ∙ ap (λ (p : SessionNo × List Change). after at p.0 p.1) (only (o.session, o.changes) (back at things before text o.session o.changes same last o.of))),
    made.1,
  )
  redone Stands at things before text session changes false same last is only made =
      λ other o. made (subst (λ (p : SessionNo × List Change). takes at.database p.1) (only (o.session, o.changes) (back at things before text o.session o.changes same last o.of)) o.may)

  -- the text is that of no commit
  pub broken : (Stands : State → Type 0) (at : State) (things : Things) (before : Option SessionNo) (text : List ℕ) → things ≡ at.database.things → before ≡ at.last
      → ((p : SessionNo × List Change) → ¬ (IsCommitText wording things before text p.0 p.1)) → Redoes wording takes Stands at text false
  broken Stands at things before text same last none = λ other o. none (o.session, o.changes) (back at things before text o.session o.changes same last o.of)

  -- ---- text after text

  pub restored_more : (Stands Later : State → Type 0) (at : State) (texts : List (List ℕ)) (i : ℕ) (text : List ℕ) → i < length texts → text ≡ get_or texts i text
      → Restores wording takes Stands at (take i texts) → ((next : State) → Stands next → Redoes wording takes Later next text true) → Restores wording takes Later at (take (i + 1) texts)
  restored_more Stands Later at texts i text low is so_far step =
      let one = step so_far.0 so_far.3 in
      let longer : take (i + 1) texts ≡ take i texts ++ text ∷ [] = take_more texts i text low ∙ ap (λ (t : List ℕ). take i texts ++ t ∷ []) (sym is) in (
        one.0,
        subst (λ (ts : List (List ℕ)). AreRedone wording takes at ts one.0) (sym longer) (one_more at so_far.0 one.0 (take i texts) text so_far.1 one.1),
        (λ other o.
            let parts = split at other (take i texts) text (subst (λ (ts : List (List ℕ)). AreRedone wording takes at ts other) longer o) in
            one.2 other (subst (λ (m : State). IsRedone wording takes m text other) (so_far.2 parts.middle parts.made) parts.one)),
        one.3,
      )

  parts_at : (texts : List (List ℕ)) (i : ℕ) (text : List ℕ) → i < length texts → text ≡ get_or texts i text → texts ≡ take i texts ++ text ∷ drop (i + 1) texts
  parts_at texts i text low is =
      sym (take-append-drop i texts) ∙ ap (λ (l : List (List ℕ)). take i texts ++ l) (drop_more texts i text low ∙ ap (λ (t : List ℕ). t ∷ drop (i + 1) texts) (sym is))

  pub first_broken : (Stands Later : State → Type 0) (at : State) (texts : List (List ℕ)) (i number : ℕ) (text : List ℕ) → i < length texts → text ≡ get_or texts i text → number ≡ i + 1
      → Restores wording takes Stands at (take i texts) → ((next : State) → Stands next → Redoes wording takes Later next text false) → IsFirstBroken wording takes at texts number
  first_broken Stands Later at texts i number text low is count so_far step = record {
    good = take i texts;
    text = text;
    rest = drop (i + 1) texts;
    next = so_far.0;
    is = parts_at texts i text low is;
    count = let long = length-take-le i texts (omega (arith, low)) in omega (arith, count, long);
    made = so_far.1;
    nothing = step so_far.0 so_far.3;
  }

  pub restored_none : (Stands : State → Type 0) (at : State) → Stands at → Restores wording takes Stands at []
  restored_none Stands at stands = (at, refl, (λ other o. o), stands)

  pub restored_all : (Stands : State → Type 0) (at : State) (texts : List (List ℕ)) (i : ℕ) → length texts ≤ i → Restores wording takes Stands at (take i texts) → Restores wording takes Stands at texts
  restored_all Stands at texts i end so_far = subst (λ (ts : List (List ℕ)). Restores wording takes Stands at ts) (take_all i texts end) so_far

  stopped : (Stands Later : State → Type 0) (at : State) (texts : List (List ℕ)) (i number : ℕ) (text : List ℕ) → i < length texts → text ≡ get_or texts i text → number ≡ i + 1
      → Restores wording takes Stands at (take i texts) → (e : ReplayFault) → ((next : State) → Stands next → NextStops wording takes Later next number text e) → AllStop wording takes at texts e
  stopped Stands Later at texts i number text low is count so_far (fault.Broken told) step =
      let one = step so_far.0 so_far.3 in
      first_broken Stands Later at texts i told text low is (one.0 ∙ count) so_far (λ next stands. (step next stands).1)
  stopped Stands Later at texts i number text low is count so_far fault.NoMemory step = tt

  pub stopped_by : {T : Type 0} (Stands Later : State → Type 0) (at : State) (texts : List (List ℕ)) (i number : ℕ) (text : List ℕ) → i < length texts → text ≡ get_or texts i text → number ≡ i + 1
      → Restores wording takes Stands at (take i texts) → (r : Result T ReplayFault) (e : ReplayFault) → IsErrAnd r (λ x. x ≡ e) → ((next : State) → Stands next → NextStops wording takes Later next number text e) → RedoesAll wording takes Later at texts r
  stopped_by Stands Later at texts i number text low is count so_far (Ok x) e err step = absurd err
  stopped_by Stands Later at texts i number text low is count so_far (Err x) e err step = subst (AllStop wording takes at texts) (sym err) (stopped Stands Later at texts i number text low is count so_far e step)
