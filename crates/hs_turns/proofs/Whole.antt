-- What each event keeps of a history: so the laws hold of all that are reached.
use Rattle.std.proofs.Common.{◌≡◌, ℕ, ◌==◌, not, leb, Bool, true, false, cond, List, [], ◌∷◌, ◌++◌, length, refl, sym, ap, ◌∙◌, subst, arith, length-append, leb-true, leb-false}
use Rattle.std.specs.Prelude.{Option, None, Some}
use Rattle.std.proofs.lemmas.List.{take_all}
use Rattle.hs_plan.specs.declared.change.Change.TheVariants as change
use Rattle.hs_plan.specs.declared.definition.Definition.{Definition}
use Rattle.hs_changes.specs.Changes.{count_all_inserted}
use Rattle.hs_schema.specs.Catalogue.{Text}
use Rattle.hs_turns.specs.Database.{Database, view, has_room}
use Rattle.hs_turns.specs.Definitions.{control_after}
use Rattle.hs_turns.proofs.Defined.{defined_numbered}
use Rattle.hs_turns.specs.Each.{Each, EachTwo}
use Rattle.hs_turns.specs.Language.{Language, Laws, Stands}
use Rattle.hs_turns.specs.Transactions.{Statement}
use Rattle.hs_turns.specs.Transactions.Statement.{Data, OnSession}
use Rattle.hs_turns.specs.Histories.{Open, Commit, History, now, state, base, newer, is_free, no_conflict, others, own, commit_of}
use Rattle.hs_turns.specs.Events.{Act, Event, fresh, finish, stays_open, commit_by, commit, said, judged, says, definition_commit, define_by, define, defines, by_act, step, reached}
use Rattle.hs_turns.specs.Events.Act.{Begins, Says, Commits, Leaves, Defines}
use Rattle.hs_turns.specs.Promises.{AreMade, IsCommitted}
use Rattle.hs_turns.proofs.Claimed.{Split, answered, controlled}
use Rattle.hs_turns.proofs.Ended.{Right, RowsWithin, committed_more, last_at, right_more, right_now}
use Rattle.hs_turns.proofs.Fine.{AllStand, Fine, IsChanged, ready, stands_after, stands_now, others_fine, fresh_fine}
use Rattle.hs_turns.proofs.Kept.{Changes}
use Rattle.hs_turns.proofs.Lists.{each_map, each_both, each_append, each_filter, each_true, each_put, two_put, two_filter}
use Rattle.hs_turns.proofs.Made.{made_by_definition, made_with, made_without}
use Rattle.hs_turns.proofs.Sound.{Between, Sound, now_more, state_more, own_each, own_two, fresh_sound, fresh_between, others_sound}
use Rattle.hs_turns.proofs.Within.{names_within, same_control}

module _ (lang : Language) (laws : Laws lang) (opening : Database) where
  pub record Whole (h : History) : Type 0 where
    pub each : Each (Sound lang h.kind opening h.commits) h.open_
    pub fine : Each (Fine lang laws h.kind opening h.commits) h.open_
    pub two : EachTwo (Between h.kind) h.open_
    pub ended : Each (Right lang opening h.commits) h.ended
    pub committed : Each (IsCommitted h.commits) h.ended
    pub made : AreMade h.commits h.ended
    pub within : Each RowsWithin h.commits
    pub stands : AllStand lang opening h.commits
    pub model : h.kind ≡ (now opening h.commits).control

  abbrev Splits : History → Open → ℕ → Type 0
  Splits h o who = Split lang laws h.kind opening h.commits o (others who h.open_)

  -- ---- states

  stands_by : (b : Bool) (commits : List Commit) (x : Commit) (k : ℕ) → leb k (length commits) ≡ b → AllStand lang opening commits → Stands lang (now opening (commits ++ x ∷ [])) → Stands lang (state opening (commits ++ x ∷ []) k)
  stands_by true commits x k is v w = subst (Stands lang) (sym (state_more opening commits (x ∷ []) k (leb-true k (length commits) is))) (v k)
  stands_by false commits x k is v w =
      let beyond = leb-false k (length commits) is in
      let len = length-append commits (x ∷ []) in
      subst (λ (cs : List Commit). Stands lang (now opening cs)) (sym (take_all k (commits ++ x ∷ []) (omega (arith, beyond, len)))) w

  stands_more : (commits : List Commit) (x : Commit) → AllStand lang opening commits → Stands lang (now opening (commits ++ x ∷ [])) → AllStand lang opening (commits ++ x ∷ [])
  stands_more commits x v w k = stands_by (leb k (length commits)) commits x k refl v w

  -- ---- what stays open, and what ends

  stays : (o : Open) (who : ℕ) (h : History) → Whole h → Splits h o who → Whole (stays_open o who h)
  stays o who h w s = record {
    each = each_put (Sound lang h.kind opening h.commits) who o s.own h.open_ s.others;
    fine = each_put (Fine lang laws h.kind opening h.commits) who o s.own_fine h.open_ s.others_fine;
    two = two_put (Between h.kind) who o h.open_ s.between s.two;
    ended = w.ended;
    committed = w.committed;
    made = w.made;
    within = w.within;
    stands = w.stands;
    model = w.model;
  }

  dropped : (o : Open) (who : ℕ) (h : History) → Whole h → Splits h o who → Whole (finish false o who h)
  dropped o who h w s = record {
    each = s.others;
    fine = s.others_fine;
    two = s.two;
    ended = (right_now lang opening false h.kind h.commits o s.own w.within, w.ended);
    committed = (λ never. absurd cc, w.committed);
    made = made_without h.commits h.ended (record { txn = o; kind = h.kind; at = length h.commits; kept = false }) w.made;
    within = w.within;
    stands = w.stands;
    model = w.model;
  }

  kept : (o : Open) (who : ℕ) (h : History) → Whole h → Splits h o who → IsChanged o.trace.changes → has_room (now opening h.commits) o.trace.changes ≡ true → Whole (finish true o who h)
  kept o who h w s some room =
      let rest = others who h.open_ in
      let k = commit_of o in
      let fine = ready lang laws h.kind opening h.commits o w.stands s.own s.own_fine some in
      let before = stands_now lang opening h.commits w.stands in
      let after = stands_after lang laws h.kind opening h.commits o before fine room in
      let Known = λ (u : Open). Sound lang h.kind opening h.commits u × (Between h.kind o u × Between h.kind u o) in
      let known : Each Known rest = each_both (Sound lang h.kind opening h.commits) (λ u. Between h.kind o u × Between h.kind u o) Known (λ u a b. (a, b)) rest s.others s.between in
      record {
        each = each_map Known (Sound lang h.kind opening (h.commits ++ k ∷ [])) (λ u b. others_sound lang laws h.kind opening h.commits o u before after s.own b.0 b.1.1) rest known;
        fine = each_both Known (Fine lang laws h.kind opening h.commits) (Fine lang laws h.kind opening (h.commits ++ k ∷ []))
            (λ u b f. others_fine lang laws h.kind opening h.commits o u before fine room b.1.1.clear b.0.started f) rest known s.others_fine;
        two = s.two;
        ended = each_map (Right lang opening h.commits) (Right lang opening (h.commits ++ k ∷ [])) (right_more lang opening h.commits (k ∷ []))
            (record { txn = o; kind = h.kind; at = length h.commits; kept = true } ∷ h.ended) (right_now lang opening true h.kind h.commits o s.own w.within, w.ended);
        committed = (λ kept. last_at k h.commits, each_map (IsCommitted h.commits) (IsCommitted (h.commits ++ k ∷ [])) (committed_more h.commits (k ∷ [])) h.ended w.committed);
        made = made_with h.commits h.ended (record { txn = o; kind = h.kind; at = length h.commits; kept = true }) refl refl w.made;
        within = each_append RowsWithin h.commits (k ∷ []) w.within (names_within o.trace.feet o.trace.changes s.own.within.stands, tt);
        stands = stands_more h.commits k w.stands after;
        model = w.model ∙ sym (ap (λ (d : Database). d.control) (now_more opening h.commits k) ∙ same_control (now opening h.commits) o.trace.feet o.trace.changes s.own.within.stands);
      }

  commits_by : (o : Open) (who : ℕ) (h refused : History) → Whole h → Splits h o who → Whole refused → (cs : Changes) → o.trace.changes ≡ cs → (room : Bool) → has_room (now opening h.commits) o.trace.changes ≡ room → Whole (commit_by cs room o who h refused)
  commits_by o who h refused w s r [] is room has = dropped o who h w s
  commits_by o who h refused w s r (c ∷ cs) is true has = kept o who h w s (subst IsChanged (sym is) tt) has
  commits_by o who h refused w s r (c ∷ cs) is false has = r

  commits : (o : Open) (who : ℕ) (h refused : History) → Whole h → Splits h o who → Whole refused → Whole (commit opening o who h refused)
  commits o who h refused w s r = commits_by o who h refused w s r o.trace.changes refl (has_room (now opening h.commits) o.trace.changes) refl

  -- ---- attempts

  goes : (auto : Bool) (before o : Open) (who : ℕ) (h : History) → Whole h → Splits h before who → Splits h o who → Whole (cond auto (commit opening o who h (finish false before who h)) (stays_open o who h))
  goes true before o who h w b s = commits o who h (finish false before who h) w s (dropped before who h w b)
  goes false before o who h w b s = stays o who h w s

  judges : (free clear back : Bool) (before after : Open) (who : ℕ) (h : History) → Whole h → Splits h before who → (free ≡ true → clear ≡ true → Splits h after who) → Whole (judged free clear back opening before after who h)
  judges true true back before after who h w b s = goes after.auto before after who h w b (s refl refl)
  judges true false back before after who h w b s = dropped before who h w b
  judges false clear true before after who h w b s = dropped before who h w b
  judges false clear false before after who h w b s = stays before who h w b

  attempts : (back : Bool) (x : Statement) (o : Open) (who : ℕ) (h : History) → Whole h → Splits h o who → Whole (says lang opening back x o who h)
  attempts back (Data text) o who h w s =
      let db = base h.kind opening h.commits o in
      let f = (lang.outcome o.read_only (count_all_inserted o.trace.changes) (view db o.trace.changes) text).foot in
      judges (is_free h.kind o f (others who h.open_)) (no_conflict h.kind o f (newer h.commits o)) back o (said lang db (Data text) o) who h w s
      (λ free clear. answered lang laws h.kind opening h.commits o w.stands text (others who h.open_) free clear s)
  attempts back (OnSession c) o who h w s = stays (said lang (base h.kind opening h.commits o) (OnSession c) o) who h w (controlled lang laws h.kind opening h.commits o w.stands (others who h.open_) c s)

  -- ---- definitions

  accepts : (who : ℕ) (text : Text) (d : Definition) (h : History) → Whole h → h.open_ ≡ [] → lang.definition (now opening h.commits) text ≡ Some d → (room : Bool) → has_room (now opening h.commits) (change.Define d ∷ []) ≡ room
      → Whole (define_by room who d h)
  accepts who text d h w none is false has = w
  accepts who text d h w none is true has =
      let k = definition_commit who d in
      let db = now opening h.commits in
      let before = stands_now lang opening h.commits w.stands in
      let more = now_more opening h.commits k in
      let after : Stands lang (now opening (h.commits ++ k ∷ [])) = subst (Stands lang) (sym more) (laws.accepted db text d before is, defined_numbered db d before.1 has) in
      let kind = control_after d h.kind in
      record {
        each = subst (Each (Sound lang kind opening (h.commits ++ k ∷ []))) (sym none) tt;
        fine = subst (Each (Fine lang laws kind opening (h.commits ++ k ∷ []))) (sym none) tt;
        two = subst (EachTwo (Between kind)) (sym none) tt;
        ended = each_map (Right lang opening h.commits) (Right lang opening (h.commits ++ k ∷ [])) (right_more lang opening h.commits (k ∷ [])) h.ended w.ended;
        committed = each_map (IsCommitted h.commits) (IsCommitted (h.commits ++ k ∷ [])) (committed_more h.commits (k ∷ [])) h.ended w.committed;
        made = made_by_definition h.commits h.ended k refl w.made;
        within = each_append RowsWithin h.commits (k ∷ []) w.within (λ t r old at. absurd cc, tt);
        stands = stands_more h.commits k w.stands after;
        model = ap (control_after d) w.model ∙ sym (ap (λ (e : Database). e.control) more);
      }

  defined : (who : ℕ) (text : Text) (h : History) → Whole h → h.open_ ≡ [] → (found : Option Definition) → lang.definition (now opening h.commits) text ≡ found → Whole (define opening who found h)
  defined who text h w none None is = w
  defined who text h w none (Some d) is = accepts who text d h w none is (has_room (now opening h.commits) (change.Define d ∷ [])) refl

  definitions : (who : ℕ) (text : Text) (h : History) → Whole h → (os : List Open) → h.open_ ≡ os → Whole (defines lang opening who text os h)
  definitions who text h w [] none = defined who text h w none (lang.definition (now opening h.commits) text) refl
  definitions who text h w (o ∷ os) is = w

  -- ---- events

  acts : (back : Bool) (act : Act) (o : Open) (who : ℕ) (h : History) → Whole h → Splits h o who → Whole (by_act lang opening back act o who h)
  acts back Begins o who h w s = stays o who h w s
  acts back (Says x) o who h w s = attempts back x o who h w s
  acts back Commits o who h w s = commits o who h (stays_open o who h) w s (stays o who h w s)
  acts back Leaves o who h w s = dropped o who h w s
  acts back (Defines text) o who h w s = definitions who text h w h.open_ refl

  split : (e : Event) (h : History) → Whole h → Splits h (own e.session (fresh h.kind e (length h.commits)) h.open_) e.session
  split e h w =
      let new = fresh h.kind e (length h.commits) in
      let not_own = λ (o : Open). not (o.session == e.session) in
      record {
        own = own_each (Sound lang h.kind opening h.commits) e.session new (fresh_sound lang laws h.kind opening e h.commits) h.open_ w.each;
        own_fine = own_each (Fine lang laws h.kind opening h.commits) e.session new (fresh_fine lang laws h.kind opening e h.commits (stands_now lang opening h.commits w.stands)) h.open_ w.fine;
        others = each_filter (Sound lang h.kind opening h.commits) not_own h.open_ w.each;
        others_fine = each_filter (Fine lang laws h.kind opening h.commits) not_own h.open_ w.fine;
        two = two_filter (Between h.kind) not_own h.open_ w.two;
        between = own_two (Between h.kind) e.session new h.open_
            (each_true (λ u. Between h.kind new u × Between h.kind u new) (fresh_between lang laws h.kind opening e (length h.commits)) h.open_) w.two;
      }

  steps : (e : Event) (h : History) → Whole h → Whole (step lang opening e h)
  steps e h w = acts e.back e.act (own e.session (fresh h.kind e (length h.commits)) h.open_) e.session h w (split e h w)

  pub whole : Stands lang opening → (es : List Event) → Whole (reached lang opening es)
  unfolding reached
  whole v [] = record {
    each = tt;
    fine = tt;
    two = tt;
    ended = tt;
    committed = tt;
    made = λ k commit at. absurd cc;
    within = tt;
    stands = λ k. subst (λ (cs : List Commit). Stands lang (now opening cs)) (sym (take_all k [] (omega arith))) v;
    model = refl;
  }
  whole v (e ∷ es) = steps e (reached lang opening es) (whole v es)
