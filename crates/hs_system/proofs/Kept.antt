-- What events keep of the commits of a history: each commit that they make has room in the log.
use Rattle.std.proofs.Common.{◌≡◌, ℕ, Bool, true, false, List, [], ◌∷◌, ◌++◌, refl, sym, subst}
use Rattle.std.specs.Prelude.{Option, Some, if◌then◌else◌}
use Rattle.hs_plan.specs.declared.change.Change.{Change}
use Rattle.hs_plan.specs.declared.change.Change.TheVariants as change
use Rattle.hs_plan.specs.declared.definition.Definition.{Definition}
use Rattle.hs_schema.specs.Catalogue.{Text}
use Rattle.hs_turns.specs.Database.{Database, has_room}
use Rattle.hs_turns.specs.Histories.{Open, Commit, History, commit_of, now}
use Rattle.hs_turns.specs.Events.{commit_by, commit, define, define_by, definition_commit, defines, finish, judged, stays_open}
use Rattle.hs_turns.specs.Dialect.{Dialect, language_of}
use Rattle.hs_turns.specs.Attempts.{Ending, Empty, Fits, TooManyChanges, LogFull, ending_by}

-- it isn't for want of room in the log that a commit isn't made
abbrev pub HasNoFullLog : Ending → Type 0
HasNoFullLog Empty = Unit {0}
HasNoFullLog Fits = Unit {0}
HasNoFullLog TooManyChanges = Unit {0}
HasNoFullLog LogFull = ⊥

module _ (d : Dialect) (opening : Database) (Holds : List Commit → Type 0) (more : (commits : List Commit) (k : Commit) → Holds commits → d.has_log_room commits k ≡ true → Holds (commits ++ k ∷ [])) where
  abbrev pub H : History → Type 0
  H h = Holds h.commits

  committed_by : (changes : List Change) (room log : Bool) (o : Open) (who : ℕ) (h refused : History) → d.has_log_room h.commits (commit_of o) ≡ log → HasNoFullLog (ending_by changes room log) → H h → H refused → H (commit_by changes room o who h refused)
  committed_by [] room log o who h refused is not_full p r = p
  committed_by (c ∷ cs) true true o who h refused is not_full p r = more h.commits (commit_of o) p is
  committed_by (c ∷ cs) true false o who h refused is not_full p r = absurd not_full
  committed_by (c ∷ cs) false log o who h refused is not_full p r = r

  -- where a transaction's commit isn't too long for the log
  pub commits : (o : Open) (who : ℕ) (h refused : History) → HasNoFullLog (ending_by o.trace.changes (has_room (now opening h.commits) o.trace.changes) (d.has_log_room h.commits (commit_of o))) → H h → H refused → H (commit opening o who h refused)
  commits o who h refused not_full p r = committed_by o.trace.changes (has_room (now opening h.commits) o.trace.changes) (d.has_log_room h.commits (commit_of o)) o who h refused refl not_full p r

  goes_by : (auto : Bool) (before after : Open) (who : ℕ) (h : History) → (auto ≡ true → H (commit opening after who h (finish false before who h))) → H h → H (if auto then commit opening after who h (finish false before who h) else stays_open after who h)
  goes_by true before after who h f p = f refl
  goes_by false before after who h f p = p

  -- where one that ends with its first statement commits only so
  pub judged_keeps : (free clear back : Bool) (before after : Open) (who : ℕ) (h : History) → (free ≡ true → clear ≡ true → after.auto ≡ true → H (commit opening after who h (finish false before who h))) → H h → H (judged free clear back opening before after who h)
  judged_keeps true true back before after who h f p = goes_by after.auto before after who h (f refl refl) p
  judged_keeps true false back before after who h f p = p
  judged_keeps false clear true before after who h f p = p
  judged_keeps false clear false before after who h f p = p

  defined_keeps : (room : Bool) (session : ℕ) (definition : Definition) (h : History) → d.has_log_room h.commits (definition_commit session definition) ≡ true → H h → H (define_by room session definition h)
  defined_keeps true session definition h log p = more h.commits (definition_commit session definition) p log
  defined_keeps false session definition h log p = p

  -- where what is defined has room
  pub defining_keeps : (session : ℕ) (definition : Definition) (h : History) (found : Option Definition) → found ≡ Some definition → d.has_log_room h.commits (definition_commit session definition) ≡ true → H h → H (define opening session found h)
  defining_keeps session definition h found is log p =
      subst (λ (x : Option Definition). H (define opening session x h)) (sym is) (defined_keeps (has_room (now opening h.commits) (change.Define definition ∷ [])) session definition h log p)

  pub defines_keeps : (session : ℕ) (text : Text) (definition : Definition) (h : History) (os : List Open) → (language_of d).definition (now opening h.commits) text ≡ Some definition → d.has_log_room h.commits (definition_commit session definition) ≡ true → H h
      → H (defines (language_of d) opening session text os h)
  defines_keeps session text definition h [] is log p = defining_keeps session definition h ((language_of d).definition (now opening h.commits) text) is log p
  defines_keeps session text definition h (o ∷ os) is log p = p
