-- What stands around the lines of a commit's changes.
use Rattle.std.proofs.Common.{◌≡◌, ℕ, Bool, true, false, ◌==◌, ◌||◌, nat_eq, List, [], ◌∷◌, ◌++◌, length, Option, Some, None, refl, sym, ap, subst, ◌∙◌, append_assoc}
use Rattle.std.specs.List.{ends_with}
use Rattle.std.proofs.lemmas.Bool.Decides.{Decides-eqb}
use Rattle.std.proofs.lemmas.Slice.Eq.{ends_is}
use Rattle.hs_base.specs.declared.numbers.SessionNo.{SessionNo}
use Rattle.hs_plan.specs.declared.change.Change.{Change}
use Rattle.hs_plan.specs.declared.change.Change.TheVariants as c
use Rattle.hs_plan.specs.declared.definition.Definition.{Definition}
use Rattle.hs_plan.specs.declared.definition.Definition.TheVariants as d
use Rattle.hs_schema.specs.Catalogue.{Things}
use Rattle.hs_log.specs.CommitText as log
use Rattle.hs_log.proofs.CommitTexts.{split_found, made_text, made_lawful}
use Rattle.hs_tabletext.specs.Conditions.{Wording}
use Rattle.hs_committext.specs.Definitions.{definition_text}
use Rattle.hs_committext.specs.Changes.{IsChangeText}
use Rattle.hs_committext.specs.Lines.{AreLinesOf}
use Rattle.hs_committext.specs.Commits.{number_of, AreChangesIn, IsCommitText}

-- ---- lines of changes are lines for the log

definition_unmarked : (wording : Wording) (things : Things) (e : Definition) (rest : List ℕ) → log.begin_marked (definition_text wording things e ++ rest) ≡ false
definition_unmarked wording things (d.CreateTable storage name columns constraints) rest = refl
definition_unmarked wording things (d.DropTable name) rest = refl
definition_unmarked wording things (d.AddColumn table column constraints) rest = refl
definition_unmarked wording things (d.AddConstraint table constraint) rest = refl
definition_unmarked wording things (d.DropConstraint table name) rest = refl
definition_unmarked wording things (d.CreateIndex table name columns) rest = refl
definition_unmarked wording things (d.DropIndex name) rest = refl
definition_unmarked wording things (d.SetControl control) rest = refl
definition_unmarked wording things (d.SetDefaultLevel serializable) rest = refl

change_unmarked : (wording : Wording) (things : Things) (line rest : List ℕ) (change : Change) → IsChangeText wording things line change → log.begin_marked (line ++ rest) ≡ false
change_unmarked wording things line rest (c.Insert number row) h = ap (λ (l : List ℕ). log.begin_marked (l ++ rest)) h.written
change_unmarked wording things line rest (c.Put number at row) h = ap (λ (l : List ℕ). log.begin_marked (l ++ rest)) h.written
change_unmarked wording things line rest (c.Delete number at) h = ap (λ (l : List ℕ). log.begin_marked (l ++ rest)) h.written
change_unmarked wording things line rest (c.Define definition) h = ap (λ (l : List ℕ). log.begin_marked (l ++ rest)) h.written ∙ definition_unmarked wording things definition rest

-- what a line feed ends
record Ended (text : List ℕ) : Type 0 where
  front : List ℕ
  is : text ≡ front ++ 10 ∷ []

ended : (wording : Wording) (things : Things) (text : List ℕ) (change : Change) (others : List Change) → AreLinesOf (IsChangeText wording things) text (change ∷ others) → Ended text
ended wording things text change [] h = record { front = h.line; is = h.written ∙ ap (λ (r : List ℕ). h.line ++ 10 ∷ r) h.others }
ended wording things text change (x ∷ xs) h =
    let last = ended wording things h.rest x xs h.others in
    record { front = h.line ++ 10 ∷ last.front; is = h.written ∙ ap (λ (r : List ℕ). h.line ++ 10 ∷ r) last.is ∙ sym (append_assoc h.line (10 ∷ last.front) (10 ∷ [])) }

or_true : (b : Bool) → (b || true) ≡ true
or_true true = refl
or_true false = refl

ended_whole : (text : List ℕ) → Ended text → log.are_whole text ≡ true
ended_whole text h =
    let last : ends_with nat_eq text (10 ∷ []) ≡ true = (ends_is Decides-eqb text (10 ∷ []) (ends_with nat_eq text (10 ∷ [])) refl).1 h.front h.is in
    ap (λ (b : Bool). (length text == 0) || b) last ∙ or_true (length text == 0)

log_lines : (wording : Wording) (things : Things) (lines : List ℕ) (changes : List Change) → AreLinesOf (IsChangeText wording things) lines changes → log.AreLines lines
log_lines wording things lines [] h = subst log.AreLines (sym h) (record { whole = refl; unmarked = refl })
log_lines wording things lines (x ∷ xs) h = record {
  whole = ended_whole lines (ended wording things lines x xs h);
  unmarked = ap log.begin_marked h.written ∙ change_unmarked wording things h.line (10 ∷ h.rest) x h.is;
}

-- ---- the parts of a text

split : (wording : Wording) (things : Things) (before : Option SessionNo) (text : List ℕ) (session : SessionNo) (changes : List Change) → (h : IsCommitText wording things before text session changes) → log.split_of (number_of before) text ≡ Some (session.0, h.lines)
split wording things before text session changes h =
    split_found (number_of before) text session.0 h.lines (record { session_is = h.lawful; lines_are = log_lines wording things h.lines changes h.of.each; is = h.written })

pub text_unsplit : (wording : Wording) (things : Things) (before : Option SessionNo) (text : List ℕ) → log.split_of (number_of before) text ≡ None → (p : SessionNo × List Change) → ¬ (IsCommitText wording things before text p.0 p.1)
text_unsplit wording things before text none p h =
    let some = split wording things before text p.0 p.1 h in cc

-- the session and the lines that were split off
record Same (session : SessionNo) (lines : List ℕ) (other : SessionNo) (more : List ℕ) : Type 0 where
  session_is : other ≡ session
  lines_are : more ≡ lines

same_parts : (o : Option (ℕ × List ℕ)) (session : SessionNo) (lines : List ℕ) (other : SessionNo) (more : List ℕ) → o ≡ Some (session.0, lines) → o ≡ Some (other.0, more) → Same session lines other more
same_parts o session lines other more one two =
    let both : Some (session.0, lines) ≡ Some (other.0, more) = sym one ∙ two in
    let pairs : (session.0, lines) ≡ (other.0, more) = cc in
    record {
      session_is = ap (λ (p : ℕ × List ℕ). (let s : SessionNo = record { 0 = p.0 } in s)) (sym pairs);
      lines_are = ap (λ (p : ℕ × List ℕ). p.1) (sym pairs);
    }

pub text_found : (wording : Wording) (things : Things) (before : Option SessionNo) (text : List ℕ) (session : SessionNo) (lines : List ℕ) (changes : List Change) → log.split_of (number_of before) text ≡ Some (session.0, lines) → AreChangesIn wording things lines changes × ((x : List Change) → AreChangesIn wording things lines x → x ≡ changes) → IsCommitText wording things before text session changes × ((p : SessionNo × List Change) → IsCommitText wording things before text p.0 p.1 → p ≡ (session, changes))
text_found wording things before text session lines changes parts known = (
  record { lawful = (made_lawful (number_of before) text session.0 lines parts).0; lines = lines; of = known.0; written = made_text (number_of before) text session.0 lines parts },
  λ p h.
      let same = same_parts (log.split_of (number_of before) text) session lines p.0 h.lines parts (split wording things before text p.0 p.1 h) in
      let changes_are : p.1 ≡ changes = known.1 p.1 (subst (λ (l : List ℕ). AreChangesIn wording things l p.1) same.lines_are h.of) in
      (λ i. (same.session_is i, changes_are i)),
)

pub text_missing : (wording : Wording) (things : Things) (before : Option SessionNo) (text : List ℕ) (session : SessionNo) (lines : List ℕ) → log.split_of (number_of before) text ≡ Some (session.0, lines) → ((x : List Change) → ¬ (AreChangesIn wording things lines x)) → (p : SessionNo × List Change) → ¬ (IsCommitText wording things before text p.0 p.1)
text_missing wording things before text session lines parts none p h =
    let same = same_parts (log.split_of (number_of before) text) session lines p.0 h.lines parts (split wording things before text p.0 p.1 h) in
    none p.1 (subst (λ (l : List ℕ). AreChangesIn wording things l p.1) same.lines_are h.of)
