-- Each commit has one text beside a whole catalogue.
use Rattle.std.proofs.Common.{◌≡◌, ℕ, List, [], ◌∷◌, ◌++◌, Option, refl, sym, ap, ◌∙◌, append_assoc}
use Rattle.std.specs.Prelude.{IsUtf8}
use Rattle.std.specs.List.{All}
use Rattle.std.proofs.lemmas.List.Elements.{All-nil, All-cons, All-head, All-tail, All-weaker}
use Rattle.hs_base.specs.declared.numbers.SessionNo.{SessionNo}
use Rattle.hs_plan.specs.declared.change.Change.{Change}
use Rattle.hs_schema.specs.Catalogue.{Things}
use Rattle.hs_schema.specs.Whole.{IsWhole}
use Rattle.hs_log.specs.CommitText as log
use Rattle.hs_tabletext.specs.Conditions.{Wording}
use Rattle.hs_committext.specs.Changes.{change_text, IsChange, IsChangeText, IsPrintable}
use Rattle.hs_committext.proofs.OneDefinition as one
use Rattle.hs_committext.proofs.Printable.{change_printable, text_printable}
use Rattle.hs_committext.specs.Lines.{lines_of, AreLinesOf}
use Rattle.hs_committext.specs.Commits.{number_of, changes_text, commit_text, HaveText, IsCommitText}

abbrev lines_text : Wording → Things → List Change → List ℕ
lines_text wording things changes = lines_of (change_text wording things) changes

lines_there : (wording : Wording) (things : Things) (changes : List Change) → IsWhole things → All (IsChange wording things) changes → AreLinesOf (IsChangeText wording things) (lines_text wording things changes) changes
lines_there wording things [] whole h = refl
lines_there wording things (x ∷ xs) whole h = record {
  line = change_text wording things x;
  rest = lines_text wording things xs;
  is = one.there wording things x whole (All-head (IsChange wording things) x xs h);
  others = lines_there wording things xs whole (All-tail (IsChange wording things) x xs h);
  written = append_assoc (change_text wording things x) (10 ∷ []) (lines_text wording things xs);
}

lines_only : (wording : Wording) (things : Things) (text : List ℕ) (changes : List Change) → IsWhole things → AreLinesOf (IsChangeText wording things) text changes → All (IsChange wording things) changes × (text ≡ lines_text wording things changes)
lines_only wording things text [] whole h = (All-nil (IsChange wording things), h)
lines_only wording things text (x ∷ xs) whole h =
    let first = one.only wording things h.line x whole h.is in
    let others = lines_only wording things h.rest xs whole h.others in (
      All-cons (IsChange wording things) x xs first.0 others.0,
      h.written ∙ (λ i. first.1 i ++ 10 ∷ others.1 i) ∙ sym (append_assoc (change_text wording things x) (10 ∷ []) (lines_text wording things xs)),
    )

pub there : (wording : Wording) (things : Things) (before : Option SessionNo) (session : SessionNo) (changes : List Change) → IsWhole things → log.IsSession session.0 → HaveText wording things changes → IsUtf8 (changes_text wording things changes) → IsCommitText wording things before (commit_text wording things before session changes) session changes
there wording things before session changes whole lawful h utf8 = record {
  lawful = lawful;
  lines = changes_text wording things changes;
  of = record { committed = h.committed; utf8 = utf8; each = lines_there wording things changes whole h.each };
  written = refl;
}

pub only : (wording : Wording) (things : Things) (before : Option SessionNo) (text : List ℕ) (session : SessionNo) (changes : List Change) → IsWhole things → IsCommitText wording things before text session changes → HaveText wording things changes × (text ≡ commit_text wording things before session changes)
only wording things before text session changes whole h =
    let parts = lines_only wording things h.lines changes whole h.of.each in
    (record { committed = h.of.committed; each = parts.0 }, h.written ∙ ap (log.commit_text (number_of before) session.0) parts.1)

-- ---- what can be written

pub printable : (wording : Wording) (things : Things) (changes : List Change) → HaveText wording things changes → All (IsPrintable wording things) changes
printable wording things changes h = All-weaker (IsChange wording things) (IsPrintable wording things) (change_printable wording things) changes h.each

lines_printable : (wording : Wording) (things : Things) (text : List ℕ) (changes : List Change) → AreLinesOf (IsChangeText wording things) text changes → All (IsPrintable wording things) changes
lines_printable wording things text [] h = All-nil (IsPrintable wording things)
lines_printable wording things text (x ∷ xs) h = All-cons (IsPrintable wording things) x xs (text_printable wording things h.line x h.is) (lines_printable wording things h.rest xs h.others)

pub read_printable : (wording : Wording) (things : Things) (before : Option SessionNo) (text : List ℕ) (session : SessionNo) (changes : List Change) → IsCommitText wording things before text session changes → All (IsPrintable wording things) changes
read_printable wording things before text session changes h = lines_printable wording things h.lines changes h.of.each
