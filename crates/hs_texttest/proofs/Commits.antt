-- The test of commits tells which have a text.
use Rattle.std.proofs.Common.{◌≡◌, ℕ, Bool, true, false, not, ◌&&◌, ◌||◌, ◌==◌, nat_le, List, [], ◌∷◌, ◌++◌, length, Option, inl, inr, codes, refl, sym, ap, subst, ◌∙◌, ◌^◌, nat_lt, append_assoc, arith}
use Rattle.std.specs.Bool.{Decides}
use Rattle.std.specs.Fmt.{decimal}
use Rattle.std.specs.List.{list_all, list_any}
use Rattle.std.specs.Str.{is_utf8}
use Rattle.std.proofs.lemmas.Bool.{and_parts, cases_Bool}
use Rattle.std.proofs.lemmas.Bool.Decides.{Decides-and}
use Rattle.std.proofs.lemmas.List.{append_cancel_left, append_cancel_right}
use Rattle.hs_base.specs.declared.numbers.SessionNo.{SessionNo}
use Rattle.hs_plan.specs.declared.change.Change.{Change}
use Rattle.hs_plan.specs.declared.change.Change.TheVariants as c
use Rattle.hs_plan.specs.declared.definition.Column.{Column}
use Rattle.hs_plan.specs.declared.expression.Expr.{Expr}
use Rattle.hs_schema.specs.Catalogue.{Things}
use Rattle.hs_turns.specs.Database as database
use Rattle.hs_log.specs.CommitText as log
use Rattle.hs_log.specs.CommitText.{is_session, IsSession}
use Rattle.hs_nametext.specs.Names.{name_text}
use Rattle.hs_rowtext.specs.Rows.{row_text}
use Rattle.hs_tabletext.specs.Conditions.{Wording}
use Rattle.hs_committext.specs.Changes.{change_text, table_name, IsChangeText}
use Rattle.hs_committext.specs.Commits.{changes_text, number_of, AreCommitted}
use Rattle.hs_committext.specs.Lines.{AreLinesOf}
use Rattle.hs_logged.specs.Entered as logged
use Rattle.hs_logged.specs.Entered.{HasText}
use Rattle.hs_logged.specs.Over.{TestsTexts}
use Rattle.hs_texttest.specs.Commits.{are_committed, has_text, is_change}
use Rattle.hs_texttest.specs.Definitions.{ConditionTest}
use Rattle.hs_texttest.specs.Told.{TestsConditions}
use Rattle.hs_texttest.proofs.Deciding.{at_most, below, both_true, decided, never, then_is, utf8_told}
use Rattle.hs_texttest.proofs.Definitions.{definition_told}
use Rattle.hs_texttest.proofs.Lines.{line_once}
use Rattle.hs_texttest.proofs.Rows.{row_only, row_there}

-- ---- what two ways of telling have in common

told_of : (P : Type 0) (b : Bool) → logged.Decides P b → Decides b P
told_of P true p = (λ e. p, λ q. refl)
told_of P false n = (λ e. never e, λ q. absurd (n q))

not_told : (P : Type 0) → Decides false P → ¬ P
not_told P d q = let e : false ≡ true = d.1 q in absurd (cc)

pub of_told : (P : Type 0) (b : Bool) → Decides b P → logged.Decides P b
of_told P true d = d.0 refl
of_told P false d = not_told P d

-- ---- commits

session_told : (session : ℕ) → Decides (is_session session) (IsSession session)
session_told session = Decides-and (nat_lt 0 session) (nat_lt session (2 ^ 32)) (below 0 session) (below session (2 ^ 32))

committed_told : (changes : List Change) → Decides (are_committed changes) (AreCommitted changes)
committed_told changes =
    let any = list_any database.is_definition changes in
    decided (AreCommitted changes) (are_committed changes) (Decides-and (nat_le 1 (length changes)) (not any || (length changes == 1)) (at_most 1 (length changes)) (then_is any (length changes) 1))
    (λ h. record { some = h.0; alone = h.1 })
    (λ h. (h.some, h.alone))

module _ (wording : Wording) (test : ConditionTest) (tests : (columns : List Column) (e : Expr) → Decides (test columns e) (wording.Has columns e)) (things : Things) where
  -- ---- what is told to have a text has one

  change_there : (x : Change) → is_change test things x ≡ true → IsChangeText wording things (change_text wording things x) x
  change_there (c.Insert table row) h = row_there things table (c.Insert table row) h
  change_there (c.Put table number row) h = row_there things table (c.Put table number row) h
  change_there (c.Delete table number) h = row_there things table (c.Delete table number) h
  change_there (c.Define definition) h = record { lawful = (definition_told wording test tests things definition).0 h; written = refl }

  changes_there : (changes : List Change) → list_all (is_change test things) changes ≡ true → AreLinesOf (IsChangeText wording things) (changes_text wording things changes) changes
  changes_there [] h = refl
  changes_there (x ∷ xs) h =
      let parts = and_parts (is_change test things x) (list_all (is_change test things) xs) h in
      record {
        line = change_text wording things x;
        rest = changes_text wording things xs;
        is = change_there x parts.0;
        others = changes_there xs parts.1;
        written = append_assoc (change_text wording things x) (10 ∷ []) (changes_text wording things xs);
      }

  -- ---- what has a text is told to have one

  -- a line that begins as the text of a change does, which differs from it in its name alone
  same_line : (front name part line rest : List ℕ) (x : Change) (xs : List Change) (named : List ℕ) → line ≡ front ++ (name_text name ++ 32 ∷ part) → change_text wording things x ≡ front ++ (name_text named ++ 32 ∷ part) → line ++ 10 ∷ rest ≡ changes_text wording things (x ∷ xs) → (name ≡ named) × (rest ≡ changes_text wording things xs)
  same_line front name part line rest x xs named mine its e =
      line_once front name named part rest (changes_text wording things xs)
      (ap (λ (l : List ℕ). l ++ 10 ∷ rest) (sym mine) ∙ e ∙ append_assoc (change_text wording things x) (10 ∷ []) (changes_text wording things xs) ∙ ap (λ (l : List ℕ). l ++ 10 ∷ changes_text wording things xs) its)

  both : (x : Change) (xs : List Change) → is_change test things x ≡ true → list_all (is_change test things) xs ≡ true → list_all (is_change test things) (x ∷ xs) ≡ true
  both x xs a b = both_true (is_change test things x) (list_all (is_change test things) xs) a b

  rows_only : (text : List ℕ) (changes : List Change) → list_any database.is_definition changes ≡ false → AreLinesOf (IsChangeText wording things) text changes → text ≡ changes_text wording things changes → list_all (is_change test things) changes ≡ true
  rows_only text [] none h e = refl
  rows_only text (c.Insert table row ∷ xs) none h e =
      let x = c.Insert table row in
      let same = same_line (codes "INSERT INTO ") h.is.name (codes "VALUES(" ++ (row_text row ++ codes ")")) h.line h.rest x xs (table_name things table) h.is.written refl (sym h.written ∙ e) in
      both x xs (row_only things table h.line x h.is same.0) (rows_only h.rest xs none h.others same.1)
  rows_only text (c.Put table number row ∷ xs) none h e =
      let x = c.Put table number row in
      let same = same_line (codes "UPDATE ") h.is.name ((codes "ROW " ++ decimal number.0) ++ (codes " VALUES(" ++ (row_text row ++ codes ")"))) h.line h.rest x xs (table_name things table) h.is.written refl (sym h.written ∙ e) in
      both x xs (row_only things table h.line x h.is same.0) (rows_only h.rest xs none h.others same.1)
  rows_only text (c.Delete table number ∷ xs) none h e =
      let x = c.Delete table number in
      let same = same_line (codes "DELETE FROM ") h.is.name (codes "ROW " ++ decimal number.0) h.line h.rest x xs (table_name things table) h.is.written refl (sym h.written ∙ e) in
      both x xs (row_only things table h.line x h.is same.0) (rows_only h.rest xs none h.others same.1)
  rows_only text (c.Define definition ∷ xs) none h e = never (sym none)

  lone_only : (text : List ℕ) (changes : List Change) → list_any database.is_definition changes ≡ true → length changes ≡ 1 → AreLinesOf (IsChangeText wording things) text changes → list_all (is_change test things) changes ≡ true
  lone_only text [] any one h = never any
  lone_only text (c.Insert table row ∷ []) any one h = never any
  lone_only text (c.Put table number row ∷ []) any one h = never any
  lone_only text (c.Delete table number ∷ []) any one h = never any
  lone_only text (c.Define definition ∷ []) any one h = both (c.Define definition) [] ((definition_told wording test tests things definition).1 h.is.lawful) refl
  lone_only text (x ∷ y ∷ ys) any one h = absurd (omega arith)

  changes_only : (changes : List Change) → AreCommitted changes → AreLinesOf (IsChangeText wording things) (changes_text wording things changes) changes → list_all (is_change test things) changes ≡ true
  changes_only changes committed h = elim (cases_Bool (list_any database.is_definition changes)) [
    | inl any ↦ lone_only (changes_text wording things changes) changes any (committed.alone any) h
    | inr none ↦ rows_only (changes_text wording things changes) changes none h refl
  ]

  -- ---- the whole

  there : (before : Option SessionNo) (session : SessionNo) (changes : List Change) → has_text wording test things before session changes ≡ true → HasText wording things before session changes
  there before session changes h =
      let parts = and_parts (is_session session.0) (are_committed changes && (is_utf8 (changes_text wording things changes) && list_all (is_change test things) changes)) h in
      let more = and_parts (are_committed changes) (is_utf8 (changes_text wording things changes) && list_all (is_change test things) changes) parts.1 in
      let last = and_parts (is_utf8 (changes_text wording things changes)) (list_all (is_change test things) changes) more.1 in
      record {
        lawful = (session_told session.0).0 parts.0;
        lines = changes_text wording things changes;
        of = record { committed = (committed_told changes).0 more.0; utf8 = (utf8_told (changes_text wording things changes)).0 last.0; each = changes_there changes last.1 };
        written = refl;
      }

  lines_are : (before : Option SessionNo) (session : SessionNo) (changes : List Change) (h : HasText wording things before session changes) → changes_text wording things changes ≡ h.lines
  lines_are before session changes h =
      let opening = log.opening (number_of before) session.0 in
      append_cancel_left opening (changes_text wording things changes) h.lines
      (append_cancel_right (opening ++ changes_text wording things changes) (opening ++ h.lines) log.ending h.written)

  only : (before : Option SessionNo) (session : SessionNo) (changes : List Change) → HasText wording things before session changes → has_text wording test things before session changes ≡ true
  only before session changes h =
      let same = lines_are before session changes h in
      let utf8 : is_utf8 (changes_text wording things changes) ≡ true = ap is_utf8 same ∙ (utf8_told h.lines).1 h.of.utf8 in
      let lines = subst (λ (text : List ℕ). AreLinesOf (IsChangeText wording things) text changes) (sym same) h.of.each in
      let last = both_true (is_utf8 (changes_text wording things changes)) (list_all (is_change test things) changes) utf8 (changes_only changes h.of.committed lines) in
      let more = both_true (are_committed changes) (is_utf8 (changes_text wording things changes) && list_all (is_change test things) changes) ((committed_told changes).1 h.of.committed) last in
      both_true (is_session session.0) (are_committed changes && (is_utf8 (changes_text wording things changes) && list_all (is_change test things) changes)) ((session_told session.0).1 h.lawful) more

pub texts_tested : (wording : Wording) (test : ConditionTest) → TestsConditions wording test → TestsTexts wording (has_text wording test)
texts_tested wording test tests things before session changes =
    let told = λ (columns : List Column) (e : Expr). told_of (wording.Has columns e) (test columns e) (tests columns e) in
    of_told (HasText wording things before session changes) (has_text wording test things before session changes) (there wording test told things before session changes, only wording test told things before session changes)
