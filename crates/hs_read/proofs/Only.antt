-- A text is read in one way.
use Rattle.std.proofs.Common.{◌≡◌, ◌≢◌, ℕ, true, false, List, Result, Ok, Err, refl, sym, ap, ◌∙◌, subst}
use Rattle.hs_ast.specs.declared.statement.Stmt.{Stmt}
use Rattle.hs_builder.specs.Steps.{Step, stands, deep, wrong}
use Rattle.hs_grammar.specs.declared.types.Item.{Item}
use Rattle.hs_lexer.specs.Tokens.{AreTokens}
use Rattle.hs_lexer.specs.declared.token.Token.{Token}
use Rattle.hs_lexer.proofs.Fronts.{fault_alone, not_both as cut_or_not, tokens_alone}
use Rattle.hs_parser.specs.Building.{tree_of}
use Rattle.hs_parser.specs.Parsed.{IsTree, Read, place_of, too_deep}
use Rattle.hs_parser.specs.declared.syntax_fault.SyntaxFault.{SyntaxFault}
use Rattle.hs_parser.specs.declared.syntax_fault.SyntaxFault.TheVariants.{At, NotOffered, Depth, NoMemory}
use Rattle.hs_read.specs.Read.{IsReadAs, Refusal, Uncut, Unparsed, statement_in}
use Rattle.hs_read.proofs.Leaving.{not_both, one_place}
use Rattle.hs_read.proofs.Reading.{is_read}
use Rattle.hs_syntax.specs.Classes.{classes_of}
use Rattle.hs_syntax.specs.Meant.{IsMeantBy}
use Rattle.hs_syntax.specs.Statement.{IsRefusedAt, LeavesAt}
use Rattle.hs_syntax.proofs.OneReading.{one_reading}
use Rattle.std.specs.Prelude.{drop, take}

-- ---- one tree

same_tree : (step : Step Stmt) (a b : Stmt) → IsTree step a → IsTree step b → a ≡ b
same_tree (stands s) a b x y = sym x ∙ y
same_tree (deep s) a b x y = sym x ∙ y
same_tree wrong a b x y = absurd x

module _ (text : List ℕ) (tokens : List Token) where
  abbrev ts : List ℕ
  ts = classes_of text tokens

  same_items : (a b : List Item) (x y : Stmt) → IsMeantBy ts a → IsMeantBy ts b → IsTree (tree_of text tokens a) x → IsTree (tree_of text tokens b) y → x ≡ y
  same_items a b x y m n f g =
      let same : a ≡ b = one_reading.one (classes_of text tokens) a b m n in
      same_tree (tree_of text tokens b) x y (subst (λ z. IsTree (tree_of text tokens z) x) same f) g

  contrary : (a b : Stmt) → a ≡ b → too_deep text tokens a ≡ true → too_deep text tokens b ≡ false → ⊥
  contrary a b same t f = let no : true ≡ false = sym t ∙ (ap (too_deep text tokens) same ∙ f) in cc

  -- ---- one fault

  same_place : (p q : ℕ) → LeavesAt (classes_of text tokens) p → LeavesAt (classes_of text tokens) q → p ≡ q
  same_place p q a b = one_place (classes_of text tokens) p q a b

  offered_or_not : (p q : ℕ) → p ≡ q → ¬ IsRefusedAt (take p (classes_of text tokens)) (drop p (classes_of text tokens))
      → IsRefusedAt (take q (classes_of text tokens)) (drop q (classes_of text tokens)) → ⊥
  offered_or_not p q same n r = n (subst (λ z. IsRefusedAt (take z (classes_of text tokens)) (drop z (classes_of text tokens))) (sym same) r)

  at_one : (p q : ℕ) (k l : ℕ) → p ≡ place_of text tokens k → q ≡ place_of text tokens l → k ≡ l → p ≡ q
  at_one p q k l e f same = e ∙ (ap (place_of text tokens) same ∙ sym f)

  -- ---- one answer

  one_read : (a b : Result Stmt SyntaxFault) → a ≢ Err NoMemory → b ≢ Err NoMemory → Read text tokens a → Read text tokens b → a ≡ b
  one_read (Ok x) (Ok y) c d a b = ap Ok (same_items a.0 b.0 x y a.1 b.1 a.2 b.2)
  one_read (Ok x) (Err (At p)) c d a b = absurd (not_both (classes_of text tokens) b.0 b.1.0 (a.0, a.1.built))
  one_read (Ok x) (Err (NotOffered p)) c d a b = absurd (not_both (classes_of text tokens) b.0 b.1.0 (a.0, a.1.built))
  one_read (Ok x) (Err Depth) c d a b = absurd (contrary b.2 x (same_items b.0 a.0 b.2 x b.1 a.1 b.3 a.2) b.4 a.3)
  one_read (Ok x) (Err NoMemory) c d a b = absurd (d refl)
  one_read (Err (At p)) (Ok y) c d a b = absurd (not_both (classes_of text tokens) a.0 a.1.0 (b.0, b.1.built))
  one_read (Err (At p)) (Err (At q)) c d a b = ap (λ z. Err (At z)) (at_one p q a.0 b.0 a.2 b.2 (same_place a.0 b.0 a.1.0 b.1.0))
  one_read (Err (At p)) (Err (NotOffered q)) c d a b = absurd (offered_or_not a.0 b.0 (same_place a.0 b.0 a.1.0 b.1.0) a.1.1 b.1.1)
  one_read (Err (At p)) (Err Depth) c d a b = absurd (not_both (classes_of text tokens) a.0 a.1.0 (b.0, b.1.built))
  one_read (Err (At p)) (Err NoMemory) c d a b = absurd (d refl)
  one_read (Err (NotOffered p)) (Ok y) c d a b = absurd (not_both (classes_of text tokens) a.0 a.1.0 (b.0, b.1.built))
  one_read (Err (NotOffered p)) (Err (At q)) c d a b = absurd (offered_or_not b.0 a.0 (same_place b.0 a.0 b.1.0 a.1.0) b.1.1 a.1.1)
  one_read (Err (NotOffered p)) (Err (NotOffered q)) c d a b = ap (λ z. Err (NotOffered z)) (at_one p q a.0 b.0 a.2 b.2 (same_place a.0 b.0 a.1.0 b.1.0))
  one_read (Err (NotOffered p)) (Err Depth) c d a b = absurd (not_both (classes_of text tokens) a.0 a.1.0 (b.0, b.1.built))
  one_read (Err (NotOffered p)) (Err NoMemory) c d a b = absurd (d refl)
  one_read (Err Depth) (Ok y) c d a b = absurd (contrary a.2 y (same_items a.0 b.0 a.2 y a.1 b.1 a.3 b.2) a.4 b.3)
  one_read (Err Depth) (Err (At q)) c d a b = absurd (not_both (classes_of text tokens) b.0 b.1.0 (a.0, a.1.built))
  one_read (Err Depth) (Err (NotOffered q)) c d a b = absurd (not_both (classes_of text tokens) b.0 b.1.0 (a.0, a.1.built))
  one_read (Err Depth) (Err Depth) c d a b = refl
  one_read (Err Depth) (Err NoMemory) c d a b = absurd (d refl)
  one_read (Err NoMemory) b c d x y = absurd (c refl)

-- answers of this type
abbrev read : Stmt → Result Stmt SyntaxFault
read statement = Ok statement

abbrev unread : SyntaxFault → Result Stmt SyntaxFault
unread fault = Err fault

still_some : (fault : SyntaxFault) → fault ≢ NoMemory → unread fault ≢ Err NoMemory
still_some fault h = λ e. h (let z : fault ≡ NoMemory = cc in z)

is_ok : (x : Stmt) → read x ≢ Err NoMemory
is_ok x = λ e. cc

moved : (text : List ℕ) (a b : List Token) (r : Result Stmt SyntaxFault) → AreTokens 0 text a → AreTokens 0 text b → Read text a r → Read text b r
moved text a b r x y h = subst (λ z. Read text z r) (tokens_alone text a b x y) h

same_ok : (x y : Stmt) → read x ≡ read y → x ≡ y
same_ok x y e = cc

same_err : (x y : SyntaxFault) → unread x ≡ unread y → x ≡ y
same_err x y e = cc

crossed : {P : Type 0} (x : Stmt) (f : SyntaxFault) → read x ≡ unread f → P
crossed x f e = absurd (cc)

pub one : (text : List ℕ) (a b : Result Stmt Refusal) → IsReadAs text a → IsReadAs text b → a ≡ b
one text (Ok x) (Ok y) a b = ap Ok (same_ok x y (one_read text b.0 (Ok x) (Ok y) (is_ok x) (is_ok y) (moved text a.0 b.0 (Ok x) a.1 b.1 a.2) b.2))
one text (Ok x) (Err (Uncut f)) a b = absurd (cut_or_not text a.0 f a.1 b)
one text (Ok x) (Err (Unparsed f)) a b = crossed x f (one_read text b.0 (Ok x) (Err f) (is_ok x) (still_some f b.3) (moved text a.0 b.0 (Ok x) a.1 b.1 a.2) b.2)
one text (Err (Uncut e)) (Ok y) a b = absurd (cut_or_not text b.0 e b.1 a)
one text (Err (Uncut e)) (Err (Uncut f)) a b = ap (λ z. Err (Uncut z)) (fault_alone text e f a b)
one text (Err (Uncut e)) (Err (Unparsed f)) a b = absurd (cut_or_not text b.0 e b.1 a)
one text (Err (Unparsed e)) (Ok y) a b = crossed y e (sym (one_read text b.0 (Err e) (Ok y) (still_some e a.3) (is_ok y) (moved text a.0 b.0 (Err e) a.1 b.1 a.2) b.2))
one text (Err (Unparsed e)) (Err (Uncut f)) a b = absurd (cut_or_not text a.0 f a.1 b)
one text (Err (Unparsed e)) (Err (Unparsed f)) a b =
    ap (λ z. Err (Unparsed z)) (same_err e f (one_read text b.0 (Err e) (Err f) (still_some e a.3) (still_some f b.3) (moved text a.0 b.0 (Err e) a.1 b.1 a.2) b.2))

pub only : (text : List ℕ) (answer : Result Stmt Refusal) → IsReadAs text answer → answer ≡ statement_in text
only text answer is = one text answer (statement_in text) is (is_read text)
