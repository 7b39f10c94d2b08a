-- What the recogniser and the building answer, as one answer.
use Rattle.std.proofs.Common.{◌≡◌, ℕ, ◌<◌, ◌≤◌, Bool, true, false, ◌||◌, List, Result, Ok, Err, IfOk, refl, ap, sym, subst, ◌∙◌, ◌⊎◌, inl, inr, arith}
use Rattle.std.specs.Prelude.{nat_lt}
use Rattle.std.proofs.lemmas.Bool.Decides.{nat_tests}
use Rattle.hs_ast.specs.Depth.{statement_depth_of}
use Rattle.hs_ast.specs.declared.statement.Stmt.{Stmt}
use Rattle.hs_grammar.specs.Answer.{Only, Faulty}
use Rattle.hs_grammar.specs.declared.types.Fault.{Fault}
use Rattle.hs_grammar.specs.declared.types.Fault.TheVariants as f
use Rattle.hs_grammar.specs.declared.types.Item.{Item}
use Rattle.hs_lexer.specs.declared.token.Token.{Token}
use Rattle.hs_parser.specs.declared.syntax_fault.SyntaxFault.{SyntaxFault}
use Rattle.hs_parser.specs.declared.syntax_fault.SyntaxFault.TheVariants.{At, NotOffered, Depth, NoMemory}
use Rattle.hs_syntax.specs.Classes.{classes_of}
use Rattle.hs_syntax.specs.Meant.{IsMeantBy}
use Rattle.hs_parser.specs.Building.{tree_of, StandsNot}
use Rattle.hs_parser.specs.Parsed.{opens_too_many, too_deep, IsTree, Grown, fault_at, Parsed, Read}
use Rattle.hs_syntax.specs.Sql.{sql}
use Rattle.hs_syntax.specs.Statement.{IsFaultOf}
use Rattle.hs_builder.specs.Steps.{Step, stands, deep, wrong}
use Rattle.hs_parser.proofs.Sentences.{none_missing}
use Rattle.hs_parser.specs.Sentences.{IsWhole}

-- ---- the tree that a sentence's items build, however deep, and whether it is too deep

tests : (text : List ℕ) (tokens : List Token) (tree : Stmt) (a b : Bool) → nat_lt 256 (statement_depth_of tree) ≡ a → opens_too_many text 0 tokens ≡ b → too_deep text tokens tree ≡ (a || b)
tests text tokens tree a b e f = ap (λ z. z || opens_too_many text 0 tokens) e ∙ ap (λ z. a || z) f

or_true : (a : Bool) → (a || true) ≡ true
or_true true = refl
or_true false = refl

is_over : (d : ℕ) → 256 < d → nat_lt 256 d ≡ true
is_over d l = grind (arith, nat_tests)

is_under : (d : ℕ) → d ≤ 256 → nat_lt 256 d ≡ false
is_under d l = grind (arith, nat_tests)

abbrev Good : List ℕ → List Token → List Item → Stmt → Type 0
Good text tokens items statement = IsTree (tree_of text tokens items) statement × (too_deep text tokens statement ≡ false)

abbrev Deep : List ℕ → List Token → Step Stmt → Type 0
Deep text tokens step = (tree : Stmt) × IsTree step tree × (too_deep text tokens tree ≡ true)

good : (text : List ℕ) (tokens : List Token) (items : List Item) (statement : Stmt) → IsWhole (tree_of text tokens items) → Grown text tokens items (Ok statement) → Good text tokens items statement
good text tokens items statement w g =
    let l : statement_depth_of statement ≤ 256 = subst (λ z. IsWhole z) g.1 w in
    (subst (λ z. IsTree z statement) (sym g.1) refl, tests text tokens statement false false (is_under (statement_depth_of statement) l) g.0)

over : (text : List ℕ) (tokens : List Token) (step : Step Stmt) → IsWhole step → (opens_too_many text 0 tokens ≡ true) ⊎ StandsNot step → Deep text tokens step
over text tokens (stands s) w (inl e) = (s, refl, tests text tokens s (nat_lt 256 (statement_depth_of s)) true refl e ∙ or_true (nat_lt 256 (statement_depth_of s)))
over text tokens (stands s) w (inr h) = absurd h
over text tokens (deep s) w h = (s, refl, tests text tokens s true (opens_too_many text 0 tokens) (is_over (statement_depth_of s) w) refl)
over text tokens wrong w h = absurd w

whole : (text : List ℕ) (tokens : List Token) (items : List Item) → Only sql (classes_of text tokens) items → IsWhole (tree_of text tokens items)
whole text tokens items only = none_missing text tokens items only.sentence

-- ---- the answer

pub grown : (text : List ℕ) (tokens : List Token) (items : List Item) (result : Result Stmt SyntaxFault) → Only sql (classes_of text tokens) items → Grown text tokens items result → Parsed text tokens result
grown text tokens items (Ok statement) only is = let g = good text tokens items statement (whole text tokens items only) is in (items, only, g.0, g.1)
grown text tokens items (Err Depth) only is = let o = over text tokens (tree_of text tokens items) (whole text tokens items only) is in (items, only, o.0, o.1, o.2)
grown text tokens items (Err NoMemory) only is = tt
grown text tokens items (Err (At p)) only is = absurd is
grown text tokens items (Err (NotOffered p)) only is = absurd is

pub faulted : (text : List ℕ) (tokens : List Token) (fault : Fault) → Faulty sql (classes_of text tokens) fault → Parsed text tokens (Err (fault_at text tokens fault))
faulted text tokens (f.At k) is = (k, is, refl)
faulted text tokens (f.NotOffered k) is = (k, is, refl)
faulted text tokens f.NoMemory is = tt

pub read_grown : (text : List ℕ) (tokens : List Token) (items : List Item) (result : Result Stmt SyntaxFault) → Only sql (classes_of text tokens) items → IsMeantBy (classes_of text tokens) items → Grown text tokens items result → Read text tokens result
read_grown text tokens items (Ok statement) only is grown = let g = good text tokens items statement (whole text tokens items only) grown in (items, is, g.0, g.1)
read_grown text tokens items (Err Depth) only is grown = let o = over text tokens (tree_of text tokens items) (whole text tokens items only) grown in (items, is, o.0, o.1, o.2)
read_grown text tokens items (Err NoMemory) only is grown = tt
read_grown text tokens items (Err (At p)) only is grown = absurd grown
read_grown text tokens items (Err (NotOffered p)) only is grown = absurd grown

pub read_faulted : (text : List ℕ) (tokens : List Token) (fault : Fault) → IsFaultOf (classes_of text tokens) fault → Read text tokens (Err (fault_at text tokens fault))
read_faulted text tokens (f.At k) is = (k, is, refl)
read_faulted text tokens (f.NotOffered k) is = (k, is, refl)
read_faulted text tokens f.NoMemory is = tt

pub fits : (text : List ℕ) (tokens : List Token) (items : List Item) (result : Result Stmt SyntaxFault) → Only sql (classes_of text tokens) items → Grown text tokens items result → IfOk result (λ statement. statement_depth_of statement ≤ 256)
fits text tokens items (Ok statement) only grown = subst (λ z. IsWhole z) grown.1 (whole text tokens items only)
fits text tokens items (Err fault) only grown = tt

-- ---- the same, where the lists are those that calls answered

pub read_of : (text : List ℕ) (tokens list : List Token) (classes : List ℕ) (items read_items : List Item) (result : Result Stmt SyntaxFault) → list ≡ tokens → classes ≡ classes_of text list → Only sql classes items → IsMeantBy classes items → read_items ≡ items
    → Grown text list read_items result → Read text tokens result
read_of text tokens list classes items read_items result of_tokens of_list only is of_items grown_by =
    subst (λ z. Read text z result) of_tokens (read_grown text list items result (subst (λ z. Only sql z items) of_list only) (subst (λ z. IsMeantBy z items) of_list is) (subst (λ z. Grown text list z result) of_items grown_by))

pub parsed_of : (text : List ℕ) (tokens list : List Token) (classes : List ℕ) (items read_items : List Item) (result : Result Stmt SyntaxFault) → list ≡ tokens → classes ≡ classes_of text list → Only sql classes items → read_items ≡ items
    → Grown text list read_items result → Parsed text tokens result
parsed_of text tokens list classes items read_items result of_tokens of_list only of_items grown_by =
    subst (λ z. Parsed text z result) of_tokens (grown text list items result (subst (λ z. Only sql z items) of_list only) (subst (λ z. Grown text list z result) of_items grown_by))

pub fits_of : (text : List ℕ) (list : List Token) (classes : List ℕ) (items read_items : List Item) (result : Result Stmt SyntaxFault) → classes ≡ classes_of text list → Only sql classes items → read_items ≡ items
    → Grown text list read_items result → IfOk result (λ statement. statement_depth_of statement ≤ 256)
fits_of text list classes items read_items result of_list only of_items grown_by =
    fits text list items result (subst (λ z. Only sql z items) of_list only) (subst (λ z. Grown text list z result) of_items grown_by)
