-- The steps of a sentence's marks find each part that they take, and leave one statement, in which none is lost.
use Rattle.std.proofs.Common.{◌≡◌, ℕ, zero, suc, ◌+◌, ◌-◌, ◌<◌, ◌≤◌, Bool, true, false, T, Option, Some, None, List, [], ◌∷◌, map, length, get_or, slice_get, refl, ap, sym, ◌∙◌, subst, arith}
use Rattle.std.specs.Prelude.{nat_lt}
use Rattle.std.proofs.lemmas.Bool.Decides.{nat_tests}
use Rattle.hs_ast.specs.Depth.{statement_depth_of}
use Rattle.hs_ast.specs.declared.statement.Stmt.{Stmt}
use Rattle.hs_grammar.proofs.Sets.{all_at, above_zero}
use Rattle.hs_grammar.specs.declared.types.Item.{Item}
use Rattle.hs_grammar.specs.declared.types.Symbol.{Symbol}
use Rattle.hs_grammar.specs.declared.types.Symbol.TheVariants as S
use Rattle.hs_grammar.specs.Check.{all_below, if_above}
use Rattle.hs_grammar.specs.Grammar.{whole, Derives, ends, take, take_keep, take_up_to, mark, keep, turn, rule, Sentence}
use Rattle.hs_lexer.specs.declared.token.Token.{Token}
use Rattle.hs_builder.specs.declared.mark.Mark.{Mark}
use Rattle.hs_parser.specs.declared.marks.TheConstants.{MARKS}
use Rattle.hs_builder.specs.declared.part.Parts.{Parts}
use Rattle.hs_syntax.specs.declared.table.TheConstants.{PRODUCTIONS}
use Rattle.hs_builder.specs.MarkSteps.{no_parts, topmost}
use Rattle.hs_parser.specs.Building.{token_at, marked, built, tree_of}
use Rattle.hs_parser.specs.Sentences.{IsWhole, NoneMissing}
use Rattle.hs_syntax.specs.Sql.{sql}
use Rattle.hs_syntax.specs.Statement.{table_grammar}
use Rattle.hs_builder.specs.Steps.{Step, stands, deep, wrong, deepened, and_then}
use Rattle.hs_builder_laws.proofs.Covering.{Every, Then}
use Rattle.hs_builder_laws.proofs.CoveringMarks.{step_kept, none_cover}
use Rattle.hs_builder_laws.proofs.Covers.{PartsCover}
use Rattle.hs_builder_laws.proofs.Effects.{heights, levels, bottom, effect, statement}
use Rattle.hs_builder_laws.proofs.Heights.{none, more, height, Height, Heights, joined, blank, changed, Framed, changed_framed}
use Rattle.hs_builder_laws.proofs.Levels.{Levels, shapes, Within}
use Rattle.hs_builder_laws.proofs.Marked.{Follows, step_follows, Keeps, step_keeps_depths}
use Rattle.hs_parser.proofs.RuleEffects.{needs, results}
use Rattle.hs_parser.proofs.Typing.{typed, Runs, given}

-- ---- each production keeps to the effects of the rules

abbrev by_mark : Option Mark → Heights → Option Heights
by_mark None v = None
by_mark (Some m) v = changed (effect m) v

abbrev act : ℕ → Heights → Option Heights
act a v = by_mark (slice_get MARKS a) v

by_mark_framed : (m : Option Mark) (v f : Heights) → Framed f (by_mark m v) (by_mark m (joined v f))
by_mark_framed None v f = tt
by_mark_framed (Some m) v f = changed_framed (effect m) v f

abbrev is_typed : ℕ → Bool
is_typed = typed bottom act needs results table_grammar

all_typed : T (all_below (length PRODUCTIONS) (λ p. if_above p (is_typed p)))
all_typed = tt

typed_at : (p : ℕ) → 0 < p → p < length PRODUCTIONS → T (is_typed p)
typed_at p l b = above_zero p (is_typed p) l (all_at (length PRODUCTIONS) (λ p. if_above p (is_typed p)) p all_typed b)

-- ---- along a derivation

-- one statement and nothing else
abbrev last : Heights
last = none ∷ none ∷ none ∷ none ∷ none ∷ none ∷ none ∷ none ∷ none ∷ none ∷ none ∷ none ∷ none ∷ none ∷ none ∷ none ∷ none ∷ none ∷ none ∷ none ∷ none ∷ none ∷ none ∷ none ∷ none ∷ none ∷ none ∷ none ∷ none ∷ none ∷ none ∷ none ∷ none ∷ none ∷ more none ∷ none ∷ []

-- what stands behind some steps on these parts: one statement, and parts within 256 exactly where they were, or some that are not
abbrev Lands : Parts → Step Parts → Type 0
Lands p (stands q) = (heights q ≡ last) × (Within (levels p) → Within (levels q)) × (Within (levels q) → Within (levels p))
Lands p (deep q) = (heights q ≡ last) × (Within (levels q) → ⊥)
Lands p wrong = ⊥

abbrev Leads : List Symbol → ℕ → Heights → Type 0
Leads = Runs bottom act needs results last

marked_right : (text : List ℕ) (tokens : List Token) (taken : ℕ) (m : Option Mark) (p : Parts) → PartsCover p → Follows (by_mark m (heights p)) (marked text tokens taken m p)
marked_right text tokens taken None p c = tt
marked_right text tokens taken (Some m) p c = step_follows text (token_at tokens (taken - 1)) (token_at tokens taken).start m p c

marked_keeps : (text : List ℕ) (tokens : List Token) (taken : ℕ) (m : Option Mark) (p : Parts) → PartsCover p → Keeps p (marked text tokens taken m p)
marked_keeps text tokens taken None p c = tt
marked_keeps text tokens taken (Some m) p c = step_keeps_depths text (token_at tokens (taken - 1)) (token_at tokens taken).start m p c

marked_covers : (text : List ℕ) (tokens : List Token) (taken : ℕ) (m : Option Mark) (p : Parts) → PartsCover p → Then (λ (z : Parts). PartsCover z) (marked text tokens taken m p)
marked_covers text tokens taken None p c = tt
marked_covers text tokens taken (Some m) p c = step_kept text (token_at tokens (taken - 1)) (token_at tokens taken).start m p c

on_from : (p q : Parts) (x : Step Parts) → (Within (levels p) → Within (levels q)) → (Within (levels q) → Within (levels p)) → Lands q x → Lands p x
on_from p q (stands r) there back h = (h.0, λ w. h.1 (there w), λ w. back (h.2 w))
on_from p q (deep r) there back h = h
on_from p q wrong there back h = absurd h

on_deep : (p q : Parts) (x : Step Parts) → (Within (levels q) → ⊥) → Lands q x → Lands p (deepened x)
on_deep p q (stands r) never h = (h.0, λ w. never (h.2 w))
on_deep p q (deep r) never h = h
on_deep p q wrong never h = absurd h

and_lands : (p : Parts) (x : Step Parts) (w : Heights) (f : Parts → Step Parts) → Follows (Some w) x → Keeps p x → Then (λ (z : Parts). PartsCover z) x → ((q : Parts) → heights q ≡ w → PartsCover q → Lands q (f q)) → Lands p (and_then x f)
and_lands p (stands q) w f e k c h = on_from p q (f q) k.0 k.1 (h q e c)
and_lands p (deep q) w f e k c h = on_deep p q (f q) k (h q e c)
and_lands p wrong w f e k c h = absurd e

lands : {s : List Symbol} {q : ℕ} {m : List Item} → Derives table_grammar whole s q m → (text : List ℕ) (tokens : List Token) (taken : ℕ) (p : Parts) (v : Heights) → heights p ≡ v → PartsCover p → Leads s q v → Lands p (built text tokens taken m p)
lands ends text tokens taken p v e c r = (e ∙ r, λ x. x, λ x. x)
lands (take d) text tokens taken p v e c r = lands d text tokens (taken + 1) p v e c r
lands (take_keep {c} l k d) text tokens taken p v e h r = lands d text tokens (taken + 1) p v e h (r c)
lands (take_up_to l k x d) text tokens taken p v e c r = lands d text tokens (taken + 1) p v e c r
lands (mark {a} {m} d) text tokens taken p v e c r =
    and_lands p (marked text tokens taken (slice_get MARKS a) p) r.0 (built text tokens taken m)
    (subst (λ z. Follows z (marked text tokens taken (slice_get MARKS a) p)) (ap (act a) e ∙ r.1) (marked_right text tokens taken (slice_get MARKS a) p c))
    (marked_keeps text tokens taken (slice_get MARKS a) p c) (marked_covers text tokens taken (slice_get MARKS a) p c)
    (λ p' e' c'. lands d text tokens taken p' r.0 e' c' r.2)
lands (keep d) text tokens taken p v e c r = lands d text tokens taken p v e c r
lands (turn d) text tokens taken p v e c r = lands d text tokens taken p v e c r
lands (rule {n} {q} {s} x l b f d) text tokens taken p v e c r =
    lands d text tokens taken p v e c (given bottom act needs results last (λ a w g. by_mark_framed (slice_get MARKS a) w g) table_grammar x n q v s (typed_at x l b) f (ap blank (sym e)) r)

starts : Leads (S.Rule 0 ∷ []) 0 bottom
starts = (bottom, refl, ((last, refl, λ k f. refl), tt))

pub sentence_lands : (text : List ℕ) (tokens : List Token) (items : List Item) → Sentence table_grammar items → Lands no_parts (built text tokens 0 items no_parts)
sentence_lands text tokens items d = lands d text tokens 0 no_parts bottom refl none_cover starts

-- ---- one statement and nothing else: all is within 256 where it is

abbrev Filled : Heights → Levels → Type 0
Filled [] v = Unit {0}
Filled (h ∷ w) [] = Unit {0}
Filled (none ∷ w) (l ∷ v) = Filled w v
Filled (more h ∷ w) (l ∷ v) = Every (λ d. d ≤ 256) l × Filled w v

abbrev first_of_some : Heights → Height
first_of_some [] = none
first_of_some (h ∷ v) = h

abbrev rest_of : Heights → Heights
rest_of [] = []
rest_of (h ∷ v) = v

some_more : {h : Height} {w : Heights} → [] ≡ h ∷ w → ⊥
some_more e = cc

some_less : {h : Height} {w : Heights} → h ∷ w ≡ [] → ⊥
some_less e = cc

is_none : {h : Height} → more h ≡ none → ⊥
is_none e = cc

filled : (w : Heights) (v : Levels) → shapes v ≡ w → Filled w v → Within v
filled [] [] e h = tt
filled [] (l ∷ v) e h = absurd (some_less e)
filled (k ∷ w) [] e h = absurd (some_more e)
filled (none ∷ w) ([] ∷ v) e h = (tt, filled w v (ap rest_of e) h)
filled (none ∷ w) ((d ∷ l) ∷ v) e h = absurd (is_none (ap first_of_some e))
filled (more k ∷ w) (l ∷ v) e h = (h.0, filled w v (ap rest_of e) h.1)

abbrev Lowest : ℕ → Levels → Type 0
Lowest i v = Every (λ d. d ≤ 256) (get_or v i [])

at_level : (i : ℕ) (v : Levels) → Within v → Lowest i v
at_level i [] h = tt
at_level zero (l ∷ v) h = h.0
at_level (suc i) (l ∷ v) h = at_level i v h.1

none_within : Within (levels no_parts)
none_within = filled bottom (levels no_parts) refl tt

-- ---- the tree

not_within : (d : ℕ) (t : Bool) → nat_lt 256 d ≡ t → (d ≤ 256 → ⊥) → 256 < d
not_within d true e h = grind (arith, nat_tests)
not_within d false e h = absurd (h (grind (arith, nat_tests)))

one_less : {h : Height} → none ≡ more h → ⊥
one_less e = cc

two_more : {h : Height} → more (more h) ≡ more none → ⊥
two_more e = cc

one_stands : (statements : List Stmt) → height (map statement_depth_of statements) ≡ more none → Every (λ d. d ≤ 256) (map statement_depth_of statements) → IsWhole (topmost statements)
one_stands [] e h = absurd (one_less e)
one_stands (s ∷ below) e h = h.0

one_deep : (statements : List Stmt) → height (map statement_depth_of statements) ≡ more none → (Every (λ d. d ≤ 256) (map statement_depth_of statements) → ⊥) → IsWhole (deepened (topmost statements))
one_deep [] e h = absurd (one_less e)
one_deep (s ∷ []) e h = not_within (statement_depth_of s) (nat_lt 256 (statement_depth_of s)) refl (λ l. h (l, tt))
one_deep (s ∷ t ∷ below) e h = absurd (two_more e)

landed : (x : Step Parts) → Lands no_parts x → IsWhole (and_then x (λ p. topmost p.statements))
landed (stands p) h = one_stands p.statements (ap (λ v. get_or v statement none) h.0) (at_level statement (levels p) (h.1 none_within))
landed (deep p) h = one_deep p.statements (ap (λ v. get_or v statement none) h.0) (λ x. h.1 (filled last (levels p) h.0 (x, tt)))
landed wrong h = absurd h

pub never_wrong : (text : List ℕ) (tokens : List Token) (items : List Item) → Sentence table_grammar items → IsWhole (tree_of text tokens items)
never_wrong text tokens items d = landed (built text tokens 0 items no_parts) (sentence_lands text tokens items d)

pub none_missing : NoneMissing
unfolding sql
none_missing = never_wrong
