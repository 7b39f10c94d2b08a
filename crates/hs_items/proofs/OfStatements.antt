-- The items of statements.
use Rattle.std.proofs.Common.{◌≡◌, ℕ, List, Result, Ok, Err, MatchResult, refl, subst, sym}
use Rattle.hs_grammar.specs.declared.types.Fault.{Fault}
use Rattle.hs_grammar.specs.declared.types.Fault.TheVariants as F
use Rattle.hs_grammar.specs.declared.types.Item.{Item}
use Rattle.hs_grammar.specs.Answer.{Faulty, Only}
use Rattle.hs_grammar.specs.Grammar.{Grammar}
use Rattle.hs_items.specs.Items.{items_of, table}
use Rattle.hs_items.proofs.Recognised.{IsAnswer, answers}
use Rattle.hs_syntax.specs.declared.table.TheConstants.{ROWS}
use Rattle.hs_syntax.specs.Meant.{IsMeantBy}
use Rattle.hs_syntax.specs.Rows.{table_of}
use Rattle.hs_syntax.specs.Sql.{sql}
use Rattle.hs_syntax.specs.Statement.{IsFaultOf, table_grammar}
use Rattle.hs_syntax.proofs.Answers.{answered}
use Rattle.hs_syntax.proofs.OneReading.{served}

pub same_grammar : sql ≡ table_grammar
unfolding sql
same_grammar = refl

answered_here : (ts : List ℕ) → IsAnswer table_grammar ts (items_of ts)
unfolding items_of table sql
answered_here ts = answers table_grammar (table_of ROWS) served ts

only_memory : (g : Grammar) (ts : List ℕ) (r : Result (List Item) Fault) → IsAnswer g ts r → ¬ (r ≡ Err F.NoMemory)
only_memory g ts (Ok m) h e = cc
only_memory g ts (Err f) h e = h.1 (let z : f ≡ F.NoMemory = cc in z)

pub never_memory : (ts : List ℕ) → ¬ (items_of ts ≡ Err F.NoMemory)
never_memory ts = only_memory table_grammar ts (items_of ts) (answered_here ts)

faulty : (g : Grammar) (ts : List ℕ) (r : Result (List Item) Fault) → IsAnswer g ts r → MatchResult r (λ m. Only g ts m) (λ e. Faulty g ts e)
faulty g ts (Ok m) h = h
faulty g ts (Err f) h = h.0

pub by_table : (ts : List ℕ) → MatchResult (items_of ts) (λ m. Only sql ts m) (λ e. Faulty sql ts e)
by_table ts = subst (λ g. MatchResult (items_of ts) (λ m. Only g ts m) (λ e. Faulty g ts e)) (sym same_grammar) (faulty table_grammar ts (items_of ts) (answered_here ts))

pub as_meant : (ts : List ℕ) → MatchResult (items_of ts) (λ m. IsMeantBy ts m) (λ e. IsFaultOf ts e)
as_meant ts = answered (λ m. m) ts (items_of ts) (faulty table_grammar ts (items_of ts) (answered_here ts))
