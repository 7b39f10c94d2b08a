-- The grammar offers the statement that a text is.
use Rattle.std.proofs.Common.{◌≡◌, ℕ, true, length, arith, List, [], ◌∷◌, ◌++◌, Ok, refl}
use Rattle.std.proofs.lemmas.Bool.{and_from, lt-ltb}
use Rattle.std.specs.List.{list_all}
use Rattle.hs_ast.specs.declared.definition.AlterAction.{AlterAction}
use Rattle.hs_ast.specs.declared.definition.TableConstraint.{TableConstraint}
use Rattle.hs_ast.specs.declared.definition.TableElement.{TableElement}
use Rattle.hs_ast.specs.declared.definition.TableRule.{TableRule}
use Rattle.hs_ast.specs.declared.statement.Stmt.{Stmt}
use Rattle.hs_ast.specs.declared.word.Identifier.{Identifier}
use Rattle.hs_language.proofs.Lists.{all_both}
use Rattle.hs_lexer.specs.declared.token.Token.{Token}
use Rattle.hs_read.specs.Read.{IsReadAs}
use Rattle.hs_spelling.specs.Literals.{SpellsNames}
use Rattle.hs_spelling.specs.Literals.SpellsNames.{more_names, one_name}
use Rattle.hs_spelling.specs.Statements.{IsSpelledBy, SpellsAlteration, SpellsElement, SpellsElements, SpellsStatement, SpellsTableConstraint, SpellsTableRule}
use Rattle.hs_spelling.specs.Statements.IsSpelledBy.{spelled}
use Rattle.hs_spelling.specs.Statements.SpellsAlteration.{add_column, add_constraint, drop_constraint}
use Rattle.hs_spelling.specs.Statements.SpellsElement.{column_element, constraint_element}
use Rattle.hs_spelling.specs.Statements.SpellsElements.{more_elements, one_element}
use Rattle.hs_spelling.specs.Statements.SpellsStatement.{alter_table, create_index, create_table}
use Rattle.hs_spelling.specs.Statements.SpellsTableConstraint.{table_constraint}
use Rattle.hs_spelling.specs.Statements.SpellsTableRule.{foreign_key, table_check, table_primary, table_unique}
use Rattle.hs_spelling.proofs.Answered.{answers_spelled}
use Rattle.hs_reading.specs.Offered.{are_some, is_offered, is_offered_action, is_offered_element, is_offered_rule}

one_more : (ns : List Identifier) (n : Identifier) → are_some (ns ++ n ∷ []) ≡ true
one_more [] n = refl
one_more (m ∷ ms) n = lt-ltb 0 (length (m ∷ (ms ++ n ∷ []))) (omega arith)

names_some : {text : List ℕ} {ns : List Identifier} {a b : List Token} → SpellsNames text ns a b → are_some ns ≡ true
names_some (one_name n) = refl
names_some (more_names ns c n) = one_more _ _

rule_offered : {text : List ℕ} {x : TableRule} {a b : List Token} → SpellsTableRule text x a b → is_offered_rule x ≡ true
rule_offered (table_primary p k l n r) = names_some n
rule_offered (table_unique u l n r) = names_some n
rule_offered (table_check c l x r) = refl
rule_offered (foreign_key f k l n r v p c x) = names_some n

constraint_offered : {text : List ℕ} {x : TableConstraint} {a b : List Token} → SpellsTableConstraint text x a b → is_offered_rule x.rule ≡ true
constraint_offered (table_constraint e h r) = rule_offered r

element_offered : {text : List ℕ} {x : TableElement} {a b : List Token} → SpellsElement text x a b → is_offered_element x ≡ true
element_offered (column_element c) = refl
element_offered (constraint_element t) = constraint_offered t

elements_offered : {text : List ℕ} {xs : List TableElement} {a b : List Token} → SpellsElements text xs a b → list_all is_offered_element xs ≡ true
elements_offered (one_element {x} e) = and_from (is_offered_element x) true (element_offered e) refl
elements_offered (more_elements {xs} {x} es c e) = all_both is_offered_element xs (x ∷ []) (elements_offered es) (and_from (is_offered_element x) true (element_offered e) refl)

action_offered : {text : List ℕ} {x : AlterAction} {a b : List Token} → SpellsAlteration text x a b → is_offered_action x ≡ true
action_offered (add_column v w c) = refl
action_offered (add_constraint v c) = constraint_offered c
action_offered (drop_constraint v w n) = refl

statement_offered : {text : List ℕ} {x : Stmt} {a b : List Token} → SpellsStatement text x a b → is_offered x ≡ true
statement_offered (create_table v m t n l e r) = elements_offered e
statement_offered (create_index v i n o t l ns r) = names_some ns
statement_offered (alter_table v t n x) = action_offered x
statement_offered _ = refl

spelled_offered : {text : List ℕ} {x : Stmt} {a : List Token} → IsSpelledBy text x a → is_offered x ≡ true
spelled_offered (spelled w m) = statement_offered w

pub offered : (text : List ℕ) (statement : Stmt) → IsReadAs text (Ok statement) → is_offered statement ≡ true
offered text statement is = spelled_offered (answers_spelled text is.0 (Ok statement) is.2)
