-- The names of a definition's constraints have no line feed, their own and those that they are given.
use Rattle.std.proofs.Common.{◌≡◌, ℕ, ◌-◌, Bool, true, false, List, [], ◌∷◌, ◌++◌, length, map, codes, Option, Some, None, refl, sym, subst}
use Rattle.std.specs.Prelude.{◌==◌, encode_utf8, not, if◌then◌else◌, nat_le}
use Rattle.std.specs.Fmt.{decimal}
use Rattle.std.specs.List.{list_all}
use Rattle.std.specs.Str.{IsUtf8, chars, encode_utf8_all}
use Rattle.std.proofs.lemmas.Bool.{and_from, and_parts}
use Rattle.std.proofs.lemmas.Str.{encodes-chars}
use Rattle.hs_ast.specs.Lawful.{if_written, is_identifier, is_lawful_column_constraint, is_lawful_column_rule, is_lawful_element, is_lawful_table_rule, is_lawful_column, is_type, is_default}
use Rattle.hs_ast.specs.declared.definition.ColumnDefinition.{ColumnDefinition}
use Rattle.hs_ast.specs.declared.definition.TableElement.{TableElement}
use Rattle.hs_ast.specs.declared.definition.TableElement.TheVariants as element
use Rattle.hs_ast.specs.declared.word.Identifier.{Identifier}
use Rattle.hs_statements.specs.Naming.{all_numbers, free_from, name_by, named_first, names_from}
use Rattle.hs_elements.specs.Names.{cut, ending, numbered, within, word_of}
use Rattle.hs_elements.specs.declared.names.ConstraintKind.{ConstraintKind}
use Rattle.hs_elements.specs.declared.names.ConstraintKind.TheVariants as kind
use Rattle.hs_entries.specs.Parts.{lacks}
use Rattle.hs_machine.proofs.Acknowledged.{decimal_lacks, lacks-append}
use Rattle.hs_outlines.specs.Named.{by_column, is_taken, written, written_in}
use Rattle.hs_outlines.specs.declared.written.Written.{Written}
use Rattle.hs_reading.proofs.Lists.{IsNamed, IsSingle, if_named, on_every, on_map}
use Rattle.hs_reading.proofs.SingleParts.{Each, OnPart, each_flat, each_map, each_passed}
use Rattle.hs_schema.specs.Catalogue.{Text, Things}

-- ---- a table's name, cut

both_lack : (xs ys : Text) → IsSingle xs → IsSingle ys → IsSingle (xs ++ ys)
both_lack xs ys h k = lacks-append 10 xs ys h k

in_parts : (xs ys : Text) → IsSingle (xs ++ ys) → IsSingle xs × IsSingle ys
in_parts [] ys h = (refl, h)
in_parts (x ∷ xs) ys h =
    let first = and_parts (not (x == 10)) (lacks 10 (xs ++ ys)) h in
    let rest = in_parts xs ys first.1 in
    (and_from (not (x == 10)) (lacks 10 xs) first.0 rest.0, rest.1)

within_by : (room c : ℕ) (cs : List ℕ) (t : Bool) → IsSingle (encode_utf8 c) → IsSingle (within (room - length (encode_utf8 c)) cs) → IsSingle (if t then encode_utf8 c ++ within (room - length (encode_utf8 c)) cs else [])
within_by room c cs true h k = both_lack (encode_utf8 c) (within (room - length (encode_utf8 c)) cs) h k
within_by room c cs false h k = refl

within_single : (room : ℕ) (cs : List ℕ) → IsSingle (encode_utf8_all cs) → IsSingle (within room cs)
within_single room [] h = refl
within_single room (c ∷ cs) h =
    let parts = in_parts (encode_utf8 c) (encode_utf8_all cs) h in
    within_by room c cs (nat_le (length (encode_utf8 c)) room) parts.0 (within_single (room - length (encode_utf8 c)) cs parts.1)

-- a name that is text
pub record IsTextName (name : Text) : Type 0 where
  pub single : IsSingle name
  pub text : IsUtf8 name

cut_single : (room : ℕ) (name : Text) → IsTextName name → IsSingle (cut room name)
cut_single room name h = within_single room (chars name) (subst IsSingle (sym (encodes-chars name h.text)) h.single)

word_single : (its : ConstraintKind) → IsSingle (word_of its)
word_single kind.NotNull = refl
word_single kind.PrimaryKey = refl
word_single kind.Unique = refl
word_single kind.Check = refl
word_single kind.ForeignKey = refl

ending_single : (its : ConstraintKind) (n : ℕ) → IsSingle (ending its n)
ending_single its n = both_lack (codes "_" ++ word_of its ++ codes "_") (decimal n) (both_lack (codes "_" ++ word_of its) (codes "_") (both_lack (codes "_") (word_of its) refl (word_single its)) refl) (decimal_lacks 10 refl n)

numbered_single : (table : Text) (its : ConstraintKind) (n : ℕ) → IsTextName table → IsSingle (numbered table its n)
numbered_single table its n h = both_lack (cut (128 - length (ending its n)) table) (ending its n) (cut_single (128 - length (ending its n)) table h) (ending_single its n)

-- ---- names from the left

abbrev pub IsWritten : Written → Type 0
IsWritten w = OnPart IsNamed w.name

name_by_single : (o : Option Identifier) (things : Things) (table : Text) (given : List Text) (its : ConstraintKind) → OnPart IsNamed o → IsTextName table → OnPart IsSingle (name_by o things table given its)
name_by_single (Some own) things table given its h k = h
name_by_single None things table given its h k =
    on_map IsSingle (numbered table its) (free_from (is_taken things given) table its all_numbers 1) (on_every (λ n. IsSingle (numbered table its n)) (free_from (is_taken things given) table its all_numbers 1) (λ n. numbered_single table its n k))

with_name : (name : Text) (o : Option (List Text)) → IsSingle name → OnPart (Each IsSingle) o → OnPart (λ names. Each IsSingle (name ∷ names)) o
with_name name None h k = tt
with_name name (Some names) h k = (h, k)

first_single : (o : Option Text) (others : Text → Option (List Text)) → OnPart IsSingle o → ((name : Text) → OnPart (Each IsSingle) (others name)) → OnPart (Each IsSingle) (named_first o others)
first_single None others h k = tt
first_single (Some name) others h k = on_map (Each IsSingle) (λ names. name ∷ names) (others name) (with_name name (others name) h (k name))

pub names_single_from : (things : Things) (table : Text) (given : List Text) (ws : List Written) → IsTextName table → Each IsWritten ws → OnPart (Each IsSingle) (names_from things table given ws)
names_single_from things table given [] h k = tt
names_single_from things table given (w ∷ ws) h k =
    first_single (name_by w.name things table given w.kind) (λ name. names_from things table (given ++ name ∷ []) ws) (name_by_single w.name things table given w.kind k.0 h)
    (λ name. names_single_from things table (given ++ name ∷ []) ws h k.1)

-- ---- elements of a text

column_written : (c : ColumnDefinition) → list_all is_lawful_column_constraint c.constraints ≡ true → Each IsWritten (map by_column c.constraints)
column_written c h =
    each_map IsWritten by_column c.constraints
    (each_passed (λ k. OnPart IsNamed k.name) is_lawful_column_constraint c.constraints (λ k is. if_named k.name (and_parts (if_written is_identifier k.name) (is_lawful_column_rule k.rule) is).0) h)

pub constraints_lawful : (c : ColumnDefinition) → is_lawful_column c ≡ true → list_all is_lawful_column_constraint c.constraints ≡ true
constraints_lawful c h =
    let first = and_parts (is_identifier c.name) _ h in
    let second = and_parts (is_type c.data_type) _ first.1 in
    (and_parts (if_written is_default c.default) (list_all is_lawful_column_constraint c.constraints) second.1).1

element_written : (x : TableElement) → is_lawful_element x ≡ true → Each IsWritten (written_in x)
element_written (element.Column c) h = column_written c (constraints_lawful c h)
element_written (element.Constraint t) h = (if_named t.name (and_parts (if_written is_identifier t.name) (is_lawful_table_rule t.rule) h).0, tt)

pub all_written : (elements : List TableElement) → list_all is_lawful_element elements ≡ true → Each IsWritten (written elements)
all_written elements h = each_flat IsWritten written_in elements (each_passed (λ x. Each IsWritten (written_in x)) is_lawful_element elements element_written h)
