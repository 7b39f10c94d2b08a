-- Lists of names without line feeds, and their faults.
use Rattle.std.proofs.Common.{◌≡◌, Bool, true, not, List, [], ◌∷◌, ◌++◌, Option, Some, None, refl}
use Rattle.std.specs.List.{list_all}
use Rattle.std.specs.Option.{option_map}
use Rattle.hs_ast.specs.Lawful.{if_written, is_identifier}
use Rattle.hs_ast.specs.declared.word.Identifier.{Identifier}
use Rattle.hs_elements.specs.Columns.{TypedNames, has_column, unknown}
use Rattle.hs_elements.specs.Faults.{Text, exists_at, is_among, no_such_column_at, repeated, where_so}
use Rattle.hs_entries.specs.Parts.{lacks}
use Rattle.hs_plan.specs.declared.fault.PlacedFault.{PlacedFault}
use Rattle.hs_reading.specs.Causes.{is_single}
use Rattle.hs_reading.proofs.SingleParts.{AreSingle, Each, OnPart, both, each_passed, each_to, either, flat_single, one}
use Rattle.hs_reading.proofs.SingleTrees.{name_single}

abbrev pub IsSingle : Text → Type 0
IsSingle name = lacks 10 name ≡ true

abbrev pub IsNamed : Identifier → Type 0
IsNamed n = IsSingle n.name

pub names_are : (list : List Identifier) → list_all is_identifier list ≡ true → Each IsNamed list
names_are list h = each_passed IsNamed is_identifier list (λ n is. name_single n.name is) h

pub if_named : (o : Option Identifier) → if_written is_identifier o ≡ true → OnPart IsNamed o
if_named None h = tt
if_named (Some n) h = name_single n.name h

pub where_single : (b : Bool) (fault : PlacedFault) → is_single fault ≡ true → AreSingle (where_so b fault)
where_single b fault h = either b (fault ∷ []) [] (one fault h) refl

pub unknown_single : (names : TypedNames) (list : List Identifier) → Each IsNamed list → AreSingle (unknown names list)
unknown_single names list h =
    flat_single (λ n. where_so (not (has_column names n.name)) (no_such_column_at n)) list
    (each_to IsNamed (λ n. AreSingle (where_so (not (has_column names n.name)) (no_such_column_at n))) list (λ n is. where_single (not (has_column names n.name)) (no_such_column_at n) is) h)

pub repeated_single : (before : List Text) (list : List Identifier) → Each IsNamed list → AreSingle (repeated before list)
repeated_single before [] h = refl
repeated_single before (n ∷ ns) h =
    both (where_so (is_among before n.name) (exists_at n)) (repeated (before ++ n.name ∷ []) ns) (where_single (is_among before n.name) (exists_at n) h.0) (repeated_single (before ++ n.name ∷ []) ns h.1)

pub on_map : {A B : Type 0} (P : B → Type 0) (f : A → B) (o : Option A) → OnPart (λ a. P (f a)) o → OnPart P (option_map f o)
on_map P f None h = tt
on_map P f (Some a) h = h

pub on_every : {A : Type 0} (P : A → Type 0) (o : Option A) → ((a : A) → P a) → OnPart P o
on_every P None h = tt
on_every P (Some a) h = h a
