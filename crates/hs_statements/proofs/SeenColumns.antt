-- Columns that are seen have known kinds, and so has each that a name means.
use Rattle.std.proofs.Common.{ℕ, List, [], ◌∷◌, map, Option}
use Rattle.std.specs.List.{enumerate_from}
use Rattle.hs_ast.specs.declared.expression.ColumnName.{ColumnName}
use Rattle.hs_statements.proofs.KnownParts.{Each, IsKnown, each_filtered, each_flat, each_map, each_placed, each_to}
use Rattle.hs_meaning.specs.Surroundings.{Surroundings, innermost}
use Rattle.hs_scope.specs.Names.{Offer, Text, every_column, found_in, inside, is_meant, meant, offered_by, offers, only, outward, sought_in}
use Rattle.hs_scope.specs.declared.column.OutputColumn.{OutputColumn}
use Rattle.hs_scope.specs.declared.from_table.FromTable.{FromTable}
use Rattle.hs_scope.specs.declared.sought.Found.{Found}
use Rattle.hs_scope.specs.declared.sought.Found.TheVariants as found
use Rattle.hs_scope.specs.declared.sought.Sought.{Sought}
use Rattle.hs_scope.specs.declared.sought.Sought.TheVariants as sought

abbrev pub IsKind : OutputColumn → Type 0
IsKind c = IsKnown c.kind

abbrev pub IsTableSeen : FromTable → Type 0
IsTableSeen t = Each IsKind t.columns

abbrev pub AreSeen : List FromTable → Type 0
AreSeen = Each IsTableSeen

abbrev pub IsSeen : Surroundings → Type 0
IsSeen s = Each AreSeen s.scopes

-- ---- names

abbrev pub IsFound : Found → Type 0
IsFound (found.Column n at kind) = IsKnown kind
IsFound found.Missing = Unit {0}
IsFound found.Ambiguous = Unit {0}

abbrev IsSought : Sought → Type 0
IsSought (sought.One at kind) = IsKnown kind
IsSought sought.Missing = Unit {0}
IsSought sought.Several = Unit {0}

abbrev OfOffer : Offer → Type 0
OfOffer o = IsKind o.1

outward_found : (f : Found) → IsFound f → IsFound (outward f)
outward_found (found.Column n at kind) h = h
outward_found found.Missing h = tt
outward_found found.Ambiguous h = tt

inside_found : (s : Sought) (f : Found) → IsSought s → IsFound f → IsFound (inside s f)
inside_found sought.Missing f h k = outward_found f k
inside_found (sought.One at kind) f h k = h
inside_found sought.Several f h k = tt

only_sought : (cs : List (ℕ × OutputColumn)) → Each (λ c. IsKind c.1) cs → IsSought (only cs)
only_sought [] h = tt
only_sought (c ∷ []) h = h.0
only_sought (c ∷ d ∷ rest) h = tt

offered : (tables : List FromTable) → AreSeen tables → Each OfOffer (offers tables)
offered tables h = each_flat OfOffer offered_by tables (each_to IsTableSeen (λ t. Each OfOffer (offered_by t)) tables (λ t seen. each_map OfOffer (λ c. (t.name, c)) t.columns seen) h)

sought_seen : (tables : List FromTable) (table : Option Text) (name : Text) → AreSeen tables → IsSought (sought_in tables table name)
sought_seen tables table name h =
    let placed : Each (λ o. OfOffer o.1) (enumerate_from 0 (offers tables)) = each_placed OfOffer 0 (offers tables) (offered tables h) in
    let these : Each (λ o. OfOffer o.1) (meant tables table name) = each_filtered (λ o. OfOffer o.1) (λ o. is_meant table name o.1) (enumerate_from 0 (offers tables)) placed in
    only_sought (map (λ o. (o.0, o.1.1)) (meant tables table name)) (each_map (λ c. IsKind c.1) (λ o. (o.0, o.1.1)) (meant tables table name) these)

pub found_seen : (scopes : List (List FromTable)) (name : ColumnName) → Each AreSeen scopes → IsFound (found_in scopes name)
found_seen [] name h = tt
found_seen (tables ∷ around) name h = inside_found (sought_in tables name.table name.column) (found_in around name) (sought_seen tables name.table name.column h.0) (found_seen around name h.1)

-- ---- all columns

innermost_seen : (scopes : List (List FromTable)) → Each AreSeen scopes → AreSeen (innermost scopes)
innermost_seen [] h = tt
innermost_seen (tables ∷ around) h = h.0

pub every_seen : (s : Surroundings) → IsSeen s → Each IsKind (every_column (innermost s.scopes))
every_seen s h = each_flat IsKind (λ t. t.columns) (innermost s.scopes) (innermost_seen s.scopes h)
