-- Indexes as they are read.
use Rattle.std.proofs.Common.{◌≡◌, ◌≢◌, ℕ, List, [], ◌++◌, Option, Some, None, refl, sym, ap, subst, ◌∙◌}
use Rattle.std.specs.Prelude.{codes, is_some}
use Rattle.std.specs.Option.{option_map_or}
use Rattle.hs_plan.specs.declared.definition.Column.{Column}
use Rattle.hs_schema.specs.declared.table.Table.{Table}
use Rattle.hs_schema.specs.Catalogue.{Things, table_named}
use Rattle.hs_valuetext.proofs.NumberLemmas.{same_front}
use Rattle.hs_valuetext.proofs.TextLemmas.{Alone}
use Rattle.hs_nametext.specs.Names.{name_text, goes_on, IsNameAt}
use Rattle.hs_keytext.specs.Places.{places_text, AreColumns, AreColumnsAt}
use Rattle.hs_parttext.specs.Named.{IsNamed}
use Rattle.hs_parttext.proofs.NamedLemmas.{Ends, named_nameless}
use Rattle.hs_shorttext.specs.declared.index.NewIndex.{NewIndex}
use Rattle.hs_shorttext.specs.Tables.{columns_of}
use Rattle.hs_shorttext.specs.Indexes.{listed_text, index_text, AreListed, IsOn, IsIndexText}
use Rattle.hs_shorttext.proofs.Made.{Made, made_found, made_none}
use Rattle.hs_shorttext.proofs.Naming.{named_read, named_none}

-- ---- columns up to the end

pub last_found : (columns : List Column) (text rest : List ℕ) (places : List ℕ) → Alone (AreColumnsAt columns text) places rest → rest ≡ [] → AreColumnsAt columns text places [] × ((q : List ℕ) → AreColumnsAt columns text q [] → q ≡ places)
last_found columns text rest places found none = (
  subst (λ (xs : List ℕ). AreColumnsAt columns text places xs) none found.0,
  λ q h. (found.1 q [] h).0,
)

pub last_more : (columns : List Column) (text rest : List ℕ) (places : List ℕ) → Alone (AreColumnsAt columns text) places rest → rest ≢ [] → (q : List ℕ) → ¬ (AreColumnsAt columns text q [])
last_more columns text rest places found some q h = some (sym (found.1 q [] h).1)

pub last_columnless : (columns : List Column) (text : List ℕ) → ((places rest : List ℕ) → ¬ (AreColumnsAt columns text places rest)) → (q : List ℕ) → ¬ (AreColumnsAt columns text q [])
last_columnless columns text none q h = none q [] h

-- ---- columns of a table of the catalogue

the_columns : (things : Things) (table : List ℕ) (found : Table) → table_named things table ≡ Some found → columns_of things table ≡ found.columns
the_columns things table found is = ap (λ (o : Option Table). option_map_or (λ t. t.columns) o []) is

pub listed_from : (things : Things) (table text inner : List ℕ) (found : Table) → text ≡ codes "(" ++ inner → table_named things table ≡ Some found → (places : List ℕ) → AreColumnsAt found.columns inner places [] → AreListed things table text places
listed_from things table text inner found e is places h =
    let columns = the_columns things table found is in
    record {
      known = ap is_some is;
      lawful = subst (λ (cs : List Column). AreColumns cs places) (sym columns) h.lawful;
      written = e ∙ ap (λ (xs : List ℕ). codes "(" ++ xs) h.written ∙ ap (λ (cs : List Column). listed_text cs places) (sym columns);
    }

pub from_listed : (things : Things) (table text inner : List ℕ) (found : Table) → text ≡ codes "(" ++ inner → table_named things table ≡ Some found → (places : List ℕ) → AreListed things table text places → AreColumnsAt found.columns inner places []
from_listed things table text inner found e is places h =
    let columns = the_columns things table found is in
    record {
      lawful = subst (λ (cs : List Column). AreColumns cs places) columns h.lawful;
      written = same_front (codes "(") inner (places_text (columns_of things table) places ++ codes ")") (sym e ∙ h.written) ∙ ap (λ (cs : List Column). places_text cs places ++ codes ")") columns;
    }

pub listed_unknown : (things : Things) (table text : List ℕ) → table_named things table ≡ None → (places : List ℕ) → ¬ (AreListed things table text places)
listed_unknown things table text is places h =
    let known = h.known in
    let no = ap (λ (o : Option Table). is_some o) is in
    absurd cc

pub listed_unbegun : (things : Things) (table text : List ℕ) → ((r : List ℕ) → text ≢ codes "(" ++ r) → (places : List ℕ) → ¬ (AreListed things table text places)
listed_unbegun things table text other places h = other (places_text (columns_of things table) places ++ codes ")") h.written

-- ---- the table's name

listed_ends : (things : Things) → Ends (AreListed things)
listed_ends things table text places h = ap goes_on h.written

pub table_found : (things : Things) (text name rest made : List ℕ) (places : List ℕ) → Alone (IsNameAt text) name rest → AreListed things name rest places × ((q : List ℕ) → AreListed things name rest q → q ≡ places) → made ≡ name → IsNamed (AreListed things) text (made, places) × ((p : List ℕ × List ℕ) → IsNamed (AreListed things) text p → p ≡ (made, places))
table_found things text name rest made places = named_read (AreListed things) (listed_ends things) text name rest made places

pub table_listless : (things : Things) (text name rest : List ℕ) → Alone (IsNameAt text) name rest → ((q : List ℕ) → ¬ (AreListed things name rest q)) → (p : List ℕ × List ℕ) → ¬ (IsNamed (AreListed things) text p)
table_listless things text name rest = named_none (AreListed things) (listed_ends things) text name rest

pub table_nameless : (things : Things) (text : List ℕ) → ((name rest : List ℕ) → ¬ (IsNameAt text name rest)) → (p : List ℕ × List ℕ) → ¬ (IsNamed (AreListed things) text p)
table_nameless things text none = named_nameless (AreListed things) (listed_ends things) text none

-- ---- the index's name

on_ends : (things : Things) → Ends (IsOn things)
on_ends things name text p h = ap goes_on h.written

pub named_found : (things : Things) (text name rest made : List ℕ) (on : List ℕ × List ℕ) → Alone (IsNameAt text) name rest → IsOn things name rest on × ((p : List ℕ × List ℕ) → IsOn things name rest p → p ≡ on) → made ≡ name → IsNamed (IsOn things) text (made, on) × ((p : List ℕ × (List ℕ × List ℕ)) → IsNamed (IsOn things) text p → p ≡ (made, on))
named_found things text name rest made on = named_read (IsOn things) (on_ends things) text name rest made on

pub named_onless : (things : Things) (text name rest : List ℕ) → Alone (IsNameAt text) name rest → ((p : List ℕ × List ℕ) → ¬ (IsOn things name rest p)) → (p : List ℕ × (List ℕ × List ℕ)) → ¬ (IsNamed (IsOn things) text p)
named_onless things text name rest = named_none (IsOn things) (on_ends things) text name rest

pub nameless : (things : Things) (text : List ℕ) → ((name rest : List ℕ) → ¬ (IsNameAt text name rest)) → (p : List ℕ × (List ℕ × List ℕ)) → ¬ (IsNamed (IsOn things) text p)
nameless things text none = named_nameless (IsOn things) (on_ends things) text none

-- ---- the whole

abbrev pub index_of : List ℕ × (List ℕ × List ℕ) → NewIndex
index_of p = record { name = p.0; table = p.1.0; columns = p.1.1 }

its_parts : (things : Things) (text inner : List ℕ) → text ≡ codes "CREATE INDEX " ++ inner → (i : NewIndex) → IsIndexText things text i → Made index_of (IsNamed (IsOn things) inner) i
its_parts things text inner e i h =
    let listed : List ℕ = listed_text (columns_of things i.table) i.columns in
    record {
      of = (i.name, (i.table, i.columns));
      is = refl;
      at = record {
        named = h.lawful.named;
        rest = codes " ON " ++ (name_text i.table ++ listed);
        at = record {
          rest = name_text i.table ++ listed;
          at = record { named = h.lawful.table; rest = listed; at = record { known = h.lawful.known; lawful = h.lawful.columns; written = refl }; written = refl };
          written = refl;
        };
        written = same_front (codes "CREATE INDEX ") inner (name_text i.name ++ (codes " ON " ++ (name_text i.table ++ listed))) (sym e ∙ h.written);
      };
    }

parts_index : (things : Things) (text inner : List ℕ) → text ≡ codes "CREATE INDEX " ++ inner → (p : List ℕ × (List ℕ × List ℕ)) → IsNamed (IsOn things) inner p → IsIndexText things text (index_of p)
parts_index things text inner e p h = record {
  lawful = record { named = h.named; table = h.at.at.named; known = h.at.at.at.known; columns = h.at.at.at.lawful };
  written =
      e ∙ ap (λ (xs : List ℕ). codes "CREATE INDEX " ++ xs) h.written
      ∙ ap (λ (xs : List ℕ). codes "CREATE INDEX " ++ (name_text p.0 ++ xs)) h.at.written
      ∙ ap (λ (xs : List ℕ). codes "CREATE INDEX " ++ (name_text p.0 ++ (codes " ON " ++ xs))) h.at.at.written
      ∙ ap (λ (xs : List ℕ). codes "CREATE INDEX " ++ (name_text p.0 ++ (codes " ON " ++ (name_text p.1.0 ++ xs)))) h.at.at.at.written;
}

pub index_found : (things : Things) (text inner : List ℕ) → text ≡ codes "CREATE INDEX " ++ inner → (p : List ℕ × (List ℕ × List ℕ)) → IsNamed (IsOn things) inner p × ((q : List ℕ × (List ℕ × List ℕ)) → IsNamed (IsOn things) inner q → q ≡ p) → IsIndexText things text (index_of p) × ((i : NewIndex) → IsIndexText things text i → i ≡ index_of p)
index_found things text inner e p known = made_found index_of (IsNamed (IsOn things) inner) (IsIndexText things text) (parts_index things text inner e) (its_parts things text inner e) p known

pub index_none : (things : Things) (text inner : List ℕ) → text ≡ codes "CREATE INDEX " ++ inner → ((q : List ℕ × (List ℕ × List ℕ)) → ¬ (IsNamed (IsOn things) inner q)) → (i : NewIndex) → ¬ (IsIndexText things text i)
index_none things text inner e none = made_none index_of (IsNamed (IsOn things) inner) (IsIndexText things text) (its_parts things text inner e) none

pub index_unbegun : (things : Things) (text : List ℕ) → ((r : List ℕ) → text ≢ codes "CREATE INDEX " ++ r) → (i : NewIndex) → ¬ (IsIndexText things text i)
index_unbegun things text other i h = other (name_text i.name ++ (codes " ON " ++ (name_text i.table ++ listed_text (columns_of things i.table) i.columns))) h.written
