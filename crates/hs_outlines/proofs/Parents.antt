-- Which table a foreign key references.
use Rattle.std.proofs.Common.{◌≡◌, Bool, false, Option, Some, ap, sym, ◌∙◌}
use Rattle.std.specs.Prelude.{if◌then◌else◌}
use Rattle.std.specs.Option.{option_map}
use Rattle.std.specs.Str.{bytes_eq}
use Rattle.hs_schema.specs.Catalogue.{Things, table_named}
use Rattle.hs_schema.specs.declared.table.Table.{Table}
use Rattle.hs_outlines.specs.ForeignKeys.{parent_of, table_or_none}
use Rattle.hs_outlines.specs.Outline.{Outlined, Text, outline_of}

pub to_table : (things : Things) (own : Outlined) (name : Text) (t : Table) → bytes_eq name own.name ≡ false → Some t ≡ table_named things name → outline_of t ≡ parent_of things own name
to_table things own name t other found =
    ap (λ (o : Option Table). table_or_none name (option_map outline_of o)) found
    ∙ sym (ap (λ (b : Bool). if b then own else table_or_none name (option_map outline_of (table_named things name))) other)
