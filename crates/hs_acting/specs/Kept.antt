-- The foreign keys that are kept by tables.
use Rattle.hs_actions.specs.Referencing.{Keys}
use Rattle.hs_acting.specs.declared.references.References.{References}

-- for tables the foreign keys that reference them
abbrev pub keys_in : References → Keys
keys_in references = references.lists.entries
