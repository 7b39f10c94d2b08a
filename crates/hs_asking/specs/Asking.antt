-- The statements of entries, and what is refused of them at once.
use Rattle.std.specs.Prelude.{◌≡◌, Bool, None, Some, Result, Ok, Err}
use Rattle.hs_ast.specs.declared.statement.Stmt.{Stmt}
use Rattle.hs_entries.specs.Entry.{statement_of}
use Rattle.hs_language.specs.Sql.{refused_by}
use Rattle.hs_plan.specs.declared.plan.Plan.{Plan}
use Rattle.hs_read.specs.Read.{statement_in}
use Rattle.hs_schema.specs.Catalogue.{Text}

-- it is the statement of an entry with this text
abbrev pub IsStatement : Stmt → Text → Type 0
IsStatement statement text = statement_in (statement_of text) ≡ Ok statement

-- a statement that means this isn't refused at once, in a read-only transaction or another; or it is, for this reason
abbrev pub IsAdmitted : Bool → Result Plan Text → Result Plan Text → Type 0
IsAdmitted read_only meant (Ok plan) = (meant ≡ Ok plan) × (refused_by read_only meant ≡ None)
IsAdmitted read_only meant (Err why) = refused_by read_only meant ≡ Some why
