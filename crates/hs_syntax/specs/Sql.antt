-- The grammar of SQL as data: that of grammar/sql.g.
use Rattle.hs_grammar.specs.Grammar.{Grammar}
use Rattle.hs_syntax.specs.declared.table.TheConstants.{PRODUCTIONS, SYMBOLS, VIEWS}

unfoldable pub sql : Grammar
sql = record { productions = PRODUCTIONS; symbols = SYMBOLS; views = VIEWS }
