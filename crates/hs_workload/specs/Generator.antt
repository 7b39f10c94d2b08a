-- The generated input, and the line that sums up a run.
use Rattle.std.specs.Prelude.{ℕ, ◌+◌, ◌*◌, ◌/◌, ◌%◌, ◌^◌, ◌==◌, suc, zero, List, ◌++◌, codes, if◌then◌else◌}
use Rattle.std.specs.List.{range_with_len, flat_map}
use Rattle.std.specs.Fmt.{decimal}
use Rattle.hs_workload.specs.declared.summary.Summary.{Summary}

-- one line after the other, for 0 up to k - 1
abbrev pub lines : (ℕ → List ℕ) → ℕ → List ℕ
lines line k = flat_map line (range_with_len 0 k)

-- the numbers by which entries are chosen: x(i + 1) from x(i)
abbrev pub next_number : ℕ → ℕ
next_number x = (1103515245 * x + 12345) % 2 ^ 31

-- x(i), from x(0) = n on
abbrev pub number_of : ℕ → ℕ → ℕ
number_of n zero = n
number_of n (suc i) = next_number (number_of n i)

-- the row i of the table
abbrev pub insert_line : ℕ → List ℕ
insert_line i = codes "s0: INSERT INTO W VALUES (" ++ decimal i ++ codes ",0);\n"

abbrev pub autocommit_line : ℕ → List ℕ
autocommit_line session = codes "s" ++ decimal session ++ codes ": SET AUTOCOMMIT FALSE;\n"

abbrev pub statement_of : ℕ → List ℕ
statement_of x = if (x / 4) % 5 == 0 then codes "COMMIT;\n" else codes "UPDATE W SET V = V + 1 WHERE ID = " ++ decimal ((x / 20) % 100) ++ codes ";\n"

-- the entry of a session that the number x chooses
abbrev pub entry_line : ℕ → List ℕ
entry_line x = codes "s" ++ decimal (x % 4) ++ codes ": " ++ statement_of x

-- the table, in the model of snapshots
abbrev pub table_lines : List ℕ
table_lines = codes "s0: CREATE CACHED TABLE W (ID INTEGER PRIMARY KEY, V INTEGER);\ns0: SET DATABASE TRANSACTION CONTROL MVCC;\n"

-- the whole input: the table with its 100 rows, autocommit off in four sessions, and n entries
abbrev pub generated : ℕ → List ℕ
generated n = table_lines ++ lines insert_line 100 ++ lines autocommit_line 4 ++ lines (λ i. entry_line (number_of n (i + 1))) n

abbrev pub summary_line : Summary → List ℕ
summary_line s =
    codes "summary entries " ++ decimal s.entries ++ codes " ok " ++ decimal s.ok ++ codes " refused " ++ decimal s.refused ++ codes " waits " ++ decimal s.waits
    ++ codes " rolled back " ++ decimal s.rolled_back ++ codes "\n"
