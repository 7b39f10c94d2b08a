-- How a host over real files stands to them.
use Rattle.std.specs.Prelude.{ℕ, List, [], Bool, false, Option}
use Rattle.hs_host.specs.Files.{Five, Standing}
use Rattle.hs_host.specs.Moments.{begun, History, settled_files}

-- It tells its name and whether its files are open, and claims nothing else.
abbrev pub standing_of : Option (List ℕ) → Bool → Standing
standing_of name is_open = record { name = name; is_open = is_open; is_foreign = false; is_honest = false }

-- what such a host tells of its files and of its moments, which is nothing
abbrev pub no_files : Five (List ℕ)
no_files = record { script0 = []; script1 = []; log = []; data_ = []; backup = [] }

abbrev pub no_history : History
no_history = record { now = record { disks = settled_files no_files; out = []; taken = []; call = begun }; past = [] }
