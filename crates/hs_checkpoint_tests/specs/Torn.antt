-- How a host that is torn stands to its files.
use Rattle.std.specs.Prelude.{ℕ, List, [], Bool, false, None}
use Rattle.hs_host.specs.Files.{Five, Standing}
use Rattle.hs_host.specs.Moments.{begun, History, settled_files}

-- it has no name, and claims nothing of its files
abbrev pub standing_of : Bool → Standing
standing_of is_open = record { name = None; is_open = is_open; is_foreign = false; is_honest = false }

abbrev pub no_files : Five (List ℕ)
no_files = record { script0 = []; script1 = []; log = []; data_ = []; backup = [] }

abbrev pub no_history : History
no_history = record { now = record { disks = settled_files no_files; out = []; taken = []; call = begun }; past = [] }
