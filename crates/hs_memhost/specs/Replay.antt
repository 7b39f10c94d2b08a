-- The moments of a host in memory, from the calls that it has kept.
use Rattle.std.specs.Prelude.{ℕ, List, [], ◌∷◌, ◌++◌, length, take}
use Rattle.hs_host.specs.Disk.{settled, written_at, cut_to}
use Rattle.hs_host.specs.Files.{Five, of, with_, overwrite}
use Rattle.hs_host.specs.Moments.{begun, on_file, told, asked, History, Moment, disk_of, with_disk, settled_files}
use Rattle.hs_memhost.specs.declared.call.Call.{Call}
use Rattle.hs_memhost.specs.declared.call.Call.TheVariants.{Write, FailedWrite, Cut, FailedCut, Sync, Look, Output, Input}

-- what a read of each file gives, and the moment
pub record State : Type 0 where
  pub files : Five (List ℕ)
  pub moment : Moment

-- all files are on the disk, and nothing is told or taken
abbrev pub first_state : Five (List ℕ) → State
first_state files = record { files = files; moment = record { disks = settled_files files; out = []; taken = []; call = begun } }

-- one call more
abbrev pub after_call : State → Call → State
after_call s (Write file at bytes) = record {
  files = with_ s.files file (overwrite (of s.files file) at bytes);
  moment = with_disk s.moment file (written_at at (length bytes) (disk_of s.moment file));
}
after_call s (Cut file len) = record {
  files = with_ s.files file (take len (of s.files file));
  moment = with_disk s.moment file (cut_to len (disk_of s.moment file));
}
after_call s (FailedWrite file at count) = record { files = s.files; moment = with_disk s.moment file (written_at at count (disk_of s.moment file)) }
after_call s (FailedCut file len) = record { files = s.files; moment = with_disk s.moment file (cut_to len (disk_of s.moment file)) }
after_call s Look = record { files = s.files; moment = record (s.moment) { call = on_file } }
after_call s (Sync file) = record { files = s.files; moment = with_disk s.moment file (settled (of s.files file)) }
after_call s (Output bytes) = record { files = s.files; moment = record (s.moment) { out = s.moment.out ++ bytes; call = told } }
after_call s (Input bytes) = record { files = s.files; moment = record (s.moment) { taken = s.moment.taken ++ bytes; call = asked s.moment.taken } }

-- the state after these calls
abbrev pub after_calls : State → List Call → State
after_calls s [] = s
after_calls s (call ∷ calls) = after_calls (after_call s call) calls

-- the moments before that, the newest first, and then these
abbrev pub moments_before : State → List Call → List Moment → List Moment
moments_before s [] past = past
moments_before s (call ∷ calls) past = moments_before (after_call s call) calls (s.moment ∷ past)

-- the moments of a host whose files were these at first
abbrev pub history_of : Five (List ℕ) → List Call → History
history_of files calls = record { now = (after_calls (first_state files) calls).moment; past = moments_before (first_state files) calls [] }

abbrev pub files_after : Five (List ℕ) → List Call → Five (List ℕ)
files_after files calls = (after_calls (first_state files) calls).files
