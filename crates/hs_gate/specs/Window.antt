-- Bytes of a file at hand.
use Rattle.std.specs.Prelude.{◌≡◌, ℕ, ◌+◌, ◌≤◌, List, length, take}
use Rattle.hs_host.specs.Files.{piece}
use Rattle.hs_gate.specs.declared.window.Window.{Window}
use Rattle.hs_gate.specs.declared.window.TheConstants.{WINDOW_BYTES}

pub record IsSound (window : Window) : Type 0 where
  pub size : WINDOW_BYTES ≤ length window.buffer.items
  pub within : window.count ≤ length window.buffer.items

-- the bytes at hand are those of the file
abbrev pub Shows : Window → List ℕ → Type 0
Shows window bytes = take window.count window.buffer.items ≡ piece window.base window.count bytes

-- so many bytes from a place on are at hand
pub record Has (window : Window) (at count : ℕ) : Type 0 where
  pub from : window.base ≤ at
  pub to : at + count ≤ window.base + window.count
