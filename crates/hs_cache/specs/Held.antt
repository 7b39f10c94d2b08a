-- The pages that are held, the most recently used first.
use Rattle.std.specs.Prelude.{ℕ, true, false, List, [], ◌∷◌, nat_eq, find, map, filter, Option, if◌then◌else◌}
use Rattle.std.specs.Option.{option_map}
use Rattle.std.specs.Map.{lookup}
use Rattle.hs_cache.specs.declared.frames.Frame.{Frame}

-- pairs of a page's number and its frame
abbrev pub Pages : Type 0
Pages = List (ℕ × Frame)

-- what contracts see of frames: the pages, and how many there may be
pub record Held : Type 0 where
  pub pages : Pages
  pub limit : ℕ

-- the frame of page p
abbrev pub frame_of : ℕ → Pages → Option Frame
frame_of p pages = lookup (nat_eq p) pages

-- the frame of page p is changed in its place
abbrev pub changed : ℕ → (Frame → Frame) → Pages → Pages
changed p f [] = []
changed p f (e ∷ rest) = if nat_eq p e.0 then (e.0, f e.1) ∷ rest else e ∷ changed p f rest

abbrev pub with_page : List ℕ → Frame → Frame
with_page page frame = record { page = page; dirty = true }

abbrev pub cleaned : Frame → Frame
cleaned frame = record frame { dirty = false }

-- the first that is dirty
abbrev pub first_dirty : Pages → Option ℕ
first_dirty pages = option_map (λ e. e.0) (find (λ e. e.1.dirty) pages)

-- all that are dirty, in order
abbrev pub dirty_pages : Pages → List ℕ
dirty_pages pages = map (λ e. e.0) (filter (λ e. e.1.dirty) pages)
