-- Frames that a pool keeps. Assumes nothing.
use Rattle.std.specs.Prelude.{ℕ, Bool, List}
use Rattle.std.specs.List.{list_all}
use Rattle.std.specs.Option.{is_none}
use Rattle.frames.specs.Frames.{frame_fault}

-- the reader finds no fault in it
abbrev pub is_frame : List ℕ → Bool
is_frame bs = is_none (frame_fault bs)

abbrev pub all_frames : List (List ℕ) → Bool
all_frames = list_all is_frame
