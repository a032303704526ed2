-- The first 16 bytes of a frame, field by field. Assumes nothing.
use Rattle.std.specs.Prelude.{ℕ, List, slice_index}
use Rattle.rows.specs.Bytes.{be2, be4}
use Rattle.frames.specs.declared.head.Head.{Head}

abbrev pub head_in : List ℕ → Head
head_in bs =
    record {
      mark = be2 bs 0;
      from = slice_index bs 2;
      to = slice_index bs 3;
      file = slice_index bs 4;
      gap = slice_index bs 5;
      number = be4 bs 6;
      version = be4 bs 10;
      term = be2 bs 14;
    }
