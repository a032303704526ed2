use Rattle.std.proofs.Common.{◌≡◌, ◌≤◌, vec_items, vec_capacity}
use Rattle.std.specs.Iterator.Adapters.{enumerate_source, enumerate_count}
use Rattle.std.specs.Slice.Iter.{chunks_exact_rest, chunks_exact_size}
use Rattle.lists.specs.Lists.{record_count, LinesAre}
use Rattle.lists.proofs.Chunks.{After}
use Rattle.lists.proofs.reading.lines_of.Given as goal

abbrev pub invariant-loop-index : goal.invariant-loop-index
invariant-loop-index g l =
    let size = g.R.Reader.BYTES in
    let index = enumerate_count l.index-iterator in
    record {
      can_next : (goal.iterator-loop-index g).can_next l.index-iterator;
      is_finite : (goal.iterator-loop-index g).is_finite l.index-iterator;
      size_is : chunks_exact_size (enumerate_source l.index-iterator) ≡ size;
      cut : After size l.bytes index (chunks_exact_rest (enumerate_source l.index-iterator));
      room : record_count size l.bytes ≤ vec_capacity l.lines;
      lines_are : LinesAre (g.R.Reader.reads l.reader) size l.bytes index (vec_items l.lines);
    }
