use Rattle.std.proofs.Common.{◌≡◌, vec_items}
use Rattle.std.specs.Iterator.Adapters.{enumerate_source, enumerate_count}
use Rattle.std.specs.Slice.Iter.{chunks_exact_rest, chunks_exact_size}
use Rattle.lists.proofs.Chunks.{After}
use Rattle.sheets.specs.Sheet.{FirstTunings}
use Rattle.sheets.proofs.reading.Rows.of.Given as goal

abbrev pub invariant-loop-index : goal.invariant-loop-index
invariant-loop-index l =
    let index = enumerate_count l.index-iterator in
    record {
      can_next : goal.iterator-loop-index.can_next l.index-iterator;
      is_finite : goal.iterator-loop-index.is_finite l.index-iterator;
      size_is : chunks_exact_size (enumerate_source l.index-iterator) ≡ 16;
      cut : After 16 l.sheet index (chunks_exact_rest (enumerate_source l.index-iterator));
      notes : FirstTunings l.sheet index (vec_items l.rows.first_tuning);
    }
