use Rattle.std.proofs.Common.{rules, ◌∙◌, arith}
use Rattle.lists.proofs.Chunks.{after_none, front_is_next, after_more, all_cut}
use Rattle.sheets.proofs.FirstTunings.{only_none, notes_none, notes_more}
use Rattle.sheets.proofs.reading.Rows.of.Goals as goal

pub loop-index-init : goal.loop-index-init
loop-index-init c =
    let begun = c.into_iter-index-iterator.ensures.into_iter_gives in
    let enumerated = c.enumerate-index-items.ensures in
    record {
      can_next = search rules;
      is_finite = search rules;
      size_is = search rules;
      cut = rw (begun, enumerated.count, enumerated.source, c.chunks_exact.ensures.rest) (after_none 16 c.args.sheet.now);
      notes = rw (begun, enumerated.count) (notes_none c.args.sheet.now _ (c.in_ok-first_tuning.ensures.items_if_clones_equal (only_none _ (λ n r. r))));
    }

pub loop-index-preserved : goal.loop-index-preserved
loop-index-preserved c =
    let so_far = c.loop-index.invariant in
    let steps = c.in-Some.ensures.steps in
    let long = steps.0.1.1 ∙ so_far.size_is in
    let read = rw (front_is_next _ _ _ _ c.in-Some.bytes.now _ so_far.cut steps.0.1.0 long) at c.from_bytes.ensures.exact in
    record {
      can_next = search rules;
      is_finite = search rules;
      size_is = search rules;
      cut = rw steps.2 (after_more _ _ _ _ c.in-Some.bytes.now _ so_far.cut steps.0.1.0 long);
      notes = rw (steps.2, c.note.ensures, steps.1) (notes_more _ _ _ c.from_bytes.result (omega (arith, c.loop-index.rows.first_tuning.ok.0, c.loop-index.rows.whole)) read so_far.notes);
    }

pub returns : goal.returns
returns c =
    let so_far = c.loop-index.invariant in
    let all = all_cut _ _ _ _ so_far.cut (omega (arith, c.in-None.ensures.steps, so_far.size_is)) in
    rw all so_far.notes
