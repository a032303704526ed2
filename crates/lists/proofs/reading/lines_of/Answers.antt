use Rattle.std.proofs.Common.{rules, ◌∙◌, refl, arith}
use Rattle.lists.proofs.Chunks.{front_is_next, after_more, all_cut}
use Rattle.lists.proofs.Lines.{lines_more}
use Rattle.lists.proofs.reading.lines_of.Goals as goal

pub loop-index-preserved : goal.loop-index-preserved
loop-index-preserved g c =
    let so_far = c.loop-index.invariant in
    let steps = c.in-Some.ensures.steps in
    let long = steps.0.1.1 ∙ so_far.size_is in
    record {
      can_next = search rules;
      is_finite = search rules;
      size_is = search rules;
      cut = rw steps.2 (after_more _ _ _ _ c.in-Some.record.now _ so_far.cut steps.0.1.0 long);
      room = search rules;
      lines_are = rw steps.2 (lines_more _ _ _ _ _ _ _ _ so_far.lines_are (front_is_next _ _ _ _ c.in-Some.record.now _ so_far.cut steps.0.1.0 long) refl c.read.ensures (rw steps.1 at c.push_reserved.ensures.items));
    }

pub returns : goal.returns
returns g c =
    let so_far = c.loop-index.invariant in
    let all = all_cut _ _ _ _ so_far.cut (omega (arith, c.in-None.ensures.steps, so_far.size_is)) in
    rw all so_far.lines_are
