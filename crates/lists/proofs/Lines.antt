-- One line more: its record and its place. Assumes nothing.
use Rattle.std.proofs.Common.{◌≡◌, ℕ, ◌+◌, ◌<◌, List, [], ◌∷◌, ◌++◌, length, get_or, Result, sym, subst, ap, ◌∙◌, arith, below_more}
use Rattle.std.proofs.lemmas.List.{get_or_append_left, get_or_push, length_push}
use Rattle.faults.specs.declared.fault.Fault.{Fault}
use Rattle.lists.specs.declared.line.Line.{Line}
use Rattle.lists.specs.Lists.{record_bytes, LineIs, LinesAre}

module _ {R T : Type 0} where
  pub lines_more :
      (Reads : List ℕ → Result T Fault → Type 0) (size : ℕ) (bytes : List ℕ) (index : ℕ) (front : List ℕ) (lines more : List (Line R T)) (line : Line R T) →
      LinesAre Reads size bytes index lines → front ≡ record_bytes size bytes index → line.number ≡ index + 1 → Reads front line.found →
      more ≡ lines ++ (line ∷ []) →
      LinesAre Reads size bytes (index + 1) more
  lines_more Reads size bytes index front lines more line so_far is numbered read added =
      let here : LineIs Reads size bytes index line =
      record { numbered = numbered; found_is = subst (λ (bs : List ℕ). Reads bs line.found) is read } in
      let each = so_far.each_record in
      subst (λ (ls : List (Line R T)). LinesAre Reads size bytes (index + 1) ls) (sym added) (record {
        each_record = length_push lines line ∙ ap (λ n. n + 1) each;
        each_line = λ k none below.
            below_more (λ (k : ℕ). LineIs Reads size bytes k (get_or (lines ++ (line ∷ [])) k none)) index
            (λ k lt. let old : k < length lines = omega (arith, each) in rw get_or_append_left (so_far.each_line k none lt))
            (rw (get_or_push lines line none index each) here)
            k below;
      })
