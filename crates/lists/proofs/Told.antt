-- What has been told of a listing's lines, and what is left to tell. Assumes nothing.
use Rattle.std.proofs.Common.{◌≡◌, ℕ, ◌+◌, List, [], ◌∷◌, ◌++◌, drop, Some, None, Ok, Option, refl, sym, ap, ◌∙◌, subst, rules, append_assoc, append-nil}
use Rattle.std.specs.Prelude.{IfSome}
use Rattle.std.specs.Fmt.{◌++?◌, with_newline, HasWritten, IsPlainFormatter, WritesOnOk, DisplaysOnOk}
use Rattle.std.specs.declared.fmt.Formatter.{Formatter}
use Rattle.std.proofs.Output.{has_written_append, has_written_of_eq}
use Rattle.lists.specs.declared.line.Line.{Line}
use Rattle.lists.specs.Words.{line_words, lines_words}

if_told : (o : Option (List ℕ)) (P : List ℕ → Type 0) → ((all : List ℕ) → o ≡ Some all → P all) → IfSome o P
if_told None P each = tt
if_told (Some all) P each = each all refl

next_told : (done : List ℕ) (next rest : Option (List ℕ)) (all : List ℕ) → (Some done ++? (next ++? rest)) ≡ Some all → (text : List ℕ) × (next ≡ Some text) × ((Some (done ++ text) ++? rest) ≡ Some all)
next_told done (Some text) (Some more) all e = (text, refl, ap Some (append_assoc done text more) ∙ e)
next_told done (Some text) None all e = absurd (cc)
next_told done None rest all e = absurd (cc)

nothing_left : (done all : List ℕ) → (Some done ++? Some []) ≡ Some all → done ≡ all
nothing_left done all e = let whole = ap Some (sym (append-nil done)) ∙ e in cc

module _ {R T W : Type 0} (took : W → List ℕ → W → Type 0) (noun : List ℕ) (words : T → Option (List ℕ)) where
  -- what was told, with what the lines from `index` on tell, is what all lines tell
  abbrev pub ToldSoFar : (f : Formatter W) (lines : List (Line R T)) (index : ℕ) (g : Formatter W) → Type 0
  ToldSoFar f lines index g =
      (all : List ℕ) → lines_words noun words lines ≡ Some all → IsPlainFormatter f
      → (done : List ℕ) × HasWritten took f done g × ((Some done ++? lines_words noun words (drop index lines)) ≡ Some all)

  pub told_one_more : (f g h : Formatter W) (lines : List (Line R T)) (index : ℕ) (line : Line R T) → ToldSoFar f lines index g
      → drop index lines ≡ line ∷ drop (index + 1) lines → DisplaysOnOk took g (Ok tt) (with_newline (line_words noun words line)) h → ToldSoFar f lines (index + 1) h
  told_one_more f g h lines index line so_far cut wrote all whole plain =
      let (done, before, left) = so_far all whole plain in
      let (text, is, rest) = next_told done (with_newline (line_words noun words line)) (lines_words noun words (drop (index + 1) lines)) all (rw cut at left) in
      let now = subst (λ (o : Option (List ℕ)). DisplaysOnOk took g (Ok tt) o h) is wrote in
      (done ++ text, has_written_append took f done g text h before (now before.plain (search rules)), rest)

  pub all_told : (f g : Formatter W) (lines : List (Line R T)) (index : ℕ) → ToldSoFar f lines index g → drop index lines ≡ [] → DisplaysOnOk took f (Ok tt) (lines_words noun words lines) g
  all_told f g lines index so_far none =
      if_told (lines_words noun words lines) (λ (all : List ℕ). WritesOnOk took f (Ok tt) all g) (λ all whole plain ok.
      let (done, wrote, left) = so_far all whole plain in
      has_written_of_eq took f done all g (nothing_left done all (rw none at left)) wrote)
