-- What the steps of reading a frame find. Assumes nothing.
use Rattle.std.proofs.Common.{◌≡◌, ℕ, ◌≤◌, true, List, take, drop, None, sym, ap, ◌∙◌, subst, arith}
use Rattle.messages.specs.declared.body.Body.{Body}
use Rattle.frames.specs.declared.parts.Parts.{Parts}
use Rattle.frames.specs.Accepts.{Uses, Fits}
use Rattle.messages.specs.Bounds.{lawful_body}
use Rattle.frames.specs.Heads.{head_in}
use Rattle.frames.specs.Frames.{frame_fault, FrameIs}
use Rattle.frames.specs.Parts.{flat, body_of}
use Rattle.frames.proofs.Fitting.{fits_marked}
use Rattle.frames.proofs.Flat.{body_lawful, parts_again}
use Rattle.frames.proofs.OneMark.{mark_is}

module _ (bs : List ℕ) (p : Parts) (none : frame_fault bs ≡ None) (is : FrameIs bs p) where
  fits : Fits p.kind (head_in (take 16 bs)) (drop 16 bs)
  fits = fits_marked bs none p.kind (is.mark_is ∙ mark_is p.kind)

  uses : Uses p.kind p.number p.version p.term (drop 16 bs)
  uses = rw (is.number_is, is.version_is, is.term_is) fits.uses

  pub nodes_held : (p.from ≤ 15) × (p.to ≤ 15)
  nodes_held = (omega (arith, is.from_is, fits.from_fits), omega (arith, is.to_is, fits.to_fits))

  pub file_held : p.file ≤ 31
  file_held = omega (arith, is.file_is, fits.file_fits)

  pub body_held : (body : Body) → body ≡ body_of p → lawful_body body ≡ true
  body_held body e = ap lawful_body e ∙ body_lawful p.number p.version p.term (drop 16 bs) p.row is.row_is p.kind uses

  pub parts_held : (body : Body) → body ≡ body_of p → FrameIs bs (flat p.from p.to p.file body)
  parts_held body e =
      subst (FrameIs bs) (sym (ap (flat p.from p.to p.file) e ∙ parts_again p (drop 16 bs) is.row_is uses)) is
