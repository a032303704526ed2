-- No smaller margin is enough.
-- Assumes nothing.
use Rattle.protocol.proofs.SmallerMargin.{least_margin, narrow_margin_breaks}
use Rattle.protocol.proofs.TwoRows.{two_rows}
use Rattle.protocol.proofs.rules.smaller_margin_breaks.Goals as goal

pub returns : goal.returns
returns c = record { any = least_margin _ _ two_rows _ _ _ c.requires; three = narrow_margin_breaks _ _ two_rows }
