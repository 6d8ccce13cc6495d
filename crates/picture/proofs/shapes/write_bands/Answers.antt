-- The left of each band is written in turn.
use Rattle.std.proofs.Common.{sym, append-nil}
use Rattle.picture.specs.Shapes.{text_of_bands}
use Rattle.picture.proofs.Walks.{band_step}
use Rattle.picture.proofs.shapes.write_bands.Goals as goal

pub bands-init : goal.bands-init
unfolding text_of_bands
bands-init c = sym (append-nil _)

pub bands-preserved : goal.bands-preserved
bands-preserved c = band_step c.args.frame.now c.bands.band _ c.bands.invariant c.in_ok-write_band.ensures
