-- `fits` meets its contract, by those of its parts.
use Rattle.scan.specs.Fits.{fits}
use Rattle.scan.proofs.laid.fits.Goals as goal

pub returns : goal.returns
unfolding fits
returns c = cc
