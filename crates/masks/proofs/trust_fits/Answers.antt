-- `masks::trust_fits` meets its contract: nothing is left of the mask above bit n.
use Rattle.masks.specs.Digits.{fits_shifted}
use Rattle.masks.proofs.trust_fits.Goals as goal

pub returns : goal.returns
returns c = fits_shifted c.args.n c.args.trust
