-- `add_supply`: the places are those of markets, and the sums have room.
use Rattle.clearing.proofs.Fits.{priced_ranges}
use Rattle.clearing.proofs.Addings.{supply-added}
use Rattle.clearing.proofs.tallies.add_supply.Goals as goal

pub returns : goal.returns
returns c =
    supply-added c.args.supply.now c.args.more.now.terms c.told-supply
    (priced_ranges c.args.more.now c.requires.fits).of_record
