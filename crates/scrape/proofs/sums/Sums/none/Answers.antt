use lib.ListN.{get_or-replicate}
use Rattle.scrape.proofs.sums.Sums.none.Goals as goal

pub returns : goal.returns
returns c place few = get_or-replicate 64 place 0 0 few
