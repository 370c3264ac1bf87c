use Rattle.shredding.proofs.Seen.{seen_is_unique}
use Rattle.shredding.proofs.seen_along_is_unique.Goals as goal

pub returns : goal.returns
returns c = seen_is_unique
