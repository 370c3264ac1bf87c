use Rattle.page_statistics.proofs.Unique.{statistics_are_unique}
use Rattle.page_statistics.proofs.laws.statistics_are_unique.Goals as goal

pub returns : goal.returns
returns c = statistics_are_unique
