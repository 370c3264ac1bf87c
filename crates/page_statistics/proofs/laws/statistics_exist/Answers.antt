use Rattle.page_statistics.proofs.Exist.{statistics_exist}
use Rattle.page_statistics.proofs.laws.statistics_exist.Goals as goal

pub returns : goal.returns
returns c = statistics_exist
