use Rattle.read_nested.proofs.Fronts.{fronts-agree}
use Rattle.read_nested.proofs.laws.fronts_agree.Goals as goal

pub returns : goal.returns
returns c = fronts-agree
