use Rattle.level_sections.proofs.PlaneNumbers.{sum_of_bits}
use Rattle.level_sections.proofs.planes.with_bits.Goals as goal

pub returns : goal.returns
returns c = λ i few. sum_of_bits c.args.planes c.args.word i few
