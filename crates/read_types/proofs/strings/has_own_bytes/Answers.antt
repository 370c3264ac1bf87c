use Rattle.read_types.proofs.Sizes.{strings-own}
use Rattle.read_types.proofs.strings.has_own_bytes.Goals as goal

pub returns-clause-own : goal.returns-clause-own
returns-clause-own g c = strings-own g.K.StringKind.allows
