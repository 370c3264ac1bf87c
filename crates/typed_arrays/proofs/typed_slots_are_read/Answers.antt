use Rattle.typed_arrays.proofs.Read.{read}
use Rattle.typed_arrays.proofs.typed_slots_are_read.Goals as goal

pub returns : goal.returns
returns c = read
