use Rattle.typed_arrays.proofs.Own.{own}
use Rattle.typed_arrays.proofs.typed_columns_are_own.Goals as goal

pub returns : goal.returns
returns c = own
