use Rattle.std.proofs.Common.{refl}
use Rattle.struct_iters.proofs.Types.{gives-retyped}
use Rattle.struct_iters.proofs.struct_iter.StructIterator.with_data_type.Goals as goal

pub returns-clause-gives : goal.returns-clause-gives
returns-clause-gives g c = λ above n t xs h. gives-retyped above n t _ xs _ _ c.requires.same c.requires.is_struct refl refl h
