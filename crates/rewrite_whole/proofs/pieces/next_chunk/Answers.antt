use Rattle.rewrite_whole.proofs.Middles.{even_taken, never_uneven}
use Rattle.columns_array.specs.Boxed.{all_boxed}
use Rattle.rewrite_whole.specs.Groups.{RefusesAny}
use Rattle.rewrite_whole.proofs.pieces.next_chunk.Goals as goal

pub returns-in-Ok-clause-err : goal.returns-in-Ok-clause-err
returns-in-Ok-clause-err g c = λ rows n os chunks u less.
    never_uneven c.try_new.result (all_boxed c.in-Ok.arrays.items) (RefusesAny os) (even_taken rows n os c.next_arrays.new.iters.items chunks (all_boxed c.in-Ok.arrays.items) (c.in-Ok.ensures.ok rows n os chunks u less)) c.try_new.ensures.refused c.try_new.ensures.err
