use Rattle.std.proofs.Common.{◌≤◌, length, refl, arith}
use Rattle.std.proofs.lemmas.Bool.Decides.{nat_tests}
use Rattle.struct_iters.proofs.Joining.{all-gave, apart, ends, joined}
use Rattle.struct_iters.proofs.Taken.{no-more}
use Rattle.struct_iters.proofs.columns_iter.ColumnsIter.next_piece.Goals as goal

pub returns-then-is_empty-clause-gives : goal.returns-then-is_empty-clause-gives
returns-then-is_empty-clause-gives g c = λ above n t xs h.
    let took = c.in-Ok.ensures.ok xs h.readers in
    ends above n t xs _ _ took.0 c.in-Ok.pieces.items h refl took.2 took.1 (grind (arith, nat_tests))

pub returns-then-len-clause-gives : goal.returns-then-len-clause-gives
returns-then-len-clause-gives g c = λ above n t xs h.
    let took = c.in-Ok.ensures.ok xs h.readers in
    apart above n t xs c.take_pieces.new.columns.items took.0 c.in-Ok.pieces.items took.2 took.1 (grind (arith, nat_tests)) (grind (arith, nat_tests))

pub returns-clause-gives : goal.returns-clause-gives
returns-clause-gives g c = λ above n t xs h.
    let took = c.in-Ok.ensures.ok xs h.readers in
    let most : length c.in-Ok.pieces.items ≤ length c.take_pieces.new.columns.items = no-more took.0 xs c.take_pieces.new.columns.items c.in-Ok.pieces.items took.2 took.1 in
    let all = all-gave took.0 xs c.take_pieces.new.columns.items c.in-Ok.pieces.items took.2 took.1 (omega arith) in
    joined above n xs c.in-Ok.pieces.items t _ _ c.create_piece.result h refl all (λ tables es are. (c.create_piece.ensures.ok above n tables es are, c.create_piece.ensures.err above n tables es are))
