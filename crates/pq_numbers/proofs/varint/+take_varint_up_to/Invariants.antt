use Rattle.pq_numbers.proofs.varint.+take_varint_up_to.Given as goal

abbrev pub decreases-take_varint_up_to : goal.decreases-take_varint_up_to
decreases-take_varint_up_to l = l.most
