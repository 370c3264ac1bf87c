use Rattle.pq_container.proofs.straight.+past_fields.Given as goal

abbrev pub decreases-past_fields : goal.decreases-past_fields
decreases-past_fields l = l.most
