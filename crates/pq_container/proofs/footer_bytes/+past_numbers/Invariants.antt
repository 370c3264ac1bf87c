use Rattle.pq_container.proofs.footer_bytes.+past_numbers.Given as goal

abbrev pub decreases-past_numbers : goal.decreases-past_numbers
decreases-past_numbers l = l.count
