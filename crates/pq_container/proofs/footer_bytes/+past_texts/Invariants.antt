use Rattle.pq_container.proofs.footer_bytes.+past_texts.Given as goal

abbrev pub decreases-past_texts : goal.decreases-past_texts
decreases-past_texts l = l.count
