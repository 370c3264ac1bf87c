use Rattle.pq_container.proofs.footer_bytes.groups_head.Goals as goal

pub returns : goal.returns
returns c = record { rows = c.in_ok-rest.field-0-0; middle = c.in_ok-rest.rest.now; has_rows = c.in_ok-rest.ensures; head = c.in_ok-count.ensures }
