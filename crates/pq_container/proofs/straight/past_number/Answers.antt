use Rattle.pq_container.proofs.Fronts.{long_value}
use Rattle.pq_container.proofs.straight.past_number.Goals as goal

pub returns : goal.returns
returns c = long_value c.in_ok-rest.field-0-0 c.args.bytes.now c.in_ok-rest.rest.now c.in_ok-rest.ensures
