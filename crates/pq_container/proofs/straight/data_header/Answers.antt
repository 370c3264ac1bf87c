use Rattle.std.proofs.Common.{rules, SFits, w32, to_z-of_z}
use Rattle.pq_container.proofs.Fronts.{data_says}
use Rattle.pq_container.proofs.straight.data_header.Goals as goal

pub returns-clause-found : goal.returns-clause-found
returns-clause-found c =
    let values_fit : SFits w32 c.in_ok-num_values.num_values = search rules in
    let encoding_fits : SFits w32 c.in_ok-encoding.encoding = search rules in
    let definition_fits : SFits w32 c.in_ok-definition.definition = search rules in
    let repetition_fits : SFits w32 c.in_ok-repetition.repetition = search rules in
    simp to_z-of_z
    (data_says
    c.in_ok-num_values.num_values
    c.in_ok-encoding.encoding
    c.in_ok-definition.definition
    c.in_ok-repetition.repetition
    c.args.bytes.now
    c.in_ok-num_values.rest.now
    c.in_ok-encoding.rest.now
    c.in_ok-definition.rest.now
    c.in_ok-repetition.rest.now
    c.in_ok-rest.rest.now
    c.in_ok-num_values.ensures.counted
    c.in_ok-num_values.ensures.found
    c.in_ok-encoding.ensures
    c.in_ok-definition.ensures
    c.in_ok-repetition.ensures
    c.in_ok-rest.ensures)
