use Rattle.std.proofs.Common.{SFits, rules}
use Rattle.std.specs.Int.{w128}
use Rattle.std.proofs.lemmas.Int.{to_z-of_z}
use Rattle.columns_core.specs.Natives.{within_signed}
use Rattle.write_values.proofs.DecimalBits.{last_of, last_row}
use Rattle.write_values.proofs.decimals.push_low_bytes.Goals as goal

pub returns-clause-text : goal.returns-clause-text
returns-clause-text c =
    let fits : SFits w128 c.args.number.now = search rules in
    last_of c.args.size c.args.number.now c.to_be_bytes-all.result _ _ c.requires fits (rw (to_z-of_z w128 c.args.number.now fits) at c.to_be_bytes-all.ensures) (rw c.skip.ensures at c.in_ok-extend_from_slice.ensures.items)

pub returns-clause-ok : goal.returns-clause-ok
returns-clause-ok c =
    let fits : SFits w128 c.args.number.now = search rules in
    last_row c.args.size (within_signed 128 c.args.number.now) _ _ (last_of c.args.size c.args.number.now c.to_be_bytes-all.result _ _ c.requires fits (rw (to_z-of_z w128 c.args.number.now fits) at c.to_be_bytes-all.ensures) (rw c.skip.ensures at c.in_ok-extend_from_slice.ensures.items))
