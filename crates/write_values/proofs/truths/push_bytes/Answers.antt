use Rattle.std.proofs.Common.{arith}
use Rattle.write_values.proofs.TruthPlaces.{are_bits}
use Rattle.write_values.proofs.truths.push_bytes.Goals as goal

pub returns-clause-ok : goal.returns-clause-ok
returns-clause-ok c = record { text = c.args.bytes.now; parts = c.in_ok-extend_from_slice.ensures.items; spelled = are_bits c.args.bytes.now c.args.count (λ i. omega (arith, c.type_inv.bytes i)) c.requires.enough c.requires.least }
