use Rattle.std.proofs.Common.{arith}
use Rattle.write_places.proofs.Picked.{length_picked}
use Rattle.write_values.proofs.StringRows.{span_bounds}
use Rattle.write_values.proofs.strings.push_picked.Goals as goal

pub overflow_add-from : goal.overflow_add-from
overflow_add-from g c = omega (arith, c.requires.within, c.len_proxy-strings.ensures, c.len_proxy-strings.type_inv)

pub overflow_sub-end : goal.overflow_sub-end
overflow_sub-end g c = omega (arith, (span_bounds c.args.offsets.now c.args.all.now c.args.bits c.args.from c.args.count c.requires.places c.requires.within).0, c.place-start.ensures, c.place-end.ensures)

pub push_short-requires-clause-room : goal.push_short-requires-clause-room
push_short-requires-clause-room g c =
    let span = span_bounds c.args.offsets.now c.args.all.now c.args.bits c.args.from c.args.count c.requires.places c.requires.within in
    omega (arith, span.1, length_picked c.args.bits c.args.from c.args.count c.requires.low, c.place-start.ensures, c.place-end.ensures, c.in-Some.ensures)
