use Rattle.std.proofs.Common.{arith}
use Rattle.std.proofs.lemmas.Nat.{ones-le}
use Rattle.write_places.proofs.Picked.{length_picked}
use Rattle.write_values.proofs.StringSpans.{by_parts}
use Rattle.write_values.proofs.strings.picked_size.Goals as goal

pub overflow_add-from : goal.overflow_add-from
overflow_add-from g c = omega (arith, c.requires.within, c.len_proxy-strings.ensures, c.len_proxy-strings.type_inv)

pub overflow_sub-result : goal.overflow_sub-result
overflow_sub-result g c = ones-le c.args.count c.args.bits c.requires.low

pub overflow_sub-result-2 : goal.overflow_sub-result-2
overflow_sub-result-2 g c =
    let all = by_parts c.args.offsets.now c.args.all.now c.args.from c.args.bits c.args.count _ c.picked_span-unset.result c.low_ones.result c.requires.low c.strings_size-whole.ensures c.low_ones.ensures c.picked_span-unset.ensures in
    omega (arith, all)

pub overflow_sub-result-3 : goal.overflow_sub-result-3
overflow_sub-result-3 g c =
    let all = by_parts c.args.offsets.now c.args.all.now c.args.from c.args.bits c.args.count _ c.picked_span-unset.result c.low_ones.result c.requires.low c.strings_size-whole.ensures c.low_ones.ensures c.picked_span-unset.ensures in
    omega (arith, all)

pub returns : goal.returns
returns g c =
    let all = by_parts c.args.offsets.now c.args.all.now c.args.from c.args.bits c.args.count _ c.picked_span-unset.result c.low_ones.result c.requires.low c.strings_size-whole.ensures c.low_ones.ensures c.picked_span-unset.ensures in
    omega (arith, all)

pub returns-then-size-count : goal.returns-then-size-count
returns-then-size-count g c = omega (arith, c.picked_span-span.ensures, length_picked c.args.bits c.args.from c.args.count c.requires.low)
