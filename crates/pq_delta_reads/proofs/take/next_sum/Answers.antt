use Rattle.std.proofs.Common.{◌≡◌, ℕ, ℤ, ◌+◌, ◌%◌, ◌^◌, ◌<◌, pos, ◌+ℤ◌, ◌∙◌, ap, arith, SFits, rules}
use Rattle.std.proofs.lemmas.Int.{wrapping_add_is, wrapping_add_onto}
use Rattle.std.specs.Int.{w64, int_wrap, cast_unsigned, cast_signed}
use Rattle.pq_delta_reads.proofs.Steps.{next_number, natural_wrap}
use Rattle.pq_delta_reads.proofs.take.next_sum.Goals as goal

pub returns : goal.returns
returns c =
    let m : ℕ = (cast_unsigned w64 c.args.latest + cast_unsigned w64 c.args.least) % 2 ^ 64 in
    let below : m < 2 ^ 64 = omega arith in
    let fits : SFits w64 c.cast_signed.result = search rules in
    let number : c.cast_signed.result ≡ int_wrap w64 (pos c.args.number) = c.cast_signed.ensures ∙ natural_wrap c.args.number c.ranges.number.fits in
    let first : cast_signed w64 m ≡ int_wrap w64 (c.args.latest +ℤ c.args.least) = wrapping_add_is w64 c.args.latest c.args.least c.ranges.latest c.ranges.least in
    next_number c.args.latest c.args.least c.args.number _ (wrapping_add_onto w64 m c.cast_signed.result below fits ∙ ap (λ (z : ℤ). int_wrap w64 (z +ℤ c.cast_signed.result)) first ∙ ap (λ (z : ℤ). int_wrap w64 (int_wrap w64 (c.args.latest +ℤ c.args.least) +ℤ z)) number)
