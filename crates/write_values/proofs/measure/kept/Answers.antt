use Rattle.std.proofs.Common.{◌≡◌, ◌+◌, ◌-◌, ◌∙◌, ℕ, length, refl, ap, sym, arith}
use Rattle.std.specs.Prelude.{count_ones}
use Rattle.write_places.proofs.Gather.{gather-none}
use Rattle.write_values.proofs.Kept.{few_ones_in, kept_more, kept_places}
use Rattle.write_values.proofs.measure.kept.Goals as goal

pub loop-place-init : goal.loop-place-init
loop-place-init c = record { within = omega arith; few = omega arith; kept = sym (ap length (gather-none _ 0 0 refl)) }

pub loop-place-preserved : goal.loop-place-preserved
loop-place-preserved c =
    let i = c.loop-place.invariant in
    let e = c.word_at.ensures in
    record {
      within = omega (arith, i.within, c.loop-place-test.true);
      few = omega (arith, i.few, few_ones_in 64 c.word_at.result e.low);
      kept = ap (λ (k : ℕ). k + count_ones c.word_at.result) i.kept ∙ sym (kept_more c.args.mask.now c.loop-place.place 64 c.word_at.result e.low e.bits);
    }

pub overflow_add-result : goal.overflow_add-result
overflow_add-result c =
    let i = c.loop-place.invariant in
    omega (arith, i.few, i.within, few_ones_in (c.len-size.result - c.loop-place.place) c.word_at-2.result c.word_at-2.ensures.low, c.len-size.type_inv)

pub returns : goal.returns
returns c =
    let i = c.loop-place.invariant in
    let e = c.word_at-2.ensures in
    let rest = c.len-size.result - c.loop-place.place in
    let n : c.loop-place.place + rest ≡ length c.args.mask.now = omega (arith, i.within, c.len-size.ensures) in
    ap (λ (k : ℕ). k + count_ones c.word_at-2.result) i.kept
    ∙ (sym (kept_more c.args.mask.now c.loop-place.place rest c.word_at-2.result e.low e.bits) ∙ ap (λ (k : ℕ). length (kept_places c.args.mask.now k)) n)
