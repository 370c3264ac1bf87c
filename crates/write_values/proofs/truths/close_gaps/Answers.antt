use Rattle.std.proofs.Common.{◌≡◌, ◌-◌, ◌*◌, ◌%◌, ◌^◌, ℕ, bit_and, arith, sym, subst, ◌∙◌}
use Rattle.std.proofs.lemmas.Nat.{shl_whole}
use Rattle.write_values.proofs.ClosedGaps.{IsClosing, closing-none, closing-more, closing-all}
use Rattle.write_values.proofs.truths.close_gaps.Goals as goal

pub loop-gaps-init : goal.loop-gaps-init
loop-gaps-init c = record { is = subst (λ (k : ℕ). IsClosing c.args.values c.args.bits c.args.count (k - c.args.bits) (bit_and c.args.values c.args.bits)) (sym c.low_ones.ensures) (closing-none c.args.values c.args.bits c.args.count c.requires.low) }

pub loop-gaps-preserved : goal.loop-gaps-preserved
loop-gaps-preserved c =
    let t = c.highest-at.result in
    let h = c.highest-at.ensures in
    let one : 1 * 2 ^ t % 2 ^ 64 ≡ 1 * 2 ^ t = shl_whole 1 1 t 64 (omega arith) (omega (arith, h.few)) in
    let power : 1 * 2 ^ t % 2 ^ 64 ≡ 2 ^ t = one ∙ omega arith in
    let more = closing-more c.args.values c.args.bits c.args.count c.loop-gaps.gaps c.loop-gaps.word t h.least h.most c.loop-gaps.invariant.is in
    record { is = subst (λ (k : ℕ). IsClosing c.args.values c.args.bits c.args.count (c.loop-gaps.gaps - k) (c.loop-gaps.word - c.from_above-word.result)) (sym power) (subst (λ (k : ℕ). IsClosing c.args.values c.args.bits c.args.count (c.loop-gaps.gaps - 2 ^ t) (c.loop-gaps.word - k)) (sym c.from_above-word.ensures) more) }

pub returns : goal.returns
returns c = closing-all c.args.values c.args.bits c.args.count c.loop-gaps.gaps c.loop-gaps.word (omega (arith, c.loop-gaps-test.false)) c.loop-gaps.invariant.is
