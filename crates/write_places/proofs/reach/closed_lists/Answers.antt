use Rattle.std.proofs.Common.{◌-◌, ◌<◌, ◌∙◌, ℕ, ap, sym, arith}
use Rattle.std.specs.Prelude.{slice_index}
use Rattle.std.specs.Int.{w64}
use Rattle.std.proofs.lemmas.Nat.{pow_below, xor_lt}
use Rattle.std.proofs.lemmas.Nat.Bits.{bit_at-trailing_zeros}
use Rattle.write_places.proofs.Closed.{all_wait, closed_without}
use Rattle.write_places.proofs.Picked.{next_picked, one_less}
use Rattle.write_places.proofs.reach.closed_lists.Goals as goal

pub loop-absent-init : goal.loop-absent-init
loop-absent-init g c = record {
  low = xor_lt c.args.count c.args.word c.full_word.result c.requires.low (omega (arith, c.full_word.ensures, pow_below 0 c.args.count c.requires.some));
  closed = λ i h z x. absurd (all_wait c.args.word c.args.count i c.full_word.result c.full_word.ensures h z x);
}

pub overflow_add-place : goal.overflow_add-place
overflow_add-place g c =
    let n = next_picked c.loop-absent.absent c.args.place c.args.count (omega (arith, c.loop-absent-test.true)) c.requires.few c.loop-absent.invariant.low in
    omega (arith, n.within, c.requires.within, c.len_proxy-lists.ensures, c.len_proxy-lists.type_inv)

pub place-requires : goal.place-requires
place-requires g c =
    let n = next_picked c.loop-absent.absent c.args.place c.args.count (omega (arith, c.loop-absent-test.true)) c.requires.few c.loop-absent.invariant.low in
    omega (arith, n.within, c.requires.within)

pub overflow_add-place-in-loop-absent : goal.overflow_add-place-in-loop-absent
overflow_add-place-in-loop-absent g c =
    let n = next_picked c.loop-absent.absent c.args.place c.args.count (omega (arith, c.loop-absent-test.true)) c.requires.few c.loop-absent.invariant.low in
    omega (arith, n.within, c.requires.within, c.len_proxy-lists.ensures, c.len_proxy-lists.type_inv)

pub overflow_add-place-in-loop-absent-2 : goal.overflow_add-place-in-loop-absent-2
overflow_add-place-in-loop-absent-2 g c =
    let n = next_picked c.loop-absent.absent c.args.place c.args.count (omega (arith, c.loop-absent-test.true)) c.requires.few c.loop-absent.invariant.low in
    omega (arith, n.within, c.requires.within, c.len_proxy-lists.ensures, c.len_proxy-lists.type_inv)

pub place-requires-in-loop-absent : goal.place-requires-in-loop-absent
place-requires-in-loop-absent g c =
    let n = next_picked c.loop-absent.absent c.args.place c.args.count (omega (arith, c.loop-absent-test.true)) c.requires.few c.loop-absent.invariant.low in
    omega (arith, n.within, c.requires.within)

pub returns-then-place-clause-few : goal.returns-then-place-clause-few
returns-then-place-clause-few g c =
    let n = next_picked c.loop-absent.absent c.args.place c.args.count (omega (arith, c.loop-absent-test.true)) c.requires.few c.loop-absent.invariant.low in
    omega (arith, n.within)

pub returns-then-place-clause-closed : goal.returns-then-place-clause-closed
returns-then-place-clause-closed g c = λ i h z.
    let some : 0 < c.loop-absent.absent = omega (arith, c.loop-absent-test.true) in
    let n = next_picked c.loop-absent.absent c.args.place c.args.count some c.requires.few c.loop-absent.invariant.low in
    let first = bit_at-trailing_zeros w64 c.loop-absent.absent some (omega (arith, c.loop-absent.auto.absent-fits)) in
    c.loop-absent.invariant.closed i (omega (arith, h, n.within)) z (first.2 i h)

pub loop-absent-smaller : goal.loop-absent-smaller
loop-absent-smaller g c =
    let n = next_picked c.loop-absent.absent c.args.place c.args.count (omega (arith, c.loop-absent-test.true)) c.requires.few c.loop-absent.invariant.low in
    omega (arith, one_less _ _ _ _ _ n)

pub loop-absent-preserved : goal.loop-absent-preserved
loop-absent-preserved g c =
    let n = next_picked c.loop-absent.absent c.args.place c.args.count (omega (arith, c.loop-absent-test.true)) c.requires.few c.loop-absent.invariant.low in
    let same = sym c.place.ensures ∙ (c.if-place.false ∙ c.place-in-loop-absent.ensures) in
    record {
      low = n.low;
      closed = closed_without c.args.offsets.now c.args.place c.args.count c.args.word c.loop-absent.absent _ (omega (arith, n.within, c.requires.few)) c.loop-absent.invariant.closed (ap (λ (k : ℕ). k - slice_index c.args.offsets.now 0) same);
    }
