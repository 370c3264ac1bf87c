use Rattle.std.proofs.Common.{◌≡◌, ◌++◌, ◌-◌, ◌*◌, ◌∙◌, Bool, List, ℕ, ap, arith, drop, subst, take}
use Rattle.pq_numbers.specs.Bits.{unpacked}
use Rattle.pq_numbers.proofs.Bytes.{are-drop}
use Rattle.read_column.specs.Lookups.{Lays}
use Rattle.read_column.proofs.Gathering.{packed_parts, so_far_end, so_far_more, so_far_stops}
use Rattle.read_column.proofs.lookup.push_packed.Goals as goal

pub returns-then-not-all-clause-ok : goal.returns-then-not-all-clause-ok
returns-then-not-all-clause-ok c =
    let parts = (ap (λ (t : List ℕ). take c.min-some.result t ++ unpacked c.args.width (c.loop-left.left - c.min-some.result) (drop (4 * c.args.width) c.loop-left.rest.now)) c.unpack_into.ensures ∙ packed_parts c.args.width c.loop-left.left c.min-some.result c.loop-left.rest.now c.loop-left.invariant.are c.min-some.ensures) in
    so_far_stops c.args.entries.now _ c.args.values.now.items (take c.min-some.result c.unpack_into.new.numbers) (unpacked c.args.width (c.loop-left.left - c.min-some.result) (drop (4 * c.args.width) c.loop-left.rest.now)) _ c.loop-left.values.items c.push_entries.new.values.items parts c.loop-left.invariant.so_far (subst (λ (b : Bool). Lays c.args.entries.now (take c.min-some.result c.unpack_into.new.numbers) b c.loop-left.values.items c.push_entries.new.values.items) c.if-not-all.true c.in_ok-all.ensures.ok)

pub loop-left-preserved : goal.loop-left-preserved
loop-left-preserved c =
    let parts = (ap (λ (t : List ℕ). take c.min-some.result t ++ unpacked c.args.width (c.loop-left.left - c.min-some.result) (drop (4 * c.args.width) c.loop-left.rest.now)) c.unpack_into.ensures ∙ packed_parts c.args.width c.loop-left.left c.min-some.result c.loop-left.rest.now c.loop-left.invariant.are c.min-some.ensures) in
    rw c.skip-rest.ensures (record {
      are = are-drop _ _ c.loop-left.invariant.are;
      so_far = so_far_more c.args.entries.now _ c.args.values.now.items (take c.min-some.result c.unpack_into.new.numbers) (unpacked c.args.width (c.loop-left.left - c.min-some.result) (drop (4 * c.args.width) c.loop-left.rest.now)) _ c.loop-left.values.items c.push_entries.new.values.items parts c.loop-left.invariant.so_far (subst (λ (b : Bool). Lays c.args.entries.now (take c.min-some.result c.unpack_into.new.numbers) b c.loop-left.values.items c.push_entries.new.values.items) c.if-not-all.false c.in_ok-all.ensures.ok);
    })

pub returns-clause-ok : goal.returns-clause-ok
returns-clause-ok c = so_far_end c.args.entries.now _ c.args.values.now.items _ c.loop-left.values.items (let z : c.loop-left.left ≡ 0 = omega (arith, c.loop-left-test.false) in ap (λ (k : ℕ). unpacked c.args.width k c.loop-left.rest.now) z) c.loop-left.invariant.so_far
