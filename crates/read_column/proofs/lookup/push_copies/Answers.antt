use Rattle.std.proofs.Common.{◌≡◌, ◌-◌, Bool, ℕ, ap, arith, replicate, subst, take}
use Rattle.read_column.specs.Lookups.{Lays}
use Rattle.read_column.proofs.Gathering.{copied_parts, so_far_end, so_far_more, so_far_stops}
use Rattle.read_column.proofs.lookup.push_copies.Goals as goal

pub returns-then-not-all-clause-ok : goal.returns-then-not-all-clause-ok
returns-then-not-all-clause-ok c =
    let parts = (copied_parts c.loop-left.left c.min-some.result c.args.index (replicate 32 c.from-indices.result) (ap (replicate 32) c.from-indices.ensures) c.min-some.ensures) in
    so_far_stops c.args.entries.now _ c.args.values.now.items (take c.min-some.result (replicate 32 c.from-indices.result)) (replicate (c.loop-left.left - c.min-some.result) c.args.index) _ c.loop-left.values.items c.push_entries.new.values.items parts c.loop-left.invariant.so_far (subst (λ (b : Bool). Lays c.args.entries.now (take c.min-some.result (replicate 32 c.from-indices.result)) b c.loop-left.values.items c.push_entries.new.values.items) c.if-not-all.true c.in_ok-all.ensures.ok)

pub loop-left-preserved : goal.loop-left-preserved
loop-left-preserved c =
    let parts = (copied_parts c.loop-left.left c.min-some.result c.args.index (replicate 32 c.from-indices.result) (ap (replicate 32) c.from-indices.ensures) c.min-some.ensures) in
    record {
      so_far = so_far_more c.args.entries.now _ c.args.values.now.items (take c.min-some.result (replicate 32 c.from-indices.result)) (replicate (c.loop-left.left - c.min-some.result) c.args.index) _ c.loop-left.values.items c.push_entries.new.values.items parts c.loop-left.invariant.so_far (subst (λ (b : Bool). Lays c.args.entries.now (take c.min-some.result (replicate 32 c.from-indices.result)) b c.loop-left.values.items c.push_entries.new.values.items) c.if-not-all.false c.in_ok-all.ensures.ok);
    }

pub returns-clause-ok : goal.returns-clause-ok
returns-clause-ok c = so_far_end c.args.entries.now _ c.args.values.now.items _ c.loop-left.values.items (let z : c.loop-left.left ≡ 0 = omega (arith, c.loop-left-test.false) in ap (λ (k : ℕ). replicate k c.args.index) z) c.loop-left.invariant.so_far
