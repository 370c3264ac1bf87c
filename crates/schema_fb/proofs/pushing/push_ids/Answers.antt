use Rattle.std.proofs.Common.{pos, SFits, get_or, rules}
use Rattle.std.specs.Int.{w32}
use Rattle.schema_fb.proofs.Steps.{ids_step}
use Rattle.schema_fb.proofs.pushing.push_ids.Goals as goal

pub loop-id-preserved : goal.loop-id-preserved
loop-id-preserved c =
    let fits : SFits w32 (get_or c.args.ids.now c.loop-id.id-index (pos 0)) = search rules in
    ids_step c.loop-id.out.items c.push_count.new.out.items _ c.args.ids.now c.loop-id.id-index c.cast_unsigned.result c.loop-id-test.true fits c.cast_unsigned.ensures c.in_ok-push_count.ensures c.loop-id.invariant
