use Rattle.std.proofs.Common.{◌*◌, ◌/◌, ◌%◌, arith}
use Rattle.columns_core.proofs.Packed.{front_differs, rest_tells}
use Rattle.columns_core.proofs.bit_runs.is_same_run.Goals as goal

pub returns-then-not-is_same_whole : goal.returns-then-not-is_same_whole
returns-then-not-is_same_whole c =
    front_differs c.args.a.now c.args.b.now c.args.a_from c.args.b_from c.args.length (8 * (c.args.length / 8)) _ (omega arith) c.if-not-is_same_whole.true c.is_same_whole.ensures

pub returns : goal.returns
returns c =
    rest_tells c.args.a.now c.args.b.now c.args.a_from c.args.b_from c.args.length (8 * (c.args.length / 8)) (c.args.length % 8) _ _ (omega arith) c.if-not-is_same_whole.false c.is_same_whole.ensures c.is_same_single.ensures
