use Rattle.std.proofs.Common.{arith, ◌∙◌}
use Rattle.read_walk.proofs.Eights.{body-on, body-size}
use Rattle.read_walk.proofs.runs.from_body.Goals as goal

pub overflow_sub-bytes : goal.overflow_sub-bytes
overflow_sub-bytes c = omega (arith, body-size c.args.width c.args.bytes.now c.args.body.now c.args.rest.now c.requires)

pub overflow_sub-bytes-2 : goal.overflow_sub-bytes-2
overflow_sub-bytes-2 c = omega (arith, body-size c.args.width c.args.bytes.now c.args.body.now c.args.rest.now c.requires)

pub returns : goal.returns
returns c = c.skip.ensures ∙ body-on c.args.width c.args.bytes.now c.args.body.now c.args.rest.now c.requires
