use Rattle.std.proofs.Common.{rules, ◌≡◌, ◌<◌, length}
use Rattle.read_iters.proofs.Fronts.{no_bytes}
use Rattle.read_iters.proofs.strings.take_string.Goals as goal

pub returns-in_default-front-clause-takes : goal.returns-in_default-front-clause-takes
returns-in_default-front-clause-takes c = no_bytes c.args.bytes.now c.in-Some.head.now c.in-Some.behind.now (search (rules)) (search (rules)) (search (rules))
