use Rattle.std.proofs.Common.{◌≡◌, ◌+◌, ◌/◌, ◌^◌, arith}
use Rattle.pq_numbers.specs.Texts.{number_of}
use Rattle.pq_runs.proofs.Items.{nothing_left}
use Rattle.read_walk.specs.LevelRuns.{runs_left}
use Rattle.read_walk.proofs.runs.stop_runs.Goals as goal

pub returns-clause-none : goal.returns-clause-none
unfolding runs_left
returns-clause-none c = let none : 0 + 0 ≡ 0 = omega arith in nothing_left c.args.levels.now.runs.num_bits 0 c.args.levels.now.number 0 (number_of c.args.levels.now.packed.now / 2 ^ c.args.levels.now.shift) c.args.levels.now.runs.values.now none
