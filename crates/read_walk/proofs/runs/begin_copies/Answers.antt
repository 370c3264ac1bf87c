use Rattle.pq_runs.proofs.Decoding.{value_size}
use Rattle.pq_runs.proofs.Items.{copies_begin}
use Rattle.read_walk.specs.LevelRuns.{runs_left}
use Rattle.read_walk.proofs.runs.begin_copies.Goals as goal

pub whole_number-levels-requires : goal.whole_number-levels-requires
whole_number-levels-requires c = value_size c.args.levels.now.runs.num_bits c.args.count c.args.levels.now.runs.values.now c.args.value.now c.args.rest.now c.requires.is.fits c.requires.run

pub returns-clause-same : goal.returns-clause-same
unfolding runs_left
returns-clause-same c =
    copies_begin c.args.levels.now.runs.num_bits c.args.levels.now.left c.args.levels.now.copies c.args.levels.now.number c.args.levels.now.standing _ c.min-levels.result c.whole_number-levels.result c.args.count c.args.levels.now.runs.values.now c.args.value.now c.args.rest.now c.requires.none c.requires.some c.requires.run c.min-levels.ensures c.whole_number-levels.ensures
