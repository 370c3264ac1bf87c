use Rattle.std.proofs.Common.{length}
use Rattle.read_walk.specs.Steps.{TookPairs}
use Rattle.read_walk.proofs.Walking.{progress-more, nothing-taken}
use Rattle.read_walk.proofs.Refusing.{smaller, refused-step}
use Rattle.read_walk.proofs.Ticks.{as-many, no-ticks, ticks-more, last-ticks, some-left}
use Rattle.read_walk.proofs.extend.extend_levels.Goals as goal

pub pairs-init : goal.pairs-init
pairs-init g c = (nothing-taken c.args.additional c.args.page.now (g.D.NestedDecoder.left c.args.decoder.now c.args.values.now) c.args.nested.now (g.D.NestedDecoder.slots c.args.decoded.now) c.requires.fits c.requires.decoded, no-ticks (length c.args.nested.now) c.args.page.now c.args.steps.now, c.way_levels-levels.ensures, c.requires.suits)

pub returns-in-Err-clause-err : goal.returns-in-Err-clause-err
returns-in-Err-clause-err g c = refused-step g.D.NestedDecoder.byte_limit c.args.additional c.pairs.rows c.pairs.before _ _ _ _ _ _ _ _ c.in-Err.error c.pairs.invariant.0 c.in-Err.ensures.err

pub pairs-smaller : goal.pairs-smaller
pairs-smaller g c =
    let t : TookPairs c.pairs.rows c.step_pairs.new.rows c.pairs.before c.step_pairs.new.before c.pairs.page c.step_pairs.new.page (g.D.NestedDecoder.left c.args.decoder.now c.pairs.values) (g.D.NestedDecoder.left c.args.decoder.now c.step_pairs.new.values) c.pairs.nested c.step_pairs.new.nested (g.D.NestedDecoder.slots c.pairs.decoded) (g.D.NestedDecoder.slots c.step_pairs.new.decoded) = rw c.in-Ok-true.field-0-test at c.in-Ok-true.ensures.ok in
    smaller t.reps t.defs c.pairs.page c.step_pairs.new.page t.takes.0 t.takes.1 t.takes.2

pub pairs-preserved : goal.pairs-preserved
pairs-preserved g c =
    let t : TookPairs c.pairs.rows c.step_pairs.new.rows c.pairs.before c.step_pairs.new.before c.pairs.page c.step_pairs.new.page (g.D.NestedDecoder.left c.args.decoder.now c.pairs.values) (g.D.NestedDecoder.left c.args.decoder.now c.step_pairs.new.values) c.pairs.nested c.step_pairs.new.nested (g.D.NestedDecoder.slots c.pairs.decoded) (g.D.NestedDecoder.slots c.step_pairs.new.decoded) = rw c.in-Ok-true.field-0-test at c.in-Ok-true.ensures.ok in
    let parts = as-many c.args.nested.now c.pairs.nested c.requires.fits c.pairs.invariant.0.fits c.pairs.invariant.0.way in (
      progress-more c.args.additional c.pairs.rows c.step_pairs.new.rows c.pairs.before c.step_pairs.new.before _ _ _ _ _ _ _ _ _ _ _ _ c.pairs.invariant.0 t,
      ticks-more (length c.args.nested.now) (length c.pairs.nested) c.args.page.now c.pairs.page c.step_pairs.new.page c.args.steps.now c.pairs.steps c.step_pairs.new.steps c.pairs.invariant.1 parts (smaller t.reps t.defs c.pairs.page c.step_pairs.new.page t.takes.0 t.takes.1 t.takes.2) c.step_pairs.ensures.ticked,
      rw t.took.way c.pairs.invariant.2,
      c.step_pairs.ensures.suits,
    )

pub returns-in-Err-clause-bounded : goal.returns-in-Err-clause-bounded
returns-in-Err-clause-bounded g c =
    let parts = as-many c.args.nested.now c.pairs.nested c.requires.fits c.pairs.invariant.0.fits c.pairs.invariant.0.way in
    last-ticks (length c.args.nested.now) (length c.pairs.nested) c.args.page.now c.pairs.page c.args.steps.now c.pairs.steps c.step_pairs.new.steps c.pairs.invariant.1 parts (some-left _ _ _ c.pairs.page _ _ _ c.in-Err.error c.in-Err.ensures.err) c.step_pairs.ensures.ticked
