use Rattle.std.proofs.Common.{arith, ◌∙◌, refl}
use Rattle.read_state.specs.Marks.{marks_of}
use Rattle.read_state.proofs.Blocks.{leaf-init, leaf-next, struct-init, struct-next, weight-one}
use Rattle.read_state.proofs.block.count_each.Goals as goal

pub loop-j-init : goal.loop-j-init
loop-j-init c = record {
  few = omega arith;
  leaf = λ n k place. leaf-init n k place c.args.depth c.args.def (marks_of c.args.reps.now c.args.defs.now c.args.hidden.now);
  required = λ k place. struct-init k place c.args.depth c.args.def (marks_of c.args.reps.now c.args.defs.now c.args.hidden.now);
}

pub loop-j-preserved : goal.loop-j-preserved
loop-j-preserved c = record {
  few = omega (arith, c.loop-j.invariant.few, c.bit-count.ensures, weight-one c.pushes.result);
  leaf = λ n k place. c.loop-j.invariant.leaf n k place ∙ leaf-next n k c.loop-j.count c.bit-count.result c.args.depth c.args.def c.args.reps.now c.args.defs.now c.args.hidden.now c.loop-j.j (omega (arith, c.loop-j-test.true)) c.requires.defs c.requires.hidden (rw (c.bit-count.ensures, c.pushes.ensures) refl);
  required = λ k place. c.loop-j.invariant.required k place ∙ struct-next k c.loop-j.count c.bit-count.result c.args.depth c.args.def c.args.reps.now c.args.defs.now c.args.hidden.now c.loop-j.j (omega (arith, c.loop-j-test.true)) c.requires.defs c.requires.hidden (rw (c.bit-count.ensures, c.pushes.ensures) refl);
}
