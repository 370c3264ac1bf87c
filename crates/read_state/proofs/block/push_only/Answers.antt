use Rattle.std.proofs.Common.{replicate, false, arith, sym, ◌∙◌}
use Rattle.std.proofs.lemmas.Nat.{and_le_l}
use Rattle.read_state.specs.Marks.{marks_of}
use Rattle.read_state.proofs.Compared.{both-reached}
use Rattle.read_state.proofs.Counting.{leaf-counted}
use Rattle.read_state.proofs.Marked.{first-bits}
use Rattle.read_state.proofs.block.push_only.Goals as goal

pub returns-in_ok-leaf-in-Primitive-clause-ok : goal.returns-in_ok-leaf-in-Primitive-clause-ok
returns-in_ok-leaf-in-Primitive-clause-ok c =
    let reps = c.args.reps.now in
    let defs = c.args.defs.now in
    let bits = both-reached 64 c.outer_word.result c.levels_from.result 0 0 reps defs c.requires.reps c.requires.defs c.outer_word.ensures c.levels_from.ensures ∙ first-bits 64 0 0 reps defs c.requires.reps c.requires.defs in
    rw (c.in-Primitive.is, c.in_ok-leaf-in-Primitive.ensures, c.ones_of.ensures.is) (sym (leaf-counted c.in-Primitive.leaf.nullable _ (marks_of reps defs (replicate 64 false)) c.in-Primitive.leaf.pushes 0 0 0 (omega (arith, and_le_l c.outer_word.result c.levels_from.result, c.outer_word.type_inv)) bits))
