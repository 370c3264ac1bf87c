use Rattle.std.proofs.Common.{false, replicate}
use Rattle.read_state.specs.Marks.{marks_of}
use Rattle.read_state.proofs.Marked.{marked-outer}
use Rattle.read_state.proofs.Compared.{both-reached}
use Rattle.read_state.proofs.block.push_told.Goals as goal

pub returns-clause-ok : goal.returns-clause-ok
returns-clause-ok g c =
    let reps = c.args.reps.now in
    let defs = c.args.defs.now in
    let bits = both-reached 64 c.to.result c.from.result 0 0 reps defs c.requires.reps c.requires.defs c.to.ensures c.from.ensures in
    c.words_to.ensures.ok (marks_of reps defs (replicate 64 false)) (λ some. marked-outer _ reps defs reps defs c.requires.reps c.requires.defs c.know.ensures c.know-2.ensures bits)
