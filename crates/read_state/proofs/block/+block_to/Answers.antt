use Rattle.std.proofs.Common.{◌+◌, refl, arith}
use Rattle.std.proofs.lemmas.Result.{on_ok_weaker}
use Rattle.read_state.specs.Kinds.{kept_box}
use Rattle.read_state.specs.Marks.{marks_of}
use Rattle.read_state.proofs.Blocks.{marks-beneath, block-more}
use Rattle.read_state.proofs.block.+block_to.Goals as goal

pub returns-clause-ok : goal.returns-clause-ok
returns-clause-ok g t c =
    let part = c.in-Some.part.now in
    let reps = c.args.reps.now in
    let defs = c.args.defs.now in
    let hidden = c.args.hidden.now in
    let beneath = c.hidden_beneath-beneath.result in
    let marks = marks-beneath (kept_box part) c.args.depth c.args.def reps defs hidden beneath c.requires.defs (omega (arith, c.requires.hidden, c.requires.reps)) (omega (arith, c.hidden_beneath-beneath.ensures.size, c.requires.reps)) (λ i h. rw (← c.is_nullable-nullable.ensures, ← c.is_required-required.ensures) (c.hidden_beneath-beneath.ensures.flags i h)) in
    on_ok_weaker c.block_to.result (λ e. block-more c.args.parts.now c.in-Some.rest.now c.block_to.new.parts part c.push_part.new.part c.args.depth c.args.def c.first_len-first.result (c.args.depth + c.bit.result) (c.args.def + (c.bit-2.result + c.bit-3.result)) (marks_of reps defs hidden) (marks_of reps defs beneath)
    c.in-Some.ensures.cases.0
    c.first_len-first.ensures
    c.in_ok-push_part.ensures.ok
    marks
    (rw (c.bit.ensures, c.is_repeated-repeated.ensures) refl)
    (rw (c.bit-2.ensures, c.is_nullable-nullable.ensures, c.bit-3.ensures, c.is_repeated-repeated.ensures) refl)
    e) c.block_to.ensures.ok
