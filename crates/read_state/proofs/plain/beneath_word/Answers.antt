use Rattle.std.proofs.Common.{true≢false, sym, ◌∙◌}
use Rattle.read_state.proofs.Marked.{marked-plain, marked-required}
use Rattle.read_state.proofs.plain.beneath_word.Goals as goal

pub returns-then-required : goal.returns-then-required
returns-then-required c k ms outer above is r d i l = marked-required k ms c.args.reps.now c.args.defs.now c.args.pushed outer above c.args.depth c.args.def (sym r ∙ c.if-required.true) d i is

pub returns-then-last : goal.returns-then-last
returns-then-last c k ms outer above is r d i l = absurd (true≢false (sym c.if-last.true ∙ l c.if-required.false))

pub returns : goal.returns
returns c k ms outer above is r d i l = marked-plain k ms c.args.reps.now c.args.defs.now c.args.pushed outer above c.reached_word.result c.args.depth c.args.def c.requires.deep c.requires.few (sym r ∙ c.if-required.false) c.reached_word.ensures is
