use Rattle.std.proofs.Common.{inr, refl, replicate, false, ap, ◌∙◌}
use Rattle.read_state.specs.Kinds.{all_kept, HasLongItems}
use Rattle.read_state.specs.Marks.{marks_of}
use Rattle.read_state.proofs.Long.{long-grows}
use Rattle.read_state.proofs.nested.NestedState.push_block.Goals as goal

pub returns-then-has_long_items-clause-err : goal.returns-then-has_long_items-clause-err
returns-then-has_long_items-clause-err g c =
    let long : HasLongItems (all_kept c.deref.result.now) = c.has_long_items.ensures.0 c.if-has_long_items.true in
    let old = ap all_kept c.deref.ensures.value ∙ c.self.view_is in
    inr (refl, long-grows (marks_of c.args.reps.now c.args.defs.now (replicate 64 false)) 0 0 c.args.self.now (rw old at long))
