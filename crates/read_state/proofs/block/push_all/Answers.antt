use Rattle.std.proofs.Common.{length, replicate, false, arith, refl, ◌∙◌}
use Rattle.std.proofs.lemmas.Result.{on_ok_weaker}
use Rattle.read_state.specs.Kinds.{all_kept}
use Rattle.read_state.specs.Marks.{marks_of}
use Rattle.read_state.proofs.Marked.{marked-outer}
use Rattle.read_state.proofs.Compared.{both-reached}
use Rattle.read_state.proofs.Long.{stretch-is-block, none-is-block}
use Rattle.read_state.proofs.block.push_all.Goals as goal

pub returns-then-reps-eq0-clause-ok : goal.returns-then-reps-eq0-clause-ok
returns-then-reps-eq0-clause-ok g c = none-is-block c.args.reps.now c.args.defs.now (all_kept c.args.parts.now) (omega (arith, c.if-reps-eq0.true))

pub returns-then-are_alike-clause-ok : goal.returns-then-are_alike-clause-ok
returns-then-are_alike-clause-ok g c =
    let same = c.if-are_alike.ensures refl in
    on_ok_weaker c.push_to.result (λ e. stretch-is-block (length c.args.reps.now) _ _ c.args.reps.now c.args.defs.now (all_kept c.args.parts.now) (all_kept c.push_to.new.parts) c.requires.reps same.0 same.1 c.requires.fits e) c.push_to.ensures.ok

pub returns-then-parts-lt64-clause-ok : goal.returns-then-parts-lt64-clause-ok
returns-then-parts-lt64-clause-ok g c =
    let reps = c.args.reps.now in
    let defs = c.args.defs.now in
    let size = c.requires.defs ∙ c.if-reps-eq64-2.true in
    let bits = both-reached 64 c.outer_word-outer.result c.levels_from.result 0 0 reps defs c.if-reps-eq64-2.true size c.outer_word-outer.ensures c.levels_from.ensures in
    c.words_to.ensures.ok (marks_of reps defs (replicate 64 false)) (λ some. marked-outer _ reps defs c.of_bytes-reps.result c.of_bytes-defs.result c.if-reps-eq64-2.true size (c.of_bytes-reps.ensures ∙ c.narrowed_beside.ensures) (c.of_bytes-defs.ensures ∙ c.narrowed.ensures) bits)
