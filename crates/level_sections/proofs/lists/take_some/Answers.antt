use Rattle.std.proofs.Common.{◌-◌, ◌∙◌, arith, refl}
use Rattle.levels.specs.Sizes.{list_size}
use Rattle.level_sections.proofs.Told.{taken_from, all_there}
use Rattle.level_sections.proofs.lists.take_some.Goals as goal

pub returns-then-end-place-clause-levels : goal.returns-then-end-place-clause-levels
returns-then-end-place-clause-levels g c = λ depth is_optional mask bits.
    let all = all_there is_optional mask c.args.word c.full_word.result c.args.place c.args.from c.args.count c.if-word-full_word.false c.full_word.ensures bits in
    taken_from (list_size is_optional mask c.args.offsets.now) depth c.args.place c.args.from c.args.count c.args.count _ _ _ _ c.args.starts c.take_full-end.result.0 refl (omega arith) c.if-end-place.true (omega (arith, c.if-end-place.true)) (c.take_full-end.ensures.levels depth is_optional mask all)

pub returns-then-full-eq64-clause-levels : goal.returns-then-full-eq64-clause-levels
returns-then-full-eq64-clause-levels g c = λ depth is_optional mask bits.
    let all = all_there is_optional mask c.args.word c.full_word.result c.args.place c.args.from c.args.count c.if-word-full_word.false c.full_word.ensures bits in
    let e = c.take_full-end.ensures in
    taken_from (list_size is_optional mask c.args.offsets.now) depth c.args.place c.args.from c.args.count (c.take_full-end.result.1 - c.args.place) _ _ _ _ c.args.starts c.take_full-end.result.0 refl (omega arith) (omega (arith, e.after)) (omega (arith, e.after)) (e.levels depth is_optional mask all)

pub returns-clause-levels : goal.returns-clause-levels
returns-clause-levels g c = λ depth is_optional mask bits.
    let all = all_there is_optional mask c.args.word c.full_word.result c.args.place c.args.from c.args.count c.if-word-full_word.false c.full_word.ensures bits in
    let e = c.take_full-end.ensures in
    taken_from (list_size is_optional mask c.args.offsets.now) depth c.args.place c.args.from c.args.count (c.take_full-end.result.1 - c.args.place) _ _ _ _ c.args.starts c.take_full-end.result.0 refl (omega arith) (omega (arith, e.after)) (omega (arith, e.after)) (e.levels depth is_optional mask all)
    ∙ c.take_lists-2.ensures.levels depth is_optional mask bits
