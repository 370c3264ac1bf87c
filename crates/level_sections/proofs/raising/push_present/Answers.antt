use Rattle.std.proofs.Common.{◌+◌, ◌-◌, arith}
use Rattle.levels.specs.Nested.{parts_of}
use Rattle.level_sections.specs.Pieces.{above_fields}
use Rattle.level_sections.proofs.SlotLevels.{cut, present-cut, starts-apart}
use Rattle.level_sections.proofs.raising.push_present.Goals as goal

pub push_part-requires-clause-ordered : goal.push_part-requires-clause-ordered
push_part-requires-clause-ordered c =
    let a = c.args.place - c.args.from in
    let is = cut c.args.level (parts_of c.args.rest.now) (above_fields c.args.above c.args.is_optional) c.args.from (c.args.to - c.args.from) a (a + c.args.count) c.args.lower.now c.requires.same (omega (arith, c.requires.some)) (omega (arith, c.requires.after, c.requires.within)) c.requires.beneath in
    omega (arith, is.ordered)

pub push_part-requires-clause-within : goal.push_part-requires-clause-within
push_part-requires-clause-within c =
    let a = c.args.place - c.args.from in
    (cut c.args.level (parts_of c.args.rest.now) (above_fields c.args.above c.args.is_optional) c.args.from (c.args.to - c.args.from) a (a + c.args.count) c.args.lower.now c.requires.same (omega (arith, c.requires.some)) (omega (arith, c.requires.after, c.requires.within)) c.requires.beneath).within

pub move_starts-requires-clause-less : goal.move_starts-requires-clause-less
move_starts-requires-clause-less c i low high =
    let a = c.args.place - c.args.from in
    let apart = starts-apart c.args.level (parts_of c.args.rest.now) (above_fields c.args.above c.args.is_optional) c.args.from (c.args.to - c.args.from) a i c.args.lower.now c.requires.same (omega (arith, low)) (omega (arith, high, c.requires.after, c.requires.within)) c.requires.beneath in
    omega (arith, apart)

pub move_starts-requires-clause-more : goal.move_starts-requires-clause-more
move_starts-requires-clause-more c i low high =
    let a = c.args.place - c.args.from in
    let is = cut c.args.level (parts_of c.args.rest.now) (above_fields c.args.above c.args.is_optional) c.args.from (c.args.to - c.args.from) a i c.args.lower.now c.requires.same (omega (arith, low)) (omega (arith, high, c.requires.after, c.requires.within)) c.requires.beneath in
    omega (arith, is.within, c.len-at.ensures.most, c.len-size.ensures.size, c.len-size.ensures.most)

pub returns : goal.returns
returns c = λ t. present-cut c.args.level c.args.is_optional c.args.mask.now c.args.slots (parts_of c.args.rest.now) c.args.above c.args.from c.args.place c.args.count c.args.to c.args.lower.now c.args.upper.now (record { told = c.push_part.new.self; starts = c.move_starts.new.upper }) c.requires.same c.requires.after c.requires.some c.requires.within c.requires.room c.requires.there c.requires.beneath c.requires.told (c.push_part.ensures c.if-not-push_part.false) c.move_starts.ensures.others (λ j low high. omega (arith, c.move_starts.ensures.each j low high, c.len-at.ensures.size))
