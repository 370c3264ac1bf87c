use Rattle.std.proofs.Common.{◌∙◌, sym}
use Rattle.levels.specs.Nested.{parts_of}
use Rattle.level_sections.proofs.Bytes.{told-as}
use Rattle.level_sections.proofs.SlotLevels.{null-struct-level, struct-by-cut, struct-cut}
use Rattle.level_sections.proofs.pieces.push_struct.Goals as goal

pub returns-then-not-there : goal.returns-then-not-there
returns-then-not-there c =
    λ t. told-as _ _ _ _ (null-struct-level c.args.level c.args.is_optional c.args.mask.now c.args.slots (parts_of c.args.rest.now) c.args.above c.args.place _ c.requires.same c.level_at.ensures.value (sym c.requires.there ∙ c.if-not-there.true)) (c.push_level.ensures t)

pub push_beneath-requires-clause-rising : goal.push_beneath-requires-clause-rising
push_beneath-requires-clause-rising c = (struct-cut c.args.level c.args.is_optional (parts_of c.args.rest.now) c.args.above c.args.place c.args.from c.args.to c.args.lower.now c.requires.same c.requires.after c.requires.before c.requires.beneath).ordered

pub push_beneath-requires-clause-within : goal.push_beneath-requires-clause-within
push_beneath-requires-clause-within c = (struct-cut c.args.level c.args.is_optional (parts_of c.args.rest.now) c.args.above c.args.place c.args.from c.args.to c.args.lower.now c.requires.same c.requires.after c.requires.before c.requires.beneath).within

pub returns : goal.returns
returns c =
    let is = struct-cut c.args.level c.args.is_optional (parts_of c.args.rest.now) c.args.above c.args.place c.args.from c.args.to c.args.lower.now c.requires.same c.requires.after c.requires.before c.requires.beneath in
    λ t. told-as _ _ _ _ (struct-by-cut c.args.level c.args.is_optional c.args.mask.now c.args.slots (parts_of c.args.rest.now) c.args.above c.args.place c.args.from _ c.requires.same (sym c.requires.there ∙ c.if-not-there.false) c.requires.after is.levels) (c.push_beneath.ensures t)
