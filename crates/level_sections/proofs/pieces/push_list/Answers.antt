use Rattle.std.proofs.Common.{◌+◌, ◌<◌, ◌∙◌, arith, length, refl, sym}
use Rattle.shredding.specs.Parts.{item_start}
use Rattle.levels.specs.Nested.{parts_of}
use Rattle.level_sections.proofs.Bytes.{told-as}
use Rattle.level_sections.proofs.SlotLevels.{empty-list-level, items-apart, items-rise, items-same, list-at, list-by-cut, null-list-level}
use Rattle.level_sections.proofs.pieces.push_list.Goals as goal

pub returns-then-not-there : goal.returns-then-not-there
returns-then-not-there g c =
    let list = c.args.list.now in
    λ t. told-as _ _ _ _ (null-list-level c.args.level list.is_optional list.validity list.offsets (parts_of c.args.rest.now) c.args.above c.args.place _ c.requires.same c.level_at.ensures.value (sym c.requires.there ∙ c.if-not-there.true)) (c.push_level.ensures t)

pub returns-then-start-stop : goal.returns-then-start-stop
returns-then-start-stop g c =
    let list = c.args.list.now in
    let same = items-same list.offsets c.args.from c.args.place c.args.start c.args.stop c.requires.rises c.requires.after (omega (arith, c.requires.within)) c.requires.start c.requires.stop c.if-start-stop.true in
    λ t. told-as _ _ _ _ (empty-list-level c.args.level list.is_optional list.validity list.offsets (parts_of c.args.rest.now) c.args.above c.args.place _ _ (item_start list.offsets c.args.place) (item_start list.offsets (c.args.place + 1)) c.requires.same c.level_at-then-start-stop.ensures.value (omega (arith, c.step_of.ensures.value)) (sym c.requires.there ∙ c.if-not-there.false) refl refl same) (c.push_level-then-start-stop.ensures t)

pub push_beneath-requires-clause-ordered : goal.push_beneath-requires-clause-ordered
push_beneath-requires-clause-ordered g c =
    let within : c.args.place + 1 < length c.args.list.now.offsets = omega (arith, c.requires.within) in
    let some = items-apart c.args.list.now.offsets c.args.from c.args.place c.args.start c.args.stop c.requires.rises c.requires.after within c.requires.start c.requires.stop c.if-start-stop.false in
    omega (arith, some, c.requires.start, c.requires.stop)

pub push_beneath-requires-clause-places : goal.push_beneath-requires-clause-places
push_beneath-requires-clause-places g c = omega (arith, c.requires.stop, c.requires.before, c.requires.beneath.few)

pub push_beneath-requires-clause-rising : goal.push_beneath-requires-clause-rising
push_beneath-requires-clause-rising g c =
    let within : c.args.place + 1 < length c.args.list.now.offsets = omega (arith, c.requires.within) in
    let some = items-apart c.args.list.now.offsets c.args.from c.args.place c.args.start c.args.stop c.requires.rises c.requires.after within c.requires.start c.requires.stop c.if-start-stop.false in
    let after = items-rise c.args.list.now.offsets c.args.from c.args.place c.requires.rises c.requires.after (omega (arith, within)) in
    (list-at c.args.level c.args.list.now.is_optional (parts_of c.args.rest.now) c.args.above (item_start c.args.list.now.offsets c.args.from) c.args.last (item_start c.args.list.now.offsets c.args.place) (item_start c.args.list.now.offsets (c.args.place + 1)) c.args.start c.args.stop c.args.lower.now c.requires.start c.requires.stop some after c.requires.before c.requires.beneath).ordered

pub push_beneath-requires-clause-within : goal.push_beneath-requires-clause-within
push_beneath-requires-clause-within g c =
    let within : c.args.place + 1 < length c.args.list.now.offsets = omega (arith, c.requires.within) in
    let some = items-apart c.args.list.now.offsets c.args.from c.args.place c.args.start c.args.stop c.requires.rises c.requires.after within c.requires.start c.requires.stop c.if-start-stop.false in
    let after = items-rise c.args.list.now.offsets c.args.from c.args.place c.requires.rises c.requires.after (omega (arith, within)) in
    (list-at c.args.level c.args.list.now.is_optional (parts_of c.args.rest.now) c.args.above (item_start c.args.list.now.offsets c.args.from) c.args.last (item_start c.args.list.now.offsets c.args.place) (item_start c.args.list.now.offsets (c.args.place + 1)) c.args.start c.args.stop c.args.lower.now c.requires.start c.requires.stop some after c.requires.before c.requires.beneath).within

pub returns : goal.returns
returns g c =
    let list = c.args.list.now in
    let within : c.args.place + 1 < length c.args.list.now.offsets = omega (arith, c.requires.within) in
    let some = items-apart c.args.list.now.offsets c.args.from c.args.place c.args.start c.args.stop c.requires.rises c.requires.after within c.requires.start c.requires.stop c.if-start-stop.false in
    let after = items-rise c.args.list.now.offsets c.args.from c.args.place c.requires.rises c.requires.after (omega (arith, within)) in
    let is = (list-at c.args.level c.args.list.now.is_optional (parts_of c.args.rest.now) c.args.above (item_start c.args.list.now.offsets c.args.from) c.args.last (item_start c.args.list.now.offsets c.args.place) (item_start c.args.list.now.offsets (c.args.place + 1)) c.args.start c.args.stop c.args.lower.now c.requires.start c.requires.stop some after c.requires.before c.requires.beneath) in
    λ t. told-as _ _ _ _ (list-by-cut c.args.level list.is_optional list.validity list.offsets (parts_of c.args.rest.now) c.args.above c.args.place (item_start list.offsets c.args.from) (item_start list.offsets c.args.place) (item_start list.offsets (c.args.place + 1)) _ c.requires.same (sym c.requires.there ∙ c.if-not-there.false) refl refl some after is.levels) (c.push_beneath.ensures t)
