use Rattle.std.proofs.Common.{arith, refl, ◌-◌}
use Rattle.levels.specs.Nested.{parts_of}
use Rattle.levels.proofs.Wholes.{lists-pairs, whole-structs, whole-leaves}
use Rattle.levels.proofs.whole.+count_whole.Goals as goal

pub returns-in-Primitive : goal.returns-in-Primitive
returns-in-Primitive t c =
    let slots = whole-leaves c.in-Primitive.field-1 c.in-Primitive.field-0 c.in-Primitive.field-2 (parts_of c.in_ok-part.rest.now) c.args.from (c.args.to - c.args.from) in
    rw (c.in_ok-part.ensures.cases.0, c.in-Primitive.is) (omega (arith, slots, c.ranges.to.fits))

pub returns-in_ok-pairs-in-List : goal.returns-in_ok-pairs-in-List
returns-in_ok-pairs-in-List t c =
    let list = c.in-List.list in
    let look = c.look_at_lists-first.ensures in
    let none = rw (c.in_ok-part.ensures.cases.0, c.in-List.is) at (c.if-not-absent_have_none.ensures refl) in
    rw (c.in_ok-part.ensures.cases.0, c.in-List.is) (lists-pairs list.is_optional list.validity list.offsets (parts_of c.in_ok-part.rest.now) c.args.from c.args.to _ _ _ _ _ _ look.rises c.requires.ordered look.some none look.start look.end look.empty c.in_ok-pairs-in-List.ensures c.saturating_add.ensures)

pub returns-in_ok-pairs-in-LargeList : goal.returns-in_ok-pairs-in-LargeList
returns-in_ok-pairs-in-LargeList t c =
    let list = c.in-LargeList.list in
    let look = c.look_at_lists-first-in-LargeList.ensures in
    let none = rw (c.in_ok-part.ensures.cases.0, c.in-LargeList.is) at (c.if-not-absent_have_none-2.ensures refl) in
    rw (c.in_ok-part.ensures.cases.0, c.in-LargeList.is) (lists-pairs list.is_optional list.validity list.offsets (parts_of c.in_ok-part.rest.now) c.args.from c.args.to _ _ _ _ _ _ look.rises c.requires.ordered look.some none look.start look.end look.empty c.in_ok-pairs-in-LargeList.ensures c.saturating_add-in-LargeList.ensures)

pub returns-else-not-absent_have_none-3 : goal.returns-else-not-absent_have_none-3
returns-else-not-absent_have_none-3 t c =
    let s = c.in-Struct in
    let pairs = whole-structs s.is_optional s.mask s.field-2 (parts_of c.in_ok-part.rest.now) c.args.from c.args.to (c.if-not-absent_have_none-3.ensures refl) in
    rw (c.in_ok-part.ensures.cases.0, s.is, pairs) c.count_whole-in-Struct.ensures
