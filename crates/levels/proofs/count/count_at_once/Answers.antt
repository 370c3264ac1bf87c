use Rattle.std.proofs.Common.{arith, ◌≡◌, ◌-◌}
use Rattle.shredding.specs.Shred.{max_repetition}
use Rattle.shredding.specs.Parts.{path_way}
use Rattle.levels.specs.Nested.{parts_of}
use Rattle.levels.proofs.Flat.{total-lists, leaf-pairs, struct-pairs}
use Rattle.levels.proofs.count.count_at_once.Goals as goal

pub returns-in-Primitive : goal.returns-in-Primitive
returns-in-Primitive c =
    let flat : max_repetition (path_way (parts_of c.in-Some.rest.now)) ≡ 0 = c.has_lists.ensures c.if-has_lists.false in
    rw (c.in-Some.ensures.cases.0) (omega (arith, leaf-pairs c.in-Some.part.now c.in-Some.rest.now c.args.from c.args.to flat _ _ _ c.in-Primitive.is, c.ranges.to.fits))

pub returns-in-Struct : goal.returns-in-Struct
returns-in-Struct c =
    let flat : max_repetition (path_way (parts_of c.in-Some.rest.now)) ≡ 0 = c.has_lists.ensures c.if-has_lists.false in
    rw (c.in-Some.ensures.cases.0) (omega (arith, struct-pairs c.in-Some.part.now c.in-Some.rest.now c.args.from c.args.to flat _ _ _ c.in-Struct.is, c.ranges.to.fits))

pub returns-in-List : goal.returns-in-List
returns-in-List c =
    let flat : max_repetition (path_way (parts_of c.in-Some.rest.now)) ≡ 0 = c.has_lists.ensures c.if-has_lists.false in
    rw (c.in-Some.ensures.cases.0, c.in-List.is, total-lists c.in-List.list.is_optional c.in-List.list.validity c.in-List.list.offsets (parts_of c.in-Some.rest.now) c.args.from (c.args.to - c.args.from) flat) c.count_lists.ensures

pub returns-in-LargeList : goal.returns-in-LargeList
returns-in-LargeList c =
    let flat : max_repetition (path_way (parts_of c.in-Some.rest.now)) ≡ 0 = c.has_lists.ensures c.if-has_lists.false in
    rw (c.in-Some.ensures.cases.0, c.in-LargeList.is, total-lists c.in-LargeList.list.is_optional c.in-LargeList.list.validity c.in-LargeList.list.offsets (parts_of c.in-Some.rest.now) c.args.from (c.args.to - c.args.from) flat) c.count_lists-in-LargeList.ensures
