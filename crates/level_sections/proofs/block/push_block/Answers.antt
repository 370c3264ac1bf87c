use Rattle.std.proofs.Common.{◌≡◌, ◌+◌, ◌++◌, ◌^◌, ◌<◌, ◌≤◌, ◌∙◌, true, ℕ, List, All, sym, subst, arith}
use Rattle.std.specs.Prelude.{slice_index}
use Rattle.levels.specs.Nested.{parts_of}
use Rattle.pq_runs.specs.Writing.{Keeps}
use Rattle.pq_runs.proofs.Steps.{finished}
use Rattle.level_sections.specs.Blocks.{flat_level}
use Rattle.level_sections.proofs.Blocks.{bits-mixed, from-even, from-taken, from-below, mixed_level, same_at, bit_most}
use Rattle.level_sections.proofs.PlaneNumbers.{planes-mixed}
use Rattle.level_sections.proofs.block.push_block.Goals as goal

pub returns-in-Even-clause-added : goal.returns-in-Even-clause-added
returns-in-Even-clause-added c =
    let level = flat_level (parts_of c.args.parts.now) c.args.def in
    finished c.push.result (λ f start xs k. subst (λ (ys : List ℕ). Keeps start c.push.new.out.items c.push.new.self (xs ++ ys)) (from-even level c.in-Even.level c.args.place c.args.count c.in-Even.ensures) (f start xs k)) c.push.ensures.added

pub add_bits-requires-clause-low : goal.add_bits-requires-clause-low
add_bits-requires-clause-low c = λ i b. subst (λ (v : ℕ). v ≤ 256) (sym (same_at 64 c.in-Mixed.level i b)) (omega (arith, c.in-Mixed.ensures.2))

pub add_parts-requires-clause-low : goal.add_parts-requires-clause-low
add_parts-requires-clause-low c = λ i b. omega (arith, c.in-Mixed.ensures.2, c.add_bits.ensures.each i b, same_at 64 c.in-Mixed.level i b, bit_most true c.in-Mixed.word i)

pub push_each-requires : goal.push_each-requires
push_each-requires c =
    let level = flat_level (parts_of c.args.parts.now) c.args.def in
    let each : (i : ℕ) → i < c.args.count → slice_index c.add_parts.new.levels i ≡ level (c.args.place + i) =
    λ i b.
    let small : i < 64 = omega (arith, b, c.requires.few) in
    c.add_parts.ensures.each i b ∙ (mixed_level (parts_of c.in-Mixed.rest.now) c.in-Mixed.level _ _ (c.args.place + i) i c.in-Mixed.word (same_at 64 c.in-Mixed.level i small) (c.add_bits.ensures.each i small) ∙ sym (c.in-Mixed.ensures.0 i b)) in
    let taken = from-taken level c.add_parts.new.levels c.args.place c.args.count (omega (arith, c.add_parts.ensures.size, c.requires.few)) each in
    record { low = subst (λ (ys : List ℕ). All (λ v. v < 2 ^ c.args.writer.now.width) ys) (sym taken) (from-below level (2 ^ c.args.writer.now.width) c.args.place c.args.count c.requires.holds) }

pub returns-else-rest-le6-clause-added : goal.returns-else-rest-le6-clause-added
returns-else-rest-le6-clause-added c =
    let level = flat_level (parts_of c.args.parts.now) c.args.def in
    let each : (i : ℕ) → i < c.args.count → slice_index c.add_parts.new.levels i ≡ level (c.args.place + i) =
    λ i b.
    let small : i < 64 = omega (arith, b, c.requires.few) in
    c.add_parts.ensures.each i b ∙ (mixed_level (parts_of c.in-Mixed.rest.now) c.in-Mixed.level _ _ (c.args.place + i) i c.in-Mixed.word (same_at 64 c.in-Mixed.level i small) (c.add_bits.ensures.each i small) ∙ sym (c.in-Mixed.ensures.0 i b)) in
    let taken = from-taken level c.add_parts.new.levels c.args.place c.args.count (omega (arith, c.add_parts.ensures.size, c.requires.few)) each in
    finished c.push_each.result (λ f start xs k. subst (λ (ys : List ℕ). Keeps start c.push_each.new.out.items c.push_each.new.self (xs ++ ys)) taken (f start xs k)) c.push_each.ensures.added

pub push_bits-requires : goal.push_bits-requires
push_bits-requires c =
    let level = flat_level (parts_of c.args.parts.now) c.args.def in
    let is = bits-mixed (parts_of c.args.parts.now) (parts_of c.in-Mixed.rest.now) c.args.def c.in-Mixed.level c.in-Mixed.word c.args.place c.args.count c.in-Mixed.ensures.0 (c.are_required.ensures c.if-are_required.true) in
    record { few = c.requires.few; low = subst (λ (ys : List ℕ). All (λ v. v < 2 ^ c.args.writer.now.width) ys) (sym is) (from-below level (2 ^ c.args.writer.now.width) c.args.place c.args.count c.requires.holds) }

pub returns-then-are_required-clause-added : goal.returns-then-are_required-clause-added
returns-then-are_required-clause-added c =
    let is = bits-mixed (parts_of c.args.parts.now) (parts_of c.in-Mixed.rest.now) c.args.def c.in-Mixed.level c.in-Mixed.word c.args.place c.args.count c.in-Mixed.ensures.0 (c.are_required.ensures c.if-are_required.true) in
    finished c.push_bits.result (λ f start xs k. subst (λ (ys : List ℕ). Keeps start c.push_bits.new.out.items c.push_bits.new.self (xs ++ ys)) is (f start xs k)) c.push_bits.ensures.added

pub push_planes-requires-clause-holds : goal.push_planes-requires-clause-holds
push_planes-requires-clause-holds c =
    let level = flat_level (parts_of c.args.parts.now) c.args.def in
    let is = planes-mixed level (parts_of c.in-Mixed.rest.now) c.in-Mixed.level c.in-Mixed.word c.one_plane.result c.with_parts-planes.result c.args.place c.args.count c.one_plane.ensures c.with_parts-planes.ensures c.in-Mixed.ensures.0 in
    subst (λ (ys : List ℕ). All (λ v. v < 2 ^ c.args.writer.now.width) ys) (sym is) (from-below level (2 ^ c.args.writer.now.width) c.args.place c.args.count c.requires.holds)

pub returns-then-rest-le6-clause-added : goal.returns-then-rest-le6-clause-added
returns-then-rest-le6-clause-added c =
    let is = planes-mixed (flat_level (parts_of c.args.parts.now) c.args.def) (parts_of c.in-Mixed.rest.now) c.in-Mixed.level c.in-Mixed.word c.one_plane.result c.with_parts-planes.result c.args.place c.args.count c.one_plane.ensures c.with_parts-planes.ensures c.in-Mixed.ensures.0 in
    finished c.push_planes.result (λ f start xs k. subst (λ (ys : List ℕ). Keeps start c.push_planes.new.out.items c.push_planes.new.writer (xs ++ ys)) is (f start xs k)) c.push_planes.ensures.added
