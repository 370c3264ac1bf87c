use Rattle.std.proofs.Common.{ℕ, ℤ, ◌+◌, ◌-◌, ◌∙◌, ap, refl, arith, length, SFits, to_z, of_z, rules}
use Rattle.std.proofs.lemmas.Int.{to_z-of_z}
use Rattle.std.proofs.lemmas.List.{length-drop}
use Rattle.std.specs.Int.{w64}
use Rattle.pq_delta_reads.specs.Reading.{later, later_of, items, total}
use Rattle.pq_delta_reads.proofs.Steps.{block_none, block_short, block_on, gives_items, no_numbers}
use Rattle.pq_delta_reads.proofs.begin.begin_block.Goals as goal

pub returns-in_default-clause-err : goal.returns-in_default-clause-err
unfolding later
returns-in_default-clause-err c =
    let s = c.args.state.now in
    (refl, rw c.requires.idle.whole (block_none s.miniblocks s.groups s.left s.least s.widths.now s.bytes.now c.requires.idle.some c.requires.none c.in_default.ensures.gives))

pub returns-then-rest-state-clause-err : goal.returns-then-rest-state-clause-err
unfolding later
returns-then-rest-state-clause-err c =
    let s = c.args.state.now in
    (refl, rw c.requires.idle.whole (block_short s.miniblocks s.groups s.left _ s.least s.widths.now s.bytes.now _ c.requires.idle.some c.requires.none c.in-Some.ensures.gives c.if-rest-state.true))

pub returns-clause-keeps : goal.returns-clause-keeps
unfolding later items total
returns-clause-keeps c =
    let s = c.args.state.now in
    let fits : SFits w64 c.from_zigzag-state.result = search rules in
    let least = to_z-of_z w64 c.from_zigzag-state.result fits ∙ c.from_zigzag-state.ensures in
    let tail = c.in-Some.rest.now in
    let e = block_on s.cut s.miniblocks s.groups s.left _ s.least _ s.widths.now c.split_at.result.0.now s.bytes.now tail c.split_at.result.1.now c.requires.idle.whole c.requires.idle.some c.requires.none c.in-Some.ensures.gives c.if-rest-state.false least c.split_at.ensures.front c.split_at.ensures.back in
    let size : ℕ = length s.bytes.now - length tail + s.miniblocks in
    let least' : ℤ = to_z w64 (of_z w64 c.from_zigzag-state.result) in
    let behind = later_of s.cut s.miniblocks s.groups s.least s.widths.now s.left s.bytes.now in
    let behind' = later_of s.cut s.miniblocks s.groups least' c.split_at.result.0.now s.left c.split_at.result.1.now in
    let front = e ∙ no_numbers least' s.width s.standing size s.packed.now behind' c.requires.idle.none in
    let g = gives_items s.latest s.least least' s.buffer s.width s.width s.standing s.standing size s.packed.now s.packed.now behind behind' c.requires.idle.empty c.requires.idle.none front in
    record {
      items = g.0;
      total = omega (arith, g.1, c.in-Some.ensures.shorter, c.if-rest-state.false, c.requires.is.within, ap length c.split_at.ensures.back, length-drop s.miniblocks tail);
      left = refl;
    }
