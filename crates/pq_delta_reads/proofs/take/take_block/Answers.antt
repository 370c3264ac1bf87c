use Rattle.std.proofs.Common.{◌∙◌, ◌++◌, ◌-◌, ap, sym, refl, rules, SFits, ℤ, take}
use Rattle.std.proofs.lemmas.Int.{to_z-of_z}
use Rattle.std.specs.Int.{w64}
use Rattle.pq_runs.specs.DeltaReading.{all}
use Rattle.pq_delta_reads.specs.Blocks.{signed}
use Rattle.pq_delta_reads.specs.Reading.{later, later_of, items, total}
use Rattle.pq_delta_reads.proofs.Adding.{block_items, item_list}
use Rattle.pq_delta_reads.proofs.take.take_block.Goals as goal

pub returns-clause-first : goal.returns-clause-first
unfolding items later
returns-clause-first c =
    let s = c.args.state.now in
    let fits : SFits w64 c.cast_signed-state.result = search rules in
    let latest : SFits w64 s.latest = search rules in
    let least : SFits w64 s.least = search rules in
    let behind = later_of s.cut s.miniblocks s.groups s.least s.widths.now s.left s.bytes.now in
    block_items s.latest s.least s.buffer s.width s.standing c.min-count.result s.packed.now c.skip-state.result.now behind c.unpack_into.new.numbers c.add_up.new.numbers c.requires.empty c.requires.is.are c.min-count.ensures c.requires.some c.unpack_into.ensures (rw (to_z-of_z w64 s.latest latest, to_z-of_z w64 s.least least) at c.add_up.ensures) c.skip-state.ensures
    ∙ ap (λ (z : ℤ). all (signed (take c.min-count.result c.add_up.new.numbers)) ++ item_list z s.least s.buffer s.width (s.standing - c.min-count.result) c.skip-state.result.now behind) (sym (to_z-of_z w64 c.cast_signed-state.result fits ∙ c.cast_signed-state.ensures))

pub returns-clause-total : goal.returns-clause-total
unfolding total later
returns-clause-total c = refl
