use Rattle.std.proofs.Common.{◌∙◌, ap, refl, SFits, rules, ℤ, pos, ◌+ℤ◌, to_z, of_z}
use Rattle.std.proofs.lemmas.Int.{to_z-of_z}
use Rattle.std.specs.Int.{w64}
use Rattle.pq_runs.specs.Delta.{wrapped}
use Rattle.pq_delta_reads.specs.Reading.{later, later_of, items, total}
use Rattle.pq_delta_reads.proofs.Steps.{take_items}
use Rattle.pq_delta_reads.proofs.take.take.Goals as goal

pub returns-clause-first : goal.returns-clause-first
unfolding items later
returns-clause-first c =
    let s = c.args.state.now in
    let fits : SFits w64 c.next_sum-next.result = search rules in
    let latest : SFits w64 s.latest = search rules in
    let least : SFits w64 s.least = search rules in
    let same = to_z-of_z w64 c.next_sum-next.result fits in
    take_items s.latest s.least _ c.take-number.result s.buffer c.take-number.new.self s.width s.standing s.packed.now (later_of s.cut s.miniblocks s.groups s.least s.widths.now s.left s.bytes.now) c.take-number.ensures (same ∙ c.next_sum-next.ensures ∙ ap (λ (z : ℤ). wrapped w64 (z +ℤ (to_z w64 (of_z w64 s.least) +ℤ pos c.take-number.result))) (to_z-of_z w64 s.latest latest) ∙ ap (λ (z : ℤ). wrapped w64 (s.latest +ℤ (z +ℤ pos c.take-number.result))) (to_z-of_z w64 s.least least))

pub returns-clause-total : goal.returns-clause-total
unfolding total later
returns-clause-total c = refl
