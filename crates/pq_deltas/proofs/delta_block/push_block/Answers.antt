use Rattle.std.proofs.Common.{◌≡◌, ℕ, ℤ, pos, ◌+ℤ◌, SFits, to_z, of_z, List, ◌++◌, map, arith, rules, ap, subst, ◌∙◌}
use Rattle.std.proofs.lemmas.Int.{to_z-of_z}
use Rattle.std.specs.Int.{w64}
use Rattle.pq_numbers.specs.Varint.{varint}
use Rattle.pq_numbers.specs.Zigzag.{zigzag}
use Rattle.pq_runs.proofs.DeltaParts.{is_block, zigzag_fits, three_parts}
use Rattle.pq_runs.proofs.Steps.{finished}
use Rattle.pq_deltas.proofs.delta_block.push_block.Goals as goal

pub returns-clause-ok : goal.returns-clause-ok
returns-clause-ok c =
    let least : ℤ = c.least_of-least.result in
    let fits : SFits w64 least = search rules in
    let e : to_z w64 (of_z w64 least) ≡ least = to_z-of_z w64 least fits in
    let are : map (λ m. least +ℤ pos m) c.rises.new.out ≡ c.args.deltas.now = subst (λ (z : ℤ). map (λ m. z +ℤ pos m) c.rises.new.out ≡ c.args.deltas.now) e c.rises.ensures in
    let head : List ℕ = varint (zigzag least) in
    let number : c.to_zigzag.result ≡ zigzag least = c.to_zigzag.ensures ∙ ap zigzag e in
    let first : c.push_varint.new.out.items ≡ c.args.out.now.items ++ head = c.in_ok-push_varint.ensures.ok ∙ ap (λ (n : ℕ). c.args.out.now.items ++ varint n) number in
    finished c.push_miniblocks.result (λ z. (
      head ++ (c.widths_of-widths.result ++ z.0),
      three_parts c.args.out.now.items c.push_varint.new.out.items c.extend_from_slice.new.self.items c.push_miniblocks.new.out.items head c.widths_of-widths.result z.0 first c.in_ok-extend_from_slice.ensures.items z.1,
      λ v range. is_block v least c.widths_of-widths.result z.0 c.rises.new.out c.args.deltas.now c.widths_of-widths.ensures.four range c.least_of-least.ensures.one are z.2 (zigzag_fits w64 least (omega arith) fits) z.3,
    )) c.push_miniblocks.ensures.ok
