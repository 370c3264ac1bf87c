use Rattle.std.proofs.Common.{ℕ, ◌-◌, ◌/◌, refl, arith, SFits, rules}
use Rattle.std.proofs.lemmas.Int.{to_z-of_z}
use Rattle.std.specs.Int.{w64}
use Rattle.pq_delta_reads.specs.Decoding.{decoding}
use Rattle.pq_delta_reads.specs.Reading.{head_of, later, items, total}
use Rattle.pq_delta_reads.proofs.Steps.{starts}
use Rattle.pq_delta_reads.proofs.decoder.begin_state.Goals as goal

pub returns-clause-begun : goal.returns-clause-begun
unfolding decoding items total later
returns-clause-begun c =
    let h = c.args.head.now in
    let fits : SFits w64 h.first = search rules in
    let same = to_z-of_z w64 h.first fits in
    let q : ℕ = h.size / h.miniblocks / 8 in
    let s = starts (head_of h c.args.body.now) c.min-standing.result (h.count - c.min-standing.result) q c.min-standing.ensures refl refl in
    rw (same, c.new.ensures) (record {
      items = s.items;
      left = omega (arith, c.min-standing.ensures);
      taken = omega arith;
      total = omega (arith, s.taken);
    })
