use Rattle.std.proofs.Common.{◌<◌, ℕ, length, map, slice_get, refl, ◌∙◌, arith}
use Rattle.pq_tree.specs.Described.{column_view, descriptor_view}
use Rattle.pq_tree.specs.Views.{chunk_view}
use Rattle.pq_tree.proofs.Describing.{set_same, set_more}
use Rattle.pq_tree.proofs.describe.describe_chunks.Goals as goal

pub loop-place-preserved : goal.loop-place-preserved
loop-place-preserved c =
    let xs = c.loop-place.chunk-items in
    let i = c.loop-place.place in
    let lt : i < length xs = omega arith in
    record {
      same = set_same chunk_view xs i _ c.chunk-item.result refl ∙ c.loop-place.invariant.same;
      described = set_more descriptor_view (λ (k : ℕ). slice_get (map column_view c.args.columns.now) k) xs i _ lt c.loop-place.invariant.described c.in_ok-chunk.ensures.found;
    }
