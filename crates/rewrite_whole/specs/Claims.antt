-- The pairs that a group claims.
use Rattle.std.specs.Prelude.{ℕ, sum_by}
use Rattle.pq_metadata.specs.Footer.{GroupMeta}
use Rattle.pq_headline.specs.Stages.{claimed}

abbrev pub group_claims : GroupMeta → ℕ
group_claims g = sum_by (λ m. claimed m.num_values) g.chunks
