use Rattle.std.proofs.Common.{ℕ, ℤ, List, drop}
use Rattle.pq_delta_reads.specs.Read.{IsRead}
use Rattle.pq_delta_reads.proofs.Copying.{Copying}
use Rattle.pq_delta_reads.proofs.strings.push_plain_strings.Given as goal

abbrev pub invariant-loop-item : goal.invariant-loop-item
invariant-loop-item l = (size : ℕ) (zs : List ℤ) → IsRead l.section size zs → Copying l.fn.out.items l.out.items zs (drop size l.section) l.decoder.items l.bytes

abbrev pub decreases-loop-item : goal.decreases-loop-item
decreases-loop-item l = l.decoder.left
