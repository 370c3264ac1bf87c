use Rattle.std.proofs.lemmas.Result.{err_from_is_err_and}
use Rattle.pq_metadata.specs.Footer.{SpellsChunk}
use Rattle.pq_container.proofs.Eachs.{each_refused}
use Rattle.pq_container.proofs.chunks.chunks_from.Goals as goal

pub returns-in_err-chunk_from-clause-refused : goal.returns-in_err-chunk_from-clause-refused
returns-in_err-chunk_from-clause-refused c =
    let p = err_from_is_err_and c.from_residual.result c.from_residual.ensures.1 in
    rw (p.1, p.2) (each_refused SpellsChunk _ _ c.args.values.now c.loop-value.value-index c.value-item.result c.loop-value-test.true c.value-item.is c.in_err-chunk_from.ensures.refused)
