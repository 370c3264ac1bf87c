use Rattle.std.proofs.Common.{take, sym}
use Rattle.pq_runs.proofs.Groups.{low_text, front_less}
use Rattle.pq_runs.proofs.group.put_group.Goals as goal

pub returns-clause-put : goal.returns-clause-put
returns-clause-put c =
    let t = low_text c.args.width c.word_of.result _ c.to_le_bytes.result c.requires.fits c.word_of.ensures.below c.to_le_bytes.ensures (sym c.word_of.ensures.value) in
    (take c.args.width c.to_le_bytes.result, front_less c.args.at c.args.width 8 c.args.places.now c.put_bytes.new.places c.to_le_bytes.result c.requires.room c.requires.fits c.put_bytes.ensures.front, t.0, t.1)
