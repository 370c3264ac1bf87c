use Rattle.std.proofs.Common.{arith}
use Rattle.dictionary_pages.proofs.SeenPaths.{fits_at}
use Rattle.dictionary_pages.proofs.seen_path.merged_path.Goals as goal

pub seen_part-requires-clause-fits : goal.seen_part-requires-clause-fits
seen_part-requires-clause-fits c = fits_at c.args.array.now c.args.nested.now c.loop-part.part-index c.part-item.result (omega (arith, c.loop-part-test.true, c.loop-part.auto.part-index-end)) c.part-item.is c.requires.fits
