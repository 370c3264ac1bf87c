use Rattle.std.proofs.Common.{◌≡◌, map}
use Rattle.write_places.specs.Places.{range}
use Rattle.dictionary_pages.specs.Seen.{seen_at}
use Rattle.dictionary_pages.proofs.seen_path.seen_mask.Given as goal

abbrev pub invariant-loop-i : goal.invariant-loop-i
invariant-loop-i l = l.seen.0 ≡ map (seen_at l.array l.mask) (range 0 l.i)
