use Rattle.std.proofs.Common.{◌≡◌, ◌<◌, refl}
use Rattle.columns_slots.specs.Slots.{tree_len}
use Rattle.nested_paths.specs.LeafNulls.{is_value}
use Rattle.nested_paths.specs.Seen.{leaf_slot}
use Rattle.dictionary_pages.proofs.SeenPaths.{looks_more}
use Rattle.dictionary_pages.proofs.seen_path.LookingEachPlace.take_one.Goals as goal

pub returns-clause-taken : goal.returns-clause-taken
returns-clause-taken c = λ first places h.
    let low : c.args.place < tree_len first.array.now = rw (← h.0) c.requires.within in
    let is : c.has_value.result ≡ is_value (leaf_slot first.array.now c.args.place) = rw (← h.0) c.has_value.ensures in
    (h.0, looks_more first.array.now places c.args.place first.found c.args.self.now.found _ c.has_value.result low refl is h.1)
