use Rattle.std.proofs.Common.{◌≡◌, ◌+◌, ◌++◌, map}
use Rattle.std.specs.Prelude.{flat_map}
use Rattle.columns_slots.specs.Bytes.{pieces_values}
use Rattle.write_places.specs.Places.{picked}
use Rattle.write_values.specs.Feeding.{text_of}
use Rattle.write_values.specs.Numbers.{at_place}
use Rattle.write_values.proofs.Fed.{joined_places}
use Rattle.write_values.proofs.StringPlaces.{place_within}
use Rattle.write_values.proofs.pieces.JoiningTaker.take_some.Goals as goal

pub push_picked-requires-clause-within : goal.push_picked-requires-clause-within
push_picked-requires-clause-within g c =
    let pieces = c.args.self.now.pieces.now in
    place_within pieces.offsets.now pieces.all.now (c.args.from + c.args.count) pieces.within c.requires.within

pub returns-clause-taken : goal.returns-clause-taken
returns-clause-taken g c = λ first places h.
    let os = first.pieces.now.offsets.now in
    let bs = first.pieces.now.all.now in
    let f = at_place (pieces_values os bs) in
    let new = picked c.args.bits c.args.from c.args.count in
    let here : c.push_picked.new.out.items ≡ c.args.self.now.out.items ++ flat_map text_of (map f new) = rw (← h.0) c.in_ok-push_picked.ensures in
    (h.0, joined_places f places new first.out.items c.args.self.now.out.items c.push_picked.new.out.items h.1 here)
