use Rattle.std.proofs.Common.{◌≡◌, ◌-◌, ◌++◌, ◌∙◌, List, ℕ, ap, map}
use Rattle.std.specs.Prelude.{flat_map}
use Rattle.columns_slots.specs.Bytes.{pieces_values}
use Rattle.write_places.specs.Places.{range}
use Rattle.write_values.specs.Feeding.{text_of}
use Rattle.write_values.specs.Numbers.{at_place}
use Rattle.write_values.proofs.Fed.{joined_places}
use Rattle.write_values.proofs.StringPlaces.{place_within}
use Rattle.write_values.proofs.pieces.JoiningTaker.take.Goals as goal

pub bytes_between-bytes-requires-clause-within : goal.bytes_between-bytes-requires-clause-within
bytes_between-bytes-requires-clause-within g c =
    let pieces = c.args.self.now.pieces.now in
    place_within pieces.offsets.now pieces.all.now c.args.to pieces.within c.requires.within

pub returns-clause-taken : goal.returns-clause-taken
returns-clause-taken g c = λ first places h.
    let os = first.pieces.now.offsets.now in
    let bs = first.pieces.now.all.now in
    let f = at_place (pieces_values os bs) in
    let new = range c.args.from (c.args.to - c.args.from) in
    let out = c.args.self.now.out.items in
    let here : c.bytes_between-bytes.result.now ≡ flat_map text_of (map f new) = rw (← h.0) c.bytes_between-bytes.ensures in
    (h.0, joined_places f places new first.out.items out c.extend_from_slice.new.self.items h.1 (c.in_ok-extend_from_slice.ensures.items ∙ ap (λ (t : List ℕ). out ++ t) here))
