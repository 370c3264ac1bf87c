use Rattle.std.proofs.Common.{◌≡◌, ◌+◌, arith, rules, SFits, to_z, of_z}
use Rattle.std.specs.Int.{w32}
use Rattle.std.proofs.lemmas.Int.{to_z-of_z}
use Rattle.pq_runs.proofs.Steps.{finished}
use Rattle.write_values.proofs.Fed.{feeds_length}
use Rattle.write_values.proofs.StringPlaces.{place_within}
use Rattle.write_values.proofs.pieces.PiecesDeltaValues.push_one.Goals as goal

pub string_at-string-requires-clause-within : goal.string_at-string-requires-clause-within
string_at-string-requires-clause-within g c = place_within c.args.self.now.offsets.now c.args.self.now.all.now (c.args.i + 1) c.args.self.now.within (omega (arith, c.requires))

pub returns : goal.returns
returns g c =
    let held : SFits w32 c.cast_signed.result = search rules in
    let same : to_z w32 (of_z w32 c.cast_signed.result) ≡ c.cast_signed.result = to_z-of_z w32 c.cast_signed.result held in
    finished c.push_i32.result (λ h. feeds_length _ _ _ _ _ c.string_at-string.result.now _ c.string_at-string.ensures.is c.cast_signed.ensures (rw same at h)) c.push_i32.ensures.ok
