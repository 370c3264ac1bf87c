use Rattle.std.proofs.Common.{◌≡◌, ℕ, ◌%◌, ◌^◌, ap, ◌∙◌, SFits, to_z, of_z, rules}
use Rattle.std.proofs.lemmas.Int.{to_z-of_z}
use Rattle.std.specs.Int.{w32, w64}
use Rattle.pq_deltas.proofs.DeltaSteps.{low_wraps}
use Rattle.pq_deltas.proofs.delta_encode.low_32.Goals as goal

pub returns : goal.returns
returns c =
    let held : SFits w32 c.cast_signed.result = search rules in
    let same : c.cast_unsigned.result ≡ of_z w64 c.args.number = c.cast_unsigned.ensures ∙ ap (of_z w64) (to_z-of_z w64 c.args.number c.ranges.number) in
    to_z-of_z w32 c.cast_signed.result held ∙ c.cast_signed.ensures ∙ ap (λ (n : ℕ). to_z w32 (n % 2 ^ 32)) same ∙ low_wraps c.args.number c.ranges.number
