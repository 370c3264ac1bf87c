use Rattle.std.proofs.Common.{[], ◌∷◌, refl, arith}
use Rattle.std.specs.Prelude.{slice_index_or}
use Rattle.level_sections.proofs.Texts.{put_four}
use Rattle.level_sections.proofs.prefix.put_number.Goals as goal

pub returns : goal.returns
returns c =
    let bytes = c.to_le_bytes.result in
    λ front four back n k is. (
      slice_index_or bytes 0 0 ∷ slice_index_or bytes 1 0 ∷ slice_index_or bytes 2 0 ∷ slice_index_or bytes 3 0 ∷ [],
      refl,
      rw c.to_le_bytes.ensures (omega arith),
      put_four c.args.buffer.now.items front four back c.args.at _ _ _ _ n k is,
    )
