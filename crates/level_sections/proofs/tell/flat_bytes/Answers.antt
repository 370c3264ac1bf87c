use Rattle.std.proofs.Common.{◌≡◌, ◌+◌, ◌∙◌, ℕ, ap, arith}
use Rattle.std.proofs.lemmas.Nat.Bits.{bit_at-zero}
use Rattle.levels.specs.Nested.{parts_of}
use Rattle.level_sections.specs.Blocks.{flat_level}
use Rattle.level_sections.specs.Planes.{plane_number}
use Rattle.level_sections.proofs.Bytes.{flat-zero}
use Rattle.level_sections.proofs.PlaneNumbers.{planes-from}
use Rattle.level_sections.proofs.tell.flat_bytes.Goals as goal

pub with_parts-planes-requires-clause-low : goal.with_parts-planes-requires-clause-low
with_parts-planes-requires-clause-low c = λ i h. omega (arith, c.one_plane.ensures i, bit_at-zero i, c.requires.parts)

pub returns : goal.returns
returns c =
    c.bytes_of.ensures
    ∙ planes-from (flat_level (parts_of c.args.parts.now) c.args.def) c.args.def c.with_parts-planes.result 0 c.args.place c.args.count
    (λ i h.
    let here : 0 + i ≡ i = omega arith in
    ap (λ (k : ℕ). c.args.def + plane_number c.with_parts-planes.result k) here ∙ (c.with_parts-planes.ensures i h c.args.def ∙ flat-zero (parts_of c.args.parts.now) c.args.def _ _ i (c.args.place + i) (c.one_plane.ensures i ∙ bit_at-zero i) (c.full_word.ensures i h)))
