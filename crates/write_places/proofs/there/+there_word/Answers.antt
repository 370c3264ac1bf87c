use Rattle.std.proofs.Common.{◌≡◌, ◌∷◌, refl}
use Rattle.levels.specs.declared.nested.Nested.TheVariants.{Struct}
use Rattle.write_places.proofs.Bits.{and_bits}
use Rattle.write_places.proofs.there.+there_word.Goals as goal

pub returns-in-Struct-clause-bits : goal.returns-in-Struct-clause-bits
returns-in-Struct-clause-bits t c = λ i h.
    let head : c.args.parts.now ≡ Struct c.in-Struct.mask c.in-Struct.is_optional c.in-Struct.slots ∷ c.in-Some.rest.now = rw (c.in-Some.ensures.cases.0, c.in-Struct.is) refl in
    rw head (and_bits c.mask_word-word.result c.there_word.result i _ _ (c.mask_word-word.ensures.bits i h) (c.there_word.ensures.bits i h))
