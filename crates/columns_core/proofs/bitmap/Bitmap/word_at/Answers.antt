use Rattle.std.proofs.Common.{◌≡◌, ◌+◌, refl, sym, ap, ◌∙◌, arith}
use Rattle.columns_core.specs.Bits.{bit_of}
use Rattle.columns_core.proofs.Bits.{size_seen, bit_there}
use Rattle.columns_core.proofs.bitmap.Bitmap.word_at.Goals as goal

pub overflow_add-self-inside : goal.overflow_add-self-inside
overflow_add-self-inside c = omega (arith, size_seen _ _ _ _ c.self.view_is, c.requires.within, c.self.invariant)

pub bits_in-requires-clause-within : goal.bits_in-requires-clause-within
bits_in-requires-clause-within c = rw (c.deref-2.ensures.value, c.deref.ensures) (omega (arith, size_seen _ _ _ _ c.self.view_is, c.requires.within, c.self.invariant.0))

pub returns-clause-bits : goal.returns-clause-bits
returns-clause-bits c =
    λ i h.
    let p : c.self.inside.offset + c.args.from + i ≡ c.self.inside.offset + (c.args.from + i) = omega arith in
    bit_there c.self.inside.bytes.value.items c.deref-2.result.now c.self.inside.offset c.self.inside.size c.args.self.now (c.args.from + i) _ (rw (c.deref-2.ensures.value, c.deref.ensures) refl) c.self.view_is
    (omega (arith, h, size_seen _ _ _ _ c.self.view_is, c.requires.within)) (c.bits_in.ensures.bits i h ∙ ap (bit_of c.deref-2.result.now) p)
