use Rattle.std.proofs.Common.{◌≡◌, ◌+◌, ◌-◌, refl, sym, ap, ◌∙◌, arith}
use Rattle.columns_core.specs.Bits.{bit_of}
use Rattle.columns_core.proofs.Bits.{size_seen, bit_there}
use Rattle.columns_core.proofs.bitmap.Bitmap.run_end.Goals as goal

pub overflow_add-self-inside : goal.overflow_add-self-inside
overflow_add-self-inside c = omega (arith, size_seen _ _ _ _ c.self.view_is, c.requires, c.self.invariant)

pub overflow_add-self-inside-2 : goal.overflow_add-self-inside-2
overflow_add-self-inside-2 c = omega (arith, size_seen _ _ _ _ c.self.view_is, c.requires, c.self.invariant)

pub run_end_in-requires-clause-within : goal.run_end_in-requires-clause-within
run_end_in-requires-clause-within c = rw (c.deref-2.ensures.value, c.deref.ensures) (omega (arith, size_seen _ _ _ _ c.self.view_is, c.requires.within, c.self.invariant.0))

pub returns-clause-alike : goal.returns-clause-alike
returns-clause-alike c =
    λ i a b.
    sym
    (bit_there c.self.inside.bytes.value.items c.deref-2.result.now c.self.inside.offset c.self.inside.size c.args.self.now i (bit_of c.deref-2.result.now (c.self.inside.offset + i))
    (rw (c.deref-2.ensures.value, c.deref.ensures) refl) c.self.view_is (omega (arith, b, c.run_end_in.ensures.within, size_seen _ _ _ _ c.self.view_is, c.requires.within)) refl)
    ∙ c.run_end_in.ensures.alike (c.self.inside.offset + i) (omega (arith, a)) (omega (arith, b))

pub returns-clause-ended : goal.returns-clause-ended
returns-clause-ended c =
    λ h e.
    let r : c.self.inside.offset + (c.run_end_in.result - c.self.inside.offset) ≡ c.run_end_in.result = omega (arith, c.run_end_in.ensures.after) in
    c.run_end_in.ensures.ended (omega (arith, h))
    (bit_there c.self.inside.bytes.value.items c.deref-2.result.now c.self.inside.offset c.self.inside.size c.args.self.now (c.run_end_in.result - c.self.inside.offset) (bit_of c.deref-2.result.now c.run_end_in.result)
    (rw (c.deref-2.ensures.value, c.deref.ensures) refl) c.self.view_is (omega (arith, h, size_seen _ _ _ _ c.self.view_is, c.requires.within)) (sym (ap (bit_of c.deref-2.result.now) r)) ∙ e)
