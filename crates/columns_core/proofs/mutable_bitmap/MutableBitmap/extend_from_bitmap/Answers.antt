use Rattle.std.proofs.Common.{◌≡◌, ◌++◌, IfOk, subst, refl, arith}
use Rattle.columns_core.proofs.Bits.{size_seen, seen_part}
use Rattle.columns_core.proofs.mutable_bitmap.MutableBitmap.extend_from_bitmap.Goals as goal

pub overflow_add-bitmap-inside : goal.overflow_add-bitmap-inside
overflow_add-bitmap-inside c = omega (arith, size_seen _ _ _ _ c.bitmap.view_is, c.requires, c.bitmap.invariant)

pub extend_from_slice-requires-clause-within : goal.extend_from_slice-requires-clause-within
extend_from_slice-requires-clause-within c = rw (c.deref-2.ensures.value, c.deref.ensures) (omega (arith, size_seen _ _ _ _ c.bitmap.view_is, c.requires, c.bitmap.invariant.0))

pub extend_from_slice-requires-clause-counted : goal.extend_from_slice-requires-clause-counted
extend_from_slice-requires-clause-counted c = omega (arith, size_seen _ _ _ _ c.bitmap.view_is, c.requires, c.bitmap.invariant.1)

pub returns-clause-ok : goal.returns-clause-ok
returns-clause-ok c =
    subst (λ v. IfOk c.extend_from_slice.result (λ x. c.extend_from_slice.new.self.0 ≡ c.args.self.now.0 ++ v))
    (seen_part c.bitmap.inside.bytes.value.items c.deref-2.result.now c.bitmap.inside.offset c.bitmap.inside.size c.args.bitmap.now c.args.offset c.args.length (rw (c.deref-2.ensures.value, c.deref.ensures) refl) c.bitmap.view_is c.requires) c.extend_from_slice.ensures.ok
