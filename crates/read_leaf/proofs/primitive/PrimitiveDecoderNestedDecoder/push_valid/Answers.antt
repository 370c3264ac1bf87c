use Rattle.std.proofs.Common.{◌≡◌, ◌+◌, ℕ, inl, inr, true, length, map, take, replicate, refl, arith, ap, ◌∙◌, length-append}
use Rattle.std.proofs.lemmas.List.{length-map, length-take-le, length-replicate}
use Rattle.read_leaf.proofs.NumberSlots.{decoded, too-few, outside}
use Rattle.read_leaf.proofs.primitive.PrimitiveDecoderNestedDecoder.push_valid.Goals as goal

pub returns-then-state-width-clause-err : goal.returns-then-state-width-clause-err
returns-then-state-width-clause-err g c = inr (inl (refl, too-few g.T.FromStored.loaded g.P.StoredNumber.spelled g.P.PlainNumber.byte_count c.args.count c.args.state.now.values.now (rw c.width.ensures at c.if-state-width.true)))

pub returns-in-Err-clause-err : goal.returns-in-Err-clause-err
returns-in-Err-clause-err g c = outside g.T.FromStored.loaded g.P.StoredNumber.spelled g.P.PlainNumber.byte_count 1 c.args.count c.args.state.now.values.now _ c.in-Err.error g.met.P.StoredNumber.some_bytes (rw c.width.ensures at c.if-state-width.false) c.in-Err.ensures.err

pub invariant_of-decoded-in-Ok-push_validities : goal.invariant_of-decoded-in-Ok-push_validities
invariant_of-decoded-in-Ok-push_validities g c = omega (arith, ap length c.in-Ok-push_validities.ensures.ok ∙ length-append c.decoded.inside.validity.0 (replicate c.args.count true), length-replicate c.args.count true, c.len-before.ensures, c.in-Ok.ensures.long)

pub returns-in-Ok-push_validities-clause-ok : goal.returns-in-Ok-push_validities-clause-ok
returns-in-Ok-push_validities-clause-ok g c =
    let number = g.T.FromStored.loaded_number in
    let count : ℕ = c.args.count in
    let valid = c.decoded.inside.validity.0 in
    let n : ℕ = length valid in
    let xs = c.decoded.inside.values.items in
    let ys = c.write_numbers.new.values.items in
    let even : length (map number (take n xs)) ≡ n = length-map (take n xs) number ∙ length-take-le n xs c.decoded.invariant in
    let longer : length c.push_validities.new.validity.0 ≡ n + count = ap length c.in-Ok-push_validities.ensures.ok ∙ (length-append valid (replicate count true) ∙ ap (λ (k : ℕ). n + k) (length-replicate count true)) in
    rw (← c.decoded.view_is) (rw longer (decoded g.T.FromStored.loaded g.P.StoredNumber.spelled g.P.PlainNumber.byte_count count c.args.state.now.values.now c.in-Ok.rest.now (map number (take n xs)) (map number (take (n + count) ys)) valid _ g.met.P.StoredNumber.some_bytes (rw c.width.ensures at c.if-state-width.false) even (rw c.len-before.ensures at c.in-Ok.ensures.ok) c.in-Ok-push_validities.ensures.ok))
