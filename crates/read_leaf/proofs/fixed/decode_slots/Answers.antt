use Rattle.std.proofs.Common.{◌≡◌, ℕ, length, map, take, arith, ap, sym, ◌∙◌}
use Rattle.std.proofs.lemmas.List.{length-map, length-take-le, take_all}
use Rattle.columns_core.specs.Bits.{word_bits}
use Rattle.read_leaf.specs.Fixed.{stored_fixed}
use Rattle.read_leaf.proofs.MixedValues.{values-decoded, still-even}
use Rattle.read_leaf.proofs.fixed.decode_slots.Goals as goal

pub invariant_of-decoded-in-Ok-extend_from_word : goal.invariant_of-decoded-in-Ok-extend_from_word
invariant_of-decoded-in-Ok-extend_from_word g c =
    let held = g.T.FixedValue.held in
    let valid = c.decoded.inside.validity.0 in
    let n : ℕ = length valid in
    let xs = c.decoded.inside.values.items in
    let cut : c.truncate.new.self.items ≡ take n xs = c.truncate.ensures.items ∙ ap (λ (k : ℕ). take k xs) c.len-before.ensures in
    let even : length (map held (take n xs)) ≡ n = length-map (take n xs) held ∙ length-take-le n xs c.decoded.invariant in
    let took = rw cut at c.in-Ok.ensures.ok in
    let same = sym (length-map c.take_slots.new.values.items held) ∙ still-even (stored_fixed g.T.FixedValue.loaded c.args.size) (word_bits c.args.valid c.args.count) c.args.state.now.values.now c.in-Ok.rest.now (map held (take n xs)) (map held c.take_slots.new.values.items) valid c.extend_from_word.new.self.0 even took c.in-Ok-extend_from_word.ensures.ok in
    omega (arith, same)

pub returns-in-Ok-extend_from_word-clause-ok : goal.returns-in-Ok-extend_from_word-clause-ok
returns-in-Ok-extend_from_word-clause-ok g c =
    let held = g.T.FixedValue.held in
    let valid = c.decoded.inside.validity.0 in
    let n : ℕ = length valid in
    let xs = c.decoded.inside.values.items in
    let ys = c.take_slots.new.values.items in
    let cut : c.truncate.new.self.items ≡ take n xs = c.truncate.ensures.items ∙ ap (λ (k : ℕ). take k xs) c.len-before.ensures in
    let even : length (map held (take n xs)) ≡ n = length-map (take n xs) held ∙ length-take-le n xs c.decoded.invariant in
    let took = rw cut at c.in-Ok.ensures.ok in
    let same = sym (length-map ys held) ∙ still-even (stored_fixed g.T.FixedValue.loaded c.args.size) (word_bits c.args.valid c.args.count) c.args.state.now.values.now c.in-Ok.rest.now (map held (take n xs)) (map held ys) valid c.extend_from_word.new.self.0 even took c.in-Ok-extend_from_word.ensures.ok in
    let whole : take (length c.extend_from_word.new.self.0) ys ≡ ys = take_all (length c.extend_from_word.new.self.0) ys (omega (arith, same)) in
    rw (← c.decoded.view_is) (rw whole (values-decoded (stored_fixed g.T.FixedValue.loaded c.args.size) (word_bits c.args.valid c.args.count) c.args.state.now.values.now c.in-Ok.rest.now (map held (take n xs)) (map held ys) valid c.extend_from_word.new.self.0 even took c.in-Ok-extend_from_word.ensures.ok))
