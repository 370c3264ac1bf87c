use Rattle.std.proofs.Common.{◌≡◌, ◌+◌, ℕ, length, map, take, arith, ap, ◌∙◌, length-append}
use Rattle.std.proofs.lemmas.List.{length-map, length-take-le}
use Rattle.columns_core.specs.Bits.{word_bits}
use Rattle.read_walk.specs.Values.{ones}
use Rattle.read_leaf.proofs.NumberSlots.{outside}
use Rattle.read_leaf.proofs.MixedNumbers.{mixed-decoded}
use Rattle.read_leaf.proofs.SetBits.{length-bits}
use Rattle.read_leaf.proofs.primitive.decode_mixed.Goals as goal

pub returns-in-Err-clause-err : goal.returns-in-Err-clause-err
returns-in-Err-clause-err g c = outside g.T.FromStored.loaded g.P.StoredNumber.spelled g.P.PlainNumber.byte_count 1 (ones (word_bits c.args.valid c.args.count)) c.args.state.now.values.now _ c.in-Err.error g.met.P.StoredNumber.some_bytes c.requires.enough c.in-Err.ensures.err

pub invariant_of-decoded-in-Ok-extend_from_word : goal.invariant_of-decoded-in-Ok-extend_from_word
invariant_of-decoded-in-Ok-extend_from_word g c = omega (arith, ap length c.in-Ok-extend_from_word.ensures.ok ∙ length-append c.decoded.inside.validity.0 (word_bits c.args.valid c.args.count), length-bits c.args.valid c.args.count, c.len-before.ensures, c.in-Ok.ensures.long)

pub returns-in-Ok-extend_from_word-clause-ok : goal.returns-in-Ok-extend_from_word-clause-ok
returns-in-Ok-extend_from_word-clause-ok g c =
    let number = g.T.FromStored.loaded_number in
    let count : ℕ = c.args.count in
    let bits = word_bits c.args.valid count in
    let valid = c.decoded.inside.validity.0 in
    let n : ℕ = length valid in
    let xs = c.decoded.inside.values.items in
    let ys = c.write_mixed.new.values.items in
    let even : length (map number (take n xs)) ≡ n = length-map (take n xs) number ∙ length-take-le n xs c.decoded.invariant in
    let longer : length c.extend_from_word.new.self.0 ≡ n + count = ap length c.in-Ok-extend_from_word.ensures.ok ∙ (length-append valid bits ∙ ap (λ (k : ℕ). n + k) (length-bits c.args.valid count)) in
    rw (← c.decoded.view_is) (rw longer (mixed-decoded g.T.FromStored.loaded g.P.StoredNumber.spelled g.P.PlainNumber.byte_count bits c.args.state.now.values.now c.in-Ok.rest.now (map number (take n xs)) (map number (take (n + count) ys)) valid c.extend_from_word.new.self.0 g.met.P.StoredNumber.some_bytes c.requires.enough even (rw c.len-before.ensures at c.in-Ok.ensures.ok) c.in-Ok-extend_from_word.ensures.ok))
