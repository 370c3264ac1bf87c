use Rattle.std.proofs.Common.{◌≡◌, ◌++◌, ◌+◌, ◌≤◌, ℕ, false, length, map, take, drop, replicate, arith, ap, ◌∙◌, length-append}
use Rattle.std.proofs.lemmas.List.{length-map, map-append, length-take-le, length-drop, length-replicate}
use Rattle.read_leaf.proofs.MixedNumbers.{take_on}
use Rattle.read_leaf.proofs.NumberSlots.{blanks}
use Rattle.read_leaf.proofs.primitive.PrimitiveDecoderNestedDecoder.push_null.Goals as goal

pub returns-in-Ok-push_validities-clause-ok : goal.returns-in-Ok-push_validities-clause-ok
returns-in-Ok-push_validities-clause-ok g c =
    let number = g.T.FromStored.loaded_number in
    let count : ℕ = c.args.count in
    let valid = c.decoded.inside.validity.0 in
    let n : ℕ = length valid in
    let xs = c.decoded.inside.values.items in
    let ys = c.make_places.new.values.items in
    let rest = take count (drop n ys) in
    let long : n + count ≤ length ys = omega (arith, c.in-Ok.ensures.ok, c.len-before.ensures) in
    let some : length rest ≡ count = length-take-le count (drop n ys) (omega (arith, length-drop n ys, long)) in
    let same : take n ys ≡ take n xs = rw c.len-before.ensures at c.make_places.ensures.same in
    let all : take (n + count) ys ≡ take n xs ++ rest = take_on ys n count ∙ ap (λ t. t ++ rest) same in
    let more = ap (map number) all ∙ map-append number (take n xs) rest in
    let even : length (map number (take n xs)) ≡ n = length-map (take n xs) number ∙ length-take-le n xs c.decoded.invariant in
    let longer : length c.push_validities.new.validity.0 ≡ n + count = ap length c.in-Ok-push_validities.ensures.ok ∙ (length-append valid (replicate count false) ∙ ap (λ (k : ℕ). n + k) (length-replicate count false)) in
    rw (← c.decoded.view_is) (rw longer (blanks count (map number (take n xs)) (map number (take (n + count) ys)) (map number rest) valid _ even (length-map rest number ∙ some) more c.in-Ok-push_validities.ensures.ok))
