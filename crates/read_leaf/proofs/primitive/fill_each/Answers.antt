use Rattle.std.proofs.Common.{◌≡◌, ◌+◌, ◌-◌, ◌*◌, ◌<◌, ◌≤◌, ◌∷◌, ◌++◌, ℕ, [], length, map, take, drop, set, arith, ap, sym, subst, refl, ◌∙◌}
use Rattle.std.specs.Int.{w64, trailing_zeros, bit_at}
use Rattle.std.proofs.lemmas.List.{map-append, take_more_set, length-set, length-map, length-take, length-drop, take_all}
use Rattle.std.proofs.lemmas.Nat.Bits.{bit_at-zero, bit_at-trailing_zeros}
use Rattle.columns_core.specs.Bits.{word_bits}
use Rattle.read_walk.specs.Values.{ones}
use Rattle.read_leaf.proofs.MixedNumbers.{filling-none, fill-over, fill-enough, fill-outside, fill-more, fill-rest, take_on}
use Rattle.read_leaf.proofs.primitive.fill_each.Goals as goal

pub loop-bits-init : goal.loop-bits-init
loop-bits-init g c = filling-none g.T.FromStored.loaded g.P.StoredNumber.spelled g.P.PlainNumber.byte_count c.args.valid (length c.args.places.now) c.args.bytes.now (λ (k : ℕ). map g.T.FromStored.loaded_number (take k c.args.places.now)) refl

pub load-requires : goal.load-requires
load-requires g c =
    let number = g.T.FromStored.loaded_number in
    let size : ℕ = g.P.PlainNumber.byte_count in
    let xs = c.loop-bits.places in
    let bits : ℕ = c.loop-bits.bits in
    let t : ℕ = trailing_zeros w64 bits in
    let f = c.loop-bits.invariant in
    let front = λ (k : ℕ). map number (take k xs) in
    let inside : t < length xs = omega (arith, c.if-places-at.false) in
    let ys = map number (take (t - f.i) (drop f.i xs)) in
    let made : length ys ≡ t - f.i = length-map (take (t - f.i) (drop f.i xs)) number ∙ (length-take (t - f.i) (drop f.i xs) ∙ omega (arith, length-drop f.i xs, inside)) in
    let some : 0 < bits = omega (arith, c.loop-bits-test.true) in
    let enough : size * ones (word_bits c.args.valid (length xs)) ≤ length c.args.bytes.now = subst (λ (k : ℕ). size * ones (word_bits c.args.valid k) ≤ length c.args.bytes.now) (sym c.loop-bits.auto.places) c.requires.enough in
    fill-enough g.T.FromStored.loaded g.P.StoredNumber.spelled size c.args.valid (length xs) bits t c.args.bytes.now c.loop-bits.rest.now front ys some c.loop-bits.auto.bits-fits.fits refl inside f made enough

pub skip-rest-requires : goal.skip-rest-requires
skip-rest-requires g c =
    let number = g.T.FromStored.loaded_number in
    let size : ℕ = g.P.PlainNumber.byte_count in
    let xs = c.loop-bits.places in
    let bits : ℕ = c.loop-bits.bits in
    let t : ℕ = trailing_zeros w64 bits in
    let f = c.loop-bits.invariant in
    let front = λ (k : ℕ). map number (take k xs) in
    let inside : t < length xs = omega (arith, c.if-places-at.false) in
    let ys = map number (take (t - f.i) (drop f.i xs)) in
    let made : length ys ≡ t - f.i = length-map (take (t - f.i) (drop f.i xs)) number ∙ (length-take (t - f.i) (drop f.i xs) ∙ omega (arith, length-drop f.i xs, inside)) in
    let some : 0 < bits = omega (arith, c.loop-bits-test.true) in
    let enough : size * ones (word_bits c.args.valid (length xs)) ≤ length c.args.bytes.now = subst (λ (k : ℕ). size * ones (word_bits c.args.valid k) ≤ length c.args.bytes.now) (sym c.loop-bits.auto.places) c.requires.enough in
    rw c.width.ensures (fill-enough g.T.FromStored.loaded g.P.StoredNumber.spelled size c.args.valid (length xs) bits t c.args.bytes.now c.loop-bits.rest.now front ys some c.loop-bits.auto.bits-fits.fits refl inside f made enough)

pub returns-in-None : goal.returns-in-None
returns-in-None g c =
    let number = g.T.FromStored.loaded_number in
    let size : ℕ = g.P.PlainNumber.byte_count in
    let xs = c.loop-bits.places in
    let bits : ℕ = c.loop-bits.bits in
    let t : ℕ = trailing_zeros w64 bits in
    let f = c.loop-bits.invariant in
    let front = λ (k : ℕ). map number (take k xs) in
    let inside : t < length xs = omega (arith, c.if-places-at.false) in
    let ys = map number (take (t - f.i) (drop f.i xs)) in
    let made : length ys ≡ t - f.i = length-map (take (t - f.i) (drop f.i xs)) number ∙ (length-take (t - f.i) (drop f.i xs) ∙ omega (arith, length-drop f.i xs, inside)) in
    let some : 0 < bits = omega (arith, c.loop-bits-test.true) in
    rw c.loop-bits.auto.places at (fill-outside g.T.FromStored.loaded g.P.StoredNumber.spelled size c.args.valid (length xs) bits t c.args.bytes.now c.loop-bits.rest.now front ys some c.loop-bits.auto.bits-fits.fits refl inside f made c.in-None.ensures)

pub loop-bits-preserved : goal.loop-bits-preserved
loop-bits-preserved g c =
    let number = g.T.FromStored.loaded_number in
    let size : ℕ = g.P.PlainNumber.byte_count in
    let xs = c.loop-bits.places in
    let bits : ℕ = c.loop-bits.bits in
    let t : ℕ = trailing_zeros w64 bits in
    let f = c.loop-bits.invariant in
    let front = λ (k : ℕ). map number (take k xs) in
    let inside : t < length xs = omega (arith, c.if-places-at.false) in
    let ys = map number (take (t - f.i) (drop f.i xs)) in
    let made : length ys ≡ t - f.i = length-map (take (t - f.i) (drop f.i xs)) number ∙ (length-take (t - f.i) (drop f.i xs) ∙ omega (arith, length-drop f.i xs, inside)) in
    let some : 0 < bits = omega (arith, c.loop-bits-test.true) in
    let over = fill-over g.T.FromStored.loaded g.P.StoredNumber.spelled size c.args.valid (length xs) bits t c.args.bytes.now c.loop-bits.rest.now front ys some c.loop-bits.auto.bits-fits.fits refl inside f made in
    let here : f.i + (t - f.i) ≡ t = omega (arith, over) in
    let front' = λ (k : ℕ). map number (take k (set xs t c.in-Some.number)) in
    let placed = ap (map number) (take_more_set xs t c.in-Some.number inside ∙ ap (λ ys. ys ++ c.in-Some.number ∷ []) (ap (λ (k : ℕ). take k xs) (sym here) ∙ take_on xs f.i (t - f.i))) ∙ (map-append number (take f.i xs ++ take (t - f.i) (drop f.i xs)) (c.in-Some.number ∷ []) ∙ ap (λ zs. zs ++ number c.in-Some.number ∷ []) (map-append number (take f.i xs) (take (t - f.i) (drop f.i xs)))) in
    rw length-set (fill-more g.T.FromStored.loaded g.P.StoredNumber.spelled size c.args.valid (length xs) bits t c.args.bytes.now c.loop-bits.rest.now front ys some c.loop-bits.auto.bits-fits.fits refl inside f made c.skip-rest.result.now front' (number c.in-Some.number) c.in-Some.ensures (rw c.width.ensures at c.skip-rest.ensures) placed)

pub returns-then-places-at : goal.returns-then-places-at
returns-then-places-at g c =
    let number = g.T.FromStored.loaded_number in
    let size : ℕ = g.P.PlainNumber.byte_count in
    let xs = c.loop-bits.places in
    let f = c.loop-bits.invariant in
    let n : ℕ = length xs in
    let front = λ (k : ℕ). map number (take k xs) in
    let ys = map number (take (n - f.i) (drop f.i xs)) in
    let made : length ys ≡ n - f.i = length-map (take (n - f.i) (drop f.i xs)) number ∙ (length-take (n - f.i) (drop f.i xs) ∙ omega (arith, length-drop f.i xs)) in
    let whole : f.i + (n - f.i) ≡ n = omega (arith, f.within) in
    let all : map number xs ≡ map number (take f.i xs) ++ ys = ap (map number) (sym (take_all n xs (omega arith)) ∙ (ap (λ (k : ℕ). take k xs) (sym whole) ∙ take_on xs f.i (n - f.i))) ∙ map-append number (take f.i xs) (take (n - f.i) (drop f.i xs)) in
    let some : 0 < c.loop-bits.bits = omega (arith, c.loop-bits-test.true) in
    let none : (j : ℕ) → j < n → bit_at c.loop-bits.bits j ≡ 0 = λ j h. (bit_at-trailing_zeros w64 c.loop-bits.bits some c.loop-bits.auto.bits-fits.fits).2 j (omega (arith, h, c.if-places-at.true)) in
    rw c.loop-bits.auto.places at (fill-rest g.T.FromStored.loaded g.P.StoredNumber.spelled size c.args.valid n c.loop-bits.bits c.args.bytes.now c.loop-bits.rest.now front ys (map number xs) f made none all)

pub returns : goal.returns
returns g c =
    let zero : c.loop-bits.bits ≡ 0 = omega (arith, c.loop-bits-test.false) in
    let number = g.T.FromStored.loaded_number in
    let size : ℕ = g.P.PlainNumber.byte_count in
    let xs = c.loop-bits.places in
    let f = c.loop-bits.invariant in
    let n : ℕ = length xs in
    let front = λ (k : ℕ). map number (take k xs) in
    let ys = map number (take (n - f.i) (drop f.i xs)) in
    let made : length ys ≡ n - f.i = length-map (take (n - f.i) (drop f.i xs)) number ∙ (length-take (n - f.i) (drop f.i xs) ∙ omega (arith, length-drop f.i xs)) in
    let whole : f.i + (n - f.i) ≡ n = omega (arith, f.within) in
    let all : map number xs ≡ map number (take f.i xs) ++ ys = ap (map number) (sym (take_all n xs (omega arith)) ∙ (ap (λ (k : ℕ). take k xs) (sym whole) ∙ take_on xs f.i (n - f.i))) ∙ map-append number (take f.i xs) (take (n - f.i) (drop f.i xs)) in
    let none : (j : ℕ) → j < n → bit_at c.loop-bits.bits j ≡ 0 = λ j h. ap (λ (k : ℕ). bit_at k j) zero ∙ bit_at-zero j in
    rw c.loop-bits.auto.places at (fill-rest g.T.FromStored.loaded g.P.StoredNumber.spelled size c.args.valid n c.loop-bits.bits c.args.bytes.now c.loop-bits.rest.now front ys (map number xs) f made none all)
