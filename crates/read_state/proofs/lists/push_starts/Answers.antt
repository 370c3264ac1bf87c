use Rattle.std.proofs.Common.{◌≡◌, ◌+◌, ◌-◌, ◌/◌, ◌<◌, ◌^◌, ℕ, [], ◌∷◌, ◌++◌, count_ones, vec_len, vec_capacity, arith, ap, refl, ◌∙◌}
use Rattle.std.specs.Int.{w64, trailing_zeros, cast_signed, cast_unsigned}
use Rattle.std.proofs.lemmas.List.{map-append}
use Rattle.read_state.specs.Kinds.{start_of, starts_of}
use Rattle.read_state.proofs.Lengths.{start-again}
use Rattle.read_state.proofs.Shifting.{shifting-none, shift-within, shift-room, shift-next, shift-less, shifting-done}
use Rattle.read_state.proofs.lists.push_starts.Goals as goal

pub loop-left-init : goal.loop-left-init
loop-left-init c = rw c.replace-places.ensures.value (shifting-none c.args.first (c.args.first + c.ones_of.result) (starts_of c.args.lengths.now.items) c.args.pushed c.args.grown (vec_len c.args.lengths.now) (vec_capacity c.args.lengths.now) c.ranges.pushed.fits (ap (λ (n : ℕ). c.args.first + n) c.ones_of.ensures.is) c.requires.room)

pub overflow_sub-end : goal.overflow_sub-end
overflow_sub-end c =
    let some : 0 < c.loop-left.left = omega (arith, c.loop-left-test.true) in
    omega (arith, c.ones_of-in-loop-left.ensures.is, shift-within _ _ _ _ _ _ _ _ some c.loop-left.auto.left-fits.fits refl c.loop-left.invariant)

pub push_reserved-requires : goal.push_reserved-requires
push_reserved-requires c =
    let some : 0 < c.loop-left.left = omega (arith, c.loop-left-test.true) in
    omega (arith, shift-room _ _ _ _ _ _ _ _ some c.loop-left.auto.left-fits.fits refl c.loop-left.invariant)

pub loop-left-smaller : goal.loop-left-smaller
loop-left-smaller c =
    let some : 0 < c.loop-left.left = omega (arith, c.loop-left-test.true) in
    shift-less _ _ _ _ _ _ _ _ some c.loop-left.auto.left-fits.fits refl c.loop-left.invariant

pub loop-left-preserved : goal.loop-left-preserved
loop-left-preserved c =
    let some : 0 < c.loop-left.left = omega (arith, c.loop-left-test.true) in
    let t : ℕ = trailing_zeros w64 c.loop-left.left in
    let end : ℕ = c.args.first + c.ones_of.result in
    let here : ℕ = end - count_ones (c.loop-left.above / 2 ^ t) in
    let fits : here < 2 ^ 64 = omega (arith, c.ones_of.ensures.few, c.requires.few) in
    let is : end - c.ones_of-in-loop-left.result ≡ here = ap (λ (n : ℕ). end - n) c.ones_of-in-loop-left.ensures.is in
    let again = start-again here c.length_of.result fits (c.length_of.ensures ∙ is) in
    let more : starts_of c.push_reserved.new.self.items ≡ starts_of c.loop-left.places.items ++ here ∷ [] =
    ap starts_of c.push_reserved.ensures.items ∙ (map-append start_of c.loop-left.places.items (cast_signed w64 (cast_unsigned w64 c.length_of.result) ∷ []) ∙ ap (λ (k : ℕ). starts_of c.loop-left.places.items ++ k ∷ []) again) in
    shift-next _ _ _ _ _ _ _ _ some c.loop-left.auto.left-fits.fits refl c.loop-left.invariant _ _ _ more (omega (arith, c.push_reserved.ensures.len)) (omega (arith, c.push_reserved.ensures.capacity))

pub returns : goal.returns
returns c = rw c.replace.ensures.after (shifting-done _ _ _ _ _ _ _ (omega (arith, c.loop-left-test.false)) c.loop-left.invariant)
