use Rattle.std.proofs.Common.{◌≡◌, ◌+◌, ◌-◌, ◌*◌, ◌/◌, ◌^◌, ◌++◌, ℕ, length, map, take, drop, refl, arith, ap, sym, ◌∙◌}
use Rattle.std.proofs.lemmas.List.{map-append, take_all, length-take, length-drop}
use Rattle.std.proofs.lemmas.Nat.{shr-shr}
use Rattle.columns_core.specs.Bits.{word_bits}
use Rattle.read_walk.specs.Values.{ones}
use Rattle.read_leaf.proofs.BitRuns.{bits_split}
use Rattle.read_leaf.proofs.SetBits.{length-bits, most-ones, ones-append}
use Rattle.read_leaf.proofs.Grouped.{mixed-nothing, mixed-then, put-front, put-length}
use Rattle.read_leaf.proofs.Pairs.{eights-within, done-within}
use Rattle.read_leaf.proofs.primitive.fill_fronts.Goals as goal

pub returns-then-bytes-width-clause-took : goal.returns-then-bytes-width-clause-took
returns-then-bytes-width-clause-took g c =
    let start : g.P.PlainNumber.byte_count * 0 ≡ 0 = omega arith in
    rw start at (mixed-nothing g.T.FromStored.loaded g.P.StoredNumber.spelled g.P.PlainNumber.byte_count c.args.bytes.now)

pub loop-eights-init : goal.loop-eights-init
loop-eights-init g c =
    let whole : c.args.valid / 2 ^ 0 ≡ c.args.valid = omega arith in
    record {
      within = omega arith;
      bits = sym whole;
      count = refl;
      took = mixed-nothing g.T.FromStored.loaded g.P.StoredNumber.spelled g.P.PlainNumber.byte_count c.args.bytes.now;
    }

pub fill_eight-requires-clause-enough : goal.fill_eight-requires-clause-enough
fill_eight-requires-clause-enough g c =
    let size : ℕ = g.P.PlainNumber.byte_count in
    let per : length c.args.bytes.now / c.width.result ≡ length c.args.bytes.now / size = ap (λ (k : ℕ). length c.args.bytes.now / k) c.width.ensures in
    eights-within size c.args.valid (8 * c.loop-eights.eights) c.loop-eights.at (length c.args.places.now) (length c.args.bytes.now) c.loop-eights.invariant.count (omega (arith, c.loop-eights-test.true, c.loop-eights.auto.places)) (omega (arith, per, c.if-bytes-width.false))

pub overflow_add-at : goal.overflow_add-at
overflow_add-at g c = omega (arith, c.count_set-at.ensures, most-ones (word_bits c.loop-eights.word 8), length-bits c.loop-eights.word 8, c.loop-eights.invariant.count, most-ones (word_bits c.args.valid (8 * c.loop-eights.eights)), length-bits c.args.valid (8 * c.loop-eights.eights), c.loop-eights-test.true, c.loop-eights.auto.places, c.well_formed)

pub loop-eights-preserved : goal.loop-eights-preserved
loop-eights-preserved g c =
    let number = g.T.FromStored.loaded_number in
    let size : ℕ = g.P.PlainNumber.byte_count in
    let done : ℕ = (8 * c.loop-eights.eights) in
    let at : ℕ = c.loop-eights.at in
    let word : ℕ = c.loop-eights.word in
    let xs = c.loop-eights.places in
    let ys = c.fill_eight.new.places in
    let v = c.loop-eights.invariant in
    let bytes = c.args.bytes.now in
    let front = word_bits word 8 in
    let bits : word_bits c.args.valid (done + 8) ≡ word_bits c.args.valid done ++ front = bits_split done 8 c.args.valid ∙ ap (λ (w : ℕ). word_bits c.args.valid done ++ word_bits w 8) (sym v.bits) in
    let more : at + c.count_set-at.result ≡ at + ones front = ap (λ (k : ℕ). at + k) c.count_set-at.ensures in
    let eight : length ys ≡ 8 = c.fill_eight.auto.places ∙ (length-take (done + 8 - done) (drop done xs) ∙ omega (arith, length-drop done xs, c.loop-eights-test.true)) in
    let all : take 8 ys ≡ ys = take_all 8 ys (omega (arith, eight)) in
    let places = ap (map number) (put-front done (done + 8 - done) 8 xs ys v.within (omega (arith, eight)) ∙ ap (λ t. take done xs ++ t) all) ∙ map-append number (take done xs) ys in
    let next : done + 8 ≡ 8 * (c.loop-eights.eights + 1) = omega arith in
    let next' : 8 * (c.loop-eights.eights + 1) ≡ done + 8 = omega arith in
    record {
      within = omega (arith, put-length done (done + 8 - done) xs ys v.within, eight);
      bits = c.bits_behind-word.ensures ∙ (ap (λ (w : ℕ). w / 2 ^ 8) v.bits ∙ (shr-shr c.args.valid done 8 ∙ ap (λ (k : ℕ). c.args.valid / 2 ^ k) next));
      count = more ∙ (ap (λ (k : ℕ). k + ones front) v.count ∙ (sym (ap ones bits ∙ ones-append (word_bits c.args.valid done) front) ∙ ap (λ (k : ℕ). ones (word_bits c.args.valid k)) next));
      took = rw (next', bits, more, places) (mixed-then g.T.FromStored.loaded g.P.StoredNumber.spelled size (word_bits c.args.valid done) front bytes (drop (size * at) bytes) (drop (size * (at + ones front)) bytes) (map number (take done xs)) (map number ys) v.took (c.if-not-fill_eight.ensures refl));
    }

pub overflow_mul-width : goal.overflow_mul-width
overflow_mul-width g c =
    let size : ℕ = g.P.PlainNumber.byte_count in
    let at : ℕ = c.loop-eights.at in
    let per : length c.args.bytes.now / c.width.result ≡ length c.args.bytes.now / size = ap (λ (k : ℕ). length c.args.bytes.now / k) c.width.ensures in
    let product : c.width-2.result * at ≡ size * at = ap (λ (k : ℕ). k * at) c.width-2.ensures in
    omega (arith, product, done-within size c.args.valid (8 * c.loop-eights.eights) at (length c.args.places.now) (length c.args.bytes.now) c.loop-eights.invariant.count (omega (arith, c.loop-eights.invariant.within, c.loop-eights.auto.places)) (omega (arith, per, c.if-bytes-width.false)), c.well_formed)

pub skip-requires : goal.skip-requires
skip-requires g c =
    let size : ℕ = g.P.PlainNumber.byte_count in
    let at : ℕ = c.loop-eights.at in
    let per : length c.args.bytes.now / c.width.result ≡ length c.args.bytes.now / size = ap (λ (k : ℕ). length c.args.bytes.now / k) c.width.ensures in
    let product : c.width-2.result * at ≡ size * at = ap (λ (k : ℕ). k * at) c.width-2.ensures in
    omega (arith, product, done-within size c.args.valid (8 * c.loop-eights.eights) at (length c.args.places.now) (length c.args.bytes.now) c.loop-eights.invariant.count (omega (arith, c.loop-eights.invariant.within, c.loop-eights.auto.places)) (omega (arith, per, c.if-bytes-width.false)))
