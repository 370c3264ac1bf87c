use Rattle.std.proofs.Common.{◌≡◌, ◌∷◌, ◌+◌, ◌*◌, ◌/◌, ◌^◌, ◌<◌, ℕ, [], length, map, take, drop, set, arith, ap, ap₂, subst, ◌∙◌}
use Rattle.std.proofs.lemmas.List.{map-append, take_more_set, take_all, length-drop}
use Rattle.std.proofs.lemmas.Nat.{shr-shr}
use Rattle.columns_core.specs.Bits.{word_bits}
use Rattle.read_walk.specs.Values.{ones}
use Rattle.read_leaf.proofs.Grouped.{slot-read, slot-within}
use Rattle.read_leaf.specs.Numbers.{TookMixed}
use Rattle.read_leaf.proofs.MixedNumbers.{IsMixing, mixing-none, mixing-more, mixing-done}
use Rattle.read_leaf.proofs.primitive.spread_eight.Goals as goal

pub loop-i-init : goal.loop-i-init
loop-i-init g c =
    let whole : c.args.word / 2 ^ 0 ≡ c.args.word = omega arith in
    let start : g.P.PlainNumber.byte_count * 0 ≡ 0 = omega arith in
    rw (whole, start) (mixing-none g.T.FromStored.loaded g.P.StoredNumber.spelled g.P.PlainNumber.byte_count c.args.word 8 c.args.source.now)

pub loop-i-preserved : goal.loop-i-preserved
loop-i-preserved g c =
    let number = g.T.FromStored.loaded_number in
    let size : ℕ = g.P.PlainNumber.byte_count in
    let i : ℕ = c.loop-i.i in
    let xs = c.loop-i.places in
    let word : ℕ = c.args.word in
    let source = c.args.source.now in
    let there : i < length xs = omega (arith, c.loop-i-test.true, c.loop-i.auto.places, c.requires.eight) in
    let place = c.skip.ensures ∙ ap₂ (λ (a b : ℕ). drop (a * b) source) c.width.ensures c.count_set-at.ensures in
    let more = ap (map number) (take_more_set xs i c.in-Some.number there) ∙ map-append number (take i xs) (c.in-Some.number ∷ []) in
    subst (λ (w : ℕ). IsMixing g.T.FromStored.loaded g.P.StoredNumber.spelled size word 8 (i + 1) w source (drop (size * ones (word_bits word (i + 1))) source) (map number (take (i + 1) (set xs i c.in-Some.number)))) (shr-shr word i 1) (mixing-more g.T.FromStored.loaded g.P.StoredNumber.spelled size word 8 i (word / 2 ^ i) source (drop (size * ones (word_bits word i)) source) (drop (size * ones (word_bits word (i + 1))) source) _ _ (number c.in-Some.number) (omega (arith, c.loop-i-test.true)) c.loop-i.invariant (slot-read g.T.FromStored.loaded g.P.StoredNumber.spelled size word i source (number c.in-Some.number) (rw place at c.in-Some.ensures)) more)

pub overflow_mul-width : goal.overflow_mul-width
overflow_mul-width g c =
    let size : ℕ = g.P.PlainNumber.byte_count in
    let product : c.width.result * c.count_set-at.result ≡ size * ones (word_bits c.args.word c.loop-i.i) = ap₂ (λ (a b : ℕ). a * b) c.width.ensures c.count_set-at.ensures in
    omega (arith, product, slot-within size c.args.word c.loop-i.i (length c.args.source.now) (omega (arith, c.loop-i-test.true)) c.requires.enough, c.well_formed)

pub skip-requires : goal.skip-requires
skip-requires g c =
    let size : ℕ = g.P.PlainNumber.byte_count in
    let product : c.width.result * c.count_set-at.result ≡ size * ones (word_bits c.args.word c.loop-i.i) = ap₂ (λ (a b : ℕ). a * b) c.width.ensures c.count_set-at.ensures in
    omega (arith, product, slot-within size c.args.word c.loop-i.i (length c.args.source.now) (omega (arith, c.loop-i-test.true)) c.requires.enough)

pub load-requires : goal.load-requires
load-requires g c =
    let size : ℕ = g.P.PlainNumber.byte_count in
    let product : c.width.result * c.count_set-at.result ≡ size * ones (word_bits c.args.word c.loop-i.i) = ap₂ (λ (a b : ℕ). a * b) c.width.ensures c.count_set-at.ensures in
    omega (arith, product, slot-within size c.args.word c.loop-i.i (length c.args.source.now) (omega (arith, c.loop-i-test.true)) c.requires.enough, ap length c.skip.ensures ∙ length-drop (c.width.result * c.count_set-at.result) c.args.source.now)

pub returns : goal.returns
returns g c e =
    let number = g.T.FromStored.loaded_number in
    let loaded = g.T.FromStored.loaded in
    let spelled = g.P.StoredNumber.spelled in
    let size : ℕ = g.P.PlainNumber.byte_count in
    let i : ℕ = c.loop-i.i in
    let xs = c.loop-i.places in
    let word : ℕ = c.args.word in
    let source = c.args.source.now in
    let last : i ≡ 8 = omega (arith, c.loop-i-test.false, c.loop-i.auto.i-end) in
    let whole = mixing-done loaded spelled size word 8 i (word / 2 ^ i) source (drop (size * ones (word_bits word i)) source) (map number (take i xs)) last c.loop-i.invariant in
    let every = take_all i xs (omega (arith, last, c.loop-i.auto.places, c.requires.eight)) in
    subst (λ (k : ℕ). TookMixed loaded spelled size (word_bits word 8) source (drop (size * ones (word_bits word k)) source) [] (map number xs)) last (subst (λ ys. TookMixed loaded spelled size (word_bits word 8) source (drop (size * ones (word_bits word i)) source) [] (map number ys)) every whole)
