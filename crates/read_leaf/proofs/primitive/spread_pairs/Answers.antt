use Rattle.std.proofs.Common.{◌≡◌, ◌∷◌, ◌++◌, ◌+◌, ◌*◌, ◌/◌, ◌^◌, ◌<◌, ℕ, [], length, map, take, drop, set, arith, ap, ap₂, sym, subst, ◌∙◌}
use Rattle.std.proofs.lemmas.List.{map-append, take_more_set, take_all, length-drop, length-set}
use Rattle.columns_core.specs.Bits.{word_bits}
use Rattle.read_walk.specs.Values.{ones}
use Rattle.read_leaf.specs.Numbers.{TookMixed}
use Rattle.read_leaf.proofs.MixedNumbers.{mixing-none, mixing-done}
use Rattle.read_leaf.proofs.Pairs.{pair-more, pair-within}
use Rattle.read_leaf.proofs.primitive.spread_pairs.Goals as goal

pub loop-k-init : goal.loop-k-init
loop-k-init g c =
    let whole : c.args.word / 2 ^ 0 ≡ c.args.word = omega arith in
    let start : g.P.PlainNumber.byte_count * 0 ≡ 0 = omega arith in
    rw (whole, start) (mixing-none g.T.FromStored.loaded g.P.StoredNumber.spelled g.P.PlainNumber.byte_count c.args.word 8 (drop g.P.PlainNumber.byte_count c.args.source.now))

pub overflow_mul-width : goal.overflow_mul-width
overflow_mul-width g c =
    let size : ℕ = g.P.PlainNumber.byte_count in
    let i : ℕ = 2 * c.loop-k.k + 1 in
    let product : c.width.result * c.count_set-at.result ≡ size * ones (word_bits c.args.word i) = ap₂ (λ (a b : ℕ). a * b) c.width.ensures c.count_set-at.ensures in
    omega (arith, product, pair-within size c.args.word i (length c.args.source.now) (omega (arith, c.loop-k-test.true)) c.requires.enough, c.well_formed)

pub skip-pair-requires : goal.skip-pair-requires
skip-pair-requires g c =
    let size : ℕ = g.P.PlainNumber.byte_count in
    let i : ℕ = 2 * c.loop-k.k + 1 in
    let product : c.width.result * c.count_set-at.result ≡ size * ones (word_bits c.args.word i) = ap₂ (λ (a b : ℕ). a * b) c.width.ensures c.count_set-at.ensures in
    omega (arith, product, pair-within size c.args.word i (length c.args.source.now) (omega (arith, c.loop-k-test.true)) c.requires.enough)

pub load-requires : goal.load-requires
load-requires g c =
    let size : ℕ = g.P.PlainNumber.byte_count in
    let i : ℕ = 2 * c.loop-k.k + 1 in
    let product : c.width.result * c.count_set-at.result ≡ size * ones (word_bits c.args.word i) = ap₂ (λ (a b : ℕ). a * b) c.width.ensures c.count_set-at.ensures in
    omega (arith, product, pair-within size c.args.word i (length c.args.source.now) (omega (arith, c.loop-k-test.true)) c.requires.enough, ap length c.skip-pair.ensures ∙ length-drop (c.width.result * c.count_set-at.result) c.args.source.now)

pub skip-requires : goal.skip-requires
skip-requires g c =
    let size : ℕ = g.P.PlainNumber.byte_count in
    let i : ℕ = 2 * c.loop-k.k + 1 in
    let product : c.width.result * c.count_set-at.result ≡ size * ones (word_bits c.args.word i) = ap₂ (λ (a b : ℕ). a * b) c.width.ensures c.count_set-at.ensures in
    omega (arith, product, c.width-in-loop-k.ensures, pair-within size c.args.word i (length c.args.source.now) (omega (arith, c.loop-k-test.true)) c.requires.enough, ap length c.skip-pair.ensures ∙ length-drop (c.width.result * c.count_set-at.result) c.args.source.now)

pub load-requires-in-loop-k : goal.load-requires-in-loop-k
load-requires-in-loop-k g c =
    let size : ℕ = g.P.PlainNumber.byte_count in
    let i : ℕ = 2 * c.loop-k.k + 1 in
    let product : c.width.result * c.count_set-at.result ≡ size * ones (word_bits c.args.word i) = ap₂ (λ (a b : ℕ). a * b) c.width.ensures c.count_set-at.ensures in
    omega (arith, product, c.width-in-loop-k.ensures, pair-within size c.args.word i (length c.args.source.now) (omega (arith, c.loop-k-test.true)) c.requires.enough, ap length c.skip-pair.ensures ∙ length-drop (c.width.result * c.count_set-at.result) c.args.source.now, ap length c.skip.ensures ∙ length-drop c.width-in-loop-k.result c.skip-pair.result.now)

pub loop-k-preserved : goal.loop-k-preserved
loop-k-preserved g c =
    let number = g.T.FromStored.loaded_number in
    let loaded = g.T.FromStored.loaded in
    let spelled = g.P.StoredNumber.spelled in
    let size : ℕ = g.P.PlainNumber.byte_count in
    let i : ℕ = 2 * c.loop-k.k in
    let xs = c.loop-k.places in
    let word : ℕ = c.args.word in
    let source = c.args.source.now in
    let ys = set xs i c.in-Some.first in
    let within : i + 1 < length xs = omega (arith, c.loop-k-test.true, c.loop-k.auto.places, c.requires.eight) in
    let size-ys : length ys ≡ length xs = length-set xs i c.in-Some.first in
    let pair : c.skip-pair.result.now ≡ drop (size * ones (word_bits word (i + 1))) source = c.skip-pair.ensures ∙ ap₂ (λ (a b : ℕ). drop (a * b) source) c.width.ensures c.count_set-at.ensures in
    let other : c.skip.result.now ≡ drop size (drop (size * ones (word_bits word (i + 1))) source) = c.skip.ensures ∙ ap₂ (λ (a : ℕ) bs. drop a bs) c.width-in-loop-k.ensures pair in
    let first = take_more_set xs i c.in-Some.first (omega (arith, within)) in
    let both = take_more_set ys (i + 1) c.in-Some-load.second (omega (arith, within, size-ys)) ∙ ap (λ t. t ++ c.in-Some-load.second ∷ []) first in
    let next : i + 1 + 1 ≡ 2 * (c.loop-k.k + 1) = omega arith in
    let next' : i + 2 ≡ 2 * (c.loop-k.k + 1) = omega arith in
    let named = map-append number (take i xs ++ c.in-Some.first ∷ []) (c.in-Some-load.second ∷ []) ∙ ap (λ t. t ++ number c.in-Some-load.second ∷ []) (map-append number (take i xs) (c.in-Some.first ∷ [])) in
    let placed = ap (λ (k : ℕ). map number (take k (set ys (i + 1) c.in-Some-load.second))) (sym next) ∙ (ap (map number) both ∙ named) in
    rw next' at (pair-more loaded spelled size word i source (map number (take i xs)) (map number (take (2 * (c.loop-k.k + 1)) (set ys (i + 1) c.in-Some-load.second))) (number c.in-Some.first) (number c.in-Some-load.second) (omega (arith, c.loop-k-test.true)) (rw pair at c.in-Some.ensures) (rw other at c.in-Some-load.ensures) placed c.loop-k.invariant)

pub returns : goal.returns
returns g c e =
    let number = g.T.FromStored.loaded_number in
    let loaded = g.T.FromStored.loaded in
    let spelled = g.P.StoredNumber.spelled in
    let size : ℕ = g.P.PlainNumber.byte_count in
    let i : ℕ = 2 * c.loop-k.k in
    let xs = c.loop-k.places in
    let word : ℕ = c.args.word in
    let base = drop size c.args.source.now in
    let last : i ≡ 8 = omega (arith, c.loop-k-test.false, c.loop-k.auto.k-end) in
    let whole = mixing-done loaded spelled size word 8 i (word / 2 ^ i) base (drop (size * ones (word_bits word i)) base) (map number (take i xs)) last c.loop-k.invariant in
    let every = take_all i xs (omega (arith, last, c.loop-k.auto.places, c.requires.eight)) in
    subst (λ (k : ℕ). TookMixed loaded spelled size (word_bits word 8) base (drop (size * ones (word_bits word k)) base) [] (map number xs)) last (subst (λ ys. TookMixed loaded spelled size (word_bits word 8) base (drop (size * ones (word_bits word i)) base) [] (map number ys)) every whole)
