-- Eight packed numbers at once.
use Rattle.std.proofs.Common.{◌≡◌, ℕ, zero, suc, ◌+◌, ◌-◌, ◌*◌, ◌/◌, ◌%◌, ◌^◌, ◌<◌, ◌≤◌, List, [], ◌∷◌, ◌++◌, length, take, drop, set, get_or, replicate, refl, sym, ap, ◌∙◌, arith, append-nil, append_assoc, take_all}
use Rattle.std.proofs.lemmas.List.{length-set, length-take, length-drop, take-append-drop, take_more, take_more_set}
use Rattle.std.proofs.lemmas.Nat.{shr-shr}
use Rattle.pq_numbers.specs.Bits.{digits_of, unpacked}
use Rattle.pq_numbers.specs.Texts.{number_of}
use Rattle.pq_numbers.proofs.Bytes.{AreBytes, number-drop}
use Rattle.pq_numbers.proofs.Digits.{number_of-append, digits-high}
use Rattle.pq_runs.proofs.Decoding.{eight_more}
use Rattle.pq_runs.proofs.Fields.{digits-parts}
use Rattle.pq_delta_reads.specs.Blocks.{block_of}
use Rattle.pq_delta_reads.proofs.Fields.{high_number}

-- ---- a word

pub word_digits : (bytes : List ℕ) (bit w n : ℕ) → AreBytes bytes → bit / 8 + 8 ≤ length bytes → w * n ≤ 57 → digits_of (2 ^ w) n (number_of (take 8 (drop (bit / 8) bytes)) / 2 ^ (bit % 8)) ≡ digits_of (2 ^ w) n (number_of bytes / 2 ^ bit)
word_digits bytes bit w n are within few =
    let rest : List ℕ = drop (bit / 8) bytes in
    let s : ℕ = bit % 8 in
    let a : ℕ = number_of (take 8 rest) in
    let c : ℕ = number_of (drop 8 rest) in
    let e : bit ≡ 8 * (bit / 8) + bit % 8 = omega arith in
    let eight : length (take 8 rest) ≡ 8 = omega (arith, length-take 8 rest, length-drop (bit / 8) bytes, within) in
    let whole : number_of rest ≡ a + 2 ^ 64 * c = ap number_of (sym (take-append-drop 8 rest)) ∙ number_of-append (take 8 rest) (drop 8 rest) ∙ ap (λ (k : ℕ). a + 2 ^ (8 * k) * c) eight in
    let parts : w * n + (64 - s - w * n) ≡ 64 - s = omega (arith, few) in
    let high : number_of rest / 2 ^ s ≡ a / 2 ^ s + 2 ^ (64 - s) * c = ap (λ (x : ℕ). x / 2 ^ s) whole ∙ sym (high_number a s 64 c (omega arith)) in
    let moved : number_of bytes / 2 ^ bit ≡ number_of rest / 2 ^ s = ap (λ (k : ℕ). number_of bytes / 2 ^ k) e ∙ sym (shr-shr (number_of bytes) (8 * (bit / 8)) s) ∙ ap (λ (x : ℕ). x / 2 ^ s) (number-drop (bit / 8) bytes are) in
    sym (ap (digits_of (2 ^ w) n) (moved ∙ high ∙ ap (λ (k : ℕ). a / 2 ^ s + 2 ^ k * c) (sym parts)) ∙ digits-high w n (a / 2 ^ s) (64 - s - w * n) c)

-- ---- digits of a number in several words

pub from_start : (w n m : ℕ) → digits_of (2 ^ w) n (m / 2 ^ 0) ≡ digits_of (2 ^ w) n m
from_start w n m = let one : m / 2 ^ 0 ≡ m = omega arith in ap (digits_of (2 ^ w) n) one

pub two_parts : (w a b m : ℕ) (xs ys : List ℕ) → xs ≡ digits_of (2 ^ w) a m → ys ≡ digits_of (2 ^ w) b (m / 2 ^ (a * w)) → xs ++ ys ≡ digits_of (2 ^ w) (a + b) m
two_parts w a b m xs ys x y =
    let e : a * w ≡ w * a = omega arith in
    ap (λ (t : List ℕ). t ++ ys) x ∙ ap (λ (t : List ℕ). digits_of (2 ^ w) a m ++ t) (y ∙ ap (λ (k : ℕ). digits_of (2 ^ w) b (m / 2 ^ k)) e) ∙ sym (digits-parts w a b m)

-- a word more in front of others
pub more_parts : (w a b at m : ℕ) (xs ys : List ℕ) → xs ≡ digits_of (2 ^ w) a (m / 2 ^ at) → ys ≡ digits_of (2 ^ w) b (m / 2 ^ (at + a * w)) → xs ++ ys ≡ digits_of (2 ^ w) (a + b) (m / 2 ^ at)
more_parts w a b at m xs ys x y =
    two_parts w a b (m / 2 ^ at) xs ys x (y ∙ ap (digits_of (2 ^ w) b) (sym (shr-shr m at (a * w))))

pub word_from : (w a at size to m : ℕ) (xs : List ℕ) → to ≡ at + size * w → xs ≡ digits_of (2 ^ w) a (m / 2 ^ to) → xs ≡ digits_of (2 ^ w) a (m / 2 ^ (at + size * w))
word_from w a at size to m xs e x = x ∙ ap (λ (k : ℕ). digits_of (2 ^ w) a (m / 2 ^ k)) e

pub word_first : (w a m : ℕ) (xs : List ℕ) → xs ≡ digits_of (2 ^ w) a (m / 2 ^ w) → xs ≡ digits_of (2 ^ w) a (m / 2 ^ (1 * w))
word_first w a m xs x = (let e : w ≡ 1 * w = omega arith in x ∙ ap (λ (k : ℕ). digits_of (2 ^ w) a (m / 2 ^ k)) e)

-- ---- places

put_more : (i n k j : ℕ) (xs start eight : List ℕ) → n ≡ i + 1 → j ≡ k + 1 → i < length xs → k < length eight → take i xs ≡ start ++ take k eight → take n (set xs i (get_or eight k 0)) ≡ start ++ take j eight
put_more i n k j xs start eight ni jk lt within e =
    ap (λ (m : ℕ). take m (set xs i (get_or eight k 0))) ni
    ∙ take_more_set xs i (get_or eight k 0) lt
    ∙ ap (λ (t : List ℕ). t ++ get_or eight k 0 ∷ []) e
    ∙ append_assoc start (take k eight) (get_or eight k 0 ∷ [])
    ∙ ap (λ (t : List ℕ). start ++ t) (sym (ap (λ (m : ℕ). take m eight) jk ∙ take_more eight k 0 within))

pub eight_put : (at : ℕ) (xs eight : List ℕ) → at + 8 ≤ length xs → length eight ≡ 8 → take (at + 8) (set (set (set (set (set (set (set (set xs at (get_or eight 0 0)) (at + 1) (get_or eight 1 0)) (at + 2) (get_or eight 2 0)) (at + 3) (get_or eight 3 0)) (at + 4) (get_or eight 4 0)) (at + 5) (get_or eight 5 0)) (at + 6) (get_or eight 6 0)) (at + 7) (get_or eight 7 0)) ≡ take at xs ++ eight
eight_put at xs eight within size =
    let x1 : List ℕ = set xs at (get_or eight 0 0) in
    let x2 : List ℕ = set x1 (at + 1) (get_or eight 1 0) in
    let x3 : List ℕ = set x2 (at + 2) (get_or eight 2 0) in
    let x4 : List ℕ = set x3 (at + 3) (get_or eight 3 0) in
    let x5 : List ℕ = set x4 (at + 4) (get_or eight 4 0) in
    let x6 : List ℕ = set x5 (at + 5) (get_or eight 5 0) in
    let x7 : List ℕ = set x6 (at + 6) (get_or eight 6 0) in
    let l1 : length x1 ≡ length xs = length-set xs at (get_or eight 0 0) in
    let l2 : length x2 ≡ length xs = length-set x1 (at + 1) (get_or eight 1 0) ∙ l1 in
    let l3 : length x3 ≡ length xs = length-set x2 (at + 2) (get_or eight 2 0) ∙ l2 in
    let l4 : length x4 ≡ length xs = length-set x3 (at + 3) (get_or eight 3 0) ∙ l3 in
    let l5 : length x5 ≡ length xs = length-set x4 (at + 4) (get_or eight 4 0) ∙ l4 in
    let l6 : length x6 ≡ length xs = length-set x5 (at + 5) (get_or eight 5 0) ∙ l5 in
    let l7 : length x7 ≡ length xs = length-set x6 (at + 6) (get_or eight 6 0) ∙ l6 in
    let e1 = put_more at (at + 1) 0 1 xs (take at xs) eight refl refl (omega (arith, within)) (omega (arith, size)) (sym (append-nil (take at xs))) in
    let e2 = put_more (at + 1) (at + 2) 1 2 x1 (take at xs) eight (omega arith) refl (omega (arith, within, l1)) (omega (arith, size)) e1 in
    let e3 = put_more (at + 2) (at + 3) 2 3 x2 (take at xs) eight (omega arith) refl (omega (arith, within, l2)) (omega (arith, size)) e2 in
    let e4 = put_more (at + 3) (at + 4) 3 4 x3 (take at xs) eight (omega arith) refl (omega (arith, within, l3)) (omega (arith, size)) e3 in
    let e5 = put_more (at + 4) (at + 5) 4 5 x4 (take at xs) eight (omega arith) refl (omega (arith, within, l4)) (omega (arith, size)) e4 in
    let e6 = put_more (at + 5) (at + 6) 5 6 x5 (take at xs) eight (omega arith) refl (omega (arith, within, l5)) (omega (arith, size)) e5 in
    let e7 = put_more (at + 6) (at + 7) 6 7 x6 (take at xs) eight (omega arith) refl (omega (arith, within, l6)) (omega (arith, size)) e6 in
    put_more (at + 7) (at + 8) 7 8 x7 (take at xs) eight (omega arith) refl (omega (arith, within, l7)) (omega (arith, size)) e7 ∙ ap (λ (t : List ℕ). take at xs ++ t) (take_all 8 eight (omega (arith, size)))

-- ---- zeros

zero_digits : (n m : ℕ) → replicate n 0 ≡ digits_of 1 n m
zero_digits zero m = refl
zero_digits (suc n) m =
    let none : 0 ≡ m % 1 = omega arith in
    ap (λ (t : List ℕ). 0 ∷ t) (zero_digits n (m / 1)) ∙ ap (λ (x : ℕ). x ∷ digits_of 1 n (m / 1)) none

pub no_bits : (w : ℕ) (bytes : List ℕ) → w ≡ 0 → replicate 32 0 ≡ block_of w bytes
unfolding block_of
no_bits w bytes none = zero_digits 32 (number_of bytes) ∙ ap (λ (k : ℕ). digits_of (2 ^ k) 32 (number_of bytes)) (sym none)

number_zeros : (n : ℕ) → number_of (replicate n 0) ≡ 0
number_zeros zero = refl
number_zeros (suc n) = omega (arith, number_zeros n)

zeros_dropped : (k n : ℕ) → number_of (drop k (replicate n 0)) ≡ 0
zeros_dropped zero n = number_zeros n
zeros_dropped (suc k) zero = refl
zeros_dropped (suc k) (suc n) = zeros_dropped k n

pub with_zeros : (k n : ℕ) (xs : List ℕ) → number_of (xs ++ drop k (replicate n 0)) ≡ number_of xs
with_zeros k n xs =
    let z : 2 ^ (8 * length xs) * number_of (drop k (replicate n 0)) ≡ 0 = ap (λ (x : ℕ). 2 ^ (8 * length xs) * x) (zeros_dropped k n) ∙ omega arith in
    omega (arith, number_of-append xs (drop k (replicate n 0)), z)

-- ---- all numbers

pub next_group : (w at : ℕ) (out out' rest all : List ℕ) → at < 32 → at % 8 ≡ 0 → AreBytes rest → out' ≡ out ++ unpacked w 8 rest → out ++ unpacked w (32 - at) rest ≡ all → out' ++ unpacked w (32 - (at + 8)) (drop w rest) ≡ all
next_group w at out out' rest all some eights are is e =
    let left : 32 - at - 8 ≡ 32 - (at + 8) = omega arith in
    ap (λ (k : ℕ). out' ++ unpacked w k (drop w rest)) (sym left) ∙ eight_more w (32 - at) out out' all rest (omega (arith, some, eights)) are is e

pub enough_next : (w at : ℕ) (rest : List ℕ) → at < 32 → at % 8 ≡ 0 → w * (32 - at) + 64 ≤ 8 * length rest → (w + 8 ≤ length rest) × (w * (32 - (at + 8)) + 64 ≤ 8 * length (drop w rest))
enough_next w at rest some eights enough =
    let n : 32 - at ≡ 8 + (32 - (at + 8)) = omega (arith, some, eights) in
    let m : w * (32 - at) ≡ 8 * w + w * (32 - (at + 8)) = ap (λ (k : ℕ). w * k) n ∙ omega arith in
    (omega (arith, m, enough), omega (arith, m, enough, length-drop w rest))

pub group_begin : (w : ℕ) (out bytes : List ℕ) → take 0 out ++ unpacked w (32 - 0) bytes ≡ block_of w bytes
unfolding block_of
group_begin w out bytes = refl

pub groups_end : (w at : ℕ) (out rest all : List ℕ) → 32 ≤ at → at ≤ 32 → length out ≡ 32 → take at out ++ unpacked w (32 - at) rest ≡ all → out ≡ all
groups_end w at out rest all some most size e =
    let none : 32 - at ≡ 0 = omega (arith, some) in
    sym (append-nil out) ∙ ap (λ (t : List ℕ). t ++ []) (sym (take_all at out (omega (arith, some, size)))) ∙ ap (λ (k : ℕ). take at out ++ unpacked w k rest) (sym none) ∙ e

pub same_block : (w : ℕ) (xs ys : List ℕ) → number_of xs ≡ number_of ys → block_of w xs ≡ block_of w ys
unfolding block_of
same_block w xs ys e = ap (digits_of (2 ^ w) 32) e

pub as_block : (w n : ℕ) (out bytes : List ℕ) → n ≡ 32 → out ≡ unpacked w n bytes → out ≡ block_of w bytes
unfolding block_of
as_block w n out bytes e is = is ∙ ap (λ (k : ℕ). unpacked w k bytes) e

-- so many of them
take_digits : (b k n m : ℕ) → k ≤ n → take k (digits_of b n m) ≡ digits_of b k m
take_digits b zero n m le = refl
take_digits b (suc k) zero m le = absurd (omega (arith, le))
take_digits b (suc k) (suc n) m le = ap (λ (t : List ℕ). m % b ∷ t) (take_digits b k n (m / b) (omega (arith, le)))

pub block_front : (w k : ℕ) (bytes : List ℕ) → k ≤ 32 → take k (block_of w bytes) ≡ unpacked w k bytes
unfolding block_of
block_front w k bytes le = take_digits (2 ^ w) k 32 (number_of bytes) le
