-- Eight numbers side by side in one, two by two.
use Rattle.std.proofs.Common.{◌≡◌, ℕ, zero, suc, ◌+◌, ◌*◌, ◌/◌, ◌%◌, ◌^◌, ◌<◌, ◌≤◌, List, [], ◌∷◌, length, drop, get_or, refl, sym, ap, subst, ◌∙◌, arith, All}
use Rattle.std.proofs.Math.Nat.{pow-le-pow_right}
use Rattle.std.proofs.lemmas.Nat.{pow-add, mul-le}
use Rattle.std.proofs.lemmas.List.{length-drop}
use Rattle.std.specs.Int.{w64, to_le_bytes}
use Rattle.pq_runs.specs.Words.{paired, word_of}
use Rattle.pq_runs.proofs.Groups.{below_word, eight_front, length-none}

eight_only : (xs : List ℕ) → length xs ≡ 8 → xs ≡ get_or xs 0 0 ∷ get_or xs 1 0 ∷ get_or xs 2 0 ∷ get_or xs 3 0 ∷ get_or xs 4 0 ∷ get_or xs 5 0 ∷ get_or xs 6 0 ∷ get_or xs 7 0 ∷ []
eight_only xs size =
    eight_front xs (omega (arith, size))
    ∙ ap (λ (t : List ℕ). get_or xs 0 0 ∷ get_or xs 1 0 ∷ get_or xs 2 0 ∷ get_or xs 3 0 ∷ get_or xs 4 0 ∷ get_or xs 5 0 ∷ get_or xs 6 0 ∷ get_or xs 7 0 ∷ t) (length-none (drop 8 xs) (omega (arith, length-drop 8 xs, size)))

-- a product of a number below a power that is at most so much
product : (p x m : ℕ) → p ≤ m → x < p → p * x + m ≤ m * m
product p x m h lt =
    let more : p * suc x ≤ m * m = mul-le p (suc x) m m h (omega (arith, h, lt)) in
    let least : p * x + p ≤ m * m = omega (arith, more) in
    let top : p * x ≤ m * x = mul-le p x m x h (omega arith) in
    let all : m * suc x ≤ m * m = mul-le m (suc x) m m (omega arith) (omega (arith, h, lt)) in
    omega (arith, top, all)

-- ---- pairs

pairs_sum : (p a b c d e f g h first second : ℕ) → p ≤ 256 → a < p → b < p → c < p → d < p → e < p → f < p → g < p → h < p
    → first ≡ a + c * 65536 + e * 4294967296 + g * 281474976710656 → second ≡ b + d * 65536 + f * 4294967296 + h * 281474976710656
    → (first + second * p % 18446744073709551616) % 18446744073709551616 ≡ (a + p * b) + 65536 * ((c + p * d) + 65536 * ((e + p * f) + 65536 * ((g + p * h) + 65536 * 0)))
pairs_sum p a b c d e f g h first second most ha hb hc hd he hf hg hh e1 e2 =
    let s : second * p ≡ p * b + p * d * 65536 + p * f * 4294967296 + p * h * 281474976710656 = rw e2 (omega arith) in
    let b' = product p b 256 most hb in
    let d' = product p d 256 most hd in
    let f' = product p f 256 most hf in
    let h' = product p h 256 most hh in
    sums (p * b) (p * d) (p * f) (p * h) (second * p) s (omega (arith, b')) (omega (arith, d')) (omega (arith, f')) (omega (arith, h'))
  where
    sums : (b d f h s : ℕ) → s ≡ b + d * 65536 + f * 4294967296 + h * 281474976710656 → b ≤ 65280 → d ≤ 65280 → f ≤ 65280 → h ≤ 65280
        → (first + s % 18446744073709551616) % 18446744073709551616 ≡ (a + b) + 65536 * ((c + d) + 65536 * ((e + f) + 65536 * ((g + h) + 65536 * 0)))
    sums b d f h s is b1 d1 f1 h1 = omega (arith, e1, is, b1, d1, f1, h1, most, ha, hc, he, hg)

pub pairs_are : (w : ℕ) (xs : List ℕ) (first second : ℕ) → w ≤ 8 → length xs ≡ 8 → All (λ v. v < 2 ^ w) xs
    → first ≡ get_or xs 0 0 + get_or xs 2 0 * 65536 + get_or xs 4 0 * 4294967296 + get_or xs 6 0 * 281474976710656 → second ≡ get_or xs 1 0 + get_or xs 3 0 * 65536 + get_or xs 5 0 * 4294967296 + get_or xs 7 0 * 281474976710656
    → (first + second * 2 ^ w % 18446744073709551616) % 18446744073709551616 ≡ word_of 16 (paired w xs)
pairs_are w xs first second fits size below e1 e2 =
    let most : 2 ^ w ≤ 2 ^ 8 = pow-le-pow_right (omega arith) fits in
    let at : (k : ℕ) → k < 8 → get_or xs k 0 < 2 ^ w = λ k lt. below k 0 (omega (arith, size, lt)) in
    pairs_sum (2 ^ w) (get_or xs 0 0) (get_or xs 1 0) (get_or xs 2 0) (get_or xs 3 0) (get_or xs 4 0) (get_or xs 5 0) (get_or xs 6 0) (get_or xs 7 0) first second most (at 0 (omega arith)) (at 1 (omega arith)) (at 2 (omega arith)) (at 3 (omega arith)) (at 4 (omega arith)) (at 5 (omega arith)) (at 6 (omega arith)) (at 7 (omega arith)) e1 e2
    ∙ ap (λ (ys : List ℕ). word_of 16 (paired w ys)) (sym (eight_only xs size))

-- ---- fours

four_only : (xs : List ℕ) → length xs ≡ 4 → xs ≡ get_or xs 0 0 ∷ get_or xs 1 0 ∷ get_or xs 2 0 ∷ get_or xs 3 0 ∷ []
four_only (a ∷ b ∷ c ∷ d ∷ []) size = refl
four_only (a ∷ b ∷ c ∷ d ∷ e ∷ xs) size = absurd (omega (arith, size))
four_only (a ∷ b ∷ c ∷ []) size = absurd (omega (arith, size))
four_only (a ∷ b ∷ []) size = absurd (omega (arith, size))
four_only (a ∷ []) size = absurd (omega (arith, size))
four_only [] size = absurd (omega (arith, size))

fours_sum : (p a b c d first second : ℕ) → p ≤ 65536 → a < p → b < p → c < p → d < p → first ≡ a + c * 4294967296 → second ≡ b + d * 4294967296
    → (first + second * p % 18446744073709551616) % 18446744073709551616 ≡ (a + p * b) + 4294967296 * ((c + p * d) + 4294967296 * 0)
fours_sum p a b c d first second most ha hb hc hd e1 e2 =
    let s : second * p ≡ p * b + p * d * 4294967296 = rw e2 (omega arith) in
    let b' = product p b 65536 most hb in
    let d' = product p d 65536 most hd in
    sums (p * b) (p * d) (second * p) s (omega (arith, b')) (omega (arith, d'))
  where
    sums : (b d s : ℕ) → s ≡ b + d * 4294967296 → b ≤ 4294901760 → d ≤ 4294901760 → (first + s % 18446744073709551616) % 18446744073709551616 ≡ (a + b) + 4294967296 * ((c + d) + 4294967296 * 0)
    sums b d s is b1 d1 = omega (arith, e1, is, b1, d1, most, ha, hc)

-- the parts of sixteen bits by their bytes
halves : (n a b c d : ℕ) → a < 65536 → b < 65536 → c < 65536 → d < 65536 → n ≡ a + 65536 * (b + 65536 * (c + 65536 * (d + 65536 * 0))) → (n % 65536 ≡ a) × (n / 65536 % 65536 ≡ b) × (n / 4294967296 % 65536 ≡ c) × (n / 281474976710656 % 65536 ≡ d)
halves n a b c d ha hb hc hd e = (omega (arith, e, ha, hb, hc, hd), omega (arith, e, ha, hb, hc, hd), omega (arith, e, ha, hb, hc, hd), omega (arith, e, ha, hb, hc, hd))

pub fours_are : (w n : ℕ) (bytes xs : List ℕ) (first second : ℕ) → w ≤ 8 → length xs ≡ 4 → All (λ v. v < 2 ^ (2 * w)) xs → n ≡ word_of 16 xs → bytes ≡ to_le_bytes w64 n
    → first ≡ get_or bytes 0 0 + get_or bytes 1 0 * 256 + get_or bytes 4 0 * 4294967296 + get_or bytes 5 0 * 1099511627776 → second ≡ get_or bytes 2 0 + get_or bytes 3 0 * 256 + get_or bytes 6 0 * 4294967296 + get_or bytes 7 0 * 1099511627776
    → (first + second * 2 ^ (2 * w) % 18446744073709551616) % 18446744073709551616 ≡ word_of 32 (paired (2 * w) xs)
fours_are w n bytes xs first second fits size below is eb e1 e2 =
    let bits : 2 * w ≤ 16 = omega (arith, fits) in
    let most : 2 ^ (2 * w) ≤ 2 ^ 16 = pow-le-pow_right (omega arith) bits in
    let at : (k : ℕ) → k < 4 → get_or xs k 0 < 2 ^ (2 * w) = λ k lt. below k 0 (omega (arith, size, lt)) in
    let four = four_only xs size in
    let a = get_or xs 0 0 in
    let b = get_or xs 1 0 in
    let c = get_or xs 2 0 in
    let d = get_or xs 3 0 in
    let ha = at 0 (omega arith) in
    let hb = at 1 (omega arith) in
    let hc = at 2 (omega arith) in
    let hd = at 3 (omega arith) in
    let parts = halves n a b c d (omega (arith, ha, most)) (omega (arith, hb, most)) (omega (arith, hc, most)) (omega (arith, hd, most)) (is ∙ ap (word_of 16) four) in
    let f : first ≡ a + c * 4294967296 = e1 ∙ (ap (λ (t : List ℕ). get_or t 0 0 + get_or t 1 0 * 256 + get_or t 4 0 * 4294967296 + get_or t 5 0 * 1099511627776) eb ∙ omega (arith, parts.0, parts.2)) in
    let s : second ≡ b + d * 4294967296 = e2 ∙ (ap (λ (t : List ℕ). get_or t 2 0 + get_or t 3 0 * 256 + get_or t 6 0 * 4294967296 + get_or t 7 0 * 1099511627776) eb ∙ omega (arith, parts.1, parts.3)) in
    fours_sum (2 ^ (2 * w)) a b c d first second most ha hb hc hd f s ∙ ap (λ (ys : List ℕ). word_of 32 (paired (2 * w) ys)) (sym four)

-- ---- halves

two_only : (xs : List ℕ) → length xs ≡ 2 → xs ≡ get_or xs 0 0 ∷ get_or xs 1 0 ∷ []
two_only (a ∷ b ∷ []) size = refl
two_only (a ∷ b ∷ c ∷ xs) size = absurd (omega (arith, size))
two_only (a ∷ []) size = absurd (omega (arith, size))
two_only [] size = absurd (omega (arith, size))

halves_sum : (p a b n : ℕ) → p ≤ 4294967296 → a < p → b < p → n ≡ a + 4294967296 * (b + 4294967296 * 0) → (n % 4294967296 + n / 4294967296 * p % 18446744073709551616) % 18446744073709551616 ≡ a + p * (b + p * 0)
halves_sum p a b n most ha hb e =
    let low : n % 4294967296 ≡ a = omega (arith, e, ha, most) in
    let high : n / 4294967296 ≡ b = omega (arith, e, ha, most) in
    let b' = product p b 4294967296 most hb in
    let all : a + p * (b + p * 0) ≡ a + p * b = omega arith in
    rw (low, high, all) (sums (p * b) (b * p) (omega arith) (omega (arith, b')))
  where
    sums : (x y : ℕ) → y ≡ x → x ≤ 18446744069414584320 → (a + y % 18446744073709551616) % 18446744073709551616 ≡ a + x
    sums x y is h = omega (arith, is, h, ha, most)

pub joined_are : (w n : ℕ) (xs : List ℕ) → w ≤ 8 → length xs ≡ 2 → All (λ v. v < 2 ^ (4 * w)) xs → n ≡ word_of 32 xs → (n % 4294967296 + n / 4294967296 * 2 ^ (4 * w) % 18446744073709551616) % 18446744073709551616 ≡ word_of (4 * w) xs
joined_are w n xs fits size below is =
    let bits : 4 * w ≤ 32 = omega (arith, fits) in
    let most : 2 ^ (4 * w) ≤ 2 ^ 32 = pow-le-pow_right (omega arith) bits in
    let two = two_only xs size in
    halves_sum (2 ^ (4 * w)) (get_or xs 0 0) (get_or xs 1 0) n most (below 0 0 (omega (arith, size))) (below 1 0 (omega (arith, size))) (is ∙ ap (word_of 32) two) ∙ ap (word_of (4 * w)) (sym two)

-- ---- all of them

pub all_paired : (w : ℕ) (xs : List ℕ) → All (λ v. v < 2 ^ w) xs → All (λ v. v < 2 ^ (2 * w)) (paired w xs)
all_paired w [] h = λ k d lt. absurd (omega (arith, lt))
all_paired w (x ∷ []) h =
    let more : 2 ^ w ≤ 2 ^ (2 * w) = pow-le-pow_right (omega arith) (omega arith) in
    λ k d lt. one k d lt more
  where
    one : (k d : ℕ) → k < 1 → 2 ^ w ≤ 2 ^ (2 * w) → get_or (x ∷ []) k d < 2 ^ (2 * w)
    one zero d lt more = omega (arith, h 0 0 (omega arith), more)
    one (suc k) d lt more = absurd (omega (arith, lt))
all_paired w (x ∷ y ∷ ys) h =
    let twice : w + w ≡ 2 * w = omega arith in
    let first : x + 2 ^ w * y < 2 ^ (2 * w) = subst (λ (n : ℕ). x + 2 ^ w * y < 2 ^ n) twice (below_word w w y x (h 1 0 (omega arith)) (h 0 0 (omega arith))) in
    let others = all_paired w ys (λ j e l. h (suc (suc j)) e (omega (arith, l))) in
    λ k d lt. each k d lt first others
  where
    each : (k d : ℕ) → k < length (paired w (x ∷ y ∷ ys)) → x + 2 ^ w * y < 2 ^ (2 * w) → All (λ v. v < 2 ^ (2 * w)) (paired w ys) → get_or (paired w (x ∷ y ∷ ys)) k d < 2 ^ (2 * w)
    each zero d lt first others = first
    each (suc k) d lt first others = others k d (omega (arith, lt))

pub four_pairs : (w : ℕ) (xs : List ℕ) → length xs ≡ 8 → length (paired w xs) ≡ 4
four_pairs w xs size = ap (λ (ys : List ℕ). length (paired w ys)) (eight_only xs size)

pub two_fours : (w v : ℕ) (xs : List ℕ) → length xs ≡ 8 → length (paired v (paired w xs)) ≡ 2
two_fours w v xs size = ap (λ (ys : List ℕ). length (paired v (paired w ys))) (eight_only xs size)

word_sum : (p q r a b c d e f g h : ℕ) → q ≡ p * p → r ≡ q * q → ((a + p * b) + q * (c + p * d)) + r * (((e + p * f) + q * (g + p * h)) + r * 0) ≡ a + p * (b + p * (c + p * (d + p * (e + p * (f + p * (g + p * (h + p * 0)))))))
word_sum p q r a b c d e f g h e1 e2 = rw (e2, e1) (omega arith)

pub word_again : (w : ℕ) (xs : List ℕ) → length xs ≡ 8 → word_of (4 * w) (paired (2 * w) (paired w xs)) ≡ word_of w xs
word_again w xs size =
    let twice : w + w ≡ 2 * w = omega arith in
    let four : 2 * w + 2 * w ≡ 4 * w = omega arith in
    let e1 : 2 ^ (2 * w) ≡ 2 ^ w * 2 ^ w = ap (λ (n : ℕ). 2 ^ n) (sym twice) ∙ pow-add 2 w w in
    let e2 : 2 ^ (4 * w) ≡ 2 ^ (2 * w) * 2 ^ (2 * w) = ap (λ (n : ℕ). 2 ^ n) (sym four) ∙ pow-add 2 (2 * w) (2 * w) in
    let is = eight_only xs size in
    ap (λ (ys : List ℕ). word_of (4 * w) (paired (2 * w) (paired w ys))) is
    ∙ (word_sum (2 ^ w) (2 ^ (2 * w)) (2 ^ (4 * w)) (get_or xs 0 0) (get_or xs 1 0) (get_or xs 2 0) (get_or xs 3 0) (get_or xs 4 0) (get_or xs 5 0) (get_or xs 6 0) (get_or xs 7 0) e1 e2
    ∙ ap (word_of w) (sym is))
