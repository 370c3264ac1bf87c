-- Byte strings by their first bytes as numbers.
use Rattle.std.proofs.Common.{mul_assoc, ◌≡◌, ℕ, zero, suc, ◌+◌, ◌-◌, ◌*◌, ◌%◌, ◌<◌, ◌≤◌, ◌^◌, inl, inr, ◌⊎◌, List, [], ◌∷◌, length, take, drop, get_or, bit_and, refl, sym, ap, subst, ◌∙◌, arith, pow-suc}
use Rattle.std.specs.List.{AllByRecursion as Each}
use Rattle.std.specs.Int.{w128, from_be_bytes}
use Rattle.std.proofs.Math.Nat.{add-mul}
use Rattle.std.proofs.lemmas.Bool.{cases_lt}
use Rattle.std.proofs.lemmas.List.{get_or-drop, length-drop, take_all, drop-drop}
use Rattle.std.proofs.lemmas.Nat.{and-not, and_comm, and_mask, mod-mul-add, mul-le, pow-add}
use Rattle.shredding.specs.Slot.{Value, bytes}
use Rattle.pq_files.specs.Statistics.{IsBefore, IsUpTo}
use Rattle.write_values.specs.FirstBytes.{IsFront, front}

abbrev pub Small : List ℕ → Type 0
Small s = Each (λ b. b < 256) s

-- ---- bytes of a slice

small_all : (xs : List ℕ) → ((i : ℕ) → get_or xs i 0 < 256) → Small xs
small_all [] h = tt
small_all (x ∷ xs) h = (h 0, small_all xs (λ i. h (suc i)))

small_take : (n : ℕ) (xs : List ℕ) → Small xs → Small (take n xs)
small_take zero xs h = tt
small_take (suc n) [] h = tt
small_take (suc n) (x ∷ xs) h = (h.0, small_take n xs h.1)

small_drop : (n : ℕ) (xs : List ℕ) → Small xs → Small (drop n xs)
small_drop zero xs h = h
small_drop (suc n) [] h = tt
small_drop (suc n) (x ∷ xs) h = small_drop n xs h.1

pub small_piece : (start size : ℕ) (xs : List ℕ) → ((i : ℕ) → get_or xs i 0 < 256) → Small (take size (drop start xs))
small_piece start size xs h = small_take size (drop start xs) (small_drop start xs (small_all xs h))

pub small_behind : (start : ℕ) (xs : List ℕ) → ((i : ℕ) → get_or xs i 0 < 256) → Small (drop start xs)
small_behind start xs h = small_drop start xs (small_all xs h)

pub small_slice : (xs : List ℕ) → ((i : ℕ) → get_or xs i 0 < 256) → Small xs
small_slice = small_all

-- ---- sizes

powers : (n : ℕ) → 0 < 256 ^ n
powers zero = omega arith
powers (suc n) = omega (arith, powers n, pow-suc 256 n)

mul_more : (b p : ℕ) → (b + 1) * p ≡ b * p + p
mul_more b p = omega (arith, add-mul b 1 p)

pub front_below : (n : ℕ) (s : List ℕ) → Small s → front n s < 256 ^ n
front_below zero s h = omega arith
front_below (suc n) [] h = powers (suc n)
front_below (suc n) (b ∷ s) h = omega (arith, front_below n s h.1, pow-suc 256 n, mul_more b (256 ^ n), mul-le (b + 1) (256 ^ n) 256 (256 ^ n) (omega (arith, h.0)) (omega arith))

-- ---- the order

pub front_before : (n : ℕ) (s t : List ℕ) → Small s → Small t → front n s < front n t → IsBefore s t
front_before zero s t h k l = absurd (omega (arith, l))
front_before (suc n) [] t h k l = tt
front_before (suc n) (a ∷ s) [] h k l = absurd (omega (arith, l))
front_before (suc n) (a ∷ s) (b ∷ t) h k l = by_first (λ m. front_before n s t h.1 k.1 m) (cases_lt a b)
  where
    by_second : (front n s < front n t → IsBefore s t) → (b < a) ⊎ (a ≤ b) → b ≤ a → IsBefore (a ∷ s) (b ∷ t)
    by_second rest (inl m) o = absurd (omega (arith, l, front_below n t k.1, mul_more b (256 ^ n), mul-le (b + 1) (256 ^ n) a (256 ^ n) (omega (arith, m)) (omega arith)))
    by_second rest (inr m) o =
        let e : a ≡ b = omega (arith, m, o) in
        inr (e, rest (omega (arith, l, ap (λ (c : ℕ). c * 256 ^ n) e)))

    by_first : (front n s < front n t → IsBefore s t) → (a < b) ⊎ (b ≤ a) → IsBefore (a ∷ s) (b ∷ t)
    by_first rest (inl m) = inl m
    by_first rest (inr m) = by_second rest (cases_lt b a) m

pub fronts_up : (m n : ℕ) (u v : Value) → IsFront m u → IsFront n v → m < n → IsUpTo u v
fronts_up m n u v a b h =
    let p : IsBefore a.text b.text = front_before 16 a.text b.text a.small b.small (omega (arith, h, a.is, b.is)) in
    subst (λ (w : Value). IsUpTo w v) (sym a.value_is) (subst (λ (w : Value). IsUpTo (bytes a.text) w) (sym b.value_is) p)

-- ---- bytes one by one

front_none : (n : ℕ) → front n [] ≡ 0
front_none zero = refl
front_none (suc n) = refl

front_step : (n : ℕ) (s : List ℕ) → front (suc n) s ≡ get_or s 0 0 * 256 ^ n + front n (drop 1 s)
front_step n [] = omega (arith, front_none n)
front_step n (b ∷ s) = refl

front_from : (n k : ℕ) (s : List ℕ) → front (suc n) (drop k s) ≡ get_or s k 0 * 256 ^ n + front n (drop (k + 1) s)
front_from n k s =
    let e : k + 0 ≡ k = omega arith in
    let item : get_or (drop k s) 0 0 ≡ get_or s k 0 = get_or-drop k s 0 0 ∙ ap (λ (i : ℕ). get_or s i 0) e in
    front_step n (drop k s) ∙ (ap (λ (b : ℕ). b * 256 ^ n + front n (drop 1 (drop k s))) item ∙ ap (λ (t : List ℕ). get_or s k 0 * 256 ^ n + front n t) (drop-drop 1 k s))

pub front_more : (n : ℕ) (s : List ℕ) → front (suc n) s ≡ front n s * 256 + get_or s n 0
front_more zero s = omega (arith, front_step 0 s)
front_more (suc n) [] = omega (arith, front_none (suc n))
front_more (suc n) (b ∷ s) =
    let p : 256 ^ suc n ≡ 256 ^ n * 256 = omega (arith, pow-suc 256 n) in
    let q : b * 256 ^ suc n ≡ b * 256 ^ n * 256 = ap (λ (k : ℕ). b * k) p ∙ sym (mul_assoc b (256 ^ n) 256) in
    omega (arith, front_more n s, q)

-- ---- 16 bytes

pub front_of_chunk : (s : List ℕ) → from_be_bytes w128 s ≡ front 16 s
front_of_chunk s = omega (arith, front_from 15 0 s, front_from 14 1 s, front_from 13 2 s, front_from 12 3 s, front_from 11 4 s, front_from 10 5 s, front_from 9 6 s, front_from 8 7 s, front_from 7 8 s, front_from 6 9 s, front_from 5 10 s, front_from 4 11 s, front_from 3 12 s, front_from 2 13 s, front_from 1 14 s, front_from 0 15 s)

pub front_long : (n m : ℕ) (s : List ℕ) → n ≤ m → front n (take m s) ≡ front n s
front_long zero m s h = refl
front_long (suc n) zero s h = absurd (omega (arith, h))
front_long (suc n) (suc m) [] h = refl
front_long (suc n) (suc m) (b ∷ s) h = ap (λ (k : ℕ). b * 256 ^ n + k) (front_long n m s (omega (arith, h)))

pub whole_rest : (start : ℕ) (xs : List ℕ) → take (length xs - start) (drop start xs) ≡ drop start xs
whole_rest start xs = take_all (length xs - start) (drop start xs) (omega (arith, length-drop start xs))

-- ---- the highest bytes

parts : (b s n x : ℕ) → s ≤ n → b * 256 ^ n + x * 256 ^ (n - s) ≡ (b * 256 ^ s + x) * 256 ^ (n - s)
parts b s n x h =
    let e : s + (n - s) ≡ n = omega (arith, h) in
    let p : 256 ^ n ≡ 256 ^ s * 256 ^ (n - s) = ap (λ (k : ℕ). 256 ^ k) (sym e) ∙ pow-add 256 s (n - s) in
    let q : b * 256 ^ n ≡ b * 256 ^ s * 256 ^ (n - s) = ap (λ (k : ℕ). b * k) p ∙ sym (mul_assoc b (256 ^ s) (256 ^ (n - s))) in
    ap (λ (k : ℕ). k + x * 256 ^ (n - s)) q ∙ sym (add-mul (b * 256 ^ s) x (256 ^ (n - s)))

front_cut : (s n : ℕ) (t : List ℕ) → s ≤ n → front n (take s t) ≡ front s t * 256 ^ (n - s)
front_cut zero n t h = omega (arith, front_none n)
front_cut (suc s) zero t h = absurd (omega (arith, h))
front_cut (suc s) (suc n) [] h = omega arith
front_cut (suc s) (suc n) (b ∷ t) h =
    let e : suc n - suc s ≡ n - s = omega arith in
    ap (λ (k : ℕ). b * 256 ^ n + k) (front_cut s n t (omega (arith, h))) ∙ (parts b s n (front s t) (omega (arith, h)) ∙ ap (λ (k : ℕ). (b * 256 ^ s + front s t) * 256 ^ k) (sym e))

front_split : (s n : ℕ) (t : List ℕ) → s ≤ n → front n t ≡ front s t * 256 ^ (n - s) + front (n - s) (drop s t)
front_split zero n t h =
    let e : n - 0 ≡ n = omega arith in
    let f : front (n - 0) t ≡ front n t = ap (λ (k : ℕ). front k t) e in
    omega (arith, f)
front_split (suc s) zero t h = absurd (omega (arith, h))
front_split (suc s) (suc n) [] h =
    let none : front (suc n - suc s) (drop (suc s) []) ≡ 0 = front_none (suc n - suc s) in
    omega (arith, none)
front_split (suc s) (suc n) (b ∷ t) h =
    let e : suc n - suc s ≡ n - s = omega arith in
    let rest : front (suc n - suc s) (drop s t) ≡ front (n - s) (drop s t) = ap (λ (k : ℕ). front k (drop s t)) e in
    let high : (b * 256 ^ s + front s t) * 256 ^ (suc n - suc s) ≡ (b * 256 ^ s + front s t) * 256 ^ (n - s) = ap (λ (k : ℕ). (b * 256 ^ s + front s t) * 256 ^ k) e in
    let low : b * 256 ^ n + front n t ≡ (b * 256 ^ s + front s t) * 256 ^ (n - s) + front (n - s) (drop s t) = omega (arith, front_split s n t (omega (arith, h)), parts b s n (front s t) (omega (arith, h))) in
    low ∙ (ap (λ (k : ℕ). k + front (n - s) (drop s t)) (sym high) ∙ ap (λ (k : ℕ). (b * 256 ^ s + front s t) * 256 ^ (suc n - suc s) + k) (sym rest))

front_kept : (s n : ℕ) (t : List ℕ) → Small t → s ≤ n → front n t - front n t % 256 ^ (n - s) ≡ front n (take s t)
front_kept s n t small h =
    let split = front_split s n t h in
    let low = front_below (n - s) (drop s t) (small_drop s t small) in
    let rest : front n t % 256 ^ (n - s) ≡ front (n - s) (drop s t) = ap (λ (k : ℕ). k % 256 ^ (n - s)) split ∙ mod-mul-add (front s t) (256 ^ (n - s)) (front (n - s) (drop s t)) low in
    omega (arith, split, rest, front_cut s n t h)

-- of a piece of 16 bytes those of a shorter string, and of a longer one all
pub front_short : (s : ℕ) (t : List ℕ) (n : ℕ) → Small t → s < 16 → n ≡ front 16 (take 16 t) → n - n % 256 ^ (16 - s) ≡ front 16 (take s t)
front_short s t n small h e =
    let f : n ≡ front 16 t = e ∙ front_long 16 16 t (omega arith) in
    rw f (front_kept s 16 t small (omega (arith, h)))

pub front_whole : (s : ℕ) (t : List ℕ) (n : ℕ) → 16 ≤ s → n ≡ front 16 (take 16 t) → n ≡ front 16 (take s t)
front_whole s t n h e = e ∙ (front_long 16 16 t (omega arith) ∙ sym (front_long 16 s t h))

-- ---- masks

bytes_power : (k : ℕ) → 256 ^ k ≡ 2 ^ (8 * k)
bytes_power zero = refl
bytes_power (suc k) =
    let e : 8 * suc k ≡ 8 * k + 8 = omega arith in
    omega (arith, pow-suc 256 k, bytes_power k, pow-add 2 (8 * k) 8, ap (λ (m : ℕ). 2 ^ m) e)

pub kept_by : (n k mask : ℕ) → n < 2 ^ 128 → k ≤ 16 → mask ≡ 2 ^ 128 - 256 ^ k → bit_and n mask ≡ n - n % 256 ^ k
kept_by n k mask fits h e =
    let m : ℕ = 256 ^ k - 1 in
    let some = powers k in
    let most : 256 ^ k ≤ 2 ^ 128 = omega (arith, grow k (16 - k), ap (λ (i : ℕ). 256 ^ i) (up_to k h)) in
    let other : 2 ^ 128 - 1 - m ≡ mask = omega (arith, e, some, most) in
    let low : bit_and m n ≡ n % 256 ^ k = and_comm m n ∙ (ap (λ (p : ℕ). bit_and n (p - 1)) (bytes_power k) ∙ (and_mask n (8 * k) ∙ ap (λ (p : ℕ). n % p) (sym (bytes_power k)))) in
    let all : bit_and (2 ^ 128 - 1 - m) n + bit_and m n ≡ n = and-not 128 m n (omega (arith, most, some)) fits in
    let high : bit_and n mask ≡ bit_and (2 ^ 128 - 1 - m) n = and_comm n mask ∙ ap (λ (p : ℕ). bit_and p n) (sym other) in
    omega (arith, high, all, low)
  where
    up_to : (k : ℕ) → k ≤ 16 → k + (16 - k) ≡ 16
    up_to k h = omega (arith, h)

    grow : (i j : ℕ) → 256 ^ i ≤ 256 ^ (i + j)
    grow i j = omega (arith, pow-add 256 i j, mul-le (256 ^ i) 1 (256 ^ i) (256 ^ j) (omega arith) (powers j))

-- ---- the table of masks

abbrev pub masks : List ℕ
masks = 0 ∷ 338953138925153547590470800371487866880 ∷ 340277174624079928635746076935438991360 ∷ 340282346638528859811704183484516925440 ∷ 340282366841710300949110269838224261120 ∷ 340282366920628978453553262363043430400 ∷ 340282366920937254537554992802593505280 ∷ 340282366920938458741008124562122997760 ∷ 340282366920938463444927863358058659840 ∷ 340282366920938463463302549837730283520 ∷ 340282366920938463463374325956791500800 ∷ 340282366920938463463374606332256583680 ∷ 340282366920938463463374607427473244160 ∷ 340282366920938463463374607431751434240 ∷ 340282366920938463463374607431768145920 ∷ 340282366920938463463374607431768211200 ∷ []

pub mask_at : (size : ℕ) → size < 16 → get_or masks size 0 ≡ 2 ^ 128 - 256 ^ (16 - size)
mask_at zero h = refl
mask_at (suc zero) h = refl
mask_at (suc (suc zero)) h = refl
mask_at (suc (suc (suc zero))) h = refl
mask_at (suc (suc (suc (suc zero)))) h = refl
mask_at (suc (suc (suc (suc (suc zero))))) h = refl
mask_at (suc (suc (suc (suc (suc (suc zero)))))) h = refl
mask_at (suc (suc (suc (suc (suc (suc (suc zero))))))) h = refl
mask_at (suc (suc (suc (suc (suc (suc (suc (suc zero)))))))) h = refl
mask_at (suc (suc (suc (suc (suc (suc (suc (suc (suc zero))))))))) h = refl
mask_at (suc (suc (suc (suc (suc (suc (suc (suc (suc (suc zero)))))))))) h = refl
mask_at (suc (suc (suc (suc (suc (suc (suc (suc (suc (suc (suc zero))))))))))) h = refl
mask_at (suc (suc (suc (suc (suc (suc (suc (suc (suc (suc (suc (suc zero)))))))))))) h = refl
mask_at (suc (suc (suc (suc (suc (suc (suc (suc (suc (suc (suc (suc (suc zero))))))))))))) h = refl
mask_at (suc (suc (suc (suc (suc (suc (suc (suc (suc (suc (suc (suc (suc (suc zero)))))))))))))) h = refl
mask_at (suc (suc (suc (suc (suc (suc (suc (suc (suc (suc (suc (suc (suc (suc (suc zero))))))))))))))) h = refl
mask_at (suc (suc (suc (suc (suc (suc (suc (suc (suc (suc (suc (suc (suc (suc (suc (suc size)))))))))))))))) h = absurd (omega (arith, h))

-- so many of the highest bytes
pub kept_masked : (n size : ℕ) → n < 2 ^ 128 → size < 16 → bit_and n (get_or masks size 0) ≡ n - n % 256 ^ (16 - size)
kept_masked n size fits h = kept_by n (16 - size) (get_or masks size 0) fits (omega arith) (mask_at size h)

-- ---- byte by byte

pub front_next : (i n b : ℕ) (s : List ℕ) → n ≡ front i s → b ≡ get_or s i 0 → n * 256 + b ≡ front (i + 1) s
front_next i n b s e f =
    let k : i + 1 ≡ suc i = omega arith in
    omega (arith, e, f, front_more i s, ap (λ (m : ℕ). front m s) k)

pub front_fits : (i n : ℕ) (s : List ℕ) → Small s → i < 16 → n ≡ front i s → n * 256 + 255 < 2 ^ 128
front_fits i n s small h e =
    let below = front_below i s small in
    let power : 256 ^ (i + (16 - i)) ≡ 256 ^ i * 256 ^ (16 - i) = pow-add 256 i (16 - i) in
    let whole : 256 ^ (i + (16 - i)) ≡ 256 ^ 16 = ap (λ (k : ℕ). 256 ^ k) (sum_16 i h) in
    let last : 256 ^ (16 - i) ≡ 256 ^ (15 - i) * 256 = ap (λ (k : ℕ). 256 ^ k) (next_15 i h) ∙ pow-suc' (15 - i) in
    let wide = mul-le (256 ^ i) 256 (256 ^ i) (256 ^ (16 - i)) (omega arith) (omega (arith, last, powers (15 - i))) in
    omega (arith, below, e, power, whole, wide)
  where
    sum_16 : (i : ℕ) → i < 16 → i + (16 - i) ≡ 16
    sum_16 i h = omega (arith, h)

    next_15 : (i : ℕ) → i < 16 → 16 - i ≡ suc (15 - i)
    next_15 i h = omega (arith, h)

    pow-suc' : (k : ℕ) → 256 ^ suc k ≡ 256 ^ k * 256
    pow-suc' k = omega (arith, pow-suc 256 k)
