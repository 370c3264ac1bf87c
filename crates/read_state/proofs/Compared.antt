-- Words of bits: what compares 64 levels, and what picks by a word.
use Rattle.std.proofs.Common.{◌≡◌, ℕ, zero, suc, ◌+◌, ◌-◌, ◌*◌, ◌/◌, ◌%◌, ◌^◌, ◌<◌, ◌≤◌, ◌==◌, ◌&&◌, Bool, true, false, true≢false, inl, inr, cond, nat_le, nat_eq, leb, eqb, bit_and, bit_or, min, max, List, [], ◌∷◌, ◌++◌, map, length, replicate, get_or, refl, arith, ap, sym, ◌∙◌, pow-suc, mul_assoc}
use Rattle.std.proofs.lemmas.Nat.{shr-shr, and_shr}
use Rattle.std.proofs.lemmas.Nat.Bits.{bit_at_lowest, bit_at-suc, bit_at_and, bit_at_or, bit_at_ones, bit_at-lt}
use Rattle.std.specs.Int.{bit_at}
use lib.Lanes.{mask_l, zip2, top}
use mir.Val.{bits, hbits}
use mir.Syntax.{Width}
use Rattle.std.proofs.lemmas.Simd.{bitmask_splat, tops_compared, mask_l-mod}
use Rattle.std.proofs.lemmas.List.{length-map, get_or-map}
use Rattle.std.proofs.lemmas.Bool.Decides.{leb_tells}
use Rattle.columns_core.specs.Bits.{word_bits}
use Rattle.columns_core.proofs.Words.{ones_word}
use Rattle.read_laws.specs.Step.{bit}
use Rattle.read_state.specs.Reach.{reached}

-- ---- a mask's bits
mask-low : (b : Bool) (m : ℕ) → ((cond b 1 zero + 2 * m) % 2 == 1) ≡ b
mask-low true m = let e : (1 + 2 * m) % 2 ≡ 1 = omega arith in rw e refl
mask-low false m = let e : (0 + 2 * m) % 2 ≡ 0 = omega arith in rw e refl

mask-high : (b : Bool) (m : ℕ) → (cond b 1 zero + 2 * m) / 2 ≡ m
mask-high true m = omega arith
mask-high false m = omega arith

pub mask-bits : (bs : List Bool) → word_bits (mask_l bs) (length bs) ≡ bs
mask-bits [] = refl
mask-bits (b ∷ bs) = rw (mask-low b (mask_l bs), mask-high b (mask_l bs)) (ap (λ (cs : List Bool). b ∷ cs) (mask-bits bs))

splat-first : (least : ℕ) (xs : List ℕ) → zip2 leb (replicate (length xs) least) xs ≡ map (λ d. nat_le least d) xs
splat-first least [] = refl
splat-first least (x ∷ xs) = ap (λ (bs : List Bool). nat_le least x ∷ bs) (splat-first least xs)

mask-word : (f : ℕ → Bool) (xs : List ℕ) (n word : ℕ) → length xs ≡ n → word ≡ mask_l (map f xs) → word_bits word n ≡ map f xs
mask-word f xs n word l e = ap (λ (k : ℕ). word_bits k n) e ∙ (ap (word_bits (mask_l (map f xs))) (sym l ∙ sym (length-map xs f)) ∙ mask-bits (map f xs))

pub mask-to : (w : Width) → (most n : ℕ) (xs : List ℕ) → length xs ≡ n → n ≤ 64 → word_bits (mask_l (map (top (hbits w)) (zip2 (λ a b. cond (leb a b) (2 ^ bits w - 1) 0) xs (replicate n most))) % 2 ^ 64) n ≡ map (λ d. nat_le d most) xs
mask-to w most n xs l short = mask-word (λ d. nat_le d most) xs n _ l (bitmask_splat w leb xs n most l short)

pub mask-at : (w : Width) → (level n : ℕ) (xs : List ℕ) → length xs ≡ n → n ≤ 64 → word_bits (mask_l (map (top (hbits w)) (zip2 (λ a b. cond (eqb a b) (2 ^ bits w - 1) 0) xs (replicate n level))) % 2 ^ 64) n ≡ map (λ d. nat_eq d level) xs
mask-at w level n xs l short = mask-word (λ d. nat_eq d level) xs n _ l (bitmask_splat w eqb xs n level l short)

pub mask-from : (w : Width) → (least n : ℕ) (xs : List ℕ) → length xs ≡ n → n ≤ 64 → word_bits (mask_l (map (top (hbits w)) (zip2 (λ a b. cond (leb a b) (2 ^ bits w - 1) 0) (replicate n least) xs)) % 2 ^ 64) n ≡ map (λ d. nat_le least d) xs
mask-from w least n xs l short =
    let f : ℕ → Bool = λ d. nat_le least d in
    mask-word f xs n _ l (ap (λ (ms : List Bool). mask_l ms % 2 ^ 64) (tops_compared w leb (replicate n least) xs ∙ (ap (λ (k : ℕ). zip2 leb (replicate k least) xs) (sym l) ∙ splat-first least xs)) ∙ mask_l-mod (map f xs) 64 (omega (arith, length-map xs f, l, short)))

-- no level is below 0
from-zero : (d : ℕ) → nat_le 0 d ≡ true
from-zero d = elim (leb_tells 0 d) [ inl h ↦ h.0 | inr h ↦ absurd (omega (arith, h.1)) ]

all-from-zero : (n : ℕ) (xs : List ℕ) → length xs ≡ n → map (λ d. nat_le 0 d) xs ≡ replicate n true
all-from-zero zero [] e = refl
all-from-zero zero (x ∷ xs) e = absurd (omega (arith, e))
all-from-zero (suc n) [] e = absurd (omega (arith, e))
all-from-zero (suc n) (x ∷ xs) e = ap (λ (b : Bool). b ∷ map (λ d. nat_le 0 d) xs) (from-zero x) ∙ ap (λ (bs : List Bool). true ∷ bs) (all-from-zero n xs (omega (arith, e)))

pub mask-zero : (least n : ℕ) (xs : List ℕ) → least ≡ 0 → length xs ≡ n → n ≤ 64 → word_bits 18446744073709551615 n ≡ map (λ d. nat_le least d) xs
mask-zero least n xs z l short = ones_word n short ∙ (sym (all-from-zero n xs l) ∙ ap (λ (k : ℕ). map (λ d. nat_le k d) xs) (sym z))

-- ---- words in parts
pub word-split : (n m word : ℕ) → word_bits word (n + m) ≡ word_bits word n ++ word_bits (word / 2 ^ n) m
word-split zero m word =
    let count : 0 + m ≡ m = omega arith in
    let same : word / 2 ^ 0 ≡ word = omega arith in
    rw (count, same) refl
word-split (suc n) m word =
    let count : suc n + m ≡ suc (n + m) = omega arith in
    let place : suc n ≡ 1 + n = omega arith in
    let half : word / 2 ^ suc n ≡ word / 2 / 2 ^ n = ap (λ (k : ℕ). word / 2 ^ k) place ∙ sym (shr-shr word 1 n) in
    rw (count, half) (ap (λ (bs : List Bool). (word % 2 == 1) ∷ bs) (word-split n m (word / 2)))

pub word-alike : (n word : ℕ) (b : Bool) → ((i : ℕ) → i < n → (bit_at word i == 1) ≡ b) → word_bits word n ≡ replicate n b
word-alike zero word b h = refl
word-alike (suc n) word b h =
    let first : (word % 2 == 1) ≡ b = ap (λ (k : ℕ). k == 1) (sym (bit_at_lowest word)) ∙ h 0 (omega arith) in
    rw first (ap (λ (bs : List Bool). b ∷ bs) (word-alike n (word / 2) b (λ i l. ap (λ (k : ℕ). k == 1) (sym (bit_at-suc word i)) ∙ h (suc i) (omega (arith, l)))))

pub length-word : (word n : ℕ) → length (word_bits word n) ≡ n
length-word word zero = refl
length-word word (suc n) = ap suc (length-word (word / 2) n)

-- a bit as a number
pub bit-of : (r : ℕ) → r < 2 → bit (r == 1) ≡ r
bit-of zero h = refl
bit-of (suc zero) h = refl
bit-of (suc (suc r)) h = absurd (omega (arith, h))

-- two words one behind the other
pub word-join : (n m lo hi : ℕ) → lo < 2 ^ n → word_bits (lo + hi * 2 ^ n) (n + m) ≡ word_bits lo n ++ word_bits hi m
word-join zero m lo hi h =
    let a : lo + hi * 2 ^ 0 ≡ hi = omega (arith, h) in
    let b : 0 + m ≡ m = omega arith in
    rw (a, b) refl
word-join (suc n) m lo hi h =
    let x : ℕ = hi * 2 ^ n in
    let p : 2 ^ suc n ≡ 2 ^ n * 2 = pow-suc 2 n in
    let e : hi * 2 ^ suc n ≡ x * 2 = rw p (sym (mul_assoc hi (2 ^ n) 2)) in
    let s : suc n + m ≡ suc (n + m) = omega arith in
    let rest : (lo + x * 2) % 2 ≡ lo % 2 = omega arith in
    let div : (lo + x * 2) / 2 ≡ lo / 2 + x = omega arith in
    let half : lo / 2 < 2 ^ n = omega (arith, h, p) in
    ap (λ (k : ℕ). word_bits (lo + k) (suc n + m)) e ∙ (ap (word_bits (lo + x * 2)) s ∙ rw (rest, div) (ap (λ (bs : List Bool). (lo % 2 == 1) ∷ bs) (word-join n m (lo / 2) hi half)))

-- ---- both of two words
both-low : (a b : ℕ) → a < 2 → b < 2 → (min a b == 1) ≡ ((a == 1) && (b == 1))
both-low zero zero p q = refl
both-low zero (suc zero) p q = refl
both-low zero (suc (suc b)) p q = absurd (omega (arith, q))
both-low (suc zero) zero p q = refl
both-low (suc zero) (suc zero) p q = refl
both-low (suc zero) (suc (suc b)) p q = absurd (omega (arith, q))
both-low (suc (suc a)) b p q = absurd (omega (arith, p))

pub both-first : (a b : ℕ) → (bit_and a b % 2 == 1) ≡ ((a % 2 == 1) && (b % 2 == 1))
both-first a b =
    let e : bit_and a b % 2 ≡ min (a % 2) (b % 2) = sym (bit_at_lowest (bit_and a b)) ∙ (bit_at_and a b 0 ∙ (ap (λ (k : ℕ). min k (bit_at b 0)) (bit_at_lowest a) ∙ ap (λ (k : ℕ). min (a % 2) k) (bit_at_lowest b))) in
    ap (λ (k : ℕ). k == 1) e ∙ both-low (a % 2) (b % 2) (omega arith) (omega arith)

head-of : List Bool → Bool
head-of [] = false
head-of (b ∷ bs) = b

tail-of : List Bool → List Bool
tail-of [] = []
tail-of (b ∷ bs) = bs

pub heads : (b c : Bool) (bs cs : List Bool) → b ∷ bs ≡ c ∷ cs → b ≡ c
unfolding head-of
heads b c bs cs e = ap head-of e

pub tails : (b c : Bool) (bs cs : List Bool) → b ∷ bs ≡ c ∷ cs → bs ≡ cs
unfolding tail-of
tails b c bs cs e = ap tail-of e

pub both-reached : (n a b depth def : ℕ) (reps defs : List ℕ) → length reps ≡ n → length defs ≡ n → word_bits a n ≡ map (λ r. nat_le r depth) reps → word_bits b n ≡ map (λ d. nat_le def d) defs → word_bits (bit_and a b) n ≡ reached depth def reps defs
both-reached zero a b depth def [] defs l m p q = refl
both-reached zero a b depth def (r ∷ reps) defs l m p q = absurd (omega (arith, l))
both-reached (suc n) a b depth def [] defs l m p q = absurd (omega (arith, l))
both-reached (suc n) a b depth def (r ∷ reps) [] l m p q = absurd (omega (arith, m))
both-reached (suc n) a b depth def (r ∷ reps) (d ∷ defs) l m p q =
    let here : (a % 2 == 1) ≡ nat_le r depth = heads _ _ _ _ p in
    let there : (b % 2 == 1) ≡ nat_le def d = heads _ _ _ _ q in
    let half : bit_and a b / 2 ≡ bit_and (a / 2) (b / 2) = and_shr a b 1 in
    let low : (bit_and a b % 2 == 1) ≡ (nat_le r depth && nat_le def d) = both-first a b ∙ (ap (λ (x : Bool). x && (b % 2 == 1)) here ∙ ap (λ (x : Bool). nat_le r depth && x) there) in
    rw half (ap (λ (bs : List Bool). (bit_and a b % 2 == 1) ∷ bs) (both-reached n (a / 2) (b / 2) depth def reps defs (omega (arith, l)) (omega (arith, m)) (tails _ _ _ _ p) (tails _ _ _ _ q)) ∙ ap (λ (x : Bool). x ∷ reached depth def reps defs) low)

-- where one of two words has all bits of 64, what the first lacks the second has
other-bit : (a b : ℕ) → a < 2 → max a b ≡ 1 → (a == 1) ≡ false → (b == 1) ≡ true
other-bit zero b h e f = let is : b ≡ 1 = omega (arith, e) in rw is refl
other-bit (suc zero) b h e f = absurd (true≢false f)
other-bit (suc (suc a)) b h e f = absurd (omega (arith, h))

pub either-bit : (a b i : ℕ) → bit_or a b ≡ 2 ^ 64 - 1 → i < 64 → (bit_at a i == 1) ≡ false → (bit_at b i == 1) ≡ true
either-bit a b i e h f = other-bit (bit_at a i) (bit_at b i) (bit_at-lt a i) (sym (bit_at_or a b i) ∙ (ap (λ (k : ℕ). bit_at k i) e ∙ bit_at_ones 64 i h)) f

-- ---- what a word tells of one level
pub word-at : (n w i : ℕ) → i < n → get_or (word_bits w n) i false ≡ (bit_at w i == 1)
word-at zero w i h = absurd (omega (arith, h))
word-at (suc n) w zero h = ap (λ (k : ℕ). k == 1) (sym (bit_at_lowest w))
word-at (suc n) w (suc i) h = word-at n (w / 2) i (omega (arith, h)) ∙ ap (λ (k : ℕ). k == 1) (sym (bit_at-suc w i))

pub word-tells : (f : ℕ → Bool) (xs : List ℕ) (n w i : ℕ) → length xs ≡ n → i < n → word_bits w n ≡ map f xs → (bit_at w i == 1) ≡ f (get_or xs i 0)
word-tells f xs n w i l h e = sym (word-at n w i h) ∙ (ap (λ (bs : List Bool). get_or bs i false) e ∙ get_or-map f xs i 0 false (omega (arith, l, h)))

pub both-bits : (a b i : ℕ) → (bit_at (bit_and a b) i == 1) ≡ true → ((bit_at a i == 1) ≡ true) × ((bit_at b i == 1) ≡ true)
both-bits a b i e = both (bit_at a i) (bit_at b i) (bit_at-lt a i) (bit_at-lt b i) (ap (λ (k : ℕ). k == 1) (sym (bit_at_and a b i)) ∙ e)
  where
    both : (x y : ℕ) → x < 2 → y < 2 → (min x y == 1) ≡ true → ((x == 1) ≡ true) × ((y == 1) ≡ true)
    both zero zero p q f = absurd (true≢false (sym f))
    both zero (suc zero) p q f = absurd (true≢false (sym f))
    both zero (suc (suc y)) p q f = absurd (omega (arith, q))
    both (suc zero) zero p q f = absurd (true≢false (sym f))
    both (suc zero) (suc zero) p q f = (refl, refl)
    both (suc zero) (suc (suc y)) p q f = absurd (omega (arith, q))
    both (suc (suc x)) y p q f = absurd (omega (arith, p))
