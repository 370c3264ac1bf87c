-- Eight bits at a time.
use Rattle.std.proofs.Common.{◌≡◌, ◌≢◌, ◌⊎◌, not, cond, ℕ, zero, suc, ◌+◌, ◌-◌, ◌*◌, ◌/◌, ◌%◌, ◌^◌, ◌<◌, ◌≤◌, List, [], ◌∷◌, ◌++◌, take, drop, true≢false, Bool, true, false, nat_eq, slice_index_or, count_by, count_ones, ◌==◌, add-zero, refl, ap, sym, ◌∙◌, inl, inr, arith}
use Rattle.columns_core.specs.Bits.{bit_of, bits_from}
use Rattle.std.specs.Int.{bit_at}
use Rattle.std.specs.Int.Count.{ones_step}
use Rattle.std.proofs.lemmas.List.Sums.{sum_by-append, sum_by-cons, count_by-le-length}
use Rattle.std.proofs.lemmas.Nat.{pow-add, ones_le_self}
use Rattle.std.proofs.lemmas.Nat.Bits.{bit_at_cat_low, bit_at_cat_high, same_from_bits_below, bit_at-lt}
use Rattle.std.proofs.Math.Nat.{div-div-eq-div-mul}
use Rattle.std.proofs.lemmas.Bool.Decides.{eqb_tells}
use Rattle.std.specs.Bool.{Decides}
use mathlib.Core.Bool.{beq}
use mir.Val.{bool_byte}
use Rattle.columns_core.proofs.Bits.{length_bits, front_bits, cut_bits, not_same}

-- bits depend on their places alone, from two places on
pub same_runs : (bs cs : List ℕ) (a b n : ℕ) → ((i : ℕ) → i < n → bit_of bs (a + i) ≡ bit_of cs (b + i)) → bits_from bs a n ≡ bits_from cs b n
same_runs bs cs a b zero e = refl
same_runs bs cs a b (suc n) e =
    let first : bit_of bs a ≡ bit_of cs b = ap (bit_of bs) (sym (add-zero a)) ∙ e 0 (omega arith) ∙ ap (bit_of cs) (add-zero b) in
    let rest : bits_from bs (a + 1) n ≡ bits_from cs (b + 1) n =
    same_runs bs cs (a + 1) (b + 1) n (λ i h. let x : a + 1 + i ≡ a + (i + 1) = omega arith in let y : b + 1 + i ≡ b + (i + 1) = omega arith in ap (bit_of bs) x ∙ e (i + 1) (omega (arith, h)) ∙ sym (ap (bit_of cs) y)) in
    rw (first, rest) refl

-- a run in two parts
pub bits_split : (bs : List ℕ) (at n m : ℕ) → bits_from bs at (n + m) ≡ bits_from bs at n ++ bits_from bs (at + n) m
bits_split bs at zero m = let e : zero + m ≡ m = omega arith in rw (e, add-zero at) refl
bits_split bs at (suc n) m =
    let e : suc n + m ≡ suc (n + m) = omega arith in
    let f : at + 1 + n ≡ at + suc n = omega arith in
    rw e (ap (λ r. bit_of bs at ∷ r) (bits_split bs (at + 1) n m ∙ ap (λ j. bits_from bs (at + 1) n ++ bits_from bs j m) f))

-- the bits of a number's low byte
low_byte : (n i : ℕ) → i < 8 → bit_at (n % 2 ^ 8) i ≡ bit_at n i
low_byte n i h =
    let e : n ≡ n / 2 ^ 8 * 2 ^ 8 + n % 2 ^ 8 = omega arith in
    sym (ap (λ m. bit_at m i) e ∙ bit_at_cat_low (n / 2 ^ 8) 8 (n % 2 ^ 8) i h)

pub shifted_bit : (n s i : ℕ) → bit_at (n / 2 ^ s) i ≡ bit_at n (s + i)
shifted_bit n s i = ap (λ m. m % 2) (div-div-eq-div-mul n (2 ^ s) (2 ^ i) ∙ ap (λ m. n / m) (sym (pow-add 2 s i)))

-- a bit of the byte that the code puts together
pub put_together : (a b s i : ℕ) → a < 2 ^ 8 → s < 8 → i < 8 → bit_at ((b * 2 ^ 8 + a) / 2 ^ s % 2 ^ 8) i ≡ bit_at (b * 2 ^ 8 + a) (s + i)
put_together a b s i la ls li = low_byte ((b * 2 ^ 8 + a) / 2 ^ s) i li ∙ shifted_bit (b * 2 ^ 8 + a) s i

pub below_or_from : (a b : ℕ) → (a < b) ⊎ (b ≤ a)
below_or_from a zero = inr (omega arith)
below_or_from zero (suc b) = inl (omega arith)
below_or_from (suc a) (suc b) = next a b (below_or_from a b)
  where
    next : (a b : ℕ) → (a < b) ⊎ (b ≤ a) → (suc a < suc b) ⊎ (suc b ≤ suc a)
    next a b (inl h) = inl (omega (arith, h))
    next a b (inr h) = inr (omega (arith, h))

bit_near : (bs : List ℕ) (at a b i : ℕ) → a < 2 ^ 8 → a ≡ slice_index_or bs (at / 8) 0 → b ≡ slice_index_or bs (at / 8 + 1) 0 → i < 8 → (at % 8 + i < 8) ⊎ (8 ≤ at % 8 + i)
    → bit_at (b * 2 ^ 8 + a) (at % 8 + i) ≡ bit_at (slice_index_or bs ((at + i) / 8) 0) ((at + i) % 8)
bit_near bs at a b i la ea eb li (inl h) =
    let q : (at + i) / 8 ≡ at / 8 = omega (arith, h) in
    let r : (at + i) % 8 ≡ at % 8 + i = omega (arith, h) in
    bit_at_cat_low b 8 a (at % 8 + i) h ∙ rw (q, r, ea) refl
bit_near bs at a b i la ea eb li (inr h) =
    let q : (at + i) / 8 ≡ at / 8 + 1 = omega (arith, h, li) in
    let r : (at + i) % 8 ≡ at % 8 + i - 8 = omega (arith, h, li) in
    bit_at_cat_high b 8 a (at % 8 + i) la h ∙ rw (q, r, eb) refl

-- a byte that has the eight bits from a place on
eight_same : (b : ℕ) (bs : List ℕ) (at : ℕ) → ((i : ℕ) → i < 8 → bit_at b i ≡ bit_at (slice_index_or bs ((at + i) / 8) 0) ((at + i) % 8)) → bits_from (b ∷ []) 0 8 ≡ bits_from bs at 8
eight_same b bs at e = same_runs (b ∷ []) bs 0 at 8 (λ i h. let q : (0 + i) / 8 ≡ 0 = omega (arith, h) in let r : (0 + i) % 8 ≡ i = omega (arith, h) in rw (q, r) (ap (λ x. x == 1) (e i h)))

pub eight_whole : (b : ℕ) (bs : List ℕ) (at : ℕ) → b ≡ slice_index_or bs (at / 8) 0 → at % 8 ≡ 0 → bits_from (b ∷ []) 0 8 ≡ bits_from bs at 8
eight_whole b bs at e z =
    eight_same b bs at (λ i h. let q : (at + i) / 8 ≡ at / 8 = omega (arith, h, z) in let r : (at + i) % 8 ≡ i = omega (arith, h, z) in rw (q, r, e) refl)

pub eight_near : (c : ℕ) (bs : List ℕ) (at a b : ℕ) → c ≡ (b * 2 ^ 8 + a) / 2 ^ (at % 8) % 2 ^ 8 → a < 2 ^ 8 → a ≡ slice_index_or bs (at / 8) 0 → b ≡ slice_index_or bs (at / 8 + 1) 0 → bits_from (c ∷ []) 0 8 ≡ bits_from bs at 8
eight_near c bs at a b e la ea eb =
    eight_same c bs at (λ i h. ap (λ x. bit_at x i) e ∙ put_together a b (at % 8) i la (omega arith) h ∙ bit_near bs at a b i la ea eb h (below_or_from (at % 8 + i) 8))

-- ---- counts
no_ones : (b : ℕ) → b < 2 ^ 8 → count_ones (b / 2 ^ 8) ≡ 0
no_ones b h =
    let z : b / 2 ^ 8 ≡ 0 = omega (arith, h) in
    rw z (omega (arith, ones_le_self 0))

weight : (x : ℕ) → x < 2 → cond (not (x == 1)) 1 0 + x ≡ 1
weight zero h = refl
weight (suc zero) h = refl
weight (suc (suc x)) h = absurd (omega (arith, h))

unset_from : (b i k : ℕ) → i + k ≡ 8 → b < 2 ^ 8 → count_by not (bits_from (b ∷ []) i k) + count_ones (b / 2 ^ i) ≡ k
unset_from b i zero e h =
    let z : i ≡ 8 = omega (arith, e) in
    let o : count_ones (b / 2 ^ i) ≡ 0 = rw z (no_ones b h) in
    omega (arith, o)
unset_from b i (suc k) e h =
    let q : i / 8 ≡ 0 = omega (arith, e) in
    let r : i % 8 ≡ i = omega (arith, e) in
    let f : Bool → ℕ = λ x. cond (not x) 1 0 in
    let half : b / 2 ^ i / 2 ≡ b / 2 ^ (i + 1) = div-div-eq-div-mul b (2 ^ i) 2 ∙ ap (λ m. b / m) (sym (pow-add 2 i 1)) in
    let first : bit_of (b ∷ []) i ≡ (b / 2 ^ i % 2 == 1) = rw (q, r) refl in
    let w : f (bit_of (b ∷ []) i) + b / 2 ^ i % 2 ≡ 1 = rw first (weight (b / 2 ^ i % 2) (omega arith)) in
    let s : count_by not (bits_from (b ∷ []) i (suc k)) ≡ f (bit_of (b ∷ []) i) + count_by not (bits_from (b ∷ []) (i + 1) k) = sum_by-cons f (bit_of (b ∷ []) i) (bits_from (b ∷ []) (i + 1) k) in
    let o : count_ones (b / 2 ^ i) ≡ b / 2 ^ i % 2 + count_ones (b / 2 ^ (i + 1)) = ones_step (b / 2 ^ i) ∙ ap (λ m. b / 2 ^ i % 2 + count_ones m) half in
    omega (arith, s, o, w, unset_from b (i + 1) k (omega (arith, e)) h)

pub unset_byte : (b n : ℕ) → b < 2 ^ 8 → n ≡ count_ones b → 8 - n ≡ count_by not (bits_from (b ∷ []) 0 8)
unset_byte b n h e =
    let o : count_ones (b / 2 ^ 0) ≡ count_ones b = let q : b / 2 ^ 0 ≡ b = omega arith in ap count_ones q in
    omega (arith, unset_from b 0 8 refl h, o, e)

pub count_split : (bs : List ℕ) (at n m : ℕ) → count_by not (bits_from bs at (n + m)) ≡ count_by not (bits_from bs at n) + count_by not (bits_from bs (at + n) m)
count_split bs at n m = rw (bits_split bs at n m) (sum_by-append (λ x. cond (not x) 1 0) (bits_from bs at n) (bits_from bs (at + n) m))

pub count_fits : (bs : List ℕ) (at n : ℕ) → count_by not (bits_from bs at n) ≤ n
count_fits bs at n = omega (arith, count_by-le-length not (bits_from bs at n), length_bits bs at n)

-- ---- comparing
first_of : {A : Type 0} (x y : A) (xs ys : List A) → x ∷ xs ≡ y ∷ ys → (x ≡ y) × (xs ≡ ys)
first_of x y xs ys e = (cc, cc)

bits_equal : (a b i k : ℕ) → i + k ≡ 8 → bits_from (a ∷ []) i k ≡ bits_from (b ∷ []) i k → (j : ℕ) → i ≤ j → j < 8 → bit_at a j ≡ bit_at b j
bits_equal a b i zero e h j l m = absurd (omega (arith, e, l, m))
bits_equal a b i (suc k) e h j l m = here (bits_equal a b (i + 1) k (omega (arith, e)) (first_of _ _ _ _ h).1) (eqb_tells i j)
  where
    q : i / 8 ≡ 0
    q = omega (arith, e)

    r : i % 8 ≡ i
    r = omega (arith, e)

    two : (x y : ℕ) → x < 2 → y < 2 → (x == 1) ≡ (y == 1) → x ≡ y
    two zero zero h k e = refl
    two zero (suc zero) h k e = cc
    two (suc zero) zero h k e = cc
    two (suc zero) (suc zero) h k e = refl
    two (suc (suc x)) y h k e = absurd (omega (arith, h))
    two x (suc (suc y)) h k e = absurd (omega (arith, k))

    here : ((j : ℕ) → i + 1 ≤ j → j < 8 → bit_at a j ≡ bit_at b j) → ((nat_eq i j ≡ true) × (i ≡ j)) ⊎ ((nat_eq i j ≡ false) × (i ≢ j)) → bit_at a j ≡ bit_at b j
    here later (inl d) = rw (← d.1) (two (bit_at a i) (bit_at b i) (bit_at-lt a i) (bit_at-lt b i) (rw (q, r) at (first_of _ _ _ _ h).0))
    here later (inr d) = later j (omega (arith, l, d.1)) m

pub same_byte : (a b : ℕ) → a < 2 ^ 8 → b < 2 ^ 8 → bits_from (a ∷ []) 0 8 ≡ bits_from (b ∷ []) 0 8 → a ≡ b
same_byte a b h k e = same_from_bits_below 8 a b h k (λ i l. bits_equal a b 0 8 refl e i (omega arith) l)

-- equal runs have equal parts
pub same_part : (bs cs : List ℕ) (a b n k m : ℕ) → k + m ≤ n → bits_from bs a n ≡ bits_from cs b n → bits_from bs (a + k) m ≡ bits_from cs (b + k) m
same_part bs cs a b n k m h e = sym (cut_bits bs a n k m h) ∙ ap (λ r. take m (drop k r)) e ∙ cut_bits cs b n k m h

pub same_more : (bs cs : List ℕ) (a b k m n : ℕ) → n ≡ k + m → bits_from bs a k ≡ bits_from cs b k → bits_from bs (a + k) m ≡ bits_from cs (b + k) m → bits_from bs a n ≡ bits_from cs b n
same_more bs cs a b k m n s e f = rw (s, bits_split bs a k m, bits_split cs b k m, e, f) refl

pub refuses : {A : Type 0} → (A → ⊥) → Decides false A
refuses n = (λ f. absurd (true≢false (sym f)), λ a. absurd (n a))

pub same_bit : (x y : Bool) → not (beq x y) ≡ false → x ≡ y
same_bit true true e = refl
same_bit true false e = cc
same_bit false true e = cc
same_bit false false e = refl

-- ---- a bit or a byte more, as the loops compare them
pub single_more : (bs cs : List ℕ) (a b i : ℕ) (x y : Bool) → bits_from bs a i ≡ bits_from cs b i → x ≡ bit_of bs (a + i) → y ≡ bit_of cs (b + i) → not (beq x y) ≡ false → bits_from bs a (i + 1) ≡ bits_from cs b (i + 1)
single_more bs cs a b i x y e ex ey t =
    let f : bit_of bs (a + i) ≡ bit_of cs (b + i) = sym ex ∙ same_bit x y t ∙ ey in
    same_more bs cs a b i 1 (i + 1) refl e (rw f refl)

pub single_differs : (bs cs : List ℕ) (a b i n : ℕ) (x y : Bool) → i < n → x ≡ bit_of bs (a + i) → y ≡ bit_of cs (b + i) → not (beq x y) ≡ true → Decides false (bits_from bs a n ≡ bits_from cs b n)
single_differs bs cs a b i n x y h ex ey t =
    refuses (λ e. not_same x y t (ex ∙ (first_of (bit_of bs (a + i)) (bit_of cs (b + i)) [] [] (same_part bs cs a b n i 1 (omega (arith, h)) e)).0 ∙ sym ey))

pub whole_more : (bs cs : List ℕ) (a b i : ℕ) (x y : ℕ) → bits_from bs a (8 * i) ≡ bits_from cs b (8 * i) → bits_from (x ∷ []) 0 8 ≡ bits_from bs (a + 8 * i) 8 → bits_from (y ∷ []) 0 8 ≡ bits_from cs (b + 8 * i) 8 → x ≡ y
    → bits_from bs a (8 * (i + 1)) ≡ bits_from cs b (8 * (i + 1))
whole_more bs cs a b i x y e ex ey t =
    same_more bs cs a b (8 * i) 8 (8 * (i + 1)) (omega arith) e (sym ex ∙ ap (λ v. bits_from (v ∷ []) 0 8) t ∙ ey)

pub whole_differs : (bs cs : List ℕ) (a b i n : ℕ) (x y : ℕ) → i < n → x < 2 ^ 8 → y < 2 ^ 8 → bits_from (x ∷ []) 0 8 ≡ bits_from bs (a + 8 * i) 8 → bits_from (y ∷ []) 0 8 ≡ bits_from cs (b + 8 * i) 8 → x ≢ y
    → Decides false (bits_from bs a (8 * n) ≡ bits_from cs b (8 * n))
whole_differs bs cs a b i n x y h lx ly ex ey t =
    refuses (λ e. t (same_byte x y lx ly (ex ∙ same_part bs cs a b (8 * n) (8 * i) 8 (omega (arith, h)) e ∙ sym ey)))

pub front_differs : (bs cs : List ℕ) (a b n k : ℕ) (r : Bool) → k ≤ n → r ≡ false → Decides r (bits_from bs a k ≡ bits_from cs b k) → Decides false (bits_from bs a n ≡ bits_from cs b n)
front_differs bs cs a b n k r h f d =
    refuses (λ e. true≢false (sym (d.1 (sym (front_bits bs a n k h) ∙ ap (λ v. take k v) e ∙ front_bits cs b n k h)) ∙ f))

pub rest_tells : (bs cs : List ℕ) (a b n k m : ℕ) (r s : Bool) → n ≡ k + m → r ≡ true → Decides r (bits_from bs a k ≡ bits_from cs b k) → Decides s (bits_from bs (a + k) m ≡ bits_from cs (b + k) m) → Decides s (bits_from bs a n ≡ bits_from cs b n)
rest_tells bs cs a b n k m r s e t d f = (
  λ g. same_more bs cs a b k m n e (d.0 t) (f.0 g),
  λ g. f.1 (same_part bs cs a b n k m (omega (arith, e)) g),
)

-- ---- the count of the bits that are not set
as_number : (x : Bool) → bool_byte x ≡ cond x 1 0
as_number true = refl
as_number false = refl

pub count_one : (bs : List ℕ) (at n : ℕ) (x : Bool) → x ≡ bit_of bs (at + n) → count_by not (bits_from bs at (n + 1)) ≡ count_by not (bits_from bs at n) + bool_byte (not x)
count_one bs at n x e =
    let s : count_by not (bits_from bs (at + n) 1) ≡ cond (not x) 1 0 = rw e (omega (arith, sum_by-cons (λ (y : Bool). cond (not y) 1 0) (bit_of bs (at + n)) [])) in
    omega (arith, count_split bs at n 1, s, as_number (not x))

pub count_eight : (bs : List ℕ) (at i b u : ℕ) → bits_from (b ∷ []) 0 8 ≡ bits_from bs (at + 8 * i) 8 → u ≡ count_by not (bits_from (b ∷ []) 0 8) → count_by not (bits_from bs at (8 * (i + 1))) ≡ count_by not (bits_from bs at (8 * i)) + u
count_eight bs at i b u e f =
    let n : 8 * (i + 1) ≡ 8 * i + 8 = omega arith in
    rw (n, count_split bs at (8 * i) 8) (ap (λ v. count_by not (bits_from bs at (8 * i)) + v) (sym (f ∙ ap (count_by not) e)))
