-- Levels of one bit in words.
use Rattle.std.proofs.Common.{◌≡◌, ℕ, zero, suc, ◌+◌, ◌-◌, ◌*◌, ◌/◌, ◌%◌, ◌^◌, ◌<◌, ◌≤◌, ◌++◌, inl, inr, List, [], ◌∷◌, length, take, drop, get_or, nat_lt, true, Some, replicate, refl, arith, ap, sym, ◌∙◌, pow-suc, append_assoc}
use Rattle.std.proofs.Math.Arith.{mod-mul}
use Rattle.std.proofs.Math.Pow.{pow_mono}
use Rattle.std.proofs.lemmas.Nat.{pow_pos, pow-add, mul-add-lt}
use Rattle.std.proofs.lemmas.List.{length-take, take_all}
use Rattle.std.proofs.lemmas.Bool.Decides.{leb_tells}
use Rattle.pq_numbers.specs.Varint.{varint_at, varint_up_to}
use Rattle.pq_numbers.specs.Bits.{digits_of}
use Rattle.pq_numbers.specs.Texts.{number_of}
use Rattle.pq_runs.specs.Hybrid.{Item as LevelItem, given}
use Rattle.pq_runs.proofs.HeldBits.{digits-append}
use Rattle.read_walk.specs.Words.{TakesBits}
use Rattle.read_walk.proofs.Eights.{few-are}
use Rattle.read_walk.proofs.Filling.{given-append}

-- all bits set
pub ones-digits : (n k : ℕ) → n ≤ k → digits_of 2 n (2 ^ k - 1) ≡ replicate n 1
ones-digits zero k h = refl
ones-digits (suc n) zero h = absurd (omega (arith, h))
ones-digits (suc n) (suc k) h =
    let p : 2 ^ suc k ≡ 2 ^ k * 2 = pow-suc 2 k in
    let some = pow_pos k in
    let low : (2 ^ suc k - 1) % 2 ≡ 1 = omega (arith, p, some) in
    let high : (2 ^ suc k - 1) / 2 ≡ 2 ^ k - 1 = omega (arith, p, some) in
    rw (low, high) (ap (λ (l : List ℕ). 1 ∷ l) (ones-digits n k (omega (arith, h))))

pub zero-digits : (n : ℕ) → digits_of 2 n 0 ≡ replicate n 0
zero-digits zero = refl
zero-digits (suc n) = ap (λ (l : List ℕ). 0 ∷ l) (zero-digits n)

-- the lowest bits alone
pub low-digits : (n m : ℕ) → digits_of 2 n (m % 2 ^ n) ≡ digits_of 2 n m
low-digits zero m = refl
low-digits (suc n) m =
    let p : 2 ^ suc n ≡ 2 ^ n * 2 = pow-suc 2 n in
    let e : m % 2 ^ suc n ≡ (m / 2 % 2 ^ n) * 2 + m % 2 = ap (λ (k : ℕ). m % k) p ∙ mod-mul m (pow_pos n) (omega arith) in
    let low : m % 2 ^ suc n % 2 ≡ m % 2 = omega (arith, e) in
    let high : m % 2 ^ suc n / 2 ≡ m / 2 % 2 ^ n = omega (arith, e) in
    rw (low, high) (ap (λ (l : List ℕ). m % 2 ∷ l) (low-digits n (m / 2)))

pub join-fits : (word done bits count : ℕ) → word < 2 ^ done → bits < 2 ^ count → done + count ≤ 64 → bits * 2 ^ done + word < 2 ^ 64
join-fits word done bits count h k few =
    let below = mul-add-lt bits (2 ^ done) word (2 ^ count) k h in
    let e : 2 ^ (done + count) ≡ 2 ^ done * 2 ^ count = pow-add 2 done count in
    let most : 2 ^ (done + count) ≤ 2 ^ 64 = pow_mono few in
    omega (arith, below, e, most)

pub join-below : (word done bits count : ℕ) → word < 2 ^ done → bits < 2 ^ count → word + 2 ^ done * bits < 2 ^ (done + count)
join-below word done bits count h k =
    let below = mul-add-lt bits (2 ^ done) word (2 ^ count) k h in
    let e : 2 ^ (done + count) ≡ 2 ^ done * 2 ^ count = pow-add 2 done count in
    let turned : 2 ^ done * bits ≡ bits * 2 ^ done = omega arith in
    omega (arith, below, e, turned)

-- a number of one byte
pub one-byte : (bytes : List ℕ) → 0 < length bytes → get_or bytes 0 0 < 128 → varint_at bytes ≡ Some (get_or bytes 0 0, take (length bytes - 1) (drop 1 bytes))
unfolding varint_up_to
one-byte [] h l = absurd (omega (arith, h))
one-byte (b ∷ bs) h l =
    let less : nat_lt b 128 ≡ true = elim (leb_tells (suc b) 128) [ inl e ↦ e.0 | inr e ↦ absurd (omega (arith, e.1, l)) ] in
    let all : take (suc (length bs) - 1) bs ≡ bs = take_all (suc (length bs) - 1) bs (omega arith) in
    rw (less, all) refl

-- bits of packed numbers
pub packed-bits : (w s n standing : ℕ) (xs : List ℕ) → w ≡ 1 → n ≤ standing → n ≤ 64 - s → s < 8 → s + w * standing ≤ 8 * length xs → digits_of 2 n (number_of (take 8 xs) / 2 ^ s % 2 ^ n) ≡ digits_of (2 ^ w) n (number_of xs / 2 ^ s)
packed-bits w s n standing xs e there few small enough =
    let h : s + 1 * standing ≤ 8 * length xs = rw e at enough in
    let k : s + 1 * n ≤ 8 * length (take 8 xs) = omega (arith, h, there, few, small, length-take 8 xs) in
    rw e (low-digits n (number_of (take 8 xs) / 2 ^ s) ∙ few-are 1 s n xs k)

-- more bits behind those that were taken
pub joined-bits : (word done bits count room : ℕ) (all old new : List LevelItem) → word < 2 ^ done → all ≡ given (digits_of 2 done word) ++ old → TakesBits room bits count old new → all ≡ given (digits_of 2 (done + count) (word + 2 ^ done * bits)) ++ new
joined-bits word done bits count room all old new h e t =
    e
    ∙ (ap (λ (is : List LevelItem). given (digits_of 2 done word) ++ is) t.first
    ∙ (sym (append_assoc (given (digits_of 2 done word)) (given (digits_of 2 count bits)) new)
    ∙ ap (λ (is : List LevelItem). is ++ new) (sym (given-append (digits_of 2 done word) (digits_of 2 count bits)) ∙ ap given (sym (digits-append done count word bits h)))))
