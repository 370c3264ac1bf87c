-- Packed numbers from a bit of the first byte on.
use Rattle.std.proofs.Common.{◌≡◌, ℕ, zero, suc, ◌+◌, ◌-◌, ◌*◌, ◌/◌, ◌^◌, ◌<◌, ◌≤◌, List, [], ◌∷◌, ◌++◌, set, length, take, drop, refl, sym, ap, ◌∙◌, arith, append_assoc, ◌%◌, replicate}
use Rattle.std.proofs.Math.Nat.{add-mul-div_left, mul_assoc}
use Rattle.std.proofs.lemmas.Nat.{pow-add, pow_pos, shr-shr}
use Rattle.std.proofs.lemmas.List.{length-take, take-append-drop, take-append-le, take_all, length-drop, length-append}
use Rattle.std.proofs.Math.Seq.{drop-append_seam}
use Rattle.pq_numbers.proofs.Numbers.{number_stands}
use Rattle.pq_runs.specs.Taking.{IsPackedRun}
use lib.Lanes.{put_chunk}
use Rattle.pq_numbers.specs.Bits.{digits_of}
use Rattle.pq_numbers.specs.Texts.{number_of}
use Rattle.pq_numbers.proofs.Bytes.{AreBytes, number-drop}
use Rattle.pq_numbers.proofs.Digits.{length-digits, digits-high, number_of-append}
use Rattle.pq_runs.specs.Hybrid.{given, runs_items}
use Rattle.pq_runs.specs.State.{items_of}
use Rattle.pq_runs.proofs.Fields.{digits-parts}
use Rattle.read_walk.proofs.Filling.{given-append}

-- what lies above does not matter
high : (a c s e : ℕ) → (a + 2 ^ (s + e) * c) / 2 ^ s ≡ a / 2 ^ s + 2 ^ e * c
high a c s e =
    let split : 2 ^ (s + e) * c ≡ 2 ^ s * (2 ^ e * c) = ap (λ (x : ℕ). x * c) (pow-add 2 s e) ∙ mul_assoc (2 ^ s) (2 ^ e) c in
    ap (λ (x : ℕ). (a + x) / 2 ^ s) split ∙ add-mul-div_left a (2 ^ e * c) (pow_pos s)

-- the first eight bytes hold the first numbers
pub few-are : (w s n : ℕ) (xs : List ℕ) → s + w * n ≤ 8 * length (take 8 xs) → digits_of (2 ^ w) n (number_of (take 8 xs) / 2 ^ s) ≡ digits_of (2 ^ w) n (number_of xs / 2 ^ s)
few-are w s n xs enough =
    let a = number_of (take 8 xs) in
    let c = number_of (drop 8 xs) in
    let r : ℕ = 8 * length (take 8 xs) - (s + w * n) in
    let e : s + (w * n + r) ≡ 8 * length (take 8 xs) = omega (arith, enough) in
    let whole : number_of xs ≡ a + 2 ^ (s + (w * n + r)) * c = ap number_of (sym (take-append-drop 8 xs)) ∙ (number_of-append (take 8 xs) (drop 8 xs) ∙ ap (λ (j : ℕ). a + 2 ^ j * c) (sym e)) in
    sym (ap (λ (x : ℕ). digits_of (2 ^ w) n (x / 2 ^ s)) whole ∙ (ap (digits_of (2 ^ w) n) (high a c s (w * n + r)) ∙ digits-high w n (a / 2 ^ s) r c))

-- what lies behind their bytes does not matter for the numbers in front
pub front-are : (w n : ℕ) (xs ys : List ℕ) → w * n ≤ 8 * length xs → digits_of (2 ^ w) n (number_of (xs ++ ys) / 1) ≡ digits_of (2 ^ w) n (number_of xs / 1)
front-are w n xs ys enough =
    let r : ℕ = 8 * length xs - w * n in
    let e : w * n + r ≡ 8 * length xs = omega (arith, enough) in
    let a : number_of xs / 1 ≡ number_of xs = omega arith in
    let b : number_of (xs ++ ys) / 1 ≡ number_of (xs ++ ys) = omega arith in
    let whole : number_of (xs ++ ys) ≡ number_of xs + 2 ^ (w * n + r) * number_of ys = number_of-append xs ys ∙ ap (λ (j : ℕ). number_of xs + 2 ^ j * number_of ys) (sym e) in
    rw (a, b) (ap (digits_of (2 ^ w) n) whole ∙ digits-high w n (number_of xs) r (number_of ys))

-- a run's numbers, read from all bytes from its body on
pub begins-whole : (w left copies number j : ℕ) (body rest : List ℕ) → w * j ≤ 8 * length body → items_of w left copies number j (number_of (body ++ rest) / 1) rest ≡ items_of w left copies number j (number_of body / 1) rest
begins-whole w left copies number j body rest enough = ap (λ (xs : List ℕ). given (replicate copies number) ++ (given xs ++ runs_items (length rest) w (left - (copies + j)) rest)) (front-are w j body rest enough)

pub are-both : (xs ys : List ℕ) → AreBytes xs → AreBytes ys → AreBytes (xs ++ ys)
are-both [] ys a b = b
are-both (x ∷ xs) ys a b = more (are-both xs ys (λ k. a (suc k)) b)
  where
    more : AreBytes (xs ++ ys) → AreBytes (x ∷ (xs ++ ys))
    more rest zero = a 0
    more rest (suc k) = rest k

-- a run stands in the bytes with those behind it
pub body-size : (w : ℕ) (bytes body rest : List ℕ) → IsPackedRun w bytes body rest → length body + length rest ≤ length bytes
body-size w bytes body rest run =
    let s = number_stands bytes _ run.tail run.head in
    let both : body ++ rest ≡ run.tail = rw (run.is, run.behind) (take-append-drop (w * run.groups) run.tail) in
    omega (arith, ap length s.1 ∙ length-append s.0 run.tail, ap length both, length-append body rest)

-- the bytes from a run's body on
pub body-on : (w : ℕ) (bytes body rest : List ℕ) → IsPackedRun w bytes body rest → drop (length bytes - length rest - length body) bytes ≡ body ++ rest
body-on w bytes body rest run =
    let s = number_stands bytes _ run.tail run.head in
    let both : body ++ rest ≡ run.tail = rw (run.is, run.behind) (take-append-drop (w * run.groups) run.tail) in
    let whole : bytes ≡ s.0 ++ (body ++ rest) = s.1 ∙ ap (λ (t : List ℕ). s.0 ++ t) (sym both) in
    let size : length bytes ≡ length s.0 + (length body + length rest) = ap length whole ∙ (length-append s.0 (body ++ rest) ∙ ap (λ (k : ℕ). length s.0 + k) (length-append body rest)) in
    let place : length bytes - length rest - length body ≡ length s.0 = omega (arith, size) in
    ap (λ (k : ℕ). drop k bytes) place ∙ (ap (λ (t : List ℕ). drop (length s.0) t) whole ∙ drop-append_seam s.0 (body ++ rest))

-- the bits behind so many numbers
pub behind : (w s n : ℕ) (xs : List ℕ) → AreBytes xs → number_of xs / 2 ^ s / 2 ^ (w * n) ≡ number_of (drop ((s + w * n) / 8) xs) / 2 ^ ((s + w * n) % 8)
behind w s n xs are =
    let t : ℕ = s + w * n in
    let e : t ≡ 8 * (t / 8) + t % 8 = omega arith in
    shr-shr (number_of xs) s (w * n) ∙ (ap (λ (k : ℕ). number_of xs / 2 ^ k) e ∙ (sym (shr-shr (number_of xs) (8 * (t / 8)) (t % 8)) ∙ ap (λ (x : ℕ). x / 2 ^ (t % 8)) (number-drop (t / 8) xs are)))

-- so many of the standing numbers are taken
pub packed_taken : (w left number standing s n : ℕ) (packed bytes : List ℕ) → n ≤ standing → standing ≤ left → AreBytes packed
    → items_of w left 0 number standing (number_of packed / 2 ^ s) bytes
    ≡ given (digits_of (2 ^ w) n (number_of packed / 2 ^ s)) ++ items_of w (left - n) 0 number (standing - n) (number_of (drop ((s + w * n) / 8) packed) / 2 ^ ((s + w * n) % 8)) bytes
packed_taken w left number standing s n packed bytes some within are =
    let k : standing ≡ n + (standing - n) = omega (arith, some) in
    let c : left - (0 + standing) ≡ left - n - (0 + (standing - n)) = omega (arith, some, within) in
    let m : ℕ = number_of packed / 2 ^ s in
    let first : List ℕ = digits_of (2 ^ w) n m in
    let rest : List ℕ = digits_of (2 ^ w) (standing - n) (number_of (drop ((s + w * n) / 8) packed) / 2 ^ ((s + w * n) % 8)) in
    let parts : digits_of (2 ^ w) standing m ≡ first ++ rest = ap (λ (j : ℕ). digits_of (2 ^ w) j m) k ∙ (digits-parts w n (standing - n) m ∙ ap (λ (x : ℕ). first ++ digits_of (2 ^ w) (standing - n) x) (behind w s n packed are)) in
    let runs = runs_items (length bytes) w (left - n - (0 + (standing - n))) bytes in
    rw (parts, c) (ap (λ is. is ++ runs) (given-append first rest) ∙ append_assoc (given first) (given rest) runs)

-- where so many numbers stand, there are enough bytes for some of them, and behind them for the others
pub enough-bytes : (w s n standing : ℕ) (xs : List ℕ) → n ≤ standing → s + w * standing ≤ 8 * length xs → ((s + w * n) / 8 ≤ length xs) × ((s + w * n) % 8 + w * (standing - n) ≤ 8 * length (drop ((s + w * n) / 8) xs))
enough-bytes w s n standing xs some h =
    let k : standing ≡ n + (standing - n) = omega (arith, some) in
    let m : w * standing ≡ w * n + w * (standing - n) = ap (λ (j : ℕ). w * j) k ∙ omega arith in
    (omega (arith, m, h), omega (arith, m, h, length-drop ((s + w * n) / 8) xs))

-- the first eight of them are enough for at most eight narrow numbers
pub enough-few : (w s n standing : ℕ) (xs : List ℕ) → w ≤ 7 → s < 8 → n ≤ 8 → n ≤ standing → s + w * standing ≤ 8 * length xs → s + w * n ≤ 8 * length (take 8 xs)
enough-few w s n standing xs narrow small few some h =
    let k : standing ≡ n + (standing - n) = omega (arith, some) in
    let m : w * standing ≡ w * n + w * (standing - n) = ap (λ (j : ℕ). w * j) k ∙ omega arith in
    let e : 8 ≡ n + (8 - n) = omega (arith, few) in
    let o : w * 8 ≡ w * n + w * (8 - n) = ap (λ (j : ℕ). w * j) e ∙ omega arith in
    omega (arith, length-take 8 xs, m, o, h, narrow, small)

pub front_eight : (w m : ℕ) (front rest : List ℕ) → front ≡ digits_of (2 ^ w) 8 m → take 8 (front ++ rest) ≡ digits_of (2 ^ w) 8 m
front_eight w m front rest e =
    let size : length (digits_of (2 ^ w) 8 m) ≡ 8 = length-digits (2 ^ w) 8 m in
    rw e (take-append-le 8 (digits_of (2 ^ w) 8 m) rest (omega (arith, size)) ∙ take_all 8 (digits_of (2 ^ w) 8 m) (omega (arith, size)))

-- eight numbers written one after another
pub eight_put : (a b c d e f g h : ℕ) (xs : List ℕ) → 8 ≤ length xs → set (set (set (set (set (set (set (set xs 0 a) 1 b) 2 c) 3 d) 4 e) 5 f) 6 g) 7 h ≡ a ∷ b ∷ c ∷ d ∷ e ∷ f ∷ g ∷ h ∷ drop 8 xs
eight_put a b c d e f g h (x0 ∷ x1 ∷ x2 ∷ x3 ∷ x4 ∷ x5 ∷ x6 ∷ x7 ∷ xs) l = refl
eight_put a b c d e f g h [] l = absurd (omega (arith, l))
eight_put a b c d e f g h (x0 ∷ []) l = absurd (omega (arith, l))
eight_put a b c d e f g h (x0 ∷ x1 ∷ []) l = absurd (omega (arith, l))
eight_put a b c d e f g h (x0 ∷ x1 ∷ x2 ∷ []) l = absurd (omega (arith, l))
eight_put a b c d e f g h (x0 ∷ x1 ∷ x2 ∷ x3 ∷ []) l = absurd (omega (arith, l))
eight_put a b c d e f g h (x0 ∷ x1 ∷ x2 ∷ x3 ∷ x4 ∷ []) l = absurd (omega (arith, l))
eight_put a b c d e f g h (x0 ∷ x1 ∷ x2 ∷ x3 ∷ x4 ∷ x5 ∷ []) l = absurd (omega (arith, l))
eight_put a b c d e f g h (x0 ∷ x1 ∷ x2 ∷ x3 ∷ x4 ∷ x5 ∷ x6 ∷ []) l = absurd (omega (arith, l))

-- eight lanes written at once
pub lanes_put : (a b c d e f g h : ℕ) (xs : List ℕ) → 8 ≤ length xs → put_chunk 0 xs (a ∷ b ∷ c ∷ d ∷ e ∷ f ∷ g ∷ h ∷ []) ≡ a ∷ b ∷ c ∷ d ∷ e ∷ f ∷ g ∷ h ∷ drop 8 xs
lanes_put a b c d e f g h (x0 ∷ x1 ∷ x2 ∷ x3 ∷ x4 ∷ x5 ∷ x6 ∷ x7 ∷ []) l = refl
lanes_put a b c d e f g h (x0 ∷ x1 ∷ x2 ∷ x3 ∷ x4 ∷ x5 ∷ x6 ∷ x7 ∷ x8 ∷ xs) l = refl
lanes_put a b c d e f g h [] l = absurd (omega (arith, l))
lanes_put a b c d e f g h (x0 ∷ []) l = absurd (omega (arith, l))
lanes_put a b c d e f g h (x0 ∷ x1 ∷ []) l = absurd (omega (arith, l))
lanes_put a b c d e f g h (x0 ∷ x1 ∷ x2 ∷ []) l = absurd (omega (arith, l))
lanes_put a b c d e f g h (x0 ∷ x1 ∷ x2 ∷ x3 ∷ []) l = absurd (omega (arith, l))
lanes_put a b c d e f g h (x0 ∷ x1 ∷ x2 ∷ x3 ∷ x4 ∷ []) l = absurd (omega (arith, l))
lanes_put a b c d e f g h (x0 ∷ x1 ∷ x2 ∷ x3 ∷ x4 ∷ x5 ∷ []) l = absurd (omega (arith, l))
lanes_put a b c d e f g h (x0 ∷ x1 ∷ x2 ∷ x3 ∷ x4 ∷ x5 ∷ x6 ∷ []) l = absurd (omega (arith, l))

-- one number written behind others
pub put_next : (i x : ℕ) (xs : List ℕ) → i < length xs → take (suc i) (set xs i x) ≡ take i xs ++ x ∷ []
put_next i x [] h = absurd (omega (arith, h))
put_next zero x (y ∷ ys) h = refl
put_next (suc i) x (y ∷ ys) h = ap (λ (l : List ℕ). y ∷ l) (put_next i x ys (omega (arith, h)))

-- one number more of a word
pub next_digit : (w i word left : ℕ) → left ≡ word / 2 ^ (w * i) → (digits_of (2 ^ w) (i + 1) word ≡ digits_of (2 ^ w) i word ++ left % 2 ^ w ∷ []) × (left / 2 ^ w ≡ word / 2 ^ (w * (i + 1)))
next_digit w i word left e =
    let m : w * i + w ≡ w * (i + 1) = omega arith in
    rw e (digits-parts w i 1 word, shr-shr word (w * i) w ∙ ap (λ (k : ℕ). word / 2 ^ k) m)

-- eight numbers more of packed ones
pub next_eight : (w s i : ℕ) (xs : List ℕ) → w ≤ 7 → s < 8 → s + w * (8 * (i + 1)) ≤ 8 * length xs → AreBytes xs
    → digits_of (2 ^ w) (8 * (i + 1)) (number_of xs / 2 ^ s) ≡ digits_of (2 ^ w) (8 * i) (number_of xs / 2 ^ s) ++ digits_of (2 ^ w) 8 (number_of (take 8 (drop (w * i) xs)) / 2 ^ s)
next_eight w s i xs narrow small enough are =
    let m : ℕ = number_of xs / 2 ^ s in
    let a : w * (8 * (i + 1)) ≡ 8 * (w * i) + w * 8 = omega arith in
    let b : w * (8 * i) ≡ 8 * (w * i) = omega arith in
    let c : 8 * (i + 1) ≡ 8 * i + 8 = omega arith in
    let q : (s + w * (8 * i)) / 8 ≡ w * i = omega (arith, b, small) in
    let r : (s + w * (8 * i)) % 8 ≡ s = omega (arith, b, small) in
    let there : s + w * 8 ≤ 8 * length (take 8 (drop (w * i) xs)) = omega (arith, length-take 8 (drop (w * i) xs), length-drop (w * i) xs, a, enough, narrow, small) in
    ap (λ (j : ℕ). digits_of (2 ^ w) j m) c
    ∙ (digits-parts w (8 * i) 8 m ∙ ap (λ (x : ℕ). digits_of (2 ^ w) (8 * i) m ++ digits_of (2 ^ w) 8 x) (rw (q, r) at (behind w s (8 * i) xs are))
    ∙ ap (λ (l : List ℕ). digits_of (2 ^ w) (8 * i) m ++ l) (sym (few-are w s 8 (drop (w * i) xs) there)))
