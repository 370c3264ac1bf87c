-- Fields of packed numbers, and lists of them in parts.
use Rattle.std.proofs.Common.{◌≡◌, ℕ, zero, suc, ◌+◌, ◌-◌, ◌*◌, ◌/◌, ◌%◌, ◌^◌, ◌<◌, ◌≤◌, List, ◌∷◌, ◌++◌, length, take, drop, sym, ap, ◌∙◌, arith}
use Rattle.std.proofs.lemmas.Nat.{shr-shr}
use Rattle.std.proofs.lemmas.List.{take-append-drop, length-take}
use Rattle.pq_numbers.specs.Bits.{digits_of, unpacked}
use Rattle.pq_numbers.specs.Texts.{number_of}
use Rattle.pq_numbers.proofs.Bytes.{AreBytes, field-low, number-drop}
use Rattle.pq_numbers.proofs.Digits.{number_of-append}

-- a field that lies in the first k bytes
pub field-of-front : (k : ℕ) (xs : List ℕ) (s w : ℕ) → s + w ≤ 8 * length (take k xs) → number_of (take k xs) / 2 ^ s % 2 ^ w ≡ number_of xs / 2 ^ s % 2 ^ w
field-of-front k xs s w enough =
    let e : w + s + (8 * length (take k xs) - (w + s)) ≡ 8 * length (take k xs) = omega (arith, enough) in
    let whole : number_of xs ≡ number_of (take k xs) + 2 ^ (8 * length (take k xs)) * number_of (drop k xs) = ap number_of (sym (take-append-drop k xs)) ∙ number_of-append (take k xs) (drop k xs) in
    sym (ap (λ (x : ℕ). x / 2 ^ s % 2 ^ w) (whole ∙ ap (λ (j : ℕ). number_of (take k xs) + 2 ^ j * number_of (drop k xs)) (sym e)) ∙ field-low (number_of (take k xs)) (number_of (drop k xs)) s w (8 * length (take k xs) - (w + s)))

pub field-of-eight : (xs : List ℕ) (s w : ℕ) → s < 8 → w ≤ 32 → s + w ≤ 8 * length xs → number_of (take 8 xs) / 2 ^ s % 2 ^ w ≡ number_of xs / 2 ^ s % 2 ^ w
field-of-eight xs s w low fits enough = field-of-front 8 xs s w (omega (arith, length-take 8 xs, enough))

-- ---- packed numbers in two parts

pub digits-parts : (w a b m : ℕ) → digits_of (2 ^ w) (a + b) m ≡ digits_of (2 ^ w) a m ++ digits_of (2 ^ w) b (m / 2 ^ (w * a))
digits-parts w zero b m =
    let n : 0 + b ≡ b = omega arith in
    let z : w * 0 ≡ 0 = omega arith in
    let one : m / 2 ^ 0 ≡ m = omega arith in
    ap (λ (k : ℕ). digits_of (2 ^ w) k m) n ∙ sym (ap (λ (k : ℕ). digits_of (2 ^ w) b (m / 2 ^ k)) z ∙ ap (λ (x : ℕ). digits_of (2 ^ w) b x) one)
digits-parts w (suc a) b m =
    let n : suc a + b ≡ suc (a + b) = omega arith in
    let k : w + w * a ≡ w * suc a = omega arith in
    let high : m / 2 ^ w / 2 ^ (w * a) ≡ m / 2 ^ (w * suc a) = shr-shr m w (w * a) ∙ ap (λ (j : ℕ). m / 2 ^ j) k in
    ap (λ (j : ℕ). digits_of (2 ^ w) j m) n ∙ ap (λ (t : List ℕ). m % 2 ^ w ∷ t) (digits-parts w a b (m / 2 ^ w) ∙ ap (λ (x : ℕ). digits_of (2 ^ w) a (m / 2 ^ w) ++ digits_of (2 ^ w) b x) high)

-- eight times q numbers stand in w times q bytes
pub unpacked-parts : (w q b : ℕ) (xs : List ℕ) → AreBytes xs → unpacked w (8 * q + b) xs ≡ unpacked w (8 * q) xs ++ unpacked w b (drop (q * w) xs)
unpacked-parts w q b xs h =
    let e : w * (8 * q) ≡ 8 * (q * w) = omega arith in
    digits-parts w (8 * q) b (number_of xs)
    ∙ ap (λ (j : ℕ). unpacked w (8 * q) xs ++ digits_of (2 ^ w) b (number_of xs / 2 ^ j)) e
    ∙ ap (λ (x : ℕ). unpacked w (8 * q) xs ++ digits_of (2 ^ w) b x) (number-drop (q * w) xs h)
