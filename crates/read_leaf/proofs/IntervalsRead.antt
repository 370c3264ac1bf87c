-- Intervals from their twelve bytes.
use Rattle.std.proofs.Common.{◌≡◌, inl, inr, ℕ, suc, ◌/◌, ◌%◌, ◌^◌, ◌<◌, ◌==◌, ℤ, pos, Bool, true, false, true≢false, Some, None, List, [], ◌∷◌, ◌++◌, length, take, drop, replicate, refl, arith, ap, sym, ◌∙◌, if◌then◌else◌}
use Rattle.std.specs.Prelude.{◌&&◌, slice_index_or}
use Rattle.std.specs.Int.{w32, cast_signed, cast_unsigned}
use Rattle.std.proofs.lemmas.Bool.{and_parts}
use Rattle.std.proofs.lemmas.Int.{of_z-to_z}
use Rattle.std.proofs.lemmas.Bool.Decides.{leb_tells, eqb_tells}
use Rattle.shredding.specs.Slot.{bytes}
use Rattle.columns_core.specs.Natives.{two_power_32, four_bytes, interval_bytes, value_i32, value_days}
use Rattle.columns_core.specs.Tree.{t_interval}
use Rattle.columns_core.specs.declared.types.IntervalUnit.TheVariants.{YearMonth, DayTime}
use Rattle.pq_numbers.specs.Texts.{number_of}
use Rattle.read_walk.specs.Values.{Stored}
use Rattle.read_leaf.specs.Fixed.{are_zeros, loaded_days, loaded_months}

abbrev IsLow : ℕ → Type 0
IsLow b = b < 256

-- ---- four bytes and their number

number-low : (a b c d : ℕ) → IsLow a → IsLow b → IsLow c → IsLow d → number_of (a ∷ b ∷ c ∷ d ∷ []) < 2 ^ 32
number-low a b c d ha hb hc hd = omega (arith, ha, hb, hc, hd)

two_power : (n : ℕ) → n < 2 ^ 32 → two_power_32 (cast_signed w32 n) ≡ n
two_power n h = elim (leb_tells (suc n) (2 ^ 31)) [ inl e ↦ rw e.0 refl | inr e ↦ rw e.0 (omega (arith, h, e.1)) ]

four_again : (a b c d : ℕ) → IsLow a → IsLow b → IsLow c → IsLow d → four_bytes (number_of (a ∷ b ∷ c ∷ d ∷ [])) ≡ a ∷ b ∷ c ∷ d ∷ []
four_again a b c d ha hb hc hd =
    let n : ℕ = number_of (a ∷ b ∷ c ∷ d ∷ []) in
    let ea : n % 256 ≡ a = omega (arith, ha) in
    let eb : n / 256 % 256 ≡ b = omega (arith, ha, hb) in
    let ec : n / 65536 % 256 ≡ c = omega (arith, ha, hb, hc) in
    let ed : n / 16777216 % 256 ≡ d = omega (arith, ha, hb, hc, hd) in
    λ i. ea i ∷ eb i ∷ ec i ∷ ed i ∷ []

number_again : (a b c d : ℕ) (z : ℤ) → IsLow a → IsLow b → IsLow c → IsLow d → z ≡ cast_signed w32 (number_of (a ∷ b ∷ c ∷ d ∷ [])) → four_bytes (two_power_32 z) ≡ a ∷ b ∷ c ∷ d ∷ []
number_again a b c d z ha hb hc hd e =
    ap (λ (y : ℤ). four_bytes (two_power_32 y)) e ∙ (ap four_bytes (two_power (number_of (a ∷ b ∷ c ∷ d ∷ [])) (number-low a b c d ha hb hc hd)) ∙ four_again a b c d ha hb hc hd)

-- the number as it is read again
read_again : (n : ℕ) (y : ℤ) → n < 2 ^ 32 → y ≡ cast_signed w32 n → cast_signed w32 (cast_unsigned w32 y) ≡ cast_signed w32 n
read_again n y h e = ap (λ (q : ℤ). cast_signed w32 (cast_unsigned w32 q)) e ∙ ap (cast_signed w32) (of_z-to_z w32 n h)

number_twice : (a b c d : ℕ) (y : ℤ) → IsLow a → IsLow b → IsLow c → IsLow d → y ≡ cast_signed w32 (number_of (a ∷ b ∷ c ∷ d ∷ [])) → four_bytes (two_power_32 (cast_signed w32 (cast_unsigned w32 y))) ≡ a ∷ b ∷ c ∷ d ∷ []
number_twice a b c d y ha hb hc hd e =
    number_again a b c d _ ha hb hc hd (read_again (number_of (a ∷ b ∷ c ∷ d ∷ [])) y (number-low a b c d ha hb hc hd) e)

-- ---- zeros

zero_is : (b : ℕ) → (b == 0) ≡ true → b ≡ 0
zero_is b e = elim (eqb_tells b 0) [ inl h ↦ h.1 | inr h ↦ absurd (true≢false (sym e ∙ h.0)) ]

pub all_zeros : (s : List ℕ) → are_zeros s ≡ true → s ≡ replicate (length s) 0
all_zeros [] e = refl
all_zeros (b ∷ bs) e = let p = and_parts (b == 0) (are_zeros bs) e in λ i. zero_is b p.0 i ∷ all_zeros bs p.1 i

-- ---- whole intervals

holds : (x y : Bool) (v : Stored) → x ≡ true → y ≡ true → v ≡ (if x && y then v else None)
holds true true v a b = refl
holds true false v a b = absurd (true≢false (sym b))
holds false y v a b = absurd (true≢false (sym a))

fails : (x y : Bool) (v : Stored) → (x ≡ true → y ≡ true → ⊥) → None ≡ (if x && y then v else None)
fails true true v f = absurd (f refl refl)
fails true false v f = refl
fails false y v f = refl

twelve : (s : List ℕ) → length s ≡ 12 → (length s == 12) ≡ true
twelve s l = ap (λ (n : ℕ). n == 12) l

twelve_is : (n m : ℕ) → (n == m) ≡ true → n ≡ m
twelve_is n m e = elim (eqb_tells n m) [ inl h ↦ h.1 | inr h ↦ absurd (true≢false (sym e ∙ h.0)) ]

pub no_months_size : (s : List ℕ) → (length s ≡ 12 → ⊥) → None ≡ loaded_months s
no_months_size s n = fails (length s == 12) (are_zeros (drop 4 s)) (Some (bytes s)) (λ x y. n (twelve_is (length s) 12 x))

pub no_days_size : (s : List ℕ) → (length s ≡ 12 → ⊥) → None ≡ loaded_days s
no_days_size s n = fails (length s == 12) (are_zeros (take 4 s)) (Some (bytes s)) (λ x y. n (twelve_is (length s) 12 x))

pub no_months : (s : List ℕ) → are_zeros (drop 4 s) ≡ false → None ≡ loaded_months s
no_months s f = fails (length s == 12) (are_zeros (drop 4 s)) (Some (bytes s)) (λ x y. true≢false (sym y ∙ f))

pub no_days : (s : List ℕ) → are_zeros (take 4 s) ≡ false → None ≡ loaded_days s
no_days s f = fails (length s == 12) (are_zeros (take 4 s)) (Some (bytes s)) (λ x y. true≢false (sym y ∙ f))

eight_zeros : (rest : List ℕ) → are_zeros rest ≡ true → length rest ≡ 8 → rest ≡ replicate 8 0
eight_zeros rest z l = all_zeros rest z ∙ ap (λ (n : ℕ). replicate n 0) l

pub months_read : (s : List ℕ) (z : ℤ) → length s ≡ 12 → are_zeros (drop 4 s) ≡ true → ((i : ℕ) → IsLow (slice_index_or s i 0)) → z ≡ cast_signed w32 (number_of (take 4 (drop 0 s))) → Some (value_i32 (t_interval YearMonth) (cast_signed w32 (cast_unsigned w32 z))) ≡ loaded_months s
months_read (a ∷ b ∷ c ∷ d ∷ rest) z l zeros low e =
    let whole : interval_bytes (cast_signed w32 (cast_unsigned w32 z)) (pos 0) (pos 0) ≡ a ∷ b ∷ c ∷ d ∷ rest =
    ap (λ (f : List ℕ). f ++ four_bytes 0 ++ four_bytes 0) (number_twice a b c d z (low 0) (low 1) (low 2) (low 3) e) ∙ ap (λ (r : List ℕ). a ∷ b ∷ c ∷ d ∷ r) (sym (eight_zeros rest zeros (omega (arith, l)))) in
    ap (λ (t : List ℕ). Some (bytes t)) whole ∙ holds (length (a ∷ b ∷ c ∷ d ∷ rest) == 12) (are_zeros rest) (Some (bytes (a ∷ b ∷ c ∷ d ∷ rest))) (twelve (a ∷ b ∷ c ∷ d ∷ rest) l) zeros
months_read [] z l zeros low e = absurd (omega (arith, l))
months_read (a ∷ []) z l zeros low e = absurd (omega (arith, l))
months_read (a ∷ b ∷ []) z l zeros low e = absurd (omega (arith, l))
months_read (a ∷ b ∷ c ∷ []) z l zeros low e = absurd (omega (arith, l))

-- bytes with eight of them behind the first four
days_of_eight : (p q r s : ℕ) (rest : List ℕ) (x y : ℤ) → length rest ≡ 8 → are_zeros (p ∷ q ∷ r ∷ s ∷ []) ≡ true → ((i : ℕ) → IsLow (slice_index_or rest i 0)) → x ≡ cast_signed w32 (number_of (take 4 rest)) → y ≡ cast_signed w32 (number_of (take 4 (drop 4 rest))) → interval_bytes (pos 0) (cast_signed w32 (cast_unsigned w32 x)) (cast_signed w32 (cast_unsigned w32 y)) ≡ p ∷ q ∷ r ∷ s ∷ rest
days_of_eight p q r s (a ∷ b ∷ c ∷ d ∷ e ∷ f ∷ g ∷ h ∷ []) x y l zeros low ex ey =
    let first : four_bytes 0 ≡ p ∷ q ∷ r ∷ s ∷ [] = sym (all_zeros (p ∷ q ∷ r ∷ s ∷ []) zeros) in
    let days = number_twice a b c d x (low 0) (low 1) (low 2) (low 3) ex in
    let ms = number_twice e f g h y (low 4) (low 5) (low 6) (low 7) ey in
    ap (λ (t : List ℕ). t ++ four_bytes (two_power_32 (cast_signed w32 (cast_unsigned w32 x))) ++ four_bytes (two_power_32 (cast_signed w32 (cast_unsigned w32 y)))) first
    ∙ (ap (λ (t : List ℕ). (p ∷ q ∷ r ∷ s ∷ []) ++ t ++ four_bytes (two_power_32 (cast_signed w32 (cast_unsigned w32 y)))) days
    ∙ ap (λ (t : List ℕ). (p ∷ q ∷ r ∷ s ∷ []) ++ (a ∷ b ∷ c ∷ d ∷ []) ++ t) ms)
days_of_eight p q r s [] x y l zeros low ex ey = absurd (omega (arith, l))
days_of_eight p q r s (a ∷ []) x y l zeros low ex ey = absurd (omega (arith, l))
days_of_eight p q r s (a ∷ b ∷ []) x y l zeros low ex ey = absurd (omega (arith, l))
days_of_eight p q r s (a ∷ b ∷ c ∷ []) x y l zeros low ex ey = absurd (omega (arith, l))
days_of_eight p q r s (a ∷ b ∷ c ∷ d ∷ []) x y l zeros low ex ey = absurd (omega (arith, l))
days_of_eight p q r s (a ∷ b ∷ c ∷ d ∷ e ∷ []) x y l zeros low ex ey = absurd (omega (arith, l))
days_of_eight p q r s (a ∷ b ∷ c ∷ d ∷ e ∷ f ∷ []) x y l zeros low ex ey = absurd (omega (arith, l))
days_of_eight p q r s (a ∷ b ∷ c ∷ d ∷ e ∷ f ∷ g ∷ []) x y l zeros low ex ey = absurd (omega (arith, l))
days_of_eight p q r s (a ∷ b ∷ c ∷ d ∷ e ∷ f ∷ g ∷ h ∷ i ∷ more) x y l zeros low ex ey = absurd (omega (arith, l))

pub days_read : (s : List ℕ) (x y : ℤ) → length s ≡ 12 → are_zeros (take 4 s) ≡ true → ((i : ℕ) → IsLow (slice_index_or s i 0)) → x ≡ cast_signed w32 (number_of (take 4 (drop 4 s))) → y ≡ cast_signed w32 (number_of (take 4 (drop 8 s))) → Some (value_days (t_interval DayTime) (record { days = cast_signed w32 (cast_unsigned w32 x); milliseconds = cast_signed w32 (cast_unsigned w32 y) })) ≡ loaded_days s
days_read (p ∷ q ∷ r ∷ s ∷ rest) x y l zeros low ex ey =
    ap (λ (t : List ℕ). Some (bytes t)) (days_of_eight p q r s rest x y (omega (arith, l)) zeros (λ i. low (suc (suc (suc (suc i))))) ex ey) ∙ holds (length (p ∷ q ∷ r ∷ s ∷ rest) == 12) (are_zeros (p ∷ q ∷ r ∷ s ∷ [])) (Some (bytes (p ∷ q ∷ r ∷ s ∷ rest))) (twelve (p ∷ q ∷ r ∷ s ∷ rest) l) zeros
days_read [] x y l zeros low ex ey = absurd (omega (arith, l))
days_read (a ∷ []) x y l zeros low ex ey = absurd (omega (arith, l))
days_read (a ∷ b ∷ []) x y l zeros low ex ey = absurd (omega (arith, l))
days_read (a ∷ b ∷ c ∷ []) x y l zeros low ex ey = absurd (omega (arith, l))
