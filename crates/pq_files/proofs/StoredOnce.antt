-- Stored values tell the values.
use Rattle.std.proofs.Common.{◌≡◌, ◌⊎◌, ℕ, zero, suc, ◌+◌, ◌*◌, ◌^◌, ◌<◌, ◌≤◌, ℤ, pos, ◌-ℤ◌, Bool, true, false, cond, nat_lt, List, [], ◌∷◌, length, Option, Some, None, refl, sym, ap, ◌∙◌, inl, inr, arith}
use Rattle.std.specs.Prelude.{fold}
use Rattle.std.specs.Int.{w32, w64, cast_unsigned}
use Rattle.std.proofs.lemmas.Int.{of_z-to_z, ints}
use Rattle.std.proofs.Math.Nat.{pow-le-pow_right, pow-suc, mul-le-mul_left, mul_assoc}
use Rattle.shredding.specs.Shape.{LeafType, truths, text, binary, signed, unsigned, fixed_bytes, decimal, months, days}
use Rattle.shredding.specs.Shred.{Triple}
use Rattle.shredding.specs.Slot.{Value, truth, number, bytes}
use Rattle.pq_tree.specs.Physical.{Physical, boolean, int32, int64, byte_array, fixed}
use Rattle.pq_metadata.proofs.Injective.{pos_same}
use Rattle.pq_files.specs.Once.{HasBytes, StoredValuesAreUnique}
use Rattle.pq_files.specs.Stored.{big_endian, signed_big_endian, IsStored, IsStoredOption, AreStored}
use Rattle.pq_files.proofs.Unique.{Every, every}

-- ---- the value that is stored so

abbrev pub number_in : Value → ℤ
number_in (number z) = z
number_in v = pos 0

abbrev pub bytes_in : Value → List ℕ
bytes_in (bytes t) = t
bytes_in v = []

abbrev pub value_of : LeafType → Physical → Value → Value
value_of (unsigned w) int32 s = number (pos (cast_unsigned w32 (number_in s)))
value_of (unsigned w) int64 s = number (pos (cast_unsigned w64 (number_in s)))
value_of decimal (fixed n) s = number (signed_big_endian (bytes_in s))
value_of t p s = s

below : (n w m : ℕ) → n < 2 ^ w → w ≤ m → n < 2 ^ m
below n w m h le = omega (arith, h, pow-le-pow_right (positive 2) le)
  where
    positive : (k : ℕ) → zero < 2
    positive k = omega arith

is_value_of : (t : LeafType) (p : Physical) (v s : Value) → IsStored t p v s → v ≡ value_of t p s
is_value_of truths boolean (truth b) s h = sym h
is_value_of (signed w) int32 (number z) s h = sym h.2
is_value_of (signed w) int64 (number z) s h = sym h.2
is_value_of (unsigned w) int32 (number (pos n)) s h =
    ap (λ (m : ℕ). number (pos m)) (sym (of_z-to_z w32 n (below n w 32 h.1 h.0))) ∙ ap (λ (r : Value). number (pos (cast_unsigned w32 (number_in r)))) (sym h.2)
is_value_of (unsigned w) int64 (number (pos n)) s h =
    ap (λ (m : ℕ). number (pos m)) (sym (of_z-to_z w64 n (below n w 64 h.1 (wide h.0)))) ∙ ap (λ (r : Value). number (pos (cast_unsigned w64 (number_in r)))) (sym h.2)
  where
    wide : (w ≡ 32) ⊎ (w ≡ 64) → w ≤ 64
    wide (inl e) = omega (arith, e)
    wide (inr e) = omega (arith, e)
is_value_of text byte_array (bytes t) s h = sym h.1
is_value_of binary byte_array (bytes t) s h = sym h
is_value_of (fixed_bytes n) (fixed m) (bytes t) s h = sym h.2
is_value_of decimal int32 (number z) s h = sym h.1
is_value_of decimal int64 (number z) s h = sym h.1
is_value_of decimal (fixed n) (number z) (bytes t) h = ap number h.3
is_value_of months (fixed n) (bytes t) s h = sym h.3
is_value_of days (fixed n) (bytes t) s h = sym h.3
is_value_of _ _ _ _ h = absurd h

shared : (t : LeafType) (p : Physical) (v w s : Value) → IsStored t p v s → IsStored t p w s → v ≡ w
shared t p v w s h k = is_value_of t p v s h ∙ sym (is_value_of t p w s k)

-- ---- one stored value

abbrev pub joined : ℕ → ℕ → ℕ
joined n b = 256 * n + b

big_same : (a c : ℕ) (s t : List ℕ) → Every (λ b. b < 256) s → Every (λ b. b < 256) t → length s ≡ length t → fold joined a s ≡ fold joined c t → (a ≡ c) × (s ≡ t)
big_same a c [] [] h k n e = (e, refl)
big_same a c [] (y ∷ t) h k n e = absurd (omega (arith, n))
big_same a c (x ∷ s) [] h k n e = absurd (omega (arith, n))
big_same a c (x ∷ s) (y ∷ t) h k n e =
    let r = big_same (joined a x) (joined c y) s t h.1 k.1 (omega (arith, n)) e in
    let heads : x ≡ y = omega (arith, r.0, h.0, k.0) in
    (omega (arith, r.0, h.0, k.0), ap (λ (z : ℕ). z ∷ s) heads ∙ ap (λ (zs : List ℕ). y ∷ zs) r.1)

big_below : (a : ℕ) (s : List ℕ) → Every (λ b. b < 256) s → fold joined a s < 256 ^ length s * (a + 1)
big_below a [] h = omega arith
big_below a (x ∷ s) h =
    let more : fold joined (256 * a + x) s < 256 ^ length s * (256 * a + x + 1) = big_below (256 * a + x) s h.1 in
    let least : 256 * a + x + 1 ≤ 256 * (a + 1) = omega (arith, h.0) in
    let wider : 256 ^ length s * (256 * a + x + 1) ≤ 256 ^ length s * (256 * (a + 1)) = mul-le-mul_left (256 ^ length s) least in
    let power : 256 ^ length s * (256 * (a + 1)) ≡ 256 ^ suc (length s) * (a + 1) = sym (mul_assoc (256 ^ length s) 256 (a + 1)) ∙ ap (λ (n : ℕ). n * (a + 1)) (sym (pow-suc 256 (length s))) in
    omega (arith, more, wider, power)

signed_same : (x y n : ℕ) → x < n → y < n → (b c : Bool) → cond b (pos x) (pos x -ℤ pos n) ≡ cond c (pos y) (pos y -ℤ pos n) → x ≡ y
signed_same x y n h k true true e = pos_same x y e
signed_same x y n h k true false e = absurd (omega (arith, ints, e, k))
signed_same x y n h k false true e = absurd (omega (arith, ints, e, h))
signed_same x y n h k false false e = omega (arith, ints, e)

decimals_same : (s t : List ℕ) → Every (λ b. b < 256) s → Every (λ b. b < 256) t → length s ≡ length t → signed_big_endian s ≡ signed_big_endian t → s ≡ t
decimals_same s t h k n e =
    let low : big_endian s < 256 ^ length t = omega (arith, big_below 0 s h, ap (λ (m : ℕ). 256 ^ m) n) in
    let high : big_endian t < 256 ^ length t = omega (arith, big_below 0 t k) in
    let e' : cond (nat_lt (2 * big_endian s) (256 ^ length t)) (pos (big_endian s)) (pos (big_endian s) -ℤ pos (256 ^ length t)) ≡ signed_big_endian t =
    ap (λ (m : ℕ). cond (nat_lt (2 * big_endian s) (256 ^ m)) (pos (big_endian s)) (pos (big_endian s) -ℤ pos (256 ^ m))) (sym n) ∙ e in
    (big_same 0 0 s t h k n (signed_same (big_endian s) (big_endian t) (256 ^ length t) low high (nat_lt (2 * big_endian s) (256 ^ length t)) (nat_lt (2 * big_endian t) (256 ^ length t)) e')).1

one_stored : (t : LeafType) (p : Physical) (v s r : Value) → HasBytes s → HasBytes r → IsStored t p v s → IsStored t p v r → s ≡ r
one_stored truths boolean (truth b) s r x y h k = h ∙ sym k
one_stored (signed w) int32 (number z) s r x y h k = h.2 ∙ sym k.2
one_stored (signed w) int64 (number z) s r x y h k = h.2 ∙ sym k.2
one_stored (unsigned w) int32 (number (pos n)) s r x y h k = h.2 ∙ sym k.2
one_stored (unsigned w) int64 (number (pos n)) s r x y h k = h.2 ∙ sym k.2
one_stored text byte_array (bytes t) s r x y h k = h.1 ∙ sym k.1
one_stored binary byte_array (bytes t) s r x y h k = h ∙ sym k
one_stored (fixed_bytes n) (fixed m) (bytes t) s r x y h k = h.2 ∙ sym k.2
one_stored decimal int32 (number z) s r x y h k = h.1 ∙ sym k.1
one_stored decimal int64 (number z) s r x y h k = h.1 ∙ sym k.1
one_stored decimal (fixed n) (number z) (bytes s) (bytes r) x y h k = ap bytes (decimals_same s r (every (λ b. b < 256) s x) (every (λ b. b < 256) r y) (h.2 ∙ sym k.2) (sym h.3 ∙ k.3))
one_stored months (fixed n) (bytes t) s r x y h k = h.3 ∙ sym k.3
one_stored days (fixed n) (bytes t) s r x y h k = h.3 ∙ sym k.3
one_stored decimal (fixed n) (number z) (bytes s) (truth r) x y h k = absurd k
one_stored decimal (fixed n) (number z) (bytes s) (number r) x y h k = absurd k
one_stored _ _ _ _ _ x y h k = absurd h

-- ---- triples

option_same : (t : LeafType) (p : Physical) (v w s : Option Value) → IsStoredOption t p v s → IsStoredOption t p w s → v ≡ w
option_same t p None None None h k = refl
option_same t p (Some v) (Some w) (Some s) h k = ap Some (shared t p v w s h k)
option_same t p None (Some w) None h k = absurd k
option_same t p (Some v) None (Some s) h k = absurd k
option_same t p None w (Some s) h k = absurd h
option_same t p (Some v) w None h k = absurd h

triples_same : (t : LeafType) (p : Physical) (xs ys zs : List Triple) → AreStored t p xs zs → AreStored t p ys zs → xs ≡ ys
triples_same t p [] [] [] h k = refl
triples_same t p [] (y ∷ ys) [] h k = absurd k
triples_same t p (x ∷ xs) ys [] h k = absurd h
triples_same t p [] ys (z ∷ zs) h k = absurd h
triples_same t p (x ∷ xs) [] (z ∷ zs) h k = absurd k
triples_same t p (x ∷ xs) (y ∷ ys) (z ∷ zs) h k =
    let r : x.repetition ≡ y.repetition = sym h.0.repetition ∙ k.0.repetition in
    let d : x.definition ≡ y.definition = sym h.0.definition ∙ k.0.definition in
    let v : x.value ≡ y.value = option_same t p x.value y.value z.value h.0.value k.0.value in
    let first : x ≡ y = λ i. record { repetition = r i; definition = d i; value = v i } in
    ap (λ u. u ∷ xs) first ∙ ap (λ us. y ∷ us) (triples_same t p xs ys zs h.1 k.1)

pub are_unique : StoredValuesAreUnique
are_unique = record { stored = one_stored; shared = shared; triples = triples_same }
