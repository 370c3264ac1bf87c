-- The plain spelling has one reading.
use Rattle.std.proofs.Common.{◌≡◌, ℕ, ℤ, List, [], ◌∷◌, ◌++◌, map, length, refl, sym, ap, ◌∙◌, arith}
use Rattle.std.proofs.lemmas.List.{append_assoc}
use Rattle.std.specs.Prelude.{◌==◌}
use Rattle.std.specs.Int.{w32, w64, cast_signed}
use Rattle.shredding.specs.Slot.{Value, truth, number, bytes}
use Rattle.pq_numbers.specs.Bits.{bytes_for, unpacked}
use Rattle.pq_tree.specs.Physical.{Physical, boolean, int32, int64, int96, float, double, byte_array, fixed}
use Rattle.pq_files.specs.Plain.{IsPrefixed, IsOne, InARow, AreBits, IsPlain}
use Rattle.pq_numbers.specs.Texts.{number_of, Begins}
use Rattle.pq_files.proofs.Unique.{append_same}

pub record Once (a b x y : List ℕ) (v w : Value) : Type 0 where
  pub texts : a ≡ b
  pub rests : x ≡ y
  pub are : v ≡ w

by_length : (n : ℕ) (f : List ℕ → Value) (a b x y : List ℕ) (v w : Value) → length a ≡ n → length b ≡ n → v ≡ f a → w ≡ f b → a ++ x ≡ b ++ y → Once a b x y v w
by_length n f a b x y v w la lb va wb e =
    let s = append_same a b x y (la ∙ sym lb) e in
    record { texts = s.0; rests = s.1; are = va ∙ ap f s.0 ∙ sym wb }

prefixed : (a b x y s t : List ℕ) → IsPrefixed a s → IsPrefixed b t → a ++ x ≡ b ++ y → Once a b x y (bytes s) (bytes t)
prefixed a b x y s t p q e =
    let whole : p.head ++ (s ++ x) ≡ q.head ++ (t ++ y) = sym (append_assoc p.head s x) ∙ ap (λ (z : List ℕ). z ++ x) (sym p.parts) ∙ e ∙ ap (λ (z : List ℕ). z ++ y) q.parts ∙ append_assoc q.head t y in
    let heads = append_same p.head q.head (s ++ x) (t ++ y) (p.four ∙ sym q.four) whole in
    let bodies = append_same s t x y (sym p.size ∙ ap number_of heads.0 ∙ q.size) heads.1 in
    record {
      texts = p.parts ∙ ap (λ (z : List ℕ). z ++ s) heads.0 ∙ ap (λ (z : List ℕ). q.head ++ z) bodies.0 ∙ sym q.parts;
      rests = bodies.1;
      are = ap bytes bodies.0;
    }

fixed_once : (n : ℕ) (a b x y s t : List ℕ) → (length a ≡ n) × (a ≡ s) → (length b ≡ n) × (b ≡ t) → a ++ x ≡ b ++ y → Once a b x y (bytes s) (bytes t)
fixed_once n a b x y s t p q e = by_length n bytes a b x y (bytes s) (bytes t) p.0 q.0 (ap bytes (sym p.1)) (ap bytes (sym q.1)) e

number_once : (n : ℕ) (f : List ℕ → ℤ) (a b x y : List ℕ) (v w : ℤ) → (length a ≡ n) × (v ≡ f a) → (length b ≡ n) × (w ≡ f b) → a ++ x ≡ b ++ y → Once a b x y (number v) (number w)
number_once n f a b x y v w p q e = by_length n (λ s. number (f s)) a b x y (number v) (number w) p.0 q.0 (ap number p.1) (ap number q.1) e

once : (p : Physical) (a b x y : List ℕ) (v w : Value) → IsOne p a v → IsOne p b w → a ++ x ≡ b ++ y → Once a b x y v w
once int32 a b x y (number v) (number w) h k e = number_once 4 (λ s. cast_signed w32 (number_of s)) a b x y v w h k e
once int64 a b x y (number v) (number w) h k e = number_once 8 (λ s. cast_signed w64 (number_of s)) a b x y v w h k e
once byte_array a b x y (bytes s) (bytes t) h k e = prefixed a b x y s t h k e
once (fixed n) a b x y (bytes s) (bytes t) h k e = fixed_once n a b x y s t h k e
once int32 a b x y (number v) (truth c) h k e = absurd k
once int32 a b x y (number v) (bytes c) h k e = absurd k
once int64 a b x y (number v) (truth c) h k e = absurd k
once int64 a b x y (number v) (bytes c) h k e = absurd k
once byte_array a b x y (bytes s) (truth c) h k e = absurd k
once byte_array a b x y (bytes s) (number c) h k e = absurd k
once (fixed n) a b x y (bytes s) (truth c) h k e = absurd k
once (fixed n) a b x y (bytes s) (number c) h k e = absurd k
once _ a b x y v w h k e = absurd h

in_a_row_once : (p : Physical) (a b x y : List ℕ) (vs ws : List Value) → InARow p a vs → InARow p b ws → a ++ x ≡ b ++ y → length vs ≡ length ws → vs ≡ ws
in_a_row_once p a b x y [] [] h k e n = refl
in_a_row_once p a b x y [] (w ∷ ws) h k e n = absurd (omega (arith, n))
in_a_row_once p a b x y (v ∷ vs) [] h k e n = absurd (omega (arith, n))
in_a_row_once p a b x y (v ∷ vs) (w ∷ ws) h k e n =
    let whole : h.0 ++ (h.1 ++ x) ≡ k.0 ++ (k.1 ++ y) = sym (append_assoc h.0 h.1 x) ∙ ap (λ (z : List ℕ). z ++ x) (sym h.4) ∙ e ∙ ap (λ (z : List ℕ). z ++ y) k.4 ∙ append_assoc k.0 k.1 y in
    let first = once p h.0 k.0 (h.1 ++ x) (k.1 ++ y) v w h.2 k.2 whole in
    ap (λ z. z ∷ vs) first.are ∙ ap (λ zs. w ∷ zs) (in_a_row_once p h.1 k.1 x y vs ws h.3 k.3 first.rests (omega (arith, n)))

-- truth values
bits_once : (a b x y : List ℕ) (vs ws : List Value) → AreBits a vs → AreBits b ws → a ++ x ≡ b ++ y → length vs ≡ length ws → vs ≡ ws
bits_once a b x y vs ws h k e n =
    let s = append_same a b x y (h.0 ∙ ap bytes_for n ∙ sym k.0) e in
    h.1 ∙ ap (λ (m : ℕ). map (λ d. truth (d == 1)) (unpacked 1 m a)) n ∙ ap (λ (z : List ℕ). map (λ d. truth (d == 1)) (unpacked 1 (length ws) z)) s.0 ∙ sym k.1

plain_once : (p : Physical) (a b x y : List ℕ) (vs ws : List Value) → IsPlain p a vs → IsPlain p b ws → a ++ x ≡ b ++ y → length vs ≡ length ws → vs ≡ ws
plain_once boolean a b x y vs ws h k e n = bits_once a b x y vs ws h k e n
plain_once int32 a b x y vs ws h k e n = in_a_row_once int32 a b x y vs ws h k e n
plain_once int64 a b x y vs ws h k e n = in_a_row_once int64 a b x y vs ws h k e n
plain_once int96 a b x y vs ws h k e n = in_a_row_once int96 a b x y vs ws h k e n
plain_once float a b x y vs ws h k e n = in_a_row_once float a b x y vs ws h k e n
plain_once double a b x y vs ws h k e n = in_a_row_once double a b x y vs ws h k e n
plain_once byte_array a b x y vs ws h k e n = in_a_row_once byte_array a b x y vs ws h k e n
plain_once (fixed m) a b x y vs ws h k e n = in_a_row_once (fixed m) a b x y vs ws h k e n

pub plain_same : (p : Physical) (section section' : List ℕ) (vs ws : List Value) → section ≡ section' → Begins (IsPlain p) section vs → Begins (IsPlain p) section' ws → length vs ≡ length ws → vs ≡ ws
plain_same p section section' vs ws e a b n = plain_once p a.text b.text a.rest b.rest vs ws a.spells b.spells (sym a.parts ∙ e ∙ b.parts) n
