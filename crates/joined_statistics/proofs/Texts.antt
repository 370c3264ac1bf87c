-- The numbers that texts of bounds spell, and their order.
use Rattle.std.proofs.Common.{◌≡◌, ◌∙◌, ◌⊎◌, inl, inr, ℕ, ℤ, pos, ◌^◌, ◌<◌, ◌≤◌, ◌≤ℤ◌, List, length, take, refl, sym, ap, subst, arith, true, Option, Some, None}
use Rattle.std.specs.Int.{w32, w64, cast_signed, cast_unsigned}
use Rattle.std.proofs.lemmas.Int.{ints, of_z-to_z}
use Rattle.std.proofs.lemmas.List.{take_all}
use Rattle.std.proofs.lemmas.Nat.{pow_below}
use Rattle.std.proofs.lemmas.Bool.{cases_lt}
use Rattle.shredding.specs.Shape.{LeafType, text, binary, signed, unsigned}
use Rattle.shredding.specs.Slot.{Value, number, bytes}
use Rattle.pq_numbers.specs.Texts.{number_of}
use Rattle.pq_tree.specs.Physical.{Physical, int32, int64, byte_array}
use Rattle.pq_files.specs.Statistics.{IsBoundText, IsUpTo, has_order}
use Rattle.page_statistics.specs.Spelled.{IsSpelled, bound_text}
use Rattle.page_statistics.proofs.Exist.{texts}
use Rattle.joined_statistics.specs.Orders.{AreBytes, AreSigned, AreUnsigned}

-- the text of a value is one of what is stored for it
spells : (t : LeafType) (p : Physical) (s : List ℕ) (v x : Value) (o : has_order t ≡ true) (h : IsSpelled t p s v) → h.stored ≡ x → IsBoundText p s x
spells t p s v x o h e =
    subst (λ (y : Value). IsBoundText p s y) e (subst (λ (y : List ℕ). IsBoundText p y h.stored) (sym h.is) (texts t p v h.stored o h.is_stored))

-- a number in 32 bits, or in 64, lowest byte first
abbrev pub IsNumber : List ℕ → ℤ → Type 0
IsNumber s z = ((length s ≡ 4) × (z ≡ cast_signed w32 (number_of (take 4 s)))) ⊎ ((length s ≡ 8) × (z ≡ cast_signed w64 (number_of (take 8 s))))

short : (s : List ℕ) (z : ℤ) → (length s ≡ 4) × (z ≡ cast_signed w32 (number_of s)) → (length s ≡ 4) × (z ≡ cast_signed w32 (number_of (take 4 s)))
short s z h = (h.0, h.1 ∙ ap (λ (x : List ℕ). cast_signed w32 (number_of x)) (sym (take_all 4 s (omega (arith, h.0)))))

long : (s : List ℕ) (z : ℤ) → (length s ≡ 8) × (z ≡ cast_signed w64 (number_of s)) → (length s ≡ 8) × (z ≡ cast_signed w64 (number_of (take 8 s)))
long s z h = (h.0, h.1 ∙ ap (λ (x : List ℕ). cast_signed w64 (number_of x)) (sym (take_all 8 s (omega (arith, h.0)))))

pub signed_text : (p : Physical) (w : ℕ) (s : List ℕ) (z : ℤ) → IsSpelled (signed w) p s (number z) → IsNumber s z
signed_text int32 w s z h = inl (short s z (spells (signed w) int32 s (number z) (number z) refl h h.is_stored.2))
signed_text int64 w s z h = inr (long s z (spells (signed w) int64 s (number z) (number z) refl h h.is_stored.2))
signed_text p w s z h = absurd h.is_stored

-- an unsigned one stands as the signed one of the same bits
pub unsigned_text : (p : Physical) (w n : ℕ) (s : List ℕ) → IsSpelled (unsigned w) p s (number (pos n)) → ((n < 2 ^ 32) × (length s ≡ 4) × (cast_signed w32 n ≡ cast_signed w32 (number_of (take 4 s)))) ⊎ ((n < 2 ^ 64) × (length s ≡ 8) × (cast_signed w64 n ≡ cast_signed w64 (number_of (take 8 s))))
unsigned_text int32 w n s h =
    let e = short s (cast_signed w32 n) (spells (unsigned w) int32 s (number (pos n)) (number (cast_signed w32 n)) refl h h.is_stored.2) in
    inl (under w 32 h.is_stored.0 h.is_stored.1, e.0, e.1)
  where
    under : (a b : ℕ) → a ≤ b → n < 2 ^ a → n < 2 ^ b
    under a b l k = by_order (cases_lt a b)
      where
        by_order : (a < b) ⊎ (b ≤ a) → n < 2 ^ b
        by_order (inl j) = omega (arith, k, pow_below a b j)
        by_order (inr j) = let e : a ≡ b = omega (arith, l, j) in subst (λ (m : ℕ). n < 2 ^ m) e k
unsigned_text int64 w n s h =
    let e = long s (cast_signed w64 n) (spells (unsigned w) int64 s (number (pos n)) (number (cast_signed w64 n)) refl h h.is_stored.2) in
    inr (wide h.is_stored.0 h.is_stored.1, e.0, e.1)
  where
    wide : (w ≡ 32) ⊎ (w ≡ 64) → n < 2 ^ w → n < 2 ^ 64
    wide (inl d) k = omega (arith, subst (λ (m : ℕ). n < 2 ^ m) d k)
    wide (inr d) k = subst (λ (m : ℕ). n < 2 ^ m) d k
unsigned_text p w n s h = absurd h.is_stored

back_32 : (n : ℕ) (z m : ℤ) → n < 2 ^ 32 → z ≡ m → cast_signed w32 n ≡ m → cast_unsigned w32 z ≡ n
back_32 n z m l e d = ap (cast_unsigned w32) (e ∙ sym d) ∙ of_z-to_z w32 n l

pub twice_32 : (n : ℕ) (z m : ℤ) → n < 2 ^ 32 → z ≡ m → cast_signed w32 n ≡ m → cast_unsigned w32 (cast_signed w32 (cast_unsigned w32 z)) ≡ n
twice_32 n z m l e d = ap (λ (k : ℕ). cast_unsigned w32 (cast_signed w32 k)) (back_32 n z m l e d) ∙ of_z-to_z w32 n l

back_64 : (n : ℕ) (z m : ℤ) → n < 2 ^ 64 → z ≡ m → cast_signed w64 n ≡ m → cast_unsigned w64 z ≡ n
back_64 n z m l e d = ap (cast_unsigned w64) (e ∙ sym d) ∙ of_z-to_z w64 n l

pub twice_64 : (n : ℕ) (z m : ℤ) → n < 2 ^ 64 → z ≡ m → cast_signed w64 n ≡ m → cast_unsigned w64 (cast_signed w64 (cast_unsigned w64 z)) ≡ n
twice_64 n z m l e d = ap (λ (k : ℕ). cast_unsigned w64 (cast_signed w64 k)) (back_64 n z m l e d) ∙ of_z-to_z w64 n l

-- ---- values by their texts

signed_value : (w : ℕ) (p : Physical) (s : List ℕ) (v : Value) → IsSpelled (signed w) p s v → (z : ℤ) × (v ≡ number z)
signed_value w int32 s (number z) h = (z, refl)
signed_value w int64 s (number z) h = (z, refl)
signed_value w p s v h = absurd h.is_stored

unsigned_value : (w : ℕ) (p : Physical) (s : List ℕ) (v : Value) → IsSpelled (unsigned w) p s v → (n : ℕ) × (v ≡ number (pos n))
unsigned_value w int32 s (number (pos n)) h = (n, refl)
unsigned_value w int64 s (number (pos n)) h = (n, refl)
unsigned_value w p s v h = absurd h.is_stored

text_value : (p : Physical) (s : List ℕ) (v : Value) → IsSpelled text p s v → v ≡ bytes s
text_value byte_array s (bytes u) h = ap bytes (sym (h.is ∙ ap (bound_text byte_array) h.is_stored.1))
text_value p s v h = absurd h.is_stored

binary_value : (p : Physical) (s : List ℕ) (v : Value) → IsSpelled binary p s v → v ≡ bytes s
binary_value byte_array s (bytes u) h = ap bytes (sym (h.is ∙ ap (bound_text byte_array) h.is_stored))
binary_value p s v h = absurd h.is_stored

-- a number is read of each text of a signed one, or of an unsigned one
abbrev pub ReadsSigned : List ℕ → Option ℤ → Type 0
ReadsSigned s r = (p : Physical) (w : ℕ) (z : ℤ) → IsSpelled (signed w) p s (number z) → r ≡ Some z

abbrev pub ReadsUnsigned : List ℕ → Option ℕ → Type 0
ReadsUnsigned s r = (p : Physical) (w n : ℕ) → IsSpelled (unsigned w) p s (number (pos n)) → r ≡ Some n

none_is : {A : Type 0} {C : Type 0} (x : A) → None ≡ Some x → C
none_is x e = absurd cc

-- none is read of other texts alone
pub signed_none : (s : List ℕ) → ReadsSigned s None → (t : LeafType) (p : Physical) (v : Value) → AreSigned t → IsSpelled t p s v → ⊥
signed_none s f (signed k) p v o i =
    let a = signed_value k p s v i in
    none_is a.0 (f p k a.0 (subst (λ (z : Value). IsSpelled (signed k) p s z) a.1 i))
signed_none s f t p v o i = absurd o

pub unsigned_none : (s : List ℕ) → ReadsUnsigned s None → (t : LeafType) (p : Physical) (v : Value) → AreUnsigned t → IsSpelled t p s v → ⊥
unsigned_none s f (unsigned k) p v o i =
    let a = unsigned_value k p s v i in
    none_is a.0 (f p k a.0 (subst (λ (z : Value). IsSpelled (unsigned k) p s z) a.1 i))
unsigned_none s f t p v o i = absurd o

abbrev number_or : ℤ → Option ℤ → ℤ
number_or z None = z
number_or z (Some n) = n

abbrev count_or : ℕ → Option ℕ → ℕ
count_or n None = n
count_or n (Some m) = m

pub signed_up : (s u : List ℕ) (x y : ℤ) → ReadsSigned s (Some x) → ReadsSigned u (Some y) → x ≤ℤ y → (t : LeafType) (p : Physical) (v w : Value) → AreSigned t → IsSpelled t p s v → IsSpelled t p u w → IsUpTo v w
signed_up s u x y f g h (signed k) p v w o i j =
    let a = signed_value k p s v i in
    let b = signed_value k p u w j in
    let c : x ≡ a.0 = ap (number_or x) (f p k a.0 (subst (λ (z : Value). IsSpelled (signed k) p s z) a.1 i)) in
    let d : y ≡ b.0 = ap (number_or y) (g p k b.0 (subst (λ (z : Value). IsSpelled (signed k) p u z) b.1 j)) in
    subst (λ (z : Value). IsUpTo z w) (ap number c ∙ sym a.1) (subst (λ (z : Value). IsUpTo (number x) z) (ap number d ∙ sym b.1) h)
signed_up s u x y f g h t p v w o i j = absurd o

at_most : (m n : ℕ) → m ≤ n → pos m ≤ℤ pos n
at_most m n l = omega (arith, ints, l)

pub unsigned_up : (s u : List ℕ) (x y : ℕ) → ReadsUnsigned s (Some x) → ReadsUnsigned u (Some y) → x ≤ y → (t : LeafType) (p : Physical) (v w : Value) → AreUnsigned t → IsSpelled t p s v → IsSpelled t p u w → IsUpTo v w
unsigned_up s u x y f g h (unsigned k) p v w o i j =
    let a = unsigned_value k p s v i in
    let b = unsigned_value k p u w j in
    let c : x ≡ a.0 = ap (count_or x) (f p k a.0 (subst (λ (z : Value). IsSpelled (unsigned k) p s z) a.1 i)) in
    let d : y ≡ b.0 = ap (count_or y) (g p k b.0 (subst (λ (z : Value). IsSpelled (unsigned k) p u z) b.1 j)) in
    subst (λ (z : Value). IsUpTo z w) (ap (λ (n : ℕ). number (pos n)) c ∙ sym a.1) (subst (λ (z : Value). IsUpTo (number (pos x)) z) (ap (λ (n : ℕ). number (pos n)) d ∙ sym b.1) (at_most x y h))
unsigned_up s u x y f g h t p v w o i j = absurd o

pub bytes_up : (s u : List ℕ) → IsUpTo (bytes s) (bytes u) → (t : LeafType) (p : Physical) (v w : Value) → AreBytes t → IsSpelled t p s v → IsSpelled t p u w → IsUpTo v w
bytes_up s u h text p v w o i j =
    subst (λ (z : Value). IsUpTo z w) (sym (text_value p s v i)) (subst (λ (z : Value). IsUpTo (bytes s) z) (sym (text_value p u w j)) h)
bytes_up s u h binary p v w o i j =
    subst (λ (z : Value). IsUpTo z w) (sym (binary_value p s v i)) (subst (λ (z : Value). IsUpTo (bytes s) z) (sym (binary_value p u w j)) h)
bytes_up s u h t p v w o i j = absurd o
