-- How many bytes stored values have: no more than the sample's values weigh.
use Rattle.std.proofs.Common.{◌≡◌, ℕ, suc, ◌≤◌, List, [], ◌∷◌, length, Option, Some, None, sum_by, refl, subst, ap, arith}
use Rattle.std.proofs.lemmas.List.{length-append}
use Rattle.std.proofs.lemmas.List.Sums.{sum_by-cons}
use Rattle.std.proofs.lemmas.Slice.Zip.{AllZip-long}
use Rattle.shredding.specs.Shape.{LeafType, signed, text}
use Rattle.shredding.specs.Shred.{Triple}
use Rattle.shredding.specs.Slot.{Value, truth, number, bytes}
use Rattle.pq_files.specs.Layout.{plain_length, plain_size}
use Rattle.pq_files.specs.Page.{values_in}
use Rattle.pq_files.specs.Plain.{InARow, IsOne, IsPlain}
use Rattle.pq_files.specs.Statistics.{IsBound, IsBoundText}
use Rattle.pq_files.specs.Stored.{AreStored, IsStored, IsStoredOption}
use Rattle.pq_tree.specs.Physical.{Physical, byte_array, int32, int64}
use Rattle.sample_sizes.proofs.Slim.{option_weight, triple_weight, weight}

-- What is known of a leaf type and a physical type: what is stored for a value, and its text as a bound, have no more bytes than it weighs.
pub record IsLight (t : LeafType) (p : Physical) : Type 0 where
  pub stored : (v s : Value) → IsStored t p v s → plain_size p s ≤ weight v
  pub bound : (v : Value) (s : List ℕ) → IsBound t p s v → length s ≤ weight v
  pub plain : (s : List ℕ) (vs : List Value) → IsPlain p s vs → length s ≡ sum_by (plain_size p) vs
  pub length_is : (vs : List Value) → plain_length p vs ≡ sum_by (plain_size p) vs

-- ---- the plain text of values in a row
one_size : (p : Physical) → ((s : List ℕ) (v : Value) → IsOne p s v → length s ≡ plain_size p v) → (s : List ℕ) (vs : List Value) → InARow p s vs → length s ≡ sum_by (plain_size p) vs
one_size p f s [] h = ap length h
one_size p f s (v ∷ vs) h = omega (arith, ap length h.4, length-append h.0 h.1, f h.0 v h.2, one_size p f h.1 vs h.3, sum_by-cons (plain_size p) v vs)

int64_size : (s : List ℕ) (v : Value) → IsOne int64 s v → length s ≡ plain_size int64 v
int64_size s (truth b) h = absurd h
int64_size s (bytes t) h = absurd h
int64_size s (number z) h = h.0

int32_size : (s : List ℕ) (v : Value) → IsOne int32 s v → length s ≡ plain_size int32 v
int32_size s (truth b) h = absurd h
int32_size s (bytes t) h = absurd h
int32_size s (number z) h = h.0

text_size : (s : List ℕ) (v : Value) → IsOne byte_array s v → length s ≡ plain_size byte_array v
text_size s (truth b) h = absurd h
text_size s (number z) h = absurd h
text_size s (bytes t) h = omega (arith, ap length h.parts, length-append h.head t, h.four)

-- ---- the three kinds of columns
int64_stored : (v s : Value) → IsStored (signed 64) int64 v s → plain_size int64 s ≤ weight v
int64_stored (truth b) s h = absurd h
int64_stored (bytes bs) s h = absurd h
int64_stored (number z) s h = omega arith

int64_bound : (v : Value) (s : List ℕ) → IsBound (signed 64) int64 s v → length s ≤ weight v
int64_bound (truth b) s h = absurd h.is_stored
int64_bound (bytes bs) s h = absurd h.is_stored
int64_bound (number z) s h = by h.stored h.spells
  where
    by : (w : Value) → IsBoundText int64 s w → length s ≤ 8
    by (truth b) k = absurd k
    by (bytes bs) k = absurd k
    by (number y) k = omega (arith, k.0)

pub light_int64 : IsLight (signed 64) int64
light_int64 = record { stored = int64_stored; bound = int64_bound; plain = one_size int64 int64_size; length_is = λ vs. refl }

int32_stored : (v s : Value) → IsStored (signed 32) int32 v s → plain_size int32 s ≤ weight v
int32_stored (truth b) s h = absurd h
int32_stored (bytes bs) s h = absurd h
int32_stored (number z) s h = omega arith

int32_bound : (v : Value) (s : List ℕ) → IsBound (signed 32) int32 s v → length s ≤ weight v
int32_bound (truth b) s h = absurd h.is_stored
int32_bound (bytes bs) s h = absurd h.is_stored
int32_bound (number z) s h = by h.stored h.spells
  where
    by : (w : Value) → IsBoundText int32 s w → length s ≤ 8
    by (truth b) k = absurd k
    by (bytes bs) k = absurd k
    by (number y) k = omega (arith, k.0)

pub light_int32 : IsLight (signed 32) int32
light_int32 = record { stored = int32_stored; bound = int32_bound; plain = one_size int32 int32_size; length_is = λ vs. refl }

text_stored : (v s : Value) → IsStored text byte_array v s → plain_size byte_array s ≤ weight v
text_stored (truth b) s h = absurd h
text_stored (number z) s h = absurd h
text_stored (bytes bs) s h = rw h.1 (omega arith)

text_bound : (v : Value) (s : List ℕ) → IsBound text byte_array s v → length s ≤ weight v
text_bound (truth b) s h = absurd h.is_stored
text_bound (number z) s h = absurd h.is_stored
text_bound (bytes bs) s h =
    let same : IsBoundText byte_array s (bytes bs) = subst (IsBoundText byte_array s) h.is_stored.1 h.spells in
    omega (arith, ap length same)

pub light_text : IsLight text byte_array
light_text = record { stored = text_stored; bound = text_bound; plain = one_size byte_array text_size; length_is = λ vs. refl }

-- ---- a stored column
pub stored_light : (t : LeafType) (p : Physical) (xs ys : List Triple) → IsLight t p → AreStored t p xs ys → sum_by (plain_size p) (values_in ys) ≤ sum_by triple_weight xs
stored_light t p [] [] l h = omega arith
stored_light t p [] (y ∷ ys) l h = absurd h
stored_light t p (x ∷ xs) [] l h = absurd h
stored_light t p (x ∷ xs) (y ∷ ys) l h = by (stored_light t p xs ys l h.1) x.value y.value refl refl h.0.«value»
  where
    by : sum_by (plain_size p) (values_in ys) ≤ sum_by triple_weight xs → (a b : Option Value) → x.value ≡ a → y.value ≡ b → IsStoredOption t p a b → sum_by (plain_size p) (values_in (y ∷ ys)) ≤ sum_by triple_weight (x ∷ xs)
    by rest None None e f s = rw f (omega (arith, rest, sum_by-cons triple_weight x xs))
    by rest None (Some b) e f s = absurd s
    by rest (Some a) None e f s = absurd s
    by rest (Some a) (Some b) e f s =
        rw f (omega (arith, rest, sum_by-cons triple_weight x xs, ap option_weight e, l.stored a b s, sum_by-cons (plain_size p) b (values_in ys)))

pub stored_long : (t : LeafType) (p : Physical) (xs ys : List Triple) → AreStored t p xs ys → length ys ≡ length xs
stored_long t p xs ys h = AllZip-long _ xs ys h

pub few_values : (ts : List Triple) → length (values_in ts) ≤ length ts
few_values [] = omega arith
few_values (t ∷ ts) = by t.value refl (few_values ts)
  where
    by : (o : Option Value) → t.value ≡ o → length (values_in ts) ≤ length ts → length (values_in (t ∷ ts)) ≤ suc (length ts)
    by None e rest = rw e (omega (arith, rest))
    by (Some v) e rest = rw e (omega (arith, rest))
