-- What a field holds is one thing.
use Rattle.std.proofs.Common.{◌≡◌, ℕ, ℤ, pos, negsuc, List, [], ◌∷◌, Option, Some, None, refl, sym, ap, ◌∙◌}
use Rattle.std.specs.Prelude.{option_map}
use Rattle.pq_thrift.specs.Value.{Value, int32, int64, binary, list, struct, Values, no_values, value, Fields}
use Rattle.pq_metadata.specs.Ids.{Holds, Each}

abbrev pub i32_of : Option Value → Option ℤ
i32_of (Some (int32 z)) = Some z
i32_of _ = None

abbrev pub i64_of : Option Value → Option ℤ
i64_of (Some (int64 z)) = Some z
i64_of _ = None

abbrev pub bytes_of : Option Value → Option (List ℕ)
bytes_of (Some (binary s)) = Some s
bytes_of _ = None

abbrev pub struct_of : Option Value → Option Fields
struct_of (Some (struct fs)) = Some fs
struct_of _ = None

abbrev pub list_of : Option Value → Option Values
list_of (Some (list k vs)) = Some vs
list_of _ = None

from_option : {A : Type 0} → A → Option A → A
from_option d None = d
from_option d (Some a) = a

pub some_same : {A : Type 0} (x y : A) → Some x ≡ Some y → x ≡ y
unfolding from_option
some_same x y e = ap (λ o. from_option x o) e

pos_of : ℤ → ℕ
pos_of (pos n) = n
pos_of (negsuc n) = n

pub pos_same : (m n : ℕ) → pos m ≡ pos n → m ≡ n
unfolding pos_of
pos_same m n e = ap pos_of e

-- needed fields
pub i32_same : (o : Option Value) (x y : ℤ) → o ≡ Some (int32 x) → o ≡ Some (int32 y) → x ≡ y
i32_same o x y a b = some_same x y (ap i32_of (sym a ∙ b))

pub i64_same : (o : Option Value) (x y : ℤ) → o ≡ Some (int64 x) → o ≡ Some (int64 y) → x ≡ y
i64_same o x y a b = some_same x y (ap i64_of (sym a ∙ b))

pub n32_same : (o : Option Value) (m n : ℕ) → o ≡ Some (int32 (pos m)) → o ≡ Some (int32 (pos n)) → m ≡ n
n32_same o m n a b = pos_same m n (i32_same o (pos m) (pos n) a b)

pub bytes_same : (o : Option Value) (x y : List ℕ) → o ≡ Some (binary x) → o ≡ Some (binary y) → x ≡ y
bytes_same o x y a b = some_same x y (ap bytes_of (sym a ∙ b))

pub struct_same : (o : Option Value) (x y : Fields) → o ≡ Some (struct x) → o ≡ Some (struct y) → x ≡ y
struct_same o x y a b = some_same x y (ap struct_of (sym a ∙ b))

pub list_same : (o : Option Value) (k j : ℕ) (x y : Values) → o ≡ Some (list k x) → o ≡ Some (list j y) → x ≡ y
list_same o k j x y a b = some_same x y (ap list_of (sym a ∙ b))

-- optional fields
i32_back : (x : Option ℤ) → i32_of (option_map int32 x) ≡ x
i32_back None = refl
i32_back (Some z) = refl

bytes_back : (x : Option (List ℕ)) → bytes_of (option_map binary x) ≡ x
bytes_back None = refl
bytes_back (Some z) = refl

i64_back : (x : Option ℤ) → i64_of (option_map int64 x) ≡ x
i64_back None = refl
i64_back (Some z) = refl

struct_back : (x : Option Fields) → struct_of (option_map struct x) ≡ x
struct_back None = refl
struct_back (Some z) = refl

pub maybe_i32 : (id : ℕ) (fs : Fields) (x y : Option ℤ) → Holds int32 id fs x → Holds int32 id fs y → x ≡ y
maybe_i32 id fs x y a b = sym (i32_back x) ∙ ap i32_of (sym a ∙ b) ∙ i32_back y

pub maybe_i64 : (id : ℕ) (fs : Fields) (x y : Option ℤ) → Holds int64 id fs x → Holds int64 id fs y → x ≡ y
maybe_i64 id fs x y a b = sym (i64_back x) ∙ ap i64_of (sym a ∙ b) ∙ i64_back y

pub maybe_bytes : (id : ℕ) (fs : Fields) (x y : Option (List ℕ)) → Holds binary id fs x → Holds binary id fs y → x ≡ y
maybe_bytes id fs x y a b = sym (bytes_back x) ∙ ap bytes_of (sym a ∙ b) ∙ bytes_back y

pub maybe_struct : (id : ℕ) (fs : Fields) (x y : Option Fields) → Holds struct id fs x → Holds struct id fs y → x ≡ y
maybe_struct id fs x y a b = sym (struct_back x) ∙ ap struct_of (sym a ∙ b) ∙ struct_back y

-- lists
pub each_same : {A : Type 0} (R : Value → A → Type 0) → ((v : Value) (a b : A) → R v a → R v b → a ≡ b) → (vs : Values) (xs ys : List A) → Each R vs xs → Each R vs ys → xs ≡ ys
each_same R one no_values [] [] a b = refl
each_same R one no_values [] (y ∷ ys) a b = absurd b
each_same R one no_values (x ∷ xs) ys a b = absurd a
each_same R one (value v vs) [] ys a b = absurd a
each_same R one (value v vs) (x ∷ xs) [] a b = absurd b
each_same R one (value v vs) (x ∷ xs) (y ∷ ys) a b = ap (λ z. z ∷ xs) (one v x y a.0 b.0) ∙ ap (λ zs. y ∷ zs) (each_same R one vs xs ys a.1 b.1)

head_or : {A : Type 0} → A → List A → A
head_or d [] = d
head_or d (x ∷ xs) = x

tail_of : {A : Type 0} → List A → List A
tail_of [] = []
tail_of (x ∷ xs) = xs

pub cons_same : {A : Type 0} (x y : A) (xs ys : List A) → x ∷ xs ≡ y ∷ ys → (x ≡ y) × (xs ≡ ys)
unfolding head_or tail_of
cons_same x y xs ys e = (ap (λ zs. head_or x zs) e, ap (λ zs. tail_of zs) e)
