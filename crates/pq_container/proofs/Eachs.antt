-- Lists whose values are read one by one.
use Rattle.std.proofs.Common.{◌≡◌, ℕ, zero, suc, ◌+◌, ◌<◌, List, [], ◌∷◌, ◌++◌, length, get_or, take, map, sym, subst, inl, inr, arith, add-one}
use Rattle.std.specs.Prelude.{Some}
use Rattle.pq_thrift.specs.declared.value.Thrift.{Thrift}
use Rattle.pq_thrift.specs.Value.{Value, truth, int8, int16, int32, int64, double, binary, list, set, map as map_value, struct, Fields, view, values_view}
use Rattle.pq_metadata.specs.Ids.{Each}
use Rattle.pq_metadata.specs.Kinds.{struct_in}
use Rattle.pq_tree.specs.Reads.{HasNone, Refuses}
use Rattle.columns_base.specs.declared.error.Error.{Error}

each_more : {A B : Type 0} (R : Value → A → Type 0) (see : B → A) (xs : List Thrift) (i : ℕ) (x : Thrift) (bs : List B) (b : B) → i < length xs → x ≡ get_or xs i x → Each R (values_view (take i xs)) (map see bs) → R (view x) (see b) → Each R (values_view (take (suc i) xs)) (map see (bs ++ b ∷ []))
each_more R see [] i x bs b h e s r = absurd (omega (arith, h))
each_more R see (y ∷ xs) zero x [] b h e s r = (subst (λ (t : Thrift). R (view t) (see b)) e r, tt)
each_more R see (y ∷ xs) zero x (c ∷ bs) b h e s r = absurd s
each_more R see (y ∷ xs) (suc i) x [] b h e s r = absurd s
each_more R see (y ∷ xs) (suc i) x (c ∷ bs) b h e s r = (s.0, each_more R see xs i x bs b (omega (arith, h)) e s.1 r)

-- one more value of the list
pub each_next : {A B : Type 0} (R : Value → A → Type 0) (see : B → A) (xs : List Thrift) (i : ℕ) (x : Thrift) (bs : List B) (b : B) → i < length xs → x ≡ get_or xs i x → Each R (values_view (take i xs)) (map see bs) → R (view x) (see b) → Each R (values_view (take (i + 1) xs)) (map see (bs ++ b ∷ []))
each_next R see xs i x bs b h e s r = rw add-one (each_more R see xs i x bs b h e s r)

-- Where one value of the list stands for nothing, the list does not.
each_none_of : {A : Type 0} (R : Value → A → Type 0) (xs : List Thrift) (i : ℕ) (x : Thrift) → i < length xs → x ≡ get_or xs i x → HasNone (R (view x)) → (all : List A) → Each R (values_view xs) all → ⊥
each_none_of R [] i x h e n all s = absurd (omega (arith, h))
each_none_of R (y ∷ xs) i x h e n [] s = s
each_none_of R (y ∷ xs) zero x h e n (a ∷ others) s = n a (subst (λ (t : Thrift). R (view t) a) (sym e) s.0)
each_none_of R (y ∷ xs) (suc i) x h e n (a ∷ others) s = each_none_of R xs i x (omega (arith, h)) e n others s.1

pub each_none : {A : Type 0} (R : Value → A → Type 0) (xs : List Thrift) (i : ℕ) (x : Thrift) → i < length xs → x ≡ get_or xs i x → HasNone (R (view x)) → HasNone (Each R (values_view xs))
each_none R xs i x h e n = each_none_of R xs i x h e n

pub each_refused : {A : Type 0} (R : Value → A → Type 0) (reason e : Error) (xs : List Thrift) (i : ℕ) (x : Thrift) → i < length xs → x ≡ get_or xs i x → Refuses reason (R (view x)) e → Refuses reason (Each R (values_view xs)) e
each_refused R reason e xs i x h is r = elim r [ inl m ↦ inl m | inr n ↦ inr (n.0, each_none R xs i x h is n.1) ]

-- some values for those so far, and one more
each_some_more : {A : Type 0} (R : Value → A → Type 0) (xs : List Thrift) (i : ℕ) (x : Thrift) (all : List A) (a : A) → i < length xs → x ≡ get_or xs i x → Each R (values_view (take i xs)) all → R (view x) a → Each R (values_view (take (suc i) xs)) (all ++ a ∷ [])
each_some_more R [] i x all a h e s r = absurd (omega (arith, h))
each_some_more R (y ∷ xs) zero x [] a h e s r = (subst (λ (t : Thrift). R (view t) a) e r, tt)
each_some_more R (y ∷ xs) zero x (c ∷ all) a h e s r = absurd s
each_some_more R (y ∷ xs) (suc i) x [] a h e s r = absurd s
each_some_more R (y ∷ xs) (suc i) x (c ∷ all) a h e s r = (s.0, each_some_more R xs i x all a (omega (arith, h)) e s.1 r)

pub each_some_next : {A : Type 0} (R : Value → A → Type 0) (xs : List Thrift) (i : ℕ) (x : Thrift) → i < length xs → x ≡ get_or xs i x → ((all : List A) × Each R (values_view (take i xs)) all) → ((a : A) × R (view x) a) → ((all : List A) × Each R (values_view (take (i + 1) xs)) all)
each_some_next R xs i x h e s r = rw add-one (s.0 ++ r.0 ∷ [], each_some_more R xs i x s.0 r.0 h e s.1 r.1)

-- a value that holds fields is their struct
pub struct_is : (v : Value) (fs : Fields) → Some fs ≡ struct_in v → v ≡ struct fs
struct_is (struct gs) fs e = cc e
struct_is (truth b) fs e = cc e
struct_is (int8 z) fs e = cc e
struct_is (int16 z) fs e = cc e
struct_is (int32 z) fs e = cc e
struct_is (int64 z) fs e = cc e
struct_is (double s) fs e = cc e
struct_is (binary s) fs e = cc e
struct_is (list k vs) fs e = cc e
struct_is (set k vs) fs e = cc e
struct_is (map_value k l ps) fs e = cc e
