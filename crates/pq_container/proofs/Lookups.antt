-- The last field with an id, found from left to right.
use Rattle.std.proofs.Common.{◌≡◌, ℕ, zero, suc, ℤ, ◌+◌, ◌<◌, List, [], ◌∷◌, Bool, true, false, length, get_or, take, refl, sym, ap, ◌∙◌, arith, add-one}
use Rattle.std.specs.Prelude.{Option, Some, None, option_map, slice_get, ◌-◌, if◌then◌else◌}
use Rattle.pq_thrift.specs.declared.value.Thrift.{Thrift}
use Rattle.pq_thrift.specs.Value.{Value, view, field_view, fields_view}
use Rattle.pq_metadata.specs.Ids.{or_else, is_number, get, last_field}

or_else-if : {A : Type 0} (b : Bool) (s : A) (g a : Option A) → or_else (if b then Some s else g) a ≡ (if b then Some s else or_else g a)
or_else-if true s g a = refl
or_else-if false s g a = refl

get-suc : (id : ℕ) (xs : List (ℤ × Thrift)) (i : ℕ) (f : ℤ × Thrift) → i < length xs → f ≡ get_or xs i f → get id (fields_view (take (suc i) xs)) ≡ (if is_number f.0 id then Some (view f.1) else get id (fields_view (take i xs)))
get-suc id [] i f h e = absurd (omega (arith, h))
get-suc id (x ∷ xs) zero f h e = ap (λ (y : ℤ × Thrift). get id (fields_view (y ∷ []))) (sym e)
get-suc id (x ∷ xs) (suc i) f h e =
    ap (λ (o : Option Value). or_else o (if is_number x.0 id then Some (view x.1) else None)) (get-suc id xs i f (omega (arith, h)) e)
    ∙ or_else-if (is_number f.0 id) (view f.1) (get id (fields_view (take i xs))) (if is_number x.0 id then Some (view x.1) else None)

pub get-next : (id : ℕ) (xs : List (ℤ × Thrift)) (i : ℕ) (f : ℤ × Thrift) → i < length xs → f ≡ get_or xs i f → get id (fields_view (take (i + 1) xs)) ≡ (if is_number f.0 id then Some (view f.1) else get id (fields_view (take i xs)))
get-next id xs i f h e = rw add-one (get-suc id xs i f h e)

-- ---- the last field of all

or_else-is : {A : Type 0} (o : Option A) (a : A) (b : Option A) → or_else (or_else o (Some a)) b ≡ or_else o (Some a)
or_else-is None a b = refl
or_else-is (Some x) a b = refl

last_field-cons : (x : ℤ × Thrift) (xs : List (ℤ × Thrift)) → last_field (fields_view (x ∷ xs)) ≡ option_map field_view (slice_get (x ∷ xs) (length xs))
last_field-cons x [] = refl
last_field-cons x (y ∷ ys) = or_else-is (last_field (fields_view ys)) (field_view y) (Some (field_view x)) ∙ last_field-cons y ys

pub last_field-get : (xs : List (ℤ × Thrift)) → last_field (fields_view xs) ≡ option_map field_view (slice_get xs (length xs - 1))
last_field-get [] = refl
last_field-get (x ∷ xs) = last_field-cons x xs ∙ ap (λ (n : ℕ). option_map field_view (slice_get (x ∷ xs) n)) (let e : length xs ≡ suc (length xs) - 1 = omega arith in e)
