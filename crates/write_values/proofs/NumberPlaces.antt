-- Numbers by place, as they are stored.
use Rattle.std.proofs.Common.{◌≡◌, ℕ, zero, suc, ◌+◌, ◌-◌, ◌*◌, ◌/◌, ◌≤◌, ◌<◌, pos, Bool, true, false, true≢false, List, [], ◌∷◌, ◌++◌, length, map, take, drop, get_or, drop-cons, refl, ap, sym, subst, ◌∙◌, arith, take_all, inl, inr, lit≤}
use Rattle.std.specs.Prelude.{Result, Ok, Err, ◌⊎◌, sum_by, OnOk}
use Rattle.std.proofs.lemmas.List.{length-map, map-append, take-map, take_more, drop-map}
use Rattle.std.proofs.lemmas.List.Sums.{sum_by-cons}
use Rattle.shredding.specs.Shape.{LeafType, signed, unsigned, decimal}
use Rattle.shredding.specs.Slot.{Value, truth, number}
use Rattle.columns_core.specs.Shapes.{base, leaf_type}
use Rattle.columns_core.specs.Tree.{TypeTree}
use Rattle.columns_slots.specs.Tree.{Mask, leaf_array}
use Rattle.pq_tree.specs.Physical.{Physical, int32, int64, fixed}
use Rattle.pq_files.specs.Layout.{plain_length, plain_size}
use Rattle.pq_files.specs.Stored.{IsStored}
use Rattle.write_places.specs.Places.{gather, range}
use Rattle.write_values.specs.Lengths.{plain_sum}
use Rattle.write_values.specs.Numbers.{at_place, is_number, numbers_in_a_row}
use Rattle.write_values.specs.Stored.{stored_value, stored_at}
use Rattle.pq_files.specs.Plain.{InARow}
use Rattle.write_values.specs.Rows.{AppendsRow}
use Rattle.write_values.proofs.InRows.{length-range, row-more}
use Rattle.write_values.proofs.ServedTypes.{leaf_base, wrapped_32, wrapped_64}

-- a value has one stored number
stored_is : (t : LeafType) (p : Physical) (v s : Value) → is_number p ≡ true → IsStored t p v s → s ≡ stored_value t p v
stored_is (signed w) int32 (number z) s n h = h.2
stored_is (signed w) int64 (number z) s n h = h.2
stored_is (unsigned w) int32 (number (pos k)) s n h = h.2
stored_is (unsigned w) int64 (number (pos k)) s n h = h.2
stored_is decimal int32 (number z) s n h = h.1 ∙ ap number (sym (wrapped_32 z h.0))
stored_is decimal int64 (number z) s n h = h.1 ∙ ap number (sym (wrapped_64 z h.0))
stored_is t int32 v s n h = absurd h
stored_is t int64 v s n h = absurd h
stored_is t p v s n h = absurd (true≢false (sym n))

truth_kept : (t : LeafType) (p : Physical) (b : Bool) → stored_value t p (truth b) ≡ truth b
truth_kept (unsigned w) int32 b = refl
truth_kept (unsigned w) int64 b = refl
truth_kept decimal int32 b = refl
truth_kept decimal int64 b = refl
truth_kept decimal (fixed n) b = refl
truth_kept t p b = refl

mapped_at : {A : Type 0} (f g : A → Value) (h : Value → Value) (xs : List A) → ((x : A) → f x ≡ h (g x)) → truth false ≡ h (truth false) → (i : ℕ) → at_place (map f xs) i ≡ h (at_place (map g xs) i)
mapped_at f g h [] e k zero = k
mapped_at f g h [] e k (suc i) = k
mapped_at f g h (x ∷ xs) e k zero = e x
mapped_at f g h (x ∷ xs) e k (suc i) = mapped_at f g h xs e k i

-- what is stored at a position is the stored number there
pub number_stored : {A : Type 0} (t : TypeTree) (p : Physical) (f g : A → Value) (xs : List A) (m : Mask) → is_number p ≡ true → ((x : A) → IsStored (leaf_type (base t)) p (g x) (f x)) → (i : ℕ) → at_place (map f xs) i ≡ stored_at (leaf_array t (map g xs) m) p i
number_stored {A} t p f g xs m n h i =
    let each : (x : A) → f x ≡ stored_value (leaf_type t) p (g x) =
    λ x. stored_is (leaf_type (base t)) p (g x) (f x) n (h x) ∙ ap (λ (l : LeafType). stored_value l p (g x)) (leaf_base t) in
    mapped_at f g (stored_value (leaf_type t) p) xs each (sym (truth_kept (leaf_type t) p false)) i

pub values_from : (ws : List Value) (d : Value) (from count : ℕ) → from + count ≤ length ws → map (λ i. get_or ws i d) (range from count) ≡ take count (drop from ws)
unfolding gather
values_from ws d from zero h = refl
values_from ws d from (suc count) h =
    let cut : drop from ws ≡ get_or ws from d ∷ drop (suc from) ws = drop-cons ws from d (omega (arith, h)) in
    let n : from + 1 ≡ suc from = omega arith in
    rw (cut, n) (ap (λ (us : List Value). get_or ws from d ∷ us) (values_from ws d (suc from) count (omega (arith, h))))

pub map-alike : {A B : Type 0} (f g : A → B) → ((x : A) → f x ≡ g x) → (xs : List A) → map f xs ≡ map g xs
map-alike f g e [] = refl
map-alike {A} {B} f g e (x ∷ xs) = ap (λ (b : B). b ∷ map f xs) (e x) ∙ ap (λ (bs : List B). g x ∷ bs) (map-alike f g e xs)

-- the numbers of a stretch
pub numbers_cut : {A : Type 0} (t : TypeTree) (p : Physical) (f g : A → Value) (xs : List A) (m : Mask) (from to n : ℕ) → is_number p ≡ true → ((x : A) → IsStored (leaf_type (base t)) p (g x) (f x)) → from ≤ to → to ≤ length xs → n ≡ to - from
    → map f (take n (drop from xs)) ≡ map (stored_at (leaf_array t (map g xs) m) p) (range from (to - from))
numbers_cut t p f g xs m from to n q h low high e =
    rw e
    (sym
    (values_from (map f xs) (truth false) from (to - from) (omega (arith, low, high, length-map xs f))
    ∙ (ap (λ (us : List Value). take (to - from) us) (drop-map f from xs) ∙ take-map f (to - from) (drop from xs)))
    ∙ map-alike (at_place (map f xs)) (stored_at (leaf_array t (map g xs) m) p) (number_stored t p f g xs m q h) (range from (to - from)))

-- ---- sizes

sum_alike : (p : Physical) (w : ℕ) → ((v : Value) → plain_size p v ≡ w) → (vs : List Value) → sum_by (plain_size p) vs ≡ length vs * w
sum_alike p w h [] = sym (zero_times w)
  where
    zero_times : (k : ℕ) → 0 * k ≡ 0
    zero_times k = omega arith
sum_alike p w h (v ∷ vs) = sum_by-cons (plain_size p) v vs ∙ omega (arith, h v, sum_alike p w h vs)

pub numbers_size : (p : Physical) (w : ℕ) (stored : ℕ → Value) (from count : ℕ) → is_number p ≡ true → ((v : Value) → plain_size p v ≡ w) → count * w ≡ plain_length p (map stored (range from count))
numbers_size p w stored from count n h =
    let k : length (map stored (range from count)) ≡ count = length-map (range from count) stored ∙ length-range from count in
    sym (plain_sum p (map stored (range from count)) (numbers_in_a_row p n) ∙ (sum_alike p w h (map stored (range from count)) ∙ ap (λ (j : ℕ). j * w) k))

pub picked_size : (p : Physical) (w : ℕ) (stored : ℕ → Value) (places : List ℕ) → is_number p ≡ true → ((v : Value) → plain_size p v ≡ w) → length places * w ≡ plain_length p (map stored places)
picked_size p w stored places n h =
    sym (plain_sum p (map stored places) (numbers_in_a_row p n) ∙ (sum_alike p w h (map stored places) ∙ ap (λ (j : ℕ). j * w) (length-map places stored)))

pub numbers_more : {A : Type 0} (p : Physical) (f : A → Value) (xs : List A) (i : ℕ) (x : A) (a b c : List ℕ) → i < length xs → x ≡ get_or xs i x → AppendsRow p a b (map f (take i xs)) → AppendsRow p b c (f x ∷ []) → AppendsRow p a c (map f (take (i + 1) xs))
numbers_more {A} p f xs i x a b c l e h g =
    let same : map f (take i xs) ++ (f x ∷ []) ≡ map f (take (i + 1) xs) =
    ap (λ (y : A). map f (take i xs) ++ (f y ∷ [])) e ∙ (sym (map-append f (take i xs) (get_or xs i x ∷ [])) ∙ ap (map f) (sym (take_more xs i x l))) in
    subst (λ (vs : List Value). AppendsRow p a c vs) same (row-more p a b c (map f (take i xs)) (f x ∷ []) h g)

-- ---- in places that are there

-- room for the numbers that are left, once one more stands
pub room_left : (at i n w k size more : ℕ) → i < n → at + (n - i) * w ≤ size → k ≡ w → more ≡ size → at + k + (n - (i + 1)) * w ≤ more
room_left at i n w k size more l h e s =
    let step : n - i ≡ suc (n - (i + 1)) = omega (arith, l) in
    let room : at + suc (n - (i + 1)) * w ≤ size = subst (λ (j : ℕ). at + j * w ≤ size) step h in
    omega (arith, room, e, s)

-- one more number in its place
pub number_placed : {A : Type 0} (p : Physical) (f : A → Value) (xs : List A) (i : ℕ) (x : A) (at k w : ℕ) (old new : List ℕ) → i < length xs → x ≡ get_or xs i x → k ≡ w → AppendsRow p [] (take at old) (map f (take i xs)) → AppendsRow p (take at old) (take (at + w) new) (f x ∷ []) → AppendsRow p [] (take (at + k) new) (map f (take (i + 1) xs))
number_placed {A} p f xs i x at k w old new l e q h g =
    numbers_more p f xs i x [] (take at old) (take (at + k) new) l e h (subst (λ (j : ℕ). AppendsRow p (take at old) (take (at + j) new) (f x ∷ [])) (sym q) g)

-- what stands in its own places is appended
row-behind : (p : Physical) (a text : List ℕ) (vs : List Value) → AppendsRow p [] text vs → AppendsRow p a (a ++ text) vs
row-behind p a text vs h = record { text = text; parts = refl; row = subst (λ (t : List ℕ). InARow p t vs) (sym h.parts) h.row }

pub take_on : {X : Type 0} (xs : List X) (i n : ℕ) → take (i + n) xs ≡ take i xs ++ take n (drop i xs)
take_on xs zero n = let e : 0 + n ≡ n = omega arith in ap (λ (k : ℕ). take k xs) e
take_on {X} [] (suc i) n = nothing (suc i + n) ∙ sym (nothing n)
  where
    nothing : (k : ℕ) → ◌≡◌ {A = List X} (take k []) []
    nothing zero = refl
    nothing (suc k) = refl
take_on {X} (x ∷ xs) (suc i) n =
    let e : suc i + n ≡ suc (i + n) = omega arith in
    ap (λ (k : ℕ). take k (x ∷ xs)) e ∙ ap (λ (ys : List X). x ∷ ys) (take_on xs i n)

-- the numbers of one more stretch
pub rows_further : {A : Type 0} (p : Physical) (f : A → Value) (xs : List A) (at end : ℕ) (a b c : List ℕ) → at ≤ end → AppendsRow p a b (map f (take at xs)) → AppendsRow p b c (map f (take (end - at) (drop at xs))) → AppendsRow p a c (map f (take end xs))
rows_further {A} p f xs at end a b c l h g =
    let n : at + (end - at) ≡ end = omega (arith, l) in
    let same : map f (take at xs) ++ map f (take (end - at) (drop at xs)) ≡ map f (take end xs) =
    sym (map-append f (take at xs) (take (end - at) (drop at xs))) ∙ (ap (map f) (sym (take_on xs at (end - at))) ∙ ap (λ (k : ℕ). map f (take k xs)) n) in
    subst (λ (vs : List Value). AppendsRow p a c vs) same (row-more p a b c (map f (take at xs)) (map f (take (end - at) (drop at xs))) h g)

-- the numbers of one more block
pub numbers_further : {A : Type 0} (p : Physical) (f : A → Value) (xs : List A) (at end : ℕ) (a b text c : List ℕ) → at ≤ end → c ≡ b ++ text → AppendsRow p a b (map f (take at xs)) → AppendsRow p [] text (map f (take (end - at) (drop at xs))) → AppendsRow p a c (map f (take end xs))
numbers_further {A} p f xs at end a b text c l e h g =
    rows_further p f xs at end a b c l h (subst (λ (t : List ℕ). AppendsRow p b t (map f (take (end - at) (drop at xs)))) (sym e) (row-behind p b text (map f (take (end - at) (drop at xs))) g))

-- all numbers, with those that are left
pub rows_ended : {A X E : Type 0} (r : Result X E) (p : Physical) (f : A → Value) (xs : List A) (at : ℕ) (a b c : List ℕ) → at ≤ length xs → AppendsRow p a b (map f (take at xs)) → OnOk r (AppendsRow p b c (map f (take (length xs - at) (drop at xs)))) → OnOk r (AppendsRow p a c (map f xs))
rows_ended {A} (Ok x) p f xs at a b c l h g =
    subst (λ (ys : List A). AppendsRow p a c (map f ys)) (take_all (length xs) xs (omega arith)) (rows_further p f xs at (length xs) a b c l h g)
rows_ended (Err e) p f xs at a b c l h g = tt

-- ---- a block of them

-- a number takes four bytes or eight
pub four_or_eight : (p : Physical) (w : ℕ) → is_number p ≡ true → ((v : Value) → plain_size p v ≡ w) → (w ≡ 4) ⊎ (w ≡ 8)
four_or_eight int32 w n h = inl (sym (h (truth false)))
four_or_eight int64 w n h = inr (sym (h (truth false)))
four_or_eight p w n h = absurd (true≢false (sym n))

pub block_counts : (w k : ℕ) → k ≡ w → (w ≡ 4) ⊎ (w ≡ 8) → (0 < k) × (0 < 4096 / k) × (w * (4096 / k) ≡ 4096)
block_counts w k e (inl h) = let f : k ≡ 4 = e ∙ h in rw (f, h) (lit≤ tt, lit≤ tt, refl)
block_counts w k e (inr h) = let f : k ≡ 8 = e ∙ h in rw (f, h) (lit≤ tt, lit≤ tt, refl)

-- one more number of a block
pub number_filled : {A : Type 0} (p : Physical) (f : A → Value) (xs : List A) (i : ℕ) (x : A) (k w : ℕ) (old new : List ℕ) → i < length xs → x ≡ get_or xs i x → k ≡ w → AppendsRow p [] (take (w * i) old) (map f (take i xs)) → AppendsRow p (take (k * i) old) (take (k * i + w) new) (f x ∷ []) → AppendsRow p [] (take (w * (i + 1)) new) (map f (take (i + 1) xs))
number_filled {A} p f xs i x k w old new l e q h g =
    let at : k * i ≡ w * i = ap (λ (j : ℕ). j * i) q in
    let end : w * i + w ≡ w * (i + 1) = omega arith in
    numbers_more p f xs i x [] (take (w * i) old) (take (w * (i + 1)) new) l e h
    (subst (λ (j : ℕ). AppendsRow p (take (w * i) old) (take j new) (f x ∷ [])) end (subst (λ (j : ℕ). AppendsRow p (take j old) (take (j + w) new) (f x ∷ [])) at g))
