-- Byte strings of one length by place, one behind the other.
use Rattle.std.proofs.Common.{◌≡◌, ◌≢◌, ℕ, zero, suc, ◌+◌, ◌-◌, ◌*◌, ◌/◌, ◌<◌, ◌≤◌, false, List, [], ◌∷◌, ◌++◌, length, take, drop, map, get_or, zero-mul, refl, sym, ap, subst, ◌∙◌, append-nil, arith}
use Rattle.std.specs.Prelude.{sum_by}
use Rattle.std.proofs.lemmas.List.{map-append, drop-drop, drop-map, take-map, length-map, length-take-le, length-drop, take-append-drop, get_or-map}
use Rattle.std.proofs.lemmas.List.Sums.{sum_by-cons}
use Rattle.std.proofs.lemmas.Nat.{div-add-mod', mul-le}
use Rattle.std.proofs.Math.Nat.{add-mul}
use Rattle.shredding.specs.Shape.{LeafType, unsigned}
use Rattle.shredding.specs.Slot.{Value, truth, bytes}
use Rattle.columns_core.specs.Shapes.{base, leaf_type}
use Rattle.columns_core.specs.Tree.{TypeTree}
use Rattle.columns_leaf.specs.Fixed.{fixed_count}
use Rattle.columns_slots.specs.Bytes.{chunks, chunks_values}
use Rattle.columns_slots.proofs.Strings.{chunks_len, chunks_cut}
use Rattle.columns_slots.specs.Tree.{Mask, leaf_array}
use Rattle.pq_tree.specs.Physical.{Physical, boolean, fixed}
use Rattle.pq_files.specs.Layout.{plain_length, plain_size}
use Rattle.pq_files.specs.Plain.{InARow}
use Rattle.write_places.specs.Places.{range}
use Rattle.write_values.specs.Fixed.{strings_in, width_in}
use Rattle.write_values.specs.Lengths.{plain_sum}
use Rattle.write_values.specs.Numbers.{at_place}
use Rattle.write_values.specs.Rows.{AppendsRow, row-none}
use Rattle.write_values.specs.Stored.{stored_value, stored_at}
use Rattle.write_places.proofs.Gather.{gather-none}
use Rattle.write_values.proofs.InRows.{length-range, row-more}
use Rattle.write_values.proofs.NumberPlaces.{values_from}
use Rattle.write_values.proofs.ServedTypes.{string_kept}
use Rattle.write_values.proofs.StringPlaces.{range_more}

-- ---- sizes

sum_alike : (n : ℕ) (vs : List Value) → sum_by (plain_size (fixed n)) vs ≡ length vs * n
sum_alike n [] = omega (arith, zero-mul n)
sum_alike n (v ∷ vs) = sum_by-cons (plain_size (fixed n)) v vs ∙ omega (arith, sum_alike n vs, add-mul 1 (length vs) n)

-- values that have so many bytes each
module _ (p : Physical) (n : ℕ) (row : p ≢ boolean) (sizes : (v : Value) → plain_size p v ≡ n) where
  sum_each : (vs : List Value) → sum_by (plain_size p) vs ≡ length vs * n
  sum_each [] = omega (arith, zero-mul n)
  sum_each (v ∷ vs) = sum_by-cons (plain_size p) v vs ∙ omega (arith, sizes v, sum_each vs, add-mul 1 (length vs) n)

  pub each_size : (stored : ℕ → Value) (places : List ℕ) → length places * n ≡ plain_length p (map stored places)
  each_size stored places = sym (plain_sum p (map stored places) row ∙ (sum_each (map stored places) ∙ ap (λ (k : ℕ). k * n) (length-map places stored)))

  pub stretch_size : (stored : ℕ → Value) (from count : ℕ) → count * n ≡ plain_length p (map stored (range from count))
  stretch_size stored from count = ap (λ (k : ℕ). k * n) (sym (length-range from count)) ∙ each_size stored (range from count)

pub strings_size : (n : ℕ) (stored : ℕ → Value) (places : List ℕ) → length places * n ≡ plain_length (fixed n) (map stored places)
strings_size n stored places = sym (sum_alike n (map stored places) ∙ ap (λ (k : ℕ). k * n) (length-map places stored))

pub run_size : (n : ℕ) (stored : ℕ → Value) (from count : ℕ) → count * n ≡ plain_length (fixed n) (map stored (range from count))
run_size n stored from count = ap (λ (k : ℕ). k * n) (sym (length-range from count)) ∙ strings_size n stored (range from count)

-- ---- strings of an array

pub fits_at : (w i n size : ℕ) → i < n → n * w ≤ size → i * w + w ≤ size
fits_at w i n size h g =
    let next : suc i * w ≡ w + i * w = omega (arith, add-mul 1 i w) in
    omega (arith, next, mul-le (suc i) w n w (omega (arith, h)) (omega arith), g)

pub whole : (w k : ℕ) → k / w * w ≤ k
whole w k = omega (arith, div-add-mod' k w)

pub chunk_at : (w n : ℕ) (bs : List ℕ) (i : ℕ) (d : List ℕ) → i < n → get_or (chunks w n bs) i d ≡ take w (drop (i * w) bs)
chunk_at w zero bs i d h = absurd (omega (arith, h))
chunk_at w (suc n) bs zero d h = rw (zero-mul w) refl
chunk_at w (suc n) bs (suc i) d h =
    let far : suc i * w ≡ w + i * w = omega (arith, add-mul 1 i w) in
    rw (far, sym (drop-drop (i * w) w bs)) (chunk_at w n (drop w bs) i d (omega (arith, h)))

pub string_here : (w n : ℕ) (bs : List ℕ) (i : ℕ) → i < n → bytes (take w (drop (i * w) bs)) ≡ at_place (chunks_values w n bs) i
string_here w n bs i h =
    sym (get_or-map bytes (chunks w n bs) i [] (truth false) (omega (arith, h, chunks_len w n bs)) ∙ ap bytes (chunk_at w n bs i [] h))

pub string_long : (w n : ℕ) (bs : List ℕ) (i : ℕ) → i < n → n * w ≤ length bs → length (take w (drop (i * w) bs)) ≡ w
string_long w n bs i h g =
    length-take-le w (drop (i * w) bs) (omega (arith, length-drop (i * w) bs, fits_at w i n (length bs) h g))

-- so many strings of a width stand one behind the other
pub chunks_row : (w n : ℕ) (text : List ℕ) → length text ≡ n * w → InARow (fixed w) text (map bytes (chunks w n text))
chunks_row w zero [] h = refl
chunks_row w zero (b ∷ text) h = absurd (omega (arith, h, zero-mul w))
chunks_row w (suc n) text h =
    let long : suc n * w ≡ w + n * w = omega (arith, add-mul 1 n w) in
    let here : length (take w text) ≡ w = length-take-le w text (omega (arith, h, long)) in (
      take w text,
      drop w text,
      (here, refl),
      chunks_row w n (drop w text) (omega (arith, h, long, length-drop w text)),
      sym (take-append-drop w text),
    )

-- ---- strings of an array by place

strings_long : (t : TypeTree) (bs : List ℕ) → length (strings_in t bs) ≡ fixed_count (base t) bs
strings_long t bs = let n = fixed_count (base t) bs in length-map (chunks (width_in t) n bs) bytes ∙ chunks_len (width_in t) n bs

pub strings_are : (t : TypeTree) (bs : List ℕ) → fixed_count (base t) bs ≡ length (strings_in t bs)
strings_are t bs = sym (strings_long t bs)

pub string_ends : (t : TypeTree) (bs : List ℕ) (i : ℕ) → i < length (strings_in t bs) → i * width_in t + width_in t ≤ length bs
string_ends t bs i h = fits_at (width_in t) i (fixed_count (base t) bs) (length bs) (omega (arith, h, strings_long t bs)) (whole (width_in t) (length bs))

pub run_ends : (t : TypeTree) (bs : List ℕ) (from to : ℕ) → from ≤ to → to ≤ length (strings_in t bs) → from * width_in t + (to - from) * width_in t ≤ length bs
run_ends t bs from to low high =
    let n : from + (to - from) ≡ to = omega (arith, low) in
    let w = width_in t in
    let sum : from * w + (to - from) * w ≡ to * w = sym (add-mul from (to - from) w) ∙ ap (λ (k : ℕ). k * w) n in
    omega (arith, sum, mul-le to w (fixed_count (base t) bs) w (omega (arith, high, strings_long t bs)) (omega arith), whole w (length bs))

pub string_is : (t : TypeTree) (bs : List ℕ) (i : ℕ) → i < length (strings_in t bs) → bytes (take (width_in t) (drop (i * width_in t) bs)) ≡ at_place (strings_in t bs) i
string_is t bs i h = string_here (width_in t) (fixed_count (base t) bs) bs i (omega (arith, h, strings_long t bs))

pub string_size : (t : TypeTree) (bs : List ℕ) (i : ℕ) → i < length (strings_in t bs) → length (take (width_in t) (drop (i * width_in t) bs)) ≡ width_in t
string_size t bs i h =
    string_long (width_in t) (fixed_count (base t) bs) bs i (omega (arith, h, strings_long t bs)) (whole (width_in t) (length bs))

-- the strings of a stretch
pub run_is : (t : TypeTree) (bs : List ℕ) (from to : ℕ) → from ≤ to → to ≤ length (strings_in t bs) → AppendsRow (fixed (width_in t)) [] (take ((to - from) * width_in t) (drop (from * width_in t) bs)) (map (at_place (strings_in t bs)) (range from (to - from)))
run_is t bs from to low high =
    let w = width_in t in
    let n = fixed_count (base t) bs in
    let k = to - from in
    let text = take (k * w) (drop (from * w) bs) in
    let within : from + k ≤ n = omega (arith, low, high, strings_long t bs) in
    let long : length text ≡ k * w =
    length-take-le (k * w) (drop (from * w) bs) (omega (arith, length-drop (from * w) bs, run_ends t bs from to low high)) in
    let same : map bytes (chunks w k text) ≡ map (at_place (strings_in t bs)) (range from k) =
    ap (map bytes) (chunks_cut w n from k bs within)
    ∙ (sym (ap (take k) (drop-map bytes from (chunks w n bs)) ∙ take-map bytes k (drop from (chunks w n bs)))
    ∙ sym (values_from (strings_in t bs) (truth false) from k (omega (arith, within, strings_long t bs)))) in
    record { text = text; parts = refl; row = subst (λ (vs : List Value). InARow (fixed w) text vs) same (chunks_row w k text long) }

-- byte strings are stored as they are
pub bytes_stored : {A : Type 0} (t : TypeTree) (g : A → List ℕ) (xs : List A) (m : Mask) (n i : ℕ) → at_place (map (λ x. bytes (g x)) xs) i ≡ stored_at (leaf_array t (map (λ x. bytes (g x)) xs) m) (fixed n) i
bytes_stored {A} t g xs m n i = sym (kept (leaf_type t) n xs i)
  where
    own : (l : LeafType) (n : ℕ) → stored_value l (fixed n) (truth false) ≡ truth false
    own (unsigned w) n = refl
    own l n = refl

    kept : (l : LeafType) (n : ℕ) (xs : List A) (i : ℕ) → stored_value l (fixed n) (at_place (map (λ x. bytes (g x)) xs) i) ≡ at_place (map (λ x. bytes (g x)) xs) i
    kept l n [] zero = own l n
    kept l n [] (suc i) = own l n
    kept l n (x ∷ xs) zero = string_kept l (fixed n) (g x)
    kept l n (x ∷ xs) (suc i) = kept l n xs i

pub strings_stored : (t : TypeTree) (bs : List ℕ) (m : Mask) (n i : ℕ) → at_place (strings_in t bs) i ≡ stored_at (leaf_array t (strings_in t bs) m) (fixed n) i
strings_stored t bs m n i = bytes_stored t (λ s. s) (chunks (width_in t) (fixed_count (base t) bs) bs) m n i

-- a string behind others
pub string_pushed : (n : ℕ) (a b s : List ℕ) (v : Value) → b ≡ a ++ s → length s ≡ n → bytes s ≡ v → AppendsRow (fixed n) a b (v ∷ [])
string_pushed n a b s v e l is =
    subst (λ (w : Value). AppendsRow (fixed n) a b (w ∷ [])) is (record { text = s; parts = e; row = (s, [], (l, refl), refl, sym (append-nil s)) })

-- a run behind others
pub run_pushed : (p : Physical) (a b s : List ℕ) (us vs : List Value) → b ≡ a ++ s → AppendsRow p [] s us → us ≡ vs → AppendsRow p a b vs
run_pushed p a b s us vs e h is =
    subst (λ (ws : List Value). AppendsRow p a b ws) is (record { text = s; parts = e; row = subst (λ (x : List ℕ). InARow p x us) (sym h.parts) h.row })

-- ---- one after another

pub run_none : (p : Physical) (f : ℕ → Value) (from : ℕ) (out : List ℕ) → AppendsRow p out out (map f (range from (from - from)))
run_none p f from out =
    let e : range from (from - from) ≡ [] = gather-none (λ j. j ∷ []) from (from - from) (omega arith) in
    subst (λ (ns : List ℕ). AppendsRow p out out (map f ns)) (sym e) (row-none p out)

pub run_more : (p : Physical) (f : ℕ → Value) (from i : ℕ) (a b c : List ℕ) → from ≤ i → AppendsRow p a b (map f (range from (i - from))) → AppendsRow p b c (f i ∷ []) → AppendsRow p a c (map f (range from (i + 1 - from)))
run_more p f from i a b c low h g =
    subst (λ (vs : List Value). AppendsRow p a c vs) (sym (map-append f (range from (i - from)) (i ∷ [])) ∙ ap (map f) (sym (range_more from i low))) (row-more p a b c _ (f i ∷ []) h g)
