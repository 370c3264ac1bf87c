-- The deltas of values that go to an encoder one by one.
use Rattle.std.proofs.Common.{◌≡◌, ℕ, suc, zero, ◌+◌, ◌-◌, ◌<◌, ◌≤◌, ◌%◌, ◌^◌, ℤ, pos, List, [], ◌∷◌, ◌++◌, length, map, take, drop, true, true≢false, refl, sym, ap, subst, ◌∙◌, arith, append-nil, append_assoc, inl, inr}
use Rattle.std.specs.Prelude.{flat_map, sum_by, slice_index_or}
use Rattle.std.specs.Int.{Width, w32, cast_signed}
use Rattle.std.specs.List.{AllByRecursion as Each}
use Rattle.std.proofs.lemmas.Int.{to_z_pos}
use Rattle.std.proofs.lemmas.List.{length-append, length-map, map-append, drop-drop}
use Rattle.std.proofs.lemmas.List.Elements.{All-from_recursion}
use Rattle.std.proofs.lemmas.List.Sums.{sum_by-cons}
use Rattle.std.proofs.Math.Nat.{mod-eq_of_lt}
use Rattle.shredding.specs.Slot.{Value, number, bytes}
use Rattle.columns_slots.specs.Bytes.{pieces_values}
use Rattle.columns_slots.specs.Slots.{AreUpTo, IsPlaces}
use Rattle.columns_leaf.proofs.Texts.{step_of_places}
use Rattle.pq_tree.specs.Physical.{Physical, int32, int64, byte_array}
use Rattle.pq_deltas.specs.declared.delta_encode.Encoder.{Encoder}
use Rattle.pq_deltas.specs.Encoding.{Feeds}
use Rattle.pq_runs.specs.WrittenDelta.{IsWrittenDelta}
use Rattle.pq_files.specs.Layout.{plain_length, plain_size}
use Rattle.pq_files.specs.Page.{delta, delta_length}
use Rattle.pq_files.specs.Room.{max_size}
use Rattle.write_places.specs.Places.{gather, range, picked}
use Rattle.write_places.proofs.Gather.{gather-none}
use Rattle.write_places.proofs.Picked.{IsNext}
use Rattle.write_values.specs.Deltas.{AppendsSpelled}
use Rattle.write_values.specs.Feeding.{AppendsDeltas, AreNumbersOf, FeedsRow, IsTold, delta_number, feeds-nothing, feeds-more, text_of}
use Rattle.write_values.specs.Numbers.{at_place, is_number}
use Rattle.write_values.proofs.NumberPlaces.{take_on}
use Rattle.write_values.proofs.Picked.{picked_none}
use Rattle.write_values.proofs.StringPlaces.{piece_is, range_more}

-- ---- one value

number_told : (p : Physical) (v : Value) (z : ℤ) → is_number p ≡ true → v ≡ number z → IsTold p v
number_told int32 v z n e = e ∙ ap number (sym (ap delta_number e))
number_told int64 v z n e = e ∙ ap number (sym (ap delta_number e))
number_told p v z n e = absurd (true≢false (sym n))

-- a number
pub feeds_number : (w : Width) (p : Physical) (a : List ℕ) (d : Encoder) (b : List ℕ) (e : Encoder) (z : ℤ) (v : Value) → is_number p ≡ true → v ≡ number z → Feeds w a d b e (z ∷ []) → FeedsRow w p a d b e (v ∷ [])
feeds_number w p a d b e z v n is h = record {
  fed = subst (λ (y : ℤ). Feeds w a d b e (y ∷ [])) (sym (ap delta_number is)) h;
  told = (number_told p v z n is, tt);
}

-- the length of a string
pub feeds_length : (a : List ℕ) (d : Encoder) (b : List ℕ) (e : Encoder) (z : ℤ) (s : List ℕ) (v : Value) → bytes s ≡ v → z ≡ cast_signed w32 (length s % 2 ^ 32) → Feeds w32 a d b e (z ∷ []) → FeedsRow w32 byte_array a d b e (v ∷ [])
feeds_length a d b e z s v is size h = record {
  fed = subst (λ (y : ℤ). Feeds w32 a d b e (y ∷ [])) (size ∙ ap delta_number is) h;
  told = (sym is ∙ ap bytes (ap text_of is), tt);
}

-- ---- one after another

pub fed_none : (w : Width) (p : Physical) (f : ℕ → Value) (from : ℕ) (out : List ℕ) (e : Encoder) → FeedsRow w p out e out e (map f (range from (from - from)))
fed_none w p f from out e =
    let none : range from (from - from) ≡ [] = gather-none (λ j. j ∷ []) from (from - from) (omega arith) in
    subst (λ (ns : List ℕ). FeedsRow w p out e out e (map f ns)) (sym none) (feeds-nothing w p out e)

pub fed_more : (w : Width) (p : Physical) (f : ℕ → Value) (from i : ℕ) (a : List ℕ) (d : Encoder) (b : List ℕ) (e : Encoder) (c : List ℕ) (g : Encoder) → from ≤ i → FeedsRow w p a d b e (map f (range from (i - from))) → FeedsRow w p b e c g (f i ∷ []) → FeedsRow w p a d c g (map f (range from (i + 1 - from)))
fed_more w p f from i a d b e c g low h k =
    subst (λ (vs : List Value). FeedsRow w p a d c g vs) (sym (map-append f (range from (i - from)) (i ∷ [])) ∙ ap (map f) (sym (range_more from i low))) (feeds-more w p a d b e c g (map f (range from (i - from))) (f i ∷ []) h k)

-- what a walk takes next
pub fed_places : (w : Width) (p : Physical) (f : ℕ → Value) (xs ys : List ℕ) (a : List ℕ) (d : Encoder) (b : List ℕ) (e : Encoder) (c : List ℕ) (g : Encoder) → FeedsRow w p a d b e (map f xs) → FeedsRow w p b e c g (map f ys) → FeedsRow w p a d c g (map f (xs ++ ys))
fed_places w p f xs ys a d b e c g h k = subst (λ (vs : List Value). FeedsRow w p a d c g vs) (sym (map-append f xs ys)) (feeds-more w p a d b e c g (map f xs) (map f ys) h k)

-- of all the values those that are not left are taken
pub record IsPartlyFed (w : Width) (p : Physical) (out : List ℕ) (e : Encoder) (out' : List ℕ) (e' : Encoder) (all left : List Value) : Type 0 where
  pub done : List Value
  pub parts : done ++ left ≡ all
  pub row : FeedsRow w p out e out' e' done

pub partly_none : (w : Width) (p : Physical) (out : List ℕ) (e : Encoder) (all : List Value) → IsPartlyFed w p out e out e all all
partly_none w p out e all = record { done = []; parts = refl; row = feeds-nothing w p out e }

pub partly_more : (w : Width) (p : Physical) (a : List ℕ) (d : Encoder) (b : List ℕ) (e : Encoder) (c : List ℕ) (g : Encoder) (all : List Value) (f : ℕ → Value) (word left from count t : ℕ) → IsPartlyFed w p a d b e all (map f (picked word from count)) → IsNext word left from count t → FeedsRow w p b e c g (f (from + t) ∷ []) → IsPartlyFed w p a d c g all (map f (picked left from count))
partly_more w p a d b e c g all f word left from count t h n r = record {
  done = h.done ++ (f (from + t) ∷ []);
  parts = append_assoc h.done (f (from + t) ∷ []) (map f (picked left from count)) ∙ (ap (λ (ns : List ℕ). h.done ++ map f ns) (sym n.places) ∙ h.parts);
  row = feeds-more w p a d b e c g h.done (f (from + t) ∷ []) h.row r;
}

pub partly_all : (w : Width) (p : Physical) (a : List ℕ) (d : Encoder) (b : List ℕ) (e : Encoder) (all : List Value) (f : ℕ → Value) (word from count : ℕ) → IsPartlyFed w p a d b e all (map f (picked word from count)) → word ≡ 0 → FeedsRow w p a d b e all
partly_all w p a d b e all f word from count h z =
    let done : h.done ≡ all = sym (append-nil h.done) ∙ (ap (λ (ns : List ℕ). h.done ++ map f ns) (sym (picked_none word from count z)) ∙ h.parts) in
    subst (λ (vs : List Value). FeedsRow w p a d b e vs) done h.row

-- ---- all numbers

told_numbers : (vs : List Value) → Each (λ v. v ≡ number (delta_number v)) vs → vs ≡ map number (map delta_number vs)
told_numbers [] h = refl
told_numbers (v ∷ vs) h = ap (λ (w : Value). w ∷ vs) h.0 ∙ ap (λ (ws : List Value). number (delta_number v) ∷ ws) (told_numbers vs h.1)

pub numbers_spelled : (p : Physical) (w : Width) (a b : List ℕ) (vs : List Value) → AreNumbersOf p w → AppendsDeltas w p a b vs → AppendsSpelled delta p a b vs
numbers_spelled int32 w a b vs n h =
    record {
      text = h.deltas.text;
      parts = h.deltas.parts;
      spelled = λ l e. inl (e, (map delta_number vs, subst (λ (u : Width). IsWrittenDelta u h.deltas.text (map delta_number vs)) n h.deltas.is, told_numbers vs h.told));
      size = omega (arith, h.deltas.size, length-map vs delta_number);
    }
numbers_spelled int64 w a b vs n h =
    record {
      text = h.deltas.text;
      parts = h.deltas.parts;
      spelled = λ l e. inr (e, (map delta_number vs, subst (λ (u : Width). IsWrittenDelta u h.deltas.text (map delta_number vs)) n h.deltas.is, told_numbers vs h.told));
      size = omega (arith, h.deltas.size, length-map vs delta_number);
    }
numbers_spelled p w a b vs n h = absurd n

-- ---- all strings

told_strings : (vs : List Value) → Each (IsTold byte_array) vs → vs ≡ map bytes (map text_of vs)
told_strings [] h = refl
told_strings (v ∷ vs) h = ap (λ (w : Value). w ∷ vs) h.0 ∙ ap (λ (ws : List Value). bytes (text_of v) ∷ ws) (told_strings vs h.1)

joined : (vs : List Value) → flat_map text_of vs ≡ flat_map (λ s. s) (map text_of vs)
joined [] = refl
joined (v ∷ vs) = ap (λ (t : List ℕ). text_of v ++ t) (joined vs)

string_long : (v : Value) → IsTold byte_array v → plain_size byte_array v ≡ 4 + length (text_of v)
string_long v h = ap (plain_size byte_array) h

short_strings : (vs : List Value) → Each (IsTold byte_array) vs → sum_by (plain_size byte_array) vs ≤ max_size → Each (λ s. length s < 2 ^ 31) (map text_of vs)
short_strings [] h few = tt
short_strings (v ∷ vs) h few =
    let all = sum_by-cons (plain_size byte_array) v vs in
    let one = string_long v h.0 in
    (omega (arith, all, one, few), short_strings vs h.1 (omega (arith, all, few)))

-- they take no more bytes in one piece than plain
joined_within : (vs : List Value) → Each (IsTold byte_array) vs → length (flat_map text_of vs) ≤ sum_by (plain_size byte_array) vs
joined_within [] h = omega arith
joined_within (v ∷ vs) h = omega (arith, joined_within vs h.1, string_long v h.0, length-append (text_of v) (flat_map text_of vs), sum_by-cons (plain_size byte_array) v vs)

short_length : (n : ℕ) → n < 2 ^ 31 → cast_signed w32 (n % 2 ^ 32) ≡ pos n
short_length n h = ap (cast_signed w32) (mod-eq_of_lt (omega (arith, h))) ∙ to_z_pos w32 n (omega (arith, h))

lengths_told : (vs : List Value) → Each (IsTold byte_array) vs → Each (λ s. length s < 2 ^ 31) (map text_of vs) → map delta_number vs ≡ map (λ s. pos (length s)) (map text_of vs)
lengths_told [] h k = refl
lengths_told (v ∷ vs) h k =
    ap (λ (z : ℤ). z ∷ map delta_number vs) (ap delta_number h.0 ∙ short_length (length (text_of v)) k.0)
    ∙ ap (λ (zs : List ℤ). pos (length (text_of v)) ∷ zs) (lengths_told vs h.1 k.1)

pub strings_spelled : (before mid after : List ℕ) (vs : List Value) → AppendsDeltas w32 byte_array before mid vs → after ≡ mid ++ flat_map text_of vs → plain_length byte_array vs ≤ max_size → AppendsSpelled delta_length byte_array before after vs
strings_spelled before mid after vs h e few =
    let strings = map text_of vs in
    let all = flat_map text_of vs in
    let short = short_strings vs h.told few in
    let size : length (h.deltas.text ++ all) ≡ length h.deltas.text + length all = length-append h.deltas.text all in
    record {
      text = h.deltas.text ++ all;
      parts = e ∙ ap (λ (t : List ℕ). t ++ all) h.deltas.parts ∙ append_assoc before h.deltas.text all;
      spelled = λ l q. (q, record { strings = strings; short = All-from_recursion (λ s. length s < 2 ^ 31) strings short; head = h.deltas.text; lengths = subst (λ (zs : List ℤ). IsWrittenDelta w32 h.deltas.text zs) (lengths_told vs h.told short) h.deltas.is; parts = ap (λ (t : List ℕ). h.deltas.text ++ t) (joined vs); are = told_strings vs h.told });
      size = omega (arith, h.deltas.size, size, joined_within vs h.told, length-map vs delta_number);
    }

-- ---- their bytes

side_by_side : (a b c : ℕ) (bs : List ℕ) → a ≤ b → b ≤ c → take (b - a) (drop a bs) ++ take (c - b) (drop b bs) ≡ take (c - a) (drop a bs)
side_by_side a b c bs low high =
    let whole : b - a + (c - b) ≡ c - a = omega (arith, low, high) in
    let place : a + (b - a) ≡ b = omega (arith, low) in
    sym (ap (λ (n : ℕ). take n (drop a bs)) (sym whole) ∙ (take_on (drop a bs) (b - a) (c - b) ∙ ap (λ (t : List ℕ). take (b - a) (drop a bs) ++ take (c - b) t) (drop-drop (b - a) a bs ∙ ap (λ (n : ℕ). drop n bs) place)))

pub text_at : (os bs : List ℕ) (i : ℕ) → i + 1 < length os → text_of (at_place (pieces_values os bs) i) ≡ take (slice_index_or os (i + 1) 0 - slice_index_or os i 0) (drop (slice_index_or os i 0) bs)
text_at os bs i h = ap text_of (sym (piece_is os bs i h))

texts_from : (os bs : List ℕ) (from count : ℕ) → IsPlaces os (length bs) → from + count < length os → (slice_index_or os from 0 ≤ slice_index_or os (from + count) 0) × (flat_map text_of (map (at_place (pieces_values os bs)) (range from count)) ≡ take (slice_index_or os (from + count) 0 - slice_index_or os from 0) (drop (slice_index_or os from 0) bs))
unfolding gather
texts_from os bs from zero p h =
    let n : from + zero ≡ from = omega arith in
    let none : slice_index_or os from 0 - slice_index_or os from 0 ≡ 0 = omega arith in
    rw n (omega arith, rw none refl)
texts_from os bs from (suc count) p h =
    let n : from + suc count ≡ from + 1 + count = omega arith in
    let more = texts_from os bs (from + 1) count p (omega (arith, h)) in
    let s = step_of_places os (length bs) from p (omega (arith, h)) in
    let f = at_place (pieces_values os bs) in
    let rest = flat_map text_of (map f (range (from + 1) count)) in
    rw n (
      omega (arith, more.0, s.0),
      ap (λ (t : List ℕ). t ++ rest) (text_at os bs from (omega (arith, h)))
          ∙ (ap (λ (t : List ℕ). take (slice_index_or os (from + 1) 0 - slice_index_or os from 0) (drop (slice_index_or os from 0) bs) ++ t) more.1
          ∙ side_by_side (slice_index_or os from 0) (slice_index_or os (from + 1) 0) (slice_index_or os (from + 1 + count) 0) bs s.0 more.0),
    )

-- those of a stretch
pub texts_between : (os bs : List ℕ) (from to start end : ℕ) → IsPlaces os (length bs) → from ≤ to → to < length os → start ≡ slice_index_or os from 0 → end ≡ slice_index_or os to 0 → take (end - start) (drop start bs) ≡ flat_map text_of (map (at_place (pieces_values os bs)) (range from (to - from)))
texts_between os bs from to start end p low high s e =
    let n : from + (to - from) ≡ to = omega (arith, low) in
    rw (s, e) (sym (subst (λ (k : ℕ). flat_map text_of (map (at_place (pieces_values os bs)) (range from (to - from))) ≡ take (slice_index_or os k 0 - slice_index_or os from 0) (drop (slice_index_or os from 0) bs)) n (texts_from os bs from (to - from) p (omega (arith, low, high))).1))

up_below : (o : ℕ) (os : List ℕ) (n i : ℕ) → AreUpTo o os n → i < suc (length os) → slice_index_or (o ∷ os) i 0 ≤ n
up_below o [] n zero h few = h
up_below o [] n (suc i) h few = absurd (omega (arith, few))
up_below o (p ∷ os) n zero h few = omega (arith, h.0, up_below p os n zero h.1 (omega arith))
up_below o (p ∷ os) n (suc i) h few = up_below p os n i h.1 (omega (arith, few))

-- each offset is within all bytes
pub place_up : (os : List ℕ) (n i : ℕ) → IsPlaces os n → i < length os → slice_index_or os i 0 ≤ n
place_up [] n i p few = absurd p
place_up (o ∷ os) n i p few = up_below o os n i p few

flat_places : (f : ℕ → Value) (xs ys : List ℕ) → flat_map text_of (map f (xs ++ ys)) ≡ flat_map text_of (map f xs) ++ flat_map text_of (map f ys)
flat_places f [] ys = refl
flat_places f (x ∷ xs) ys = ap (λ (t : List ℕ). text_of (f x) ++ t) (flat_places f xs ys) ∙ sym (append_assoc (text_of (f x)) (flat_map text_of (map f xs)) (flat_map text_of (map f ys)))

-- what a walk takes next
pub joined_places : (f : ℕ → Value) (xs ys : List ℕ) (a b c : List ℕ) → b ≡ a ++ flat_map text_of (map f xs) → c ≡ b ++ flat_map text_of (map f ys) → c ≡ a ++ flat_map text_of (map f (xs ++ ys))
joined_places f xs ys a b c e g =
    g ∙ ap (λ (t : List ℕ). t ++ flat_map text_of (map f ys)) e ∙ append_assoc a (flat_map text_of (map f xs)) (flat_map text_of (map f ys)) ∙ ap (λ (t : List ℕ). a ++ t) (sym (flat_places f xs ys))

-- one of those picked, and the others
pub joined_next : (f : ℕ → Value) (word left from count t : ℕ) (a b s whole : List ℕ) → IsNext word left from count t → s ≡ text_of (f (from + t)) → b ≡ a ++ s → a ++ flat_map text_of (map f (picked word from count)) ≡ whole → b ++ flat_map text_of (map f (picked left from count)) ≡ whole
joined_next f word left from count t a b s whole n is e h =
    ap (λ (x : List ℕ). x ++ flat_map text_of (map f (picked left from count))) (e ∙ ap (λ (x : List ℕ). a ++ x) is)
    ∙ append_assoc a (text_of (f (from + t))) (flat_map text_of (map f (picked left from count)))
    ∙ ap (λ (ns : List ℕ). a ++ flat_map text_of (map f ns)) (sym n.places)
    ∙ h

pub joined_last : (f : ℕ → Value) (word from count : ℕ) (a whole : List ℕ) → a ++ flat_map text_of (map f (picked word from count)) ≡ whole → word ≡ 0 → a ≡ whole
joined_last f word from count a whole h e = sym (append-nil a) ∙ ap (λ (ns : List ℕ). a ++ flat_map text_of (map f ns)) (sym (picked_none word from count e)) ∙ h
