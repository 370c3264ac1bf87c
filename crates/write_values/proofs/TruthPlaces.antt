-- Truth values as bits.
use Rattle.std.proofs.Common.{◌≡◌, ◌⊎◌, inl, inr, ℕ, zero, suc, ◌+◌, ◌-◌, ◌*◌, ◌/◌, ◌%◌, ◌^◌, ◌<◌, ◌≤◌, ◌==◌, cond, Bool, true, false, true≢false, List, [], ◌∷◌, ◌++◌, length, map, take, drop, get_or, drop-cons, refl, ap, sym, ◌∙◌, arith, append-nil, append_assoc}
use Rattle.std.specs.Prelude.{slice_index_or, All, Result, Ok, Err, IsOk, IfOk}
use Rattle.std.specs.Int.{bit_at}
use Rattle.std.proofs.lemmas.List.{length-map, length-append, map-append}
use Rattle.std.proofs.lemmas.Bool.{cases_lt}
use Rattle.std.proofs.lemmas.Nat.Bits.{bit_at-zero, bit_at-suc, bit_at_lowest, bit_at_cat_low, bit_at_cat_high}
use Rattle.columns_core.specs.Bits.{bit_of, bits_from, word_bits}
use Rattle.columns_core.proofs.Bits.{length_bits}
use Rattle.columns_core.proofs.Words.{word_seen}
use Rattle.columns_core.specs.Shapes.{leaf_type}
use Rattle.columns_core.specs.Tree.{TypeTree}
use Rattle.columns_slots.specs.Tree.{Mask, leaf_array}
use Rattle.pq_files.specs.Plain.{AreBits}
use Rattle.pq_numbers.specs.Bits.{digits_of}
use Rattle.pq_numbers.specs.Texts.{number_of}
use Rattle.pq_tree.specs.Physical.{boolean}
use Rattle.shredding.specs.Shape.{LeafType, unsigned}
use Rattle.shredding.specs.Slot.{Value, truth}
use Rattle.write_places.specs.Places.{gather, range, picked}
use Rattle.write_places.proofs.Picked.{IsNext, picked-step}
use Rattle.write_values.specs.declared.truths.BitCount.{BitCount}
use Rattle.write_values.specs.Stored.{stored_value, stored_at}
use Rattle.write_values.specs.Truths.{truth_at, AddsBits, CountsBits}
use Rattle.write_values.proofs.InRows.{all-append}
use Rattle.write_values.proofs.Picked.{few_picked, picked_none}

-- ---- bits of bytes are those of the number that the bytes spell

no_byte : (k : ℕ) → ◌≡◌ {A = ℕ} (slice_index_or [] k 0) 0
no_byte zero = refl
no_byte (suc k) = refl

number_bit : (bs : List ℕ) → ((i : ℕ) → slice_index_or bs i 0 < 2 ^ 8) → (i : ℕ) → bit_of bs i ≡ (bit_at (number_of bs) i == 1)
number_bit [] low i = ap (λ (b : ℕ). bit_at b (i % 8) == 1) (no_byte (i / 8)) ∙ ap (λ (b : ℕ). b == 1) (bit_at-zero (i % 8) ∙ sym (bit_at-zero i))
number_bit (b ∷ bs) low i = by (cases_lt i 8) (number_bit bs (λ j. low (suc j)) (i - 8))
  where
    whole : b + 256 * number_of bs ≡ number_of bs * 2 ^ 8 + b
    whole = omega arith

    by : (i < 8) ⊎ (8 ≤ i) → bit_of bs (i - 8) ≡ (bit_at (number_of bs) (i - 8) == 1) → bit_of (b ∷ bs) i ≡ (bit_at (b + 256 * number_of bs) i == 1)
    by (inl h) g =
        let q : i / 8 ≡ 0 = omega (arith, h) in
        let r : i % 8 ≡ i = omega (arith, h) in
        rw (q, r, whole) (ap (λ (n : ℕ). n == 1) (sym (bit_at_cat_low (number_of bs) 8 b i h)))
    by (inr h) g =
        let q : i / 8 ≡ suc ((i - 8) / 8) = omega (arith, h) in
        let r : i % 8 ≡ (i - 8) % 8 = omega (arith, h) in
        rw (q, r, whole) (g ∙ ap (λ (n : ℕ). n == 1) (sym (bit_at_cat_high (number_of bs) 8 b i (low 0) h)))

pub bits_of_number : (bs : List ℕ) (n : ℕ) → ((i : ℕ) → slice_index_or bs i 0 < 2 ^ 8) → bits_from bs 0 n ≡ word_bits (number_of bs) n
bits_of_number bs n low = word_seen bs 0 n (number_of bs) (λ i h. let z : 0 + i ≡ i = omega arith in ap (bit_of bs) z ∙ number_bit bs low i)

pub digits_are_bits : (n m : ℕ) → map (λ (d : ℕ). truth (d == 1)) (digits_of (2 ^ 1) n m) ≡ map truth (word_bits m n)
digits_are_bits zero m = refl
digits_are_bits (suc n) m = ap (λ (vs : List Value). truth (m % 2 == 1) ∷ vs) (digits_are_bits n (m / 2))

pub are_bits : (text : List ℕ) (n : ℕ) → ((i : ℕ) → slice_index_or text i 0 < 2 ^ 8) → n ≤ 8 * length text → 8 * length text < n + 8 → AreBits text (map truth (bits_from text 0 n))
are_bits text n low some few =
    let size : length (map truth (bits_from text 0 n)) ≡ n = length-map (bits_from text 0 n) truth ∙ length_bits text 0 n in (
      omega (arith, size, some, few),
      rw size (ap (map truth) (bits_of_number text n low) ∙ sym (digits_are_bits n (number_of text))),
    )

-- ---- values by place

kept : (t : LeafType) (v : Value) → stored_value t boolean v ≡ v
kept (unsigned w) v = refl
kept t v = refl

pub truth_stored_at : (t : TypeTree) (bs : List Bool) (m : Mask) (i : ℕ) → truth (truth_at bs i) ≡ stored_at (leaf_array t (map truth bs) m) boolean i
truth_stored_at t bs m i = at bs i ∙ sym (kept (leaf_type t) (slice_index_or (map truth bs) i (truth false)))
  where
    at : (bs : List Bool) (i : ℕ) → truth (truth_at bs i) ≡ slice_index_or (map truth bs) i (truth false)
    at [] zero = refl
    at [] (suc i) = refl
    at (b ∷ bs) zero = refl
    at (b ∷ bs) (suc i) = at bs i

pub truths_stored : (t : TypeTree) (bs : List Bool) (m : Mask) (places : List ℕ) → map truth (map (truth_at bs) places) ≡ map (stored_at (leaf_array t (map truth bs) m) boolean) places
truths_stored t bs m [] = refl
truths_stored t bs m (i ∷ places) =
    ap (λ (v : Value). v ∷ map truth (map (truth_at bs) places)) (truth_stored_at t bs m i) ∙ ap (λ (vs : List Value). stored_at (leaf_array t (map truth bs) m) boolean i ∷ vs) (truths_stored t bs m places)

-- those side by side
pub truths_cut : (bs : List Bool) (from count : ℕ) → from + count ≤ length bs → take count (drop from bs) ≡ map (truth_at bs) (range from count)
unfolding gather
truths_cut bs from zero h = refl
truths_cut bs from (suc count) h =
    let cut : drop from bs ≡ get_or bs from false ∷ drop (suc from) bs = drop-cons bs from false (omega (arith, h)) in
    let n : from + 1 ≡ suc from = omega arith in
    rw (cut, n) (ap (λ (us : List Bool). get_or bs from false ∷ us) (truths_cut bs (suc from) count (omega (arith, h))))

-- ---- picked bits

-- one bit more above the others of a word
pub bit_above : (n word b : ℕ) → word < 2 ^ n → b < 2 → word_bits (word + b * 2 ^ n) (n + 1) ≡ word_bits word n ++ (b == 1) ∷ []
bit_above zero word b h g =
    let e : (word + b * 2 ^ 0) % 2 ≡ b = omega (arith, h, g) in
    rw e refl
bit_above (suc n) word b h g =
    let p : 2 ^ suc n ≡ 2 ^ n * 2 = omega arith in
    let whole : word + b * 2 ^ suc n ≡ word + b * 2 ^ n * 2 = ap (λ (k : ℕ). word + b * k) p ∙ omega arith in
    let low : (word + b * 2 ^ suc n) % 2 ≡ word % 2 = omega (arith, whole) in
    let high : (word + b * 2 ^ suc n) / 2 ≡ word / 2 + b * 2 ^ n = omega (arith, whole) in
    let n' : suc n + 1 ≡ suc (n + 1) = omega arith in
    rw (n', low, high) (ap (λ (bs : List Bool). (word % 2 == 1) ∷ bs) (bit_above n (word / 2) b (omega (arith, h, p)) g))

-- so many bits of the picked places stand in the word, and those of the places that are left do not
pub record IsPicking (values bits left count word size : ℕ) : Type 0 where
  pub low : left < 2 ^ count
  pub small : word < 2 ^ size
  pub room : size + length (picked left 0 count) ≤ 64
  pub are : word_bits word size ++ map (λ i. bit_at values i == 1) (picked left 0 count) ≡ map (λ i. bit_at values i == 1) (picked bits 0 count)

pub picking_none : (values bits count : ℕ) → bits < 2 ^ count → count ≤ 64 → IsPicking values bits bits count 0 0
picking_none values bits count low few = record { low = low; small = omega arith; room = omega (arith, few_picked bits 0 count low, few); are = refl }

pub picking_all : (values bits left count word size : ℕ) → IsPicking values bits left count word size → left ≡ 0 → word_bits word size ≡ map (λ i. bit_at values i == 1) (picked bits 0 count)
picking_all values bits left count word size p e =
    sym (append-nil (word_bits word size)) ∙ (ap (λ (ns : List ℕ). word_bits word size ++ map (λ i. bit_at values i == 1) ns) (sym (picked_none left 0 count e)) ∙ p.are)

pub picking_more : (values bits left left' count t word word' size b : ℕ) → IsPicking values bits left count word size → IsNext left left' 0 count t → b ≡ bit_at values t → word' ≡ word + b * 2 ^ size → IsPicking values bits left' count word' (size + 1)
picking_more values bits left left' count t word word' size b p n e w =
    let at : ℕ → Bool = λ i. bit_at values i == 1 in
    let z : 0 + t ≡ t = omega arith in
    let bit : b < 2 = omega (arith, e) in
    let more : 2 ^ (size + 1) ≡ 2 ^ size * 2 = let s : size + 1 ≡ suc size = omega arith in rw s (omega arith) in
    let some : length (picked left 0 count) ≡ suc (length (picked left' 0 count)) = ap length n.places in
    let here : map at (picked left 0 count) ≡ (b == 1) ∷ map at (picked left' 0 count) = ap (map at) n.places ∙ ap (λ (v : ℕ). (bit_at values v == 1) ∷ map at (picked left' 0 count)) z ∙ ap (λ (v : ℕ). (v == 1) ∷ map at (picked left' 0 count)) (sym e) in
    record {
      low = n.low;
      small = rw w (below (word) b (2 ^ size) (2 ^ (size + 1)) p.small bit more);
      room = omega (arith, p.room, some);
      are = ap (λ (v : ℕ). word_bits v (size + 1) ++ map at (picked left' 0 count)) w
          ∙ (ap (λ (bs : List Bool). bs ++ map at (picked left' 0 count)) (bit_above size word b p.small bit)
          ∙ (append_assoc (word_bits word size) ((b == 1) ∷ []) (map at (picked left' 0 count)) ∙ (ap (λ (bs : List Bool). word_bits word size ++ bs) (sym here) ∙ p.are)));
    }
  where
    below : (word b x y : ℕ) → word < x → b < 2 → y ≡ x * 2 → word + b * x < y
    below word zero x y h g e = omega (arith, h, e)
    below word (suc zero) x y h g e = omega (arith, h, e)
    below word (suc (suc b)) x y h g e = absurd (omega (arith, g))

-- ---- counts

pub counts_more : (limit : ℕ) (places more : List ℕ) (first old new : BitCount) (n : ℕ) → CountsBits limit places first old → AddsBits n old new → n ≡ length more → All (λ i. i < limit) more → CountsBits limit (places ++ more) first new
counts_more limit places more first old new n h a e each =
    let l = length-append places more in
    record {
      all = λ z. omega (arith, h.all z, a.all, e, l);
      bytes = λ z y. omega (arith, h.bytes z y, h.behind y, a.bytes, e, l);
      behind = λ z. omega (arith, h.behind z, a.behind, e, l);
      within = all-append (λ i. i < limit) places more h.within each;
    }

-- ---- taken one after another

pub truths_more : (bs first old new added : List Bool) (places more : List ℕ) → old ≡ first ++ map (truth_at bs) places → new ≡ old ++ added → added ≡ map (truth_at bs) more → new ≡ first ++ map (truth_at bs) (places ++ more)
truths_more bs first old new added places more e f g =
    f ∙ (ap (λ (x : List Bool). x ++ added) e ∙ (append_assoc first (map (truth_at bs) places) added ∙ ap (λ (x : List Bool). first ++ x) (ap (λ (x : List Bool). map (truth_at bs) places ++ x) g ∙ sym (map-append (truth_at bs) places more))))

chosen_alike : (f g : ℕ → Bool) (a b : ℕ) (is_chosen : Bool) (xs ys : List ℕ) → f a ≡ g b → map f xs ≡ map g ys → map f (cond is_chosen (a ∷ []) [] ++ xs) ≡ map g (cond is_chosen (b ∷ []) [] ++ ys)
chosen_alike f g a b true xs ys e h = ap (λ (t : Bool). t ∷ map f xs) e ∙ ap (λ (ts : List Bool). g b ∷ ts) h
chosen_alike f g a b false xs ys e h = h

picked_alike : (f g : ℕ → Bool) (word a b count : ℕ) → ((i : ℕ) → i < count → f (a + i) ≡ g (b + i)) → map f (picked word a count) ≡ map g (picked word b count)
unfolding gather
picked_alike f g word a b zero same = refl
picked_alike f g word a b (suc count) same =
    let p : a + 0 ≡ a = omega arith in
    let q : b + 0 ≡ b = omega arith in
    let here : f a ≡ g b = ap f (sym p) ∙ (same 0 (omega arith) ∙ ap g q) in
    let rest : map f (picked (word / 2) (a + 1) count) ≡ map g (picked (word / 2) (b + 1) count) = picked_alike f g (word / 2) (a + 1) (b + 1) count (λ i h.
    let k : a + 1 + i ≡ a + suc i = omega arith in
    let l : b + 1 + i ≡ b + suc i = omega arith in
    ap f k ∙ (same (suc i) (omega (arith, h)) ∙ ap g (sym l))) in
    ap (map f) (picked-step word a count) ∙ (chosen_alike f g a b (word % 2 == 1) (picked (word / 2) (a + 1) count) (picked (word / 2) (b + 1) count) here rest ∙ ap (map g) (sym (picked-step word b count)))

-- the picked bits of a word of truth values are those at the picked places
pub picked_truths : (bs : List Bool) (values word from count : ℕ) → ((i : ℕ) → i < count → (bit_at values i == 1) ≡ truth_at bs (from + i)) → map (λ i. bit_at values i == 1) (picked word 0 count) ≡ map (truth_at bs) (picked word from count)
picked_truths bs values word from count same = picked_alike (λ i. bit_at values i == 1) (truth_at bs) word 0 from count (λ i h. let z : 0 + i ≡ i = omega arith in ap (λ (k : ℕ). bit_at values k == 1) z ∙ same i h)

-- ---- truth values by words

-- the low bits of a word of truth values are those from the place on
pub word_truths : (bs : List Bool) (word from count : ℕ) → ((i : ℕ) → i < count → (bit_at word i == 1) ≡ truth_at bs (from + i)) → word_bits word count ≡ map (truth_at bs) (range from count)
unfolding gather
word_truths bs word from zero same = refl
word_truths bs word from (suc count) same =
    let place : from + 0 ≡ from = omega arith in
    let first : (word % 2 == 1) ≡ truth_at bs from = ap (λ (b : ℕ). b == 1) (sym (bit_at_lowest word)) ∙ (same 0 (omega arith) ∙ ap (truth_at bs) place) in
    let rest : word_bits (word / 2) count ≡ map (truth_at bs) (range (from + 1) count) = word_truths bs (word / 2) (from + 1) count (λ i h.
    let k : from + 1 + i ≡ from + suc i = omega arith in
    ap (λ (b : ℕ). b == 1) (sym (bit_at-suc word i)) ∙ (same (suc i) (omega (arith, h)) ∙ ap (truth_at bs) (sym k))) in
    rw (first, rest) refl

range_split : (from a b : ℕ) → range from (a + b) ≡ range from a ++ range (from + a) b
unfolding gather
range_split from zero b =
    let n : zero + b ≡ b = omega arith in
    let place : from + zero ≡ from = omega arith in
    rw (n, place) refl
range_split from (suc a) b =
    let n : suc a + b ≡ suc (a + b) = omega arith in
    let place : from + 1 + a ≡ from + suc a = omega arith in
    rw n (ap (λ (ns : List ℕ). from ∷ ns) (range_split (from + 1) a b ∙ ap (λ (k : ℕ). range (from + 1) a ++ range k b) place))

pub range_none : (bs before : List Bool) (from : ℕ) → before ≡ before ++ map (truth_at bs) (range from 0)
unfolding gather
range_none bs before from = sym (append-nil before)

pub range_joined : (bs before now new : List Bool) (from done n : ℕ) → now ≡ before ++ map (truth_at bs) (range from done) → new ≡ now ++ map (truth_at bs) (range (from + done) n) → new ≡ before ++ map (truth_at bs) (range from (done + n))
range_joined bs before now new from done n e f =
    let split : range from (done + n) ≡ range from done ++ range (from + done) n = range_split from done n in
    f
    ∙ (ap (λ (ts : List Bool). ts ++ map (truth_at bs) (range (from + done) n)) e
    ∙ (append_assoc before (map (truth_at bs) (range from done)) (map (truth_at bs) (range (from + done) n))
    ∙ ap (λ (ts : List Bool). before ++ ts) (sym (ap (map (truth_at bs)) split ∙ map-append (truth_at bs) (range from done) (range (from + done) n)))))

pub word_done : {A E : Type 0} (r : Result A E) (P : Type 0) → IsOk r → IfOk r (λ x. P) → P
word_done (Ok x) P h p = p
word_done (Err e) P h p = absurd (true≢false (sym h))

pub length_word : (word n : ℕ) → length (word_bits word n) ≡ n
length_word word zero = refl
length_word word (suc n) = ap suc (length_word (word / 2) n)
