-- Plain values one behind the other.
use Rattle.std.proofs.Common.{◌≡◌, ◌≢◌, ℕ, zero, suc, ◌+◌, ◌-◌, ◌≤◌, ◌<◌, ◌^◌, List, [], ◌∷◌, ◌++◌, length, map, min, refl, ap, sym, subst, ◌∙◌, arith, append_assoc}
use Rattle.std.specs.Prelude.{sum_by, All}
use Rattle.std.specs.List.{AllByRecursion as Each}
use Rattle.std.proofs.lemmas.List.{length-append}
use Rattle.std.proofs.lemmas.List.Elements.{All-from_recursion, recursion_from_All}
use Rattle.std.proofs.lemmas.List.Sums.{sum_by-cons}
use Rattle.shredding.proofs.Levels.{Each-append}
use Rattle.shredding.specs.Slot.{Value, number, bytes}
use Rattle.pq_tree.specs.Physical.{Physical, boolean, int32, int64, int96, float, double, byte_array, fixed}
use Rattle.pq_files.specs.Plain.{InARow, IsPlain, IsOne}
use Rattle.pq_files.specs.Layout.{plain_length, plain_size}
use Rattle.write_places.specs.Places.{gather, range}
use Rattle.write_values.specs.declared.measured.Measured.{Measured}
use Rattle.write_values.specs.Lengths.{plain-places}
use Rattle.pq_files.specs.Page.{plain}
use Rattle.write_values.specs.Deltas.{AppendsSpelled}
use Rattle.write_values.specs.Rows.{AppendsRow, AppendsPlain, Adds}

row-append : (p : Physical) (s t : List ℕ) (us vs : List Value) → InARow p s us → InARow p t vs → InARow p (s ++ t) (us ++ vs)
row-append p s t [] vs h g = subst (λ (x : List ℕ). InARow p (x ++ t) vs) (sym h) g
row-append p s t (u ∷ us) vs h g =
    (h.0, h.1 ++ t, h.2, row-append p h.1 t us vs h.3 g, ap (λ (x : List ℕ). x ++ t) h.4 ∙ append_assoc h.0 h.1 t)

pub row-more : (p : Physical) (a b c : List ℕ) (us vs : List Value) → AppendsRow p a b us → AppendsRow p b c vs → AppendsRow p a c (us ++ vs)
row-more p a b c us vs h g = record {
  text = h.text ++ g.text;
  parts = g.parts ∙ (ap (λ (x : List ℕ). x ++ g.text) h.parts ∙ append_assoc a h.text g.text);
  row = row-append p h.text g.text us vs h.row g.row;
}

pub plain_of : (p : Physical) (text : List ℕ) (vs : List Value) → p ≢ boolean → InARow p text vs → IsPlain p text vs
plain_of boolean text vs n h = absurd (n refl)
plain_of int32 text vs n h = h
plain_of int64 text vs n h = h
plain_of int96 text vs n h = h
plain_of float text vs n h = h
plain_of double text vs n h = h
plain_of byte_array text vs n h = h
plain_of (fixed k) text vs n h = h

pub row-plain : (p : Physical) (a b : List ℕ) (vs : List Value) → p ≢ boolean → AppendsRow p a b vs → AppendsPlain p a b vs
row-plain p a b vs n h = record { text = h.text; parts = h.parts; spelled = plain_of p h.text vs n h.row }

pub one_size : (p : Physical) (text : List ℕ) (v : Value) → IsOne p text v → length text ≡ plain_size p v
one_size int32 text (number z) h = h.0
one_size int64 text (number z) h = h.0
one_size byte_array text (bytes s) h = ap length h.parts ∙ (length-append h.head s ∙ ap (λ (k : ℕ). k + length s) h.four)
one_size (fixed n) text (bytes s) h = h.0
one_size int32 text v h = absurd h
one_size int64 text v h = absurd h
one_size byte_array text v h = absurd h
one_size (fixed n) text v h = absurd h
one_size p text v h = absurd h

pub row_size : (p : Physical) (text : List ℕ) (vs : List Value) → InARow p text vs → length text ≡ sum_by (plain_size p) vs
row_size p text [] h = ap length h
row_size p text (v ∷ vs) h = ap length h.4 ∙ (length-append h.0 h.1 ∙ omega (arith, one_size p h.0 v h.2, row_size p h.1 vs h.3, sum_by-cons (plain_size p) v vs))

-- the number of bytes of the plain spelling
pub text_size : (p : Physical) (text : List ℕ) (vs : List Value) → IsPlain p text vs → length text ≡ plain_length p vs
text_size boolean text vs h = h.0
text_size int32 text vs h = row_size int32 text vs h
text_size int64 text vs h = row_size int64 text vs h
text_size int96 text vs h = row_size int96 text vs h
text_size float text vs h = row_size float text vs h
text_size double text vs h = row_size double text vs h
text_size byte_array text vs h = row_size byte_array text vs h
text_size (fixed k) text vs h = row_size (fixed k) text vs h

pub plain_spelled : (p : Physical) (before after : List ℕ) (vs : List Value) → AppendsPlain p before after vs → AppendsSpelled plain p before after vs
plain_spelled p before after vs h =
    record {
      text = h.text;
      parts = h.parts;
      spelled = λ l e. subst (λ (q : Physical). IsPlain q h.text vs) (sym e) h.spelled;
      size = omega (arith, text_size p h.text vs h.spelled);
    }

pub length-range : (from count : ℕ) → length (range from count) ≡ count
unfolding gather
length-range from zero = refl
length-range from (suc count) = ap suc (length-range (from + 1) count)

-- ---- places

pub each-range : (limit from count : ℕ) → from + count ≤ limit → Each (λ i. i < limit) (range from count)
unfolding gather
each-range limit from zero h = tt
each-range limit from (suc count) h = (omega (arith, h), each-range limit (from + 1) count (omega (arith, h)))

pub all-append : {A : Type 0} (P : A → Type 0) (xs ys : List A) → All P xs → All P ys → All P (xs ++ ys)
all-append P xs ys h g = All-from_recursion P (xs ++ ys) (Each-append P xs ys (recursion_from_All P xs h) (recursion_from_All P ys g))

-- ---- measured so far

pub adds-more : (p : Physical) (count : ℕ) (stored : ℕ → Value) (places : List ℕ) (first old new : Measured) (from to m : ℕ) → p ≢ boolean → from ≤ to → to ≤ count
    → Adds p count stored places first old → m ≡ plain_length p (map stored (range from (to - from))) → new.values ≡ min (old.values + (to - from)) (2 ^ 64 - 1) → new.plain ≡ min (old.plain + m) (2 ^ 128 - 1)
    → Adds p count stored (places ++ range from (to - from)) first new
adds-more p count stored places first old new from to m q low high h e f g =
    let more = range from (to - from) in
    record {
      values = λ z. omega (arith, h.values z, f, length-append places more, length-range from (to - from));
      plain = λ z. omega (arith, h.plain z, e, g, plain-places p stored places more q);
      within = all-append (λ i. i < count) places more h.within (All-from_recursion (λ i. i < count) more (each-range count from (to - from) (omega (arith, low, high))));
    }

pub adds_list : (p : Physical) (count : ℕ) (stored : ℕ → Value) (places : List ℕ) (first old new : Measured) (more : List ℕ) (n m : ℕ) → p ≢ boolean → Each (λ i. i < count) more → n ≡ length more
    → Adds p count stored places first old → m ≡ plain_length p (map stored more) → new.values ≡ min (old.values + n) (2 ^ 64 - 1) → new.plain ≡ min (old.plain + m) (2 ^ 128 - 1)
    → Adds p count stored (places ++ more) first new
adds_list p count stored places first old new more n m q each k h e f g =
    record {
      values = λ z. omega (arith, h.values z, f, k, length-append places more);
      plain = λ z. omega (arith, h.plain z, e, g, plain-places p stored places more q);
      within = all-append (λ i. i < count) places more h.within (All-from_recursion (λ i. i < count) more each);
    }
