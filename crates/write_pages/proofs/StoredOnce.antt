-- Of a column of values that are written there is one stored column.
use Rattle.std.proofs.Common.{◌≡◌, ◌≢◌, ◌⊎◌, inl, inr, arith, ℕ, Bool, true, false, true≢false, Option, Some, None, List, [], ◌∷◌, refl, sym, ap, subst, ◌∙◌}
use Rattle.std.specs.List.{AllZip, AllByRecursion as Each}
use Rattle.std.specs.Prelude.{sum_by}
use Rattle.std.proofs.lemmas.List.Elements.{recursion_from_All}
use Rattle.std.proofs.lemmas.List.Sums.{sum_by-cons}
use Rattle.shredding.specs.Shape.{LeafType, truths, text, binary, signed, unsigned, fixed_bytes, decimal, months, days}
use Rattle.shredding.specs.Shred.{Triple}
use Rattle.shredding.specs.Slot.{Value, truth, number, bytes}
use Rattle.columns_core.specs.declared.types.IntervalUnit.TheVariants.{YearMonth, DayTime}
use Rattle.columns_core.specs.Shapes.{base, leaf_type}
use Rattle.columns_core.specs.Tree.{TypeTree, t_decimal, t_fixed_size_binary, t_interval}
use Rattle.columns_slots.specs.Types.{is_boolean}
use Rattle.std.specs.Prelude.{pos}
use Rattle.pq_tree.specs.Physical.{Physical, boolean, int32, int64, byte_array, fixed}
use Rattle.pq_files.specs.Layout.{plain_length, plain_size}
use Rattle.page_statistics.specs.Spelled.{HasOwnBytes}
use Rattle.pq_files.specs.Page.{values_in}
use Rattle.pq_files.proofs.StoredOnce.{are_unique}
use Rattle.pq_files.specs.Stored.{IsStored, IsStoredOption, IsStoredTriple, AreStored}
use Rattle.write_values.specs.Lengths.{plain_sum}
use Rattle.write_values.specs.Served.{is_decimal, is_fixed, is_served}
use Rattle.write_values.specs.Stored.{stored_value}
use Rattle.write_values.proofs.ServedTypes.{leaf_base, wrapped_32, wrapped_64}
use Rattle.write_values.proofs.WideColumns.{decimal_served}
use Rattle.write_pages.specs.Holds.{HaveBytes}

-- but for decimals as byte strings
abbrev is_row : LeafType → Physical → Bool
is_row t boolean = true
is_row t int32 = true
is_row t int64 = true
is_row t byte_array = true
is_row (fixed_bytes m) (fixed n) = true
is_row months (fixed n) = true
is_row days (fixed n) = true
is_row t p = false

fixed_row : (t : TypeTree) (n : ℕ) → is_fixed n t ≡ true → (leaf_type t ≡ decimal) ⊎ (is_row (leaf_type t) (fixed n) ≡ true)
fixed_row (t_fixed_size_binary m) n e = inr refl
fixed_row (t_interval YearMonth) n e = inr refl
fixed_row (t_interval DayTime) n e = inr refl
fixed_row (t_decimal q x) n e = inl refl
fixed_row t n e = absurd (true≢false (sym e))

served_row : (t : TypeTree) (p : Physical) → is_served t p ≡ true → (leaf_type t ≡ decimal) ⊎ (is_row (leaf_type t) p ≡ true)
served_row t boolean e = inr refl
served_row t int32 e = inr refl
served_row t int64 e = inr refl
served_row t byte_array e = inr refl
served_row t (fixed n) e = fixed_row t n e
served_row t p e = absurd (true≢false (sym e))

stored_is : (t : LeafType) (p : Physical) (v s : Value) → is_row t p ≡ true → IsStored t p v s → s ≡ stored_value t p v
stored_is truths boolean (truth b) s n h = h
stored_is (signed w) int32 (number z) s n h = h.2
stored_is (signed w) int64 (number z) s n h = h.2
stored_is (unsigned w) int32 (number (pos k)) s n h = h.2
stored_is (unsigned w) int64 (number (pos k)) s n h = h.2
stored_is decimal int32 (number z) s n h = h.1 ∙ ap number (sym (wrapped_32 z h.0))
stored_is decimal int64 (number z) s n h = h.1 ∙ ap number (sym (wrapped_64 z h.0))
stored_is text byte_array (bytes b) s n h = h.1
stored_is binary byte_array (bytes b) s n h = h
stored_is (fixed_bytes m) (fixed n) (bytes b) s r h = h.2
stored_is (fixed_bytes m) (fixed n) v s r h = absurd h
stored_is months (fixed n) (bytes b) s r h = h.3
stored_is days (fixed n) (bytes b) s r h = h.3
stored_is months (fixed n) v s r h = absurd h
stored_is days (fixed n) v s r h = absurd h
stored_is t boolean v s n h = absurd h
stored_is t int32 v s n h = absurd h
stored_is t int64 v s n h = absurd h
stored_is t byte_array v s n h = absurd h
stored_is t p v s n h = absurd (true≢false (sym n))

-- ---- one stored value

module _ (t : LeafType) (p : Physical) (Q : Value → Type 0) (once : (v s u : Value) → Q s → Q u → IsStored t p v s → IsStored t p v u → s ≡ u) where
  abbrev Has : Option Value → Type 0
  Has None = Unit {0}
  Has (Some s) = Q s

  option_once : (x y z : Option Value) → Has y → Has z → IsStoredOption t p x y → IsStoredOption t p x z → y ≡ z
  option_once None None None b k h g = refl
  option_once (Some v) (Some s) (Some u) b k h g = ap Some (once v s u b k h g)
  option_once None (Some s) z b k h g = absurd h
  option_once None None (Some u) b k h g = absurd g
  option_once (Some v) None z b k h g = absurd h
  option_once (Some v) (Some s) None b k h g = absurd g

  triple_once : (x y z : Triple) → Has y.value → Has z.value → IsStoredTriple t p x y → IsStoredTriple t p x z → y ≡ z
  triple_once x y z b k h g = λ i. record {
    repetition = (h.repetition ∙ sym g.repetition) i;
    definition = (h.definition ∙ sym g.definition) i;
    «value» = option_once x.value y.value z.value b k h.value g.value i;
  }

  zip_once : (xs ys zs : List Triple) → Each (λ u. Has u.value) ys → Each (λ u. Has u.value) zs → AllZip (IsStoredTriple t p) xs ys → AllZip (IsStoredTriple t p) xs zs → ys ≡ zs
  zip_once [] [] [] b k h g = refl
  zip_once (x ∷ xs) (y ∷ ys) (z ∷ zs) b k h g = λ i. triple_once x y z b.0 k.0 h.0 g.0 i ∷ zip_once xs ys zs b.1 k.1 h.1 g.1 i
  zip_once [] (y ∷ ys) zs b k h g = absurd h
  zip_once [] [] (z ∷ zs) b k h g = absurd g
  zip_once (x ∷ xs) [] zs b k h g = absurd h
  zip_once (x ∷ xs) (y ∷ ys) [] b k h g = absurd g

  has_more : (r d : ℕ) (v : Option Value) (ts : List Triple) → (Each Q (values_in ts) → Each (λ u. Has u.value) ts) → Each Q (values_in (record { repetition = r; definition = d; «value» = v } ∷ ts)) → Each (λ u. Has u.value) (record { repetition = r; definition = d; «value» = v } ∷ ts)
  has_more r d None ts f k = (tt, f k)
  has_more r d (Some v) ts f k = (k.0, f k.1)

  each_has : (ts : List Triple) → Each Q (values_in ts) → Each (λ u. Has u.value) ts
  each_has [] h = tt
  each_has (u ∷ ts) h = has_more u.repetition u.definition u.value ts (each_has ts) h

  zip_once_of : (xs ys zs : List Triple) → Each Q (values_in ys) → Each Q (values_in zs) → AllZip (IsStoredTriple t p) xs ys → AllZip (IsStoredTriple t p) xs zs → ys ≡ zs
  zip_once_of xs ys zs b k h g = zip_once xs ys zs (each_has ys b) (each_has zs k) h g

leaf_row : (t : TypeTree) (p : Physical) → is_served (base t) p ≡ true → (leaf_type t ≡ decimal) ⊎ (is_row (leaf_type t) p ≡ true)
leaf_row t p e = subst (λ (l : LeafType). (l ≡ decimal) ⊎ (is_row l p ≡ true)) (leaf_base t) (served_row (base t) p e)

anything : (vs : List Value) → Each (λ v. Unit {0}) vs
anything [] = tt
anything (v ∷ vs) = (tt, anything vs)

row_once : (l : LeafType) (p : Physical) (xs ys zs : List Triple) → is_row l p ≡ true → AreStored l p xs ys → AreStored l p xs zs → ys ≡ zs
row_once l p xs ys zs n h g =
    zip_once_of l p (λ v. Unit {0}) (λ v s u b k x y. stored_is l p v s n x ∙ sym (stored_is l p v u n y)) xs ys zs (anything (values_in ys)) (anything (values_in zs)) h g

pub value_once : (t : TypeTree) (p : Physical) → is_served (base t) p ≡ true → (v s u : Value) → HasOwnBytes (leaf_type t) s → HasOwnBytes (leaf_type t) u → IsStored (leaf_type t) p v s → IsStored (leaf_type t) p v u → s ≡ u
value_once t p e v s u x y h g =
    elim (leaf_row t p e) [
      | inl d ↦ are_unique.stored (leaf_type t) p v s u (x d) (y d) h g
      | inr r ↦ stored_is (leaf_type t) p v s r h ∙ sym (stored_is (leaf_type t) p v u r g)
    ]

pub stored_once : (t : TypeTree) (p : Physical) (xs ys zs : List Triple) → is_served (base t) p ≡ true → HaveBytes (leaf_type t) ys → HaveBytes (leaf_type t) zs → AreStored (leaf_type t) p xs ys → AreStored (leaf_type t) p xs zs → ys ≡ zs
stored_once t p xs ys zs e b k h g =
    let l = leaf_type t in
    zip_once_of l p (HasOwnBytes l) (value_once t p e) xs ys zs (recursion_from_All (HasOwnBytes l) (values_in ys) b) (recursion_from_All (HasOwnBytes l) (values_in zs) k) h g

-- ---- one size, whatever is stored

same_size : (p : Physical) (v s u : Value) → IsStored decimal p v s → IsStored decimal p v u → plain_size p s ≡ plain_size p u
same_size int32 (number z) s u h g = refl
same_size int64 (number z) s u h g = refl
same_size (fixed n) (number z) s u h g = refl
same_size p v s u h g = absurd h

one_more : (p : Physical) (ys zs : List Triple) (a b c : Option Value) (r d q e : ℕ) → sum_by (plain_size p) (values_in ys) ≡ sum_by (plain_size p) (values_in zs) → IsStoredOption decimal p a b → IsStoredOption decimal p a c → sum_by (plain_size p) (values_in (record { repetition = r; definition = d; «value» = b } ∷ ys)) ≡ sum_by (plain_size p) (values_in (record { repetition = q; definition = e; «value» = c } ∷ zs))
one_more p ys zs None None None r d q e rest k j = rest
one_more p ys zs (Some v) (Some s) (Some u) r d q e rest k j =
    sum_by-cons (plain_size p) s (values_in ys) ∙ (omega (arith, rest, same_size p v s u k j) ∙ sym (sum_by-cons (plain_size p) u (values_in zs)))
one_more p ys zs None (Some s) c r d q e rest k j = absurd k
one_more p ys zs None None (Some u) r d q e rest k j = absurd j
one_more p ys zs (Some v) None c r d q e rest k j = absurd k
one_more p ys zs (Some v) (Some s) None r d q e rest k j = absurd j

same_sizes : (p : Physical) (xs ys zs : List Triple) → AllZip (IsStoredTriple decimal p) xs ys → AllZip (IsStoredTriple decimal p) xs zs → sum_by (plain_size p) (values_in ys) ≡ sum_by (plain_size p) (values_in zs)
same_sizes p [] [] [] h g = refl
same_sizes p (x ∷ xs) (y ∷ ys) (z ∷ zs) h g =
    one_more p ys zs x.value y.value z.value y.repetition y.definition z.repetition z.definition (same_sizes p xs ys zs h.1 g.1) h.0.value g.0.value
same_sizes p [] (y ∷ ys) zs h g = absurd h
same_sizes p [] [] (z ∷ zs) h g = absurd g
same_sizes p (x ∷ xs) [] zs h g = absurd h
same_sizes p (x ∷ xs) (y ∷ ys) [] h g = absurd g

no_truths : (t : TypeTree) (p : Physical) → is_served t p ≡ true → leaf_type t ≡ decimal → p ≢ boolean
no_truths t p e d b = true≢false (sym (subst (λ (q : Physical). is_served t q ≡ true) b e) ∙ no_boolean t (decimal_served t p e d))
  where
    no_boolean : (t : TypeTree) → is_decimal t ≡ true → is_boolean t ≡ false
    no_boolean (t_decimal q x) h = refl
    no_boolean t h = absurd (true≢false (sym h))

pub sizes_once : (t : TypeTree) (p : Physical) (xs ys zs : List Triple) → is_served (base t) p ≡ true → AreStored (leaf_type t) p xs ys → AreStored (leaf_type t) p xs zs → plain_length p (values_in ys) ≡ plain_length p (values_in zs)
sizes_once t p xs ys zs e h g =
    elim (leaf_row t p e) [
      | inl d ↦
          let n = no_truths (base t) p e (leaf_base t ∙ d) in
          let sums = same_sizes p xs ys zs (subst (λ (l : LeafType). AreStored l p xs ys) d h) (subst (λ (l : LeafType). AreStored l p xs zs) d g) in
          plain_sum p (values_in ys) n ∙ (sums ∙ sym (plain_sum p (values_in zs) n))
      | inr r ↦ ap (λ (us : List Triple). plain_length p (values_in us)) (row_once (leaf_type t) p xs ys zs r h g)
    ]
