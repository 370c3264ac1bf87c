-- Decimals that their physical type holds, and those that it does not.
use Rattle.std.proofs.Common.{◌≡◌, ◌⊎◌, ◌↔◌, inl, inr, ℕ, zero, suc, ◌+◌, ◌-◌, ◌*◌, ◌^◌, ◌<◌, ◌≤◌, ℤ, pos, negsuc, Bool, not, true, false, true≢false, List, [], ◌∷◌, ◌++◌, map, refl, ap, sym, subst, ◌∙◌, arith}
use Rattle.std.specs.Prelude.{◌||◌, nat_le, ◌&&◌, Contains}
use Rattle.std.specs.List.{AllByRecursion as Each}
use Rattle.std.proofs.lemmas.List.{map-append}
use Rattle.std.proofs.lemmas.Bool.{or_left, or_right}
use Rattle.std.proofs.lemmas.Bool.Decides.{leb_tells}
use Rattle.std.proofs.lemmas.Nat.{pow_pos}
use Rattle.shredding.specs.Shape.{LeafType, decimal, Fits}
use Rattle.shredding.specs.Slot.{Value, truth, number, bytes}
use Rattle.columns_core.specs.Shapes.{leaf_type}
use Rattle.columns_core.specs.Tree.{TypeTree, t_decimal, t_dictionary, t_extension, t_interval}
use Rattle.columns_core.specs.declared.types.IntervalUnit.TheVariants.{YearMonth, DayTime, MonthDayNano}
use Rattle.levels.specs.declared.nested.Nested.{Nested}
use Rattle.levels.specs.Nested.{parts_of, nested_column}
use Rattle.pq_tree.specs.Physical.{Physical, boolean, int32, int64, int96, float, double, byte_array, fixed}
use Rattle.pq_files.specs.Page.{values_in}
use Rattle.pq_files.specs.Stored.{HoldsDecimal}
use Rattle.write_places.specs.Places.{gather, path_places, picked, range}
use Rattle.write_places.proofs.Gather.{gather-none}
use Rattle.write_places.proofs.Picked.{IsNext}
use Rattle.write_places.proofs.Values.{values_are_at_places}
use Rattle.write_values.specs.declared.decimals.DecimalForm.{DecimalForm}
use Rattle.write_values.specs.declared.decimals.DecimalForm.TheVariants.{Int32, Int64, Fixed}
use Rattle.write_values.specs.Decimals.{HasWide, IsForm, any_wide, fits_in, form_physical, held_decimal, holds_decimal, is_wide_decimal}
use Rattle.write_values.specs.Served.{is_decimal, is_served}
use Rattle.write_values.specs.Wide.{found_none}
use Rattle.write_values.proofs.Picked.{picked_none}
use Rattle.write_values.proofs.ServedTypes.{IsHeld, either, no_row}

-- ---- of one number

fits_tells : (w : ℕ) (z : ℤ) → ((fits_in w z ≡ true) × Fits w z) ⊎ ((fits_in w z ≡ false) × ¬ Fits w z)
fits_tells w (pos n) = elim (leb_tells (suc n) (2 ^ (w - 1))) [ inl t ↦ inl (t.0, omega (arith, t.1)) | inr t ↦ inr (t.0, λ h. omega (arith, t.1, h)) ]
fits_tells w (negsuc n) = elim (leb_tells (suc n) (2 ^ (w - 1))) [ inl t ↦ inl (t.0, omega (arith, t.1)) | inr t ↦ inr (t.0, λ h. omega (arith, t.1, h)) ]

-- byte strings of decimals have from 1 to 16 bytes
abbrev pub HasRoom : Physical → Type 0
HasRoom (fixed n) = (1 ≤ n) × (n ≤ 16)
HasRoom p = Unit {0}

pub form_room : (form : DecimalForm) → IsForm form → HasRoom (form_physical form)
form_room Int32 h = tt
form_room Int64 h = tt
form_room (Fixed n) h = h

holds_tells : (p : Physical) (z : ℤ) → HasRoom p → ((holds_decimal p z ≡ true) × HoldsDecimal p z) ⊎ ((holds_decimal p z ≡ false) × ¬ HoldsDecimal p z)
holds_tells int32 z r = fits_tells 32 z
holds_tells int64 z r = fits_tells 64 z
holds_tells (fixed n) z r = elim (fits_tells (8 * n) z) [ inl t ↦ inl (t.0, (r.0, r.1, t.1)) | inr t ↦ inr (t.0, λ h. t.1 h.2) ]
holds_tells p z r = inr (refl, λ h. h)

pub holds_true : (p : Physical) (z : ℤ) → HasRoom p → HoldsDecimal p z → holds_decimal p z ≡ true
holds_true p z r h = elim (holds_tells p z r) [ inl t ↦ t.0 | inr t ↦ absurd (t.1 h) ]

-- what statistics see in its place
pub held_same : (p : Physical) (z : ℤ) → HasRoom p → HoldsDecimal p z → held_decimal p z ≡ z
held_same p z r h = rw (holds_true p z r h) refl

zero_held : (form : DecimalForm) → IsForm form → HoldsDecimal (form_physical form) (pos 0)
zero_held Int32 h = omega arith
zero_held Int64 h = omega arith
zero_held (Fixed n) h = (h.0, h.1, omega (arith, pow_pos (8 * n - 1)))

pub held_holds : (form : DecimalForm) (z : ℤ) → IsForm form → HoldsDecimal (form_physical form) (held_decimal (form_physical form) z)
held_holds form z h =
    elim (holds_tells (form_physical form) z (form_room form h)) [
      | inl t ↦ subst (HoldsDecimal (form_physical form)) (sym (held_same (form_physical form) z (form_room form h) t.1)) t.1
      | inr t ↦ rw t.0 (zero_held form h)
    ]

-- ---- of a column

wide_number : (p : Physical) (v : Value) → HasRoom p → is_wide_decimal p v ≡ true → (z : ℤ) × (v ≡ number z) × ¬ HoldsDecimal p z
wide_number p (number z) r e = (z, refl, λ h. true≢false (sym e ∙ not_true (holds_decimal p z) (holds_true p z r h)))
  where
    not_true : (b : Bool) → b ≡ true → not b ≡ false
    not_true true e = refl
    not_true false e = absurd (true≢false (sym e))
wide_number p (truth b) r e = absurd (true≢false (sym e))
wide_number p (bytes s) r e = absurd (true≢false (sym e))

number_wide : (p : Physical) (z : ℤ) → HasRoom p → ¬ HoldsDecimal p z → is_wide_decimal p (number z) ≡ true
number_wide p z r n = elim (holds_tells p z r) [ inl t ↦ absurd (n t.1) | inr t ↦ rw t.0 refl ]

there : (v : Value) (vs : List Value) (u : Value) → Contains vs u → Contains (v ∷ vs) u
there v vs u h = (suc h.0, omega (arith, h.1), h.2)

some_wide : (p : Physical) (vs : List Value) → HasRoom p → any_wide p vs ≡ true → (z : ℤ) × Contains vs (number z) × ¬ HoldsDecimal p z
some_wide p [] r e = absurd (true≢false (sym e))
some_wide p (v ∷ vs) r e =
    elim (either (is_wide_decimal p v) (any_wide p vs) e) [
      | inl a ↦ let w = wide_number p v r a in (w.0, (0, omega arith, w.1), w.2)
      | inr b ↦ let w = some_wide p vs r b in (w.0, there v vs (number w.0) w.1, w.2)
    ]

all_wide : (p : Physical) (vs : List Value) (z : ℤ) → HasRoom p → Contains vs (number z) → ¬ HoldsDecimal p z → any_wide p vs ≡ true
all_wide p [] z r c n = absurd (omega (arith, c.1))
all_wide p (v ∷ vs) z r (zero, l, e) n = or_left (is_wide_decimal p v) (any_wide p vs) (ap (is_wide_decimal p) e ∙ number_wide p z r n)
all_wide p (v ∷ vs) z r (suc i, l, e) n = or_right (is_wide_decimal p v) (any_wide p vs) (all_wide p vs z r (i, omega (arith, l), e) n)

grouped : (a b c : Bool) → ((a || b) || c) ≡ (a || (b || c))
grouped true b c = refl
grouped false b c = refl

any_append : (p : Physical) (us vs : List Value) → any_wide p (us ++ vs) ≡ (any_wide p us || any_wide p vs)
any_append p [] vs = refl
any_append p (u ∷ us) vs = ap (λ (b : Bool). is_wide_decimal p u || b) (any_append p us vs) ∙ sym (grouped (is_wide_decimal p u) (any_wide p us) (any_wide p vs))

-- ---- one after another

module _ (p : Physical) (f : ℕ → Value) where
  one_less : (all found wide : Bool) (i : ℕ) (is js : List ℕ) → js ≡ i ∷ is → wide ≡ is_wide_decimal p (f i) → (found || any_wide p (map f js)) ≡ all → ((found || wide) || any_wide p (map f is)) ≡ all
  one_less all found wide i is js e w h =
      grouped found wide (any_wide p (map f is)) ∙ (ap (λ (b : Bool). found || (b || any_wide p (map f is))) w ∙ (ap (λ (ks : List ℕ). found || any_wide p (map f ks)) (sym e) ∙ h))

  range_first : (i to : ℕ) → i < to → range i (to - i) ≡ i ∷ range (i + 1) (to - (i + 1))
  unfolding gather
  range_first i to l = let e : to - i ≡ suc (to - (i + 1)) = omega (arith, l) in ap (λ (n : ℕ). range i n) e

  pub range_less : (all found wide : Bool) (i to : ℕ) → i < to → wide ≡ is_wide_decimal p (f i) → (found || any_wide p (map f (range i (to - i)))) ≡ all → ((found || wide) || any_wide p (map f (range (i + 1) (to - (i + 1))))) ≡ all
  range_less all found wide i to l w h = one_less all found wide i (range (i + 1) (to - (i + 1))) (range i (to - i)) (range_first i to l) w h

  pub picked_less : (all found wide : Bool) (word left from count t : ℕ) → IsNext word left from count t → wide ≡ is_wide_decimal p (f (from + t)) → (found || any_wide p (map f (picked word from count))) ≡ all → ((found || wide) || any_wide p (map f (picked left from count))) ≡ all
  picked_less all found wide word left from count t n w h = one_less all found wide (from + t) (picked left from count) (picked word from count) n.places w h

  none_left : (all found : Bool) (is : List ℕ) → is ≡ [] → (found || any_wide p (map f is)) ≡ all → found ≡ all
  none_left all found is e h = found_none found ∙ (ap (λ (ks : List ℕ). found || any_wide p (map f ks)) (sym e) ∙ h)

  pub range_none : (all found : Bool) (i to : ℕ) → to ≤ i → (found || any_wide p (map f (range i (to - i)))) ≡ all → found ≡ all
  range_none all found i to l h = none_left all found (range i (to - i)) (gather-none (λ j. j ∷ []) i (to - i) (omega (arith, l))) h

  pub none_picked : (all found : Bool) (word from count : ℕ) → word ≡ 0 → (found || any_wide p (map f (picked word from count))) ≡ all → found ≡ all
  none_picked all found word from count e h = none_left all found (picked word from count) (picked_none word from count e) h

  pub more_taken : (first found more : Bool) (places new : List ℕ) → found ≡ (first || any_wide p (map f places)) → more ≡ any_wide p (map f new) → (found || more) ≡ (first || any_wide p (map f (places ++ new)))
  more_taken first found more places new e h =
      ap (λ (b : Bool). b || more) e
      ∙ (ap (λ (b : Bool). (first || any_wide p (map f places)) || b) h
      ∙ (grouped first (any_wide p (map f places)) (any_wide p (map f new)) ∙ ap (λ (b : Bool). first || b) (sym (any_append p (map f places) (map f new)) ∙ ap (any_wide p) (sym (map-append f places new)))))

-- the test is that of the column
pub wide_is : (t : LeafType) (p : Physical) (b : Bool) (v : ℕ → Value) (nested : List Nested) → t ≡ decimal → HasRoom p → b ≡ any_wide p (map v (path_places (parts_of nested))) → (b ≡ true) ↔ HasWide t p (nested_column v nested)
wide_is t p b v nested d r e =
    let vs : values_in (nested_column v nested) ≡ map v (path_places (parts_of nested)) = values_are_at_places v nested in (
      λ h. let w = some_wide p (map v (path_places (parts_of nested))) r (sym e ∙ h) in (d, w.0, subst (λ (us : List Value). Contains us (number w.0)) (sym vs) w.1, w.2),
      λ h. e ∙ all_wide p (map v (path_places (parts_of nested))) h.1 r (subst (λ (us : List Value). Contains us (number h.1)) vs h.2) h.3,
    )

-- ---- what is held

held_or : (l : LeafType) (p : Physical) (v : Value) → (l ≡ decimal → HasRoom p) → IsHeld l p v ⊎ ((l ≡ decimal) × (z : ℤ) × (v ≡ number z) × ¬ HoldsDecimal p z)
held_or decimal p (number z) r = elim (holds_tells p z (r refl)) [ inl t ↦ inl t.1 | inr t ↦ inr (refl, z, refl, t.1) ]
held_or l p v r = inl tt

each_held : (l : LeafType) (p : Physical) (vs : List Value) → (l ≡ decimal → HasRoom p) → ¬ ((l ≡ decimal) × (z : ℤ) × Contains vs (number z) × ¬ HoldsDecimal p z) → Each (IsHeld l p) vs
each_held l p [] r n = tt
each_held l p (v ∷ vs) r n =
    elim (held_or l p v r) [
      | inl h ↦ (h, each_held l p vs r (λ w. n (w.0, w.1, there v vs (number w.1) w.2, w.3)))
      | inr w ↦ absurd (n (w.0, w.1, (0, omega arith, w.2), w.3))
    ]

each_mapped : (P : Value → Type 0) (v : ℕ → Value) (places : List ℕ) → Each P (map v places) → Each (λ i. P (v i)) places
each_mapped P v [] h = tt
each_mapped P v (i ∷ is) h = (h.0, each_mapped P v is h.1)

pub places_held : (l : LeafType) (p : Physical) (v : ℕ → Value) (nested : List Nested) → (l ≡ decimal → HasRoom p) → ¬ HasWide l p (nested_column v nested) → Each (λ i. IsHeld l p (v i)) (path_places (parts_of nested))
places_held l p v nested r n =
    let vs : values_in (nested_column v nested) ≡ map v (path_places (parts_of nested)) = values_are_at_places v nested in
    each_mapped (IsHeld l p) v (path_places (parts_of nested))
    (each_held l p (map v (path_places (parts_of nested))) r (λ w. n (w.0, w.1, subst (λ (us : List Value). Contains us (number w.1)) (sym vs) w.2, w.3)))

-- ---- which types are decimals

pub decimal_type : (t : TypeTree) → is_decimal t ≡ true → leaf_type t ≡ decimal
decimal_type (t_decimal p s) e = refl
decimal_type t e = absurd (true≢false (sym e))

pub decimal_served : (t : TypeTree) (p : Physical) → is_served t p ≡ true → leaf_type t ≡ decimal → is_decimal t ≡ true
decimal_served (t_decimal q s) p e h = refl
decimal_served (t_dictionary k v s) p e h = absurd (true≢false (sym e ∙ no_row (t_dictionary k v s) refl refl refl refl (λ n. refl) p))
decimal_served (t_extension n t m) p e h = absurd (true≢false (sym e ∙ no_row (t_extension n t m) refl refl refl refl (λ n. refl) p))
decimal_served (t_interval YearMonth) p e h = absurd cc
decimal_served (t_interval DayTime) p e h = absurd cc
decimal_served (t_interval MonthDayNano) p e h = absurd cc
decimal_served t p e h = absurd cc

and_both : (a b : Bool) → (a && b) ≡ true → (a ≡ true) × (b ≡ true)
and_both true b e = (refl, e)
and_both false b e = absurd (true≢false (sym e))

at_most : (m n : ℕ) → nat_le m n ≡ true → m ≤ n
at_most m n e = elim (leb_tells m n) [ inl t ↦ t.1 | inr t ↦ absurd (true≢false (sym e ∙ t.0)) ]

decimal_room : (t : TypeTree) (p : Physical) → is_decimal t ≡ true → is_served t p ≡ true → HasRoom p
decimal_room (t_decimal q s) (fixed n) d e = let b = and_both (nat_le 1 n) (nat_le n 16) e in (at_most 1 n b.0, at_most n 16 b.1)
decimal_room t boolean d e = tt
decimal_room t int32 d e = tt
decimal_room t int64 d e = tt
decimal_room t int96 d e = tt
decimal_room t float d e = tt
decimal_room t double d e = tt
decimal_room t byte_array d e = tt
decimal_room t (fixed n) d e = absurd (true≢false (sym d))

pub served_room : (t : TypeTree) (p : Physical) → is_served t p ≡ true → leaf_type t ≡ decimal → HasRoom p
served_room t p e h = decimal_room t p (decimal_served t p e h) e

-- an array of another type has no decimals
pub apart : (t : TypeTree) (f : TypeTree → Bool) → is_decimal t ≡ true → ((p s : ℕ) → f (t_decimal p s) ≡ false) → f t ≡ true → ⊥
apart (t_decimal p s) f d n e = true≢false (sym e ∙ n p s)
apart t f d n e = absurd (true≢false (sym d))
