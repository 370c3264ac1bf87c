-- The column of a state whose leaf's values are replaced.
use Rattle.std.proofs.Common.{◌≡◌, ℕ, zero, suc, ◌+◌, Bool, true, false, cond, Option, Some, None, is_some, List, [], ◌∷◌, ◌++◌, map, refl, ap, sym, subst, ◌∙◌}
use Rattle.std.specs.Prelude.{◌-◌, flat_map, slice_index}
use Rattle.std.proofs.lemmas.List.{map-append}
use Rattle.shredding.specs.Parts.{keeps, slots_from}
use Rattle.shredding.specs.Shape.{Way, at_leaf, in_list, in_struct}
use Rattle.shredding.specs.Shred.{Triple, shred, up}
use Rattle.shredding.specs.Slot.{Slot, Slots, Value, fields, items, list_of, no_slots, null, slot, slots_of, value}
use Rattle.read_laws.specs.Column.{kept_column}
use Rattle.read_laws.specs.State.{Kept, count, item_end, kept_leaf, kept_list, kept_slot, kept_slots, kept_struct, kept_way}
use Rattle.dictionary_columns.specs.Keys.{with_value}

-- ---- triples whose values are all of some kind
abbrev pub IsGood : (Value → Type 0) → Option Value → Type 0
IsGood P None = Unit {0}
IsGood P (Some v) = P v

abbrev pub AreGood : (Value → Type 0) → List Triple → Type 0
AreGood P [] = Unit {0}
AreGood P (t ∷ ts) = IsGood P t.value × AreGood P ts

pub good-first : (P : Value → Type 0) (a b : List Triple) → AreGood P (a ++ b) → AreGood P a
good-first P [] b g = tt
good-first P (t ∷ a) b g = (g.0, good-first P a b g.1)

pub good-second : (P : Value → Type 0) (a b : List Triple) → AreGood P (a ++ b) → AreGood P b
good-second P [] b g = g
good-second P (t ∷ a) b g = good-second P a b g.1

-- ---- slots

-- the one shreds to what the other shreds to, with other values
Shreds : (Value → Type 0) → (Value → Value) → Way → Slot → Slot → Type 0
Shreds P h w s s' = (r d k : ℕ) → AreGood P (shred w s r d k) → shred w s' r d k ≡ map (with_value h) (shred w s r d k)

list_of-slots_of : (ss : List Slot) → list_of (slots_of ss) ≡ ss
list_of-slots_of [] = refl
list_of-slots_of (s ∷ ss) = ap (λ (xs : List Slot). s ∷ xs) (list_of-slots_of ss)

all-shred : (P : Value → Type 0) (h : Value → Value) (w : Way) (f f' : ℕ → Slot) (at n r d k : ℕ) → ((i : ℕ) → Shreds P h w (f i) (f' i)) → AreGood P (flat_map (λ s. shred w s r d k) (slots_from f at n)) →
    flat_map (λ s. shred w s r d k) (slots_from f' at n) ≡ map (with_value h) (flat_map (λ s. shred w s r d k) (slots_from f at n))
unfolding slots_from Shreds
all-shred P h w f f' at zero r d k e g = refl
all-shred P h w f f' at (suc n) r d k e g =
    let one = shred w (f at) r d k in
    let more = flat_map (λ s. shred w s r d k) (slots_from f (at + 1) n) in
    let first = e at r d k (good-first P one more g) in
    let rest = all-shred P h w f f' (at + 1) n r d k e (good-second P one more g) in
    ap (λ (xs : List Triple). xs ++ flat_map (λ s. shred w s r d k) (slots_from f' (at + 1) n)) first ∙ (ap (λ (xs : List Triple). map (with_value h) one ++ xs) rest ∙ sym (map-append (with_value h) one more))

items-shred : (P : Value → Type 0) (h : Value → Value) (b : Bool) (w : Way) (f f' : ℕ → Slot) (at n : ℕ) → ((i : ℕ) → Shreds P h w (f i) (f' i)) → Shreds P h (in_list b w) (items (slots_of (slots_from f at n))) (items (slots_of (slots_from f' at n)))
unfolding slots_from Shreds shred
items-shred P h b w f f' at zero e r d k g = refl
items-shred P h b w f f' at (suc n) e r d k g =
    let first = shred w (f at) r (suc (up b d)) (suc k) in
    let rest = λ (g : ℕ → Slot). flat_map (λ t. shred w t (suc k) (suc (up b d)) (suc k)) (slots_from g (at + 1) n) in
    let good : AreGood P (first ++ rest f) = rw (list_of-slots_of (slots_from f (at + 1) n)) at g in
    let one = e at r (suc (up b d)) (suc k) (good-first P first (rest f) good) in
    let more = all-shred P h w f f' (at + 1) n (suc k) (suc (up b d)) (suc k) e (good-second P first (rest f) good) in
    rw (list_of-slots_of (slots_from f (at + 1) n), list_of-slots_of (slots_from f' (at + 1) n))
    (ap (λ (xs : List Triple). xs ++ rest f') one ∙ (ap (λ (xs : List Triple). map (with_value h) first ++ xs) more ∙ sym (map-append (with_value h) first (rest f))))

-- the leaf's slots: null where the other is none
pub record Replaces (P : Value → Type 0) (h : Value → Value) (f : Slot → Slot) : Type 0 where
  pub some : (v : Value) → P v → f (value v) ≡ value (h v)
  pub none : f null ≡ null
  pub no-items : (ss : Slots) → f (items ss) ≡ null
  pub no-fields : (ss : Slots) → f (fields ss) ≡ null

leaf-shred : (P : Value → Type 0) (h : Value → Value) (f : Slot → Slot) (n : Bool) (s : Slot) → Replaces P h f → Shreds P h (at_leaf n) s (f s)
unfolding Shreds shred
leaf-shred P h f n (value v) e r d k g = rw (e.some v g.0) refl
leaf-shred P h f n null e r d k g = rw (e.none) refl
leaf-shred P h f n (items ss) e r d k g = rw (e.no-items ss) refl
leaf-shred P h f n (fields ss) e r d k g = rw (e.no-fields ss) refl

null-shred : (P : Value → Type 0) (h : Value → Value) (w : Way) → Shreds P h w null null
unfolding Shreds shred
null-shred P h (at_leaf n) r d k g = refl
null-shred P h (in_list n w) r d k g = refl
null-shred P h (in_struct n i w) r d k g = refl

struct-shred : (P : Value → Type 0) (h : Value → Value) (b : Bool) (w : Way) (s s' : Slot) → Shreds P h w s s' → Shreds P h (in_struct b zero w) (fields (slot s no_slots)) (fields (slot s' no_slots))
unfolding Shreds shred
struct-shred P h b w s s' e r d k g = e r (up b d) k g

masked-shred : (P : Value → Type 0) (h : Value → Value) (w : Way) (s s' : Slot) (b : Bool) → Shreds P h w s s' → Shreds P h w (cond b s null) (cond b s' null)
masked-shred P h w s s' true e = e
masked-shred P h w s s' false e = null-shred P h w

kept-shred : (P : Value → Type 0) (h : Value → Value) (f : Slot → Slot) (leaf leaf' : ℕ → Slot) (ks : List Kept) (i : ℕ) → Replaces P h f → ((j : ℕ) → leaf' j ≡ f (leaf j)) → Shreds P h (kept_way ks) (kept_slot leaf ks i) (kept_slot leaf' ks i)
unfolding kept_slot
kept-shred P h f leaf leaf' [] i e same = null-shred P h (at_leaf false)
kept-shred P h f leaf leaf' (kept_leaf n c ∷ ks) i e same = subst (λ (s : Slot). Shreds P h (at_leaf n) (leaf i) s) (sym (same i)) (leaf-shred P h f n (leaf i) e)
kept-shred P h f leaf leaf' (kept_list m starts ∷ ks) i e same =
    masked-shred P h (in_list (is_some m) (kept_way ks)) _ _ (keeps m i) (items-shred P h (is_some m) (kept_way ks) (kept_slot leaf ks) (kept_slot leaf' ks) (slice_index starts i) (item_end starts (count ks) i - slice_index starts i) (λ j. kept-shred P h f leaf leaf' ks j e same))
kept-shred P h f leaf leaf' (kept_struct m c ∷ ks) i e same =
    masked-shred P h (in_struct (is_some m) zero (kept_way ks)) _ _ (keeps m i) (struct-shred P h (is_some m) (kept_way ks) (kept_slot leaf ks i) (kept_slot leaf' ks i) (kept-shred P h f leaf leaf' ks i e same))

pub kept-replaced : (P : Value → Type 0) (h : Value → Value) (f : Slot → Slot) (leaf leaf' : ℕ → Slot) (ks : List Kept) → Replaces P h f → ((j : ℕ) → leaf' j ≡ f (leaf j)) → AreGood P (kept_column leaf ks) → kept_column leaf' ks ≡ map (with_value h) (kept_column leaf ks)
unfolding kept_slots
kept-replaced P h f leaf leaf' ks e same g = all-shred P h (kept_way ks) (kept_slot leaf ks) (kept_slot leaf' ks) 0 (count ks) 0 0 0 (λ i. kept-shred P h f leaf leaf' ks i e same) g
