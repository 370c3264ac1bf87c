-- The values of leaf arrays in order, and their texts as bounds.
use Rattle.std.proofs.Common.{◌≡◌, ℕ, zero, suc, ◌+◌, ◌-◌, ◌≤◌, ◌<◌, ℤ, ◌≤ℤ◌, ◌<ℤ◌, Bool, true, false, true≢false, List, [], ◌∷◌, map, length, take, drop, get_or, refl, sym, ap, subst, ◌∙◌, arith, Some}
use Rattle.std.specs.Prelude.{All, IsTrue, IsUtf8, ◌↔◌, ◌||◌, not}
use Rattle.std.proofs.lemmas.List.{get_or-map, get_or-take, get_or-drop, get_or_default, length-take, length-drop, take_more, take_all}
use Rattle.std.proofs.lemmas.List.Elements.{All-append}
use Rattle.std.proofs.lemmas.Int.{by_lt_z}
use Rattle.shredding.specs.Shape.{LeafType, text, binary, fixed_bytes}
use Rattle.shredding.specs.Slot.{Value, truth, number, bytes}
use Rattle.columns_core.specs.Shapes.{base, leaf_type}
use Rattle.columns_core.specs.Tree.{TypeTree, t_utf8, t_large_utf8, t_binary, t_fixed_size_binary, t_large_binary}
use Rattle.columns_slots.specs.Bytes.{pieces, pieces_values}
use Rattle.columns_slots.specs.Types.{byte_width, is_binary, is_text}
use Rattle.pq_tree.specs.Physical.{Physical, byte_array, fixed}
use Rattle.pq_files.specs.Statistics.{IsImplied, IsUpTo}
use Rattle.pq_files.specs.Stored.{IsStored}
use Rattle.page_statistics.specs.Spelled.{IsSpelled, bound_text}
use Rattle.write_values.specs.Fixed.{width_in}
use Rattle.write_values.specs.Numbers.{at_place}
use Rattle.write_values.proofs.Picked.{number_here}
use Rattle.write_values.proofs.ServedTypes.{some_number}

pub not_below : (a b : ℤ) → (a <ℤ b → ⊥) → b ≤ℤ a
not_below a b h = by_lt_z a b (λ l. absurd (h l)) (λ k. k)

-- numbers at places
module _ {A : Type 0} (g : A → Value) (ordinal : A → ℤ) (is : (x : A) → g x ≡ number (ordinal x)) (xs : List A) where
  pub numbers_up : (i j : ℕ) (x y : A) → i < length xs → j < length xs → x ≡ get_or xs i x → y ≡ get_or xs j y → ordinal x ≤ℤ ordinal y → IsUpTo (at_place (map g xs) i) (at_place (map g xs) j)
  numbers_up i j x y l m e f h =
      let u : number (ordinal x) ≡ at_place (map g xs) i = sym (is x) ∙ number_here g xs i x l e in
      let v : number (ordinal y) ≡ at_place (map g xs) j = sym (is y) ∙ number_here g xs j y m f in
      subst (λ (a : Value). IsUpTo a (at_place (map g xs) j)) u (subst (λ (b : Value). IsUpTo (number (ordinal x)) b) v h)

  -- those of a stretch that lie between two
  pub between_up : (from to least greatest : ℕ) (x y : A) → from ≤ to → to ≤ length xs → least < length xs → greatest < length xs → x ≡ get_or xs least x → y ≡ get_or xs greatest y → All (λ z. (ordinal x ≤ℤ ordinal z) × (ordinal z ≤ℤ ordinal y)) (take (to - from) (drop from xs))
      → (i : ℕ) → from ≤ i → i < to → IsUpTo (at_place (map g xs) least) (at_place (map g xs) i) × IsUpTo (at_place (map g xs) i) (at_place (map g xs) greatest)
  between_up from to least greatest x y ordered within l m e f all i low high =
      let z = get_or xs i x in
      let k : from + (i - from) ≡ i = omega (arith, low) in
      let here : i < length xs = omega (arith, high, within) in
      let short : i - from < to - from = omega (arith, low, high) in
      let inside : i - from < length (take (to - from) (drop from xs)) = omega (arith, short, within, length-take (to - from) (drop from xs), length-drop from xs) in
      let same : get_or (take (to - from) (drop from xs)) (i - from) x ≡ z = get_or-take (to - from) (drop from xs) (i - from) x short ∙ (get_or-drop from xs (i - from) x ∙ ap (λ (n : ℕ). get_or xs n x) k) in
      let own : z ≡ get_or xs i z = get_or_default xs i x z here in
      let p : (ordinal x ≤ℤ ordinal z) × (ordinal z ≤ℤ ordinal y) = subst (λ (w : A). (ordinal x ≤ℤ ordinal w) × (ordinal w ≤ℤ ordinal y)) same (all (i - from) x inside) in
      (numbers_up least i x z l here e own p.0, numbers_up i greatest z y here m own f p.1)

none_past : (a b : Bool) → (a || b) ≡ false → (a ≡ false) × (b ≡ false)
none_past false b h = (refl, h)
none_past true b h = absurd (true≢false h)

not_less : (r : Bool) (a b : ℤ) → IsTrue r ↔ (a <ℤ b) → r ≡ false → b ≤ℤ a
not_less r a b d e = not_below a b (λ l. absurd (true≢false (sym (d.1 l) ∙ e)))

one : {A : Type 0} (P : A → Type 0) (x : A) → P x → All P (x ∷ [])
one P x h zero d k = h
one P x h (suc i) d k = absurd (omega (arith, k))

-- one number more
pub between_more : {A : Type 0} (ordinal : A → ℤ) (low high : A) (xs : List A) (i : ℕ) (x : A) (past below above : Bool) → i < length xs → x ≡ get_or xs i x → (past ≡ false → All (λ z. (ordinal low ≤ℤ ordinal z) × (ordinal z ≤ℤ ordinal high)) (take i xs)) → IsTrue below ↔ (ordinal x <ℤ ordinal low) → IsTrue above ↔ (ordinal high <ℤ ordinal x)
    → ((past || below) || above) ≡ false → All (λ z. (ordinal low ≤ℤ ordinal z) × (ordinal z ≤ℤ ordinal high)) (take (i + 1) xs)
between_more {A} ordinal low high xs i x past below above l is h d f e =
    let P : A → Type 0 = λ z. (ordinal low ≤ℤ ordinal z) × (ordinal z ≤ℤ ordinal high) in
    let a = none_past (past || below) above e in
    let b = none_past past below a.0 in
    let p : P x = (not_less below (ordinal x) (ordinal low) d b.1, not_less above (ordinal high) (ordinal x) f a.1) in
    subst (λ (ys : List A). All P ys) (sym (take_more xs i x l)) (All-append P (take i xs) (get_or xs i x ∷ []) (h b.0) (subst (λ (y : A). All P (y ∷ [])) is (one P x p)))

pub between_all : {A : Type 0} (P : A → Type 0) (xs : List A) (i : ℕ) (past : Bool) → length xs ≤ i → (past ≡ false → All P (take i xs)) → IsTrue (not past) → All P xs
between_all {A} P xs i false l h t = subst (λ (ys : List A). All P ys) (take_all i xs l) (h refl)
between_all P xs i true l h t = absurd (true≢false (sym t))

-- the text of the number at a place
pub number_spelled : {A : Type 0} (t : LeafType) (p : Physical) (g : A → Value) (xs : List A) (i : ℕ) (x : A) (z : ℤ) (s : List ℕ) → i < length xs → x ≡ get_or xs i x → IsStored t p (g x) (number z) → s ≡ bound_text p (number z) → IsSpelled t p s (at_place (map g xs) i)
number_spelled t p g xs i x z s l e h is = subst (λ (v : Value). IsSpelled t p s v) (number_here g xs i x l e) (record { stored = number z; is_stored = h; has_bytes = λ d. tt; is = is })

-- ---- texts, byte strings and truth values

text_type : (large : Bool) (t : TypeTree) → is_text large t ≡ true → leaf_type t ≡ text
text_type false t_utf8 e = refl
text_type true t_large_utf8 e = refl
text_type false t e = absurd (true≢false (sym e))
text_type true t e = absurd (true≢false (sym e))

binary_type : (large : Bool) (t : TypeTree) → is_binary large t ≡ true → leaf_type t ≡ binary
binary_type false t_binary e = refl
binary_type true t_large_binary e = refl
binary_type false t e = absurd (true≢false (sym e))
binary_type true t e = absurd (true≢false (sym e))

pub text_spelled : (large : Bool) (t : TypeTree) (s b : List ℕ) (v : Value) → is_text large t ≡ true → bytes b ≡ v → IsUtf8 b → s ≡ b → IsSpelled (leaf_type t) byte_array s v
text_spelled large t s b v e i u h =
    subst (λ (w : Value). IsSpelled (leaf_type t) byte_array s w) i (subst (λ (l : LeafType). IsSpelled l byte_array s (bytes b)) (sym (text_type large t e)) (record { stored = bytes b; is_stored = (u, refl); has_bytes = λ d. absurd cc; is = h }))

pub string_spelled : (large : Bool) (t : TypeTree) (s b : List ℕ) (v : Value) → is_binary large t ≡ true → bytes b ≡ v → s ≡ b → IsSpelled (leaf_type t) byte_array s v
string_spelled large t s b v e i h =
    subst (λ (w : Value). IsSpelled (leaf_type t) byte_array s w) i (subst (λ (l : LeafType). IsSpelled l byte_array s (bytes b)) (sym (binary_type large t e)) (record { stored = bytes b; is_stored = refl; has_bytes = λ d. absurd cc; is = h }))

-- the texts of an array are texts at each place
pub text_at : (os bs b : List ℕ) (i : ℕ) → All IsUtf8 (pieces os bs) → i < length (pieces os bs) → bytes b ≡ at_place (pieces_values os bs) i → IsUtf8 b
text_at os bs b i all l e =
    let same : bytes b ≡ bytes (get_or (pieces os bs) i []) = e ∙ get_or-map bytes (pieces os bs) i [] (truth false) l in
    subst IsUtf8 (sym (ap bytes_in same)) (all i [] l)
  where
    bytes_in : Value → List ℕ
    bytes_in (bytes s) = s
    bytes_in v = []

pub truths_up : (bits : List Bool) (i j : ℕ) (b c : Bool) → i < length bits → j < length bits → b ≡ get_or bits i false → c ≡ get_or bits j false → IsImplied b c → IsUpTo (at_place (map truth bits) i) (at_place (map truth bits) j)
truths_up bits i j b c l m e f h =
    let u : truth b ≡ at_place (map truth bits) i = ap truth e ∙ sym (get_or-map truth bits i false (truth false) l) in
    let v : truth c ≡ at_place (map truth bits) j = ap truth f ∙ sym (get_or-map truth bits j false (truth false) m) in
    subst (λ (a : Value). IsUpTo a (at_place (map truth bits) j)) u (subst (λ (a : Value). IsUpTo (truth b) a) v h)

pub implied_true : (b c : Bool) → c ≡ true → IsImplied b c
implied_true false c e = tt
implied_true true c e = e

fixed_type : (t : TypeTree) (w : ℕ) → byte_width t ≡ Some w → leaf_type t ≡ fixed_bytes w
fixed_type (t_fixed_size_binary m) w e = ap fixed_bytes (some_number m w e)
fixed_type t w e = absurd cc

pub fixed_spelled : (t : TypeTree) (s b : List ℕ) (v : Value) → byte_width (base t) ≡ Some (width_in t) → bytes b ≡ v → length b ≡ width_in t → s ≡ b → IsSpelled (leaf_type (base t)) (fixed (width_in t)) s v
fixed_spelled t s b v e i l h =
    let p = fixed (width_in t) in
    subst (λ (w : Value). IsSpelled (leaf_type (base t)) p s w) i
    (subst (λ (k : LeafType). IsSpelled k p s (bytes b)) (sym (fixed_type (base t) (width_in t) e)) (record { stored = bytes b; is_stored = (refl, l, refl); has_bytes = λ d. absurd cc; is = h }))
