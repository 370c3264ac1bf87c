-- Levels stay within their maxima, and values stand at the greatest definition level.
use Rattle.std.proofs.Common.{◌≡◌, ℕ, suc, ◌+◌, ◌<◌, ◌≤◌, Bool, true, false, is_some, nat_eq, None, List, [], ◌∷◌, ◌++◌, flat_map, subst, sym, subst₂, zero-add, arith, ne_eqb, eq-eqb}
use Rattle.std.specs.List.{AllByRecursion as Each}
use Rattle.std.proofs.lemmas.List.Elements.{recursion_from_All, All-from_recursion}
use Rattle.shredding.specs.Along.{IsAlong}
use Rattle.shredding.specs.Laws.{LevelsAreWithin}
use Rattle.shredding.specs.Local.{IsWithin}
use Rattle.shredding.specs.Slot.{Slot, null, value, items, fields, no_slots, slot, list_of, slot_at}
use Rattle.shredding.specs.Shape.{Way, at_leaf, in_list, in_struct}
use Rattle.shredding.specs.Shred.{Triple, up, single, shred, column, max_repetition, max_definition}

-- the same for the triples of one slot, with R and D the greatest levels
abbrev pub Fits : ℕ → ℕ → Triple → Type 0
Fits R D t = (t.repetition ≤ R) × (t.definition ≤ D) × (is_some t.value ≡ nat_eq t.definition D)

pub Each-append : {X : Type 0} (P : X → Type 0) (xs ys : List X) → Each P xs → Each P ys → Each P (xs ++ ys)
Each-append P [] ys h g = g
Each-append P (x ∷ xs) ys h g = (h.0, Each-append P xs ys h.1 g)

pub Each-flat_map : {X Y : Type 0} (P : Y → Type 0) (Q : X → Type 0) (f : X → List Y) → ((x : X) → Q x → Each P (f x)) → (xs : List X) → Each Q xs → Each P (flat_map f xs)
Each-flat_map P Q f h [] q = tt
Each-flat_map P Q f h (x ∷ xs) q = Each-append P (f x) (flat_map f xs) (h x q.0) (Each-flat_map P Q f h xs q.1)

pub max-up : (n : Bool) (d m : ℕ) → up n d + m ≡ d + up n m
max-up true d m = omega arith
max-up false d m = omega arith

pub max_suc-up : (n : Bool) (d m : ℕ) → suc (up n d) + m ≡ d + up n (suc m)
max_suc-up true d m = omega arith
max_suc-up false d m = omega arith

lower : (R D r d : ℕ) → r ≤ R → d < D → Each (Fits R D) (single r d None)
lower R D r d l m = ((l, omega arith, sym (ne_eqb d D (omega arith))), tt)

pub fits : (w : Way) (s : Slot) (r d k : ℕ) → r ≤ k → IsAlong w s → Each (Fits (k + max_repetition w) (d + max_definition w)) (shred w s r d k)
unfolding shred
fits (at_leaf true) null r d k l h = lower _ _ r d (omega arith) (omega arith)
fits (at_leaf false) null r d k l h = cc
fits (at_leaf true) (value v) r d k l h = ((omega arith, omega arith, sym (eq-eqb _ _ (omega arith))), tt)
fits (at_leaf false) (value v) r d k l h = ((omega arith, omega arith, sym (eq-eqb _ _ (omega arith))), tt)
fits (at_leaf n) (items ss) r d k l h = absurd h
fits (at_leaf n) (fields ss) r d k l h = absurd h
fits (in_list true w) null r d k l h = lower _ _ r d (omega arith) (omega arith)
fits (in_list false w) null r d k l h = cc
fits (in_list n w) (items no_slots) r d k l h = lower _ _ r (up n d) (omega arith) (omega (arith, max_suc-up n d (max_definition w)))
fits (in_list n w) (items (slot s ss)) r d k l h =
    let each = recursion_from_All (IsAlong w) (s ∷ list_of ss) h in
    let R : ℕ = suc k + max_repetition w in
    let D : ℕ = suc (up n d) + max_definition w in
    let first : Each (Fits R D) (shred w s r (suc (up n d)) (suc k)) = fits w s r (suc (up n d)) (suc k) (omega arith) each.0 in
    let rest : Each (Fits R D) (flat_map (λ t. shred w t (suc k) (suc (up n d)) (suc k)) (list_of ss)) =
    Each-flat_map (Fits R D) (IsAlong w) _ (λ t g. fits w t (suc k) (suc (up n d)) (suc k) (omega arith) g) (list_of ss) each.1 in
    subst₂ (λ A B. Each (Fits A B) (shred w s r (suc (up n d)) (suc k) ++ flat_map (λ t. shred w t (suc k) (suc (up n d)) (suc k)) (list_of ss)))
    (omega arith) (max_suc-up n d (max_definition w)) (Each-append (Fits R D) _ _ first rest)
fits (in_list n w) (value v) r d k l h = absurd h
fits (in_list n w) (fields ss) r d k l h = absurd h
fits (in_struct true i w) null r d k l h = lower _ _ r d (omega arith) (omega arith)
fits (in_struct false i w) null r d k l h = cc
fits (in_struct n i w) (fields ss) r d k l h =
    subst (λ D. Each (Fits (k + max_repetition w) D) (shred w (slot_at ss i) r (up n d) k)) (max-up n d (max_definition w)) (fits w (slot_at ss i) r (up n d) k l h)
fits (in_struct n i w) (value v) r d k l h = absurd h
fits (in_struct n i w) (items ss) r d k l h = absurd h

pub within : (w : Way) (t : Triple) → Fits (0 + max_repetition w) (0 + max_definition w) t → IsWithin w t
within w t h = record { repetition = omega (arith, h.0); definition = omega (arith, h.1); present = rw zero-add at h.2 }

pub Each-weaker : {X : Type 0} (P Q : X → Type 0) → ((x : X) → P x → Q x) → (xs : List X) → Each P xs → Each Q xs
Each-weaker P Q f [] h = tt
Each-weaker P Q f (x ∷ xs) h = (f x h.0, Each-weaker P Q f xs h.1)

pub levels_are_within : LevelsAreWithin
levels_are_within w rows h =
    All-from_recursion (IsWithin w) (column w rows)
    (Each-flat_map (IsWithin w) (IsAlong w) (λ s. shred w s 0 0 0) (λ s g. Each-weaker _ _ (within w) (shred w s 0 0 0) (fits w s 0 0 0 (omega arith) g)) rows (recursion_from_All (IsAlong w) rows h))
