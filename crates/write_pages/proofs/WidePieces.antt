-- Decimals past their physical type, in some rows of a column.
use Rattle.std.proofs.Common.{◌≡◌, ◌⊎◌, ◌↔◌, inl, inr, ℕ, List, ◌++◌, take, drop, ap, sym, subst, ◌∙◌}
use Rattle.std.specs.Prelude.{Contains, IfErr, Result, Ok, Err}
use Rattle.std.proofs.lemmas.Grind.{flat_map-append}
use Rattle.std.proofs.lemmas.List.{take-append-drop}
use Rattle.std.proofs.lemmas.List.Elements.{Contains-append_left, Contains-append_right, filter_map-append}
use Rattle.columns_base.specs.declared.error.Error.{Error}
use Rattle.columns_base.specs.declared.error.Error.TheVariants.{Memory, Overflow}
use Rattle.columns_base.specs.declared.error.V.TheVariants.{V3}
use Rattle.shredding.specs.Shape.{LeafType, Way}
use Rattle.shredding.specs.Shred.{Triple, column, shred}
use Rattle.shredding.specs.Slot.{Slot, Value, number}
use Rattle.pq_tree.specs.Physical.{Physical, boolean}
use Rattle.pq_tree.specs.Reads.{ComesWhere}
use Rattle.pq_tree.specs.Tree.{Tree, leaf}
use Rattle.pq_files.specs.Page.{values_in}
use Rattle.write_values.specs.Decimals.{HasWide}
use Rattle.write_pages.specs.Refused.{IsPastRoom}

values_append : (w : Way) (xs ys : List Slot) → values_in (column w (xs ++ ys)) ≡ values_in (column w xs) ++ values_in (column w ys)
values_append w xs ys =
    ap values_in (flat_map-append (λ s. shred w s 0 0 0) xs ys) ∙ filter_map-append (λ (t : Triple). t.value) (column w xs) (column w ys)

front_wide : (t : LeafType) (p : Physical) (w : Way) (xs ys : List Slot) → HasWide t p (column w xs) → HasWide t p (column w (xs ++ ys))
front_wide t p w xs ys h =
    (h.0, h.1, subst (λ (vs : List Value). Contains vs (number h.1)) (sym (values_append w xs ys)) (Contains-append_left (values_in (column w xs)) (values_in (column w ys)) (number h.1) h.2), h.3)

back_wide : (t : LeafType) (p : Physical) (w : Way) (xs ys : List Slot) → HasWide t p (column w ys) → HasWide t p (column w (xs ++ ys))
back_wide t p w xs ys h =
    (h.0, h.1, subst (λ (vs : List Value). Contains vs (number h.1)) (sym (values_append w xs ys)) (Contains-append_right (values_in (column w xs)) (values_in (column w ys)) (number h.1) h.2), h.3)

-- what is past it in some rows is so in all
pub piece_wide : (t : LeafType) (p : Physical) (w : Way) (rows : List Slot) (o n : ℕ) → HasWide t p (column w (take n (drop o rows))) → HasWide t p (column w rows)
piece_wide t p w rows o n h =
    let behind : HasWide t p (column w (drop o rows)) = subst (λ (xs : List Slot). HasWide t p (column w xs)) (take-append-drop n (drop o rows)) (front_wide t p w (take n (drop o rows)) (drop n (drop o rows)) h) in
    subst (λ (xs : List Slot). HasWide t p (column w xs)) (take-append-drop o rows) (back_wide t p w (take o rows) (drop o rows) behind)

pub wide_moved : (t t' : LeafType) (p : Physical) (w w' : Way) (rows rows' : List Slot) → t ≡ t' → w ≡ w' → rows ≡ rows' → HasWide t p (column w rows) → HasWide t' p (column w' rows')
wide_moved t t' p w w' rows rows' a d e h =
    subst (λ (x : LeafType). HasWide x p (column w' rows')) a (subst (λ (x : Way). HasWide t p (column x rows')) d (subst (λ (x : List Slot). HasWide t p (column w x)) e h))

pub past_moved : (t t' : LeafType) (p p' : Physical) (w w' : Way) (rows rows' : List Slot) → t ≡ t' → p ≡ p' → w ≡ w' → rows ≡ rows' → IsPastRoom t p (column w rows) → IsPastRoom t' p' (column w' rows')
past_moved t t' p p' w w' rows rows' a b d e h =
    subst (λ (x : LeafType). IsPastRoom x p' (column w' rows')) a
    (subst (λ (x : Physical). IsPastRoom t x (column w' rows')) b (subst (λ (x : Way). IsPastRoom t p (column x rows')) d (subst (λ (x : List Slot). IsPastRoom t p (column w x)) e h)))

-- ---- why a page is refused

pub past_cause : (e : Error) (C D : Type 0) → (C → D) → (e ≡ Memory) ⊎ ((e ≡ Overflow V3) ↔ C) → (e ≡ Memory) ⊎ (e ≡ Overflow V3) → (e ≡ Memory) ⊎ ((e ≡ Overflow V3) × D)
past_cause e C D f (inl m) k = inl m
past_cause e C D f (inr c) (inl m) = inl m
past_cause e C D f (inr c) (inr v) = inr (v, f (c.0 v))

pub past_result : {A : Type 0} (r : Result A Error) (C D : Type 0) → (C → D) → ComesWhere (Overflow V3) C r → IfErr r (λ e. (e ≡ Memory) ⊎ (e ≡ Overflow V3)) → IfErr r (λ e. (e ≡ Memory) ⊎ ((e ≡ Overflow V3) × D))
past_result (Ok x) C D f h k = k
past_result (Err e) C D f h k = past_cause e C D f h k

-- an error's own cause, told otherwise
pub past_told : {A : Type 0} (r : Result A Error) (C D : Type 0) → (C → D) → IfErr r (λ e. (e ≡ Memory) ⊎ ((e ≡ Overflow V3) × C)) → IfErr r (λ e. (e ≡ Memory) ⊎ ((e ≡ Overflow V3) × D))
past_told (Ok x) C D f h = h
past_told (Err e) C D f (inl m) = inl m
past_told (Err e) C D f (inr h) = inr (h.0, f h.1)

pub no_cause : (e reason : Error) (C : Type 0) → ¬ C → ¬ (Overflow V3 ≡ reason) → (e ≡ Memory) ⊎ (e ≡ Overflow V3) → (e ≡ Memory) ⊎ ((e ≡ reason) ↔ C)
no_cause e reason C n d (inl m) = inl m
no_cause e reason C n d (inr v) = inr (λ r. absurd (d (sym v ∙ r)), λ c. absurd (n c))

pub more_cause : (e reason : Error) (C D : Type 0) → (C → D) → (D → C) → (e ≡ Memory) ⊎ ((e ≡ reason) ↔ C) → (e ≡ Memory) ⊎ ((e ≡ reason) ↔ D)
more_cause e reason C D f g (inl m) = inl m
more_cause e reason C D f g (inr c) = inr (λ x. f (c.0 x), λ d. c.1 (g d))

-- the physical type of a leaf of a tree
abbrev pub physical_in : Tree → Physical
physical_in (leaf info p) = p
physical_in t = boolean
