-- The last part of a path in bounds is its leaf.
use Rattle.std.proofs.Common.{◌≡◌, ◌⊎◌, inl, inr, ℕ, suc, ◌-◌, ◌<◌, Bool, true, false, true≢false, ◌&&◌, List, [], ◌∷◌, length, set, get_or, Some, None, refl, ap, sym, subst, ◌∙◌, arith}
use Rattle.shredding.specs.Parts.{Part, leaf_part, list_part, struct_part, keeps, MaskFits}
use Rattle.columns_slots.specs.Tree.{Mask, ArrayTree}
use Rattle.columns_slots.specs.Slots.{tree_len, mask_of}
use Rattle.levels.specs.InBounds.{AreWithin, IsInBounds}
use Rattle.levels.specs.Nested.{part_of, parts_of, is_leaf}
use Rattle.levels.specs.Ranges.{leaf_count_or}
use Rattle.levels.specs.declared.nested.Nested.{Nested}
use Rattle.levels.specs.declared.nested.Nested.TheVariants.{Primitive, List as ListOf, LargeList, Struct}
use Rattle.nested_paths.specs.PathLeaf.{leaf_mask, is_leaf_optional, FitsLeaf}
use Rattle.nested_paths.specs.LeafNulls.{with_leaf_mask, MergesNulls, is_value}
use Rattle.nested_paths.specs.Seen.{leaf_slot}
use Rattle.nested_paths.specs.ValueMasks.{KeepAlike, IsValueMask}

-- what the leaf is
pub record IsLast (mask : Mask) (is_optional : Bool) (count : ℕ) (parts : List Part) : Type 0 where
  pub mask_is : leaf_mask parts ≡ mask
  pub optional_is : is_leaf_optional parts ≡ is_optional
  pub count_is : leaf_count_or 0 parts ≡ count
  pub fits : MaskFits mask count

abbrev pub LeafIs : Nested → List Part → Type 0
LeafIs (Primitive mask is_optional count) parts = IsLast mask is_optional count parts
LeafIs (ListOf list) parts = ⊥
LeafIs (LargeList list) parts = ⊥
LeafIs (Struct mask is_optional count) parts = ⊥

last_of : (x y : Nested) (xs : List Nested) (l : Nested) → AreWithin (parts_of (x ∷ y ∷ xs)) → LeafIs l (parts_of (y ∷ xs)) → LeafIs l (parts_of (x ∷ y ∷ xs))
last_of (Primitive m b k) y xs l w h = absurd (omega (arith, w.0.1))
last_of (ListOf list) y xs (Primitive m b k) w h = record { mask_is = h.mask_is; optional_is = h.optional_is; count_is = h.count_is; fits = h.fits }
last_of (LargeList list) y xs (Primitive m b k) w h = record { mask_is = h.mask_is; optional_is = h.optional_is; count_is = h.count_is; fits = h.fits }
last_of (Struct n c j) y xs (Primitive m b k) w h = record { mask_is = h.mask_is; optional_is = h.optional_is; count_is = h.count_is; fits = h.fits }
last_of x y xs (ListOf list) w h = absurd h
last_of x y xs (LargeList list) w h = absurd h
last_of x y xs (Struct m b k) w h = absurd h

leaf_last : (x : Nested) (xs : List Nested) (l d : Nested) → AreWithin (parts_of (x ∷ xs)) → l ≡ get_or (x ∷ xs) (length xs) d → LeafIs l (parts_of (x ∷ xs))
leaf_last (Primitive m b k) [] l d w e = subst (λ y. LeafIs y (parts_of (Primitive m b k ∷ []))) (sym e) (record { mask_is = refl; optional_is = refl; count_is = refl; fits = w.0.0 })
leaf_last (ListOf list) [] l d w e = absurd (omega (arith, w.0.2))
leaf_last (LargeList list) [] l d w e = absurd (omega (arith, w.0.2))
leaf_last (Struct m b k) [] l d w e = absurd (omega (arith, w.0.2))
leaf_last x (y ∷ xs) l d w e = last_of x y xs l w (leaf_last y xs l d w.1 e)

pub last_is_leaf : (xs : List Nested) (l d : Nested) → IsInBounds (parts_of xs) → l ≡ get_or xs (length xs - 1) d → LeafIs l (parts_of xs)
last_is_leaf [] l d b e = absurd (omega (arith, b.some))
last_is_leaf (x ∷ xs) l d b e =
    let n : suc (length xs) - 1 ≡ length xs = omega arith in
    leaf_last x xs l d b.fits (e ∙ ap (λ k. get_or (x ∷ xs) k d) n)

pub last_primitive : (xs : List Nested) (l : Nested) (m : Mask) (b : Bool) (k : ℕ) → IsInBounds (parts_of xs) → l ≡ get_or xs (length xs - 1) l → l ≡ Primitive m b k → IsLast m b k (parts_of xs)
last_primitive xs l m b k h is e = subst (λ x. LeafIs x (parts_of xs)) e (last_is_leaf xs l l h is)

pub last_other : (xs : List Nested) (l : Nested) → IsInBounds (parts_of xs) → l ≡ get_or xs (length xs - 1) l → is_leaf l ≡ false → ⊥
last_other xs l h is n = by l (last_is_leaf xs l l h is) n
  where
    by : (x : Nested) → LeafIs x (parts_of xs) → is_leaf x ≡ false → ⊥
    by (Primitive m b k) i e = absurd (true≢false e)
    by (ListOf list) i e = i
    by (LargeList list) i e = i
    by (Struct m b k) i e = i

pub leaf_fits : (a : ArrayTree) (parts : List Part) (m : Mask) (b : Bool) (k : ℕ) → IsLast m b k parts → k ≡ tree_len a → (b ≡ true → KeepAlike m (mask_of a) (tree_len a)) → FitsLeaf a parts
leaf_fits a parts m b k l e h =
    record {
      count = l.count_is ∙ e;
      masks = λ o i s. ap (λ n. keeps n i) l.mask_is ∙ h (sym l.optional_is ∙ o) i s;
    }

pub fits_count : (a : ArrayTree) (parts : List Part) (m : Mask) (b : Bool) (k : ℕ) → IsLast m b k parts → FitsLeaf a parts → k ≡ tree_len a
fits_count a parts m b k l f = sym l.count_is ∙ f.count

pub fits_alike : (a : ArrayTree) (parts : List Part) (m : Mask) (b : Bool) (k : ℕ) → IsLast m b k parts → FitsLeaf a parts → b ≡ true → KeepAlike m (mask_of a) (tree_len a)
fits_alike a parts m b k l f o i s = ap (λ n. keeps n i) (sym l.mask_is) ∙ f.masks (l.optional_is ∙ o) i s

-- another mask at the last part
set_from : (x : Nested) (xs : List Nested) (m n : Mask) (b : Bool) (k : ℕ) (d : Nested) → AreWithin (parts_of (x ∷ xs)) → Primitive m b k ≡ get_or (x ∷ xs) (length xs) d
    → parts_of (set (x ∷ xs) (length xs) (Primitive n b k)) ≡ with_leaf_mask n (parts_of (x ∷ xs))
set_from x [] m n b k d w e = ap (λ p. with_leaf_mask n (part_of p ∷ [])) e
set_from (Primitive m b k) (y ∷ xs) l n c j d w e = absurd (omega (arith, w.0.1))
set_from (ListOf list) (y ∷ xs) l n c j d w e = ap (λ ps. part_of (ListOf list) ∷ ps) (set_from y xs l n c j d w.1 e)
set_from (LargeList list) (y ∷ xs) l n c j d w e = ap (λ ps. part_of (LargeList list) ∷ ps) (set_from y xs l n c j d w.1 e)
set_from (Struct m b k) (y ∷ xs) l n c j d w e = ap (λ ps. part_of (Struct m b k) ∷ ps) (set_from y xs l n c j d w.1 e)

pub set_last : (xs : List Nested) (m n : Mask) (b : Bool) (k : ℕ) (d : Nested) → IsInBounds (parts_of xs) → Primitive m b k ≡ get_or xs (length xs - 1) d
    → parts_of (set xs (length xs - 1) (Primitive n b k)) ≡ with_leaf_mask n (parts_of xs)
set_last [] m n b k d i e = absurd (omega (arith, i.some))
set_last (x ∷ xs) m n b k d i e =
    let p : suc (length xs) - 1 ≡ length xs = omega arith in
    ap (λ j. parts_of (set (x ∷ xs) j (Primitive n b k))) p ∙ set_from x xs m n b k d i.fits (e ∙ ap (λ j. get_or (x ∷ xs) j d) p)

-- ---- what is merged

mask_back : (k : Mask) (parts : List Part) → 0 < length parts → AreWithin parts → leaf_mask (with_leaf_mask k parts) ≡ k
mask_back k [] s w = absurd (omega (arith, s))
mask_back k (leaf_part b m c ∷ parts) s w = refl
mask_back k (list_part b m os ∷ parts) s w = mask_back k parts w.0.2 w.1
mask_back k (struct_part b m c ∷ parts) s w = mask_back k parts w.0.2 w.1

own_mask : (parts : List Part) → with_leaf_mask (leaf_mask parts) parts ≡ parts
own_mask [] = refl
own_mask (leaf_part b m c ∷ parts) = refl
own_mask (list_part b m os ∷ parts) = ap (λ ps. list_part b m os ∷ ps) (own_mask parts)
own_mask (struct_part b m c ∷ parts) = ap (λ ps. struct_part b m c ∷ ps) (own_mask parts)

own_fits : (parts : List Part) → AreWithin parts → MaskFits (leaf_mask parts) (leaf_count_or 0 parts)
own_fits [] w = tt
own_fits (leaf_part b m c ∷ []) w = w.0.0
own_fits (leaf_part b m c ∷ p ∷ parts) w = absurd (omega (arith, w.0.1))
own_fits (list_part b m os ∷ parts) w = own_fits parts w.1
own_fits (struct_part b m c ∷ parts) w = own_fits parts w.1

and_true : (b v : Bool) → (b ≡ true → v ≡ true) → b ≡ (b && v)
and_true true v h = sym (h refl)
and_true false v h = refl

-- the path as it is
pub merged_same : (a : ArrayTree) (parts : List Part) → IsInBounds parts → ((is_leaf_optional parts ≡ false) ⊎ (FitsLeaf a parts × IsValueMask a None)) → MergesNulls a parts parts
merged_same a parts b why =
    record {
      parts = sym (own_mask parts);
      fits = own_fits parts b.fits;
      nulls = λ o i l. by o i l why;
      required = λ r. refl;
    }
  where
    by : is_leaf_optional parts ≡ true → (i : ℕ) → i < leaf_count_or 0 parts → ((is_leaf_optional parts ≡ false) ⊎ (FitsLeaf a parts × IsValueMask a None))
        → keeps (leaf_mask parts) i ≡ (keeps (leaf_mask parts) i && is_value (leaf_slot a i))
    by o i l (inl r) = absurd (true≢false (sym o ∙ r))
    by o i l (inr p) =
        let here : i < tree_len a = omega (arith, l, p.0.count) in
        and_true (keeps (leaf_mask parts) i) (is_value (leaf_slot a i)) (λ k. p.1 i here (sym (p.0.masks o i here) ∙ k))

-- the mask of the values in place of the leaf's
pub merged_new : (a : ArrayTree) (old new : List Part) (m : List Bool) → IsInBounds old → FitsLeaf a old → is_leaf_optional old ≡ true → IsValueMask a (Some m) → new ≡ with_leaf_mask (Some m) old → MergesNulls a old new
merged_new a old new m b f o v e =
    let back : leaf_mask new ≡ Some m = ap leaf_mask e ∙ mask_back (Some m) old b.some b.fits in
    record {
      parts = e ∙ ap (λ k. with_leaf_mask k old) (sym back);
      fits = subst (λ k. MaskFits k (leaf_count_or 0 old)) (sym back) (v.0 ∙ sym f.count);
      nulls = λ p i l.
          let here : i < tree_len a = omega (arith, l, f.count) in
          ap (λ k. keeps k i) back ∙ v.1 i here ∙ ap (λ k. k && is_value (leaf_slot a i)) (sym (f.masks o i here));
      required = λ r. absurd (true≢false (sym o ∙ r));
    }
