-- The leaf of a path.
use Rattle.std.proofs.Common.{◌≡◌, ◌<◌, ◌≤◌, List, [], ◌∷◌, drop, length, refl, sym, subst, ◌∙◌, arith}
use Rattle.columns_slots.specs.Slots.{mask_of}
use Rattle.columns_slots.specs.Tree.{ArrayTree, Mask}
use Rattle.leaf_pages.specs.PathLeaf.{HasSameLeaf}
use Rattle.levels.specs.InBounds.{IsInBounds}
use Rattle.levels.specs.Nested.{parts_of}
use Rattle.levels.specs.declared.nested.Nested.{Nested}
use Rattle.levels.specs.declared.nested.Nested.TheVariants.{Primitive, List as ListOf, LargeList, Struct}
use Rattle.nested_paths.specs.PathLeaf.{FitsLeaf}
use Rattle.shredding.specs.Parts.{IsPath, Part, keeps}

pub itself : (parts : List Part) → HasSameLeaf parts parts
itself parts = record { count = refl; optional = refl; mask = refl }

pub further : (parts middle leaf : List Part) → HasSameLeaf parts middle → HasSameLeaf middle leaf → HasSameLeaf parts leaf
further parts middle leaf h k = record { count = k.count ∙ h.count; optional = k.optional ∙ h.optional; mask = k.mask ∙ h.mask }

-- the parts beneath the first one
pub beneath_path : (xs : List Nested) → 1 < length xs → IsPath (parts_of xs) → IsPath (parts_of (drop 1 xs))
beneath_path [] n h = absurd (omega (arith, n))
beneath_path (x ∷ []) n h = absurd (omega (arith, n))
beneath_path (x ∷ y ∷ xs) n h = record { some = omega arith; fits = h.fits.1 }

pub beneath_leaf : (xs : List Nested) → 1 < length xs → IsPath (parts_of xs) → HasSameLeaf (parts_of xs) (parts_of (drop 1 xs))
beneath_leaf [] n h = absurd (omega (arith, n))
beneath_leaf (x ∷ []) n h = absurd (omega (arith, n))
beneath_leaf (Primitive m b k ∷ y ∷ xs) n h = absurd (omega (arith, h.fits.0.1))
beneath_leaf (ListOf list ∷ y ∷ xs) n h = record { count = refl; optional = refl; mask = refl }
beneath_leaf (LargeList list ∷ y ∷ xs) n h = record { count = refl; optional = refl; mask = refl }
beneath_leaf (Struct m b k ∷ y ∷ xs) n h = record { count = refl; optional = refl; mask = refl }

-- a leaf alone is in bounds
pub alone : (xs : List Nested) → length xs ≤ 1 → IsPath (parts_of xs) → IsInBounds (parts_of xs)
alone [] n h = absurd (omega (arith, h.some))
alone (x ∷ y ∷ xs) n h = absurd (omega (arith, n))
alone (Primitive m b k ∷ []) n h = record { some = omega arith; fits = ((h.fits.0.0, refl), tt) }
alone (ListOf list ∷ []) n h = absurd (omega (arith, h.fits.0.2))
alone (LargeList list ∷ []) n h = absurd (omega (arith, h.fits.0.2))
alone (Struct m b k ∷ []) n h = absurd (omega (arith, h.fits.0.2))

-- the array of the one is that of the other
pub fits_above : (a : ArrayTree) (parts leaf : List Part) → HasSameLeaf parts leaf → FitsLeaf a leaf → FitsLeaf a parts
fits_above a parts leaf h f = record {
  count = sym h.count ∙ f.count;
  masks = λ o i n. subst (λ (m : Mask). keeps m i ≡ keeps (mask_of a) i) h.mask (f.masks (h.optional ∙ o) i n);
}

pub fits_beneath : (a : ArrayTree) (parts leaf : List Part) → HasSameLeaf parts leaf → FitsLeaf a parts → FitsLeaf a leaf
fits_beneath a parts leaf h f = record {
  count = h.count ∙ f.count;
  masks = λ o i n. subst (λ (m : Mask). keeps m i ≡ keeps (mask_of a) i) (sym h.mask) (f.masks (sym h.optional ∙ o) i n);
}
