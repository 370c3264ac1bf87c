-- The encodings that columns are written in.
use Rattle.std.proofs.Common.{◌≡◌, ◌<◌, ℕ, Bool, true, false, true≢false, List, [], ◌∷◌, length, Some, None, refl, sym, ap, ◌∙◌, arith}
use Rattle.std.proofs.lemmas.Bool.{ne_eqb}
use Rattle.levels.specs.InBounds.{IsInBounds}
use Rattle.pq_files.specs.Page.{Encoding}
use Rattle.pq_headline.specs.Columns.{ArrowColumn, is_alone, is_flat}
use Rattle.pq_tree.specs.declared.types.Encoding.{Encoding as RustEncoding}
use Rattle.columns_core.specs.Shapes.{leaf_type}
use Rattle.shredding.specs.Along.{thin}
use Rattle.shredding.specs.Parts.{Part, leaf_part, list_part, struct_part, path_way}
use Rattle.shredding.specs.Shape.{LeafType, nothing, Way, at_leaf, in_list, in_struct}
use Rattle.write_pages.specs.Entries.{Entries}
use Rattle.write_pages.specs.Fits.{is_flat_path}
use Rattle.write_pages.specs.Holds.{column_encoding, written_encoding}
use Rattle.write_groups.specs.Laid.{used_encoding, value_encoding}

-- ---- a column is flat where its path is

flat_parts : (parts : List Part) (n : Bool) → IsInBounds parts → path_way parts ≡ at_leaf n → is_flat_path parts ≡ true
flat_parts [] n h e = absurd (omega (arith, h.some))
flat_parts (leaf_part b m k ∷ []) n h e = refl
flat_parts (leaf_part b m k ∷ q ∷ qs) n h e = absurd (omega (arith, h.fits.0.1))
flat_parts (list_part b m os ∷ qs) n h e = absurd cc
flat_parts (struct_part b m k ∷ qs) n h e = absurd cc

alone_parts : (parts : List Part) (w : Way) → IsInBounds parts → path_way parts ≡ thin w → is_alone w ≡ true → is_flat_path parts ≡ true
alone_parts parts (at_leaf n) h e q = flat_parts parts n h e
alone_parts parts (in_list n w) h e q = absurd (true≢false (sym q))
alone_parts parts (in_struct n i w) h e q = absurd (true≢false (sym q))

leaf_alone : (b : Bool) (w : Way) → at_leaf b ≡ thin w → is_alone w ≡ true
leaf_alone b (at_leaf n) e = refl
leaf_alone b (in_list n w) e = absurd cc
leaf_alone b (in_struct n i w) e = absurd cc

beneath_parts : (p : Part) (qs : List Part) → 0 < length qs → is_flat_path (p ∷ qs) ≡ false
beneath_parts p [] h = absurd (omega (arith, h))
beneath_parts p (q ∷ qs) h = ne_eqb (length (p ∷ q ∷ qs)) 1 (λ e. omega (arith, e))

nested_parts : (parts : List Part) (w : Way) → IsInBounds parts → path_way parts ≡ thin w → is_alone w ≡ false → is_flat_path parts ≡ false
nested_parts [] w h e q = absurd (omega (arith, h.some))
nested_parts (leaf_part b m k ∷ qs) w h e q = absurd (true≢false (sym (leaf_alone b w e) ∙ q))
nested_parts (list_part b m os ∷ qs) w h e q = beneath_parts (list_part b m os) qs h.fits.0.2
nested_parts (struct_part b m k ∷ qs) w h e q = beneath_parts (struct_part b m k) qs h.fits.0.2

flat_is : (c : ArrowColumn) (parts : List Part) (i : ℕ) (w : Way) → IsInBounds parts → path_way parts ≡ thin w → c.way ≡ in_struct false i w → is_flat_path parts ≡ is_flat c
flat_is c parts i w well seen way = by (is_alone w) refl ∙ sym alone
  where
    alone : is_flat c ≡ is_alone w
    alone = ap (λ (v : Way). is_flat (record { way = v; limits = c.limits; data_type = c.data_type })) way

    by : (b : Bool) → is_alone w ≡ b → is_flat_path parts ≡ is_alone w
    by true q = alone_parts parts w well seen q ∙ sym q
    by false q = nested_parts parts w well seen q ∙ sym q

-- ---- what is asked for

values_are : (t : LeafType) (parts : List Part) (e : RustEncoding) → value_encoding t (is_flat_path parts) e ≡ written_encoding t parts e
values_are nothing parts e = refl
values_are t parts e = refl

pub used_is : (c : ArrowColumn) (d : Entries) (e : RustEncoding) (x : Encoding) (parts : List Part) (t : LeafType) (i : ℕ) (w : Way)
    → column_encoding d t parts e ≡ Some x → t ≡ leaf_type c.data_type → c.way ≡ in_struct false i w → path_way parts ≡ thin w → IsInBounds parts → used_encoding c d e ≡ Some x
used_is c None e x parts t i w h kind way seen well =
    let flat : is_flat_path parts ≡ is_flat c = flat_is c parts i w well seen way in
    let same : value_encoding t (is_flat_path parts) e ≡ value_encoding (leaf_type c.data_type) (is_flat c) e = λ j. value_encoding (kind j) (flat j) e in
    sym same ∙ (values_are t parts e ∙ h)
used_is c (Some es) e x parts t i w h kind way seen well = h
