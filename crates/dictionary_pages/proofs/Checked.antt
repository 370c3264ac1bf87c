-- Keys that number entries.
use Rattle.std.proofs.Common.{◌≡◌, ℕ, Bool, true, false, true≢false, ◌&&◌, List, [], ◌∷◌, ◌++◌, refl, ap, sym, subst, ◌∙◌, All}
use Rattle.std.specs.Prelude.{◌↔◌, IsTrue, not}
use Rattle.std.specs.List.{AllByRecursion as Each}
use Rattle.std.proofs.lemmas.List.Elements.{All-push, recursion_from_All}
use Rattle.shredding.specs.Along.{IsAlong}
use Rattle.shredding.specs.Parts.{Part, IsPath, path_slots, path_way}
use Rattle.shredding.specs.Shape.{IsInRange, at_leaf}
use Rattle.shredding.specs.Slot.{Slot, null, value, items, fields}
use Rattle.columns_core.specs.Shapes.{base, leaf_type}
use Rattle.columns_slots.specs.Slots.{IsSound, child_of, type_of}
use Rattle.columns_slots.specs.Tree.{ArrayTree}
use Rattle.nested_paths.specs.LeafNulls.{is_value, value_in}
use Rattle.nested_paths.specs.PathLeaf.{is_leaf_optional}
use Rattle.nested_paths.specs.Seen.{leaf_slot}
use Rattle.pq_tree.specs.Physical.{Physical}
use Rattle.write_places.specs.Places.{path_places}
use Rattle.dictionary_pages.specs.Entries.{is_entry}
use Rattle.dictionary_pages.specs.Keys.{AreKeyed, AreRowsOf, IsKeyed}
use Rattle.dictionary_pages.specs.Taken.{Checks, back-all, front-all}
use Rattle.dictionary_pages.proofs.Named.{Over, has_value_here, named_in_range}
use Rattle.dictionary_pages.proofs.SeenPaths.{value_or_null}
use Rattle.dictionary_pages.proofs.RowsOf.{Gives, rows_along, rows_give_values}

-- ---- one key after another

both_true : (a b : Bool) → IsTrue (a && b) → IsTrue a × IsTrue b
both_true true true h = (refl, refl)
both_true true false h = absurd (true≢false (sym h))
both_true false b h = absurd (true≢false (sym h))

true_both : (a b : Bool) → IsTrue a → IsTrue b → IsTrue (a && b)
true_both true true h k = refl
true_both true false h k = absurd (true≢false (sym k))
true_both false b h k = absurd (true≢false (sym h))

pub checks_more : (P : ℕ → Type 0) (places : List ℕ) (i : ℕ) (old mid new k : Bool) → new ≡ (mid && k) → (IsTrue k ↔ P i) → Checks P places old mid → Checks P (places ++ (i ∷ [])) old new
checks_more P places i old mid new k e h c = (
  λ t. let b = both_true mid k (sym e ∙ t) in let before = c.0 b.0 in (before.0, All-push P places i before.1 (h.0 b.1)),
  λ t. e ∙ true_both mid k (c.1 (t.0, front-all P places (i ∷ []) t.1)) (h.1 (recursion_from_All P (i ∷ []) (back-all P places (i ∷ []) t.1)).0),
)

-- ---- the rows of a path whose keys number entries

optional_along : (s : Slot) → is_value s ≡ true → (b : Bool) → IsAlong (at_leaf b) s
optional_along null h b = absurd (true≢false (sym h))
optional_along (value v) h b = tt
optional_along (items ss) h b = absurd (true≢false (sym h))
optional_along (fields ss) h b = absurd (true≢false (sym h))

module _ (a : ArrayTree) (o : Over a) (p : Physical) (sound : IsSound a) (are : is_entry (base (type_of (child_of a))) p ≡ true) where
  there : (b : Bool) (i : ℕ) → IsKeyed b a i → IsAlong (at_leaf b) (leaf_slot a i)
  there b i k = by b (is_value (leaf_slot a i)) refl k
    where
      by : (b q : Bool) → is_value (leaf_slot a i) ≡ q → IsKeyed b a i → IsAlong (at_leaf b) (leaf_slot a i)
      by b true e k = optional_along (leaf_slot a i) e b
      by true false e k = subst (IsAlong (at_leaf true)) (sym (value_or_null a i e)) refl
      by false false e k = absurd (true≢false (sym (has_value_here a o i ∙ ap not (k.2 refl)) ∙ e))

  gives : (b : Bool) (i : ℕ) → IsKeyed b a i → Gives (leaf_slot a) (IsInRange (leaf_type (type_of a))) i
  gives b i k = λ v e. subst (IsInRange (leaf_type (type_of a))) (ap value_in e) (named_in_range a o p sound are i (k.1, ap is_value e))

  each_weaker : (P Q : ℕ → Type 0) → ((i : ℕ) → P i → Q i) → (xs : List ℕ) → Each P xs → Each Q xs
  each_weaker P Q f [] h = tt
  each_weaker P Q f (x ∷ xs) h = (f x h.0, each_weaker P Q f xs h.1)

  pub keyed_rows : (parts : List Part) → IsPath parts → AreKeyed a parts → AreRowsOf (leaf_type (type_of a)) (path_way parts) (path_slots (leaf_slot a) parts)
  keyed_rows parts well keyed =
      let b = is_leaf_optional parts in
      let places = path_places parts in
      let each = recursion_from_All (IsKeyed b a) places keyed in
      record {
        along = rows_along (leaf_slot a) parts well (each_weaker (IsKeyed b a) (λ i. IsAlong (at_leaf b) (leaf_slot a i)) (there b) places each);
        in_range = rows_give_values (leaf_slot a) (IsInRange (leaf_type (type_of a))) parts (each_weaker (IsKeyed b a) (Gives (leaf_slot a) (IsInRange (leaf_type (type_of a)))) (gives b) places each);
      }

-- one after another from nothing on
pub all_checked : (P : ℕ → Type 0) (places : List ℕ) (b : Bool) → Checks P places true b → IsTrue b ↔ All P places
all_checked P places b c = (λ t. (c.0 t).1, λ h. c.1 (refl, h))
