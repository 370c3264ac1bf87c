-- What the pages of a dictionary hold.
use Rattle.std.proofs.Common.{◌≡◌, ◌∙◌, ◌⊎◌, ◌↔◌, ◌<◌, ◌≤◌, inl, inr, ℕ, Bool, true, false, true≢false, Option, Some, None, List, [], ◌∷◌, length, map, refl, sym, ap, subst, arith}
use Rattle.std.specs.Prelude.{Result, Ok, Err, IfOk, IfErr}
use Rattle.std.proofs.lemmas.Bool.{cases_lt}
use Rattle.shredding.specs.Cut.{cut as pieces_of}
use Rattle.shredding.specs.Shape.{LeafType, Way}
use Rattle.shredding.specs.Shred.{column, max_repetition, max_definition}
use Rattle.shredding.specs.Slot.{Slot, Value}
use Rattle.columns_base.specs.declared.error.Error.{Error}
use Rattle.columns_base.specs.declared.error.Error.TheVariants.{Memory, NotYetImplemented, Overflow}
use Rattle.columns_base.specs.declared.error.N.TheVariants.{N5}
use Rattle.columns_base.specs.declared.error.V.TheVariants.{V3}
use Rattle.columns_core.specs.Shapes.{base, leaf_type}
use Rattle.columns_entries.specs.Entries.{entries_of}
use Rattle.columns_slots.specs.Slots.{IsSound, child_of, keys_in, mask_of, type_of}
use Rattle.columns_slots.specs.Tree.{ArrayTree}
use Rattle.pq_tree.specs.declared.types.PrimitiveType.{PrimitiveType}
use Rattle.pq_tree.specs.Physical.{Physical}
use Rattle.pq_tree.specs.Reads.{ComesWhere}
use Rattle.pq_tree.specs.TreeViews.{leaf_view}
use Rattle.pq_files.specs.Layout.{AreStoredEntries, plain_length}
use Rattle.pq_files.specs.Page.{dictionary}
use Rattle.pq_files.specs.Room.{room, max_size}
use Rattle.pq_pages.specs.DataPages.{DataPageValue}
use Rattle.pq_pages.specs.Denotes.{Denotes, IsDictFor}
use Rattle.pq_pages.specs.declared.page.DictPage.{DictPage}
use Rattle.dictionary_pages.specs.Entries.{AreTooLarge, is_entry, stored_entries, stored_entry}
use Rattle.dictionary_pages.specs.Pages.{HoldsIndices, IsColumnPastRoom, IsPastRoom}
use Rattle.dictionary_pages.proofs.EntriesStored.{entries_stored}
use Rattle.dictionary_pages.proofs.Named.{same_type}
use Rattle.write_pages.specs.declared.options.WriteOptions.{WriteOptions}
use Rattle.write_pages.specs.Entries.{IsDictionaryPastRoom, owes_page}
use Rattle.write_pages.specs.Holds.{HoldsRows, piece_owed}
use Rattle.write_pages.specs.Refused.{HoldsEntries}
use Rattle.write_pages.proofs.KeyedArrays.{IsKeyed}
use Rattle.write_pages.proofs.PageRows.{form_of}

-- values have the type of the entries
kinds : (a : ArrayTree) → IsKeyed a → IsSound a → leaf_type (type_of (child_of a)) ≡ leaf_type (type_of a)
kinds a is sound = sym (same_type (type_of a) (keys_in a) (child_of a) (mask_of a) (subst IsSound is sound))

-- what stands for the entries
pub stored_is : (a : ArrayTree) (p : Physical) → IsKeyed a → IsSound a → stored_entries (child_of a) p ≡ map (stored_entry (leaf_type (type_of a)) p) (entries_of (child_of a))
stored_is a p is sound = ap (λ (t : LeafType). map (stored_entry t p) (entries_of (child_of a))) (kinds a is sound)

-- its entries are what is stored for those of the array
pub entries_are : (a : ArrayTree) (p : Physical) → IsKeyed a → IsSound a → is_entry (base (type_of (child_of a))) p ≡ true → AreStoredEntries (leaf_type (type_of a)) p (Some (entries_of (child_of a))) (Some (map (stored_entry (leaf_type (type_of a)) p) (entries_of (child_of a))))
entries_are a p is sound are =
    subst (λ (t : LeafType). AreStoredEntries t p (Some (entries_of (child_of a))) (Some (map (stored_entry t p) (entries_of (child_of a))))) (kinds a is sound) (entries_stored (child_of a) p (subst IsSound is sound).1 are)

-- ---- the dictionary page

not_past : (n : ℕ) → ¬ (max_size < n) → n ≤ max_size
not_past n h = elim (cases_lt max_size n) [ inl l ↦ absurd (h l) | inr m ↦ m ]

module _ (a : ArrayTree) (p : Physical) (is : IsKeyed a) (sound : IsSound a) (are : is_entry (base (type_of (child_of a))) p ≡ true) where
  abbrev es : List (Option Value)
  es = entries_of (child_of a)

  abbrev t : LeafType
  t = leaf_type (type_of a)

  pub dictionary_held : (r : Result DictPage Error) → IfOk r (IsDictFor p (stored_entries (child_of a) p)) → ComesWhere (Overflow V3) ((is_entry (base (type_of (child_of a))) p ≡ true) × AreTooLarge p (stored_entries (child_of a) p)) r → IfOk r (HoldsEntries t p es)
  dictionary_held (Ok page) h n = record {
    is = subst (λ (vs : List Value). IsDictFor p vs page) (stored_is a p is sound) h;
    within = subst (λ (vs : List Value). room (length vs) (plain_length p vs) ≤ max_size) (stored_is a p is sound) (not_past _ (λ l. n (are, l)));
  }
  dictionary_held (Err e) h n = h

  past_dictionary : AreTooLarge p (stored_entries (child_of a) p) → IsDictionaryPastRoom t p (Some es)
  past_dictionary h = subst (AreTooLarge p) (stored_is a p is sound) h

  -- entries of the type are written, so that nothing but the room is in the way
  no_other : (e : Error) (C : Type 0) → (e ≡ Memory) ⊎ ((e ≡ NotYetImplemented N5) ↔ (is_entry (base (type_of (child_of a))) p ≡ false)) → (e ≡ Memory) ⊎ ((e ≡ Overflow V3) ↔ ((is_entry (base (type_of (child_of a))) p ≡ true) × C)) → (e ≡ Memory) ⊎ (e ≡ NotYetImplemented N5) ⊎ (e ≡ Overflow V3) → (e ≡ Memory) ⊎ ((e ≡ Overflow V3) × C)
  no_other e C (inl m) l k = inl m
  no_other e C (inr u) (inl m) k = inl m
  no_other e C (inr u) (inr l) (inl m) = inl m
  no_other e C (inr u) (inr l) (inr (inl n)) = absurd (true≢false (sym are ∙ u.0 n))
  no_other e C (inr u) (inr l) (inr (inr v)) = inr (v, (l.0 v).1)

  pub dictionary_past : (r : Result DictPage Error) → ComesWhere (NotYetImplemented N5) (is_entry (base (type_of (child_of a))) p ≡ false) r → ComesWhere (Overflow V3) ((is_entry (base (type_of (child_of a))) p ≡ true) × AreTooLarge p (stored_entries (child_of a) p)) r → IfErr r (λ e. (e ≡ Memory) ⊎ (e ≡ NotYetImplemented N5) ⊎ (e ≡ Overflow V3)) → IfErr r (λ e. (e ≡ Memory) ⊎ ((e ≡ Overflow V3) × IsDictionaryPastRoom t p (Some es)))
  dictionary_past (Ok page) u l k = k
  dictionary_past (Err e) u l k = elim (no_other e (AreTooLarge p (stored_entries (child_of a) p)) u l k) [ inl m ↦ inl m | inr v ↦ inr (v.0, past_dictionary v.1) ]

  -- ---- the data page

  module _ (w : Way) (rows : List Slot) where
    pub index_held : (o : WriteOptions) (type_ other : PrimitiveType) (page : DataPageValue) → leaf_view other ≡ leaf_view type_ → HoldsIndices (form_of o false) t p w es (stored_entries (child_of a) p) rows other page → HoldsRows o dictionary t (leaf_view type_) p w (Some es) rows page
    index_held o type_ other page same h = record {
      out = h.out;
      denotes = subst (λ (vs : List Value). Denotes o.version p (max_repetition w) (max_definition w) (Some vs) h.out page) (stored_is a p is sound) h.denotes;
      triples = h.triples;
      have_bytes = h.have_bytes;
      encoding = h.encoding;
      statistics = h.statistics;
      exact = h.exact;
      within = h.within;
      about = ap leaf_view h.about ∙ same;
      repeats = h.repeats;
      defines = h.defines;
    }

    pub index_past : (e : Error) → (e ≡ Memory) ⊎ ((e ≡ NotYetImplemented N5) ↔ (is_entry (base (type_of (child_of a))) p ≡ false)) → (e ≡ Memory) ⊎ ((e ≡ Overflow V3) ↔ ((is_entry (base (type_of (child_of a))) p ≡ true) × IsColumnPastRoom t p (stored_entries (child_of a) p) (column w rows))) → (e ≡ Memory) ⊎ (e ≡ NotYetImplemented N5) ⊎ (e ≡ Overflow V3) → (e ≡ Memory) ⊎ ((e ≡ Overflow V3) × (IsDictionaryPastRoom t p (Some es) ⊎ IsPastRoom t p (column w rows)))
    index_past e u l k =
        elim (no_other e (IsColumnPastRoom t p (stored_entries (child_of a) p) (column w rows)) u l k) [
          | inl m ↦ inl m
          | inr v ↦ inr (v.0, elim v.1 [ inl d ↦ inl (past_dictionary d) | inr r ↦ inr r ])
        ]

-- ---- which pages are to come

pub owed : (xs : List (Option Value)) (rows : List Slot) (b : Bool) → b ≡ owes_page (Some xs) rows → piece_owed b rows ≡ pieces_of rows None
owed xs [] true e = absurd (true≢false e)
owed xs [] false e = refl
owed xs (row ∷ rows) true e = refl
owed xs (row ∷ rows) false e = absurd (true≢false (sym e))

pub owes : (xs : List (Option Value)) (rows : List Slot) (b : Bool) → (b ≡ true → 0 < length rows) → (b ≡ false → length rows ≤ 0) → b ≡ owes_page (Some xs) rows
owes xs [] true some none = absurd (omega (arith, some refl))
owes xs [] false some none = refl
owes xs (row ∷ rows) true some none = refl
owes xs (row ∷ rows) false some none = absurd (omega (arith, none refl))
