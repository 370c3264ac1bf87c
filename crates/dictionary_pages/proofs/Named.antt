-- The entries of a dictionary that its keys name.
use Rattle.std.proofs.Common.{◌≡◌, ◌≢◌, ◌⊎◌, inl, inr, ℕ, zero, suc, ◌+◌, ◌<◌, ◌≤◌, Bool, true, false, true≢false, cond, List, length, map, Some, None, Option, refl, ap, sym, subst, ◌∙◌, arith}
use Rattle.std.specs.Prelude.{ℤ, not, slice_get}
use Rattle.std.proofs.lemmas.Bool.{cases_lt}
use Rattle.std.proofs.lemmas.List.{get_or_past}
use Rattle.std.proofs.lemmas.List.Elements.{All-get_or}
use Rattle.shredding.specs.Along.{along}
use Rattle.shredding.specs.Parts.{MaskFits, keeps, slots_from}
use Rattle.shredding.specs.Shape.{LeafType, nothing, truths, text, binary, signed, unsigned, fixed_bytes, decimal, months, days, IsInRange, at_leaf}
use Rattle.shredding.specs.Slot.{Slot, Value, truth, null, value}
use Rattle.columns_core.specs.Shapes.{base, leaf_type}
use Rattle.columns_core.specs.Tree.{TypeTree, t_dictionary}
use Rattle.columns_entries.specs.Entries.{entry_value, entries_of}
use Rattle.columns_slots.specs.Slots.{IsSound, child_of, entry_at, is_null, keys_in, leaf_at, mask_of, slot_at, tree_len, type_of}
use Rattle.columns_slots.specs.Tree.{Mask, ArrayTree, null_array, leaf_array, list_array, fixed_list_array, struct_array, dictionary_array}
use Rattle.columns_slots.specs.Types.{entry_type}
use Rattle.nested_paths.specs.LeafNulls.{is_value, value_at, value_in}
use Rattle.nested_paths.specs.Seen.{leaf_slot}
use Rattle.nested_paths.specs.ValueMasks.{is_valued}
use Rattle.pq_tree.specs.Physical.{Physical}
use Rattle.pq_files.specs.Stored.{IsStored}
use Rattle.write_values.specs.Stored.{stored_value, stored_at}
use Rattle.write_values.proofs.ServedTypes.{IsHeld, leaf_base, no_others, served_stored}
use Rattle.dictionary_pages.specs.Entries.{is_entry, stored_entry, stored_entries}
use Rattle.dictionary_pages.specs.Leaves.{NamesValue}
use Rattle.dictionary_pages.proofs.EntryTypes.{entry_kind, entry_served, is_entry_kind, kind_no_decimal, kind_no_truth, null_entries}

-- what is no decimal is held
not_decimal : (t : LeafType) (p : Physical) (v : Value) → t ≢ decimal → IsHeld t p v
not_decimal nothing p v n = tt
not_decimal truths p v n = tt
not_decimal text p v n = tt
not_decimal binary p v n = tt
not_decimal (signed w) p v n = tt
not_decimal (unsigned w) p v n = tt
not_decimal (fixed_bytes k) p v n = tt
not_decimal decimal p v n = absurd (n refl)
not_decimal months p v n = tt
not_decimal days p v n = tt

-- ---- lists of entries

entry_in : {A : Type 0} (f : Option Value → A) (at : ℕ → Slot) (from n i : ℕ) → i < n → slice_get (map f (map entry_value (slots_from at from n))) i ≡ Some (f (entry_value (at (from + i))))
unfolding slots_from
entry_in f at from zero i h = absurd (omega (arith, h))
entry_in f at from (suc n) zero h = let e : from ≡ from + zero = omega arith in ap (λ j. Some (f (entry_value (at j)))) e
entry_in f at from (suc n) (suc i) h = let e : from + 1 + i ≡ from + suc i = omega arith in entry_in f at (from + 1) n i (omega (arith, h)) ∙ ap (λ j. Some (f (entry_value (at j)))) e

pub stored_in : (c : ArrayTree) (p : Physical) (e : ℕ) → e < tree_len c → slice_get (stored_entries c p) e ≡ Some (stored_entry (leaf_type (type_of c)) p (entry_value (slot_at c e)))
stored_in c p e h = let z : 0 + e ≡ e = omega arith in entry_in (stored_entry (leaf_type (type_of c)) p) (slot_at c) 0 (tree_len c) e h ∙ ap (λ j. Some (stored_entry (leaf_type (type_of c)) p (entry_value (slot_at c j)))) z

entry_count : {A : Type 0} (f : Option Value → A) (at : ℕ → Slot) (from n : ℕ) → length (map f (map entry_value (slots_from at from n))) ≡ n
unfolding slots_from
entry_count f at from zero = refl
entry_count f at from (suc n) = ap suc (entry_count f at (from + 1) n)

pub stored_count : (c : ArrayTree) (p : Physical) → length (stored_entries c p) ≡ tree_len c
stored_count c p = entry_count (stored_entry (leaf_type (type_of c)) p) (slot_at c) 0 (tree_len c)

slot_count_is : (at : ℕ → Slot) (from n : ℕ) → length (map entry_value (slots_from at from n)) ≡ n
unfolding slots_from
slot_count_is at from zero = refl
slot_count_is at from (suc n) = ap suc (slot_count_is at (from + 1) n)

pub entries_count : (c : ArrayTree) → length (entries_of c) ≡ tree_len c
entries_count c = slot_count_is (slot_at c) 0 (tree_len c)

-- ---- entries that are written

-- they have a value each, nulls aside
pub entries_valued : (c : ArrayTree) (p : Physical) → IsSound c → is_entry (base (type_of c)) p ≡ true → is_valued c ≡ true
entries_valued (leaf_array t vs m) p s e = refl
entries_valued (null_array t n) p s e = absurd (true≢false (sym e ∙ null_entries (base t) p s))
entries_valued (list_array t os c m) p s e = absurd (true≢false (sym (entry_served (base t) p e) ∙ no_others (list_array t os c m) p refl s))
entries_valued (fixed_list_array t w n c m) p s e = absurd (true≢false (sym (entry_served (base t) p e) ∙ no_others (fixed_list_array t w n c m) p refl s))
entries_valued (struct_array t cs m) p s e = absurd (true≢false (sym (entry_served (base t) p e) ∙ no_others (struct_array t cs m) p refl s))
entries_valued (dictionary_array t ks c m) p s e = absurd (true≢false (sym (entry_served (base t) p e) ∙ no_others (dictionary_array t ks c m) p refl s))

pub kind_of : (c : ArrayTree) (p : Physical) → is_entry (base (type_of c)) p ≡ true → is_entry_kind (leaf_type (type_of c)) ≡ true
kind_of c p e = subst (λ (k : LeafType). is_entry_kind k ≡ true) (leaf_base (type_of c)) (entry_kind (base (type_of c)) p e)

-- what is stored for one of them
pub value_stored : (u : TypeTree) (vs : List Value) (n : Mask) (p : Physical) → IsSound (leaf_array u vs n) → is_entry (base u) p ≡ true → (i : ℕ) → i < length vs → IsStored (leaf_type u) p (leaf_at vs i) (stored_value (leaf_type u) p (leaf_at vs i))
value_stored u vs n p sound are i h =
    let k = kind_no_decimal (leaf_type u) (kind_of (leaf_array u vs n) p are) in
    let held : IsHeld (leaf_type (base u)) p (leaf_at vs i) = not_decimal (leaf_type (base u)) p (leaf_at vs i) (λ e. k (sym (leaf_base u) ∙ e)) in
    subst (λ (t : LeafType). IsStored t p (leaf_at vs i) (stored_value t p (leaf_at vs i))) (leaf_base u) (served_stored (base u) p (leaf_at vs i) (entry_served (base u) p are) (All-get_or (IsInRange (leaf_type (base u))) vs i (truth false) h sound.2) held)

-- the type of the values is that of the entries
abbrev type_or : TypeTree → Option TypeTree → TypeTree
type_or t None = t
type_or t (Some u) = u

dictionary_type : (t u : TypeTree) → entry_type t ≡ Some u → leaf_type t ≡ leaf_type u
dictionary_type (t_dictionary k v s) u e = ap (λ (o : Option TypeTree). leaf_type (type_or v o)) e
dictionary_type t u e = absurd cc

pub same_type : (t : TypeTree) (ks : List ℤ) (c : ArrayTree) (m : Mask) → IsSound (dictionary_array t ks c m) → leaf_type t ≡ leaf_type (type_of c)
same_type t ks c m s = sym (leaf_base t) ∙ dictionary_type (base t) (type_of c) s.2

-- ---- the entry of a key

along_is : (v : Value) (b : Bool) → along (at_leaf true) (cond b (value v) null) ≡ cond b (value v) null
unfolding along
along_is v true = refl
along_is v false = refl

value_cond : (v : Value) (b : Bool) → is_value (cond b (value v) null) ≡ b
value_cond v true = refl
value_cond v false = refl

null_cond : (v : Value) (b : Bool) → is_null (cond b (value v) null) ≡ not b
null_cond v true = refl
null_cond v false = refl

-- a dictionary over values
pub record Over (a : ArrayTree) : Type 0 where
  pub t : TypeTree
  pub ks : List ℤ
  pub u : TypeTree
  pub vs : List Value
  pub n : Mask
  pub m : Mask
  pub is : a ≡ dictionary_array t ks (leaf_array u vs n) m

pub over : (a : ArrayTree) → a ≡ dictionary_array (type_of a) (keys_in a) (child_of a) (mask_of a) → is_valued (child_of a) ≡ true → Over a
over a e v = by (child_of a) e v
  where
    by : (c : ArrayTree) → a ≡ dictionary_array (type_of a) (keys_in a) c (mask_of a) → is_valued c ≡ true → Over a
    by (leaf_array u vs n) e v = record { t = type_of a; ks = keys_in a; u = u; vs = vs; n = n; m = mask_of a; is = e }
    by (null_array u k) e v = absurd (true≢false (sym v))
    by (list_array u os c n) e v = absurd (true≢false (sym v))
    by (fixed_list_array u w k c n) e v = absurd (true≢false (sym v))
    by (struct_array u cs n) e v = absurd (true≢false (sym v))
    by (dictionary_array u ks c n) e v = absurd (true≢false (sym v))

-- ---- the array

pub child_sound : (a : ArrayTree) → a ≡ dictionary_array (type_of a) (keys_in a) (child_of a) (mask_of a) → IsSound a → IsSound (child_of a)
child_sound a e s = (subst IsSound e s).1

pub over_entries : (a : ArrayTree) (p : Physical) → a ≡ dictionary_array (type_of a) (keys_in a) (child_of a) (mask_of a) → IsSound a → is_entry (base (type_of (child_of a))) p ≡ true → Over a
over_entries a p e s are = over a e (entries_valued (child_of a) p (child_sound a e s) are)

module _ (t : TypeTree) (ks : List ℤ) (u : TypeTree) (vs : List Value) (n m : Mask) where
  abbrev c : ArrayTree
  c = leaf_array u vs n

  abbrev a : ArrayTree
  a = dictionary_array t ks c m

  abbrev entry : ℕ → ℕ
  entry i = entry_at ks i

  abbrev at : ℕ → Value
  at i = leaf_at vs (entry i)

  slot_is : (i : ℕ) → leaf_slot a i ≡ cond (keeps n (entry i)) (value (at i)) null
  slot_is i = along_is (at i) (keeps n (entry i))

  kept : (i : ℕ) → is_value (leaf_slot a i) ≡ keeps n (entry i)
  kept i = ap is_value (slot_is i) ∙ value_cond (at i) (keeps n (entry i))

  -- a key names a value exactly where its entry is not null, or there is none
  here : (i : ℕ) → is_value (leaf_slot a i) ≡ not (is_null (slot_at c (entry i)))
  here i = kept i ∙ (twice (keeps n (entry i)) ∙ ap not (sym (null_cond (at i) (keeps n (entry i)))))
    where
      twice : (b : Bool) → b ≡ not (not b)
      twice true = refl
      twice false = refl

  past : (i : ℕ) → MaskFits n (length vs) → length vs ≤ entry i → is_value (leaf_slot a i) ≡ true
  past i f h = kept i ∙ by n f
    where
      by : (k : Mask) → MaskFits k (length vs) → keeps k (entry i) ≡ true
      by None f = refl
      by (Some bits) f = get_or_past bits (entry i) true (omega (arith, f, h))

  value_is : (i : ℕ) → is_value (leaf_slot a i) ≡ true → value_at a i ≡ at i
  value_is i h = ap value_in (slot_is i ∙ ap (λ (b : Bool). cond b (value (at i)) null) (sym (kept i) ∙ h))

  child_slot : (i : ℕ) → is_value (leaf_slot a i) ≡ true → slot_at c (entry i) ≡ value (at i)
  child_slot i h = ap (λ (b : Bool). cond b (value (at i)) null) (sym (kept i) ∙ h)

  module _ (p : Physical) (sound : IsSound a) (are : is_entry (base u) p ≡ true) where
    kinds : leaf_type t ≡ leaf_type u
    kinds = same_type t ks c m sound

    -- a key that names a value of the type numbers an entry
    below : (i : ℕ) → is_value (leaf_slot a i) ≡ true → IsInRange (leaf_type t) (value_at a i) → entry i < length vs
    below i h r = by (cases_lt (entry i) (length vs))
      where
        by : (entry i < length vs) ⊎ (length vs ≤ entry i) → entry i < length vs
        by (inl l) = l
        by (inr l) =
            let none : value_at a i ≡ truth false = value_is i h ∙ get_or_past vs (entry i) (truth false) l in
            absurd (kind_no_truth (leaf_type u) false (kind_of c p are) (subst (λ (k : LeafType). IsInRange k (truth false)) kinds (subst (IsInRange (leaf_type t)) none r)))

    in_range : (i : ℕ) → entry i < length vs → IsInRange (leaf_type u) (at i)
    in_range i h = subst (λ (k : LeafType). IsInRange k (at i)) (leaf_base u) (All-get_or (IsInRange (leaf_type (base u))) vs (entry i) (truth false) h sound.1.2)

    stored_is : (i : ℕ) → is_value (leaf_slot a i) ≡ true → stored_at a p i ≡ stored_at c p (entry i)
    stored_is i h = ap (stored_value (leaf_type t) p) (value_is i h) ∙ ap (λ (k : LeafType). stored_value k p (at i)) kinds

    entry_is : (i : ℕ) → is_value (leaf_slot a i) ≡ true → entry i < length vs → slice_get (stored_entries c p) (entry i) ≡ Some (stored_at a p i)
    entry_is i h l = stored_in c p (entry i) l ∙ (ap (λ (s : Slot). Some (stored_entry (leaf_type u) p (entry_value s))) (child_slot i h) ∙ ap Some (sym (stored_is i h)))

    is_stored : (i : ℕ) → is_value (leaf_slot a i) ≡ true → entry i < length vs → IsStored (leaf_type t) p (value_at a i) (stored_at a p i)
    is_stored i h l =
        let own : IsStored (leaf_type u) p (at i) (stored_at c p (entry i)) = value_stored u vs n p sound.1 are (entry i) l in
        subst (λ (v : Value). IsStored (leaf_type t) p v (stored_at a p i)) (sym (value_is i h))
        (subst (λ (s : Value). IsStored (leaf_type t) p (at i) s) (sym (stored_is i h)) (subst (λ (k : LeafType). IsStored k p (at i) (stored_at c p (entry i))) (sym kinds) own))

-- ---- the same of an array that is such a dictionary

module _ (a : ArrayTree) (o : Over a) where
  pub has_value_here : (i : ℕ) → is_value (leaf_slot a i) ≡ not (is_null (slot_at (child_of a) (entry_at (keys_in a) i)))
  has_value_here i = subst (λ (b : ArrayTree). is_value (leaf_slot b i) ≡ not (is_null (slot_at (child_of b) (entry_at (keys_in b) i)))) (sym o.is) (here o.t o.ks o.u o.vs o.n o.m i)

  pub has_value_past : (i : ℕ) → IsSound a → tree_len (child_of a) ≤ entry_at (keys_in a) i → is_value (leaf_slot a i) ≡ true
  has_value_past i =
      subst (λ (b : ArrayTree). IsSound b → tree_len (child_of b) ≤ entry_at (keys_in b) i → is_value (leaf_slot b i) ≡ true) (sym o.is) (λ s h. past o.t o.ks o.u o.vs o.n o.m i s.1.0 h)

  module _ (p : Physical) (sound : IsSound a) (are : is_entry (base (type_of (child_of a))) p ≡ true) where
    pub entry_kinds : leaf_type (type_of a) ≡ leaf_type (type_of (child_of a))
    entry_kinds = subst (λ (b : ArrayTree). IsSound b → leaf_type (type_of b) ≡ leaf_type (type_of (child_of b))) (sym o.is) (λ s. same_type o.t o.ks (leaf_array o.u o.vs o.n) o.m s) sound

    pub key_kind : is_entry_kind (leaf_type (type_of a)) ≡ true
    key_kind = subst (λ (k : LeafType). is_entry_kind k ≡ true) (sym entry_kinds) (kind_of (child_of a) p are)

    pub names_value : (i : ℕ) → is_value (leaf_slot a i) ≡ true → IsInRange (leaf_type (type_of a)) (value_at a i) → NamesValue a i
    names_value i h r =
        (subst (λ (b : ArrayTree). IsSound b → is_entry (base (type_of (child_of b))) p ≡ true → is_value (leaf_slot b i) ≡ true → IsInRange (leaf_type (type_of b)) (value_at b i) → entry_at (keys_in b) i < tree_len (child_of b)) (sym o.is) (λ s e. below o.t o.ks o.u o.vs o.n o.m p s e i) sound are h r, h)

    pub named_in_range : (i : ℕ) → NamesValue a i → IsInRange (leaf_type (type_of a)) (value_at a i)
    named_in_range i h =
        subst (λ (b : ArrayTree). IsSound b → is_entry (base (type_of (child_of b))) p ≡ true → NamesValue b i → IsInRange (leaf_type (type_of b)) (value_at b i)) (sym o.is)
        (λ s e k. subst (IsInRange (leaf_type o.t)) (sym (value_is o.t o.ks o.u o.vs o.n o.m i k.1)) (subst (λ (l : LeafType). IsInRange l (leaf_at o.vs (entry_at o.ks i))) (sym (kinds o.t o.ks o.u o.vs o.n o.m p s e)) (in_range o.t o.ks o.u o.vs o.n o.m p s e i k.0))) sound are h

    pub named_stored_is : (i : ℕ) → NamesValue a i → stored_at a p i ≡ stored_at (child_of a) p (entry_at (keys_in a) i)
    named_stored_is i h =
        subst (λ (b : ArrayTree). IsSound b → is_entry (base (type_of (child_of b))) p ≡ true → NamesValue b i → stored_at b p i ≡ stored_at (child_of b) p (entry_at (keys_in b) i)) (sym o.is) (λ s e k. stored_is o.t o.ks o.u o.vs o.n o.m p s e i k.1) sound are h

    pub named_entry : (i : ℕ) → NamesValue a i → slice_get (stored_entries (child_of a) p) (entry_at (keys_in a) i) ≡ Some (stored_at a p i)
    named_entry i h =
        subst (λ (b : ArrayTree). IsSound b → is_entry (base (type_of (child_of b))) p ≡ true → NamesValue b i → slice_get (stored_entries (child_of b) p) (entry_at (keys_in b) i) ≡ Some (stored_at b p i)) (sym o.is) (λ s e k. entry_is o.t o.ks o.u o.vs o.n o.m p s e i k.1 k.0) sound are h

    pub named_stored : (i : ℕ) → NamesValue a i → IsStored (leaf_type (type_of a)) p (value_at a i) (stored_at a p i)
    named_stored i h =
        subst (λ (b : ArrayTree). IsSound b → is_entry (base (type_of (child_of b))) p ≡ true → NamesValue b i → IsStored (leaf_type (type_of b)) p (value_at b i) (stored_at b p i)) (sym o.is) (λ s e k. is_stored o.t o.ks o.u o.vs o.n o.m p s e i k.1 k.0) sound are h
