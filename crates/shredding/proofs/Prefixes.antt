-- The first triples of a column are a column.
use Rattle.std.proofs.Common.{◌≡◌, ◌⊎◌, inl, inr, ℕ, zero, suc, Bool, List, [], ◌∷◌, ◌++◌, refl, subst, sym, ap, ◌∙◌, append-nil}
use Rattle.std.specs.List.{AllByRecursion as Each}
use Rattle.std.proofs.lemmas.List.Elements.{recursion_from_All, All-from_recursion}
use Rattle.shredding.specs.Along.{IsAlong}
use Rattle.shredding.specs.Laws.{PrefixesAreColumns}
use Rattle.shredding.specs.Slot.{Slot, null, value, items, fields, Slots, no_slots, slot, list_of, slots_of, slot_at}
use Rattle.shredding.specs.Shape.{Way, at_leaf, in_list, in_struct}
use Rattle.shredding.specs.Shred.{Triple, up, shred}
use Rattle.shredding.proofs.Along.{list_of-slots_of}
use Rattle.shredding.proofs.Unique.{rows_along}

-- where one list is put together in two ways, one first part goes on into the other
overlap : (xs R a b : List Triple) → xs ++ R ≡ a ++ b → ((c : List Triple) × (a ≡ xs ++ c) × (R ≡ c ++ b)) ⊎ ((c : List Triple) × (xs ≡ a ++ c))
overlap [] R a b e = inl (a, refl, e)
overlap (x ∷ xs) R [] b e = inr (x ∷ xs, refl)
overlap (x ∷ xs) R (y ∷ a) b e =
    let first : x ≡ y = cc in
    let same : xs ++ R ≡ a ++ b = cc in
    elim (overlap xs R a b same) [ inl h ↦ inl (h.0, cc (first, h.1), h.2) | inr h ↦ inr (h.0, cc (first, h.1)) ]

nothing_more : (t u : Triple) (a b : List Triple) → t ∷ [] ≡ (u ∷ a) ++ b → t ∷ [] ≡ u ∷ a
nothing_more t u [] b e = let h : t ≡ u = cc in cc h
nothing_more t u (x ∷ a) b e = absurd (cc)

-- the slot at a position, and null before it
pub only_at : ℕ → Slot → Slots
only_at zero s = slot s no_slots
only_at (suc i) s = slot null (only_at i s)

pub slot_at-only_at : (i : ℕ) (s : Slot) → slot_at (only_at i s) i ≡ s
unfolding only_at
slot_at-only_at zero s = refl
slot_at-only_at (suc i) s = slot_at-only_at i s

-- some slot along the way has just these triples
abbrev Has : Way → ℕ → ℕ → ℕ → List Triple → Type 0
Has w r d k a = (s : Slot) × IsAlong w s × (shred w s r d k ≡ a)

abbrev Have : Way → ℕ → ℕ → ℕ → List Triple → Type 0
Have w r d k a = (ss : List Slot) × Each (IsAlong w) ss × (rows_along r d k w ss ≡ a)

abbrev Shortens : Way → Type 0
Shortens w = (s : Slot) (r d k : ℕ) (t : Triple) (a b : List Triple) → IsAlong w s → shred w s r d k ≡ (t ∷ a) ++ b → Has w r d k (t ∷ a)

shorten_rows : (w : Way) → Shortens w → (r d k : ℕ) (ss : List Slot) (a b : List Triple) → Each (IsAlong w) ss → rows_along r d k w ss ≡ a ++ b → Have w r d k a
shorten_rows w u r d k ss [] b h e = ([], tt, refl)
shorten_rows w u r d k [] (t ∷ a) b h e = absurd (cc)
shorten_rows w u r d k (s ∷ ss) (t ∷ a) b h e =
    elim (overlap (shred w s r d k) (rows_along r d k w ss) (t ∷ a) b e) [
      | inl g ↦ let rest = shorten_rows w u r d k ss g.0 b h.1 g.2 in (s ∷ rest.0, (h.0, rest.1), ap (λ c. shred w s r d k ++ c) rest.2 ∙ sym g.1)
      | inr g ↦ let one = u s r d k t a g.0 h.0 g.1 in (one.0 ∷ [], (one.1, tt), append-nil (shred w one.0 r d k) ∙ one.2)
    ]

shorten_items : (n : Bool) (w : Way) → Shortens w → (s : Slot) (ss : Slots) (r d k : ℕ) (t : Triple) (a b : List Triple) → Each (IsAlong w) (s ∷ list_of ss) → shred (in_list n w) (items (slot s ss)) r d k ≡ (t ∷ a) ++ b → Has (in_list n w) r d k (t ∷ a)
unfolding shred
shorten_items n w u s ss r d k t a b h e =
    let D : ℕ = suc (up n d) in
    let K : ℕ = suc k in
    elim (overlap (shred w s r D K) (rows_along K D K w (list_of ss)) (t ∷ a) b e) [
      | inl g ↦
          let rest = shorten_rows w u K D K (list_of ss) g.0 b h.1 g.2 in (
            items (slot s (slots_of rest.0)),
            All-from_recursion (IsAlong w) (s ∷ list_of (slots_of rest.0)) (h.0, subst (Each (IsAlong w)) (sym (list_of-slots_of rest.0)) rest.1),
            ap (λ us. shred w s r D K ++ rows_along K D K w us) (list_of-slots_of rest.0) ∙ ap (λ c. shred w s r D K ++ c) rest.2 ∙ sym g.1,
          )
      | inr g ↦
          let one = u s r D K t a g.0 h.0 g.1 in
          (items (slot one.0 no_slots), All-from_recursion (IsAlong w) (one.0 ∷ []) (one.1, tt), append-nil (shred w one.0 r D K) ∙ one.2)
    ]

shortens : (w : Way) → Shortens w
unfolding shred
shortens (at_leaf n) null r d k t a b h e = (null, h, nothing_more _ t a b e)
shortens (at_leaf n) (value v) r d k t a b h e = (value v, h, nothing_more _ t a b e)
shortens (at_leaf n) (items ss) r d k t a b h e = absurd h
shortens (at_leaf n) (fields ss) r d k t a b h e = absurd h
shortens (in_list n w) null r d k t a b h e = (null, h, nothing_more _ t a b e)
shortens (in_list n w) (items no_slots) r d k t a b h e = (items no_slots, h, nothing_more _ t a b e)
shortens (in_list n w) (items (slot s ss)) r d k t a b h e = shorten_items n w (shortens w) s ss r d k t a b (recursion_from_All (IsAlong w) (s ∷ list_of ss) h) e
shortens (in_list n w) (value v) r d k t a b h e = absurd h
shortens (in_list n w) (fields ss) r d k t a b h e = absurd h
shortens (in_struct n i w) null r d k t a b h e = (null, h, nothing_more _ t a b e)
shortens (in_struct n i w) (fields ss) r d k t a b h e =
    let one = shortens w (slot_at ss i) r (up n d) k t a b h e in
    (fields (only_at i one.0), subst (IsAlong w) (sym (slot_at-only_at i one.0)) one.1, ap (λ s. shred w s r (up n d) k) (slot_at-only_at i one.0) ∙ one.2)
shortens (in_struct n i w) (value v) r d k t a b h e = absurd h
shortens (in_struct n i w) (items ss) r d k t a b h e = absurd h

pub prefixes : PrefixesAreColumns
prefixes w rows a b h e =
    let found = shorten_rows w (shortens w) 0 0 0 rows a b (recursion_from_All (IsAlong w) rows h) e in
    (found.0, All-from_recursion (IsAlong w) found.0 found.1, found.2)
