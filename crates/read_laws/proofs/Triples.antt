-- The triples of a state's slots by a recursion that makes no slots.
use Rattle.std.proofs.Common.{◌≡◌, ℕ, zero, suc, ◌+◌, ◌-◌, Bool, true, false, cond, is_some, Some, None, List, [], ◌∷◌, ◌++◌, flat_map, slice_index, refl, arith, ap, ◌∙◌}
use Rattle.shredding.specs.Slot.{Slot, null, value, items, fields, no_slots, slot, list_of, slots_of}
use Rattle.shredding.specs.Shape.{Way, at_leaf, in_list, in_struct}
use Rattle.shredding.specs.Shred.{Triple, up, single, shred}
use Rattle.shredding.specs.Parts.{keeps, slots_from}
use Rattle.read_laws.specs.State.{Kept, kept_leaf, kept_list, kept_struct, count, item_end, kept_slot, kept_slots, kept_way}
use Rattle.read_laws.specs.Step.{bit, gain, is_list}
use Rattle.read_laws.specs.Column.{kept_column}
use Rattle.read_laws.proofs.Runs.{run, run_or}

-- what the slot of a leaf gives
abbrev pub leaf_triples : Bool → Slot → ℕ → ℕ → List Triple
leaf_triples n (value v) rep def = single rep (def + gain (kept_leaf n 0)) (Some v)
leaf_triples n s rep def = single rep def None

unfoldable pub kept_triples : (ℕ → Slot) → List Kept → ℕ → ℕ → ℕ → ℕ → List Triple
kept_triples leaf [] def depth rep i = single rep def None
kept_triples leaf (kept_leaf n c ∷ ks) def depth rep i = leaf_triples n (leaf i) rep def
kept_triples leaf (kept_list m starts ∷ ks) def depth rep i =
    cond (keeps m i)
    (run_or (single rep (def + bit (is_some m)) None) (kept_triples leaf ks (def + gain (kept_list m starts)) (depth + bit (is_list (kept_list m starts)))) rep (depth + 1) (slice_index starts i) (item_end starts (count ks) i - slice_index starts i))
    (single rep def None)
kept_triples leaf (kept_struct m c ∷ ks) def depth rep i =
    cond (keeps m i) (kept_triples leaf ks (def + gain (kept_struct m c)) (depth + bit (is_list (kept_struct m c))) rep i) (single rep def None)

list_of-slots_of : (ss : List Slot) → list_of (slots_of ss) ≡ ss
list_of-slots_of [] = refl
list_of-slots_of (s ∷ ss) = ap (λ c. s ∷ c) (list_of-slots_of ss)

pub up-bit : (b : Bool) (d : ℕ) → up b d ≡ d + bit b
up-bit true d = omega arith
up-bit false d = omega arith

triples_of_rows : (w : Way) (d k r : ℕ) (piece : ℕ → ℕ → List Triple) (at : ℕ → Slot) → ((rep i : ℕ) → shred w (at i) rep d k ≡ piece rep i) → (place count : ℕ) → flat_map (λ s. shred w s r d k) (slots_from at place count) ≡ run piece r r place count
unfolding slots_from run
triples_of_rows w d k r piece at same place zero = refl
triples_of_rows w d k r piece at same place (suc count) =
    ap (λ c. c ++ flat_map (λ s. shred w s r d k) (slots_from at (place + 1) count)) (same r place)
    ∙ ap (λ c. piece r place ++ c) (triples_of_rows w d k r piece at same (place + 1) count)

triples_of_items : (n : Bool) (w : Way) (r d k : ℕ) (piece : ℕ → ℕ → List Triple) (at : ℕ → Slot) → ((rep i : ℕ) → shred w (at i) rep (suc (up n d)) (suc k) ≡ piece rep i) → (place count : ℕ) → shred (in_list n w) (items (slots_of (slots_from at place count))) r d k ≡ run_or (single r (up n d) None) piece r (suc k) place count
unfolding shred slots_from run_or run
triples_of_items n w r d k piece at same place zero = refl
triples_of_items n w r d k piece at same place (suc count) =
    let D : ℕ = suc (up n d) in
    let K : ℕ = suc k in
    let others = slots_from at (place + 1) count in
    ap (λ c. c ++ flat_map (λ t. shred w t K D K) (list_of (slots_of others))) (same r place)
    ∙ (ap (λ ss. piece r place ++ flat_map (λ t. shred w t K D K) ss) (list_of-slots_of others)
    ∙ ap (λ c. piece r place ++ c) (triples_of_rows w D K K piece at same (place + 1) count))

-- a slot that is there or null
by_presence : (w : Way) (s : Slot) (r d k : ℕ) (b : Bool) (there : List Triple) → shred w s r d k ≡ there → shred w (cond b s null) r d k ≡ cond b there (single r d None)
unfolding shred
by_presence w s r d k true there h = h
by_presence (at_leaf n) s r d k false there h = refl
by_presence (in_list n w) s r d k false there h = refl
by_presence (in_struct n i w) s r d k false there h = refl

pub shred-leaf : (n : Bool) (s : Slot) (rep def depth : ℕ) → shred (at_leaf n) s rep def depth ≡ leaf_triples n s rep def
unfolding shred
shred-leaf n null rep def depth = refl
shred-leaf n (value v) rep def depth = let e : up n def ≡ def + gain (kept_leaf n 0) = omega (arith, up-bit n def) in rw e
shred-leaf n (items ss) rep def depth = refl
shred-leaf n (fields ss) rep def depth = refl

null_leaf : (n : Bool) (rep def depth : ℕ) → shred (at_leaf n) null rep def depth ≡ single rep def None
unfolding shred
null_leaf n rep def depth = refl

struct-shred : (n : Bool) (w : Way) (s : Slot) (rep def depth D K : ℕ) → up n def ≡ D → depth ≡ K → (there : List Triple) → shred w s rep D K ≡ there → shred (in_struct n zero w) (fields (slot s no_slots)) rep def depth ≡ there
unfolding shred
struct-shred n w s rep def depth D K e k there h = rw (e, k) h

pub kept_triples-shred : (leaf : ℕ → Slot) (ks : List Kept) (def depth rep i : ℕ) → shred (kept_way ks) (kept_slot leaf ks i) rep def depth ≡ kept_triples leaf ks def depth rep i
unfolding kept_slot kept_triples
kept_triples-shred leaf [] def depth rep i = null_leaf false rep def depth
kept_triples-shred leaf (kept_leaf n c ∷ ks) def depth rep i = shred-leaf n (leaf i) rep def depth
kept_triples-shred leaf (kept_list m starts ∷ ks) def depth rep i =
    let n : Bool = is_some m in
    let D : ℕ = def + gain (kept_list m starts) in
    let K : ℕ = depth + 1 in
    let e : suc (up n def) ≡ D = omega (arith, up-bit n def) in
    let f : suc depth ≡ K = omega arith in
    let below : (r j : ℕ) → shred (kept_way ks) (kept_slot leaf ks j) r (suc (up n def)) (suc depth) ≡ kept_triples leaf ks D K r j = λ r j. rw (e, f) (kept_triples-shred leaf ks D K r j) in
    let all = triples_of_items n (kept_way ks) rep def depth (kept_triples leaf ks D K) (kept_slot leaf ks) below (slice_index starts i) (item_end starts (count ks) i - slice_index starts i) in
    by_presence (in_list n (kept_way ks)) _ rep def depth (keeps m i) _ (rw (up-bit n def, f) at all)
kept_triples-shred leaf (kept_struct m c ∷ ks) def depth rep i =
    let n : Bool = is_some m in
    let D : ℕ = def + gain (kept_struct m c) in
    let K : ℕ = depth + bit (is_list (kept_struct m c)) in
    let e : up n def ≡ D = omega (arith, up-bit n def) in
    let k : depth ≡ K = omega arith in
    by_presence (in_struct n zero (kept_way ks)) (fields (slot (kept_slot leaf ks i) no_slots)) rep def depth (keeps m i) _ (struct-shred n (kept_way ks) (kept_slot leaf ks i) rep def depth D K e k _ (kept_triples-shred leaf ks D K rep i))

pub kept_column-run : (leaf : ℕ → Slot) (ks : List Kept) → kept_column leaf ks ≡ run (kept_triples leaf ks 0 0) 0 0 0 (count ks)
unfolding kept_slots
kept_column-run leaf ks = triples_of_rows (kept_way ks) 0 0 0 (kept_triples leaf ks 0 0) (kept_slot leaf ks) (λ r i. kept_triples-shred leaf ks 0 0 r i) 0 (count ks)
