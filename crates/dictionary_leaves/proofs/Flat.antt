-- Entries are a leaf's values with no levels: what the walk makes of them, and why it stops.
use Rattle.std.proofs.Common.{◌≡◌, ◌⊎◌, inl, inr, ℕ, zero, suc, Option, Result, ◌+◌, ◌-◌, ◌^◌, ◌<◌, ◌≤◌, Bool, true, false, cond, nat_eq, is_some, Some, None, Ok, Err, List, [], ◌∷◌, ◌++◌, length, map, replicate, refl, arith, ap, sym, subst, ◌∙◌, true≢false, length-append}
use Rattle.std.specs.Prelude.{slice_index_or, MatchResult}
use Rattle.std.proofs.lemmas.List.Sums.{sum_by-cons}
use Rattle.std.proofs.lemmas.List.{length-map, length-replicate}
use Rattle.columns_base.specs.declared.error.Error.{Error}
use Rattle.columns_base.specs.declared.error.Error.TheVariants.{OutOfSpec}
use Rattle.columns_base.specs.declared.error.S.TheVariants.{S4}
use Rattle.pq_numbers.specs.Bits.{IsWidth}
use Rattle.pq_runs.specs.Hybrid.{hybrid}
use Rattle.read_laws.specs.Block.{Mark, walk}
use Rattle.read_laws.specs.Column.{kept_column, slot_of}
use Rattle.read_laws.specs.State.{Kept, kept_leaf, kept_list, kept_struct, kept_slot, kept_slots, kept_way, leaf_count, StateFits}
use Rattle.read_laws.specs.Step.{bit, growth, is_there, pushed, pushes, step}
use Rattle.read_state.specs.Kinds.{HasLongItems}
use Rattle.read_walk.specs.Gives.{called, given}
use Rattle.read_walk.specs.Order.{IsPast}
use Rattle.read_walk.specs.Pairs.{Item, Pair, StopsAt, fault, page_items, up_to_maxima, zip_items}
use Rattle.read_walk.specs.Values.{Stored, CannotDecode}
use Rattle.read_walk.specs.Walk.{AreWanted, AreWithin, Extends, GoesOn, IsOutOfOrder, IsUnreadable, Refuses, begins, begun, mark_pair, pair_of, values_of}
use Rattle.shredding.specs.Parts.{slots_from}
use Rattle.shredding.specs.Shape.{Way, at_leaf}
use Rattle.shredding.specs.Shred.{Triple, column, shred}
use Rattle.shredding.specs.Slot.{Slot, Value, null, value, items, fields}
use Rattle.dictionary_leaves.specs.Entries.{AreDecoded, CannotDecodeAll}
use Rattle.dictionary_leaves.specs.Flat.{entry_pairs}

-- ---- the pairs

abbrev Same : Item → Item → Type 0
Same x y = x ≡ y

no-width : IsWidth 0 0
no-width = record { holds = omega arith; least = λ v h. omega arith }

no-bits : (n : ℕ) → hybrid 0 n [] ≡ replicate n (Ok 0)
unfolding hybrid
no-bits n = refl

zipped-zeros : (n : ℕ) → up_to_maxima 0 0 (zip_items (replicate n (Ok 0)) (replicate n (Ok 0))) ≡ entry_pairs n
zipped-zeros zero = refl
zipped-zeros (suc n) = ap (λ (is : List Item). Ok (0, 0) ∷ is) (zipped-zeros n)

are-plain : (n : ℕ) (is : List Item) → ((v w : ℕ) → IsWidth 0 v → IsWidth 0 w → is ≡ page_items 0 v 0 w n [] []) → is ≡ entry_pairs n
are-plain n is h = h 0 0 no-width no-width ∙ rw (no-bits n) (zipped-zeros n)

pub pairs_are_plain : (n : ℕ) (r : Result (List Item) Error) → MatchResult r (λ is. (v w : ℕ) → IsWidth 0 v → IsWidth 0 w → is ≡ page_items 0 v 0 w n [] []) (λ e. (e ≡ OutOfSpec S4) × ((2 ^ 32 ≤ 0) ⊎ (2 ^ 32 ≤ 0))) → MatchResult r (λ is. is ≡ entry_pairs n) (λ e. ⊥)
pairs_are_plain n (Ok is) h = are-plain n is h
pairs_are_plain n (Err e) h = by h.1
  where
    by : (2 ^ 32 ≤ 0) ⊎ (2 ^ 32 ≤ 0) → ⊥
    by (inl l) = absurd (omega (arith, l))
    by (inr l) = absurd (omega (arith, l))

-- each item is such a pair
only-pairs : (n : ℕ) (front : List Item) (x : Item) (rest : List Item) → entry_pairs n ≡ front ++ x ∷ rest → x ≡ Ok (0, 0)
only-pairs zero [] x rest e = absurd (cc e)
only-pairs zero (y ∷ front) x rest e = absurd (cc e)
only-pairs (suc n) [] x rest e = cc e
only-pairs (suc n) (y ∷ front) x rest e = only-pairs n front x rest (cc e)

-- ---- a leaf's values

abbrev AllSome : List Triple → Type 0
AllSome [] = Unit {0}
AllSome (t ∷ ts) = (is_some t.value ≡ true) × AllSome ts

no-level : (d : ℕ) → d ≤ 0 → d ≡ 0
no-level d h = omega (arith, h)

within-some : (ts : List Triple) → AreWithin (at_leaf false) ts → AllSome ts
within-some [] w = tt
within-some (t ∷ ts) w = (w.2 ∙ ap (λ (d : ℕ). nat_eq d 0) (no-level t.definition w.1), within-some ts w.3)

slots-valued : (ss : List Slot) → AllSome (column (at_leaf false) ss) → ss ≡ map value (values_of (column (at_leaf false) ss))
unfolding shred
slots-valued [] h = refl
slots-valued (null ∷ ss) h = absurd (true≢false (sym h.0))
slots-valued (value v ∷ ss) h = ap (λ (r : List Slot). value v ∷ r) (slots-valued ss h.1)
slots-valued (items is ∷ ss) h = absurd (true≢false (sym h.0))
slots-valued (fields fs ∷ ss) h = absurd (true≢false (sym h.0))

values-count : (ts : List Triple) → AllSome ts → length (values_of ts) ≡ length ts
values-count [] h = refl
values-count (t ∷ ts) h = one t.value h.0 (values-count ts h.1)
  where
    one : (o : Option Value) → is_some o ≡ true → length (values_of ts) ≡ length ts → length (given (o ∷ map (λ (u : Triple). u.value) ts)) ≡ suc (length ts)
    one None e rest = absurd (true≢false (sym e))
    one (Some v) e rest = ap suc rest

-- ---- a state of the leaf alone

listed : (f : ℕ → Slot) (xs : List Slot) (place : ℕ) → ((i : ℕ) → i < length xs → f (place + i) ≡ slice_index_or xs i null) → slots_from f place (length xs) ≡ xs
unfolding slots_from
listed f [] place same = refl
listed f (x ∷ xs) place same =
    let head : f place ≡ x = ap f (omega arith) ∙ same 0 (omega arith) in
    let rest = listed f xs (place + 1) (λ i h. ap f (omega arith) ∙ same (suc i) (omega (arith, h))) in
    cc (head, rest)

leaf-slots : (n : Bool) (c : ℕ) (ks : List Kept) (leaf : List Slot) → length leaf ≡ c → kept_slots (slot_of leaf) (kept_leaf n c ∷ ks) ≡ leaf
unfolding kept_slots kept_slot
leaf-slots n c ks leaf e = subst (λ m. slots_from (slot_of leaf) 0 m ≡ leaf) e (listed (slot_of leaf) leaf 0 (λ i h. ap (slot_of leaf) (omega arith)))

abbrev is_leaf_way : Way → Bool
is_leaf_way (at_leaf n) = true
is_leaf_way w = false

leaf-column : (ks : List Kept) (leaf : List Slot) → StateFits ks → kept_way ks ≡ at_leaf false → length leaf ≡ leaf_count ks → kept_column (slot_of leaf) ks ≡ column (at_leaf false) leaf
leaf-column [] leaf fits way d = absurd fits
leaf-column (kept_leaf n c ∷ ks) leaf fits way d = ap (λ (w : Way). column w (kept_slots (slot_of leaf) (kept_leaf n c ∷ ks))) way ∙ ap (column (at_leaf false)) (leaf-slots n c ks leaf d)
leaf-column (kept_list m starts ∷ ks) leaf fits way d = absurd (true≢false (sym (ap is_leaf_way way)))
leaf-column (kept_struct m c ∷ ks) leaf fits way d = absurd (true≢false (sym (ap is_leaf_way way)))

nothing-yet : kept_column (slot_of []) (kept_leaf false 0 ∷ []) ≡ []
nothing-yet = leaf-column (kept_leaf false 0 ∷ []) [] refl refl refl

-- ---- all are taken

begun-all : (ts : List Triple) (n : ℕ) (page : List Item) → entry_pairs n ≡ map Ok (map pair_of ts) ++ page → (begun (map pair_of ts) ≡ length ts) × (page ≡ entry_pairs (n - length ts)) × (length ts ≤ n)
begun-all [] n page e = (refl, sym e ∙ ap entry_pairs (omega arith), omega arith)
begun-all (t ∷ ts) zero page e = absurd (cc e)
begun-all (t ∷ ts) (suc n) page e =
    let rest = begun-all ts n page (cc e) in
    let pair : pair_of t ≡ (0, 0) = same-pair (pair_of t) (cc e) in
    (begun-one t ts pair ∙ ap suc rest.0, rest.1 ∙ ap entry_pairs (omega arith), omega (arith, rest.2))
  where
    same-pair : (p : Pair) → Same (Ok (0, 0)) (Ok p) → p ≡ (0, 0)
    same-pair p e = cc e

    begun-one : (t : Triple) (ts : List Triple) → pair_of t ≡ (0, 0) → begun (map pair_of (t ∷ ts)) ≡ suc (begun (map pair_of ts))
    begun-one t ts e = sum_by-cons (λ (q : Pair). cond (begins q) 1 0) (pair_of t) (map pair_of ts) ∙ ap (λ (q : Pair). cond (begins q) 1 0 + begun (map pair_of ts)) e ∙ omega arith

stops-full : (n k : ℕ) → k ≤ n → StopsAt (n - k) (entry_pairs (n - k)) → k ≡ n
stops-full n k h s = by (n - k) refl s
  where
    by : (m : ℕ) → n - k ≡ m → StopsAt m (entry_pairs m) → k ≡ n
    by zero e s = omega (arith, h, e)
    by (suc m) e s = absurd (omega (arith, s.1))

pub all_decoded : (stored : List ℕ → List Stored) (n : ℕ) (body : List ℕ) (page : List Item) (left : List Stored) (ks : List Kept) (slots : List Slot) → Extends n (entry_pairs n) page (stored body) left (kept_leaf false 0 ∷ []) ks [] slots → AreDecoded stored n body slots
all_decoded stored n body page left ks slots x =
    let column : column (at_leaf false) slots ≡ x.triples = sym (leaf-column ks slots x.fits x.way x.decoded) ∙ (x.column ∙ ap (λ (ts : List Triple). ts ++ x.triples) nothing-yet) in
    let some = within-some x.triples x.within in
    let taken = begun-all x.triples n page x.pairs in
    let stops = subst (λ (is : List Item). StopsAt (n - length x.triples) is) taken.1 (subst (λ (b : ℕ). StopsAt (n - b) page) taken.0 x.stops) in
    record {
      values = values_of x.triples;
      begin = record { count = values-count x.triples some ∙ stops-full n (length x.triples) taken.2 stops; rest = left; parts = x.values };
      are = subst (λ (ts : List Triple). slots ≡ map value (values_of ts)) column (slots-valued slots (subst AllSome (sym column) some));
    }

-- ---- why not

abbrev IsLeafState : List Kept → Type 0
IsLeafState (kept_leaf n c ∷ []) = Unit {0}
IsLeafState ks = ⊥

step-leaf : (r d : ℕ) (h : Bool) (ks : List Kept) → IsLeafState ks → IsLeafState (step 1 r d h 0 0 ks)
unfolding step
step-leaf r d h [] s = absurd s
step-leaf r d h (kept_leaf n c ∷ []) s = by (pushes r d h 0 0)
  where
    by : (b : Bool) → IsLeafState (cond b (pushed (kept_leaf n c) 0 (growth r d (kept_leaf n c) 0 0) (is_there (kept_leaf n c) d 0) 1 ∷ []) (kept_leaf n c ∷ []))
    by true = tt
    by false = tt
step-leaf r d h (kept_leaf n c ∷ k ∷ ks) s = absurd s
step-leaf r d h (kept_list m starts ∷ ks) s = absurd s
step-leaf r d h (kept_struct m c ∷ ks) s = absurd s

walk-leaf : (ms : List Mark) (ks : List Kept) → IsLeafState ks → IsLeafState (walk ms ks)
walk-leaf [] ks s = s
walk-leaf (m ∷ ms) ks s = walk-leaf ms (step 1 m.repetition m.definition m.hidden 0 0 ks) (step-leaf m.repetition m.definition m.hidden ks s)

never-long : (ks : List Kept) → IsLeafState ks → HasLongItems ks → ⊥
never-long [] s h = s
never-long (kept_leaf n c ∷ []) s (inl h) = true≢false (sym h.0)
never-long (kept_leaf n c ∷ []) s (inr h) = h
never-long (kept_leaf n c ∷ k ∷ ks) s h = s
never-long (kept_list m starts ∷ ks) s h = s
never-long (kept_struct m c ∷ ks) s h = s

called-few : (top : ℕ) (ds : List ℕ) → called top ds ≤ length ds
called-few top [] = omega arith
called-few top (d ∷ ds) = one (nat_eq d top) (called-few top ds)
  where
    one : (b : Bool) → called top ds ≤ length ds → bit b + called top ds ≤ suc (length ds)
    one true h = omega (arith, h)
    one false h = omega (arith, h)

wanted-few : (n : ℕ) (ps : List Pair) (rest : List Item) → entry_pairs n ≡ map Ok ps ++ rest → length ps ≤ n
wanted-few n ps rest e =
    let lengths = sym (length-replicate {A = Item} n (Ok (0, 0))) ∙ (ap length e ∙ (length-append (map Ok ps) rest)) in
    omega (arith, lengths, length-map {B = Item} ps Ok)

max-called : (n : ℕ) (top : ℕ) (ps : List Pair) (rest : List Item) → entry_pairs n ≡ map Ok ps ++ rest → called top (map (λ p. p.1) ps) ≤ n
max-called n top ps rest e = omega (arith, called-few top (map (λ (p : Pair). p.1) ps), length-map ps (λ (p : Pair). p.1), wanted-few n ps rest e)

no-pair : (n : ℕ) (front : List Pair) (p : Pair) (rest : List Item) → entry_pairs n ≡ map Ok (front ++ p ∷ []) ++ rest → p ≡ (0, 0)
no-pair n [] p rest e = one (only-pairs n [] (Ok p) rest e)
  where
    one : Same (Ok p) (Ok (0, 0)) → p ≡ (0, 0)
    one e = cc e
no-pair zero (q ∷ front) p rest e = absurd (cc e)
no-pair (suc n) (q ∷ front) p rest e = no-pair n front p rest (cc e)

not-unreadable : (n : ℕ) → IsUnreadable (at_leaf false) n (entry_pairs n) → ⊥
not-unreadable n u = by u.bad
  where
    clash : Same fault (Ok (0, 0)) → ⊥
    clash e = absurd (cc e)

    past : (p : Pair) → p ≡ (0, 0) → IsPast (at_leaf false) p → ⊥
    past p e (inl h) = absurd (omega (arith, h, ap (λ (q : Pair). q.0) e))
    past p e (inr h) = absurd (omega (arith, h, ap (λ (q : Pair). q.1) e))

    by : (AreWanted n (entry_pairs n) u.front (fault ∷ u.rest)) ⊎ ((p : Pair) × AreWanted n (entry_pairs n) (u.front ++ p ∷ []) u.rest × IsPast (at_leaf false) p) → ⊥
    by (inl w) = clash (only-pairs n (map Ok u.front) fault u.rest w.pairs)
    by (inr w) = past w.0 (no-pair n u.front w.0 u.rest w.1.pairs) w.2

not-going-on : (n : ℕ) → GoesOn (entry_pairs n) → ⊥
not-going-on n g = repeats g.first (only-pairs n [] (Ok g.first) g.rest g.pairs) g.repeats
  where
    level : (p : Pair) → Same (Ok p) (Ok (0, 0)) → p ≡ (0, 0)
    level p e = cc e

    repeats : (p : Pair) → Same (Ok p) (Ok (0, 0)) → 0 < p.0 → ⊥
    repeats p e h = absurd (omega (arith, h, ap (λ (q : Pair). q.0) (level p e)))

not-out-of-order : (n : ℕ) → IsOutOfOrder (at_leaf false) n (entry_pairs n) → ⊥
not-out-of-order n o = absurd (omega (arith, o.outside.0, ap (λ (q : Pair). q.0) (no-pair n o.front o.pair o.rest o.wanted.pairs)))

not-decoded : (stored : List ℕ → List Stored) (limit n m : ℕ) (body : List ℕ) (e : Error) → m ≤ n → CannotDecode limit m (stored body) [] e → CannotDecodeAll stored limit n body e
not-decoded stored limit n m body e h (inl memory) = inl memory
not-decoded stored limit n m body e h (inr (inl s)) = inr (inl (inl (s.0, omega (arith, h, s.1))))
not-decoded stored limit n m body e h (inr (inr (inl s))) = inr (inl (inr (s.0, record { front = s.1.values; rest = s.1.rest; parts = s.1.next; few = omega (arith, h, s.1.within) })))
not-decoded stored limit n m body e h (inr (inr (inr v))) = inr (inr (v.0, record { values = v.1.values; rest = v.1.rest; parts = v.1.next; few = omega (arith, h, v.1.within); some = v.1.some; long = omega (arith, v.1.long) }))

pub none_decoded : (stored : List ℕ → List Stored) (limit n : ℕ) (body : List ℕ) (e : Error) → Refuses limit n (entry_pairs n) (stored body) (kept_leaf false 0 ∷ []) [] e → CannotDecodeAll stored limit n body e
none_decoded stored limit n body e (inl u) = absurd (not-unreadable n u.1)
none_decoded stored limit n body e (inr (inl g)) = absurd (not-going-on n g.1)
none_decoded stored limit n body e (inr (inr (inl o))) = absurd (not-out-of-order n o.1)
none_decoded stored limit n body e (inr (inr (inr (inl l)))) = absurd (never-long (walk (map mark_pair l.1.pairs) (kept_leaf false 0 ∷ [])) (walk-leaf (map mark_pair l.1.pairs) (kept_leaf false 0 ∷ []) tt) l.1.long)
none_decoded stored limit n body e (inr (inr (inr (inr f)))) = not-decoded stored limit n (called 0 (map (λ (p : Pair). p.1) f.pairs)) body e (max-called n 0 f.pairs f.rest f.wanted.pairs) f.why
