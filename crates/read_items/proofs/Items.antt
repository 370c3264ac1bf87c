-- Pair by pair, each list of a state gets an item where the part beneath it gets a slot.
use Rattle.std.proofs.Common.{◌≡◌, ℕ, zero, suc, ◌+◌, ◌<◌, Bool, true, false, cond, ◌&&◌, nat_le, is_some, Option, Some, None, List, [], ◌∷◌, map, refl, arith, ap, sym, ◌∙◌, add_assoc}
use Rattle.std.proofs.lemmas.List.Sums.{sum_by-append}
use Rattle.shredding.specs.Shape.{Way, at_leaf, in_list, in_struct}
use Rattle.shredding.specs.Shred.{Triple, up, max_repetition}
use Rattle.shredding.specs.Local.{inside}
use Rattle.read_laws.specs.State.{Kept, kept_leaf, kept_list, kept_struct, count, size}
use Rattle.read_laws.specs.Step.{bit, pushes, grown, pushed, gain, is_list, is_there, hides, growth, step}
use Rattle.read_laws.specs.Block.{walk}
use Rattle.read_laws.specs.Blocks.{mark_of}
use Rattle.read_laws.proofs.Steps.{size-pushed}
use Rattle.read_state.specs.Initial.{no_validity}
use Rattle.read_pieces.specs.Pieces.{empty_state}
use Rattle.pq_headline.specs.FieldReasons.{items_in}
use Rattle.read_items.specs.Items.{list_counts, items_from, ItemsAreCounted}

-- ---- sums of lists place by place

plus : List ℕ → List ℕ → List ℕ
plus [] ys = ys
plus (x ∷ xs) [] = x ∷ xs
plus (x ∷ xs) (y ∷ ys) = (x + y) ∷ plus xs ys

plus-assoc : (xs ys zs : List ℕ) → plus (plus xs ys) zs ≡ plus xs (plus ys zs)
unfolding plus
plus-assoc [] ys zs = refl
plus-assoc (x ∷ xs) [] zs = refl
plus-assoc (x ∷ xs) (y ∷ ys) [] = refl
plus-assoc (x ∷ xs) (y ∷ ys) (z ∷ zs) = rw (add_assoc, plus-assoc xs ys zs)

-- ---- the parts of a state are those of a way

data Is : Way → List Kept → Type 0 where
  leaf_is : (n m : Bool) (c : ℕ) → Is (at_leaf n) (kept_leaf m c ∷ [])
  list_is : (n : Bool) (w : Way) (m : Option (List Bool)) (starts : List ℕ) (ks : List Kept) → is_some m ≡ n → Is w ks → Is (in_list n w) (kept_list m starts ∷ ks)
  struct_is : (n : Bool) (i : ℕ) (w : Way) (m : Option (List Bool)) (c : ℕ) (ks : List Kept) → is_some m ≡ n → Is w ks → Is (in_struct n i w) (kept_struct m c ∷ ks)

some-empty : (n : Bool) → is_some (no_validity n) ≡ n
some-empty true = refl
some-empty false = refl

empty-is : (w : Way) → Is w (empty_state w)
empty-is (at_leaf n) = leaf_is n n 0
empty-is (in_list n w) = list_is n w (no_validity n) [] (empty_state w) (some-empty n) (empty-is w)
empty-is (in_struct n i w) = struct_is n i w (no_validity n) 0 (empty_state w) (some-empty n) (empty-is w)

some-grown : (mask : Option (List Bool)) (m : ℕ) (v : Bool) → is_some (grown mask m v) ≡ is_some mask
some-grown None m v = refl
some-grown (Some bits) m v = refl

either : {A : Type 0} (P : A → Type 0) (b : Bool) (x y : A) → P x → P y → P (cond b x y)
either P true x y p q = p
either P false x y p q = q

-- ---- one pair

step-none : (rep level : ℕ) (junk : Bool) (depth def : ℕ) → step 1 rep level junk depth def [] ≡ []
unfolding step
step-none rep level junk depth def = refl

step-is : (rep level : ℕ) (junk : Bool) (depth def : ℕ) (w : Way) (ks : List Kept) → Is w ks → Is w (step 1 rep level junk depth def ks)
unfolding step
step-is rep level junk depth def _ _ (leaf_is n m c) =
    either (λ xs. Is (at_leaf n) xs) (pushes rep level junk depth def) _ _ (leaf_is n m (c + 1)) (leaf_is n m c)
step-is rep level junk depth def _ _ (list_is n w m starts ks e is) =
    let below = step-is rep level false (depth + 1) (def + (bit (is_some m) + 1)) w ks is in
    let more = grown m 1 (is_there (kept_list m starts) level def) in
    either (λ xs. Is (in_list n w) xs) (pushes rep level junk depth def) _ _ (list_is n w more _ _ (some-grown m 1 (is_there (kept_list m starts) level def) ∙ e) below) (list_is n w m starts _ e below)
step-is rep level junk depth def _ _ (struct_is n i w m c ks e is) =
    let more = grown m 1 (is_there (kept_struct m c) level def) in
    either (λ xs. Is (in_struct n i w) xs) (pushes rep level junk depth def) _ _
    (struct_is n i w more (c + 1) _ (some-grown m 1 (is_there (kept_struct m c) level def) ∙ e) (step-is rep level (hides (kept_struct m c) level def) (depth + 0) (def + (bit (is_some m) + 0)) w ks is))
    (struct_is n i w m c _ e (step-is rep level false (depth + 0) (def + (bit (is_some m) + 0)) w ks is))

-- whether the part beneath gets a slot
step-count : (rep level : ℕ) (junk : Bool) (depth def : ℕ) (k : Kept) (ks : List Kept) → count (step 1 rep level junk depth def (k ∷ ks)) ≡ size k + bit (pushes rep level junk depth def)
unfolding step
step-count rep level junk depth def k ks = of (pushes rep level junk depth def)
  where
    of : (b : Bool) → count (cond b (pushed k (count ks) (growth rep level k depth def) (is_there k level def) 1 ∷ step 1 rep level (hides k level def) (depth + bit (is_list k)) (def + gain k) ks) (k ∷ step 1 rep level false (depth + bit (is_list k)) (def + gain k) ks)) ≡ size k + bit b
    of true = size-pushed k (count ks) (growth rep level k depth def) (is_there k level def) 1
    of false = omega arith

count-grows : (rep level : ℕ) (depth def : ℕ) (w : Way) (ks : List Kept) → Is w ks → count (step 1 rep level false depth def ks) ≡ count ks + bit (pushes rep level false depth def)
count-grows rep level depth def _ _ (leaf_is n m c) = step-count rep level false depth def (kept_leaf m c) []
count-grows rep level depth def _ _ (list_is n w m starts ks e is) = step-count rep level false depth def (kept_list m starts) ks
count-grows rep level depth def _ _ (struct_is n i w m c ks e is) = step-count rep level false depth def (kept_struct m c) ks

-- the items that a pair begins in each list of a way
gives : ℕ → ℕ → ℕ → ℕ → Way → List ℕ
gives rep level depth def (at_leaf n) = []
gives rep level depth def (in_list n w) = bit (pushes rep level false (depth + 1) (def + (bit n + 1))) ∷ gives rep level (depth + 1) (def + (bit n + 1)) w
gives rep level depth def (in_struct n i w) = gives rep level (depth + 0) (def + (bit n + 0)) w

counts-step : (rep level : ℕ) (junk : Bool) (depth def : ℕ) (w : Way) (ks : List Kept) → Is w ks → list_counts (step 1 rep level junk depth def ks) ≡ plus (list_counts ks) (gives rep level depth def w)
unfolding step gives plus
counts-step rep level junk depth def _ _ (leaf_is n m c) =
    either (λ xs. list_counts xs ≡ []) (pushes rep level junk depth def) _ _ refl refl
counts-step rep level junk depth def _ _ (list_is n w m starts ks e is) =
    let below = count-grows rep level (depth + 1) (def + (bit (is_some m) + 1)) w ks is in
    let others = counts-step rep level false (depth + 1) (def + (bit (is_some m) + 1)) w ks is in
    rw (← e)
    (either (λ xs. list_counts xs ≡ plus (count ks ∷ list_counts ks) (bit (pushes rep level false (depth + 1) (def + (bit (is_some m) + 1))) ∷ gives rep level (depth + 1) (def + (bit (is_some m) + 1)) w)) (pushes rep level junk depth def) _ _
    (rw (below, others) refl)
    (rw (below, others) refl))
counts-step rep level junk depth def _ _ (struct_is n i w m c ks e is) =
    rw (← e)
    (either (λ xs. list_counts xs ≡ plus (list_counts ks) (gives rep level (depth + 0) (def + (bit (is_some m) + 0)) w)) (pushes rep level junk depth def) _ _
    (counts-step rep level (hides (kept_struct m c) level def) (depth + 0) (def + (bit (is_some m) + 0)) w ks is)
    (counts-step rep level false (depth + 0) (def + (bit (is_some m) + 0)) w ks is))

-- ---- the same by the definition

up-bit : (n : Bool) (d : ℕ) → up n d ≡ d + bit n
up-bit true d = omega arith
up-bit false d = omega arith

inside-some : (n : Bool) (i : ℕ) (w : Way) (r : ℕ) → 0 < r → inside (in_struct n i w) r ≡ up n (inside w r)
inside-some n i w zero h = absurd (omega (arith, h))
inside-some n i w (suc r) h = refl

items-one : (w : Way) (r : ℕ) (t : Triple) (ts : List Triple) → items_in w r (t ∷ ts) ≡ bit (nat_le t.repetition r && nat_le (inside w r) t.definition) + items_in w r ts
items-one w r t ts = sum_by-append (λ (u : Triple). bit (nat_le u.repetition r && nat_le (inside w r) u.definition)) (t ∷ []) ts ∙ omega arith

-- the way v lies beneath depth lists and def levels of the way w
abbrev Lies : Way → ℕ → ℕ → Way → Type 0
Lies w depth def v = (r : ℕ) → 0 < r → inside w (depth + r) ≡ def + inside v r

lies-list : (w : Way) (depth def : ℕ) (n : Bool) (v : Way) → Lies w depth def (in_list n v) → Lies w (depth + 1) (def + (bit n + 1)) v
lies-list w depth def n v lies r h =
    let e : depth + 1 + r ≡ depth + suc r = omega arith in
    let u = up-bit n (suc (inside v r)) in
    rw (e, lies (suc r) (omega arith)) (omega (arith, u))

lies-struct : (w : Way) (depth def : ℕ) (n : Bool) (i : ℕ) (v : Way) → Lies w depth def (in_struct n i v) → Lies w (depth + 0) (def + (bit n + 0)) v
lies-struct w depth def n i v lies r h =
    let e : depth + 0 + r ≡ depth + r = omega arith in
    let u = up-bit n (inside v r) in
    rw (e, lies r h, inside-some n i v r h) (omega (arith, u))

items-step : (w : Way) (t : Triple) (ts : List Triple) (depth def : ℕ) (v : Way) → Lies w depth def v → items_from (max_repetition v) (depth + 1) w (t ∷ ts) ≡ plus (gives t.repetition t.definition depth def v) (items_from (max_repetition v) (depth + 1) w ts)
unfolding gives plus
items-step w t ts depth def (at_leaf n) lies = refl
items-step w t ts depth def (in_list n v) lies =
    let u = up-bit n 1 in
    let here : inside w (depth + 1) ≡ def + (bit n + 1) = lies 1 (omega arith) ∙ omega (arith, u) in
    let next : suc (depth + 1) ≡ depth + 1 + 1 = omega arith in
    rw (items-one w (depth + 1) t ts, next, items-step w t ts (depth + 1) (def + (bit n + 1)) v (lies-list w depth def n v lies), here) refl
items-step w t ts depth def (in_struct n i v) lies =
    let same : depth + 1 ≡ depth + 0 + 1 = omega arith in
    rw same (items-step w t ts (depth + 0) (def + (bit n + 0)) v (lies-struct w depth def n i v lies))

-- ---- none, and all

items-none : (v w : Way) (r : ℕ) (ks : List Kept) → Is v ks → plus (list_counts ks) (items_from (max_repetition v) r w []) ≡ list_counts ks
unfolding plus
items-none _ w r _ (leaf_is n m c) = refl
items-none _ w r _ (list_is n v m starts ks e is) =
    let z : count ks + 0 ≡ count ks = omega arith in
    rw (z, items-none v w (suc r) ks is) refl
items-none _ w r _ (struct_is n i v m c ks e is) = items-none v w r ks is

count-empty : (w : Way) → count (empty_state w) ≡ 0
count-empty (at_leaf n) = refl
count-empty (in_list n w) = refl
count-empty (in_struct n i w) = refl

items-whole : (v w : Way) (r : ℕ) (ts : List Triple) → plus (list_counts (empty_state v)) (items_from (max_repetition v) r w ts) ≡ items_from (max_repetition v) r w ts
unfolding plus
items-whole (at_leaf n) w r ts = refl
items-whole (in_list n v) w r ts =
    let e : 0 + items_in w r ts ≡ items_in w r ts = omega arith in
    rw (count-empty v, e, items-whole v w (suc r) ts) refl
items-whole (in_struct n i v) w r ts = items-whole v w r ts

lies-whole : (w : Way) → Lies w 0 0 w
lies-whole w r h =
    let e : 0 + r ≡ r = omega arith in
    rw e (omega arith)

counts-walk : (w : Way) (ts : List Triple) (ks : List Kept) → Is w ks → list_counts (walk (map mark_of ts) ks) ≡ plus (list_counts ks) (items_from (max_repetition w) 1 w ts)
counts-walk w [] ks is = sym (items-none w w 1 ks is)
counts-walk w (t ∷ ts) ks is =
    let here = counts-step t.repetition t.definition false 0 0 w ks is in
    let rest = counts-walk w ts (step 1 t.repetition t.definition false 0 0 ks) (step-is t.repetition t.definition false 0 0 w ks is) in
    let one = items-step w t ts 0 0 w (lies-whole w) in
    rest ∙ (rw (here, plus-assoc) (ap (plus (list_counts ks)) (sym one)))

pub items-counted : ItemsAreCounted
items-counted w ts = counts-walk w ts (empty_state w) (empty-is w) ∙ items-whole w w 1 ts
