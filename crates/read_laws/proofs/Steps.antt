-- What a level pair makes of a state.
use Rattle.std.proofs.Common.{◌≡◌, ℕ, zero, suc, ◌+◌, ◌-◌, ◌<◌, ◌≤◌, true, false, Bool, cond, ◌&&◌, ◌||◌, nat_le, nat_lt, is_some, Option, Some, None, List, [], ◌∷◌, ◌++◌, length, replicate, refl, arith, length-append, ap, get_or, ◌∙◌, inl, inr, ◌⊎◌}
use Rattle.std.proofs.lemmas.Bool.{le-leb, cases_lt}
use Rattle.std.proofs.lemmas.List.{get_or_past, get_or_default, length-replicate}
use Rattle.std.proofs.lemmas.Bool.Decides.{leb_tells}
use Rattle.std.proofs.Math.ListN.{get_or-append}
use Rattle.std.proofs.Math.Seq.{get_or-append_seam}
use Rattle.shredding.specs.Slot.{Value, Slot, null}
use Rattle.shredding.specs.Shred.{single}
use Rattle.shredding.specs.Parts.{keeps, MaskFits}
use Rattle.read_laws.specs.State.{Kept, kept_leaf, kept_list, kept_struct, count, size, item_end, leaf_count, StateFits}
use Rattle.read_laws.specs.Step.{bit, pushes, grown, rising, pushed, gain, is_list, is_there, hides, growth, step, top_level, leaf_nullable, Continues, LeafGives}
use Rattle.read_laws.specs.Column.{kept_column}
use Rattle.read_laws.proofs.Runs.{run, run-one, run-same, run_or-none, run_or-some, run-grow, run-push-all, item-same, item-push, item-grow}
use Rattle.read_laws.proofs.Triples.{kept_triples, leaf_triples, kept_column-run}

-- ---- tests
pub leb-lt : (a b : ℕ) → b < a → nat_le a b ≡ false
leb-lt a b h = elim (leb_tells a b) [ inl e ↦ absurd (omega (arith, e.1)) | inr e ↦ e.0 ]

or-true : (b : Bool) → (b || true) ≡ true
or-true true = refl
or-true false = refl

and-false : (b : Bool) → (b && false) ≡ false
and-false true = refl
and-false false = refl

pub pushes-new : (rep level : ℕ) (junk : Bool) (depth def : ℕ) → rep ≤ depth → def ≤ level → pushes rep level junk depth def ≡ true
pushes-new rep level junk depth def h k = rw (le-leb rep depth h, le-leb def level k) (or-true junk)

pub pushes-low : (rep level depth def : ℕ) → level < def → pushes rep level false depth def ≡ false
pushes-low rep level depth def h = rw (leb-lt def level h) (and-false (nat_le rep depth))

pub pushes-deep : (rep level depth def : ℕ) → depth < rep → pushes rep level false depth def ≡ false
pushes-deep rep level depth def h = rw (leb-lt rep depth h) refl

-- at a part that is not too deep a pair pushes, or ends above it
pub reaches : (rep level : ℕ) (junk : Bool) (depth def : ℕ) → rep ≤ depth → (pushes rep level junk depth def ≡ true) ⊎ ((junk ≡ false) × (level < def))
reaches rep level true depth def h = inl refl
reaches rep level false depth def h =
    elim (leb_tells def level) [ inl e ↦ inl (pushes-new rep level false depth def h e.1) | inr e ↦ inr (refl, e.1) ]

-- ---- steps by the outcome of the test
module _ (m rep level : ℕ) (junk : Bool) (depth def : ℕ) (k : Kept) (ks : List Kept) where
  pub step-push : pushes rep level junk depth def ≡ true → step m rep level junk depth def (k ∷ ks) ≡ pushed k (count ks) (growth rep level k depth def) (is_there k level def) m ∷ step m rep level (hides k level def) (depth + bit (is_list k)) (def + gain k) ks
  unfolding step
  step-push e = rw e

  pub step-pass : pushes rep level junk depth def ≡ false → step m rep level junk depth def (k ∷ ks) ≡ k ∷ step m rep level false (depth + bit (is_list k)) (def + gain k) ks
  unfolding step
  step-pass e = rw e

-- a pair that ends above a part leaves it as it was
pub step-untouched : (m rep level depth def : ℕ) (ks : List Kept) → level < def → step m rep level false depth def ks ≡ ks
unfolding step
step-untouched m rep level depth def [] h = refl
step-untouched m rep level depth def (k ∷ ks) h =
    rw (pushes-low rep level depth def h, step-untouched m rep level (depth + bit (is_list k)) (def + gain k) ks (omega arith))

pub length-rising : (first by m : ℕ) → length (rising first by m) ≡ m
unfolding rising
length-rising first by zero = refl
length-rising first by (suc m) = ap suc (length-rising (first + by) by m)

pub size-pushed : (k : Kept) (first by : ℕ) (v : Bool) (m : ℕ) → size (pushed k first by v m) ≡ size k + m
size-pushed (kept_leaf n c) first by v m = refl
size-pushed (kept_list mask starts) first by v m = length-append starts (rising first by m) ∙ ap (λ n. length starts + n) (length-rising first by m)
size-pushed (kept_struct mask c) first by v m = refl

-- a part that is pushed to has m slots more
pub count-step : (m rep level : ℕ) (junk : Bool) (depth def : ℕ) (ks : List Kept) → StateFits ks → pushes rep level junk depth def ≡ true → count (step m rep level junk depth def ks) ≡ count ks + m
count-step m rep level junk depth def [] f e = absurd f
count-step m rep level junk depth def (k ∷ ks) f e = rw (step-push m rep level junk depth def k ks e) (size-pushed k (count ks) (growth rep level k depth def) (is_there k level def) m)

pub count-step-deep : (m rep level depth def : ℕ) (ks : List Kept) → depth < rep → count (step m rep level false depth def ks) ≡ count ks
unfolding step
count-step-deep m rep level depth def [] e = refl
count-step-deep m rep level depth def (k ∷ ks) e = rw (pushes-deep rep level depth def e)

-- ---- masks
pub keeps-grown : (mask : Option (List Bool)) (n m : ℕ) (v : Bool) (i : ℕ) → MaskFits mask n → i < n → keeps (grown mask m v) i ≡ keeps mask i
keeps-grown None n m v i f h = refl
keeps-grown (Some bits) n m v i f h = get_or-append bits (replicate m v) true i (omega (arith, f))

pub keeps-last : (mask : Option (List Bool)) (n : ℕ) (v : Bool) → MaskFits mask n → keeps (grown mask 1 v) n ≡ cond (is_some mask) v true
keeps-last None n v f = refl
keeps-last (Some bits) n v f = rw (← f) (get_or-append_seam bits v [] true)

pub some-grown : (mask : Option (List Bool)) (m : ℕ) (v : Bool) → is_some (grown mask m v) ≡ is_some mask
some-grown None m v = refl
some-grown (Some bits) m v = refl

pub fits-grown : (mask : Option (List Bool)) (n m : ℕ) (v : Bool) → MaskFits mask n → MaskFits (grown mask m v) (n + m)
fits-grown None n m v f = f
fits-grown (Some bits) n m v f = length-append bits (replicate m v) ∙ (ap (λ k. length bits + k) (length-replicate m v) ∙ ap (λ k. k + m) f)

-- ---- starts
pub end-push : (starts : List ℕ) (n m i : ℕ) → i < length starts → item_end (starts ++ n ∷ []) m i ≡ item_end starts n i
end-push starts n m i h =
    elim (cases_lt (i + 1) (length starts)) [
      | inl e ↦ rw (get_or-append starts (n ∷ []) m (i + 1) e) (get_or_default starts (i + 1) m n e)
      | inr e ↦ let eq : length starts ≡ i + 1 = omega arith in
          rw (get_or_past starts (i + 1) n e, ← eq) (get_or-append_seam starts n [] m)
    ]

pub end-fits : (starts : List ℕ) (n i : ℕ) → ((k : ℕ) → k < length starts → get_or starts k 0 ≤ n) → item_end starts n i ≤ n
end-fits starts n i fits =
    elim (cases_lt (i + 1) (length starts)) [
      | inl e ↦ rw (get_or_default starts (i + 1) n 0 e) (fits (i + 1) e)
      | inr e ↦ rw (get_or_past starts (i + 1) n e) (omega arith)
    ]

-- ---- slots that a pair leaves as they were
abbrev now : ℕ → ℕ → Bool → ℕ → ℕ → List Kept → List Kept
now rep level junk depth def ks = step 1 rep level junk depth def ks

pub rising-one : (first by : ℕ) → rising first by 1 ≡ first ∷ []
unfolding rising
rising-one first by = refl

pub same-new : (leaf : ℕ → Slot) (rep level : ℕ) (junk : Bool) (depth def : ℕ) (ks : List Kept) → StateFits ks → rep ≤ depth → (r i : ℕ) → i < count ks → kept_triples leaf (now rep level junk depth def ks) def depth r i ≡ kept_triples leaf ks def depth r i
unfolding kept_triples
same-new leaf rep level junk depth def [] f h r i b = absurd f
same-new leaf rep level junk depth def (kept_leaf n c ∷ ks) f h r i b =
    elim (reaches rep level junk depth def h) [
      | inl e ↦ rw (step-push 1 rep level junk depth def (kept_leaf n c) ks e)
      | inr e ↦ rw (e.0, step-untouched 1 rep level depth def (kept_leaf n c ∷ ks) e.1)
    ]
same-new leaf rep level junk depth def (kept_list m starts ∷ ks) f h r i b =
    let k = kept_list m starts in
    let v = is_there k level def in
    elim (reaches rep level junk depth def h) [
      | inl e ↦
          let ks' = now rep level (hides k level def) (depth + bit (is_list k)) (def + gain k) ks in
          let below = same-new leaf rep level (hides k level def) (depth + bit (is_list k)) (def + gain k) ks f.3 (omega arith) in
          let item = item-same (single r (def + bit (is_some m)) None) (kept_triples leaf ks' (def + gain k) (depth + bit (is_list k))) (kept_triples leaf ks (def + gain k) (depth + bit (is_list k))) r (depth + 1) (get_or starts i 0) (item_end starts (count ks) i) (count ks) below (end-fits starts (count ks) i f.1) in
          rw (step-push 1 rep level junk depth def k ks e, rising-one (count ks) (growth rep level k depth def), some-grown m 1 v, keeps-grown m (length starts) 1 v i f.0 b, end-push starts (count ks) (count ks') i b, get_or-append starts (count ks ∷ []) 0 i b, item)
      | inr e ↦ rw (e.0, step-untouched 1 rep level depth def (k ∷ ks) e.1)
    ]
same-new leaf rep level junk depth def (kept_struct m c ∷ ks) f h r i b =
    let k = kept_struct m c in
    let v = is_there k level def in
    elim (reaches rep level junk depth def h) [
      | inl e ↦
          let below = same-new leaf rep level (hides k level def) (depth + bit (is_list k)) (def + gain k) ks f.2 (omega arith) r i (omega (arith, f.1)) in
          rw (step-push 1 rep level junk depth def k ks e, some-grown m 1 v, keeps-grown m c 1 v i f.0 b, below)
      | inr e ↦ rw (e.0, step-untouched 1 rep level depth def (k ∷ ks) e.1)
    ]

-- ---- the slot that a pair begins
pub arm : (nullable : Bool) (level def : ℕ) → def ≤ level → ((cond nullable (nullable && nat_lt def level) true ≡ true) × (def + bit nullable ≤ level)) ⊎ ((cond nullable (nullable && nat_lt def level) true ≡ false) × (level ≡ def) × (level < def + bit nullable))
arm false level def h = inl (refl, omega arith)
arm true level def h = elim (leb_tells (suc def) level) [ inl e ↦ inl (e.0, omega (arith, e.1)) | inr e ↦ inr (e.0, omega (arith, e.1), omega (arith, e.1)) ]

-- a leaf's slot
leaf-none : (n : Bool) (level def : ℕ) (s : Slot) → def ≤ level → level < def + gain (kept_leaf n 0) → (level + bit n ≡ def + gain (kept_leaf n 0) → s ≡ null) → (s ≡ null) × (level ≡ def)
leaf-none false level def s h below gives = absurd (omega arith)
leaf-none true level def s h below gives = (gives (omega arith), omega arith)

leaf-gives : (n : Bool) (level def : ℕ) (s : Slot) (o : Option Value) → def ≤ level → LeafGives n level (def + gain (kept_leaf n 0)) s o → (r : ℕ) → leaf_triples n s r def ≡ single r level o
leaf-gives n level def s None h gives r = let e = leaf-none n level def s h gives.0 gives.1 in rw (e.0, e.1)
leaf-gives n level def s (Some v) h gives r = rw (gives.1, gives.0)

-- beneath the greatest level there is no value
below-none : (n : Bool) (level top : ℕ) (s : Slot) (o : Option Value) → LeafGives n level top s o → level < top → o ≡ None
below-none n level top s None gives h = refl
below-none n level top s (Some v) gives h = absurd (omega (arith, gives.0))

top-grows : (def : ℕ) (ks : List Kept) → def ≤ top_level def ks
top-grows def [] = omega arith
top-grows def (k ∷ ks) = let e = top-grows (def + gain k) ks in omega arith

pub last-new : (leaf : ℕ → Slot) (rep level : ℕ) (junk : Bool) (depth def : ℕ) (ks : List Kept) (o : Option Value) → StateFits ks → rep ≤ depth → def ≤ level → level ≤ top_level def ks → LeafGives (leaf_nullable ks) level (top_level def ks) (leaf (leaf_count ks)) o → (r : ℕ) → kept_triples leaf (now rep level junk depth def ks) def depth r (count ks) ≡ single r level o
unfolding kept_triples
last-new leaf rep level junk depth def [] o f h low top gives r = absurd f
last-new leaf rep level junk depth def (kept_leaf n c ∷ []) o f h low top gives r =
    rw (step-push 1 rep level junk depth def (kept_leaf n c) [] (pushes-new rep level junk depth def h low)) (leaf-gives n level def (leaf c) o low gives r)
last-new leaf rep level junk depth def (kept_leaf n c ∷ k ∷ ks) o f h low top gives r = absurd (omega (arith, f))
last-new leaf rep level junk depth def (kept_list m starts ∷ ks) o f h low top gives r =
    let k = kept_list m starts in
    let n = count ks in
    let D : ℕ = def + gain k in
    let K : ℕ = depth + bit (is_list k) in
    let ks' = now rep level (hides k level def) K D ks in
    let v = is_there k level def in
    let start : get_or (starts ++ n ∷ []) (length starts) 0 ≡ n = get_or-append_seam starts n [] 0 in
    let end : item_end (starts ++ n ∷ []) (count ks') (length starts) ≡ count ks' = get_or_past (starts ++ n ∷ []) (length starts + 1) (count ks') (rw (length-append starts (n ∷ [])) (omega arith)) in
    let deep = top-grows D ks in
    elim (arm (is_some m) level def low) [
      | inl e ↦
          elim (cases_lt level D) [
            | inl below ↦
                let none : count ks' - n ≡ 0 = rw (step-untouched 1 rep level K D ks below) (omega arith) in
                let no-value : o ≡ None = below-none _ level (top_level D ks) _ o gives (omega arith) in
                let same : def + bit (is_some m) ≡ level = omega (arith, e.1) in
                rw (step-push 1 rep level junk depth def k ks (pushes-new rep level junk depth def h low), rising-one n (growth rep level k depth def), keeps-last m (length starts) v f.0, e.0, some-grown m 1 v, start, end, run_or-none _ _ _ _ _ _ none, same, no-value)
            | inr above ↦
                let more : count ks' ≡ n + 1 = count-step 1 rep level false K D ks f.3 (pushes-new rep level false K D (omega arith) above) in
                let one : count ks' - n ≡ 1 = omega arith in
                let some : 0 < count ks' - n = omega arith in
                let below = last-new leaf rep level false K D ks o f.3 (omega arith) above top gives r in
                rw (step-push 1 rep level junk depth def k ks (pushes-new rep level junk depth def h low), rising-one n (growth rep level k depth def), keeps-last m (length starts) v f.0, e.0, some-grown m 1 v, start, end, run_or-some _ _ _ _ _ _ some, run-one _ _ _ _ _ one, below)
          ]
      | inr e ↦
          let no-value : o ≡ None = below-none _ level (top_level D ks) _ o gives (omega arith) in
          rw (step-push 1 rep level junk depth def k ks (pushes-new rep level junk depth def h low), keeps-last m (length starts) v f.0, e.0, e.1, no-value)
    ]
last-new leaf rep level junk depth def (kept_struct m c ∷ ks) o f h low top gives r =
    let k = kept_struct m c in
    let D : ℕ = def + gain k in
    let K : ℕ = depth + bit (is_list k) in
    let v = is_there k level def in
    let deep = top-grows D ks in
    elim (arm (is_some m) level def low) [
      | inl e ↦
          let below = last-new leaf rep level (hides k level def) K D ks o f.2 (omega arith) (omega (arith, e.1)) top gives r in
          rw (step-push 1 rep level junk depth def k ks (pushes-new rep level junk depth def h low), keeps-last m c v f.0, e.0, some-grown m 1 v) (rw f.1 at below)
      | inr e ↦
          let no-value : o ≡ None = below-none _ level (top_level D ks) _ o gives (omega (arith, e.2)) in
          rw (step-push 1 rep level junk depth def k ks (pushes-new rep level junk depth def h low), keeps-last m c v f.0, e.0, e.1, no-value)
    ]

-- ---- the slot that a pair goes on with
pub same-deep : (leaf : ℕ → Slot) (rep level depth def : ℕ) (ks : List Kept) → StateFits ks → depth < rep → Continues rep level depth def ks → (r i : ℕ) → i + 1 < count ks → kept_triples leaf (now rep level false depth def ks) def depth r i ≡ kept_triples leaf ks def depth r i
unfolding kept_triples
same-deep leaf rep level depth def [] f h g r i b = absurd f
same-deep leaf rep level depth def (kept_leaf n c ∷ ks) f h g r i b = absurd g
same-deep leaf rep level depth def (kept_list m starts ∷ ks) f h g r i b =
    let k = kept_list m starts in
    let n = count ks in
    let D : ℕ = def + gain k in
    let K : ℕ = depth + bit (is_list k) in
    let ks' = now rep level false K D ks in
    let end : item_end starts (count ks') i ≡ item_end starts n i = get_or_default starts (i + 1) (count ks') n b in
    elim (cases_lt (depth + 1) rep) [
      | inl deeper ↦
          let below = same-deep leaf rep level K D ks f.3 deeper (g.4 deeper) in
          let fits : item_end starts n i ≤ n - 1 = rw (get_or_default starts (i + 1) n 0 b) (omega (arith, f.2 (i + 1) (length starts - 1) (omega arith) (omega arith), g.2)) in
          let item = item-same (single r (def + bit (is_some m)) None) (kept_triples leaf ks' D K) (kept_triples leaf ks D K) r (depth + 1) (get_or starts i 0) (item_end starts n i) (n - 1) (λ q j a. below q j (omega arith)) fits in
          rw (step-pass 1 rep level false depth def k ks (pushes-deep rep level depth def h), end, item)
      | inr here ↦
          let below = same-new leaf rep level false K D ks f.3 here in
          let item = item-same (single r (def + bit (is_some m)) None) (kept_triples leaf ks' D K) (kept_triples leaf ks D K) r (depth + 1) (get_or starts i 0) (item_end starts n i) n below (end-fits starts n i f.1) in
          rw (step-pass 1 rep level false depth def k ks (pushes-deep rep level depth def h), end, item)
    ]
same-deep leaf rep level depth def (kept_struct m c ∷ ks) f h g r i b =
    let k = kept_struct m c in
    let below = same-deep leaf rep level (depth + bit (is_list k)) (def + gain k) ks f.2 (omega arith) g.2 r i (omega (arith, f.1)) in
    rw (step-pass 1 rep level false depth def k ks (pushes-deep rep level depth def h), below)

pub last-deep : (leaf : ℕ → Slot) (rep level depth def : ℕ) (ks : List Kept) (o : Option Value) → StateFits ks → depth < rep → level ≤ top_level def ks → Continues rep level depth def ks → LeafGives (leaf_nullable ks) level (top_level def ks) (leaf (leaf_count ks)) o → (r : ℕ) → kept_triples leaf (now rep level false depth def ks) def depth r (count ks - 1) ≡ kept_triples leaf ks def depth r (count ks - 1) ++ single rep level o
unfolding kept_triples
last-deep leaf rep level depth def [] o f h top g gives r = absurd f
last-deep leaf rep level depth def (kept_leaf n c ∷ ks) o f h top g gives r = absurd g
last-deep leaf rep level depth def (kept_list m starts ∷ ks) o f h top g gives r =
    let k = kept_list m starts in
    let n = count ks in
    let D : ℕ = def + gain k in
    let K : ℕ = depth + bit (is_list k) in
    let ks' = now rep level false K D ks in
    let start = get_or starts (length starts - 1) 0 in
    let end : (j : ℕ) → item_end starts j (length starts - 1) ≡ j = λ j. get_or_past starts (length starts - 1 + 1) j (omega (arith, g.0)) in
    elim (cases_lt (depth + 1) rep) [
      | inl deeper ↦
          let same = same-deep leaf rep level K D ks f.3 deeper (g.4 deeper) in
          let last = last-deep leaf rep level K D ks o f.3 deeper top (g.4 deeper) gives in
          let size-same : count ks' ≡ n = count-step-deep 1 rep level K D ks deeper in
          let item = item-grow (single r (def + bit (is_some m)) None) (kept_triples leaf ks' D K) (kept_triples leaf ks D K) r (depth + 1) start n (single rep level o) g.2 same last in
          rw (step-pass 1 rep level false depth def k ks (pushes-deep rep level depth def h), end n, end (count ks'), size-same, g.1, item)
      | inr here ↦
          let same = same-new leaf rep level false K D ks f.3 here in
          let more : count ks' ≡ n + 1 = count-step 1 rep level false K D ks f.3 (pushes-new rep level false K D here g.3) in
          let is-rep : depth + 1 ≡ rep = omega arith in
          let last = last-new leaf rep level false K D ks o f.3 here g.3 top gives (depth + 1) in
          let item = item-push (single r (def + bit (is_some m)) None) (kept_triples leaf ks' D K) (kept_triples leaf ks D K) r (depth + 1) start n (single (depth + 1) level o) g.2 same last in
          rw (step-pass 1 rep level false depth def k ks (pushes-deep rep level depth def h), end n, end (count ks'), more, g.1, item, is-rep)
    ]
last-deep leaf rep level depth def (kept_struct m c ∷ ks) o f h top g gives r =
    let k = kept_struct m c in
    let below = last-deep leaf rep level (depth + bit (is_list k)) (def + gain k) ks o f.2 (omega arith) top g.2 gives r in
    rw (step-pass 1 rep level false depth def k ks (pushes-deep rep level depth def h), g.1) (rw f.1 at below)

pub some_slot : (rep level depth def : ℕ) (ks : List Kept) → Continues rep level depth def ks → 0 < count ks
some_slot rep level depth def [] g = absurd g
some_slot rep level depth def (kept_leaf n c ∷ ks) g = absurd g
some_slot rep level depth def (kept_list m starts ∷ ks) g = g.0
some_slot rep level depth def (kept_struct m c ∷ ks) g = g.0

-- a pair that begins a row
pub column-row : (leaf : ℕ → Slot) (level : ℕ) (ks : List Kept) (o : Option Value) → StateFits ks → level ≤ top_level 0 ks → LeafGives (leaf_nullable ks) level (top_level 0 ks) (leaf (leaf_count ks)) o → kept_column leaf (now 0 level false 0 0 ks) ≡ kept_column leaf ks ++ single 0 level o
column-row leaf level ks o f top gives =
    let ks' = now 0 level false 0 0 ks in
    let f' = kept_triples leaf ks' 0 0 in
    let n = count ks in
    let more : count ks' ≡ n + 1 = count-step 1 0 level false 0 0 ks f (pushes-new 0 level false 0 0 (omega arith) (omega arith)) in
    let last = last-new leaf 0 level false 0 0 ks o f (omega arith) (omega arith) top gives 0 in
    let same = run-same f' (kept_triples leaf ks 0 0) 0 0 0 n (λ r i a b. same-new leaf 0 level false 0 0 ks f (omega arith) r i (omega arith)) in
    rw (kept_column-run leaf ks', kept_column-run leaf ks, more, run-push-all f' n, last, same)

column-deep-at : (leaf : ℕ → Slot) (rep level : ℕ) (ks : List Kept) (o : Option Value) (k : ℕ) → StateFits ks → 0 < rep → level ≤ top_level 0 ks → Continues rep level 0 0 ks → LeafGives (leaf_nullable ks) level (top_level 0 ks) (leaf (leaf_count ks)) o → count ks ≡ suc k → count (now rep level false 0 0 ks) ≡ count ks → run (kept_triples leaf (now rep level false 0 0 ks) 0 0) 0 0 0 (count (now rep level false 0 0 ks)) ≡ run (kept_triples leaf ks 0 0) 0 0 0 (count ks) ++ single rep level o
column-deep-at leaf rep level ks o k f h top g gives e same-count =
    let at_end : count ks - 1 ≡ 0 + k = omega arith in
    let grow = run-grow (kept_triples leaf (now rep level false 0 0 ks) 0 0) (kept_triples leaf ks 0 0) 0 0 0 k (single rep level o) (λ r i a b. same-deep leaf rep level 0 0 ks f h g r i (omega arith)) (λ r. rw (← at_end) (last-deep leaf rep level 0 0 ks o f h top g gives r)) in
    rw (same-count, e) grow

-- a pair that goes on with the last row
pub column-deep : (leaf : ℕ → Slot) (rep level : ℕ) (ks : List Kept) (o : Option Value) → StateFits ks → 0 < rep → level ≤ top_level 0 ks → Continues rep level 0 0 ks → LeafGives (leaf_nullable ks) level (top_level 0 ks) (leaf (leaf_count ks)) o → kept_column leaf (now rep level false 0 0 ks) ≡ kept_column leaf ks ++ single rep level o
column-deep leaf rep level ks o f h top g gives =
    let same-count = count-step-deep 1 rep level 0 0 ks h in
    let some = some_slot rep level 0 0 ks g in
    let all = column-deep-at leaf rep level ks o (count ks - 1) f h top g gives (omega arith) same-count in
    rw (kept_column-run leaf (now rep level false 0 0 ks), kept_column-run leaf ks) all
