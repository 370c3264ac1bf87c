-- Parts only grow.
use Rattle.std.proofs.Common.{◌≡◌, inl, inr, ℕ, zero, suc, ◌+◌, ◌≤◌, Bool, true, false, cond, List, [], ◌∷◌, map, length, length-append, arith, ap, sym, ◌∙◌, refl}
use Rattle.read_laws.specs.State.{Kept, kept_leaf, kept_list, kept_struct, count, size}
use Rattle.read_laws.specs.Step.{bit, pushed, gain, rising, is_list, is_there, growth}
use Rattle.read_laws.specs.Block.{Mark, marks_part, beneath, grows_by, pushed_all, block}
use Rattle.read_laws.proofs.Stretches.{list-pushed}
use Rattle.read_state.specs.Kinds.{HasLongItems}
use Rattle.std.proofs.Common.{replicate, get_or, ◌<◌}
use Rattle.read_laws.specs.Step.{step}
use Rattle.read_laws.specs.Block.{AllFit}
use Rattle.read_laws.proofs.Blocks.{stretches-blocks}
use Rattle.read_laws.proofs.PartByPart.{block-nothing}
use Rattle.read_state.specs.Marks.{marks_of}

size-pushed : (k : Kept) (first by : ℕ) (v : Bool) → size k ≤ size (pushed k first by v 1)
size-pushed (kept_leaf n c) first by v = omega arith
size-pushed (kept_list mask starts) first by v = omega (arith, length-append starts (rising first by 1))
size-pushed (kept_struct mask c) first by v = omega arith

size-cond : (b : Bool) (k : Kept) (first by : ℕ) (v : Bool) → size k ≤ size (cond b (pushed k first by v 1) k)
size-cond true k first by v = size-pushed k first by v
size-cond false k first by v = omega arith

list-cond : (b : Bool) (k : Kept) (first by : ℕ) (v : Bool) → is_list (cond b (pushed k first by v 1) k) ≡ is_list k
list-cond true k first by v = list-pushed k first by v 1
list-cond false k first by v = refl

size-all : (k : Kept) (place depth def : ℕ) (ms : List Mark) → size k ≤ size (pushed_all k place depth def ms)
size-all k place depth def [] = omega arith
size-all k place depth def (m ∷ ms) =
    let g = growth m.repetition m.definition k depth def in
    let v = is_there k m.definition def in
    let k' = cond (marks_part depth def m) (pushed k place g v 1) k in
    omega (arith, size-cond (marks_part depth def m) k place g v, size-all k' (place + grows_by k depth def m) depth def ms)

list-all : (k : Kept) (place depth def : ℕ) (ms : List Mark) → is_list (pushed_all k place depth def ms) ≡ is_list k
list-all k place depth def [] = refl
list-all k place depth def (m ∷ ms) =
    let g = growth m.repetition m.definition k depth def in
    let v = is_there k m.definition def in
    let k' = cond (marks_part depth def m) (pushed k place g v 1) k in
    list-all k' (place + grows_by k depth def m) depth def ms ∙ list-cond (marks_part depth def m) k place g v

count-block : (ms : List Mark) (depth def : ℕ) (ks : List Kept) → count ks ≤ count (block ms depth def ks)
count-block ms depth def [] = omega arith
count-block ms depth def (k ∷ ks) = size-all k (count ks) depth def ms

pub long-grows : (ms : List Mark) (depth def : ℕ) (ks : List Kept) → HasLongItems ks → HasLongItems (block ms depth def ks)
long-grows ms depth def [] long = absurd long
long-grows ms depth def (k ∷ ks) long = elim long [
  | inl e ↦ inl (list-all k (count ks) depth def ms ∙ e.0, omega (arith, e.1, count-block (map (beneath k depth def) ms) (depth + bit (is_list k)) (def + gain k) ks))
  | inr e ↦ inr (long-grows (map (beneath k depth def) ms) (depth + bit (is_list k)) (def + gain k) ks e)
]

-- equal pairs as marks

marks-alike : (n k r d : ℕ) → n ≤ k → marks_of (replicate n r) (replicate n d) (replicate k false) ≡ replicate n (record { repetition = r; definition = d; hidden = false })
marks-alike zero k r d h = refl
marks-alike (suc n) zero r d h = absurd (omega (arith, h))
marks-alike (suc n) (suc k) r d h = ap (λ (ms : List Mark). record { repetition = r; definition = d; hidden = false } ∷ ms) (marks-alike n k r d (omega (arith, h)))

pub stretch-is-block : (n r d : ℕ) (reps defs : List ℕ) (ks new : List Kept) → n ≤ 64 → reps ≡ replicate n r → defs ≡ replicate n d → AllFit (marks_of reps defs (replicate 64 false)) ks → new ≡ step n r d false 0 0 ks → new ≡ block (marks_of reps defs (replicate 64 false)) 0 0 ks
stretch-is-block n r d reps defs ks new h a b fit e =
    let m : marks_of reps defs (replicate 64 false) ≡ replicate n (record { repetition = r; definition = d; hidden = false }) = rw (a, b) (marks-alike n 64 r d h) in
    rw m (e ∙ stretches-blocks n r d ks (rw m at fit))

pub copies-are-block : (n r d : ℕ) (ks new : List Kept) → AllFit (marks_of (replicate n r) (replicate n d) (replicate n false)) ks → new ≡ step n r d false 0 0 ks → new ≡ block (marks_of (replicate n r) (replicate n d) (replicate n false)) 0 0 ks
copies-are-block n r d ks new fit e =
    let m = marks-alike n n r d (omega arith) in
    rw m (e ∙ stretches-blocks n r d ks (rw m at fit))

pub all-replicate : (xs : List ℕ) (x : ℕ) → ((k : ℕ) → k < length xs → get_or xs k 0 ≡ x) → xs ≡ replicate (length xs) x
all-replicate [] x h = refl
all-replicate (y ∷ ys) x h = rw (h 0 (omega arith)) (ap (λ (zs : List ℕ). x ∷ zs) (all-replicate ys x (λ k b. h (suc k) (omega (arith, b)))))

pub none-is-block : (reps defs : List ℕ) (ks : List Kept) → length reps ≡ 0 → ks ≡ block (marks_of reps defs (replicate 64 false)) 0 0 ks
none-is-block [] defs ks h = sym (block-nothing 0 0 ks)
none-is-block (r ∷ reps) defs ks h = absurd (omega (arith, h))
