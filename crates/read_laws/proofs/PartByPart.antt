-- A block part by part.
use Rattle.std.proofs.Common.{◌≡◌, inl, inr, ℕ, ◌+◌, Bool, true, false, cond, ◌&&◌, List, [], ◌∷◌, map, length, refl, arith, ap, sym, ◌∙◌}
use Rattle.read_laws.specs.State.{Kept, kept_leaf, kept_list, kept_struct, count, StateFits}
use Rattle.read_laws.specs.Step.{bit, pushes, pushed, gain, is_list, is_there, hides, growth, step}
use Rattle.read_laws.specs.Block.{Mark, marks_part, beneath, grows_by, pushed_all, block, BlocksAreWalks}
use Rattle.read_laws.proofs.Steps.{step-push, step-pass, count-step}
use Rattle.read_laws.proofs.Stretches.{cases_bool, nullable-pushed, list-pushed, struct-pushed, step-none, fits-rest}

-- the part beneath grows by what `grows_by` says
grows-any : (rep level : ℕ) (junk : Bool) (depth def : ℕ) (ks : List Kept) → StateFits ks → count (step 1 rep level junk depth def ks) ≡ count ks + bit (pushes rep level junk depth def)
grows-any rep level junk depth def [] f = absurd f
grows-any rep level junk depth def (k ∷ ks) f = elim (cases_bool (pushes rep level junk depth def)) [
  | inl e ↦ rw (count-step 1 rep level junk depth def (k ∷ ks) f e, e)
  | inr e ↦ rw (step-pass 1 rep level junk depth def k ks e, e) (omega arith)
]

not-list : (k : Kept) (first by : ℕ) (v : Bool) (b : Bool) → is_list k ≡ false → is_list (cond b (pushed k first by v 1) k) ≡ false
not-list k first by v true e = list-pushed k first by v 1 ∙ e
not-list k first by v false e = e

-- a part that is no list keeps no places
same-place : (k : Kept) (a b by : ℕ) (v : Bool) → is_list k ≡ false → pushed k a by v 1 ≡ pushed k b by v 1
same-place (kept_leaf n c) a b by v e = refl
same-place (kept_list mask starts) a b by v e = absurd (cc)
same-place (kept_struct mask c) a b by v e = refl

pub no-places : (k : Kept) (a b depth def : ℕ) (ms : List Mark) → is_list k ≡ false → pushed_all k a depth def ms ≡ pushed_all k b depth def ms
no-places k a b depth def [] e = refl
no-places k a b depth def (m ∷ ms) e =
    let g = growth m.repetition m.definition k depth def in
    let v = is_there k m.definition def in
    let n : ℕ = grows_by k depth def m in
    ap (λ (h : Kept). pushed_all (cond (marks_part depth def m) h k) (a + n) depth def ms) (same-place k a b g v e)
    ∙ no-places (cond (marks_part depth def m) (pushed k b g v 1) k) (a + n) (b + n) depth def ms (not-list k b g v (marks_part depth def m) e)

beneath-pushed : (k : Kept) (first by : ℕ) (v : Bool) (depth def : ℕ) (m : Mark) → beneath (pushed k first by v 1) depth def m ≡ beneath k depth def m
beneath-pushed k first by v depth def m = rw (nullable-pushed k first by v 1, struct-pushed k first by v 1) refl

all-beneath : (k : Kept) (first by : ℕ) (v : Bool) (depth def : ℕ) (ms : List Mark) → map (beneath (pushed k first by v 1) depth def) ms ≡ map (beneath k depth def) ms
all-beneath k first by v depth def [] = refl
all-beneath k first by v depth def (m ∷ ms) = rw (nullable-pushed k first by v 1, struct-pushed k first by v 1) (ap (λ t. beneath k depth def m ∷ t) (all-beneath k first by v depth def ms))

gain-pushed : (k : Kept) (first by : ℕ) (v : Bool) → gain (pushed k first by v 1) ≡ gain k
gain-pushed k first by v = rw (nullable-pushed k first by v 1, list-pushed k first by v 1) refl

-- the number of slots beneath, where it counts
heads : (k h : Kept) (depth def : ℕ) (m : Mark) (ms : List Mark) (junk : Bool) (ks : List Kept) → StateFits (k ∷ ks) → (is_list k ≡ false → is_list h ≡ false) → junk ≡ (marks_part depth def m && hides k m.definition def) → pushed_all h (count ks + grows_by k depth def m) depth def ms ≡ pushed_all h (count (step 1 m.repetition m.definition junk (depth + bit (is_list k)) (def + gain k) ks)) depth def ms
heads k h depth def m ms junk ks f same j = elim (fits-rest k ks f) [
  | inl fits ↦ rw (j, grows-any m.repetition m.definition (marks_part depth def m && hides k m.definition def) (depth + bit (is_list k)) (def + gain k) ks fits)
  | inr none ↦ no-places h (count ks + grows_by k depth def m) (count (step 1 m.repetition m.definition junk (depth + bit (is_list k)) (def + gain k) ks)) depth def ms (same none.0)
]

block-end : (ms : List Mark) (depth def : ℕ) (ks : List Kept) → length ks ≡ 0 → block ms depth def ks ≡ []
block-end ms depth def [] e = refl
block-end ms depth def (k ∷ ks) e = absurd (omega (arith, e))

step-end : (rep level : ℕ) (junk : Bool) (depth def : ℕ) (ks : List Kept) → length ks ≡ 0 → length (step 1 rep level junk depth def ks) ≡ 0
step-end rep level junk depth def [] e = rw (step-none 1 rep level junk depth def) refl
step-end rep level junk depth def (k ∷ ks) e = absurd (omega (arith, e))

block-none : (ms : List Mark) (depth def : ℕ) (ks : List Kept) → ks ≡ [] → block [] depth def ks ≡ ks
block-none ms depth def ks e = rw e refl

pub block-nothing : (depth def : ℕ) (ks : List Kept) → block [] depth def ks ≡ ks
block-nothing depth def [] = refl
block-nothing depth def (k ∷ ks) = ap (λ t. k ∷ t) (block-nothing (depth + bit (is_list k)) (def + gain k) ks)

same-tail : (k : Kept) (first by : ℕ) (v : Bool) (depth def : ℕ) (ms : List Mark) (ks : List Kept) → block (map (beneath (pushed k first by v 1) depth def) ms) (depth + bit (is_list (pushed k first by v 1))) (def + gain (pushed k first by v 1)) ks ≡ block (map (beneath k depth def) ms) (depth + bit (is_list k)) (def + gain k) ks
same-tail k first by v depth def ms ks =
    let k' = pushed k first by v 1 in
    ap (λ (t : List Mark). block t (depth + bit (is_list k')) (def + gain k') ks) (all-beneath k first by v depth def ms)
    ∙ (ap (λ (b : Bool). block (map (beneath k depth def) ms) (depth + bit b) (def + gain k') ks) (list-pushed k first by v 1)
    ∙ ap (λ (d : ℕ). block (map (beneath k depth def) ms) (depth + bit (is_list k)) (def + d) ks) (gain-pushed k first by v))

pub block-step : (m : Mark) (ms : List Mark) (depth def : ℕ) (ks : List Kept) → StateFits ks → block (m ∷ ms) depth def ks ≡ block ms depth def (step 1 m.repetition m.definition m.hidden depth def ks)
block-step m ms depth def [] f = absurd f
block-step m ms depth def (k ∷ ks) f =
    let rep = m.repetition in
    let level = m.definition in
    let n = count ks in
    let g = growth rep level k depth def in
    let v = is_there k level def in
    let k' = pushed k n g v 1 in
    let D : ℕ = def + gain k in
    let K : ℕ = depth + bit (is_list k) in
    let marks = map (beneath k depth def) ms in
    elim (cases_bool (marks_part depth def m)) [
      | inl e ↦
          let H = hides k level def in
          let ks' = step 1 rep level H K D ks in
          let hid : (marks_part depth def m && hides k level def) ≡ H = rw e refl in
          let head = heads k k' depth def m ms H ks f (λ l. list-pushed k n g v 1 ∙ l) (rw e refl) in
          let tail : block (beneath k depth def m ∷ marks) K D ks ≡ block marks K D ks' = elim (fits-rest k ks f) [
            | inl fits ↦ block-step (beneath k depth def m) marks K D ks fits ∙ ap (λ (h : Bool). block marks K D (step 1 rep level h K D ks)) hid
            | inr none ↦ block-end (beneath k depth def m ∷ marks) K D ks none.1 ∙ sym (block-end marks K D ks' (step-end rep level H K D ks none.1))
          ] in
          ap (λ (b : Bool). pushed_all (cond b k' k) (n + grows_by k depth def m) depth def ms ∷ block (beneath k depth def m ∷ marks) K D ks) e
          ∙ (ap (λ (h : Kept). h ∷ block (beneath k depth def m ∷ marks) K D ks) head
          ∙ (ap (λ (t : List Kept). pushed_all k' (count ks') depth def ms ∷ t) (tail ∙ sym (same-tail k n g v depth def ms ks'))
          ∙ sym (ap (block ms depth def) (step-push 1 rep level m.hidden depth def k ks e))))
      | inr e ↦
          let ks' = step 1 rep level false K D ks in
          let hid : (marks_part depth def m && hides k level def) ≡ false = rw e refl in
          let head = heads k k depth def m ms false ks f (λ l. l) (rw e refl) in
          let tail : block (beneath k depth def m ∷ marks) K D ks ≡ block marks K D ks' = elim (fits-rest k ks f) [
            | inl fits ↦ block-step (beneath k depth def m) marks K D ks fits ∙ ap (λ (h : Bool). block marks K D (step 1 rep level h K D ks)) hid
            | inr none ↦ block-end (beneath k depth def m ∷ marks) K D ks none.1 ∙ sym (block-end marks K D ks' (step-end rep level false K D ks none.1))
          ] in
          ap (λ (b : Bool). pushed_all (cond b k' k) (n + grows_by k depth def m) depth def ms ∷ block (beneath k depth def m ∷ marks) K D ks) e
          ∙ (ap (λ (h : Kept). h ∷ block (beneath k depth def m ∷ marks) K D ks) head
          ∙ (ap (λ (t : List Kept). pushed_all k (count ks') depth def ms ∷ t) tail
          ∙ sym (ap (block ms depth def) (step-pass 1 rep level m.hidden depth def k ks e))))
    ]

pub walked : BlocksAreWalks
walked [] ks fit = block-nothing 0 0 ks
walked (m ∷ ms) ks fit = block-step m ms 0 0 ks fit.0 ∙ walked ms (step 1 m.repetition m.definition m.hidden 0 0 ks) fit.1
