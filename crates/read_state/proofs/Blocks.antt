-- A block's pairs, one after another, and for the part beneath.
use Rattle.std.proofs.Common.{◌≡◌, ℕ, suc, ◌+◌, ◌<◌, ◌≤◌, Bool, true, false, not, cond, ◌&&◌, nat_lt, List, [], ◌∷◌, map, length, drop, get_or, set, refl, arith, ap, sym, ◌∙◌, add-one}
use Rattle.std.proofs.Math.Seq.{drop-cons}
use Rattle.std.proofs.Common.{replicate, inl, inr, Some, None, ◌++◌, [], length-append}
use Rattle.std.proofs.lemmas.Bool.{cases_lt}
use Rattle.std.proofs.lemmas.List.{get_or-replicate, get_or_past, length-replicate}
use Rattle.read_laws.proofs.PartByPart.{no-places}
use Rattle.read_laws.specs.State.{Kept, kept_leaf, kept_struct, count}
use Rattle.read_laws.specs.Step.{bit, pushes, pushed, gain, is_nullable, is_list, is_struct, is_there, growth}
use Rattle.read_laws.specs.Block.{Mark, marks_part, beneath, grows_by, pushed_all, block}
use Rattle.read_laws.proofs.Stretches.{nullable-pushed, list-pushed, struct-pushed}
use Rattle.read_state.specs.declared.boxes.NestedBox.{NestedBox}
use Rattle.read_state.specs.Kinds.{kept_box, all_kept}
use Rattle.read_state.specs.Marks.{marks_of, hides_at}

abbrev pub mark_at : List ℕ → List ℕ → List Bool → ℕ → Mark
mark_at reps defs hidden j = record { repetition = get_or reps j 0; definition = get_or defs j 0; hidden = get_or hidden j false }

pub next-mark : (reps defs : List ℕ) (hidden : List Bool) (j : ℕ) → j < length reps → length defs ≡ length reps → length reps ≤ length hidden → marks_of (drop j reps) (drop j defs) (drop j hidden) ≡ mark_at reps defs hidden j ∷ marks_of (drop (j + 1) reps) (drop (j + 1) defs) (drop (j + 1) hidden)
next-mark reps defs hidden j h d e =
    let r : drop j reps ≡ get_or reps j 0 ∷ drop (j + 1) reps = rw add-one (drop-cons reps j 0 h) in
    let s : drop j defs ≡ get_or defs j 0 ∷ drop (j + 1) defs = rw add-one (drop-cons defs j 0 (omega (arith, h, d))) in
    let t : drop j hidden ≡ get_or hidden j false ∷ drop (j + 1) hidden = rw add-one (drop-cons hidden j false (omega (arith, h, e))) in
    rw (r, s, t) refl

-- one pair more
pub part-step : (part part' : Kept) (place place' depth def : ℕ) (reps defs : List ℕ) (hidden : List Bool) (j : ℕ) (all : Kept) → j < length reps → length defs ≡ length reps → length reps ≤ length hidden →
    pushed_all part place depth def (marks_of (drop j reps) (drop j defs) (drop j hidden)) ≡ all →
    part' ≡ cond (marks_part depth def (mark_at reps defs hidden j)) (pushed part place (growth (get_or reps j 0) (get_or defs j 0) part depth def) (is_there part (get_or defs j 0) def) 1) part →
    place' ≡ place + grows_by part depth def (mark_at reps defs hidden j) →
    pushed_all part' place' depth def (marks_of (drop (j + 1) reps) (drop (j + 1) defs) (drop (j + 1) hidden)) ≡ all
part-step part part' place place' depth def reps defs hidden j all h d e so p q = rw (p, q) (rw (next-mark reps defs hidden j h d e) at so)

-- the flags of the part beneath as marks
pub marks-beneath : (k : Kept) (depth def : ℕ) (reps defs : List ℕ) (hidden beneath' : List Bool) → length defs ≡ length reps → length reps ≤ length hidden → length reps ≤ length beneath' → ((i : ℕ) → i < length reps → get_or beneath' i false ≡ hides_at reps defs hidden depth def (is_nullable k) (is_struct k) i) → marks_of reps defs beneath' ≡ map (beneath k depth def) (marks_of reps defs hidden)
marks-beneath k depth def [] defs hidden beneath' d e f flags = refl
marks-beneath k depth def (r ∷ reps) [] hidden beneath' d e f flags = absurd (omega (arith, d))
marks-beneath k depth def (r ∷ reps) (l ∷ defs) [] beneath' d e f flags = absurd (omega (arith, e))
marks-beneath k depth def (r ∷ reps) (l ∷ defs) (h ∷ hidden) [] d e f flags = absurd (omega (arith, f))
marks-beneath k depth def (r ∷ reps) (l ∷ defs) (h ∷ hidden) (b ∷ beneath') d e f flags =
    let here : b ≡ pushes r l h depth def && (is_struct k && not (is_nullable k && nat_lt def l)) = flags 0 (omega arith) in
    let others = marks-beneath k depth def reps defs hidden beneath' (omega (arith, d)) (omega (arith, e)) (omega (arith, f)) (λ i less. flags (suc i) (omega (arith, less))) in
    rw (here, others) refl

pub record Alike (k k' : Kept) : Type 0 where
  pub nullable : is_nullable k' ≡ is_nullable k
  pub list : is_list k' ≡ is_list k
  pub struct : is_struct k' ≡ is_struct k

pub alike-after : (k k' : Kept) (first by : ℕ) (v p : Bool) → k' ≡ cond p (pushed k first by v 1) k → Alike k k'
alike-after k k' first by v true e = record {
  nullable = ap is_nullable e ∙ nullable-pushed k first by v 1;
  list = ap is_list e ∙ list-pushed k first by v 1;
  struct = ap is_struct e ∙ struct-pushed k first by v 1;
}
alike-after k k' first by v false e = record { nullable = ap is_nullable e; list = ap is_list e; struct = ap is_struct e }

pub weight-one : (b : Bool) → bit b ≤ 1
weight-one true = omega arith
weight-one false = omega arith

-- the first part, then the others
pub block-more : (parts rest new : List NestedBox) (part part' : NestedBox) (depth def first K D : ℕ) (ms ms' : List Mark) → parts ≡ part ∷ rest → first ≡ count (all_kept rest) → kept_box part' ≡ pushed_all (kept_box part) first depth def ms → ms' ≡ map (beneath (kept_box part) depth def) ms → K ≡ depth + bit (is_list (kept_box part)) → D ≡ def + gain (kept_box part) → all_kept new ≡ block ms' K D (all_kept rest) → kept_box part' ∷ all_kept new ≡ block ms depth def (all_kept parts)
block-more parts rest new part part' depth def first K D ms ms' e f p m k d n = rw (e, p, n, f, m, k, d) refl

-- ---- leaves only count
pub leaf-cond : (p n : Bool) (x : ℕ) → cond p (kept_leaf n (x + 1)) (kept_leaf n x) ≡ kept_leaf n (x + bit p)
leaf-cond true n x = refl
leaf-cond false n x = let e : x + 0 ≡ x = omega arith in rw e

pub leaf-init : (n : Bool) (c place depth def : ℕ) (ms : List Mark) → pushed_all (kept_leaf n c) place depth def ms ≡ pushed_all (kept_leaf n (c + 0)) 0 depth def ms
leaf-init n c place depth def ms = let e : c + 0 ≡ c = omega arith in rw e (no-places (kept_leaf n c) place 0 depth def ms refl)

pub leaf-next : (n : Bool) (c count w depth def : ℕ) (reps defs : List ℕ) (hidden : List Bool) (j : ℕ) → j < length reps → length defs ≡ length reps → length reps ≤ length hidden → w ≡ bit (marks_part depth def (mark_at reps defs hidden j)) → pushed_all (kept_leaf n (c + count)) 0 depth def (marks_of (drop j reps) (drop j defs) (drop j hidden)) ≡ pushed_all (kept_leaf n (c + (count + w))) 0 depth def (marks_of (drop (j + 1) reps) (drop (j + 1) defs) (drop (j + 1) hidden))
leaf-next n c count w depth def reps defs hidden j h d e is =
    let m = mark_at reps defs hidden j in
    let p = marks_part depth def m in
    let rest = marks_of (drop (j + 1) reps) (drop (j + 1) defs) (drop (j + 1) hidden) in
    let g : ℕ = grows_by (kept_leaf n (c + count)) depth def m in
    let x : c + count + w ≡ c + (count + w) = omega arith in
    let to : cond p (kept_leaf n (c + count + 1)) (kept_leaf n (c + count)) ≡ kept_leaf n (c + (count + w)) = leaf-cond p n (c + count) ∙ (ap (λ (k : ℕ). kept_leaf n (c + count + k)) (sym is) ∙ ap (kept_leaf n) x) in
    ap (pushed_all (kept_leaf n (c + count)) 0 depth def) (next-mark reps defs hidden j h d e)
    ∙ (ap (λ (k : Kept). pushed_all k (0 + g) depth def rest) to
    ∙ no-places (kept_leaf n (c + (count + w))) (0 + g) 0 depth def rest refl)

pub and-none : (a b : Bool) → (a && (false && b)) ≡ false
and-none true b = refl
and-none false b = refl

pub hides-none : (reps defs : List ℕ) (hidden : List Bool) (depth def : ℕ) (nullable required : Bool) (k : ℕ) → required ≡ false → hides_at reps defs hidden depth def nullable required k ≡ false
hides-none reps defs hidden depth def nullable required k e = rw e (and-none (pushes (get_or reps k 0) (get_or defs k 0) (get_or hidden k false) depth def) (not (nullable && nat_lt def (get_or defs k 0))))

pub none-hidden : (k : ℕ) → get_or (replicate 64 false) k false ≡ false
none-hidden k = elim (cases_lt k 64) [
  | inl e ↦ get_or-replicate 64 k false false e
  | inr e ↦ get_or_past (replicate 64 false) k false (rw (length-replicate 64 false) e)
]

-- ---- required structs only count
pub struct-cond : (p : Bool) (x : ℕ) → cond p (kept_struct None (x + 1)) (kept_struct None x) ≡ kept_struct None (x + bit p)
struct-cond true x = refl
struct-cond false x = let e : x + 0 ≡ x = omega arith in rw e

pub struct-init : (c place depth def : ℕ) (ms : List Mark) → pushed_all (kept_struct None c) place depth def ms ≡ pushed_all (kept_struct None (c + 0)) 0 depth def ms
struct-init c place depth def ms = let e : c + 0 ≡ c = omega arith in rw e (no-places (kept_struct None c) place 0 depth def ms refl)

pub struct-next : (c count w depth def : ℕ) (reps defs : List ℕ) (hidden : List Bool) (j : ℕ) → j < length reps → length defs ≡ length reps → length reps ≤ length hidden → w ≡ bit (marks_part depth def (mark_at reps defs hidden j)) → pushed_all (kept_struct None (c + count)) 0 depth def (marks_of (drop j reps) (drop j defs) (drop j hidden)) ≡ pushed_all (kept_struct None (c + (count + w))) 0 depth def (marks_of (drop (j + 1) reps) (drop (j + 1) defs) (drop (j + 1) hidden))
struct-next c count w depth def reps defs hidden j h d e is =
    let m = mark_at reps defs hidden j in
    let p = marks_part depth def m in
    let rest = marks_of (drop (j + 1) reps) (drop (j + 1) defs) (drop (j + 1) hidden) in
    let g : ℕ = grows_by (kept_struct None (c + count)) depth def m in
    let x : c + count + w ≡ c + (count + w) = omega arith in
    let to : cond p (kept_struct None (c + count + 1)) (kept_struct None (c + count)) ≡ kept_struct None (c + (count + w)) = struct-cond p (c + count) ∙ (ap (λ (k : ℕ). kept_struct None (c + count + k)) (sym is) ∙ ap (kept_struct None) x) in
    ap (pushed_all (kept_struct None (c + count)) 0 depth def) (next-mark reps defs hidden j h d e)
    ∙ (ap (λ (k : Kept). pushed_all k (0 + g) depth def rest) to
    ∙ no-places (kept_struct None (c + (count + w))) (0 + g) 0 depth def rest refl)

-- ---- optional structs keep validities
bits-cond : (p v : Bool) (bits bits' : List Bool) → bits' ≡ cond p (bits ++ v ∷ []) bits → kept_struct (Some bits') (length bits') ≡ cond p (kept_struct (Some (bits ++ v ∷ [])) (length bits + 1)) (kept_struct (Some bits) (length bits))
bits-cond true v bits bits' e = rw (e, length-append bits (v ∷ [])) refl
bits-cond false v bits bits' e = rw e refl

pub bits-step : (bits bits' : List Bool) (depth def : ℕ) (reps defs : List ℕ) (hidden : List Bool) (j : ℕ) (all : Kept) → j < length reps → length defs ≡ length reps → length reps ≤ length hidden →
    pushed_all (kept_struct (Some bits) (length bits)) 0 depth def (marks_of (drop j reps) (drop j defs) (drop j hidden)) ≡ all →
    bits' ≡ cond (marks_part depth def (mark_at reps defs hidden j)) (bits ++ nat_lt def (get_or defs j 0) ∷ []) bits →
    pushed_all (kept_struct (Some bits') (length bits')) 0 depth def (marks_of (drop (j + 1) reps) (drop (j + 1) defs) (drop (j + 1) hidden)) ≡ all
bits-step bits bits' depth def reps defs hidden j all h d e so new =
    let part = kept_struct (Some bits) (length bits) in
    let part' = kept_struct (Some bits') (length bits') in
    let m = mark_at reps defs hidden j in
    let rest = marks_of (drop (j + 1) reps) (drop (j + 1) defs) (drop (j + 1) hidden) in
    let g : ℕ = grows_by part depth def m in
    no-places part' 0 (0 + g) depth def rest refl
    ∙ part-step part part' 0 (0 + g) depth def reps defs hidden j all h d e so (bits-cond (marks_part depth def m) (nat_lt def (get_or defs j 0)) bits bits' new) refl

-- ---- the only part of a state
pub only-block : (parts : List NestedBox) (part part' : NestedBox) (ms : List Mark) → length parts ≡ 1 → part ≡ get_or parts 0 part → kept_box part' ≡ pushed_all (kept_box part) 0 0 0 ms → all_kept (set parts 0 part') ≡ block ms 0 0 (all_kept parts)
only-block [] part part' ms l e n = absurd (omega (arith, l))
only-block (p ∷ q ∷ ps) part part' ms l e n = absurd (omega (arith, l))
only-block (p ∷ []) part part' ms l e n = rw (n, e) refl
