-- A block's pairs, one after another.
use Rattle.std.proofs.Common.{◌≡◌, inl, inr, ℕ, ◌+◌, false, List, [], ◌∷◌, ◌++◌, map, replicate, zero, suc, refl, arith, ap, sym, ◌∙◌, append_assoc, append-nil}
use Rattle.shredding.specs.Slot.{Slot}
use Rattle.shredding.specs.Shape.{Way}
use Rattle.shredding.specs.Shred.{Triple, single}
use Rattle.read_laws.specs.State.{Kept, kept_way, leaf_count, StateFits}
use Rattle.read_laws.specs.Step.{Ended, step}
use Rattle.read_laws.specs.Column.{kept_column, ComesAfter, IsExtended, MayCome}
use Rattle.read_laws.specs.Block.{block, walk, AllFit}
use Rattle.read_laws.specs.Blocks.{mark_of, leaf_grows, leaves_grow, GivesEach, FollowEach, Starts, last_level, IsGrown, BlocksExtendColumns, PairsFit, StretchesAreBlocks}
use Rattle.read_laws.proofs.Ends.{fits-new, fits-deep}
use Rattle.read_laws.proofs.Stretches.{way-step, leaves-step, extended, ended-pair, may-come, top-of, gives-of, one-times, step-zero, step-more}
use Rattle.read_laws.proofs.PartByPart.{walked}

-- each state fits, and the last one has grown
pub record IsWalked (leaf : ℕ → Slot) (before : ℕ) (ks : List Kept) (ts : List Triple) : Type 0 where
  pub all : AllFit (map mark_of ts) ks
  pub grown : IsGrown leaf before ks (walk (map mark_of ts) ks) ts

comes : (before : ℕ) (t : Triple) (ts : List Triple) (ks : List Kept) → Starts before (t ∷ ts) ks → FollowEach (kept_way ks) before (t ∷ ts) → ComesAfter before t.repetition t.definition ks
comes before t ts ks start follow = elim follow.1 [
  | inl e ↦ inl e
  | inr e ↦ elim start [
    | inl z ↦ inl z
    | inr ended ↦ inr (ended, e.0, e.1, e.2, e.3)
  ]
]

starts-next : (level : ℕ) (ts : List Triple) (ks : List Kept) → Ended level 0 ks → Starts level ts ks
starts-next level [] ks e = tt
starts-next level (t ∷ ts) ks e = inr e

ended-next : (leaf : ℕ → Slot) (level : ℕ) (ts : List Triple) (ks ks' : List Kept) → (ts ≡ [] → ks' ≡ ks) → IsGrown leaf level ks ks' ts → Ended level 0 ks → Ended (last_level level ts) 0 ks'
ended-next leaf level [] ks ks' same g e = rw (same refl) e
ended-next leaf level (t ∷ ts) ks ks' same g e = g.ended (omega arith)

walk-none : (ts : List Triple) (ks : List Kept) → ts ≡ [] → walk (map mark_of ts) ks ≡ ks
walk-none ts ks e = rw e refl

pub grown-walk : (leaf : ℕ → Slot) (before : ℕ) (ks : List Kept) (ts : List Triple) → StateFits ks → Starts before ts ks → FollowEach (kept_way ks) before ts → GivesEach (kept_way ks) leaf (leaf_count ks) ts → IsWalked leaf before ks ts
grown-walk leaf before ks [] f start follow gives = record {
  all = tt;
  grown = record {
    fits = f;
    ended = λ some. absurd (omega (arith, some));
    way = refl;
    column = sym (append-nil (kept_column leaf ks));
    leaves = omega arith;
    walked = refl;
  };
}
grown-walk leaf before ks (t ∷ ts) f start follow gives =
    let rep = t.repetition in
    let level = t.definition in
    let ks' = step 1 rep level false 0 0 ks in
    let w = kept_way ks in
    let by = leaf_grows w t in
    let may : MayCome rep level ks = may-come before rep level ks (comes before t ts ks start follow) in
    let top = top-of level ks f follow.0 in
    let one : IsExtended leaf rep level ks t.value = extended leaf rep level ks t.value f top may (gives-of level ks (leaf (leaf_count ks)) t.value f gives.0) in
    let way : kept_way ks' ≡ w = way-step 1 rep level false 0 0 ks in
    let leaves : leaf_count ks' ≡ leaf_count ks + by = leaves-step 1 rep level false 0 0 ks f ∙ ap (λ (x : ℕ). leaf_count ks + x) (one-times by) in
    let ended : Ended level 0 ks' = ended-pair rep level ks f top may in
    let follow' : FollowEach (kept_way ks') level ts = rw way follow.2 in
    let gives' : GivesEach (kept_way ks') leaf (leaf_count ks') ts = rw (way, leaves) gives.1 in
    let rest = grown-walk leaf level ks' ts one.fits (starts-next level ts ks' ended) follow' gives' in
    let count : leaf_count (walk (map mark_of ts) ks') ≡ leaf_count ks' + leaves_grow (kept_way ks') ts = rest.grown.leaves in
    let more : leaves_grow (kept_way ks') ts ≡ leaves_grow w ts = ap (λ (v : Way). leaves_grow v ts) way in
    record {
      all = (f, rest.all);
      grown = record {
        fits = rest.grown.fits;
        ended = λ some. ended-next leaf level ts ks' (walk (map mark_of ts) ks') (walk-none ts ks') rest.grown ended;
        way = rest.grown.way ∙ way;
        column = rest.grown.column ∙ (ap (λ (cs : List Triple). cs ++ ts) one.column ∙ append_assoc (kept_column leaf ks) (single rep level t.value) ts);
        leaves = omega (arith, count, more, leaves);
        walked = refl;
      };
    }

pub blocks-grow : BlocksExtendColumns
blocks-grow leaf before ks ts f start follow gives =
    let w = grown-walk leaf before ks ts f start follow gives in
    let e : block (map mark_of ts) 0 0 ks ≡ walk (map mark_of ts) ks = walked (map mark_of ts) ks w.all in
    rw e w.grown

-- ---- the states on the way
fits-pair : (rep level : ℕ) (ks : List Kept) → StateFits ks → MayCome rep level ks → StateFits (step 1 rep level false 0 0 ks)
fits-pair rep level ks f may = elim may [
  | inl e ↦ rw e (fits-new 0 level false 0 0 ks f (omega arith))
  | inr e ↦ fits-deep rep level 0 0 ks f e.0 e.1
]

pub pairs-fit : PairsFit
pairs-fit before ks [] f start follow = tt
pairs-fit before ks (t ∷ ts) f start follow =
    let rep = t.repetition in
    let level = t.definition in
    let ks' = step 1 rep level false 0 0 ks in
    let may : MayCome rep level ks = may-come before rep level ks (comes before t ts ks start follow) in
    let way : kept_way ks' ≡ kept_way ks = way-step 1 rep level false 0 0 ks in
    let follow' : FollowEach (kept_way ks') level ts = rw way follow.2 in
    (f, pairs-fit level ks' ts (fits-pair rep level ks f may) (starts-next level ts ks' (ended-pair rep level ks f (top-of level ks f follow.0) may)) follow')

step-walk : (m rep level : ℕ) (ks : List Kept) → AllFit (replicate m (record { repetition = rep; definition = level; hidden = false })) ks → step m rep level false 0 0 ks ≡ walk (replicate m (record { repetition = rep; definition = level; hidden = false })) ks
step-walk zero rep level ks fit = step-zero rep level false 0 0 ks
step-walk (suc m) rep level ks fit = step-more m rep level false 0 0 ks fit.0 ∙ step-walk m rep level (step 1 rep level false 0 0 ks) fit.1

pub stretches-blocks : StretchesAreBlocks
stretches-blocks m rep level ks fit = step-walk m rep level ks fit ∙ sym (walked (replicate m (record { repetition = rep; definition = level; hidden = false })) ks fit)
