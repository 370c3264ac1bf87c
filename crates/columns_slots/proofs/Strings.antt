-- Strings between offsets, cut.
use Rattle.std.proofs.Common.{◌≡◌, ℕ, zero, suc, ◌+◌, ◌-◌, ◌*◌, ◌≤◌, ◌<◌, List, [], ◌∷◌, length, take, drop, get_or, All, add-one, zero-mul, refl, ap, sym, ◌∙◌, arith}
use Rattle.std.proofs.lemmas.List.{drop-drop, drop-take, length-take-le, length-drop}
use Rattle.std.proofs.lemmas.List.Elements.{All-nil, All-cons}
use Rattle.std.proofs.Math.Nat.{add-mul}
use Rattle.columns_slots.specs.Bytes.{pieces, chunks}
use Rattle.columns_slots.proofs.Cuts.{take_take}

pub pieces_len : (os bs : List ℕ) → length (pieces os bs) ≡ length os - 1
pieces_len [] bs = omega arith
pieces_len (o ∷ []) bs = omega arith
pieces_len (o ∷ p ∷ os) bs = omega (arith, pieces_len (p ∷ os) bs)

piece_at : (os bs : List ℕ) (i : ℕ) (d : List ℕ) → suc i < length os → get_or (pieces os bs) i d ≡ take (get_or os (suc i) 0 - get_or os i 0) (drop (get_or os i 0) bs)
piece_at [] bs i d h = absurd (omega (arith, h))
piece_at (o ∷ []) bs i d h = absurd (omega (arith, h))
piece_at (o ∷ p ∷ os) bs zero d h = refl
piece_at (o ∷ p ∷ os) bs (suc i) d h = piece_at (p ∷ os) bs i d (omega (arith, h))

pub pieces_at : (os bs : List ℕ) (i : ℕ) (d : List ℕ) → i + 1 < length os → get_or (pieces os bs) i d ≡ take (get_or os (i + 1) 0 - get_or os i 0) (drop (get_or os i 0) bs)
pieces_at os bs i d h = rw (add-one i) (piece_at os bs i d (omega (arith, h)))

front_pieces : (os bs : List ℕ) (n : ℕ) → pieces (take (suc n) os) bs ≡ take n (pieces os bs)
front_pieces [] bs zero = refl
front_pieces [] bs (suc n) = refl
front_pieces (o ∷ []) bs zero = refl
front_pieces (o ∷ []) bs (suc n) = refl
front_pieces (o ∷ p ∷ os) bs zero = refl
front_pieces (o ∷ p ∷ os) bs (suc n) = ap (λ r. take (p - o) (drop o bs) ∷ r) (front_pieces (p ∷ os) bs n)

later_pieces : (os bs : List ℕ) (o : ℕ) → o + 1 ≤ length os → pieces (drop o os) bs ≡ drop o (pieces os bs)
later_pieces os bs zero h = refl
later_pieces [] bs (suc o) h = absurd (omega (arith, h))
later_pieces (x ∷ []) bs (suc o) h = absurd (omega (arith, h))
later_pieces (x ∷ p ∷ os) bs (suc o) h = later_pieces (p ∷ os) bs o (omega (arith, h))

none_cut : (bs : List ℕ) (o n : ℕ) → o + n ≤ 0 → pieces (take (n + 1) (drop o [])) bs ≡ take n (drop o [])
none_cut bs zero zero h = refl
none_cut bs zero (suc n) h = absurd (omega (arith, h))
none_cut bs (suc o) n h = absurd (omega (arith, h))

pub pieces_cut : (os bs : List ℕ) (o n : ℕ) → o + n ≤ length os - 1 → pieces (take (n + 1) (drop o os)) bs ≡ take n (drop o (pieces os bs))
pieces_cut [] bs o n h = none_cut bs o n (omega (arith, h))
pieces_cut (x ∷ os) bs o n h =
    rw (add-one n) (front_pieces (drop o (x ∷ os)) bs n ∙ ap (take n) (later_pieces (x ∷ os) bs o (omega (arith, h))))

pub chunks_len : (w n : ℕ) (bs : List ℕ) → length (chunks w n bs) ≡ n
chunks_len w zero bs = refl
chunks_len w (suc n) bs = ap suc (chunks_len w n (drop w bs))

-- strings of a width, cut
front_chunks : (w n : ℕ) (bs : List ℕ) → chunks w n (take (n * w) bs) ≡ chunks w n bs
front_chunks w zero bs = refl
front_chunks w (suc n) bs =
    let long : suc n * w ≡ w + n * w = omega (arith, add-mul 1 n w) in
    rw (long, take_take bs w (w + n * w) (omega arith), drop-take w (n * w) bs, front_chunks w n (drop w bs)) refl

more_chunks : (w k n : ℕ) (bs : List ℕ) → n ≤ k → chunks w n bs ≡ take n (chunks w k bs)
more_chunks w k zero bs h = refl
more_chunks w zero (suc n) bs h = absurd (omega (arith, h))
more_chunks w (suc k) (suc n) bs h = ap (λ r. take w bs ∷ r) (more_chunks w k n (drop w bs) (omega (arith, h)))

later_chunks : (w k o n : ℕ) (bs : List ℕ) → o + n ≤ k → chunks w n (drop (o * w) bs) ≡ take n (drop o (chunks w k bs))
later_chunks w k zero n bs h = rw (zero-mul w) (more_chunks w k n bs (omega (arith, h)))
later_chunks w zero (suc o) n bs h = absurd (omega (arith, h))
later_chunks w (suc k) (suc o) n bs h =
    let far : suc o * w ≡ w + o * w = omega (arith, add-mul 1 o w) in
    rw (far, sym (drop-drop (o * w) w bs)) (later_chunks w k o n (drop w bs) (omega (arith, h)))

pub chunks_cut : (w k o n : ℕ) (bs : List ℕ) → o + n ≤ k → chunks w n (take (n * w) (drop (o * w) bs)) ≡ take n (drop o (chunks w k bs))
chunks_cut w k o n bs h = front_chunks w n (drop (o * w) bs) ∙ later_chunks w k o n bs h

-- each string of a width has that width
pub chunks_even : (w n : ℕ) (bs : List ℕ) → n * w ≤ length bs → All (λ s. length s ≡ w) (chunks w n bs)
chunks_even w zero bs h = All-nil (λ s. length s ≡ w)
chunks_even w (suc n) bs h =
    let long : suc n * w ≡ w + n * w = omega (arith, add-mul 1 n w) in
    All-cons (λ s. length s ≡ w) (take w bs) (chunks w n (drop w bs)) (length-take-le w bs (omega (arith, h, long)))
    (chunks_even w n (drop w bs) (omega (arith, h, long, length-drop w bs)))
