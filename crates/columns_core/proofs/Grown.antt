-- Bits that grow by whole bytes.
use Rattle.std.proofs.Common.{◌≡◌, ℕ, zero, suc, ◌+◌, ◌-◌, ◌*◌, ◌/◌, ◌%◌, ◌<◌, ◌≤◌, List, [], ◌∷◌, ◌++◌, length, replicate, slice_index_or, Bool, append_assoc, append-nil, length-append, refl, ap, sym, ◌∙◌, arith}
use Rattle.std.proofs.lemmas.List.{replicate-append-replicate}
use Rattle.columns_core.specs.Bits.{bit_of, bits_from}
use Rattle.columns_core.proofs.Bits.{byte_more, length_bits}
use Rattle.columns_core.proofs.Packed.{same_runs, bits_split}

at_end : (bs : List ℕ) (b n : ℕ) → n ≡ length bs → slice_index_or (bs ++ b ∷ []) n 0 ≡ b
at_end [] b zero h = refl
at_end [] b (suc n) h = absurd (omega (arith, h))
at_end (x ∷ bs) b zero h = absurd (omega (arith, h))
at_end (x ∷ bs) b (suc n) h = at_end bs b n (omega (arith, h))

-- a byte behind whole bytes
pub eight_more : (bs cs : List ℕ) (n b : ℕ) (v : List Bool) → cs ≡ bs ++ b ∷ [] → n ≡ 8 * length bs → bits_from bs 0 n ≡ v → bits_from cs 0 (n + 8) ≡ v ++ bits_from (b ∷ []) 0 8
eight_more bs cs n b v e s is =
    let front : bits_from (bs ++ b ∷ []) 0 n ≡ v = byte_more bs b n (omega (arith, s)) ∙ is in
    let z : 0 + n ≡ n = omega arith in
    let rest : bits_from (bs ++ b ∷ []) n 8 ≡ bits_from (b ∷ []) 0 8 =
    same_runs (bs ++ b ∷ []) (b ∷ []) n 0 8 (λ i h.
    let p : (n + i) / 8 ≡ length bs = omega (arith, s, h) in
    let q : (n + i) % 8 ≡ i = omega (arith, s, h) in
    let r : (0 + i) / 8 ≡ 0 = omega (arith, h) in
    let t : (0 + i) % 8 ≡ i = omega (arith, h) in
    rw (p, q, r, t, at_end bs b (length bs) refl) refl) in
    rw (e, bits_split (bs ++ b ∷ []) 0 n 8, z, front, rest) refl

-- a step of the loop over whole bytes
pub bytes_grown : (xs ys zs : List Bool) (bs : List ℕ) (at i b : ℕ) → ys ≡ xs ++ bits_from bs at (8 * i) → bits_from (b ∷ []) 0 8 ≡ bits_from bs (at + 8 * i) 8 → zs ≡ ys ++ bits_from (b ∷ []) 0 8 → zs ≡ xs ++ bits_from bs at (8 * (i + 1))
bytes_grown xs ys zs bs at i b e f g =
    let n : 8 * (i + 1) ≡ 8 * i + 8 = omega arith in
    rw (n, bits_split bs at (8 * i) 8, g, e, f) (append_assoc xs (bits_from bs at (8 * i)) (bits_from bs (at + 8 * i) 8))

pub copies_grown : (xs ys zs : List Bool) (v : Bool) (i b : ℕ) → ys ≡ xs ++ replicate (8 * i) v → bits_from (b ∷ []) 0 8 ≡ replicate 8 v → zs ≡ ys ++ bits_from (b ∷ []) 0 8 → zs ≡ xs ++ replicate (8 * (i + 1)) v
copies_grown xs ys zs v i b e f g =
    let n : 8 * (i + 1) ≡ 8 * i + 8 = omega arith in
    let r : replicate (8 * i + 8) v ≡ replicate (8 * i) v ++ replicate 8 v = sym (replicate-append-replicate (8 * i) 8 v) in
    rw (n, r, g, e, f) (append_assoc xs (replicate (8 * i) v) (replicate 8 v))

-- equal bytes behind whole bytes
pub copies_more : (bs : List ℕ) (n count b : ℕ) (x : Bool) (v : List Bool) → (0 < count → n ≡ 8 * length bs) → bits_from bs 0 n ≡ v → bits_from (b ∷ []) 0 8 ≡ replicate 8 x → bits_from (bs ++ replicate count b) 0 (n + 8 * count) ≡ v ++ replicate (8 * count) x
copies_more bs n zero b x v s is each =
    let m : n + 8 * zero ≡ n = omega arith in
    let z : 8 * zero ≡ 0 = omega arith in
    rw (m, z, append-nil bs, append-nil v) is
copies_more bs n (suc count) b x v s is each =
    let m : n + 8 * suc count ≡ n + 8 + 8 * count = omega arith in
    let t : 8 * suc count ≡ 8 + 8 * count = omega arith in
    let whole : n ≡ 8 * length bs = s (omega arith) in
    let size : n + 8 ≡ 8 * length (bs ++ b ∷ []) = omega (arith, whole, length-append bs (b ∷ [])) in
    let first : bits_from (bs ++ b ∷ []) 0 (n + 8) ≡ v ++ replicate 8 x = eight_more bs (bs ++ b ∷ []) n b v refl whole is ∙ ap (λ (u : List Bool). v ++ u) each in
    let parts : bs ++ replicate (suc count) b ≡ (bs ++ b ∷ []) ++ replicate count b = sym (append_assoc bs (b ∷ []) (replicate count b)) in
    let copies : replicate (8 + 8 * count) x ≡ replicate 8 x ++ replicate (8 * count) x = sym (replicate-append-replicate 8 (8 * count) x) in
    rw (m, t, parts, copies) (copies_more (bs ++ b ∷ []) (n + 8) count b x (v ++ replicate 8 x) (λ _. size) first each ∙ append_assoc v (replicate 8 x) (replicate (8 * count) x))

pub still_whole : (ys zs ws : List Bool) → zs ≡ ys ++ ws → length ws ≡ 8 → length ys % 8 ≡ 0 → length zs % 8 ≡ 0
still_whole ys zs ws e l h = omega (arith, ap length e, length-append ys ws, l, h)

pub single_grown : (xs ys zs : List Bool) (bs : List ℕ) (at i : ℕ) (x : Bool) → ys ≡ xs ++ bits_from bs at i → x ≡ bit_of bs (at + i) → zs ≡ ys ++ x ∷ [] → zs ≡ xs ++ bits_from bs at (i + 1)
single_grown xs ys zs bs at i x e f g = rw (bits_split bs at i 1, g, e, f) (append_assoc xs (bits_from bs at i) (bit_of bs (at + i) ∷ []))

-- ---- three parts
pub three_runs : (xs ys zs ws : List Bool) (bs : List ℕ) (at a m k n : ℕ) → ys ≡ xs ++ bits_from bs at a → zs ≡ ys ++ bits_from bs (at + a) m → ws ≡ zs ++ bits_from bs (at + (a + m)) k → n ≡ a + m + k → ws ≡ xs ++ bits_from bs at n
three_runs xs ys zs ws bs at a m k n e f g s =
    let t : at + a + m ≡ at + (a + m) = omega arith in
    let p : bits_from bs at (a + m + k) ≡ bits_from bs at a ++ bits_from bs (at + a) m ++ bits_from bs (at + (a + m)) k = bits_split bs at (a + m) k ∙ rw (bits_split bs at a m) refl in
    rw (s, p, g, f, e) (ap (λ v. v ++ bits_from bs (at + (a + m)) k) (append_assoc xs (bits_from bs at a) (bits_from bs (at + a) m)) ∙ append_assoc xs (bits_from bs at a ++ bits_from bs (at + a) m) (bits_from bs (at + (a + m)) k))

pub three_copies : (xs ys zs ws : List Bool) (v : Bool) (a m k n : ℕ) → ys ≡ xs ++ replicate a v → zs ≡ ys ++ replicate m v → ws ≡ zs ++ replicate k v → n ≡ a + m + k → ws ≡ xs ++ replicate n v
three_copies xs ys zs ws v a m k n e f g s =
    let p : replicate (a + m + k) v ≡ replicate a v ++ replicate m v ++ replicate k v = sym (replicate-append-replicate (a + m) k v) ∙ ap (λ u. u ++ replicate k v) (sym (replicate-append-replicate a m v)) in
    rw (s, p, g, f, e) (ap (λ u. u ++ replicate k v) (append_assoc xs (replicate a v) (replicate m v)) ∙ append_assoc xs (replicate a v ++ replicate m v) (replicate k v))

-- whole bytes stand behind the filled one
pub filled_then : (xs ys : List Bool) (bs : List ℕ) (at a n : ℕ) → ys ≡ xs ++ bits_from bs at a → (a < n → (length xs + a) % 8 ≡ 0) → 0 < (n - a) / 8 → length ys % 8 ≡ 0
filled_then xs ys bs at a n e f h =
    let l : length ys ≡ length xs + a = omega (arith, ap length e, length-append xs (bits_from bs at a), length_bits bs at a) in
    rw l (f (omega (arith, h)))

-- truth values with the room beside them are no fewer where bits came into that room
pub run_in_room : (xs ys : List Bool) (bs : List ℕ) (at n room left : ℕ) → ys ≡ xs ++ bits_from bs at n → room ≤ left + n → length xs + room ≤ length ys + left
run_in_room xs ys bs at n room left e h = omega (arith, h, ap length e ∙ length-append xs (bits_from bs at n), length_bits bs at n)
