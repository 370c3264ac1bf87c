-- Many levels at once.
use Rattle.std.proofs.Common.{◌≡◌, ℕ, zero, suc, ◌+◌, ◌-◌, ◌<◌, ◌≤◌, List, [], ◌∷◌, ◌++◌, length, take, drop, replicate, Ok, None, refl, sym, ap, ◌∙◌, arith, set}
use Rattle.std.proofs.lemmas.List.{length-take, take-append-le, length-append}
use Rattle.std.proofs.Math.Seq.{take-append-add}
use borrow.Rule.Slice.PartMut.{put_mid}
use Rattle.pq_numbers.specs.Varint.{varint_up_to, varint_at}
use Rattle.pq_runs.specs.Hybrid.{given}
use Rattle.pq_runs.specs.State.{items_of}
use Rattle.pq_runs.proofs.Items.{take_copy}

pub copies_taken : (w left copies number standing bits k : ℕ) (bytes : List ℕ) → k ≤ copies → copies + standing ≤ left → items_of w left copies number standing bits bytes ≡ given (replicate k number) ++ items_of w (left - k) (copies - k) number standing bits bytes
copies_taken w left copies number standing bits zero bytes h within =
    let a : left - 0 ≡ left = omega arith in
    let b : copies - 0 ≡ copies = omega arith in
    rw (a, b) refl
copies_taken w left copies number standing bits (suc k) bytes h within =
    let a : left - 1 - k ≡ left - suc k = omega arith in
    let b : copies - 1 - k ≡ copies - suc k = omega arith in
    take_copy w left copies number standing bits bytes (omega (arith, h)) within
    ∙ ap (λ is. Ok number ∷ is) (rw (a, b) at (copies_taken w (left - 1) (copies - 1) number standing bits k bytes (omega (arith, h)) (omega (arith, h, within))))

pub given-append : (xs ys : List ℕ) → given (xs ++ ys) ≡ given xs ++ given ys
given-append [] ys = refl
given-append (x ∷ xs) ys = ap (λ is. Ok x ∷ is) (given-append xs ys)

pub kept_part : (done r : ℕ) (out part : List ℕ) → done ≤ length out → r ≤ length part → take (done + r) (put_mid done (length out - done) out part) ≡ take done out ++ take r part
kept_part done r out part h k =
    let size : length (take done out) ≡ done = length-take done out ∙ omega arith in
    let e : done + r ≡ length (take done out) + r = ap (λ n. n + r) (sym size) in
    let rest = drop (length out - done) (drop done out) in
    ap (λ n. take n (put_mid done (length out - done) out part)) e ∙ (take-append-add (take done out) (part ++ rest) r ∙ ap (λ t. take done out ++ t) (take-append-le r part rest k))

pub first_set : (xs : List ℕ) (x : ℕ) → 0 < length xs → take 1 (set xs 0 x) ≡ x ∷ []
first_set [] x h = absurd (omega arith)
first_set (y ∷ xs) x h = refl

pub length-kept : (done k : ℕ) (out part : List ℕ) → done ≤ length out → done + length part ≤ length (put_mid done k out part)
length-kept done k out part h =
    let a = length-append (take done out) (part ++ drop k (drop done out)) in
    let b = length-append part (drop k (drop done out)) in
    let e : length (take done out) ≡ done = length-take done out ∙ omega arith in
    omega (arith, a, b, e)

-- no header stands in no bytes
pub no-header : (bytes : List ℕ) → bytes ≡ [] → varint_at bytes ≡ None
unfolding varint_up_to
no-header bytes e = rw e refl
