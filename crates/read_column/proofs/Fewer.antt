-- Where fewer numbers of runs are called for, the first of them are read.
use Rattle.std.proofs.Common.{◌≡◌, inl, inr, ℕ, zero, suc, ◌+◌, ◌-◌, ◌*◌, ◌/◌, ◌%◌, ◌^◌, ◌<◌, ◌≤◌, Bool, true, false, nat_eq, nat_lt, cond, Option, Some, None, Ok, Err, List, [], ◌∷◌, ◌++◌, length, take, drop, replicate, refl, arith, ap, sym, ◌∙◌}
use Rattle.std.proofs.Math.Seq.{take-append-add}
use Rattle.std.proofs.lemmas.Bool.{cases_lt, lt-ltb, le-ltb, ne_eqb}
use Rattle.std.proofs.lemmas.List.{length-map, length-replicate, take-append-le, take-replicate}
use Rattle.std.specs.List.{take-map}
use Rattle.pq_numbers.specs.Bits.{bytes_for, digits_of, unpacked}
use Rattle.pq_numbers.specs.Texts.{number_of}
use Rattle.pq_numbers.specs.Varint.{varint_at}
use Rattle.pq_numbers.proofs.Digits.{length-digits}
use Rattle.pq_runs.specs.Hybrid.{given, Item, Reader, copies_at, copies_items, fault, groups_at, groups_items, hybrid, run_at, runs_items, standing}
use Rattle.pq_runs.proofs.Complete.{none_left, step}

-- a reader gives the first numbers where fewer are called for
abbrev pub Fewer : Reader → Type 0
Fewer r = (n k : ℕ) (bytes : List ℕ) → k ≤ n → r k bytes ≡ take k (r n bytes)

-- past the first part, and within it
take-past : {A : Type 0} (k : ℕ) (xs ys : List A) → length xs ≤ k → take k (xs ++ ys) ≡ xs ++ take (k - length xs) ys
take-past k xs ys h =
    let e : k ≡ length xs + (k - length xs) = omega (arith, h) in
    ap (λ (m : ℕ). take m (xs ++ ys)) e ∙ take-append-add xs ys (k - length xs)

take-one : {A : Type 0} (k : ℕ) (x : A) → x ∷ [] ≡ take (suc k) (x ∷ [])
take-one zero x = refl
take-one (suc k) x = refl

digits-few : (base n k m : ℕ) → k ≤ n → digits_of base k m ≡ take k (digits_of base n m)
digits-few base n zero m h = refl
digits-few base zero (suc k) m h = absurd (omega (arith, h))
digits-few base (suc n) (suc k) m h = ap (λ (ds : List ℕ). m % base ∷ ds) (digits-few base n k (m / base) (omega (arith, h)))

unpacked-few : (w n k : ℕ) (body : List ℕ) → k ≤ n → given (unpacked w k body) ≡ take k (given (unpacked w n body))
unpacked-few w n k body h = ap given (digits-few (2 ^ w) n k (number_of body) h) ∙ sym (take-map {Y = Item} Ok k (unpacked w n body))

length-unpacked : (w n : ℕ) (body : List ℕ) → length (given (unpacked w n body)) ≡ n
length-unpacked w n body = length-map {B = Item} (unpacked w n body) Ok ∙ length-digits (2 ^ w) n (number_of body)

copies-fewer : (others : Reader) (n k m v : ℕ) (rest : List ℕ) → Fewer others → k ≤ n → copies_items others k m v rest ≡ take k (copies_items others n m v rest)
copies-fewer others n k m v rest fewer h = elim (cases_lt m n) [
  | inl less ↦ elim (cases_lt m k) [
    | inl in-front ↦ (
        rw (lt-ltb m n less, lt-ltb m k in-front) (ap (λ (is : List Item). replicate m (Ok v) ++ is) (fewer (n - m) (k - m) rest (omega (arith, h))) ∙ sym (rw (length-replicate {A = Item} m (Ok v)) at (take-past k (replicate m (Ok v)) (others (n - m) rest) (omega (arith, in-front, length-replicate {A = Item} m (Ok v))))))
        )
    | inr behind ↦ rw (lt-ltb m n less, le-ltb m k behind) (sym (take-replicate k m (Ok v) behind) ∙ sym (take-append-le k (replicate m (Ok v)) (others (n - m) rest) (omega (arith, behind, length-replicate {A = Item} m (Ok v)))))
  ]
  | inr more ↦ rw (le-ltb m n more, le-ltb m k (omega (arith, more, h))) (sym (take-replicate k n (Ok v) h))
]

copies-at-fewer : (others : Reader) (w n k m : ℕ) (bytes : List ℕ) → Fewer others → 0 < k → k ≤ n → copies_at others w k m bytes ≡ take k (copies_at others w n m bytes)
copies-at-fewer others w n zero m bytes fewer some h = absurd (omega (arith, some))
copies-at-fewer others w n (suc k) m bytes fewer some h = elim (cases_lt (length bytes) (bytes_for w)) [
  | inl less ↦ rw (lt-ltb (length bytes) (bytes_for w) less) (take-one {A = Item} k (Err fault))
  | inr more ↦ rw (le-ltb (length bytes) (bytes_for w) more) (copies-fewer others n (suc k) m (number_of (take (bytes_for w) bytes)) (drop (bytes_for w) bytes) fewer h)
]

behind-fewer : (others : Reader) (n k : ℕ) (rest : List ℕ) (b : Bool) → Fewer others → 0 < k → k ≤ n → cond b (Err fault ∷ []) (others k rest) ≡ take k (cond b (Err fault ∷ []) (others n rest))
behind-fewer others n zero rest b fewer some h = absurd (omega (arith, some))
behind-fewer others n (suc k) rest true fewer some h = take-one {A = Item} k (Err fault)
behind-fewer others n (suc k) rest false fewer some h = fewer n (suc k) rest h

groups-fewer : (others : Reader) (w n k g j : ℕ) (body rest : List ℕ) → Fewer others → k ≤ n → groups_items others w k g j body rest ≡ take k (groups_items others w n g j body rest)
groups-fewer others w n k g j body rest fewer h = elim (cases_lt j n) [
  | inl less ↦ elim (cases_lt j k) [
    | inl in-front ↦ rw (lt-ltb j n less, lt-ltb j k in-front) (ap (λ (is : List Item). given (unpacked w j body) ++ is) (behind-fewer others (n - j) (k - j) rest (nat_lt j (8 * g)) fewer (omega (arith, in-front)) (omega (arith, h))) ∙ sym (rw (length-unpacked w j body) at (take-past k (given (unpacked w j body)) (cond (nat_lt j (8 * g)) (Err fault ∷ []) (others (n - j) rest)) (omega (arith, in-front, length-unpacked w j body)))))
    | inr behind ↦ rw (lt-ltb j n less, le-ltb j k behind) (unpacked-few w j k body behind ∙ sym (take-append-le k (given (unpacked w j body)) (cond (nat_lt j (8 * g)) (Err fault ∷ []) (others (n - j) rest)) (omega (arith, behind, length-unpacked w j body))))
  ]
  | inr more ↦ rw (le-ltb j n more, le-ltb j k (omega (arith, more, h))) (unpacked-few w n k body h)
]

run-fewer : (others : Reader) (w n k : ℕ) (head : Option (ℕ × List ℕ)) → Fewer others → 0 < k → k ≤ n → run_at others w k head ≡ take k (run_at others w n head)
run-fewer others w n zero head fewer some h = absurd (omega (arith, some))
run-fewer others w n (suc k) None fewer some h = take-one {A = Item} k (Err fault)
run-fewer others w n (suc k) (Some x) fewer some h = by-kind (nat_eq (x.0 % 2) 0)
  where
    by-kind : (b : Bool) → cond b (copies_at others w (suc k) (x.0 / 2) x.1) (groups_at others w (suc k) (x.0 / 2) x.1) ≡ take (suc k) (cond b (copies_at others w n (x.0 / 2) x.1) (groups_at others w n (x.0 / 2) x.1))
    by-kind true = copies-at-fewer others w n (suc k) (x.0 / 2) x.1 fewer some h
    by-kind false = groups-fewer others w n (suc k) (x.0 / 2) (standing w (x.0 / 2) (take (w * (x.0 / 2)) x.1)) (take (w * (x.0 / 2)) x.1) (drop (w * (x.0 / 2)) x.1) fewer h

no-fuel : (w n : ℕ) (bytes : List ℕ) → runs_items zero w (suc n) bytes ≡ Err fault ∷ []
unfolding runs_items
no-fuel w n bytes = rw (ne_eqb (suc n) 0 (λ e. omega (arith, e))) refl

runs-fewer : (fuel w : ℕ) → Fewer (runs_items fuel w)
runs-fewer fuel w n zero bytes h = none_left fuel w bytes
runs-fewer zero w zero (suc k) bytes h = absurd (omega (arith, h))
runs-fewer zero w (suc n) (suc k) bytes h = no-fuel w k bytes ∙ (take-one {A = Item} k (Err fault) ∙ ap (take (suc k)) (sym (no-fuel w n bytes)))
runs-fewer (suc fuel) w n (suc k) bytes h =
    step fuel w (suc k) bytes (omega arith) ∙ (run-fewer (runs_items fuel w) w n (suc k) (varint_at bytes) (runs-fewer fuel w) (omega arith) h ∙ ap (take (suc k)) (sym (step fuel w n bytes (omega (arith, h)))))

hybrid-fewer : (w n k : ℕ) (bytes : List ℕ) (b : Bool) → nat_eq w 0 ≡ b → k ≤ n → hybrid w k bytes ≡ take k (hybrid w n bytes)
unfolding hybrid
hybrid-fewer w n k bytes true e h = rw e (sym (take-replicate k n (Ok 0) h))
hybrid-fewer w n k bytes false e h = rw e (runs-fewer (length bytes) w n k bytes h)

pub fewer-read : (w n k : ℕ) (bytes : List ℕ) → k ≤ n → hybrid w k bytes ≡ take k (hybrid w n bytes)
fewer-read w n k bytes h = hybrid-fewer w n k bytes (nat_eq w 0) refl h
