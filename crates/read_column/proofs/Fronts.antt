-- The first levels of a section, where not all of them may be there.
use Rattle.std.proofs.Common.{◌≡◌, inl, inr, ℕ, zero, suc, ◌-◌, ◌*◌, ◌/◌, ◌%◌, ◌^◌, ◌<◌, ◌≤◌, Bool, true, false, nat_eq, nat_lt, cond, Option, Some, None, Ok, Err, List, [], ◌∷◌, ◌++◌, length, take, drop, replicate, refl, arith, ap, sym, ◌∙◌, append-nil, length-append}
use Rattle.std.proofs.lemmas.Bool.{cases_lt, lt-ltb, le-ltb, ne_eqb}
use Rattle.std.proofs.lemmas.List.{length-map, length-replicate}
use Rattle.pq_numbers.specs.Bits.{bytes_for, digits_of, unpacked}
use Rattle.pq_numbers.specs.Texts.{number_of}
use Rattle.pq_numbers.specs.Varint.{varint_at}
use Rattle.pq_numbers.proofs.Digits.{length-digits}
use Rattle.pq_runs.specs.Hybrid.{given, Item, Reader, copies_at, copies_items, fault, groups_items, hybrid, run_at, runs_items, standing}
use Rattle.pq_runs.proofs.Complete.{given-replicate, none_left, step}

pub record IsFront (n : ℕ) (own : List Item) (xs : List ℕ) : Type 0 where
  pub few : length xs ≤ n
  pub are : own ≡ given xs

-- a reader gives the same first numbers where fewer are called for
abbrev pub Fronts : Reader → Type 0
Fronts r = (n : ℕ) (bytes xs : List ℕ) (rest : List Item) → r n bytes ≡ given xs ++ rest → IsFront n (r (length xs) bytes) xs

split-front : (bs xs : List ℕ) (z rest : List Item) → given bs ++ z ≡ given xs ++ rest → length bs ≤ length xs → (ys : List ℕ) × (xs ≡ bs ++ ys) × (z ≡ given ys ++ rest)
split-front [] xs z rest e h = (xs, refl, e)
split-front (a ∷ bs) [] z rest e h = absurd (omega (arith, h))
split-front (a ∷ bs) (x ∷ xs) z rest e h =
    let head : a ≡ x = cc in
    let tail : given bs ++ z ≡ given xs ++ rest = cc in
    let s = split-front bs xs z rest tail (omega (arith, h)) in
    (s.0, ap (λ (t : List ℕ). x ∷ t) s.1 ∙ ap (λ (y : ℕ). y ∷ (bs ++ s.0)) (sym head), s.2)

-- a front of equal numbers
same-front : (m v : ℕ) (xs : List ℕ) (z rest : List Item) → replicate m (Ok v) ++ z ≡ given xs ++ rest → length xs ≤ m → replicate (length xs) (Ok v) ≡ given xs
same-front m v [] z rest e h = refl
same-front zero v (x ∷ xs) z rest e h = absurd (omega (arith, h))
same-front (suc m) v (x ∷ xs) z rest e h =
    let head : v ≡ x = cc in
    let tail : replicate m (Ok v) ++ z ≡ given xs ++ rest = cc in
    ap (λ (y : ℕ). Ok y ∷ replicate (length xs) (Ok v)) head ∙ ap (λ (is : List Item). Ok x ∷ is) (same-front m v xs z rest tail (omega (arith, h)))

-- of packed numbers
digits-front : (base n m : ℕ) (xs : List ℕ) (z rest : List Item) → given (digits_of base n m) ++ z ≡ given xs ++ rest → length xs ≤ n → digits_of base (length xs) m ≡ xs
digits-front base n m [] z rest e h = refl
digits-front base zero m (x ∷ xs) z rest e h = absurd (omega (arith, h))
digits-front base (suc n) m (x ∷ xs) z rest e h =
    let head : m % base ≡ x = cc in
    let tail : given (digits_of base n (m / base)) ++ z ≡ given xs ++ rest = cc in
    ap (λ (y : ℕ). y ∷ digits_of base (length xs) (m / base)) head ∙ ap (λ (ys : List ℕ). x ∷ ys) (digits-front base n (m / base) xs z rest tail (omega (arith, h)))

short : (bs xs : List ℕ) (rest : List Item) → given bs ≡ given xs ++ rest → length xs ≤ length bs
short bs xs rest e = omega (arith, ap length e, length-append (given xs) rest, length-map {B = Item} bs Ok, length-map {B = Item} xs Ok)

copies-front : (others : Reader) (n m v : ℕ) (b xs : List ℕ) (rest : List Item) → Fronts others → copies_items others n m v b ≡ given xs ++ rest → IsFront n (copies_items others (length xs) m v b) xs
copies-front others n m v b xs rest front e = elim (cases_lt m n) [
  | inl less ↦
      let e' : replicate m (Ok v) ++ others (n - m) b ≡ given xs ++ rest = rw (lt-ltb m n less) at e in
      elim (cases_lt m (length xs)) [
        | inl in-front ↦
            let s = split-front (replicate m v) xs (others (n - m) b) rest (ap (λ (is : List Item). is ++ others (n - m) b) (given-replicate m v) ∙ e') (omega (arith, in-front, length-replicate m v)) in
            let more = front (n - m) b s.0 rest s.2 in
            let size : length xs - m ≡ length s.0 = omega (arith, ap length s.1, length-append (replicate m v) s.0, length-replicate m v) in
            let all : given (replicate m v) ++ given s.0 ≡ given xs = given-append (replicate m v) s.0 ∙ ap given (sym s.1) in
            record {
              few = omega (arith, more.few, size, less, in-front);
              are = rw (lt-ltb m (length xs) in-front, size) (ap (λ (is : List Item). is ++ others (length s.0) b) (sym (given-replicate m v)) ∙ (ap (λ (is : List Item). given (replicate m v) ++ is) more.are ∙ all));
            }
        | inr behind ↦ record { few = omega (arith, behind, less); are = rw (le-ltb m (length xs) behind) (same-front m v xs (others (n - m) b) rest e' behind) }
      ]
  | inr more ↦
      let e' : replicate n (Ok v) ≡ given xs ++ rest = rw (le-ltb m n more) at e in
      let few : length xs ≤ n = omega (arith, short (replicate n v) xs rest (given-replicate n v ∙ e'), length-replicate n v) in
      record { few = few; are = rw (le-ltb m (length xs) (omega (arith, few, more))) (same-front n v xs [] rest (append-nil (replicate n (Ok v)) ∙ e') few) }
]
  where
    given-append : (cs bs : List ℕ) → given cs ++ given bs ≡ given (cs ++ bs)
    given-append [] bs = refl
    given-append (a ∷ cs) bs = ap (λ (is : List Item). Ok a ∷ is) (given-append cs bs)

copies-at : (others : Reader) (w n m : ℕ) (bytes : List ℕ) (x : ℕ) (xs : List ℕ) (rest : List Item) → Fronts others → copies_at others w n m bytes ≡ given (x ∷ xs) ++ rest → IsFront n (copies_at others w (length (x ∷ xs)) m bytes) (x ∷ xs)
copies-at others w n m bytes x xs rest front e = elim (cases_lt (length bytes) (bytes_for w)) [
  | inl less ↦ absurd (let f : Err fault ∷ [] ≡ given (x ∷ xs) ++ rest = rw (lt-ltb (length bytes) (bytes_for w) less) at e in cc f)
  | inr more ↦ (
      let e' = rw (le-ltb (length bytes) (bytes_for w) more) at e in
      let r = copies-front others n m (number_of (take (bytes_for w) bytes)) (drop (bytes_for w) bytes) (x ∷ xs) rest front e' in
      record { few = r.few; are = rw (le-ltb (length bytes) (bytes_for w) more) r.are })
]

groups-behind : (others : Reader) (g k n : ℕ) (ys : List ℕ) (rest' : List ℕ) (rest : List Item) → 0 < length ys → Fronts others → cond (nat_lt k (8 * g)) (Err fault ∷ []) (others (n - k) rest') ≡ given ys ++ rest → (length ys ≤ n - k) × (cond (nat_lt k (8 * g)) (Err fault ∷ []) (others (length ys) rest') ≡ given ys)
groups-behind others g k n [] rest' rest some front e = absurd (omega (arith, some))
groups-behind others g k n (y ∷ ys) rest' rest some front e = elim (cases_lt k (8 * g)) [
  | inl less ↦ absurd (let f : Err fault ∷ [] ≡ given (y ∷ ys) ++ rest = rw (lt-ltb k (8 * g) less) at e in cc f)
  | inr more ↦ (
      let e' : others (n - k) rest' ≡ given (y ∷ ys) ++ rest = rw (le-ltb k (8 * g) more) at e in
      let r = front (n - k) rest' (y ∷ ys) rest e' in
      (r.few, rw (le-ltb k (8 * g) more) r.are))
]

groups-front : (others : Reader) (w n g k : ℕ) (body rest' xs : List ℕ) (rest : List Item) → Fronts others → groups_items others w n g k body rest' ≡ given xs ++ rest → IsFront n (groups_items others w (length xs) g k body rest') xs
groups-front others w n g k body rest' xs rest front e = elim (cases_lt k n) [
  | inl less ↦
      let e' = rw (lt-ltb k n less) at e in
      elim (cases_lt k (length xs)) [
        | inl in-front ↦
            let s = split-front (unpacked w k body) xs _ rest e' (omega (arith, in-front, length-digits (2 ^ w) k (number_of body))) in
            let size : length xs - k ≡ length s.0 = omega (arith, ap length s.1, length-append (unpacked w k body) s.0, length-digits (2 ^ w) k (number_of body)) in
            let more = groups-behind others g k n s.0 rest' rest (omega (arith, size, in-front)) front s.2 in
            let all : given (unpacked w k body) ++ given s.0 ≡ given xs = given-append (unpacked w k body) s.0 ∙ ap given (sym s.1) in
            record {
              few = omega (arith, more.0, size, less, in-front);
              are = rw (lt-ltb k (length xs) in-front, size, more.1) all;
            }
        | inr behind ↦ record { few = omega (arith, behind, less); are = rw (le-ltb k (length xs) behind) (ap given (digits-front (2 ^ w) k (number_of body) xs _ rest e' behind)) }
      ]
  | inr more ↦
      let e' : given (unpacked w n body) ≡ given xs ++ rest = rw (le-ltb k n more) at e in
      let few : length xs ≤ n = omega (arith, short (unpacked w n body) xs rest e', length-digits (2 ^ w) n (number_of body)) in
      record { few = few; are = rw (le-ltb k (length xs) (omega (arith, few, more))) (ap given (digits-front (2 ^ w) n (number_of body) xs [] rest (append-nil (given (unpacked w n body)) ∙ e') few)) }
]
  where
    given-append : (cs bs : List ℕ) → given cs ++ given bs ≡ given (cs ++ bs)
    given-append [] bs = refl
    given-append (a ∷ cs) bs = ap (λ (is : List Item). Ok a ∷ is) (given-append cs bs)

run-front : (others : Reader) (w n : ℕ) (head : Option (ℕ × List ℕ)) (x : ℕ) (xs : List ℕ) (rest : List Item) → Fronts others → run_at others w n head ≡ given (x ∷ xs) ++ rest → IsFront n (run_at others w (length (x ∷ xs)) head) (x ∷ xs)
run-front others w n None x xs rest front e = absurd (cc e)
run-front others w n (Some h) x xs rest front e = by-kind (nat_eq (h.0 % 2) 0) refl
  where
    by-kind : (b : Bool) → nat_eq (h.0 % 2) 0 ≡ b → IsFront n (run_at others w (length (x ∷ xs)) (Some h)) (x ∷ xs)
    by-kind true k = (
        let r = copies-at others w n (h.0 / 2) h.1 x xs rest front (rw k at e) in
        record { few = r.few; are = rw k r.are })
    by-kind false k = (
        let r = groups-front others w n (h.0 / 2) (standing w (h.0 / 2) (take (w * (h.0 / 2)) h.1)) (take (w * (h.0 / 2)) h.1) (drop (w * (h.0 / 2)) h.1) (x ∷ xs) rest front (rw k at e) in
        record { few = r.few; are = rw k r.are })

no-fuel : (w n : ℕ) (bytes : List ℕ) (x : ℕ) (is : List Item) → runs_items zero w (suc n) bytes ≡ Ok x ∷ is → ⊥
unfolding runs_items
no-fuel w n bytes x is h = (let f : Err fault ∷ [] ≡ Ok x ∷ is = rw (ne_eqb (suc n) 0 (λ e. omega (arith, e))) at h in cc f)

runs-front : (fuel w : ℕ) → Fronts (runs_items fuel w)
runs-front fuel w n bytes [] rest e = record { few = omega arith; are = none_left fuel w bytes }
runs-front fuel w zero bytes (x ∷ xs) rest e = absurd (let f = sym (none_left fuel w bytes) ∙ e in cc f)
runs-front zero w (suc n) bytes (x ∷ xs) rest e = absurd (no-fuel w n bytes x (given xs ++ rest) e)
runs-front (suc fuel) w (suc n) bytes (x ∷ xs) rest e =
    let r = run-front (runs_items fuel w) w (suc n) (varint_at bytes) x xs rest (runs-front fuel w) (sym (step fuel w (suc n) bytes (omega arith)) ∙ e) in
    record { few = r.few; are = step fuel w (length (x ∷ xs)) bytes (omega arith) ∙ r.are }

hybrid-of : (w n : ℕ) (bytes xs : List ℕ) (rest : List Item) (b : Bool) → nat_eq w 0 ≡ b → hybrid w n bytes ≡ given xs ++ rest → IsFront n (hybrid w (length xs) bytes) xs
unfolding hybrid
hybrid-of w n bytes xs rest true k e =
    let e' : replicate n (Ok 0) ≡ given xs ++ rest = rw k at e in
    let few : length xs ≤ n = omega (arith, short (replicate n 0) xs rest (given-replicate n 0 ∙ e'), length-replicate {A = ℕ} n 0) in
    record { few = few; are = rw k (same-front n 0 xs [] rest (append-nil (replicate n (Ok 0)) ∙ e') few) }
hybrid-of w n bytes xs rest false k e =
    let r = runs-front (length bytes) w n bytes xs rest (rw k at e) in
    record { few = r.few; are = rw k r.are }

pub hybrid-front : (w n : ℕ) (bytes xs : List ℕ) (rest : List Item) → hybrid w n bytes ≡ given xs ++ rest → IsFront n (hybrid w (length xs) bytes) xs
hybrid-front w n bytes xs rest e = hybrid-of w n bytes xs rest (nat_eq w 0) refl e
