-- What is read from the bytes, run by run.
use Rattle.std.proofs.Common.{◌≡◌, ℕ, zero, suc, ◌+◌, ◌-◌, ◌*◌, ◌/◌, ◌%◌, ◌<◌, ◌≤◌, List, [], ◌∷◌, ◌++◌, length, take, drop, replicate, min, Option, Some, None, Ok, Err, refl, sym, ap, ◌∙◌, arith, append-nil, inl, inr}
use Rattle.std.proofs.lemmas.Nat.{mul-le, div-add-mod', le-div}
use Rattle.std.proofs.lemmas.Bool.{lt-ltb, le-ltb, eq-eqb, ne_eqb, cases_lt, cases_eq}
use Rattle.std.proofs.lemmas.List.{length-append, length-drop, length-take}
use Rattle.pq_runs.specs.Hybrid.{given, fault}
use Rattle.pq_numbers.specs.Bits.{bytes_for, unpacked}
use Rattle.pq_numbers.specs.Texts.{number_of}
use Rattle.pq_runs.specs.Hybrid.{Item, Reader, copies_items, copies_at, groups_items, standing, groups_at, run_at, runs_items}
use Rattle.pq_runs.specs.Taking.{IsPackedRun, IsRepeatedRun, NoRun}
use Rattle.pq_numbers.specs.Varint.{IsNumber, varint_at}
use Rattle.pq_runs.proofs.Complete.{given-replicate, step, none_left, even, odd, half, half_odd}
use Rattle.pq_numbers.proofs.Numbers.{number_stands, varint-none}

copies_same : (o o' : Reader) (fuel w n m : ℕ) (bytes : List ℕ) → ((k : ℕ) (b : List ℕ) → length b ≤ fuel → o k b ≡ o' k b) → length bytes ≤ fuel → copies_at o w n m bytes ≡ copies_at o' w n m bytes
copies_same o o' fuel w n m bytes same le =
    let e = same (n - m) (drop (bytes_for w) bytes) (omega (arith, le, length-drop (bytes_for w) bytes)) in
    rw e refl

groups_same : (o o' : Reader) (fuel w n g : ℕ) (bytes : List ℕ) → ((k : ℕ) (b : List ℕ) → length b ≤ fuel → o k b ≡ o' k b) → length bytes ≤ fuel → groups_at o w n g bytes ≡ groups_at o' w n g bytes
groups_same o o' fuel w n g bytes same le =
    let e = same (n - standing w g (take (w * g) bytes)) (drop (w * g) bytes) (omega (arith, le, length-drop (w * g) bytes)) in
    rw e refl

run_same : (o o' : Reader) (fuel w n head : ℕ) (tail : List ℕ) → ((k : ℕ) (b : List ℕ) → length b ≤ fuel → o k b ≡ o' k b) → length tail ≤ fuel → run_at o w n (Some (head, tail)) ≡ run_at o' w n (Some (head, tail))
run_same o o' fuel w n head tail same le =
    elim (cases_eq (head % 2) 0) [
      | inl even ↦ rw (eq-eqb (head % 2) 0 even) (copies_same o o' fuel w n (head / 2) tail same le)
      | inr odd ↦ rw (ne_eqb (head % 2) 0 odd) (groups_same o o' fuel w n (head / 2) tail same le)
    ]

pub tail_shorter : (bytes : List ℕ) (n : ℕ) (tail : List ℕ) → varint_at bytes ≡ Some (n, tail) → length tail < length bytes
tail_shorter bytes n tail e =
    let s = number_stands bytes n tail e in
    omega (arith, ap length s.1, length-append s.0 tail, some_digit s.0 n s.2)
  where
    some_digit : (head : List ℕ) (n : ℕ) → IsNumber head n → 0 < length head
    some_digit [] n number = absurd number.digits
    some_digit (b ∷ head) n number = omega arith

option_same : (o o' : Reader) (fuel w n : ℕ) (bytes : List ℕ) (head : Option (ℕ × List ℕ)) → head ≡ varint_at bytes → length bytes ≤ suc fuel → ((k : ℕ) (b : List ℕ) → length b ≤ fuel → o k b ≡ o' k b) → run_at o w n head ≡ run_at o' w n head
option_same o o' fuel w n bytes None is le same = refl
option_same o o' fuel w n bytes (Some head) is le same = run_same o o' fuel w n head.0 head.1 same (omega (arith, le, tail_shorter bytes head.0 head.1 (sym is)))

no_bytes : (fuel w n : ℕ) (bytes : List ℕ) → 0 < n → length bytes ≡ 0 → runs_items fuel w n bytes ≡ Err fault ∷ []
unfolding runs_items
no_bytes zero w n bytes some e = rw (ne_eqb n 0 (λ q. omega (arith, q, some))) refl
no_bytes (suc fuel) w n [] some e = rw (ne_eqb n 0 (λ q. omega (arith, q, some))) (empty_varint w n fuel)
  where
    empty_varint : (w n fuel : ℕ) → run_at (runs_items fuel w) w n (varint_at []) ≡ Err fault ∷ []
    empty_varint w n fuel = ap (λ (h : Option (ℕ × List ℕ)). run_at (runs_items fuel w) w n h) varint-none
no_bytes (suc fuel) w n (b ∷ bytes) some e = absurd (omega (arith, e))

-- any number that is large enough bounds the runs
pub enough_fuel : (fuel fuel' w n : ℕ) (bytes : List ℕ) → length bytes ≤ fuel → length bytes ≤ fuel' → runs_items fuel w n bytes ≡ runs_items fuel' w n bytes
enough_fuel fuel fuel' w zero bytes le le' = none_left fuel w bytes ∙ sym (none_left fuel' w bytes)
enough_fuel zero fuel' w (suc n) bytes le le' = no_bytes zero w (suc n) bytes (omega arith) (omega (arith, le)) ∙ sym (no_bytes fuel' w (suc n) bytes (omega arith) (omega (arith, le)))
enough_fuel (suc fuel) zero w (suc n) bytes le le' = no_bytes (suc fuel) w (suc n) bytes (omega arith) (omega (arith, le')) ∙ sym (no_bytes zero w (suc n) bytes (omega arith) (omega (arith, le')))
enough_fuel (suc fuel) (suc fuel') w (suc n) bytes le le' =
    step fuel w (suc n) bytes (omega arith)
    ∙ option_same (runs_items fuel w) (runs_items fuel' w) (min fuel fuel') w (suc n) bytes (varint_at bytes) refl (omega arith) (λ k b s. enough_fuel fuel fuel' w k b (omega (arith, s)) (omega (arith, s)))
    ∙ sym (step fuel' w (suc n) bytes (omega arith))

-- ---- the run at the front

first_step : (w n h : ℕ) (bytes tail : List ℕ) → 0 < n → varint_at bytes ≡ Some (h, tail) → runs_items (length bytes) w n bytes ≡ run_at (runs_items (length bytes - 1) w) w n (Some (h, tail))
first_step w n h bytes tail some e =
    let size : length bytes ≡ suc (length bytes - 1) = omega (arith, tail_shorter bytes h tail e) in
    ap (λ (f : ℕ). runs_items f w n bytes) size ∙ step (length bytes - 1) w n bytes some ∙ ap (λ (o : Option (ℕ × List ℕ)). run_at (runs_items (length bytes - 1) w) w n o) e

at_even : (o : Reader) (w n m : ℕ) (tail : List ℕ) → run_at o w n (Some (2 * m, tail)) ≡ copies_at o w n m tail
at_even o w n m tail = rw (even m, half m) refl

at_odd : (o : Reader) (w n g : ℕ) (tail : List ℕ) → run_at o w n (Some (2 * g + 1, tail)) ≡ groups_at o w n g tail
at_odd o w n g tail = rw (odd g, half_odd g) refl

pub found_nothing : (w n : ℕ) (bytes : List ℕ) → 0 < n → NoRun w bytes → runs_items (length bytes) w n bytes ≡ Err fault ∷ []
found_nothing w n bytes some h =
    elim h [
      | inl none ↦ headless w n bytes some none
      | inr (m, tail, e, short) ↦
          first_step w n (2 * m) bytes tail some e ∙ rw (even m, half m, lt-ltb (length tail) (bytes_for w) short) refl
    ]
  where
    headless : (w n : ℕ) (bytes : List ℕ) → 0 < n → varint_at bytes ≡ None → runs_items (length bytes) w n bytes ≡ Err fault ∷ []
    headless w n [] some e = no_bytes 0 w n [] some refl
    headless w n (b ∷ bytes) some e = step (length bytes) w n (b ∷ bytes) some ∙ ap (λ (o : Option (ℕ × List ℕ)). run_at (runs_items (length bytes) w) w n o) e

copies_are : (o : Reader) (w n m : ℕ) (tail value rest : List ℕ) → bytes_for w ≤ length tail → value ≡ take (bytes_for w) tail → rest ≡ drop (bytes_for w) tail → copies_at o w n m tail ≡ copies_items o n m (number_of value) rest
copies_are o w n m tail value rest long is behind = rw (le-ltb (length tail) (bytes_for w) long, is, behind) refl

items_then : (fuel w n m v : ℕ) (rest : List ℕ) → length rest ≤ fuel → copies_items (runs_items fuel w) n m v rest ≡ given (replicate (min m n) v) ++ runs_items (length rest) w (n - min m n) rest
items_then fuel w n m v rest shorter =
    elim (cases_lt m n) [
      | inl lt ↦
          let e : min m n ≡ m = omega (arith, lt) in
          rw (lt-ltb m n lt, e, given-replicate m v, enough_fuel fuel (length rest) w (n - m) rest shorter (omega arith)) refl
      | inr le ↦
          let e : min m n ≡ n = omega (arith, le) in
          let none : n - n ≡ 0 = omega arith in
          rw (le-ltb m n le, e, given-replicate n v, none, none_left (length rest) w rest, append-nil (replicate {A = Item} n (Ok v))) refl
    ]

pub found_copies : (w n m : ℕ) (bytes value rest : List ℕ) → 0 < n → IsRepeatedRun w bytes value m rest → runs_items (length bytes) w n bytes ≡ given (replicate (min m n) (number_of value)) ++ runs_items (length rest) w (n - min m n) rest
found_copies w n m bytes value rest some r =
    let shorter : length rest ≤ length bytes - 1 = omega (arith, tail_shorter bytes (2 * m) r.tail r.head, length-drop (bytes_for w) r.tail, ap length r.behind) in
    first_step w n (2 * m) bytes r.tail some r.head
    ∙ at_even (runs_items (length bytes - 1) w) w n m r.tail
    ∙ copies_are (runs_items (length bytes - 1) w) w n m r.tail value rest r.long r.is r.behind
    ∙ items_then (length bytes - 1) w n m (number_of value) rest shorter

groups_are : (o : Reader) (w n g : ℕ) (tail body rest : List ℕ) → body ≡ take (w * g) tail → rest ≡ drop (w * g) tail → groups_at o w n g tail ≡ groups_items o w n g (standing w g body) body rest
groups_are o w n g tail body rest is behind = rw (is, behind) refl

standing-all : (w g : ℕ) (body : List ℕ) → 0 < w → length body ≤ w * g → standing w g body ≡ 8 * length body / w
standing-all w g body h le =
    let most : 8 * length body / w * w ≤ 8 * length body = omega (arith, div-add-mod' (8 * length body) w) in
    let fits : 8 * length body / w ≤ 8 * g = le-of-mul (8 * length body / w) (8 * g) w h (omega (arith, most, le)) in
    omega (arith, fits)
  where
    le-of-mul : (a b c : ℕ) → 0 < c → a * c ≤ b * c → a ≤ b
    le-of-mul a b c h le =
        elim (cases_lt b a) [
          | inl lt ↦
              let p : suc b * c ≤ a * c = mul-le (suc b) c a c lt (omega arith) in
              absurd (omega (arith, p, le, h))
          | inr ok ↦ ok
        ]

cut_short : (w g : ℕ) (body : List ℕ) → 0 < w → length body ≤ w * g → 8 * length body / w < 8 * g → length body < w * g
cut_short w g body h size cut =
    elim (cases_lt (length body) (w * g)) [
      | inl short ↦ short
      | inr whole ↦
          let fits : 8 * g ≤ 8 * length body / w = le-div (8 * g) (8 * length body) w h (omega (arith, whole)) in
          absurd (omega (arith, fits, cut))
    ]

groups_then : (fuel w n g k : ℕ) (body rest : List ℕ) → length rest ≤ fuel → (k < 8 * g → length rest ≡ 0) → groups_items (runs_items fuel w) w n g k body rest ≡ given (unpacked w (min n k) body) ++ runs_items (length rest) w (n - min n k) rest
groups_then fuel w n g k body rest shorter empty =
    elim (cases_lt k n) [
      | inl lt ↦
          let e : min n k ≡ k = omega (arith, lt) in
          elim (cases_lt k (8 * g)) [
            | inl cut ↦ rw (lt-ltb k n lt, e, lt-ltb k (8 * g) cut, no_bytes (length rest) w (n - k) rest (omega (arith, lt)) (empty cut)) refl
            | inr le ↦ rw (lt-ltb k n lt, e, le-ltb k (8 * g) le, enough_fuel fuel (length rest) w (n - k) rest shorter (omega arith)) refl
          ]
      | inr le ↦
          let e : min n k ≡ n = omega (arith, le) in
          let none : n - n ≡ 0 = omega arith in
          rw (le-ltb k n le, e, none, none_left (length rest) w rest, append-nil (given (unpacked w n body))) refl
    ]

pub found_packed : (w n : ℕ) (bytes body rest : List ℕ) → 0 < w → 0 < n → IsPackedRun w bytes body rest → runs_items (length bytes) w n bytes ≡ given (unpacked w (min n (8 * length body / w)) body) ++ runs_items (length rest) w (n - min n (8 * length body / w)) rest
found_packed w n bytes body rest h some r =
    let shorter : length rest ≤ length bytes - 1 = omega (arith, tail_shorter bytes (2 * r.groups + 1) r.tail r.head, length-drop (w * r.groups) r.tail, ap length r.behind) in
    let size : length body ≤ w * r.groups = omega (arith, ap length r.is, length-take (w * r.groups) r.tail) in
    let empty : 8 * length body / w < 8 * r.groups → length rest ≡ 0 = λ cut. omega (arith, ap length r.behind, length-drop (w * r.groups) r.tail, ap length r.is, length-take (w * r.groups) r.tail, cut_short w r.groups body h size cut) in
    first_step w n (2 * r.groups + 1) bytes r.tail some r.head
    ∙ at_odd (runs_items (length bytes - 1) w) w n r.groups r.tail
    ∙ groups_are (runs_items (length bytes - 1) w) w n r.groups r.tail body rest r.is r.behind
    ∙ ap (λ (j : ℕ). groups_items (runs_items (length bytes - 1) w) w n r.groups j body rest) (standing-all w r.groups body h size)
    ∙ groups_then (length bytes - 1) w n r.groups (8 * length body / w) body rest shorter empty
