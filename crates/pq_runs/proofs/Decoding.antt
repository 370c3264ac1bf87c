-- Whole lists, run by run.
use Rattle.std.proofs.Common.{◌≡◌, ◌≢◌, ℕ, ◌+◌, ◌-◌, ◌*◌, ◌/◌, ◌^◌, ◌<◌, ◌≤◌, List, [], ◌∷◌, ◌++◌, length, take, drop, replicate, min, Ok, Err, refl, sym, ap, subst, ◌∙◌, arith, append-nil, append_assoc}
use Rattle.std.proofs.lemmas.List.{length-replicate, length-drop, length-take, take-append-drop, replicate-append-replicate, take-replicate}
use Rattle.std.specs.Prelude.{Result, IfErr, IsErrAnd}
use Rattle.std.proofs.lemmas.Bool.{ne_eqb}
use Rattle.std.proofs.lemmas.Nat.{mul-le, div-add-mod'}
use Rattle.pq_numbers.specs.Bits.{unpacked, bytes_for}
use Rattle.pq_numbers.specs.Texts.{number_of}
use Rattle.pq_numbers.proofs.Bytes.{AreBytes}
use Rattle.pq_numbers.proofs.Digits.{length-digits, unpacked-append}
use Rattle.pq_runs.specs.Hybrid.{given, Item, hybrid, runs_items, fault}
use Rattle.pq_runs.specs.Runs.{Runs, no_bits}
use Rattle.pq_runs.specs.Spelled.{Spelled}
use Rattle.pq_runs.specs.Taking.{IsPackedRun, IsRepeatedRun}
use Rattle.pq_runs.proofs.Complete.{reads, none_left}
use Rattle.pq_runs.proofs.Fields.{unpacked-parts}
use Rattle.pq_runs.proofs.Fuel.{found_copies, found_packed}
use Rattle.pq_runs.proofs.Sound.{is_spelled}

-- ---- copies

pub copies_more : (out out' all : List ℕ) (left n v : ℕ) → n ≤ left → out' ≡ out ++ replicate n v → out ++ replicate left v ≡ all → out' ++ replicate (left - n) v ≡ all
copies_more out out' all left n v le e h =
    let k : n + (left - n) ≡ left = omega (arith, le) in
    ap (λ (t : List ℕ). t ++ replicate (left - n) v) e ∙ append_assoc out (replicate n v) (replicate (left - n) v) ∙ ap (λ (t : List ℕ). out ++ t) (replicate-append-replicate n (left - n) v ∙ ap (λ (j : ℕ). replicate j v) k) ∙ h

pub copies_last : (out out' all part : List ℕ) (left v : ℕ) → left ≤ 64 → part ≡ take left (replicate 64 v) → out' ≡ out ++ part → out ++ replicate left v ≡ all → out' ≡ all
copies_last out out' all part left v le is e h = e ∙ ap (λ (t : List ℕ). out ++ t) (is ∙ take-replicate left 64 v le) ∙ h

-- ---- packed numbers

pub skip_fits : (w left : ℕ) (rest : List ℕ) → 64 ≤ left → w * left ≤ 8 * length rest → 8 * w ≤ length rest
skip_fits w left rest le enough =
    let n : left ≡ 64 + (left - 64) = omega (arith, le) in
    let m : w * left ≡ 64 * w + w * (left - 64) = ap (λ (k : ℕ). w * k) n ∙ omega arith in
    omega (arith, m, enough)

pub enough_left : (w left : ℕ) (rest : List ℕ) → 64 ≤ left → w * left ≤ 8 * length rest → w * (left - 64) ≤ 8 * length (drop (8 * w) rest)
enough_left w left rest le enough =
    let n : left ≡ 64 + (left - 64) = omega (arith, le) in
    let m : w * left ≡ 64 * w + w * (left - 64) = ap (λ (k : ℕ). w * k) n ∙ omega arith in
    omega (arith, m, enough, length-drop (8 * w) rest)

pub unpacked_more : (w left : ℕ) (out out' all rest : List ℕ) → 64 ≤ left → AreBytes rest → out' ≡ out ++ unpacked w 64 rest → out ++ unpacked w left rest ≡ all → out' ++ unpacked w (left - 64) (drop (8 * w) rest) ≡ all
unpacked_more w left out out' all rest le are e h =
    let n : left ≡ 8 * 8 + (left - 64) = omega (arith, le) in
    let parts : unpacked w left rest ≡ unpacked w 64 rest ++ unpacked w (left - 64) (drop (8 * w) rest) = ap (λ (k : ℕ). unpacked w k rest) n ∙ unpacked-parts w 8 (left - 64) rest are in
    ap (λ (t : List ℕ). t ++ unpacked w (left - 64) (drop (8 * w) rest)) e
    ∙ append_assoc out (unpacked w 64 rest) (unpacked w (left - 64) (drop (8 * w) rest))
    ∙ ap (λ (t : List ℕ). out ++ t) (sym parts)
    ∙ h

-- ---- eight at once

pub skip_eight : (w left : ℕ) (rest : List ℕ) → 8 ≤ left → w * left ≤ 8 * length rest → w ≤ length rest
skip_eight w left rest le enough =
    let n : left ≡ 8 + (left - 8) = omega (arith, le) in
    let m : w * left ≡ 8 * w + w * (left - 8) = ap (λ (k : ℕ). w * k) n ∙ omega arith in
    omega (arith, m, enough)

pub enough_eight : (w left : ℕ) (rest : List ℕ) → 8 ≤ left → w * left ≤ 8 * length rest → w * (left - 8) ≤ 8 * length (drop w rest)
enough_eight w left rest le enough =
    let n : left ≡ 8 + (left - 8) = omega (arith, le) in
    let m : w * left ≡ 8 * w + w * (left - 8) = ap (λ (k : ℕ). w * k) n ∙ omega arith in
    omega (arith, m, enough, length-drop w rest)

pub eight_are : (w : ℕ) (rest : List ℕ) → w ≤ 8 → w ≤ length rest → unpacked w 8 (take 8 rest) ≡ unpacked w 8 rest
eight_are w rest fits enough = sym (unpacked-append w 8 (take 8 rest) (drop 8 rest) (omega (arith, length-take 8 rest))) ∙ ap (unpacked w 8) (take-append-drop 8 rest)

pub eight_more : (w left : ℕ) (out out' all rest : List ℕ) → 8 ≤ left → AreBytes rest → out' ≡ out ++ unpacked w 8 rest → out ++ unpacked w left rest ≡ all → out' ++ unpacked w (left - 8) (drop w rest) ≡ all
eight_more w left out out' all rest le are e h =
    let n : left ≡ 8 * 1 + (left - 8) = omega (arith, le) in
    let one : 1 * w ≡ w = omega arith in
    let parts : unpacked w left rest ≡ unpacked w 8 rest ++ unpacked w (left - 8) (drop w rest) = ap (λ (k : ℕ). unpacked w k rest) n ∙ unpacked-parts w 1 (left - 8) rest are ∙ ap (λ (k : ℕ). unpacked w 8 rest ++ unpacked w (left - 8) (drop k rest)) one in
    ap (λ (t : List ℕ). t ++ unpacked w (left - 8) (drop w rest)) e
    ∙ append_assoc out (unpacked w 8 rest) (unpacked w (left - 8) (drop w rest))
    ∙ ap (λ (t : List ℕ). out ++ t) (sym parts)
    ∙ h

-- ---- runs

-- the bytes of a repeated number
pub value_size : (w m : ℕ) (bytes value rest : List ℕ) → w ≤ 32 → IsRepeatedRun w bytes value m rest → length value ≤ 4
value_size w m bytes value rest fits r = omega (arith, ap length r.is, length-take (bytes_for w) r.tail)

pub run_copies : (w n m k v : ℕ) (out out' bytes value rest : List ℕ) → 0 < n → IsRepeatedRun w bytes value m rest → k ≡ min m n → v ≡ number_of value → out' ≡ out ++ replicate k v → (xs : List ℕ) × (out' ≡ out ++ xs) × (length xs ≤ n) × (runs_items (length bytes) w n bytes ≡ given xs ++ runs_items (length rest) w (n - length xs) rest)
run_copies w n m k v out out' bytes value rest some r is same e =
    let size : length (replicate k v) ≡ min m n = length-replicate k v ∙ is in (
      replicate k v,
      e,
      omega (arith, size),
      rw (size, is, same) (found_copies w n m bytes value rest some r),
    )

pub run_packed : (w n k : ℕ) (out out' bytes body rest : List ℕ) → 0 < w → 0 < n → IsPackedRun w bytes body rest → k ≡ min n (8 * length body / w) → out' ≡ out ++ unpacked w k body → (xs : List ℕ) × (out' ≡ out ++ xs) × (length xs ≤ n) × (runs_items (length bytes) w n bytes ≡ given xs ++ runs_items (length rest) w (n - length xs) rest)
run_packed w n k out out' bytes body rest wide some r is e =
    let size : length (unpacked w k body) ≡ min n (8 * length body / w) = length-digits (2 ^ w) k (number_of body) ∙ is in (
      unpacked w k body,
      e,
      omega (arith, size),
      rw (size, is) (found_packed w n bytes body rest wide some r),
    )

-- so many numbers stand in the body
pub enough_packed : (w n k : ℕ) (body : List ℕ) → k ≡ min n (8 * length body / w) → w * k ≤ 8 * length body
enough_packed w n k body is =
    let le : k ≤ 8 * length body / w = omega (arith, is) in
    let m : w * k ≤ w * (8 * length body / w) = mul-le w k w (8 * length body / w) (omega arith) le in
    omega (arith, m, div-add-mod' (8 * length body) w)

-- ---- the whole list

pub zeros_spelled : (w n : ℕ) (bytes xs : List ℕ) → w ≡ 0 → xs ≡ replicate n 0 → Spelled w n bytes xs
zeros_spelled w n bytes xs none is = record {
  count = ap length is ∙ length-replicate n 0;
  begins = record { text = []; rest = bytes; parts = refl; spells = subst (λ (ys : List ℕ). Runs w [] ys) (sym is) (no_bits n none) };
}

pub all_spelled : (w n : ℕ) (bytes xs rest : List ℕ) → w ≢ 0 → n ≤ length xs → length xs ≤ n → given xs ++ runs_items (length rest) w (n - length xs) rest ≡ runs_items (length bytes) w n bytes → Spelled w n bytes xs
unfolding hybrid
all_spelled w n bytes xs rest some enough within e =
    let none : n - length xs ≡ 0 = omega (arith, enough) in
    let all : runs_items (length bytes) w n bytes ≡ given xs = sym e ∙ ap (λ (k : ℕ). given xs ++ runs_items (length rest) w k rest) none ∙ ap (λ (t : List Item). given xs ++ t) (none_left (length rest) w rest) ∙ append-nil (given xs) in
    is_spelled w n bytes xs (rw (ne_eqb w 0 some) all)

fault_is_not_given : (xs ys : List ℕ) → given xs ++ Err fault ∷ [] ≡ given ys → ⊥
fault_is_not_given [] [] e = cc e
fault_is_not_given [] (y ∷ ys) e = cc e
fault_is_not_given (x ∷ xs) [] e = cc e
fault_is_not_given (x ∷ xs) (y ∷ ys) e =
    let others : given xs ++ Err fault ∷ [] ≡ given ys = cc in
    fault_is_not_given xs ys others

pub none_spelled : (w n k : ℕ) (bytes xs rest : List ℕ) → w ≢ 0 → given xs ++ runs_items (length rest) w (n - length xs) rest ≡ runs_items (length bytes) w n bytes → k ≡ n - length xs → runs_items (length rest) w k rest ≡ Err fault ∷ [] → (ys : List ℕ) → Spelled w n bytes ys → ⊥
unfolding hybrid
none_spelled w n k bytes xs rest some e is failed ys s =
    let read : hybrid w n bytes ≡ given ys = subst (λ (k : ℕ). hybrid w k bytes ≡ given ys) s.count (reads w bytes ys s.begins) in
    let all : runs_items (length bytes) w n bytes ≡ given ys = rw (ne_eqb w 0 some) at read in
    fault_is_not_given xs ys (ap (λ (t : List Item). given xs ++ t) (sym failed) ∙ ap (λ (j : ℕ). given xs ++ runs_items (length rest) w j rest) is ∙ e ∙ all)

-- an error that is passed on
pub passed_on : {A E : Type 0} (P : E → Type 0) (r : Result A E) (e : E) → IsErrAnd r (λ e'. e' ≡ e) → P e → IfErr r P
passed_on P (Ok a) e is p = tt
passed_on P (Err e') e is p = subst P (sym is) p
