-- Runs as they are written.
use Rattle.std.proofs.Common.{◌≡◌, ℕ, zero, suc, ◌+◌, ◌*◌, ◌/◌, ◌%◌, ◌^◌, ◌<◌, ◌≤◌, List, [], ◌∷◌, ◌++◌, length, replicate, take, refl, sym, ap, subst, ◌∙◌, arith, append-nil}
use Rattle.std.proofs.lemmas.List.{length-append, length-replicate, take_at}
use Rattle.std.proofs.lemmas.Nat.{mul-le}
use Rattle.pq_numbers.specs.Bits.{digits_of, unpacked, bytes_for}
use Rattle.pq_numbers.specs.Texts.{number_of}
use Rattle.pq_numbers.specs.Varint.{IsNumber, varint}
use Rattle.pq_numbers.proofs.Digits.{length-digits}
use Rattle.pq_numbers.proofs.Writes.{is_number, varint-size}
use Rattle.pq_runs.specs.Runs.{Runs}
use Rattle.pq_runs.specs.Runs as runs
use Rattle.pq_runs.specs.WrittenRuns.{WrittenRuns, no_more, no_bits, copies, groups, last_groups}

-- no runs spell nothing
nothing_spelled : (w : ℕ) (rest vs : List ℕ) → Runs w rest vs → length vs ≡ 0 → rest ≡ []
nothing_spelled w _ _ runs.no_more e = refl
nothing_spelled w _ _ (runs.no_bits n h) e = refl
nothing_spelled w _ _ (runs.copies m head value rest v vs number size more) e = absurd (omega (arith, e, length-append (replicate m (number_of value)) (v ∷ vs)))
nothing_spelled w _ _ (runs.last_copies m n head value number size some within) e = absurd (omega (arith, e, some, length-replicate n (number_of value)))
nothing_spelled w _ _ (runs.groups g head body rest v vs number size more) e = absurd (omega (arith, e, length-append (unpacked w (8 * g) body) (v ∷ vs)))
nothing_spelled w _ _ (runs.last_groups g n head body number some within enough short) e = absurd (omega (arith, e, some, length-digits (2 ^ w) n (number_of body)))

copies_before : (w m : ℕ) (head value rest vs : List ℕ) → IsNumber head (2 * m) → length value ≡ bytes_for w → 0 < m → Runs w rest vs → Runs w (head ++ (value ++ rest)) (replicate m (number_of value) ++ vs)
copies_before w m head value rest [] number size some r =
    let none : rest ≡ [] = nothing_spelled w rest [] r refl in
    rw (none, append-nil value, append-nil (replicate m (number_of value))) (runs.last_copies m m head value number size some (omega arith))
copies_before w m head value rest (v ∷ vs) number size some r = runs.copies m head value rest v vs number size r

groups_before : (w g : ℕ) (head body rest vs : List ℕ) → IsNumber head (2 * g + 1) → length body ≡ w * g → 0 < g → Runs w rest vs → Runs w (head ++ (body ++ rest)) (unpacked w (8 * g) body ++ vs)
groups_before w g head body rest [] number size some r =
    let none : rest ≡ [] = nothing_spelled w rest [] r refl in
    rw (none, append-nil body, append-nil (unpacked w (8 * g) body)) (runs.last_groups g (8 * g) head body number (omega arith) (omega arith) (omega (arith, size)) (omega (arith, size)))
groups_before w g head body rest (v ∷ vs) number size some r = runs.groups g head body rest v vs number size r

pub front_digits : (b n k m : ℕ) → digits_of b n m ≡ take n (digits_of b (n + k) m)
front_digits b zero k m = refl
front_digits b (suc n) k m =
    let e : suc n + k ≡ suc (n + k) = omega arith in
    ap (λ (t : List ℕ). m % b ∷ t) (front_digits b n k (m / b)) ∙ ap (λ (j : ℕ). take (suc n) (digits_of b j m)) (sym e)

-- how many numbers the last groups have
pub last_count : (w g k : ℕ) (body xs : List ℕ) → unpacked w (8 * g) body ≡ xs ++ replicate k 0 → 8 * g ≡ length xs + k
last_count w g k body xs e = sym (length-digits (2 ^ w) (8 * g) (number_of body)) ∙ ap length e ∙ length-append xs (replicate k 0) ∙ ap (λ (j : ℕ). length xs + j) (length-replicate k 0)

last_is : (w g k : ℕ) (head body xs : List ℕ) → IsNumber head (2 * g + 1) → 0 < g → k < 8 → length body ≡ w * g → unpacked w (8 * g) body ≡ xs ++ replicate k 0 → Runs w (head ++ body) xs
last_is w g k head body xs number some less size e =
    let n : 8 * g ≡ length xs + k = last_count w g k body xs e in
    let fits : w * length xs ≤ w * (8 * g) = mul-le w (length xs) w (8 * g) (omega arith) (omega (arith, n)) in
    let digits : unpacked w (length xs) body ≡ xs = front_digits (2 ^ w) (length xs) k (number_of body) ∙ ap (λ (j : ℕ). take (length xs) (digits_of (2 ^ w) j (number_of body))) (sym n) ∙ ap (take (length xs)) e ∙ take_at xs (replicate k 0) (length xs) refl in
    subst (λ (ys : List ℕ). Runs w (head ++ body) ys) digits (runs.last_groups g (length xs) head body number (omega (arith, n, some, less)) (omega (arith, n)) (omega (arith, size, fits)) (omega (arith, size)))

pub written_runs : (w : ℕ) (text xs : List ℕ) → WrittenRuns w text xs → Runs w text xs
written_runs w _ _ no_more = runs.no_more
written_runs w _ _ (no_bits n e) = runs.no_bits n e
written_runs w _ _ (copies m v value rest vs bits some few size is low r) =
    subst (λ (u : ℕ). Runs w (varint (2 * m) ++ (value ++ rest)) (replicate m u ++ vs)) is (copies_before w m (varint (2 * m)) value rest vs (is_number (2 * m) (omega (arith, few))) size some (written_runs w rest vs r))
written_runs w _ _ (groups g body rest vs bits some few size r) = groups_before w g (varint (2 * g + 1)) body rest vs (is_number (2 * g + 1) (omega (arith, few))) size some (written_runs w rest vs r)
written_runs w _ _ (last_groups g k body xs bits some few less size is) = last_is w g k (varint (2 * g + 1)) body xs (is_number (2 * g + 1) (omega (arith, few))) some less size is

-- ---- their size

-- the bytes of a group are at most those of its numbers
group_bytes : (w n : ℕ) → w * n ≤ 8 * (bytes_for w * n)
group_bytes w n =
    let m : w * n ≤ 8 * bytes_for w * n = mul-le w n (8 * bytes_for w) n (omega arith) (omega arith) in
    let e : 8 * bytes_for w * n ≡ 8 * (bytes_for w * n) = omega arith in
    omega (arith, m, e)

copies_size : (b m h v r n all size : ℕ) → 0 < m → 16 * h ≤ 2 * m + 16 → v ≡ b → all ≡ m + n → size ≡ h + (v + r) → r ≤ (b + 1) * n + 7 * b → size ≤ (b + 1) * all + 7 * b
copies_size b m h v r n all size some short is e is_size rest =
    let times : b * 1 ≤ b * m = mul-le b 1 b m (omega arith) some in
    let sum : (b + 1) * all ≡ b * m + m + (b + 1) * n = ap (λ (k : ℕ). (b + 1) * k) e ∙ omega arith in
    omega (arith, some, short, is, is_size, rest, times, sum)

groups_size : (b g h v r n all size : ℕ) → 0 < g → 16 * h ≤ 2 * g + 1 + 16 → v ≤ 8 * (b * g) → all ≡ 8 * g + n → size ≡ h + (v + r) → r ≤ (b + 1) * n + 7 * b → size ≤ (b + 1) * all + 7 * b
groups_size b g h v r n all size some short is e is_size rest =
    let sum : (b + 1) * all ≡ 8 * (b * g) + 8 * g + (b + 1) * n = ap (λ (k : ℕ). (b + 1) * k) e ∙ omega arith in
    omega (arith, some, short, is, is_size, rest, sum)

last_size : (b g k h v n size : ℕ) → 0 < g → 16 * h ≤ 2 * g + 1 + 16 → v ≤ 8 * (b * g) → 8 * g ≡ n + k → k < 8 → size ≡ h + v → size ≤ (b + 1) * n + 7 * b
last_size b g k h v n size some short is e less is_size =
    let times : b * k ≤ b * 7 = mul-le b k b 7 (omega arith) (omega (arith, less)) in
    let sum : 8 * (b * g) ≡ b * n + b * k = let one : 8 * (b * g) ≡ b * (8 * g) = omega arith in one ∙ ap (λ (j : ℕ). b * j) e ∙ omega arith in
    let all : (b + 1) * n ≡ b * n + n = omega arith in
    omega (arith, some, short, is, e, less, is_size, times, sum, all)

pub written_short : (w : ℕ) (text xs : List ℕ) → WrittenRuns w text xs → length text ≤ (bytes_for w + 1) * length xs + 7 * bytes_for w
written_short w _ _ no_more = omega arith
written_short w _ _ (no_bits n e) = omega arith
written_short w _ _ (copies m v value rest vs bits some few size is low r) =
    copies_size (bytes_for w) m (length (varint (2 * m))) (length value) (length rest) (length vs) _ _ some (varint-size (2 * m) (2 * m)) size
    (length-append (replicate m v) vs ∙ ap (λ (k : ℕ). k + length vs) (length-replicate m v))
    (length-append (varint (2 * m)) (value ++ rest) ∙ ap (λ (k : ℕ). length (varint (2 * m)) + k) (length-append value rest))
    (written_short w rest vs r)
written_short w _ _ (groups g body rest vs bits some few size r) =
    groups_size (bytes_for w) g (length (varint (2 * g + 1))) (length body) (length rest) (length vs) _ _ some (varint-size (2 * g + 1) (2 * g + 1)) (omega (arith, size, group_bytes w g))
    (length-append (unpacked w (8 * g) body) vs ∙ ap (λ (k : ℕ). k + length vs) (length-digits (2 ^ w) (8 * g) (number_of body)))
    (length-append (varint (2 * g + 1)) (body ++ rest) ∙ ap (λ (k : ℕ). length (varint (2 * g + 1)) + k) (length-append body rest))
    (written_short w rest vs r)
written_short w _ _ (last_groups g k body xs bits some few less size is) =
    last_size (bytes_for w) g k (length (varint (2 * g + 1))) (length body) (length xs) _ some (varint-size (2 * g + 1) (2 * g + 1)) (omega (arith, size, group_bytes w g)) (last_count w g k body xs is) less (length-append (varint (2 * g + 1)) body)
