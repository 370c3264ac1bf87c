-- What the runs spell is what is read.
use Rattle.std.proofs.Common.{◌≡◌, ℕ, zero, suc, ◌+◌, ◌-◌, ◌*◌, ◌/◌, ◌%◌, ◌^◌, ◌<◌, ◌≤◌, true, false, List, [], ◌∷◌, ◌++◌, length, take, drop, replicate, Ok, nat_eq, refl, sym, ap, subst, ◌∙◌, arith}
use Rattle.std.proofs.lemmas.Nat.{le-div}
use Rattle.std.proofs.lemmas.Bool.{lt-ltb, le-ltb, eq-eqb, ne_eqb}
use Rattle.std.proofs.lemmas.List.{append_assoc, length-append, length-replicate, map-append, take_at, drop_at}
use Rattle.std.proofs.Math.Seq.{take-append-add}
use Rattle.std.proofs.Math.Nat.{mul-div_cancel_left}
use Rattle.pq_numbers.specs.Bits.{digits_of, bytes_for, unpacked}
use Rattle.pq_numbers.specs.Texts.{number_of, Begins}
pub use Rattle.pq_runs.specs.Hybrid.{given}
use Rattle.pq_runs.specs.Hybrid.{Item, Reader, copies_at, groups_items, standing, groups_at, run_at, runs_items, hybrid}
use Rattle.pq_runs.specs.Runs.{Runs, no_more, no_bits, copies, last_copies, groups, last_groups}
use Rattle.pq_numbers.specs.Varint.{IsNumber, varint_at}
use Rattle.pq_numbers.proofs.Digits.{unpacked-append, length-digits}
use Rattle.pq_numbers.proofs.Numbers.{number_again}

pub given-replicate : (n v : ℕ) → given (replicate n v) ≡ replicate n (Ok v)
given-replicate zero v = refl
given-replicate (suc n) v = ap (λ (t : List Item). Ok v ∷ t) (given-replicate n v)

copies_more : (others : Reader) (w n m : ℕ) (value after vs : List ℕ) → length value ≡ bytes_for w → m < n → others (n - m) after ≡ given vs → copies_at others w n m (value ++ after) ≡ given (replicate m (number_of value) ++ vs)
copies_more others w n m value after vs size lt e =
    rw (le-ltb (length (value ++ after)) (bytes_for w) (omega (arith, size, length-append value after)), lt-ltb m n lt, take_at value after (bytes_for w) size, drop_at value after (bytes_for w) size, e, map-append, given-replicate m (number_of value)) refl

copies_last : (others : Reader) (w n m : ℕ) (value after : List ℕ) → length value ≡ bytes_for w → n ≤ m → copies_at others w n m (value ++ after) ≡ given (replicate n (number_of value))
copies_last others w n m value after size le =
    rw (le-ltb (length (value ++ after)) (bytes_for w) (omega (arith, size, length-append value after)), le-ltb m n le, take_at value after (bytes_for w) size, given-replicate n (number_of value)) refl

standing-whole : (w g : ℕ) (body : List ℕ) → 0 < w → length body ≡ w * g → standing w g body ≡ 8 * g
standing-whole w g body h size =
    let e : 8 * length body ≡ w * (8 * g) = omega (arith, size) in
    let d : 8 * length body / w ≡ 8 * g = ap (λ (x : ℕ). x / w) e ∙ mul-div_cancel_left (8 * g) h in
    rw d (omega arith)

groups_more : (others : Reader) (w n g : ℕ) (body after vs : List ℕ) → 0 < w → length body ≡ w * g → 8 * g < n → others (n - 8 * g) after ≡ given vs → groups_at others w n g (body ++ after) ≡ given (unpacked w (8 * g) body ++ vs)
groups_more others w n g body after vs h size lt e =
    rw (take_at body after (w * g) size, drop_at body after (w * g) size, standing-whole w g body h size, lt-ltb (8 * g) n lt, le-ltb (8 * g) (8 * g) (omega arith), e, map-append) refl

-- so many numbers stand there, and no more are called for
groups_enough : (others : Reader) (w n g k : ℕ) (body rest : List ℕ) → n ≤ k → groups_items others w n g k body rest ≡ given (unpacked w n body)
groups_enough others w n g k body rest le = rw (le-ltb k n le) refl

le_standing : (w n g : ℕ) (body : List ℕ) → 0 < w → n ≤ 8 * g → w * n ≤ 8 * length body → n ≤ standing w g body
le_standing w n g body h within enough =
    let fits : n ≤ 8 * length body / w = le-div n (8 * length body) w h (omega (arith, enough)) in
    omega (arith, fits, within)

-- the front of the body and whatever follows it, up to the end of the run, give the same numbers
pub take_enough : (w n g : ℕ) (body after : List ℕ) → length body ≤ w * g → take (w * g) (body ++ after) ≡ body ++ take (w * g - length body) after
take_enough w n g body after le =
    let e : w * g ≡ length body + (w * g - length body) = omega (arith, le) in
    ap (λ (k : ℕ). take k (body ++ after)) e ∙ take-append-add body after (w * g - length body)

groups_last : (others : Reader) (w n g : ℕ) (body after : List ℕ) → 0 < w → n ≤ 8 * g → w * n ≤ 8 * length body → length body ≤ w * g → groups_at others w n g (body ++ after) ≡ given (unpacked w n body)
groups_last others w n g body after h le enough short =
    let more : List ℕ = take (w * g - length body) after in
    let longer : w * n ≤ 8 * length (body ++ more) = omega (arith, enough, length-append body more) in
    rw (take_enough w n g body after short, groups_enough others w n g (standing w g (body ++ more)) (body ++ more) (drop (w * g) (body ++ after)) (le_standing w n g (body ++ more) h le longer), unpacked-append w n body more enough) refl

-- ---- one step

some_left : (n : ℕ) → 0 < n → nat_eq n 0 ≡ false
some_left n h = ne_eqb n 0 (λ e. omega (arith, h, e))

pub step : (fuel w n : ℕ) (bytes : List ℕ) → 0 < n → runs_items (suc fuel) w n bytes ≡ run_at (runs_items fuel w) w n (varint_at bytes)
unfolding runs_items
step fuel w n bytes h = rw (some_left n h) refl

pub even : (m : ℕ) → nat_eq (2 * m % 2) 0 ≡ true
even m = eq-eqb (2 * m % 2) 0 (omega arith)

pub odd : (g : ℕ) → nat_eq ((2 * g + 1) % 2) 0 ≡ false
odd g = ne_eqb ((2 * g + 1) % 2) 0 (λ e. omega (arith, e))

pub half : (m : ℕ) → 2 * m / 2 ≡ m
half m = omega arith

pub half_odd : (g : ℕ) → (2 * g + 1) / 2 ≡ g
half_odd g = omega arith

copies_step : (fuel w n m : ℕ) (head behind vs : List ℕ) → 0 < n → IsNumber head (2 * m) → copies_at (runs_items fuel w) w n m behind ≡ given vs → runs_items (suc fuel) w n (head ++ behind) ≡ given vs
copies_step fuel w n m head behind vs h number e = step fuel w n (head ++ behind) h ∙ rw (number_again head (2 * m) behind number, even m, half m) e

groups_step : (fuel w n g : ℕ) (head behind vs : List ℕ) → 0 < n → IsNumber head (2 * g + 1) → groups_at (runs_items fuel w) w n g behind ≡ given vs → runs_items (suc fuel) w n (head ++ behind) ≡ given vs
groups_step fuel w n g head behind vs h number e = step fuel w n (head ++ behind) h ∙ rw (number_again head (2 * g + 1) behind number, odd g, half_odd g) e

pub none_left : (fuel w : ℕ) (bytes : List ℕ) → runs_items fuel w 0 bytes ≡ []
unfolding runs_items
none_left zero w bytes = refl
none_left (suc fuel) w bytes = refl

-- ---- all runs

head_has_a_byte : (head : List ℕ) (n : ℕ) → IsNumber head n → 0 < length head
head_has_a_byte [] n number = absurd number.digits
head_has_a_byte (b ∷ head) n number = omega arith

front : (head value rest after : List ℕ) → (head ++ (value ++ rest)) ++ after ≡ head ++ (value ++ (rest ++ after))
front head value rest after = append_assoc head (value ++ rest) after ∙ ap (λ (s : List ℕ). head ++ s) (append_assoc value rest after)

copies_case : (fuel w m : ℕ) (head value rest' rest : List ℕ) (v : ℕ) (vs : List ℕ) → IsNumber head (2 * m) → length value ≡ bytes_for w → runs_items fuel w (suc (length vs)) (rest' ++ rest) ≡ given (v ∷ vs) → runs_items (suc fuel) w (length (replicate m (number_of value) ++ v ∷ vs)) ((head ++ (value ++ rest')) ++ rest) ≡ given (replicate m (number_of value) ++ v ∷ vs)
copies_case fuel w m head value rest' rest v vs number size e =
    let n : length (replicate m (number_of value) ++ v ∷ vs) ≡ m + suc (length vs) = length-append (replicate m (number_of value)) (v ∷ vs) ∙ ap (λ (k : ℕ). k + suc (length vs)) (length-replicate m (number_of value)) in
    let left : suc (length vs) ≡ m + suc (length vs) - m = omega arith in
    let e' : runs_items fuel w (m + suc (length vs) - m) (rest' ++ rest) ≡ given (v ∷ vs) = subst (λ (k : ℕ). runs_items fuel w k (rest' ++ rest) ≡ given (v ∷ vs)) left e in
    rw (n, front head value rest' rest) (copies_step fuel w (m + suc (length vs)) m head (value ++ (rest' ++ rest)) (replicate m (number_of value) ++ v ∷ vs) (omega arith) number (copies_more (runs_items fuel w) w (m + suc (length vs)) m value (rest' ++ rest) (v ∷ vs) size (omega arith) e'))

last_copies_case : (fuel w m n : ℕ) (head value rest : List ℕ) → IsNumber head (2 * m) → length value ≡ bytes_for w → 0 < n → n ≤ m → runs_items (suc fuel) w (length (replicate n (number_of value))) ((head ++ value) ++ rest) ≡ given (replicate n (number_of value))
last_copies_case fuel w m n head value rest number size some within =
    rw (length-replicate n (number_of value), append_assoc head value rest) (copies_step fuel w n m head (value ++ rest) (replicate n (number_of value)) some number (copies_last (runs_items fuel w) w n m value rest size within))

groups_case : (fuel w g : ℕ) (head body rest' rest : List ℕ) (v : ℕ) (vs : List ℕ) → 0 < w → IsNumber head (2 * g + 1) → length body ≡ w * g → runs_items fuel w (suc (length vs)) (rest' ++ rest) ≡ given (v ∷ vs) → runs_items (suc fuel) w (length (unpacked w (8 * g) body ++ v ∷ vs)) ((head ++ (body ++ rest')) ++ rest) ≡ given (unpacked w (8 * g) body ++ v ∷ vs)
groups_case fuel w g head body rest' rest v vs h number size e =
    let n : length (unpacked w (8 * g) body ++ v ∷ vs) ≡ 8 * g + suc (length vs) = length-append (unpacked w (8 * g) body) (v ∷ vs) ∙ ap (λ (k : ℕ). k + suc (length vs)) (length-digits (2 ^ w) (8 * g) (number_of body)) in
    let left : suc (length vs) ≡ 8 * g + suc (length vs) - 8 * g = omega arith in
    let e' : runs_items fuel w (8 * g + suc (length vs) - 8 * g) (rest' ++ rest) ≡ given (v ∷ vs) = subst (λ (k : ℕ). runs_items fuel w k (rest' ++ rest) ≡ given (v ∷ vs)) left e in
    rw (n, front head body rest' rest) (groups_step fuel w (8 * g + suc (length vs)) g head (body ++ (rest' ++ rest)) (unpacked w (8 * g) body ++ v ∷ vs) (omega arith) number (groups_more (runs_items fuel w) w (8 * g + suc (length vs)) g body (rest' ++ rest) (v ∷ vs) h size (omega arith) e'))

last_groups_case : (fuel w g n : ℕ) (head body rest : List ℕ) → 0 < w → IsNumber head (2 * g + 1) → 0 < n → n ≤ 8 * g → w * n ≤ 8 * length body → length body ≤ w * g → runs_items (suc fuel) w (length (unpacked w n body)) ((head ++ body) ++ rest) ≡ given (unpacked w n body)
last_groups_case fuel w g n head body rest h number some within enough short =
    rw (length-digits (2 ^ w) n (number_of body), append_assoc head body rest) (groups_step fuel w n g head (body ++ rest) (unpacked w n body) some number (groups_last (runs_items fuel w) w n g body rest h within enough short))

no_fuel : (head tail : List ℕ) (n : ℕ) → IsNumber head n → length (head ++ tail) ≤ 0 → ⊥
no_fuel head tail n number le = omega (arith, le, length-append head tail, head_has_a_byte head n number)

shorter : (fuel : ℕ) (head value rest : List ℕ) (n : ℕ) → IsNumber head n → length (head ++ (value ++ rest)) ≤ suc fuel → length rest ≤ fuel
shorter fuel head value rest n number le = omega (arith, le, length-append head (value ++ rest), length-append value rest, head_has_a_byte head n number)

not_zero : (w : ℕ) → 0 < w → w ≡ 0 → ⊥
not_zero w h e = omega (arith, h, e)

-- what the runs at the front spell is read, whatever follows them
read : (w fuel : ℕ) (text xs rest : List ℕ) → 0 < w → Runs w text xs → length text ≤ fuel → runs_items fuel w (length xs) (text ++ rest) ≡ given xs
read w fuel _ _ rest h no_more le = none_left fuel w rest
read w fuel _ _ rest h (no_bits n e) le = absurd (not_zero w h e)
read w zero _ _ rest h (copies m head value rest' v vs number size more) le = absurd (no_fuel head (value ++ rest') (2 * m) number le)
read w (suc fuel) _ _ rest h (copies m head value rest' v vs number size more) le =
    copies_case fuel w m head value rest' rest v vs number size (read w fuel rest' (v ∷ vs) rest h more (shorter fuel head value rest' (2 * m) number le))
read w zero _ _ rest h (last_copies m n head value number size some within) le = absurd (no_fuel head value (2 * m) number le)
read w (suc fuel) _ _ rest h (last_copies m n head value number size some within) le = last_copies_case fuel w m n head value rest number size some within
read w zero _ _ rest h (groups g head body rest' v vs number size more) le = absurd (no_fuel head (body ++ rest') (2 * g + 1) number le)
read w (suc fuel) _ _ rest h (groups g head body rest' v vs number size more) le =
    groups_case fuel w g head body rest' rest v vs h number size (read w fuel rest' (v ∷ vs) rest h more (shorter fuel head body rest' (2 * g + 1) number le))
read w zero _ _ rest h (last_groups g n head body number some within enough whole) le = absurd (no_fuel head body (2 * g + 1) number le)
read w (suc fuel) _ _ rest h (last_groups g n head body number some within enough whole) le = last_groups_case fuel w g n head body rest h number some within enough whole

-- ---- no bits

replicate-append : (m n v : ℕ) → replicate m v ++ replicate n v ≡ replicate (m + n) v
replicate-append zero n v = let e : 0 + n ≡ n = omega arith in ap (λ (k : ℕ). replicate k v) (sym e)
replicate-append (suc m) n v =
    let e : suc m + n ≡ suc (m + n) = omega arith in
    ap (λ (t : List ℕ). v ∷ t) (replicate-append m n v) ∙ ap (λ (k : ℕ). replicate k v) (sym e)

all_zeros : (m : ℕ) (vs : List ℕ) (z : ℕ) (front : List ℕ) → z ≡ 0 → front ≡ replicate m z → vs ≡ replicate (length vs) 0 → front ++ vs ≡ replicate (length (front ++ vs)) 0
all_zeros m vs z front none is e =
    let f : front ≡ replicate m 0 = is ∙ ap (λ (x : ℕ). replicate m x) none in
    let n : length (front ++ vs) ≡ m + length vs = length-append front vs ∙ ap (λ (k : ℕ). k + length vs) (ap length f ∙ length-replicate m 0) in
    ap (λ (s : List ℕ). s ++ vs) f ∙ ap (λ (s : List ℕ). replicate m 0 ++ s) e ∙ replicate-append m (length vs) 0 ∙ ap (λ (k : ℕ). replicate k 0) (sym n)

digits-one : (n m : ℕ) → digits_of 1 n m ≡ replicate n 0
digits-one zero m = refl
digits-one (suc n) m =
    let low : m % 1 ≡ 0 = omega arith in
    rw low (ap (λ (t : List ℕ). 0 ∷ t) (digits-one n (m / 1)))

no_byte : (value : List ℕ) → length value ≡ bytes_for 0 → number_of value ≡ 0
no_byte [] e = refl
no_byte (b ∷ bs) e = absurd (omega (arith, e))

same_zeros : (n z : ℕ) → z ≡ 0 → replicate n z ≡ replicate (length (replicate n z)) 0
same_zeros n z e = ap (λ (x : ℕ). replicate n x) e ∙ ap (λ (k : ℕ). replicate k 0) (sym (length-replicate n z))

zeros : (text xs : List ℕ) → Runs 0 text xs → xs ≡ replicate (length xs) 0
zeros _ _ no_more = refl
zeros _ _ (no_bits n e) = same_zeros n 0 refl
zeros _ _ (copies m head value rest v vs number size more) = all_zeros m (v ∷ vs) (number_of value) (replicate m (number_of value)) (no_byte value size) refl (zeros rest (v ∷ vs) more)
zeros _ _ (last_copies m n head value number size some within) = same_zeros n (number_of value) (no_byte value size)
zeros _ _ (groups g head body rest v vs number size more) = all_zeros (8 * g) (v ∷ vs) 0 (unpacked 0 (8 * g) body) refl (digits-one (8 * g) (number_of body)) (zeros rest (v ∷ vs) more)
zeros _ _ (last_groups g n head body number some within enough short) = digits-one n (number_of body) ∙ ap (λ (k : ℕ). replicate k 0) (sym (length-digits 1 n (number_of body)))

-- ---- one reading

from_begins : (w : ℕ) (bytes xs : List ℕ) → 0 < w → Begins (Runs w) bytes xs → runs_items (length bytes) w (length xs) bytes ≡ given xs
from_begins w bytes xs h b =
    let short : length b.text ≤ length bytes = omega (arith, ap length b.parts, length-append b.text b.rest) in
    subst (λ (s : List ℕ). runs_items (length bytes) w (length xs) s ≡ given xs) (sym b.parts) (read w (length bytes) b.text xs b.rest h b.spells short)

pub reads : (w : ℕ) (bytes xs : List ℕ) → Begins (Runs w) bytes xs → hybrid w (length xs) bytes ≡ given xs
unfolding hybrid
reads zero bytes xs b = sym (given-replicate (length xs) 0) ∙ ap given (sym (zeros b.text xs b.spells))
reads (suc w) bytes xs b = rw (ne_eqb (suc w) 0 (λ e. omega (arith, e))) (from_begins (suc w) bytes xs (omega arith) b)

pub given_same : (xs ys : List ℕ) → given xs ≡ given ys → xs ≡ ys
given_same [] [] e = refl
given_same [] (y ∷ ys) e = absurd cc
given_same (x ∷ xs) [] e = absurd cc
given_same (x ∷ xs) (y ∷ ys) e =
    let head : x ≡ y = cc in
    let tail : given xs ≡ given ys = cc in
    rw head (ap (λ (t : List ℕ). y ∷ t) (given_same xs ys tail))

-- for a given count the list is unique
pub unique : (w : ℕ) (bytes xs ys : List ℕ) → Begins (Runs w) bytes xs → Begins (Runs w) bytes ys → length xs ≡ length ys → xs ≡ ys
unique w bytes xs ys a b e = given_same xs ys (sym (reads w bytes xs a) ∙ ap (λ (n : ℕ). hybrid w n bytes) e ∙ reads w bytes ys b)
