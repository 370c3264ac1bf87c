-- Numbers of many short stretches, which are packed as they stand.
use Rattle.std.proofs.Common.{◌≡◌, ℕ, ◌+◌, ◌-◌, ◌*◌, ◌/◌, ◌^◌, ◌<◌, ◌≤◌, ◌==◌, Bool, cond, List, [], ◌∷◌, ◌++◌, length, take, drop, get_or, replicate, refl, sym, ap, subst, ◌∙◌, arith, append_assoc}
use Rattle.std.proofs.lemmas.Bool.{eq-eqb}
use Rattle.std.proofs.lemmas.Nat.{mul-le}
use Rattle.std.proofs.lemmas.List.{length-append, length-take, length-drop, take_more, take_all, take-append-drop}
use Rattle.pq_runs.specs.Stretches.{stretches, one_if_any, stretch_bits, filled_up, Takes, Spent}
use Rattle.pq_runs.specs.Writing.{Wrote, Keeps, IsTight}
use Rattle.pq_runs.proofs.Steps.{wrote_more}
use Rattle.pq_runs.proofs.Short.{stretches-push}
use Rattle.pq_runs.proofs.Tight.{Tighter}
use Rattle.pq_runs.proofs.Kept.{waiting}

-- ---- how many stretches there are

-- the stretches of the first numbers, behind one more, and the last of them
pub record Counted (first : ℕ) (numbers : List ℕ) (i count last : ℕ) : Type 0 where
  pub few : count ≤ i + 1
  pub is : count ≡ stretches (first ∷ take i numbers)
  pub before : List ℕ
  pub ends : first ∷ take i numbers ≡ before ++ last ∷ []

pub counted_begin : (first : ℕ) (numbers : List ℕ) → Counted first numbers 0 1 first
counted_begin first numbers = record { few = omega arith; is = refl; before = []; ends = refl }

pub counted_more : (first : ℕ) (numbers : List ℕ) (i count last number one : ℕ) → i < length numbers → number ≡ get_or numbers i 0 → one ≡ cond (last == number) 0 1 → one ≤ 1 → Counted first numbers i count last → Counted first numbers (i + 1) (count + one) number
counted_more first numbers i count last number one l e is most c =
    let next : first ∷ take (i + 1) numbers ≡ (c.before ++ last ∷ []) ++ number ∷ [] = ap (λ (t : List ℕ). first ∷ t) (take_more numbers i 0 l ∙ ap (λ (x : ℕ). take i numbers ++ x ∷ []) (sym e)) ∙ ap (λ (t : List ℕ). t ++ number ∷ []) c.ends in
    let all : stretches (first ∷ take (i + 1) numbers) ≡ stretches (c.before ++ last ∷ []) + cond (last == number) 0 1 = ap stretches next ∙ stretches-push c.before last number in
    let so_far : stretches (first ∷ take i numbers) ≡ stretches (c.before ++ last ∷ []) = ap stretches c.ends in
    record {
      few = omega (arith, c.few, most);
      is = omega (arith, c.is, is, all, so_far);
      before = c.before ++ last ∷ [];
      ends = next;
    }

pub counted_end : (first : ℕ) (numbers : List ℕ) (i count last : ℕ) → length numbers ≤ i → Counted first numbers i count last → count ≡ stretches (first ∷ numbers)
counted_end first numbers i count last le c = c.is ∙ ap (λ (t : List ℕ). stretches (first ∷ t)) (take_all i numbers le)

-- the first number once more in front
pub first_twice : (numbers : List ℕ) → 1 ≤ length numbers → stretches (get_or numbers 0 0 ∷ numbers) ≡ stretches numbers
first_twice [] some = absurd (omega (arith, some))
first_twice (x ∷ xs) some =
    let same : ◌≡◌ {A = ℕ} (cond (x == x) 0 1) 0 = ap (λ (b : Bool). cond b 0 1) (eq-eqb x x refl) in
    omega (arith, same)

-- two stretches at most become one where lists meet
pub stretches-append : (xs ys : List ℕ) → stretches xs + stretches ys ≤ stretches (xs ++ ys) + 1
stretches-append [] ys = omega arith
stretches-append (x ∷ []) [] = omega arith
stretches-append (x ∷ []) (y ∷ ys) = omega arith
stretches-append (a ∷ b ∷ xs) ys = omega (arith, stretches-append (b ∷ xs) ys)

spent_mixed : (w : ℕ) (start out out' block block' : List ℕ) (count n : ℕ) (xs numbers : List ℕ) → length numbers ≡ n + 1 → length numbers + 34 ≤ 14 * stretches numbers → Spent w start out block count xs
    → Takes w out block out' block' (stretch_bits w * one_if_any count + (w * (n + 7) + 8)) → Spent w start out' block' 1 (xs ++ numbers)
spent_mixed w start out out' block block' count n xs numbers size mixed s t =
    let some : 1 ≤ stretches numbers - 2 = omega (arith, mixed) in
    let more : w * (n + 7) ≤ w * (14 * (stretches numbers - 2)) = mul-le w (n + 7) w (14 * (stretches numbers - 2)) (omega arith) (omega (arith, mixed, size)) in
    let bits : stretch_bits w * (stretches numbers - 2) ≡ w * (14 * (stretches numbers - 2)) + 152 * (stretches numbers - 2) = bits_of (stretches numbers - 2) in
    let sum : stretch_bits w * (s.settled + one_if_any count + (stretches numbers - 2)) ≡ stretch_bits w * s.settled + stretch_bits w * one_if_any count + stretch_bits w * (stretches numbers - 2) = sum_of s.settled (one_if_any count) (stretches numbers - 2) in
    let all : length (xs ++ numbers) ≡ length xs + (n + 1) = length-append xs numbers ∙ ap (λ (k : ℕ). length xs + k) size in
    let both : stretches xs + stretches numbers ≤ stretches (xs ++ numbers) + 1 = stretches-append xs numbers in
    let rest : (length xs - count) / 2 ^ 40 ≤ (length (xs ++ numbers) - 1) / 2 ^ 40 = omega (arith, all) in
    record {
      settled = s.settled + one_if_any count + (stretches numbers - 2);
      bits = omega (arith, s.bits, t, sum, bits, more, some);
      some = omega (arith, s.some, both, rest, some);
      most = omega (arith, all);
      none = λ z. absurd (omega (arith, z));
    }
  where
    bits_of : (k : ℕ) → stretch_bits w * k ≡ w * (14 * k) + 152 * k
    bits_of k = omega arith

    sum_of : (a b c : ℕ) → stretch_bits w * (a + b + c) ≡ stretch_bits w * a + stretch_bits w * b + stretch_bits w * c
    sum_of a b c = omega arith

-- the number that waited is settled, numbers are packed, and one more waits
pub keeps_mixed : (start out mid out' : List ℕ) (width : ℕ) (block block1 block' : List ℕ) (number count last : ℕ) (front numbers xs : List ℕ)
    → numbers ≡ front ++ last ∷ [] → length numbers + 34 ≤ 14 * stretches numbers → Takes width out block mid block1 (stretch_bits width * one_if_any count)
    → ((start' ys : List ℕ) → Wrote width start' out block ys → Wrote width start' mid block1 (ys ++ replicate count number))
    → ((start' done : ℕ) → IsTight width start' (length out) done → Tighter width start' (length mid) (length block1) (done + length block + count))
    → Takes width mid block1 out' block' (width * (length front + 7) + 8)
    → ((start' ys : List ℕ) → Wrote width start' mid block1 ys → Wrote width start' out' block' (ys ++ front))
    → ((start' done : ℕ) → IsTight width start' (length mid) done → Tighter width start' (length out') (length block') (done + length block1 + length front))
    → Keeps start out (waiting width block number count) xs → Keeps start out' (waiting width block' last 1) (xs ++ numbers)
keeps_mixed start out mid out' width block block1 block' number count last front numbers xs e mixed t1 f g t2 f2 g2 k =
    let size : length numbers ≡ length front + 1 = ap length e ∙ length-append front (last ∷ []) in
    let settled : Wrote width start mid block1 xs = subst (λ (ys : List ℕ). Wrote width start mid block1 ys) k.encoded.all (f start k.encoded.settled k.encoded.wrote) in
    let one = g (length start) k.done k.tight in
    let two = g2 (length start) one.0 one.2 in
    let all : length (xs ++ numbers) ≡ length xs + (length front + 1) = length-append xs numbers ∙ ap (λ (j : ℕ). length xs + j) size in
    let bits : Takes width out block out' block' (stretch_bits width * one_if_any count + (width * (length front + 7) + 8)) = omega (arith, t1, t2) in
    record {
      encoded = record { settled = xs ++ front; all = append_assoc xs front (last ∷ []) ∙ ap (λ (t : List ℕ). xs ++ t) (sym e); wrote = f2 start xs settled };
      done = two.0;
      split = omega (arith, two.1, one.1, k.split, all);
      tight = two.2;
      spent = spent_mixed width start out out' block block' count (length front) xs numbers size mixed k.spent bits;
    }

-- one number that waited is packed with the others, and one more waits
pub keeps_behind : (start out out' : List ℕ) (width : ℕ) (block block' : List ℕ) (number count last : ℕ) (front numbers xs : List ℕ)
    → count ≡ 1 → numbers ≡ front ++ last ∷ [] → length numbers + 34 ≤ 14 * stretches numbers → Takes width out block out' block' (width * (length (number ∷ front) + 7) + 8)
    → ((start' ys : List ℕ) → Wrote width start' out block ys → Wrote width start' out' block' (ys ++ (number ∷ front)))
    → ((start' done : ℕ) → IsTight width start' (length out) done → Tighter width start' (length out') (length block') (done + length block + length (number ∷ front)))
    → Keeps start out (waiting width block number count) xs → Keeps start out' (waiting width block' last 1) (xs ++ numbers)
keeps_behind start out out' width block block' number count last front numbers xs one e mixed t f g k =
    let size : length numbers ≡ length front + 1 = ap length e ∙ length-append front (last ∷ []) in
    let waits : k.encoded.settled ++ number ∷ [] ≡ xs = ap (λ (n : ℕ). k.encoded.settled ++ replicate n number) (sym one) ∙ k.encoded.all in
    let behind : k.encoded.settled ++ (number ∷ front) ≡ xs ++ front = sym (append_assoc k.encoded.settled (number ∷ []) front) ∙ ap (λ (ys : List ℕ). ys ++ front) waits in
    let two = g (length start) k.done k.tight in
    let all : length (xs ++ numbers) ≡ length xs + (length front + 1) = length-append xs numbers ∙ ap (λ (j : ℕ). length xs + j) size in
    let any : one_if_any count ≡ 1 = ap one_if_any one in
    let more : width * (length (number ∷ front) + 7) ≡ width * (length front + 7) + width = omega arith in
    let spare : stretch_bits width * one_if_any count ≡ 14 * width + 152 = ap (λ (n : ℕ). stretch_bits width * n) any ∙ omega arith in
    let bits : Takes width out block out' block' (stretch_bits width * one_if_any count + (width * (length front + 7) + 8)) = omega (arith, t, more, spare) in
    record {
      encoded = record { settled = xs ++ front; all = append_assoc xs front (last ∷ []) ∙ ap (λ (ys : List ℕ). xs ++ ys) (sym e); wrote = subst (λ (ys : List ℕ). Wrote width start out' block' ys) behind (f start k.encoded.settled k.encoded.wrote) };
      done = two.0;
      split = omega (arith, two.1, k.split, all, one);
      tight = two.2;
      spent = spent_mixed width start out out' block block' count (length front) xs numbers size mixed k.spent bits;
    }

-- ---- numbers into the block

filled-more : (w b n : ℕ) → w * filled_up (b + n) ≤ w * filled_up b + w * (n + 7)
filled-more w b n =
    let more : w * filled_up (b + n) ≤ w * (filled_up b + (n + 7)) = mul-le w (filled_up (b + n)) w (filled_up b + (n + 7)) (omega arith) (omega arith) in
    let sum : w * (filled_up b + (n + 7)) ≡ w * filled_up b + w * (n + 7) = omega arith in
    omega (arith, more, sum)

pub fit_takes : (w : ℕ) (out block block' numbers : List ℕ) → block' ≡ block ++ numbers → Takes w out block out block' (w * (length numbers + 7) + 8)
fit_takes w out block block' numbers e =
    let n : length block' ≡ length block + length numbers = ap length e ∙ length-append block numbers in
    let same : w * filled_up (length block') ≡ w * filled_up (length block + length numbers) = ap (λ (k : ℕ). w * filled_up k) n in
    omega (arith, same, filled-more w (length block) (length numbers))

pub over_takes : (w room : ℕ) (out out' block block' numbers : List ℕ) → length block + room ≡ 504 → room ≤ length numbers → length block' ≡ length numbers - room → 8 * length out' ≤ 8 * length out + 8 + w * 504 → Takes w out block out' block' (w * (length numbers + 7) + 8)
over_takes w room out out' block block' numbers full le n size =
    let filled : w * filled_up (length block') ≤ w * (length numbers - room + 7) = mul-le w (filled_up (length block')) w (length numbers - room + 7) (omega arith) (omega (arith, n)) in
    let own : w * length block ≤ w * filled_up (length block) = mul-le w (length block) w (filled_up (length block)) (omega arith) (omega arith) in
    let all : w * 504 + w * (length numbers - room + 7) ≡ w * length block + w * (length numbers + 7) = sum_of w (length block) room (length numbers - room) (length numbers) full (omega (arith, le)) in
    omega (arith, size, filled, own, all)
  where
    sum_of : (w b r d n : ℕ) → b + r ≡ 504 → d + r ≡ n → w * 504 + w * (d + 7) ≡ w * b + w * (n + 7)
    sum_of w b r d n e1 e2 = rw (← e1, ← e2) (omega arith)

pub fit_tight : (w start out done : ℕ) (block block' numbers : List ℕ) → block' ≡ block ++ numbers → IsTight w start out done → Tighter w start out (length block') (done + length block + length numbers)
fit_tight w start out done block block' numbers e t =
    let n : length block' ≡ length block + length numbers = ap length e ∙ length-append block numbers in
    (done, omega (arith, n), t)

pub over_tight : (w start out out' room done : ℕ) (block block' numbers : List ℕ) → length block + room ≡ 504 → room ≤ length numbers → length block' ≡ length numbers - room → 8 * out' ≤ 8 * out + 8 + w * 504 → IsTight w start out done → Tighter w start out' (length block') (done + length block + length numbers)
over_tight w start out out' room done block block' numbers full le n size t = (done + 504, omega (arith, n, full, le), omega (arith, t, size))

pub over_wrote : (w room : ℕ) (start out out' block full block' numbers xs : List ℕ)
    → full ≡ block ++ take room numbers → block' ≡ drop room numbers → ((start' ys : List ℕ) → Wrote w start' out full ys → Wrote w start' out' [] ys) → Wrote w start out block xs → Wrote w start out' block' (xs ++ numbers)
over_wrote w room start out out' block full block' numbers xs e is f s =
    let first : Wrote w start out full (xs ++ take room numbers) = subst (λ (t : List ℕ). Wrote w start out t (xs ++ take room numbers)) (sym e) (wrote_more w start out block xs (take room numbers) s) in
    let last : Wrote w start out' (drop room numbers) ((xs ++ take room numbers) ++ drop room numbers) = wrote_more w start out' [] (xs ++ take room numbers) (drop room numbers) (f start (xs ++ take room numbers) first) in
    let all : (xs ++ take room numbers) ++ drop room numbers ≡ xs ++ numbers = append_assoc xs (take room numbers) (drop room numbers) ∙ ap (λ (t : List ℕ). xs ++ t) (take-append-drop room numbers) in
    subst (λ (t : List ℕ). Wrote w start out' t (xs ++ numbers)) (sym is) (subst (λ (ys : List ℕ). Wrote w start out' (drop room numbers) ys) all last)

pub last_behind : (numbers : List ℕ) → 1 ≤ length numbers → numbers ≡ take (length numbers - 1) numbers ++ get_or numbers (length numbers - 1) 0 ∷ []
last_behind numbers some = sym (take_all (length numbers - 1 + 1) numbers (omega arith)) ∙ take_more numbers (length numbers - 1) 0 (omega (arith, some))

-- what a block and a list of numbers come to where the block is filled
pub record Filled (w room : ℕ) (out out' block full block' numbers : List ℕ) : Type 0 where
  pub whole : length block + room ≡ 504
  pub within : room ≤ length numbers
  pub filled : full ≡ block ++ take room numbers
  pub is : block' ≡ drop room numbers
  pub left : length block' ≡ length numbers - room
  pub size : 8 * length out' ≤ 8 * length out + 8 + w * 504

pub filled_of : (w room : ℕ) (out out' block full mid front last block' numbers : List ℕ) → length block + room ≡ 504 → room ≤ length numbers → full ≡ block ++ front → front ≡ take room numbers → mid ≡ [] → block' ≡ mid ++ last → last ≡ drop room numbers → 8 * length out' ≤ 8 * length out + 8 + w * length full → Filled w room out out' block full block' numbers
filled_of w room out out' block full mid front last block' numbers whole within e1 e2 none e3 e4 size =
    let is : block' ≡ drop room numbers = e3 ∙ ap (λ (t : List ℕ). t ++ last) none ∙ e4 in
    let n : length full ≡ 504 = omega (arith, ap length e1, length-append block front, ap length e2, length-take room numbers, whole, within) in
    record {
      whole = whole;
      within = within;
      filled = e1 ∙ ap (λ (t : List ℕ). block ++ t) e2;
      is = is;
      left = ap length is ∙ length-drop room numbers;
      size = subst (λ (k : ℕ). 8 * length out' ≤ 8 * length out + 8 + w * k) n size;
    }
