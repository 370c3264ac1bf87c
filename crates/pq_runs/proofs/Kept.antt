-- What a writer of runs keeps.
use Rattle.std.proofs.Common.{◌≡◌, ℕ, zero, suc, ◌+◌, ◌*◌, ◌^◌, ◌<◌, ◌≤◌, List, ◌∷◌, [], ◌++◌, length, take, get_or, replicate, refl, sym, ap, subst, ◌∙◌, arith, append_assoc, Result, Ok, Err, OnOk}
use Rattle.std.proofs.lemmas.List.{length-append, length-replicate, take_more}
use Rattle.std.proofs.lemmas.Nat.{mul-le}
use Rattle.pq_runs.specs.Stretches.{one_if_any, stretch_bits, filled_up, Takes}
use Rattle.pq_runs.specs.Writing.{Wrote, Waiting, Keeps, AppendsRuns, IsTight}
use Rattle.pq_runs.proofs.Steps.{replicate-append, none_waits, Ends}
use Rattle.pq_runs.proofs.Tight.{Tighter}
use Rattle.pq_runs.proofs.Short.{nothing_spent, spent_copies, spent_others, spent_done}

pub both_ok : {A E P Q R : Type 0} (r : Result A E) → (P → Q → R) → OnOk r P → OnOk r Q → OnOk r R
both_ok (Ok x) f p q = f p q
both_ok (Err e) f p q = tt

abbrev pub waiting : ℕ → List ℕ → ℕ → ℕ → Waiting
waiting width block number count = record { width = width; block = block; number = number; count = count }

pub keeps_begin : (width number : ℕ) (start : List ℕ) → Keeps start start (waiting width [] 0 0) []
keeps_begin width number start = record { encoded = none_waits width start; done = 0; split = refl; tight = omega arith; spent = nothing_spent width start }

-- more copies of the number that waits
pub keeps_more : (start out : List ℕ) (width : ℕ) (block : List ℕ) (number count more : ℕ) (xs : List ℕ) → Keeps start out (waiting width block number count) xs → Keeps start out (waiting width block number (count + more)) (xs ++ replicate more number)
keeps_more start out width block number count more xs k = record {
  encoded =
      record {
        settled = k.encoded.settled;
        all = ap (λ (t : List ℕ). k.encoded.settled ++ t) (sym (replicate-append count more number)) ∙ sym (append_assoc k.encoded.settled (replicate count number) (replicate more number)) ∙ ap (λ (t : List ℕ). t ++ replicate more number) k.encoded.all;
        wrote = k.encoded.wrote;
      };
  done = k.done;
  split = omega (arith, k.split, length-append xs (replicate more number), length-replicate more number);
  tight = k.tight;
  spent = spent_copies width start out block k.encoded.settled number count more xs k.encoded.all k.spent;
}

-- the number that waited is settled, and another one waits
pub keeps_settled : (start out out' : List ℕ) (width : ℕ) (block block' : List ℕ) (number count number' count' : ℕ) (xs : List ℕ)
    → 0 < count' → (number ≡ number' → 2 ^ 40 ≤ count) → Takes width out block out' block' (stretch_bits width * one_if_any count)
    → ((start' ys : List ℕ) → Wrote width start' out block ys → Wrote width start' out' block' (ys ++ replicate count number))
    → ((start' done : ℕ) → IsTight width start' (length out) done → Tighter width start' (length out') (length block') (done + length block + count))
    → Keeps start out (waiting width block number count) xs → Keeps start out' (waiting width block' number' count') (xs ++ replicate count' number')
keeps_settled start out out' width block block' number count number' count' xs some ends t' f g k =
    let t = g (length start) k.done k.tight in
    record {
      encoded = record { settled = xs; all = refl; wrote = subst (λ (ys : List ℕ). Wrote width start out' block' ys) k.encoded.all (f start k.encoded.settled k.encoded.wrote) };
      done = t.0;
      split = omega (arith, t.1, k.split, length-append xs (replicate count' number'), length-replicate count' number');
      tight = t.2;
      spent = spent_others width start out out' block block' k.encoded.settled number count number' count' xs some k.encoded.all ends k.spent t';
    }

-- how many bits a few copies in the block take
pub few_taken : (w count : ℕ) (out block block' : List ℕ) → count ≤ 8 → length block' ≡ length block + count → Takes w out block out block' (stretch_bits w * one_if_any count)
few_taken w zero out block block' few n =
    let same : length block' ≡ length block = omega (arith, n) in
    let filled : w * filled_up (length block') ≡ w * filled_up (length block) = ap (λ (k : ℕ). w * filled_up k) same in
    omega (arith, filled)
few_taken w (suc c) out block block' few n =
    let filled : w * filled_up (length block') ≤ w * (filled_up (length block) + 8) = mul-le w _ w _ (omega arith) (omega (arith, n, few)) in
    let sum : w * (filled_up (length block) + 8) ≡ w * filled_up (length block) + 8 * w = omega arith in
    let one : stretch_bits w * 1 ≡ 14 * w + 152 = omega arith in
    omega (arith, filled, sum, one)

-- one number more of a list
pub numbers_on : (start out : List ℕ) (w : Waiting) (xs numbers : List ℕ) (i number : ℕ) → i < length numbers → number ≡ get_or numbers i 0 → Keeps start out w ((xs ++ take i numbers) ++ number ∷ []) → Keeps start out w (xs ++ take (i + 1) numbers)
numbers_on start out w xs numbers i number l e k =
    subst (λ (t : List ℕ). Keeps start out w t) (append_assoc xs (take i numbers) (number ∷ []) ∙ ap (λ (t : List ℕ). xs ++ t) (ap (λ (x : ℕ). take i numbers ++ x ∷ []) e ∙ sym (take_more numbers i 0 l))) k

-- some of the copies and the others
pub copies_on : (start out : List ℕ) (w : Waiting) (xs : List ℕ) (number m n all : ℕ) → m + n ≡ all → Keeps start out w ((xs ++ replicate m number) ++ replicate n number) → Keeps start out w (xs ++ replicate all number)
copies_on start out w xs number m n all e k =
    let whole : (xs ++ replicate m number) ++ replicate n number ≡ xs ++ replicate all number = append_assoc xs (replicate m number) (replicate n number) ∙ ap (λ (t : List ℕ). xs ++ t) (replicate-append m n number ∙ ap (λ (j : ℕ). replicate j number) e) in
    subst (λ (t : List ℕ). Keeps start out w t) whole k

-- ---- the end

pub keeps_end : (start out mid out' : List ℕ) (width : ℕ) (block block' : List ℕ) (number count : ℕ) (xs : List ℕ)
    → ((start' ys : List ℕ) → Wrote width start' out block ys → Wrote width start' mid block' (ys ++ replicate count number))
    → ((start' done : ℕ) → IsTight width start' (length out) done → Tighter width start' (length mid) (length block') (done + length block + count))
    → ((start' ys : List ℕ) → Wrote width start' mid block' ys → Ends width start' out' ys)
    → Takes width out block mid block' (stretch_bits width * one_if_any count) → 8 * length out' ≤ 8 * length mid + 8 + width * filled_up (length block')
    → Keeps start out (waiting width block number count) xs → AppendsRuns width start out' xs
keeps_end start out mid out' width block block' number count xs f g h taken size k =
    let t = g (length start) k.done k.tight in
    let wrote : Wrote width start mid block' xs = subst (λ (ys : List ℕ). Wrote width start mid block' ys) k.encoded.all (f start k.encoded.settled k.encoded.wrote) in
    let last = h start xs wrote in
    let n : length out' ≡ length start + length last.0 = ap length last.1 ∙ length-append start last.0 in
    let all : t.0 + length block' ≡ length xs = omega (arith, t.1, k.split) in
    let weight : (63 * width + 1) * (t.0 + length block') ≡ (63 * width + 1) * length xs = ap (λ (j : ℕ). (63 * width + 1) * j) all in
    let filled : width * filled_up (length block') ≤ width * (length block' + 7) = mul-le width (filled_up (length block')) width (length block' + 7) (omega arith) (omega arith) in
    let short = spent_done width start out mid out' block block' count xs k.spent taken size in
    record { text = last.0; parts = last.1; runs = last.2; size = tight_end width (length start) (length mid) (length out') t.0 (length block') (length xs) (length last.0) (width * filled_up (length block')) size t.2 n weight filled; short = omega (arith, short, n) }
  where
    tight_end : (w s m o d b n l f : ℕ) → 8 * o ≤ 8 * m + 8 + f → 504 * m ≤ (63 * w + 1) * d + 504 * s → o ≡ s + l → (63 * w + 1) * (d + b) ≡ (63 * w + 1) * n → f ≤ w * (b + 7) → 504 * l ≤ (63 * w + 1) * n + 441 * w + 504
    tight_end w s m o d b n l f size tight e weight filled = omega (arith, size, tight, e, weight, filled)
