-- The steps of a writer of runs.
use Rattle.std.proofs.Common.{◌≡◌, ℕ, zero, suc, ◌+◌, ◌-◌, ◌*◌, ◌/◌, ◌%◌, ◌^◌, ◌<◌, ◌≤◌, List, [], ◌∷◌, ◌++◌, length, replicate, refl, sym, ap, subst, ◌∙◌, arith, append-nil, append_assoc, All, Result, Ok, Err, OnOk, map, false}
use Rattle.std.specs.Prelude.{is_err}
use Rattle.std.proofs.Math.Nat.{pow-le-pow_right, mod-eq_of_lt}
use Rattle.pq_numbers.specs.Bits.{unpacked, bytes_for}
use Rattle.pq_numbers.specs.Texts.{number_of}
use Rattle.pq_numbers.specs.Varint.{varint}
use Rattle.pq_runs.specs.Packing.{ArePacked}
use Rattle.pq_runs.specs.Writing.{Closed, Wrote, IsWhole, AppendsRuns, Encoded}
use Rattle.pq_runs.specs.WrittenRuns.{WrittenRuns, no_more, no_bits, copies, groups, last_groups}

-- ---- whole runs

pub length-zero : (xs : List ℕ) → length xs ≡ 0 → xs ≡ []
length-zero [] e = refl
length-zero (x ∷ xs) e = absurd (omega (arith, e))

closed_append : (w : ℕ) (s t xs ys : List ℕ) → Closed w s xs → Closed w t ys → Closed w (s ++ t) (xs ++ ys)
closed_append w s t xs ys a b = λ rest vs r.
    let both : WrittenRuns w (s ++ (t ++ rest)) (xs ++ (ys ++ vs)) = a (t ++ rest) (ys ++ vs) (b rest vs r) in
    rw (append_assoc s t rest, append_assoc xs ys vs) both

closed_copies : (w m v : ℕ) (value : List ℕ) → 0 < w → 0 < m → m < 2 ^ 63 → length value ≡ bytes_for w → number_of value ≡ v → v < 2 ^ w → Closed w (varint (2 * m) ++ value) (replicate m v)
closed_copies w m v value bits some few size is low = λ rest vs r. rw (append_assoc (varint (2 * m)) value rest) (copies m v value rest vs bits some few size is low r)

closed_groups : (w g : ℕ) (body : List ℕ) → 0 < w → 0 < g → g < 2 ^ 63 → length body ≡ w * g → Closed w (varint (2 * g + 1) ++ body) (unpacked w (8 * g) body)
closed_groups w g body bits some few size = λ rest vs r. rw (append_assoc (varint (2 * g + 1)) body rest) (groups g body rest vs bits some few size r)

-- ---- the steps

pub wrote_begin : (w : ℕ) (start : List ℕ) → Wrote w start start [] []
wrote_begin w start = record {
  text = [];
  done = [];
  parts = sym (append-nil start);
  all = refl;
  closed = λ rest vs r. r;
}

pub wrote_more : (w : ℕ) (start out pending xs ys : List ℕ) → Wrote w start out pending xs → Wrote w start out (pending ++ ys) (xs ++ ys)
wrote_more w start out pending xs ys s = record {
  text = s.text;
  done = s.done;
  parts = s.parts;
  all = sym (append_assoc s.done pending ys) ∙ ap (λ (t : List ℕ). t ++ ys) s.all;
  closed = s.closed;
}

more_runs : (w : ℕ) (start out out' pending xs text ys : List ℕ) → Wrote w start out pending xs → out' ≡ out ++ text → pending ≡ [] → Closed w text ys → Wrote w start out' [] (xs ++ ys)
more_runs w start out out' pending xs text ys s e none closed =
    let all : s.done ≡ xs = sym (append-nil s.done) ∙ ap (λ (t : List ℕ). s.done ++ t) (sym none) ∙ s.all in
    record {
      text = s.text ++ text;
      done = s.done ++ ys;
      parts = e ∙ ap (λ (t : List ℕ). t ++ text) s.parts ∙ append_assoc start s.text text;
      all = append-nil (s.done ++ ys) ∙ ap (λ (t : List ℕ). t ++ ys) all;
      closed = closed_append w s.text text s.done ys s.closed closed;
    }

-- what is pending becomes done
as_done : (w : ℕ) (start out pending xs : List ℕ) (s : Wrote w start out pending xs) → Wrote w start out [] s.done
as_done w start out pending xs s = record { text = s.text; done = s.done; parts = s.parts; all = append-nil s.done; closed = s.closed }

-- the bytes of whole groups
pub whole_size : (w g : ℕ) (numbers body : List ℕ) → length numbers ≡ 8 * g → ArePacked w numbers body → length body ≡ w * g
whole_size w g numbers body count p = p.size ∙ ap (λ (k : ℕ). bytes_for (w * k)) count ∙ whole w g
  where
    whole : (w g : ℕ) → bytes_for (w * (8 * g)) ≡ w * g
    whole w g = let e : w * (8 * g) ≡ 8 * (w * g) = omega arith in ap bytes_for e ∙ omega arith

pub whole_unpacks : (w g : ℕ) (numbers body : List ℕ) → length numbers ≡ 8 * g → ArePacked w numbers body → unpacked w (8 * g) body ≡ numbers
whole_unpacks w g numbers body count p = ap (λ (k : ℕ). unpacked w k body) (sym count) ∙ p.unpacks

-- whole groups that were pending
pub wrote_flush : (w : ℕ) (start out out' pending xs body : List ℕ) → 0 < w → 0 < length pending → length pending ≤ 504 → length pending % 8 ≡ 0 → ArePacked w pending body → out' ≡ out ++ (varint (2 * (length pending / 8) + 1) ++ body) → Wrote w start out pending xs → Wrote w start out' [] xs
wrote_flush w start out out' pending xs body bits some few whole p e s =
    let g : ℕ = length pending / 8 in
    let count : length pending ≡ 8 * g = omega (arith, whole) in
    let closed : Closed w (varint (2 * g + 1) ++ body) pending = subst (λ (ys : List ℕ). Closed w (varint (2 * g + 1) ++ body) ys) (whole_unpacks w g pending body count p) (closed_groups w g body bits (omega (arith, some, count)) (omega (arith, few)) (whole_size w g pending body count p)) in
    subst (λ (ys : List ℕ). Wrote w start out' [] ys) s.all
    (more_runs w start out out' [] s.done (varint (2 * g + 1) ++ body) pending (as_done w start out pending xs s) e refl closed)

-- ---- the end

-- written runs of the list behind what stood there
abbrev pub Ends : ℕ → List ℕ → List ℕ → List ℕ → Type 0
Ends w start out xs = (text : List ℕ) × (out ≡ start ++ text) × WrittenRuns w text xs

pub wrote_none : (w : ℕ) (start out xs : List ℕ) → Wrote w start out [] xs → Ends w start out xs
wrote_none w start out xs s =
    let all : s.done ≡ xs = sym (append-nil s.done) ∙ s.all in
    (s.text, s.parts, subst (λ (ys : List ℕ). WrittenRuns w s.text ys) all (rw (append-nil s.text, append-nil s.done) at (s.closed [] [] no_more)))

-- the last groups, filled up with zeros
pub wrote_last : (w k : ℕ) (start out out' pending padded xs body : List ℕ) → 0 < w → 0 < length padded → length padded ≤ 504 → length padded % 8 ≡ 0 → k < 8 → padded ≡ pending ++ replicate k 0 → ArePacked w padded body → out' ≡ out ++ (varint (2 * (length padded / 8) + 1) ++ body) → Wrote w start out pending xs → Ends w start out' xs
wrote_last w k start out out' pending padded xs body bits some few whole less is p e s =
    let g : ℕ = length padded / 8 in
    let count : length padded ≡ 8 * g = omega (arith, whole) in
    let last : WrittenRuns w (varint (2 * g + 1) ++ body) pending = last_groups g k body pending bits (omega (arith, some, count)) (omega (arith, few)) less (whole_size w g padded body count p) (whole_unpacks w g padded body count p ∙ is) in (
      s.text ++ (varint (2 * g + 1) ++ body),
      e ∙ ap (λ (t : List ℕ). t ++ (varint (2 * g + 1) ++ body)) s.parts ∙ append_assoc start s.text (varint (2 * g + 1) ++ body),
      subst (λ (ys : List ℕ). WrittenRuns w (s.text ++ (varint (2 * g + 1) ++ body)) ys) s.all (s.closed (varint (2 * g + 1) ++ body) pending last),
    )

-- ---- copies

pub below_whole : (w v : ℕ) → v < 2 ^ w → v < 2 ^ ((w + 7) / 8 * 8)
below_whole w v h =
    let p : 2 ^ w ≤ 2 ^ ((w + 7) / 8 * 8) = pow-le-pow_right (omega arith) (omega arith) in
    omega (arith, h, p)

pub replicate-append : (m n v : ℕ) → replicate m v ++ replicate n v ≡ replicate (m + n) v
replicate-append zero n v = let e : 0 + n ≡ n = omega arith in ap (λ (k : ℕ). replicate k v) (sym e)
replicate-append (suc m) n v =
    let e : suc m + n ≡ suc (m + n) = omega arith in
    ap (λ (t : List ℕ). v ∷ t) (replicate-append m n v) ∙ ap (λ (k : ℕ). replicate k v) (sym e)

-- some of the copies that are left
pub wrote_some : (w : ℕ) (start out pending xs : List ℕ) (v count left some : ℕ) → some ≤ left → left ≤ count → Wrote w start out pending (xs ++ replicate (count - left) v) → Wrote w start out (pending ++ replicate some v) (xs ++ replicate (count - (left - some)) v)
wrote_some w start out pending xs v count left some few most s =
    let e : count - (left - some) ≡ count - left + some = omega (arith, few, most) in
    let all : (xs ++ replicate (count - left) v) ++ replicate some v ≡ xs ++ replicate (count - (left - some)) v = append_assoc xs (replicate (count - left) v) (replicate some v) ∙ ap (λ (t : List ℕ). xs ++ t) (replicate-append (count - left) some v ∙ ap (λ (k : ℕ). replicate k v) (sym e)) in
    subst (λ (ys : List ℕ). Wrote w start out (pending ++ replicate some v) ys) all (wrote_more w start out pending (xs ++ replicate (count - left) v) (replicate some v) s)

-- all that are left
pub wrote_left : (w : ℕ) (start out out' xs value : List ℕ) (v count left : ℕ) → 0 < w → v < 2 ^ w → 0 < left → left ≤ count → count < 2 ^ 62 → IsWhole w v value → out' ≡ out ++ (varint (2 * left) ++ value) → Wrote w start out [] (xs ++ replicate (count - left) v) → Wrote w start out' [] (xs ++ replicate count v)
wrote_left w start out out' xs value v count left bits low some most few p e s =
    let whole : count - left + left ≡ count = omega arith in
    let all : (xs ++ replicate (count - left) v) ++ replicate left v ≡ xs ++ replicate count v = append_assoc xs (replicate (count - left) v) (replicate left v) ∙ ap (λ (t : List ℕ). xs ++ t) (replicate-append (count - left) left v ∙ ap (λ (k : ℕ). replicate k v) whole) in
    let closed : Closed w (varint (2 * left) ++ value) (replicate left v) = closed_copies w left v value bits some (omega (arith, few, most)) p.size p.value low in
    subst (λ (ys : List ℕ). Wrote w start out' [] ys) all (more_runs w start out out' [] (xs ++ replicate (count - left) v) (varint (2 * left) ++ value) (replicate left v) s e refl closed)

-- ---- the copies that wait

pub none_waits : (w : ℕ) (start : List ℕ) → Encoded w start start [] 0 0 []
none_waits w start = record { settled = []; all = refl; wrote = wrote_begin w start }

pub finished : {A E P Q : Type 0} (r : Result A E) → (P → Q) → OnOk r P → OnOk r Q
finished (Ok x) f p = f p
finished (Err e) f p = tt

-- a call that was no error
pub was_ok : {A E P : Type 0} (r : Result A E) → false ≡ is_err r → OnOk r P → P
was_ok (Ok x) e p = p
was_ok (Err x) e p = absurd (cc e)

-- ---- no bits

all_zero : (vs : List ℕ) → All (λ v. v < 2 ^ 0) vs → vs ≡ replicate (length vs) 0
all_zero [] h = refl
all_zero (v ∷ vs) h =
    let first : v < 1 = h 0 0 (omega arith) in
    let none : v ≡ 0 = omega (arith, first) in
    let others : All (λ v. v < 2 ^ 0) vs = λ k d lt. h (suc k) d (omega (arith, lt)) in
    ap (λ (x : ℕ). x ∷ vs) none ∙ ap (λ (t : List ℕ). 0 ∷ t) (all_zero vs others)

pub zero_width : (w : ℕ) (start vs : List ℕ) → w ≡ 0 → All (λ v. v < 2 ^ w) vs → AppendsRuns w start start vs
zero_width w start vs e h =
    let h' = subst (λ (k : ℕ). All (λ v. v < 2 ^ k) vs) e h in
    record {
      text = [];
      parts = sym (append-nil start);
      runs = subst (λ (ys : List ℕ). WrittenRuns w [] ys) (sym (all_zero vs h')) (no_bits (length vs) e);
      size = omega arith;
      short = omega arith;
    }

pub map_low : (w : ℕ) (vs : List ℕ) → All (λ v. v < 2 ^ w) vs → map (λ v. v % 2 ^ w) vs ≡ vs
map_low w [] h = refl
map_low w (v ∷ vs) h =
    let first : v < 2 ^ w = h 0 0 (omega arith) in
    let others : All (λ v. v < 2 ^ w) vs = λ k d lt. h (suc k) d (omega (arith, lt)) in
    ap (λ (x : ℕ). x ∷ map (λ (v : ℕ). v % 2 ^ w) vs) (mod-eq_of_lt first) ∙ ap (λ (t : List ℕ). v ∷ t) (map_low w vs others)
