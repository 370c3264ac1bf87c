-- Deltas as they are written, and spellings that are not.
use Rattle.std.proofs.Common.{◌≡◌, ℕ, zero, suc, ℤ, pos, negsuc, ◌+◌, ◌*◌, ◌^◌, ◌<◌, ◌≤◌, ◌+ℤ◌, SFits, List, [], ◌∷◌, ◌++◌, length, take, drop, replicate, get_or, map, All, Some, refl, sym, ap, subst, ◌∙◌, arith, inl, inr, append-nil, append_assoc}
use Rattle.std.proofs.Math.Facts.{sfits_lit}
use Rattle.std.proofs.lemmas.List.{length-append, length-map, length-replicate, take_at, drop_at}
use Rattle.std.proofs.lemmas.List.Elements.{All-from_recursion}
use Rattle.std.specs.Int.{Width, w32, w64}
use Rattle.pq_numbers.specs.Bits.{unpacked}
use Rattle.pq_numbers.specs.Texts.{number_of}
use Rattle.pq_numbers.specs.Varint.{digits, varint, varint_at, varint_up_to}
use Rattle.pq_numbers.specs.Zigzag.{zigzag}
use Rattle.pq_numbers.proofs.Digits.{length-digits}
use Rattle.pq_numbers.proofs.Numbers.{number_again}
use Rattle.pq_numbers.proofs.Writes.{digits-last, digits-more, is_number}
use Rattle.pq_runs.specs.Delta.{IsSums, sums}
use Rattle.pq_runs.specs.Examples.{eight_from, WrittenDeltasAreWorked}
use Rattle.pq_runs.specs.Packing.{IsLeastWidth}
use Rattle.pq_runs.specs.WrittenDelta.{WrittenMiniblocks, miniblock, WrittenBlocks, block, IsWrittenDelta}
use Rattle.pq_runs.specs.WrittenDelta as writing
use Rattle.pq_runs.proofs.DeltaParts.{zigzag_fits}

-- ---- as it is written

two_bits : IsLeastWidth 2 (0 ∷ 0 ∷ 0 ∷ 3 ∷ 3 ∷ 3 ∷ 3 ∷ [])
two_bits = record { holds = All-from_recursion (λ v. v < 4) (0 ∷ 0 ∷ 0 ∷ 3 ∷ 3 ∷ 3 ∷ 3 ∷ []) (omega arith, (omega arith, (omega arith, (omega arith, (omega arith, (omega arith, (omega arith, tt))))))); least = λ u h. from u (h 3 0 (omega arith)) }
  where
    from : (u : ℕ) → 3 < 2 ^ u → 2 ≤ u
    from zero h = omega (arith, h)
    from (suc zero) h = omega (arith, h)
    from (suc (suc u)) h = omega arith

no_bits : IsLeastWidth 0 (0 ∷ [])
no_bits = record { holds = All-from_recursion (λ v. v < 1) (0 ∷ []) (omega arith, tt); least = λ u h. omega arith }

minis : WrittenMiniblocks 64 (2 ∷ 0 ∷ 0 ∷ 0 ∷ []) (192 ∷ 63 ∷ 0 ∷ 0 ∷ 0 ∷ 0 ∷ 0 ∷ 0 ∷ []) (0 ∷ 0 ∷ 0 ∷ 3 ∷ 3 ∷ 3 ∷ 3 ∷ [])
minis = miniblock 2 25 (0 ∷ 0 ∷ 0 ∷ []) (192 ∷ 63 ∷ 0 ∷ 0 ∷ 0 ∷ 0 ∷ 0 ∷ 0 ∷ []) [] (0 ∷ 0 ∷ 0 ∷ 3 ∷ 3 ∷ 3 ∷ 3 ∷ []) [] (omega arith) (omega arith) two_bits refl refl (inr refl) (writing.no_more 3)

seven : WrittenBlocks w64 (3 ∷ 2 ∷ 0 ∷ 0 ∷ 0 ∷ 192 ∷ 63 ∷ 0 ∷ 0 ∷ 0 ∷ 0 ∷ 0 ∷ 0 ∷ []) (negsuc 1 ∷ negsuc 1 ∷ negsuc 1 ∷ pos 1 ∷ pos 1 ∷ pos 1 ∷ pos 1 ∷ [])
unfolding digits
seven =
    block (2 ∷ 0 ∷ 0 ∷ 0 ∷ []) (192 ∷ 63 ∷ 0 ∷ 0 ∷ 0 ∷ 0 ∷ 0 ∷ 0 ∷ []) [] (negsuc 1) (0 ∷ 0 ∷ 0 ∷ 3 ∷ 3 ∷ 3 ∷ 3 ∷ []) [] (sfits_lit tt)
    (All-from_recursion (SFits w64) (negsuc 1 ∷ negsuc 1 ∷ negsuc 1 ∷ pos 1 ∷ pos 1 ∷ pos 1 ∷ pos 1 ∷ []) (sfits_lit tt, (sfits_lit tt, (sfits_lit tt, (sfits_lit tt, (sfits_lit tt, (sfits_lit tt, (sfits_lit tt, tt))))))))
    (0, omega arith, refl) refl minis (inl refl) writing.no_more

one_further : WrittenBlocks w32 (2 ∷ 0 ∷ 0 ∷ 0 ∷ 0 ∷ []) (pos 1 ∷ [])
unfolding digits
one_further =
    block (0 ∷ 0 ∷ 0 ∷ 0 ∷ []) [] [] (pos 1) (0 ∷ []) [] (sfits_lit tt) (All-from_recursion (SFits w32) (pos 1 ∷ []) (sfits_lit tt, tt)) (0, omega arith, refl) refl
    (miniblock 0 31 (0 ∷ 0 ∷ 0 ∷ []) [] [] (0 ∷ []) [] (omega arith) (omega arith) no_bits refl refl (inr refl) (writing.no_more 3)) (inl refl) writing.no_more

-- ---- what stands in a text of eight numbers

same_pair : (x y : ℕ × List ℕ) → Some x ≡ Some y → x ≡ y
same_pair x y e = cc

-- the number at the front of a text, and what is behind it
front : (n : ℕ) (rest bytes : List ℕ) (m : ℕ) (tail : List ℕ) → n < 2 ^ 64 → bytes ≡ varint n ++ rest → varint_at bytes ≡ Some (m, tail) → (n ≡ m) × (rest ≡ tail)
front n rest bytes m tail fits parts e =
    let read : Some (n, rest) ≡ Some (m, tail) = sym (number_again (varint n) n rest (is_number n fits)) ∙ ap varint_at (sym parts) ∙ e in
    let same = same_pair (n, rest) (m, tail) read in
    (ap (λ (p : ℕ × List ℕ). p.0) same, ap (λ (p : ℕ × List ℕ). p.1) same)

-- one miniblock of n numbers and zeros
record First (w : ℕ) (bytes : List ℕ) (n : ℕ) : Type 0 where
  ns : List ℕ
  k : ℕ
  body : List ℕ
  rest : List ℕ
  parts : bytes ≡ body ++ rest
  least : IsLeastWidth w ns
  size : length body ≡ 4 * w
  is : unpacked w 32 body ≡ ns ++ replicate k 0
  count : length ns ≡ n

first_mini : (most w : ℕ) (ws t body ns : List ℕ) → WrittenMiniblocks most ws body ns → ws ≡ w ∷ t → 0 < length ns → length ns < 32 → First w body (length ns)
first_mini most w _ t _ _ (writing.no_more n) e some few = absurd (omega (arith, some))
first_mini most w _ t _ _ (miniblock u k ws body rest ns more s fits least size is end others) e some few =
    let same : u ≡ w = cc in
    let count : 32 ≡ length ns + k = sym (length-digits (2 ^ u) 32 (number_of body)) ∙ ap length is ∙ length-append ns (replicate k 0) ∙ ap (λ (j : ℕ). length ns + j) (length-replicate k 0) in
    let last : more ≡ [] = elim end [ inl z ↦ absurd (omega (arith, few, length-append ns more, count, z)) | inr l ↦ l ] in
    record {
      ns = ns;
      k = k;
      body = body;
      rest = rest;
      parts = refl;
      least = subst (λ (j : ℕ). IsLeastWidth j ns) same least;
      size = size ∙ ap (λ (j : ℕ). 4 * j) same;
      is = subst (λ (j : ℕ). unpacked j 32 body ≡ ns ++ replicate k 0) same is;
      count = omega (arith, length-append ns more, ap length last);
    }

first_block : (w : ℕ) (text body0 : List ℕ) (ds : List ℤ) → WrittenBlocks w64 text ds → text ≡ 3 ∷ w ∷ 0 ∷ 0 ∷ 0 ∷ body0 → 0 < length ds → length ds < 32 → First w body0 (length ds)
unfolding varint_up_to
first_block w _ body0 _ writing.no_more e some few = absurd (omega (arith, some))
first_block w _ body0 _ (block widths body rest least ns more fits range one four parts full others) e some few =
    let behind = (front (zigzag least) (widths ++ (body ++ rest)) (3 ∷ w ∷ 0 ∷ 0 ∷ 0 ∷ body0) 3 (w ∷ 0 ∷ 0 ∷ 0 ∷ body0) (zigzag_fits w64 least (omega arith) fits) (sym e) refl).1 in
    let ws : widths ≡ w ∷ 0 ∷ 0 ∷ 0 ∷ [] = sym (take_at widths (body ++ rest) 4 four) ∙ ap (take 4) behind in
    let tail : body ++ rest ≡ body0 = sym (drop_at widths (body ++ rest) 4 four) ∙ ap (drop 4) behind in
    let n : length (map (λ m. least +ℤ pos m) ns ++ more) ≡ length ns + length more = length-append (map (λ m. least +ℤ pos m) ns) more ∙ ap (λ (j : ℕ). j + length more) (length-map ns (λ m. least +ℤ pos m)) in
    let last : more ≡ [] = elim full [ inl l ↦ l | inr z ↦ absurd (omega (arith, few, n, z)) ] in
    let none : length more ≡ 0 = ap length last in
    let f = first_mini 64 w widths (0 ∷ 0 ∷ 0 ∷ []) body ns parts ws (omega (arith, some, n, none)) (omega (arith, few, n)) in
    record {
      ns = f.ns;
      k = f.k;
      body = f.body;
      rest = f.rest ++ rest;
      parts = sym tail ∙ ap (λ (t : List ℕ). t ++ rest) f.parts ∙ append_assoc f.body f.rest rest;
      least = f.least;
      size = f.size;
      is = f.is;
      count = omega (arith, f.count, n, none);
    }

length-sums : (w : Width) (z : ℤ) (ds : List ℤ) → length (sums w z ds) ≡ suc (length ds)
length-sums w z [] = refl
length-sums w z (d ∷ ds) = ap suc (length-sums w (z +ℤ d) ds)

number_of_deltas : (w : Width) (first : ℤ) (ds zs : List ℤ) → 0 < length zs → IsSums w first ds zs → length zs ≡ suc (length ds)
number_of_deltas w first ds [] some are = absurd (omega arith)
number_of_deltas w first ds (z ∷ zs) some are = ap length are ∙ length-sums w first ds

eight : (w : ℕ) (body0 : List ℕ) (zs : List ℤ) → IsWrittenDelta w64 (eight_from w body0) zs → First w body0 7
unfolding varint_up_to
eight w body0 zs d =
    let tail : List ℕ = 3 ∷ w ∷ 0 ∷ 0 ∷ 0 ∷ body0 in
    let size = front 128 (varint 4 ++ (varint (length zs) ++ (varint (zigzag d.first) ++ d.body))) (128 ∷ 1 ∷ 4 ∷ 8 ∷ 14 ∷ tail) 128 (4 ∷ 8 ∷ 14 ∷ tail) (omega arith) d.parts refl in
    let miniblocks = front 4 (varint (length zs) ++ (varint (zigzag d.first) ++ d.body)) (4 ∷ 8 ∷ 14 ∷ tail) 4 (8 ∷ 14 ∷ tail) (omega arith) (sym size.1) refl in
    let count = front (length zs) (varint (zigzag d.first) ++ d.body) (8 ∷ 14 ∷ tail) 8 (14 ∷ tail) d.few (sym miniblocks.1) refl in
    let first = front (zigzag d.first) d.body (14 ∷ tail) 14 tail (zigzag_fits w64 d.first (omega arith) d.fits) (sym count.1) refl in
    let n : length zs ≡ suc (length d.deltas) = number_of_deltas w64 d.first d.deltas zs (omega (arith, count.0)) d.are in
    let seven : length d.deltas ≡ 7 = omega (arith, n, count.0) in
    subst (λ (j : ℕ). First w body0 j) seven (first_block w d.body body0 d.deltas d.blocks first.1 (omega (arith, seven)) (omega (arith, seven)))

-- ---- what is not written

not_cut : First 2 (192 ∷ 63 ∷ []) 7 → ⊥
not_cut f = omega (arith, ap length f.parts, length-append f.body f.rest, f.size)

no_rest : (xs ys : List ℕ) (bytes : List ℕ) → bytes ≡ xs ++ ys → length bytes ≡ length xs → xs ≡ bytes
no_rest xs [] bytes e n = sym (e ∙ append-nil xs)
no_rest xs (y ∷ ys) bytes e n = absurd (omega (arith, ap length e, length-append xs (y ∷ ys), n))

zeros_behind : (xs : List ℕ) (k i : ℕ) → length xs ≤ i → get_or (xs ++ replicate k 0) i 0 ≡ 0
zeros_behind [] zero i h = refl
zeros_behind [] (suc k) zero h = refl
zeros_behind [] (suc k) (suc i) h = zeros_behind [] k i (omega arith)
zeros_behind (x ∷ xs) k zero h = absurd (omega (arith, h))
zeros_behind (x ∷ xs) k (suc i) h = zeros_behind xs k i (omega (arith, h))

not_surplus : First 2 (192 ∷ 63 ∷ 0 ∷ 0 ∷ 0 ∷ 0 ∷ 0 ∷ 64 ∷ []) 7 → ⊥
not_surplus f =
    let same : f.body ≡ 192 ∷ 63 ∷ 0 ∷ 0 ∷ 0 ∷ 0 ∷ 0 ∷ 64 ∷ [] = no_rest f.body f.rest (192 ∷ 63 ∷ 0 ∷ 0 ∷ 0 ∷ 0 ∷ 0 ∷ 64 ∷ []) f.parts (omega (arith, f.size)) in
    let last : ◌≡◌ {A = ℕ} 1 0 = ap (λ (t : List ℕ). get_or (unpacked 2 32 t) 31 0) (sym same) ∙ ap (λ (t : List ℕ). get_or t 31 0) f.is ∙ zeros_behind f.ns f.k 31 (omega (arith, f.count)) in
    omega (arith, last)

not_too_wide : First 3 (0 ∷ 182 ∷ 13 ∷ 0 ∷ 0 ∷ 0 ∷ 0 ∷ 0 ∷ 0 ∷ 0 ∷ 0 ∷ 0 ∷ []) 7 → ⊥
not_too_wide f =
    let same : f.body ≡ 0 ∷ 182 ∷ 13 ∷ 0 ∷ 0 ∷ 0 ∷ 0 ∷ 0 ∷ 0 ∷ 0 ∷ 0 ∷ 0 ∷ [] = no_rest f.body f.rest (0 ∷ 182 ∷ 13 ∷ 0 ∷ 0 ∷ 0 ∷ 0 ∷ 0 ∷ 0 ∷ 0 ∷ 0 ∷ 0 ∷ []) f.parts (omega (arith, f.size)) in
    let ns : 0 ∷ 0 ∷ 0 ∷ 3 ∷ 3 ∷ 3 ∷ 3 ∷ [] ≡ f.ns = ap (λ (t : List ℕ). take 7 (unpacked 3 32 t)) (sym same) ∙ ap (take 7) f.is ∙ take_at f.ns (replicate f.k 0) 7 f.count in
    let two : 3 ≤ 2 = f.least.least 2 (subst (λ (xs : List ℕ). All (λ v. v < 4) xs) ns two_bits.holds) in
    omega (arith, two)

not_padded : (zs : List ℤ) → IsWrittenDelta w64 (128 ∷ 1 ∷ 4 ∷ 136 ∷ 0 ∷ 14 ∷ 3 ∷ 2 ∷ 0 ∷ 0 ∷ 0 ∷ 192 ∷ 63 ∷ 0 ∷ 0 ∷ 0 ∷ 0 ∷ 0 ∷ 0 ∷ []) zs → ⊥
unfolding varint_up_to digits
not_padded zs d =
    let tail : List ℕ = 14 ∷ 3 ∷ 2 ∷ 0 ∷ 0 ∷ 0 ∷ 192 ∷ 63 ∷ 0 ∷ 0 ∷ 0 ∷ 0 ∷ 0 ∷ 0 ∷ [] in
    let behind : List ℕ = varint (zigzag d.first) ++ d.body in
    let size = front 128 (varint 4 ++ (varint (length zs) ++ behind)) (128 ∷ 1 ∷ 4 ∷ 136 ∷ 0 ∷ tail) 128 (4 ∷ 136 ∷ 0 ∷ tail) (omega arith) d.parts refl in
    let miniblocks = front 4 (varint (length zs) ++ behind) (4 ∷ 136 ∷ 0 ∷ tail) 4 (136 ∷ 0 ∷ tail) (omega arith) (sym size.1) refl in
    let count = front (length zs) behind (136 ∷ 0 ∷ tail) 8 tail d.few (sym miniblocks.1) refl in
    let head : ◌≡◌ {A = ℕ} 8 136 = ap (λ (n : ℕ). get_or (varint n ++ behind) 0 0) (sym count.0) ∙ ap (λ (t : List ℕ). get_or t 0 0) miniblocks.1 in
    omega (arith, head)

varint_128 : varint 128 ≡ 128 ∷ 1 ∷ []
unfolding digits
varint_128 = refl

varint_4 : varint 4 ≡ 4 ∷ []
unfolding digits
varint_4 = refl

varint_2 : varint 2 ≡ 2 ∷ []
unfolding digits
varint_2 = refl

-- 2 ^ 32 - 2, the zigzag of 2 ^ 31 - 1
varint_large : varint 4294967294 ≡ 254 ∷ 255 ∷ 255 ∷ 255 ∷ 15 ∷ []
varint_large =
    digits-more 4294967294 4294967294 (omega arith) (omega arith)
    ∙ ap (λ (t : List ℕ). 254 ∷ t) (digits-more 4294967293 33554431 (omega arith) (omega arith)
    ∙ ap (λ (t : List ℕ). 255 ∷ t) (digits-more 4294967292 262143 (omega arith) (omega arith)
    ∙ ap (λ (t : List ℕ). 255 ∷ t) (digits-more 4294967291 2047 (omega arith) (omega arith)
    ∙ ap (λ (t : List ℕ). 255 ∷ t) (digits-last 4294967290 15 (omega arith)))))

wraps_once : IsWrittenDelta w32 (128 ∷ 1 ∷ 4 ∷ 2 ∷ 254 ∷ 255 ∷ 255 ∷ 255 ∷ 15 ∷ 2 ∷ 0 ∷ 0 ∷ 0 ∷ 0 ∷ []) (pos 2147483647 ∷ negsuc 2147483647 ∷ [])
wraps_once = record {
  first = pos 2147483647;
  deltas = pos 1 ∷ [];
  body = 2 ∷ 0 ∷ 0 ∷ 0 ∷ 0 ∷ [];
  parts = rw (varint_128, varint_4, varint_2, varint_large) refl;
  few = omega arith;
  fits = sfits_lit tt;
  none = λ e. absurd (cc e);
  blocks = one_further;
  are = refl;
}

pub written_deltas_are_worked : WrittenDeltasAreWorked
unfolding digits
written_deltas_are_worked = record {
  spelled = record { first = pos 7; deltas = negsuc 1 ∷ negsuc 1 ∷ negsuc 1 ∷ pos 1 ∷ pos 1 ∷ pos 1 ∷ pos 1 ∷ []; body = 3 ∷ 2 ∷ 0 ∷ 0 ∷ 0 ∷ 192 ∷ 63 ∷ 0 ∷ 0 ∷ 0 ∷ 0 ∷ 0 ∷ 0 ∷ []; parts = refl; few = omega arith; fits = sfits_lit tt; none = λ e. absurd (cc e); blocks = seven; are = refl };
  none = record { first = pos 0; deltas = []; body = []; parts = refl; few = omega arith; fits = sfits_lit tt; none = λ e. refl; blocks = writing.no_more; are = refl };
  wraps = wraps_once;
  cut = λ zs d. not_cut (eight 2 (192 ∷ 63 ∷ []) zs d);
  surplus = λ zs d. not_surplus (eight 2 (192 ∷ 63 ∷ 0 ∷ 0 ∷ 0 ∷ 0 ∷ 0 ∷ 64 ∷ []) zs d);
  too_wide = λ zs d. not_too_wide (eight 3 (0 ∷ 182 ∷ 13 ∷ 0 ∷ 0 ∷ 0 ∷ 0 ∷ 0 ∷ 0 ∷ 0 ∷ 0 ∷ 0 ∷ []) zs d);
  padded = not_padded;
}
