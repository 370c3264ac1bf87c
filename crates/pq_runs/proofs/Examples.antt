-- Worked examples.
use Rattle.std.proofs.Common.{◌≡◌, ℕ, suc, ℤ, pos, negsuc, ◌*◌, ◌^◌, ◌<◌, ◌≤◌, ◌+ℤ◌, Bool, true, false, List, [], ◌∷◌, ◌++◌, length, take, drop, map, Some, None, Ok, Err, refl, sym, ap, subst, ◌∙◌, inl, inr, arith}
use Rattle.std.proofs.lemmas.Bool.{lt-ltb}
use Rattle.std.proofs.lemmas.List.{length-append, length-map, take_at, drop_at}
use Rattle.std.specs.Int.{Width, w32, w64}
use Rattle.pq_numbers.specs.Bits.{unpacked}
use Rattle.pq_numbers.specs.Varint.{IsNumber, varint_at, varint_up_to}
use Rattle.pq_numbers.specs.Texts.{number_of}
use Rattle.pq_numbers.specs.Zigzag.{unzigzag, IsSigned}
use Rattle.pq_numbers.proofs.Examples.{one_byte}
use Rattle.pq_numbers.proofs.Numbers.{number_again, varint-none}
use Rattle.pq_numbers.proofs.Digits.{length-digits}
use Rattle.pq_runs.specs.Delta.{Miniblocks, whole, last, Blocks, block, IsDelta, IsSums, sums}
use Rattle.pq_runs.specs.Examples.{packed, deltas, numbers, RunsAreWorked, DeltasAreWorked, AreWorked}
use Rattle.pq_runs.specs.Hybrid.{given, Item, hybrid, runs_items}
use Rattle.pq_runs.specs.Runs.{Runs, no_more, copies, last_copies, last_groups}
use Rattle.pq_runs.specs.Spelled.{Spelled}
use Rattle.pq_runs.proofs.Complete.{reads}
use Rattle.pq_runs.proofs.WrittenDeltaExamples.{written_deltas_are_worked}
use Rattle.pq_runs.proofs.WrittenExamples.{written_runs_are_worked}

-- ---- runs

all_there : List Item → Bool
all_there [] = true
all_there (Ok v ∷ items) = all_there items
all_there (Err e ∷ items) = false

are_there : (xs : List ℕ) → all_there (given xs) ≡ true
unfolding all_there
are_there [] = refl
are_there (x ∷ xs) = are_there xs

is_read : (w n : ℕ) (bytes xs : List ℕ) → Spelled w n bytes xs → hybrid w n bytes ≡ given xs
is_read w n bytes xs s = subst (λ (k : ℕ). hybrid w k bytes ≡ given xs) s.count (reads w bytes xs s.begins)

none_spelled : (w n : ℕ) (bytes : List ℕ) → all_there (hybrid w n bytes) ≡ false → (xs : List ℕ) → Spelled w n bytes xs → ⊥
none_spelled w n bytes e xs s =
    let yes : all_there (hybrid w n bytes) ≡ true = ap all_there (is_read w n bytes xs s) ∙ are_there xs in
    cc (sym e ∙ yes)

runs_are_worked : RunsAreWorked
unfolding all_there hybrid runs_items varint_up_to
runs_are_worked = record {
  group = last_groups 1 8 (3 ∷ []) packed (one_byte 3 (omega arith)) (omega arith) (omega arith) (omega arith) (omega arith);
  fewer = last_groups 1 5 (3 ∷ []) (2 ∷ []) (one_byte 3 (omega arith)) (omega arith) (omega arith) (omega arith) (omega arith);
  cut = last_groups 1 2 (3 ∷ []) (136 ∷ []) (one_byte 3 (omega arith)) (omega arith) (omega arith) (omega arith) (omega arith);
  copies_of_one = last_copies 4 4 (8 ∷ []) (1 ∷ []) (one_byte 8 (omega arith)) refl (omega arith) (omega arith);
  both = copies 2 (4 ∷ []) (5 ∷ []) (3 ∷ packed) 0 (1 ∷ 2 ∷ 3 ∷ 4 ∷ 5 ∷ 6 ∷ 7 ∷ []) (one_byte 4 (omega arith)) refl (last_groups 1 8 (3 ∷ []) packed (one_byte 3 (omega arith)) (omega arith) (omega arith) (omega arith) (omega arith));
  two_bytes = last_copies 1 1 (2 ∷ []) (0 ∷ 1 ∷ []) (one_byte 2 (omega arith)) refl (omega arith) (omega arith);
  four_bytes = last_copies 2 2 (4 ∷ []) (1 ∷ 0 ∷ 0 ∷ 128 ∷ []) (one_byte 4 (omega arith)) refl (omega arith) (omega arith);
  no_bits = Runs.no_bits 3 refl;
  nothing = no_more;
  group_cut = none_spelled 3 3 (3 ∷ 136 ∷ []) refl;
  no_number = none_spelled 1 1 (8 ∷ []) refl;
  number_cut = none_spelled 32 1 (4 ∷ 1 ∷ 0 ∷ 0 ∷ []) refl;
  too_few = none_spelled 1 5 (8 ∷ 1 ∷ []) refl;
  no_header = none_spelled 1 1 (128 ∷ []) refl;
  only_zeros = λ s. let e : Ok 0 ∷ [] ≡ Ok 1 ∷ [] = is_read 0 1 [] (1 ∷ []) s in absurd cc;
  three_stretches = refl;
  one_stretch = refl;
  no_stretch = refl;
  other = λ s. let e : Ok 1 ∷ Ok 1 ∷ [] ≡ Ok 1 ∷ Ok 0 ∷ [] = is_read 1 2 (8 ∷ 1 ∷ []) (1 ∷ 0 ∷ []) s in absurd cc;
}

-- ---- deltas

size_128 : IsNumber (128 ∷ 1 ∷ []) 128
size_128 = record { digits = inr (omega arith, 1, refl, inl (omega arith, refl, refl)); short = omega arith; below = omega arith }

-- a signed number of one byte
signed : (n : ℕ) (z : ℤ) → n < 128 → z ≡ unzigzag n → IsSigned (2 ^ 64) (n ∷ []) z
signed n z h e = record { n = n; number = one_byte n h; fits = omega (arith, h); is = e }

seven_deltas : Blocks true 4 32 (3 ∷ 2 ∷ 0 ∷ 0 ∷ 0 ∷ 192 ∷ 63 ∷ []) (negsuc 1 ∷ negsuc 1 ∷ negsuc 1 ∷ pos 1 ∷ pos 1 ∷ pos 1 ∷ pos 1 ∷ [])
seven_deltas =
    block (3 ∷ []) (2 ∷ 0 ∷ 0 ∷ 0 ∷ []) (192 ∷ 63 ∷ []) [] (negsuc 1) (unpacked 2 7 (192 ∷ 63 ∷ [])) [] (signed 3 (negsuc 1) (omega arith) refl) refl (omega arith)
    (last 2 7 (0 ∷ 0 ∷ 0 ∷ []) (192 ∷ 63 ∷ []) (omega arith) (omega arith) (omega arith) (omega arith) (omega arith) (inl refl))
    (inl refl) Blocks.no_more

spelled : (w : Width) → numbers ≡ sums w (pos 7) (negsuc 1 ∷ negsuc 1 ∷ negsuc 1 ∷ pos 1 ∷ pos 1 ∷ pos 1 ∷ pos 1 ∷ []) → IsDelta w true deltas numbers
spelled w are = record {
  size = 128;
  miniblocks = 4;
  count = 8;
  first = pos 7;
  size_text = 128 ∷ 1 ∷ [];
  miniblocks_text = 4 ∷ [];
  count_text = 8 ∷ [];
  first_text = 14 ∷ [];
  body = 3 ∷ 2 ∷ 0 ∷ 0 ∷ 0 ∷ 192 ∷ 63 ∷ [];
  parts = refl;
  has_size = size_128;
  has_miniblocks = one_byte 4 (omega arith);
  has_count = one_byte 8 (omega arith);
  has_first = signed 14 (pos 7) (omega arith) refl;
  size_fits = (omega arith, refl);
  n = 32;
  divides = refl;
  n_fits = (omega arith, refl);
  counts = refl;
  deltas = negsuc 1 ∷ negsuc 1 ∷ negsuc 1 ∷ pos 1 ∷ pos 1 ∷ pos 1 ∷ pos 1 ∷ [];
  blocks = seven_deltas;
  are = are;
}

-- no number or one, and no block
without_blocks : (w : Width) (count head : ℕ) (first : ℤ) (zs : List ℤ) → count < 128 → head < 128 → first ≡ unzigzag head → count ≡ length zs → IsSums w first [] zs → IsDelta w false (128 ∷ 1 ∷ 4 ∷ count ∷ head ∷ []) zs
without_blocks w count head first zs few low e counts are = record {
  size = 128;
  miniblocks = 4;
  count = count;
  first = first;
  size_text = 128 ∷ 1 ∷ [];
  miniblocks_text = 4 ∷ [];
  count_text = count ∷ [];
  first_text = head ∷ [];
  body = [];
  parts = refl;
  has_size = size_128;
  has_miniblocks = one_byte 4 (omega arith);
  has_count = one_byte count few;
  has_first = signed head first low e;
  size_fits = (omega arith, refl);
  n = 32;
  divides = refl;
  n_fits = (omega arith, refl);
  counts = counts;
  deltas = [];
  blocks = Blocks.no_more;
  are = are;
}

-- 2 ^ 32 - 2, the zigzag of 2 ^ 31 - 1
large : IsNumber (254 ∷ 255 ∷ 255 ∷ 255 ∷ 15 ∷ []) 4294967294
large = record {
  digits = inr (omega arith, 33554431, refl, inr (omega arith, 262143, refl, inr (omega arith, 2047, refl, inr (omega arith, 15, refl, inl (omega arith, refl, refl)))));
  short = omega arith;
  below = omega arith;
}

one_further : Blocks true 4 32 (2 ∷ 0 ∷ 0 ∷ 0 ∷ 0 ∷ []) (pos 1 ∷ [])
one_further =
    block (2 ∷ []) (0 ∷ 0 ∷ 0 ∷ 0 ∷ []) [] [] (pos 1) (0 ∷ []) [] (signed 2 (pos 1) (omega arith) refl) refl (omega arith)
    (last 0 1 (0 ∷ 0 ∷ 0 ∷ []) [] (omega arith) (omega arith) (omega arith) (omega arith) (omega arith) (inl refl))
    (inl refl) Blocks.no_more

wrapping : IsDelta w32 true (128 ∷ 1 ∷ 4 ∷ 2 ∷ 254 ∷ 255 ∷ 255 ∷ 255 ∷ 15 ∷ 2 ∷ 0 ∷ 0 ∷ 0 ∷ 0 ∷ []) (pos 2147483647 ∷ negsuc 2147483647 ∷ [])
wrapping = record {
  size = 128;
  miniblocks = 4;
  count = 2;
  first = pos 2147483647;
  size_text = 128 ∷ 1 ∷ [];
  miniblocks_text = 4 ∷ [];
  count_text = 2 ∷ [];
  first_text = 254 ∷ 255 ∷ 255 ∷ 255 ∷ 15 ∷ [];
  body = 2 ∷ 0 ∷ 0 ∷ 0 ∷ 0 ∷ [];
  parts = refl;
  has_size = size_128;
  has_miniblocks = one_byte 4 (omega arith);
  has_count = one_byte 2 (omega arith);
  has_first = record { n = 4294967294; number = large; fits = omega arith; is = refl };
  size_fits = (omega arith, refl);
  n = 32;
  divides = refl;
  n_fits = (omega arith, refl);
  counts = refl;
  deltas = pos 1 ∷ [];
  blocks = one_further;
  are = refl;
}

far_further : Blocks true 4 32 (254 ∷ 255 ∷ 255 ∷ 255 ∷ 15 ∷ 0 ∷ 0 ∷ 0 ∷ 0 ∷ []) (pos 2147483647 ∷ pos 2147483647 ∷ pos 2147483647 ∷ [])
far_further =
    block (254 ∷ 255 ∷ 255 ∷ 255 ∷ 15 ∷ []) (0 ∷ 0 ∷ 0 ∷ 0 ∷ []) [] [] (pos 2147483647) (0 ∷ 0 ∷ 0 ∷ []) [] (record { n = 4294967294; number = large; fits = omega arith; is = refl }) refl (omega arith)
    (last 0 3 (0 ∷ 0 ∷ 0 ∷ []) [] (omega arith) (omega arith) (omega arith) (omega arith) (omega arith) (inl refl))
    (inl refl) Blocks.no_more

wrapping_again : IsDelta w32 true (128 ∷ 1 ∷ 4 ∷ 4 ∷ 0 ∷ 254 ∷ 255 ∷ 255 ∷ 255 ∷ 15 ∷ 0 ∷ 0 ∷ 0 ∷ 0 ∷ []) (pos 0 ∷ pos 2147483647 ∷ negsuc 1 ∷ pos 2147483645 ∷ [])
wrapping_again = record {
  size = 128;
  miniblocks = 4;
  count = 4;
  first = pos 0;
  size_text = 128 ∷ 1 ∷ [];
  miniblocks_text = 4 ∷ [];
  count_text = 4 ∷ [];
  first_text = 0 ∷ [];
  body = 254 ∷ 255 ∷ 255 ∷ 255 ∷ 15 ∷ 0 ∷ 0 ∷ 0 ∷ 0 ∷ [];
  parts = refl;
  has_size = size_128;
  has_miniblocks = one_byte 4 (omega arith);
  has_count = one_byte 4 (omega arith);
  has_first = signed 0 (pos 0) (omega arith) refl;
  size_fits = (omega arith, refl);
  n = 32;
  divides = refl;
  n_fits = (omega arith, refl);
  counts = refl;
  deltas = pos 2147483647 ∷ pos 2147483647 ∷ pos 2147483647 ∷ [];
  blocks = far_further;
  are = refl;
}

-- ---- texts that spell no numbers

same_pair : (x y : ℕ × List ℕ) → Some x ≡ Some y → x ≡ y
same_pair x y e = cc

-- the number at the front of a text
front : (text : List ℕ) (n : ℕ) (rest bytes : List ℕ) (m : ℕ) (tail : List ℕ) → IsNumber text n → bytes ≡ text ++ rest → varint_at bytes ≡ Some (m, tail) → (n ≡ m) × (rest ≡ tail)
front text n rest bytes m tail number parts e =
    let read : Some (n, rest) ≡ Some (m, tail) = sym (number_again text n rest number) ∙ ap varint_at (sym parts) ∙ e in
    let same = same_pair (n, rest) (m, tail) read in
    (ap (λ (p : ℕ × List ℕ). p.0) same, ap (λ (p : ℕ × List ℕ). p.1) same)

low : (b : ℕ) (bytes : List ℕ) → b < 128 → varint_at (b ∷ bytes) ≡ Some (b, bytes)
unfolding varint_up_to
low b bytes h = rw (lt-ltb b 128 h) refl

length-sums : (w : Width) (z : ℤ) (ds : List ℤ) → length (sums w z ds) ≡ suc (length ds)
length-sums w z [] = refl
length-sums w z (d ∷ ds) = ap suc (length-sums w (z +ℤ d) ds)

number_of_deltas : (w : Width) (first : ℤ) (ds zs : List ℤ) → 0 < length zs → IsSums w first ds zs → length zs ≡ suc (length ds)
number_of_deltas w first ds [] some are = absurd (omega arith)
number_of_deltas w first ds (z ∷ zs) some are = ap length are ∙ length-sums w first ds

-- a miniblock of width 2 that has too few bytes for 32 numbers
few_numbers : (cut : Bool) (most bytes : ℕ) (ws body ns t : List ℕ) → bytes < 8 → (cut ≡ true → 8 * bytes ≤ 2 * most) → Miniblocks cut 32 ws body ns → ws ≡ 2 ∷ t → length body ≤ bytes → length ns ≤ most
few_numbers cut most bytes _ _ _ t short few (Miniblocks.no_more widths) is le = omega arith
few_numbers cut most bytes _ _ _ t short few (whole w widths body rest ns fits size more) is le =
    let two : w ≡ 2 = cc in
    absurd (omega (arith, two, size, le, length-append body rest, ap (λ (k : ℕ). k * 32) two))
few_numbers cut most bytes _ _ _ t short few (last w k widths body fits some within enough size end) is le =
    let two : w ≡ 2 = cc in
    let e : w * k ≡ 2 * k = ap (λ (j : ℕ). j * k) two in
    elim end [
      | inl may ↦ let b = few may in omega (arith, b, e, enough, le, length-digits (2 ^ w) k (number_of body))
      | inr all ↦ absurd (omega (arith, two, all, le, ap (λ (j : ℕ). j * 32) two))
    ]

few_deltas : (cut : Bool) (most bytes : ℕ) (text body0 : List ℕ) (ds : List ℤ) → bytes < 8 → (cut ≡ true → 8 * bytes ≤ 2 * most) → most < 128 → length body0 ≤ bytes → Blocks cut 4 32 text ds → text ≡ 3 ∷ 2 ∷ 0 ∷ 0 ∷ 0 ∷ body0 → length ds ≤ most
few_deltas cut most bytes _ body0 _ short few small le Blocks.no_more is = omega arith
few_deltas cut most bytes _ body0 _ short few small le (block head widths body rest least ns more has_least four some minis full others) is =
    let behind = (front head has_least.n (widths ++ (body ++ rest)) (3 ∷ 2 ∷ 0 ∷ 0 ∷ 0 ∷ body0) 3 (2 ∷ 0 ∷ 0 ∷ 0 ∷ body0) has_least.number (sym is) (low 3 (2 ∷ 0 ∷ 0 ∷ 0 ∷ body0) (omega arith))).1 in
    let ws : widths ≡ 2 ∷ 0 ∷ 0 ∷ 0 ∷ [] = sym (take_at widths (body ++ rest) 4 four) ∙ ap (take 4) behind in
    let tail : body ++ rest ≡ body0 = sym (drop_at widths (body ++ rest) 4 four) ∙ ap (drop 4) behind in
    let here : length body ≤ bytes = omega (arith, ap length tail, length-append body rest, le) in
    let numbers : length ns ≤ most = few_numbers cut most bytes widths body ns (0 ∷ 0 ∷ 0 ∷ []) short few minis ws here in
    elim full [
      | inl none ↦ omega (arith, ap length (ap (λ (t : List ℤ). map (λ m. least +ℤ pos m) ns ++ t) none), length-append (map (λ m. least +ℤ pos m) ns) [], length-map ns (λ m. least +ℤ pos m), numbers)
      | inr all ↦ absurd (omega (arith, all, numbers, small))
    ]

-- eight numbers want seven deltas
no_eight : (w : Width) (cut : Bool) (most bytes : ℕ) (body0 : List ℕ) (zs : List ℤ) → bytes < 8 → (cut ≡ true → 8 * bytes ≤ 2 * most) → most < 7 → length body0 ≤ bytes → IsDelta w cut (128 ∷ 1 ∷ 4 ∷ 8 ∷ 14 ∷ 3 ∷ 2 ∷ 0 ∷ 0 ∷ 0 ∷ body0) zs → ⊥
unfolding varint_up_to
no_eight w cut most bytes body0 zs short few small le d =
    let tail : List ℕ = 3 ∷ 2 ∷ 0 ∷ 0 ∷ 0 ∷ body0 in
    let size = front d.size_text d.size _ _ 128 (4 ∷ 8 ∷ 14 ∷ tail) d.has_size d.parts refl in
    let miniblocks = front d.miniblocks_text d.miniblocks _ _ 4 (8 ∷ 14 ∷ tail) d.has_miniblocks (sym size.1) refl in
    let count = front d.count_text d.count _ _ 8 (14 ∷ tail) d.has_count (sym miniblocks.1) refl in
    let first = front d.first_text d.has_first.n _ _ 14 tail d.has_first.number (sym count.1) refl in
    let n : d.n ≡ 32 = omega (arith, d.divides, size.0, ap (λ (k : ℕ). k * d.n) miniblocks.0) in
    let blocks : Blocks cut 4 32 d.body d.deltas = subst (λ (k : ℕ). Blocks cut 4 k d.body d.deltas) n (subst (λ (k : ℕ). Blocks cut k d.n d.body d.deltas) miniblocks.0 d.blocks) in
    let deltas = few_deltas cut most bytes d.body body0 d.deltas short few (omega (arith, small)) le blocks first.1 in
    let eight : length zs ≡ 8 = omega (arith, d.counts, count.0) in
    omega (arith, small, deltas, number_of_deltas w d.first d.deltas zs (omega (arith, eight)) d.are, eight)

not_64 : (w : Width) (zs : List ℤ) → IsDelta w true (64 ∷ 4 ∷ 0 ∷ 0 ∷ []) zs → ⊥
unfolding varint_up_to
not_64 w zs d =
    let size = front d.size_text d.size _ _ 64 (4 ∷ 0 ∷ 0 ∷ []) d.has_size d.parts refl in
    omega (arith, size.0, d.size_fits.1)

not_empty : (w : Width) (zs : List ℤ) → IsDelta w true [] zs → ⊥
not_empty w zs d =
    let read : None ≡ Some (d.size, d.miniblocks_text ++ (d.count_text ++ (d.first_text ++ d.body))) = sym varint-none ∙ ap varint_at d.parts ∙ number_again d.size_text d.size (d.miniblocks_text ++ (d.count_text ++ (d.first_text ++ d.body))) d.has_size in
    cc read

deltas_are_worked : DeltasAreWorked
deltas_are_worked = record {
  spelled = spelled w64 refl;
  narrow = spelled w32 refl;
  none = without_blocks w64 0 0 (pos 0) [] (omega arith) (omega arith) refl refl refl;
  one = without_blocks w64 1 1 (negsuc 0) (negsuc 0 ∷ []) (omega arith) (omega arith) refl refl refl;
  wraps = wrapping;
  wraps_again = wrapping_again;
  last_byte = λ zs. no_eight w64 true 4 1 (192 ∷ []) zs (omega arith) (λ _. omega arith) (omega arith) (omega arith);
  not_whole = λ zs. no_eight w64 false 0 2 (192 ∷ 63 ∷ []) zs (omega arith) (λ e. absurd (cc e)) (omega arith) (omega arith);
  no_bytes = not_empty w64;
  block_of_64 = not_64 w64;
}

pub are_worked : AreWorked
are_worked = record { runs = runs_are_worked; written_runs = written_runs_are_worked; deltas = deltas_are_worked; written_deltas = written_deltas_are_worked }
