-- How long written deltas are.
use Rattle.std.proofs.Common.{◌≡◌, ◌⊎◌, ℕ, suc, ◌+◌, ◌*◌, ◌^◌, ◌<◌, ◌≤◌, ℤ, pos, List, [], ◌∷◌, ◌++◌, length, map, replicate, inl, inr, refl, sym, ap, ◌∙◌, arith, ◌+ℤ◌}
use Rattle.std.proofs.lemmas.List.{length-append, length-map, length-replicate}
use Rattle.std.specs.Int.{Width}
use mir.Val.{bits}
use Rattle.pq_numbers.proofs.Digits.{length-digits}
use Rattle.pq_numbers.specs.Bits.{unpacked}
use Rattle.pq_numbers.specs.Texts.{number_of}
use Rattle.pq_numbers.specs.Varint.{varint}
use Rattle.pq_numbers.specs.Zigzag.{zigzag}
use Rattle.pq_runs.proofs.DeltaParts.{no_numbers, zigzag_fits}
use Rattle.pq_runs.specs.Delta.{IsSums, sums}
use Rattle.pq_runs.specs.WrittenDelta.{WrittenMiniblocks, miniblock, WrittenBlocks, block, IsWrittenDelta}
use Rattle.pq_runs.specs.WrittenDelta as writing
use Rattle.pq_thrift.proofs.Lengths.{varint_of_32, varint_of_64}

-- ---- miniblocks
mini_size : (w k : ℕ) (body rest ns more : List ℕ) → 0 < length ns → w ≤ 64 → length body ≡ 4 * w → unpacked w 32 body ≡ ns ++ replicate k 0 → (k ≡ 0) ⊎ (length rest ≡ 0) → length rest ≤ 8 * length more + 256 → length (body ++ rest) ≤ 8 * length (ns ++ more) + 256
mini_size w k body rest ns more some fits size is (inl none) others =
    let n : 32 ≡ length ns + k = sym (length-digits (2 ^ w) 32 (number_of body)) ∙ ap length is ∙ length-append ns (replicate k 0) ∙ ap (λ (j : ℕ). length ns + j) (length-replicate k 0) in
    omega (arith, n, none, fits, size, others, length-append body rest, length-append ns more)
mini_size w k body rest ns more some fits size is (inr last) others = omega (arith, last, fits, size, length-append body rest)

minis_short : (most : ℕ) (widths body ns : List ℕ) → most ≤ 64 → WrittenMiniblocks most widths body ns → length body ≤ 8 * length ns + 256
minis_short most _ _ _ h (writing.no_more n) = omega arith
minis_short most _ _ _ h (miniblock w k widths body rest ns more some fits least size is end others) =
    mini_size w k body rest ns more some (omega (arith, fits, h)) size is (by end) (minis_short most widths rest more h others)
  where
    by : (k ≡ 0) ⊎ (more ≡ []) → (k ≡ 0) ⊎ (length rest ≡ 0)
    by (inl none) = inl none
    by (inr last) = inr (ap length (no_numbers most widths rest more others (ap length last)))

-- ---- blocks
no_blocks : (v : Width) (text : List ℕ) (ds : List ℤ) → WrittenBlocks v text ds → length ds ≡ 0 → length text ≡ 0
no_blocks v _ _ writing.no_more e = refl
no_blocks v _ _ (block widths body rest least ns more fits range one four minis full others) e =
    absurd (omega (arith, e, length-append (map (λ m. least +ℤ pos m) ns) more, length-map ns (λ m. least +ℤ pos m), one.1))

block_size : (head widths body rest : List ℕ) (n m : ℕ) → length head ≤ 10 → length widths ≡ 4 → length body ≤ 8 * n + 256 → (length rest ≡ 0) ⊎ (n ≡ 128) → length rest ≤ 11 * m + 270 → length (head ++ (widths ++ (body ++ rest))) ≤ 11 * (n + m) + 270
block_size head widths body rest n m few four size (inl last) others = omega (arith, length-append head (widths ++ (body ++ rest)), length-append widths (body ++ rest), length-append body rest, few, four, size, last)
block_size head widths body rest n m few four size (inr full) others = omega (arith, length-append head (widths ++ (body ++ rest)), length-append widths (body ++ rest), length-append body rest, few, four, size, full, others)

blocks_short : (v : Width) (text : List ℕ) (ds : List ℤ) → bits v ≤ 64 → WrittenBlocks v text ds → length text ≤ 11 * length ds + 270
blocks_short v _ _ h writing.no_more = omega arith
blocks_short v _ _ h (block widths body rest least ns more fits range one four minis full others) =
    let all : length (map (λ m. least +ℤ pos m) ns ++ more) ≡ length ns + length more = omega (arith, length-append (map (λ m. least +ℤ pos m) ns) more, length-map ns (λ m. least +ℤ pos m)) in
    omega (arith, all, block_size (varint (zigzag least)) widths body rest (length ns) (length more) (varint_of_64 (zigzag least) (zigzag_fits v least h fits)) four (minis_short (bits v) widths body ns h minis) (by full) (blocks_short v rest more h others))
  where
    by : (more ≡ []) ⊎ (length ns ≡ 128) → (length rest ≡ 0) ⊎ (length ns ≡ 128)
    by (inl last) = inl (no_blocks v rest more others (ap length last))
    by (inr n) = inr n

-- ---- whole deltas
length-sums : (v : Width) (z : ℤ) (ds : List ℤ) → length (sums v z ds) ≡ suc (length ds)
length-sums v z [] = refl
length-sums v z (d ∷ ds) = ap suc (length-sums v (z +ℤ d) ds)

few_deltas : (v : Width) (first : ℤ) (ds zs : List ℤ) → IsSums v first ds zs → length ds ≤ length zs
few_deltas v first ds [] h = omega (arith, ap length h)
few_deltas v first ds (z ∷ zs) h = omega (arith, ap length h, length-sums v first ds)

pub deltas_short : (v : Width) (text : List ℕ) (zs : List ℤ) → bits v ≤ 64 → IsWrittenDelta v text zs → length text ≤ 11 * length zs + 300
deltas_short v text zs h d =
    let behind = varint (zigzag d.first) ++ d.body in
    omega (
      arith,
      ap length d.parts,
      length-append (varint 128) (varint 4 ++ (varint (length zs) ++ behind)),
      length-append (varint 4) (varint (length zs) ++ behind),
      length-append (varint (length zs)) behind,
      length-append (varint (zigzag d.first)) d.body,
      varint_of_32 128 (omega arith),
      varint_of_32 4 (omega arith),
      varint_of_64 (length zs) d.few,
      varint_of_64 (zigzag d.first) (zigzag_fits v d.first h d.fits),
      blocks_short v d.body d.deltas h d.blocks,
      few_deltas v d.first d.deltas zs d.are,
    )
