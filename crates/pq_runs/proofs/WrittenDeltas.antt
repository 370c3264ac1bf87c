-- Deltas as they are written are deltas.
use Rattle.std.proofs.Common.{◌≡◌, ◌⊎◌, ℕ, ◌+◌, ◌*◌, ◌^◌, ◌<◌, ◌≤◌, ℤ, List, [], ◌∷◌, ◌++◌, length, replicate, take, Bool, refl, sym, ap, subst, ◌∙◌, inl, inr, arith, append-nil}
use Rattle.std.proofs.lemmas.Nat.{mul-le}
use Rattle.std.proofs.lemmas.List.{length-append, length-replicate, take_at}
use Rattle.std.specs.Int.{Width}
use mir.Val.{bits}
use Rattle.pq_numbers.specs.Bits.{digits_of, unpacked}
use Rattle.pq_numbers.specs.Texts.{number_of}
use Rattle.pq_numbers.specs.Varint.{varint}
use Rattle.pq_numbers.specs.Zigzag.{zigzag}
use Rattle.pq_numbers.proofs.Digits.{length-digits}
use Rattle.pq_numbers.proofs.Signed.{is_signed}
use Rattle.pq_numbers.proofs.Writes.{is_number}
use Rattle.pq_runs.specs.Delta.{Miniblocks, Blocks, IsDelta}
use Rattle.pq_runs.specs.Delta as grammar
use Rattle.pq_runs.specs.WrittenDelta.{WrittenMiniblocks, miniblock, WrittenBlocks, block, IsWrittenDelta}
use Rattle.pq_runs.specs.WrittenDelta as writing
use Rattle.pq_runs.proofs.DeltaParts.{no_numbers, zigzag_fits}
use Rattle.pq_runs.proofs.WrittenLaws.{front_digits}

-- a whole miniblock in front of others, or the last one
one_of : (cut : Bool) (w k : ℕ) (widths body rest ns more : List ℕ) → 0 < length ns → w ≤ 64 → length body ≡ 4 * w → unpacked w 32 body ≡ ns ++ replicate k 0 → (k ≡ 0) ⊎ ((more ≡ []) × (rest ≡ [])) → Miniblocks cut 32 widths rest more → Miniblocks cut 32 (w ∷ widths) (body ++ rest) (ns ++ more)
one_of cut w k widths body rest ns more some fits size is (inl none) others =
    let all : unpacked w 32 body ≡ ns = is ∙ ap (λ (j : ℕ). ns ++ replicate j 0) none ∙ append-nil ns in
    subst (λ (t : List ℕ). Miniblocks cut 32 (w ∷ widths) (body ++ rest) (t ++ more)) all (grammar.whole w widths body rest more fits (omega (arith, size)) others)
one_of cut w k widths body rest ns more some fits size is (inr last) others =
    let n : 32 ≡ length ns + k = sym (length-digits (2 ^ w) 32 (number_of body)) ∙ ap length is ∙ length-append ns (replicate k 0) ∙ ap (λ (j : ℕ). length ns + j) (length-replicate k 0) in
    let least : w * length ns ≤ w * 32 = mul-le w (length ns) w 32 (omega arith) (omega (arith, n)) in
    let front : unpacked w (length ns) body ≡ ns = front_digits (2 ^ w) (length ns) k (number_of body) ∙ ap (λ (j : ℕ). take (length ns) (digits_of (2 ^ w) j (number_of body))) (sym n) ∙ ap (take (length ns)) is ∙ take_at ns (replicate k 0) (length ns) refl in
    let here : Miniblocks cut 32 (w ∷ widths) body (unpacked w (length ns) body) = grammar.last w (length ns) widths body fits some (omega (arith, n)) (omega (arith, size, least)) (omega (arith, size)) (inr (omega (arith, size))) in
    let text : body ≡ body ++ rest = sym (append-nil body) ∙ ap (λ (t : List ℕ). body ++ t) (sym last.1) in
    let numbers : ns ≡ ns ++ more = sym (append-nil ns) ∙ ap (λ (t : List ℕ). ns ++ t) (sym last.0) in
    subst (λ (t : List ℕ). Miniblocks cut 32 (w ∷ widths) t (ns ++ more)) text (subst (λ (t : List ℕ). Miniblocks cut 32 (w ∷ widths) body t) (front ∙ numbers) here)

miniblocks_of : (cut : Bool) (most : ℕ) (widths body ns : List ℕ) → most ≤ 64 → WrittenMiniblocks most widths body ns → Miniblocks cut 32 widths body ns
miniblocks_of cut most _ _ _ h (writing.no_more n) = grammar.no_more (replicate n 0)
miniblocks_of cut most _ _ _ h (miniblock w k widths body rest ns more some fits least size is end others) = one_of cut w k widths body rest ns more some (omega (arith, fits, h)) size is (by end) (miniblocks_of cut most widths rest more h others)
  where
    by : (k ≡ 0) ⊎ (more ≡ []) → (k ≡ 0) ⊎ ((more ≡ []) × (rest ≡ []))
    by (inl none) = inl none
    by (inr last) = inr (last, no_numbers most widths rest more others (ap length last))

blocks_of : (cut : Bool) (v : Width) (text : List ℕ) (ds : List ℤ) → bits v ≤ 64 → WrittenBlocks v text ds → Blocks cut 4 32 text ds
blocks_of cut v _ _ h writing.no_more = grammar.no_more
blocks_of cut v _ _ h (block widths body rest least ns more fits range one four minis full others) =
    grammar.block (varint (zigzag least)) widths body rest least ns more (is_signed (2 ^ 64) least (omega arith) (zigzag_fits v least h fits)) four (omega (arith, one.1)) (miniblocks_of cut (bits v) widths body ns h minis) full (blocks_of cut v rest more h others)

pub written_deltas : (v : Width) (cut : Bool) (text : List ℕ) (zs : List ℤ) → bits v ≤ 64 → IsWrittenDelta v text zs → IsDelta v cut text zs
written_deltas v cut text zs h d = record {
  size = 128;
  miniblocks = 4;
  count = length zs;
  first = d.first;
  size_text = varint 128;
  miniblocks_text = varint 4;
  count_text = varint (length zs);
  first_text = varint (zigzag d.first);
  body = d.body;
  parts = d.parts;
  has_size = is_number 128 (omega arith);
  has_miniblocks = is_number 4 (omega arith);
  has_count = is_number (length zs) d.few;
  has_first = is_signed (2 ^ 64) d.first (omega arith) (zigzag_fits v d.first h d.fits);
  size_fits = (omega arith, refl);
  n = 32;
  divides = refl;
  n_fits = (omega arith, refl);
  counts = refl;
  deltas = d.deltas;
  blocks = blocks_of cut v d.body d.deltas h d.blocks;
  are = d.are;
}
