-- What is read of delta packing is spelled.
use Rattle.std.proofs.Common.{◌≡◌, ℕ, zero, suc, ◌+◌, ◌-◌, ◌*◌, ◌^◌, ◌<◌, ◌≤◌, min, ℤ, pos, ◌+ℤ◌, Bool, true, false, List, [], ◌∷◌, ◌++◌, length, take, drop, Option, Some, None, Result, Err, refl, sym, ap, subst, ◌∙◌, inl, inr, arith, append-nil, append_assoc}
use Rattle.std.proofs.lemmas.Bool.{lt-ltb, ne_eqb, cases_lt, cases_eq}
use Rattle.std.proofs.lemmas.List.{length-append, length-map, length-take, map-append, take-append-drop}
use Rattle.std.proofs.lemmas.Nat.{mul-le}
use Rattle.columns_base.specs.declared.error.Error.{Error}
use Rattle.pq_numbers.specs.Bits.{unpacked}
use Rattle.pq_numbers.specs.Texts.{number_of}
use Rattle.pq_numbers.specs.Varint.{IsNumber, varint_at}
use Rattle.pq_numbers.specs.Zigzag.{unzigzag, IsSigned}
use Rattle.pq_numbers.proofs.Digits.{length-digits}
use Rattle.pq_numbers.proofs.Numbers.{number_stands}
use Rattle.pq_runs.specs.Delta.{Miniblocks, no_more, whole, last, Blocks, block}
use Rattle.pq_runs.specs.DeltaReading.{Out, all, ends, DeltaReader, above, there, mini_part, mini_at, minis_at, block_part, blocks_at}
use Rattle.pq_runs.specs.Hybrid.{fault}
use Rattle.pq_runs.proofs.DeltaComplete.{mini_step, minis_none, minis_end, part_enough, blocks_none, blocks_step, enough_there}
use Rattle.pq_runs.proofs.Sound.{mul-le-div}

-- ---- lists without an error

no_error : (tail : List (Result ℤ Error)) (zs : List ℤ) → Err fault ∷ tail ≡ all zs → ⊥
no_error tail [] e = cc e
no_error tail (z ∷ zs) e = cc e

all_split : (a : List ℤ) (rest : List (Result ℤ Error)) (zs : List ℤ) → all a ++ rest ≡ all zs → (ys : List ℤ) × (zs ≡ a ++ ys) × (rest ≡ all ys)
all_split [] rest zs e = (zs, refl, e)
all_split (x ∷ a) rest [] e = absurd (cc e)
all_split (x ∷ a) rest (z ∷ zs) e =
    let head : x ≡ z = cc in
    let tail : all a ++ rest ≡ all zs = cc in
    let s = all_split a rest zs tail in
    (s.0, ap (λ (t : List ℤ). z ∷ t) s.1 ∙ ap (λ (y : ℤ). y ∷ (a ++ s.0)) (sym head), s.2)

no_items : (zs : List ℤ) → [] ≡ all zs → zs ≡ []
no_items [] e = refl
no_items (z ∷ zs) e = absurd (cc e)

-- ---- whole miniblocks may be cut

may_be_cut : (n : ℕ) (ws body ns : List ℕ) → Miniblocks false n ws body ns → Miniblocks true n ws body ns
may_be_cut n _ _ _ (no_more ws) = no_more ws
may_be_cut n _ _ _ (whole w ws body rest ns fits size more) = whole w ws body rest ns fits size (may_be_cut n ws rest ns more)
may_be_cut n _ _ _ (last w k ws body fits some within enough size end) = last w k ws body fits some within enough size (inl refl)

-- ---- miniblocks

-- the numbers end within the miniblocks, or go on behind them
pub data MiniFound (others : DeltaReader) (q : ℕ) (least : ℤ) (ws : List ℕ) (k : ℕ) (bytes : List ℕ) (ds : List ℤ) (taken : ℕ) : Type 0 where
  inside : (ns body rest : List ℕ) → bytes ≡ body ++ rest → ds ≡ above least ns → length ns ≡ k → Miniblocks true (8 * q) ws body ns →
      (taken ≤ length bytes → (taken ≡ length body) × Miniblocks false (8 * q) ws body ns) → MiniFound others q least ws k bytes ds taken
  beyond : (ns body rest : List ℕ) (more : List ℤ) → bytes ≡ body ++ rest → ds ≡ above least ns ++ more → length ns ≡ length ws * (8 * q) → length ns ≤ k → Miniblocks false (8 * q) ws body ns →
      (others (k - length ns) rest).items ≡ all more → taken ≡ length body + (others (k - length ns) rest).taken → MiniFound others q least ws k bytes ds taken

there_whole : (w q : ℕ) (bytes : List ℕ) → 8 * q ≤ there w q (take (w * q) bytes) → length (take (w * q) bytes) ≡ w * q
there_whole w q bytes le =
    elim (cases_eq w 0) [
      | inl none ↦
          let z : w * q ≡ 0 = ap (λ (k : ℕ). k * q) none ∙ omega arith in
          omega (arith, length-take (w * q) bytes, z)
      | inr some ↦
          let le' = rw (ne_eqb w 0 some) at le in
          let bits : w * (8 * q) ≤ 8 * length (take (w * q) bytes) = mul-le-div (8 * q) w (8 * length (take (w * q) bytes)) (omega (arith, le')) in
          omega (arith, bits, length-take (w * q) bytes)
    ]

there_enough : (w q k : ℕ) (body : List ℕ) → k ≤ there w q body → w * k ≤ 8 * length body
there_enough w q k body le =
    elim (cases_eq w 0) [
      | inl none ↦
          let z : w * k ≡ 0 = ap (λ (j : ℕ). j * k) none ∙ omega arith in
          omega (arith, z)
      | inr some ↦
          let le' = rw (ne_eqb w 0 some) at le in
          mul-le-div k w (8 * length body) (omega (arith, le'))
    ]

-- one more miniblock in front
in_front : (others : DeltaReader) (q : ℕ) (least : ℤ) (w : ℕ) (ws : List ℕ) (k : ℕ) (bytes : List ℕ) (ds ys : List ℤ) (taken : ℕ) → w ≤ 64 → 8 * q ≤ k → length (take (w * q) bytes) ≡ w * q → ds ≡ above least (unpacked w (8 * q) (take (w * q) bytes)) ++ ys → MiniFound others q least ws (k - 8 * q) (drop (w * q) bytes) ys taken → MiniFound others q least (w ∷ ws) k bytes ds (w * q + taken)
in_front others q least w ws k bytes ds ys taken fits long size is (inside ns body rest parts are count minis all) =
    let mine : List ℕ = take (w * q) bytes in
    let numbers : List ℕ = unpacked w (8 * q) mine in
    let bits : 8 * length mine ≡ w * (8 * q) = omega (arith, size) in
    inside (numbers ++ ns) (mine ++ body) rest
    (sym (take-append-drop (w * q) bytes) ∙ ap (λ (t : List ℕ). mine ++ t) parts ∙ sym (append_assoc mine body rest))
    (is ∙ ap (λ (t : List ℤ). above least numbers ++ t) are ∙ sym (map-append (λ m. least +ℤ pos m) numbers ns))
    (omega (arith, length-append numbers ns, length-digits (2 ^ w) (8 * q) (number_of mine), count, long))
    (whole w ws mine body ns fits bits minis)
    (λ le.
    let n : length bytes ≡ w * q + length (drop (w * q) bytes) = omega (arith, ap length (take-append-drop (w * q) bytes), length-append mine (drop (w * q) bytes), size) in
    let a = all (omega (arith, le, n)) in
    (omega (arith, a.0, length-append mine body, size), whole w ws mine body ns fits bits a.1))
in_front others q least w ws k bytes ds ys taken fits long size is (beyond ns body rest more parts are full le minis items took) =
    let mine : List ℕ = take (w * q) bytes in
    let numbers : List ℕ = unpacked w (8 * q) mine in
    let bits : 8 * length mine ≡ w * (8 * q) = omega (arith, size) in
    let n : length (numbers ++ ns) ≡ 8 * q + length ns = length-append numbers ns ∙ ap (λ (j : ℕ). j + length ns) (length-digits (2 ^ w) (8 * q) (number_of mine)) in
    let left : k - (8 * q + length ns) ≡ k - 8 * q - length ns = omega (arith, long, le) in
    beyond (numbers ++ ns) (mine ++ body) rest more
    (sym (take-append-drop (w * q) bytes) ∙ ap (λ (t : List ℕ). mine ++ t) parts ∙ sym (append_assoc mine body rest))
    (is ∙ ap (λ (t : List ℤ). above least numbers ++ t) are ∙ sym (append_assoc (above least numbers) (above least ns) more) ∙ ap (λ (t : List ℤ). t ++ more) (sym (map-append (λ m. least +ℤ pos m) numbers ns)))
    (omega (arith, n, full))
    (omega (arith, n, long, le))
    (whole w ws mine body ns fits bits minis)
    (rw (n, left) items)
    (rw (n, left) (omega (arith, took, length-append mine body, size)))

-- the last miniblock that is wanted
last_part : (others : DeltaReader) (q : ℕ) (least : ℤ) (w : ℕ) (ws : List ℕ) (k : ℕ) (bytes : List ℕ) (ds ys : List ℤ) (taken : ℕ) → w ≤ 64 → 0 < k → k ≤ 8 * q → w * k ≤ 8 * length (take (w * q) bytes) → ds ≡ above least (unpacked w k (take (w * q) bytes)) ++ ys → ys ≡ [] → taken ≡ w * q → MiniFound others q least (w ∷ ws) k bytes ds taken
last_part others q least w ws k bytes ds ys taken fits some within enough is none took =
    let body : List ℕ = take (w * q) bytes in
    let most : length body ≤ w * q = omega (arith, length-take (w * q) bytes) in
    inside (unpacked w k body) body (drop (w * q) bytes)
    (sym (take-append-drop (w * q) bytes))
    (is ∙ ap (λ (t : List ℤ). above least (unpacked w k body) ++ t) none ∙ append-nil (above least (unpacked w k body)))
    (length-digits (2 ^ w) k (number_of body))
    (last w k ws body fits some within enough (omega (arith, most)) (inl refl))
    (λ le.
    let size : length body ≡ w * q = omega (arith, le, took, length-take (w * q) bytes) in
    (omega (arith, took, size), last w k ws body fits some within enough (omega (arith, most)) (inr (omega (arith, size)))))

too_wide : (others : DeltaReader) (q : ℕ) (least : ℤ) (w : ℕ) (ws : List ℕ) (k : ℕ) (bytes : List ℕ) (ds : List ℤ) → 0 < k → 64 < w → (minis_at others q least (w ∷ ws) k bytes).items ≡ all ds → ⊥
unfolding minis_at
too_wide others q least w ws k bytes ds some wide e = no_error [] ds (rw (ne_eqb k 0 (λ z. omega (arith, z, some)), lt-ltb 64 w wide) at e)

cut_short : (others : DeltaReader) (q : ℕ) (least : ℤ) (w k : ℕ) (body rest : List ℕ) (ds : List ℤ) → there w q body < min k (8 * q) → (mini_part others q least w k body rest).items ≡ all ds → ⊥
cut_short others q least w k body rest ds short e =
    let s = all_split (above least (unpacked w (there w q body) body)) (Err fault ∷ []) ds (rw (lt-ltb (there w q body) (min k (8 * q)) short) at e) in
    no_error [] s.0 s.2

there_is : (others : DeltaReader) (q : ℕ) (least : ℤ) (w : ℕ) (ws : List ℕ) (k : ℕ) (bytes : List ℕ) (ds ys : List ℤ) → ((b : List ℕ) → others 0 b ≡ ends) → 0 < k → w ≤ 64 → min k (8 * q) ≤ there w q (take (w * q) bytes) → ds ≡ above least (unpacked w (min k (8 * q)) (take (w * q) bytes)) ++ ys → (minis_at others q least ws (k - 8 * q) (drop (w * q) bytes)).items ≡ all ys → MiniFound others q least ws (k - 8 * q) (drop (w * q) bytes) ys (minis_at others q least ws (k - 8 * q) (drop (w * q) bytes)).taken → MiniFound others q least (w ∷ ws) k bytes ds (w * q + (minis_at others q least ws (k - 8 * q) (drop (w * q) bytes)).taken)
there_is others q least w ws k bytes ds ys none some fits enough is items found =
    elim (cases_lt (8 * q) k) [
      | inl more ↦
          let n : min k (8 * q) ≡ 8 * q = omega (arith, more) in
          let size = there_whole w q bytes (omega (arith, enough, n)) in
          in_front others q least w ws k bytes ds ys (minis_at others q least ws (k - 8 * q) (drop (w * q) bytes)).taken fits (omega (arith, more)) size (is ∙ ap (λ (i : ℕ). above least (unpacked w i (take (w * q) bytes)) ++ ys) n) found
      | inr within ↦
          let n : min k (8 * q) ≡ k = omega (arith, within) in
          let left : k - 8 * q ≡ 0 = omega (arith, within) in
          let out : minis_at others q least ws (k - 8 * q) (drop (w * q) bytes) ≡ ends = ap (λ (i : ℕ). minis_at others q least ws i (drop (w * q) bytes)) left ∙ minis_none others q least ws (drop (w * q) bytes) none in
          let empty : ys ≡ [] = no_items ys (sym (ap (λ (o : Out). o.items) out) ∙ items) in
          last_part others q least w ws k bytes ds ys (w * q + (minis_at others q least ws (k - 8 * q) (drop (w * q) bytes)).taken) fits some within (there_enough w q k (take (w * q) bytes) (omega (arith, enough, n))) (is ∙ ap (λ (i : ℕ). above least (unpacked w i (take (w * q) bytes)) ++ ys) n) empty (omega (arith, ap (λ (o : Out). o.taken) out))
    ]

part_good : (others : DeltaReader) (q : ℕ) (least : ℤ) (w : ℕ) (ws : List ℕ) (k : ℕ) (bytes : List ℕ) (ds : List ℤ) → ((b : List ℕ) → others 0 b ≡ ends) → ((j : ℕ) (b : List ℕ) (ys : List ℤ) → (minis_at others q least ws j b).items ≡ all ys → MiniFound others q least ws j b ys (minis_at others q least ws j b).taken) → 0 < k → w ≤ 64 → (mini_at (minis_at others q least ws) q least w k bytes).items ≡ all ds → MiniFound others q least (w ∷ ws) k bytes ds (mini_at (minis_at others q least ws) q least w k bytes).taken
part_good others q least w ws k bytes ds none good some fits e =
    elim (cases_lt (there w q (take (w * q) bytes)) (min k (8 * q))) [
      | inl short ↦ absurd (cut_short (minis_at others q least ws) q least w k (take (w * q) bytes) (drop (w * q) bytes) ds short e)
      | inr enough ↦
          let same = part_enough (minis_at others q least ws) q least w k (take (w * q) bytes) (drop (w * q) bytes) enough in
          let s = all_split (above least (unpacked w (min k (8 * q)) (take (w * q) bytes))) (minis_at others q least ws (k - 8 * q) (drop (w * q) bytes)).items ds (rw same at e) in
          rw same (there_is others q least w ws k bytes ds s.0 none some fits enough s.1 s.2 (good (k - 8 * q) (drop (w * q) bytes) s.0 s.2))
    ]

minis_good : (q : ℕ) (least : ℤ) (others : DeltaReader) (ws : List ℕ) (k : ℕ) (bytes : List ℕ) (ds : List ℤ) → ((b : List ℕ) → others 0 b ≡ ends) → (minis_at others q least ws k bytes).items ≡ all ds → MiniFound others q least ws k bytes ds (minis_at others q least ws k bytes).taken
minis_good q least others [] k bytes ds none e =
    let same = minis_end others q least k bytes in
    let zero_off : k - 0 ≡ k = omega arith in
    rw same (beyond [] [] bytes ds refl refl (omega arith) (omega arith) (no_more []) (rw zero_off (rw same at e)) (rw zero_off (omega arith)))
minis_good q least others (w ∷ ws) zero bytes ds none e =
    let same = minis_none others q least (w ∷ ws) bytes none in
    let empty : ds ≡ [] = no_items ds (rw same at e) in
    rw same (inside [] [] bytes refl empty refl (no_more (w ∷ ws)) (λ le. (refl, no_more (w ∷ ws))))
minis_good q least others (w ∷ ws) (suc j) bytes ds none e =
    elim (cases_lt 64 w) [
      | inl wide ↦ absurd (too_wide others q least w ws (suc j) bytes ds (omega arith) wide e)
      | inr fits ↦
          let same = mini_step others q least w ws (suc j) bytes (omega arith) fits in
          rw same (part_good others q least w ws (suc j) bytes ds none (λ i b ys f. minis_good q least others ws i b ys none f) (omega arith) fits (rw same at e))
    ]

-- ---- blocks

pub record Found (m q k : ℕ) (bytes : List ℕ) (ds : List ℤ) (taken : ℕ) : Type 0 where
  pub count : length ds ≡ k
  pub text : List ℕ
  pub rest : List ℕ
  pub parts : bytes ≡ text ++ rest
  pub blocks : Blocks true m (8 * q) text ds
  pub whole : taken ≤ length bytes → (taken ≡ length text) × Blocks false m (8 * q) text ds

found_none : (m q : ℕ) (bytes : List ℕ) (ds : List ℤ) → [] ≡ all ds → Found m q 0 bytes ds 0
found_none m q bytes ds e =
    let none : ds ≡ [] = no_items ds e in
    record {
      count = ap length none;
      text = [];
      rest = bytes;
      parts = refl;
      blocks = subst (λ (zs : List ℤ). Blocks true m (8 * q) [] zs) (sym none) Blocks.no_more;
      whole = λ le. (refl, subst (λ (zs : List ℤ). Blocks false m (8 * q) [] zs) (sym none) Blocks.no_more);
    }

-- one block, of which the head and the widths stand there
one_block : (others : DeltaReader) (m q k : ℕ) (head tail bytes : List ℕ) (n : ℕ) (ds : List ℤ) (t : ℕ) → 0 < q → 0 < m → 0 < k → bytes ≡ head ++ tail → IsNumber head n → m ≤ length tail → ((j : ℕ) (b : List ℕ) (ys : List ℤ) → (others j b).items ≡ all ys → Found m q j b ys (others j b).taken) → MiniFound others q (unzigzag n) (take m tail) k (drop m tail) ds t → Found m q k bytes ds (length bytes - length tail + m + t)
one_block others m q k head tail bytes n ds t h some_m some parts number long good (inside ns body rest split are count minis when_whole) =
    let least : ℤ = unzigzag n in
    let signed : IsSigned (2 ^ 64) head least = record { n = n; number = number; fits = number.below; is = refl } in
    let four : length (take m tail) ≡ m = omega (arith, length-take m tail, long) in
    let one : (cut : Bool) → Miniblocks cut (8 * q) (take m tail) body ns → Blocks cut m (8 * q) (head ++ (take m tail ++ (body ++ []))) (above least ns ++ []) =
    λ cut b. block head (take m tail) body [] least ns [] signed four (omega (arith, count, some)) b (inl refl) Blocks.no_more in
    let is : above least ns ++ [] ≡ ds = append-nil (above least ns) ∙ sym are in
    let tail_parts : tail ≡ take m tail ++ (body ++ rest) = sym (take-append-drop m tail) ∙ ap (λ (x : List ℕ). take m tail ++ x) split in
    let text : List ℕ = head ++ (take m tail ++ (body ++ [])) in
    let size : length text ≡ length head + (m + length body) = omega (arith, length-append head (take m tail ++ (body ++ [])), length-append (take m tail) (body ++ []), length-append body [], four) in
    let all_bytes : length bytes ≡ length head + length tail = ap length parts ∙ length-append head tail in
    record {
      count = ap length are ∙ length-map ns (λ m. least +ℤ pos m) ∙ count;
      text = text;
      rest = rest;
      parts = parts ∙ ap (λ (x : List ℕ). head ++ x) tail_parts ∙ ap (λ (b : List ℕ). head ++ (take m tail ++ (b ++ rest))) (sym (append-nil body)) ∙ sym (append_assoc head (take m tail ++ (body ++ [])) rest ∙ ap (λ (x : List ℕ). head ++ x) (append_assoc (take m tail) (body ++ []) rest));
      blocks = subst (λ (zs : List ℤ). Blocks true m (8 * q) text zs) is (one true minis);
      whole = λ le.
          let w = when_whole (omega (arith, le, all_bytes, ap length tail_parts, length-append (take m tail) (body ++ rest), ap length split, four)) in
          (omega (arith, w.0, size, all_bytes), subst (λ (zs : List ℤ). Blocks false m (8 * q) text zs) is (one false w.1));
    }
one_block others m q k head tail bytes n ds t h some_m some parts number long good (beyond ns body rest more split are full le minis items took) =
    let least : ℤ = unzigzag n in
    let signed : IsSigned (2 ^ 64) head least = record { n = n; number = number; fits = number.below; is = refl } in
    let four : length (take m tail) ≡ m = omega (arith, length-take m tail, long) in
    let f = good (k - length ns) rest more items in
    let all_ns : length ns ≡ m * (8 * q) = full ∙ ap (λ (j : ℕ). j * (8 * q)) four in
    let some_ns : 0 < length ns = omega (arith, all_ns, mul-le 1 1 m (8 * q) some_m (omega (arith, h))) in
    let one : (cut : Bool) → Miniblocks cut (8 * q) (take m tail) body ns → Blocks cut m (8 * q) f.text more → Blocks cut m (8 * q) (head ++ (take m tail ++ (body ++ f.text))) (above least ns ++ more) =
    λ cut b others_blocks. block head (take m tail) body f.text least ns more signed four some_ns b (inr all_ns) others_blocks in
    let tail_parts : tail ≡ take m tail ++ (body ++ rest) = sym (take-append-drop m tail) ∙ ap (λ (x : List ℕ). take m tail ++ x) split in
    let text : List ℕ = head ++ (take m tail ++ (body ++ f.text)) in
    let size : length text ≡ length head + (m + (length body + length f.text)) = omega (arith, length-append head (take m tail ++ (body ++ f.text)), length-append (take m tail) (body ++ f.text), length-append body f.text, four) in
    let all_bytes : length bytes ≡ length head + length tail = ap length parts ∙ length-append head tail in
    let tail_size : length tail ≡ m + (length body + length rest) = omega (arith, ap length tail_parts, length-append (take m tail) (body ++ rest), length-append body rest, four) in
    record {
      count = omega (arith, ap length are, length-append (above least ns) more, length-map ns (λ m. least +ℤ pos m), f.count, le);
      text = text;
      rest = f.rest;
      parts =
          parts
          ∙ ap (λ (x : List ℕ). head ++ x) (tail_parts ∙ ap (λ (b : List ℕ). take m tail ++ (body ++ b)) f.parts)
          ∙ sym (append_assoc head (take m tail ++ (body ++ f.text)) f.rest ∙ ap (λ (x : List ℕ). head ++ x) (append_assoc (take m tail) (body ++ f.text) f.rest ∙ ap (λ (x : List ℕ). take m tail ++ x) (append_assoc body f.text f.rest)));
      blocks = subst (λ (zs : List ℤ). Blocks true m (8 * q) text zs) (sym are) (one true (may_be_cut (8 * q) (take m tail) body ns minis) f.blocks);
      whole = λ fit.
          let w = f.whole (omega (arith, fit, took, all_bytes, tail_size)) in
          (omega (arith, w.0, took, size, all_bytes), subst (λ (zs : List ℤ). Blocks false m (8 * q) text zs) (sym are) (one false minis w.1));
    }

block_good : (others : DeltaReader) (m q k : ℕ) (bytes : List ℕ) (ds : List ℤ) (head : Option (ℕ × List ℕ)) → head ≡ varint_at bytes → 0 < q → 0 < m → 0 < k → ((b : List ℕ) → others 0 b ≡ ends) → ((j : ℕ) (b : List ℕ) (ys : List ℤ) → (others j b).items ≡ all ys → Found m q j b ys (others j b).taken) → (block_part others m q k (length bytes) head).items ≡ all ds → Found m q k bytes ds (block_part others m q k (length bytes) head).taken
block_good others m q k bytes ds None is h some_m some none good e = absurd (no_error [] ds e)
block_good others m q k bytes ds (Some head) is h some_m some none good e =
    elim (cases_lt (length head.1) m) [
      | inl short ↦ absurd (no_error [] ds (rw (lt-ltb (length head.1) m short) at e))
      | inr long ↦
          let same = enough_there others m q k (length bytes) head.0 head.1 long in
          let s = number_stands bytes head.0 head.1 (sym is) in
          let found = minis_good q (unzigzag head.0) others (take m head.1) k (drop m head.1) ds none (rw same at e) in
          rw same (one_block others m q k s.0 head.1 bytes head.0 ds (minis_at others q (unzigzag head.0) (take m head.1) k (drop m head.1)).taken h some_m some s.1 s.2 long good found)
    ]

no_fuel : (m q k : ℕ) (bytes : List ℕ) (ds : List ℤ) → (blocks_at zero m q (suc k) bytes).items ≡ all ds → ⊥
unfolding blocks_at
no_fuel m q k bytes ds e = no_error [] ds (rw (ne_eqb (suc k) 0 (λ z. omega (arith, z))) at e)

pub blocks_good : (fuel m q k : ℕ) (bytes : List ℕ) (ds : List ℤ) → 0 < q → 0 < m → (blocks_at fuel m q k bytes).items ≡ all ds → Found m q k bytes ds (blocks_at fuel m q k bytes).taken
blocks_good fuel m q zero bytes ds h some_m e = rw (blocks_none fuel m q bytes) (found_none m q bytes ds (rw (blocks_none fuel m q bytes) at e))
blocks_good zero m q (suc k) bytes ds h some_m e = absurd (no_fuel m q k bytes ds e)
blocks_good (suc fuel) m q (suc k) bytes ds h some_m e =
    let same = blocks_step fuel m q (suc k) bytes (omega arith) in
    rw same (block_good (blocks_at fuel m q) m q (suc k) bytes ds (varint_at bytes) refl h some_m (omega arith) (λ b. blocks_none fuel m q b) (λ j b ys f. blocks_good fuel m q j b ys h some_m f) (rw same at e))
