-- The steps of reading delta packing.
use Rattle.std.proofs.Common.{◌≡◌, ◌⊎◌, ℕ, zero, suc, ◌+◌, ◌-◌, ◌*◌, ◌/◌, ◌%◌, ◌^◌, ◌<◌, ◌≤◌, min, ℤ, pos, ◌+ℤ◌, Bool, true, false, List, [], ◌∷◌, ◌++◌, length, take, drop, Option, Some, None, Result, Ok, Err, nat_lt, nat_eq, ◌&&◌, get_or, lit<, refl, sym, ap, ◌∙◌, inl, inr, arith, append-nil}
use Rattle.std.proofs.lemmas.Bool.{lt-ltb, le-ltb, ne_eqb, cases_lt, cases_eq}
use Rattle.std.proofs.Math.Nat.{mod-eq_of_lt, div-add-mod}
use Rattle.std.proofs.lemmas.Int.{ints, int_wrap-add_left, int_wrap-add_right}
use Rattle.std.proofs.lemmas.Nat.{le-div, mul-le}
use Rattle.std.proofs.lemmas.List.{length-take, length-drop, take-append-drop}
use Rattle.std.specs.Int.{Width, w64, int_wrap, cast_signed}
use Rattle.columns_base.specs.declared.error.Error.{Error}
use Rattle.pq_numbers.specs.Bits.{unpacked}
use Rattle.pq_numbers.specs.Varint.{varint_at}
use Rattle.pq_numbers.specs.Zigzag.{unzigzag}
use Rattle.pq_numbers.proofs.Bytes.{AreBytes}
use Rattle.pq_numbers.proofs.Digits.{unpacked-append}
use Rattle.pq_numbers.proofs.Numbers.{varint-none}
use Rattle.pq_runs.specs.Delta.{wrapped}
use Rattle.pq_runs.specs.DeltaReading.{Out, all, gives, ends, failed, DeltaReader, above, there, mini_at, minis_at, block_part, blocks_at, running, Head, is_good, deltas_of, numbers_of}
use Rattle.pq_runs.proofs.DeltaComplete.{part_enough, mini_step, minis_none, minis_end, blocks_none, blocks_step, enough_there}
use Rattle.pq_runs.proofs.Fields.{unpacked-parts}
use Rattle.pq_runs.proofs.Fuel.{tail_shorter}
use Rattle.pq_runs.proofs.Sound.{mul-le-div}
use Rattle.pq_delta_reads.specs.Reading.{stepped, later_of}

-- ---- what reads the bytes behind a block is asked of no more bytes than there are

mini_same : (o o' : DeltaReader) (fuel q : ℕ) (least : ℤ) (w k : ℕ) (bytes : List ℕ) → ((j : ℕ) (b : List ℕ) → length b ≤ fuel → o j b ≡ o' j b) → length bytes ≤ fuel → mini_at o q least w k bytes ≡ mini_at o' q least w k bytes
mini_same o o' fuel q least w k bytes same le =
    let e = same (k - 8 * q) (drop (w * q) bytes) (omega (arith, le, length-drop (w * q) bytes)) in
    rw e refl

pub minis_same : (o o' : DeltaReader) (fuel q : ℕ) (least : ℤ) (ws : List ℕ) (k : ℕ) (bytes : List ℕ) → ((j : ℕ) (b : List ℕ) → length b ≤ fuel → o j b ≡ o' j b) → length bytes ≤ fuel → minis_at o q least ws k bytes ≡ minis_at o' q least ws k bytes
unfolding minis_at
minis_same o o' fuel q least [] k bytes same le = same k bytes le
minis_same o o' fuel q least (w ∷ ws) k bytes same le =
    rw (mini_same (minis_at o q least ws) (minis_at o' q least ws) fuel q least w k bytes (λ j b h. minis_same o o' fuel q least ws j b same h) le) refl

part_same : (o o' : DeltaReader) (fuel m q k : ℕ) (bytes : List ℕ) (head : Option (ℕ × List ℕ)) → head ≡ varint_at bytes → length bytes ≤ suc fuel → ((j : ℕ) (b : List ℕ) → length b ≤ fuel → o j b ≡ o' j b) → block_part o m q k (length bytes) head ≡ block_part o' m q k (length bytes) head
part_same o o' fuel m q k bytes None is le same = refl
part_same o o' fuel m q k bytes (Some head) is le same =
    let shorter = tail_shorter bytes head.0 head.1 (sym is) in
    rw (minis_same o o' fuel q (unzigzag head.0) (take m head.1) k (drop m head.1) same (omega (arith, le, shorter, length-drop m head.1))) refl

no_bytes : (fuel m q k : ℕ) (bytes : List ℕ) → 0 < k → length bytes ≡ 0 → blocks_at fuel m q k bytes ≡ failed
unfolding blocks_at
no_bytes zero m q k bytes some e = rw (ne_eqb k 0 (λ z. omega (arith, z, some))) refl
no_bytes (suc fuel) m q k [] some e = rw (ne_eqb k 0 (λ z. omega (arith, z, some)), varint-none) refl
no_bytes (suc fuel) m q k (b ∷ bytes) some e = absurd (omega (arith, e))

-- any number that is large enough bounds the blocks
pub enough_fuel : (fuel fuel' m q k : ℕ) (bytes : List ℕ) → length bytes ≤ fuel → length bytes ≤ fuel' → blocks_at fuel m q k bytes ≡ blocks_at fuel' m q k bytes
enough_fuel fuel fuel' m q zero bytes le le' = blocks_none fuel m q bytes ∙ sym (blocks_none fuel' m q bytes)
enough_fuel zero fuel' m q (suc k) bytes le le' = no_bytes zero m q (suc k) bytes (omega arith) (omega (arith, le)) ∙ sym (no_bytes fuel' m q (suc k) bytes (omega arith) (omega (arith, le)))
enough_fuel (suc fuel) zero m q (suc k) bytes le le' = no_bytes (suc fuel) m q (suc k) bytes (omega arith) (omega (arith, le')) ∙ sym (no_bytes zero m q (suc k) bytes (omega arith) (omega (arith, le')))
enough_fuel (suc fuel) (suc fuel') m q (suc k) bytes le le' =
    blocks_step fuel m q (suc k) bytes (omega arith)
    ∙ part_same (blocks_at fuel m q) (blocks_at fuel' m q) (min fuel fuel') m q (suc k) bytes (varint_at bytes) refl (omega (arith, le, le')) (λ j b h. enough_fuel fuel fuel' m q j b (omega (arith, h)) (omega (arith, h)))
    ∙ sym (blocks_step fuel' m q (suc k) bytes (omega arith))

-- ---- one block

front : (m q k : ℕ) (bytes : List ℕ) → 0 < k → (fuel : ℕ) × (length bytes ≤ suc fuel) × (blocks_at (length bytes) m q k bytes ≡ block_part (blocks_at fuel m q) m q k (length bytes) (varint_at bytes))
front m q k [] some = (0, omega arith, no_bytes 0 m q k [] some refl ∙ sym (rw varint-none refl))
front m q k (b ∷ bytes) some = (length bytes, omega arith, blocks_step (length bytes) m q k (b ∷ bytes) some)

pub block_none : (m q k : ℕ) (least : ℤ) (widths bytes : List ℕ) → 0 < k → length widths ≡ 0 → varint_at bytes ≡ None → later_of false m q least widths k bytes ≡ failed
block_none m q k least [] bytes some none e =
    let f = front m q k bytes some in
    minis_end (blocks_at (length bytes) m q) q least k bytes ∙ f.2 ∙ ap (block_part (blocks_at f.0 m q) m q k (length bytes)) e
block_none m q k least (w ∷ widths) bytes some none e = absurd (omega (arith, none))

pub block_short : (m q k n : ℕ) (least : ℤ) (widths bytes tail : List ℕ) → 0 < k → length widths ≡ 0 → varint_at bytes ≡ Some (n, tail) → length tail < m → later_of false m q least widths k bytes ≡ failed
block_short m q k n least [] bytes tail some none e short =
    let f = front m q k bytes some in
    minis_end (blocks_at (length bytes) m q) q least k bytes ∙ f.2 ∙ ap (block_part (blocks_at f.0 m q) m q k (length bytes)) e ∙ rw (lt-ltb (length tail) m short) refl
block_short m q k n least (w ∷ widths) bytes tail some none e short = absurd (omega (arith, none))

pub block_begins : (m q k n : ℕ) (least : ℤ) (widths bytes tail : List ℕ) → 0 < k → length widths ≡ 0 → varint_at bytes ≡ Some (n, tail) → m ≤ length tail → later_of false m q least widths k bytes ≡ gives [] (length bytes - length tail + m) (later_of false m q (unzigzag n) (take m tail) k (drop m tail))
block_begins m q k n least [] bytes tail some none e long =
    let f = front m q k bytes some in
    let shorter = tail_shorter bytes n tail e in
    let behind : length (drop m tail) ≤ f.0 = omega (arith, length-drop m tail, shorter, f.1) in
    minis_end (blocks_at (length bytes) m q) q least k bytes
    ∙ f.2
    ∙ ap (block_part (blocks_at f.0 m q) m q k (length bytes)) e
    ∙ enough_there (blocks_at f.0 m q) m q k (length bytes) n tail long
    ∙ ap (λ (o : Out). gives [] (length bytes - length tail + m) o) (minis_same (blocks_at f.0 m q) (blocks_at (length (drop m tail)) m q) (length (drop m tail)) q (unzigzag n) (take m tail) k (drop m tail) (λ j b h. enough_fuel f.0 (length (drop m tail)) m q j b (omega (arith, h, behind)) h) (omega arith))
block_begins m q k n least (w ∷ widths) bytes tail some none e long = absurd (omega (arith, none))

-- ---- one miniblock

pub mini_wide : (m q k w : ℕ) (least : ℤ) (ws bytes : List ℕ) → 0 < k → 64 < w → later_of false m q least (w ∷ ws) k bytes ≡ failed
unfolding minis_at
mini_wide m q k w least ws bytes some wide = rw (ne_eqb k 0 (λ z. omega (arith, z, some)), lt-ltb 64 w wide) refl

pub mini_cut : (m q k w count : ℕ) (least : ℤ) (ws bytes : List ℕ) → 0 < k → w ≤ 64 → count ≡ min (there w q (take (w * q) bytes)) (min k (8 * q)) → count < min k (8 * q) → later_of false m q least (w ∷ ws) k bytes ≡ gives (above least (unpacked w count (take (w * q) bytes))) 0 failed
mini_cut m q k w count least ws bytes some fits is few =
    let same : count ≡ there w q (take (w * q) bytes) = omega (arith, is, few) in
    let short : there w q (take (w * q) bytes) < min k (8 * q) = omega (arith, is, few) in
    mini_step (blocks_at (length bytes) m q) q least w ws k bytes some fits
    ∙ rw (lt-ltb (there w q (take (w * q) bytes)) (min k (8 * q)) short) (ap (λ (c : ℕ). gives (above least (unpacked w c (take (w * q) bytes))) 0 failed) (sym same))

pub mini_begins : (m q k w count : ℕ) (least : ℤ) (ws bytes : List ℕ) → 0 < k → w ≤ 64 → count ≡ min (there w q (take (w * q) bytes)) (min k (8 * q)) → min k (8 * q) ≤ count → later_of false m q least (w ∷ ws) k bytes ≡ gives (above least (unpacked w count (take (w * q) bytes))) (w * q) (later_of false m q least ws (k - count) (drop (w * q) bytes))
mini_begins m q k w count least ws bytes some fits is all_there =
    let same : min k (8 * q) ≡ count = omega (arith, is, all_there) in
    let long : min k (8 * q) ≤ there w q (take (w * q) bytes) = omega (arith, is, all_there) in
    let left : k - 8 * q ≡ k - count = omega (arith, same) in
    let rest : List ℕ = drop (w * q) bytes in
    let shorter : length rest ≤ length bytes = omega (arith, length-drop (w * q) bytes) in
    mini_step (blocks_at (length bytes) m q) q least w ws k bytes some fits
    ∙ part_enough (minis_at (blocks_at (length bytes) m q) q least ws) q least w k (take (w * q) bytes) rest long
    ∙ ap (λ (c : ℕ). gives (above least (unpacked w c (take (w * q) bytes))) (w * q) (minis_at (blocks_at (length bytes) m q) q least ws (k - 8 * q) rest)) same
    ∙ ap (λ (j : ℕ). gives (above least (unpacked w count (take (w * q) bytes))) (w * q) (minis_at (blocks_at (length bytes) m q) q least ws j rest)) left
    ∙ ap (λ (o : Out). gives (above least (unpacked w count (take (w * q) bytes))) (w * q) o) (minis_same (blocks_at (length bytes) m q) (blocks_at (length rest) m q) (length rest) q least ws (k - count) rest (λ j b h. enough_fuel (length bytes) (length rest) m q j b (omega (arith, h, shorter)) h) (omega arith))

there_whole : (w q : ℕ) (body : List ℕ) → 8 * q ≤ there w q body → w * q ≤ length body
there_whole w q body le =
    elim (cases_eq w 0) [
      | inl none ↦ (let z : w * q ≡ 0 = ap (λ (k : ℕ). k * q) none ∙ omega arith in omega (arith, z))
      | inr some ↦
          let f : there w q body ≡ min (8 * q) (8 * length body / w) = rw (ne_eqb w 0 some) refl in
          let d : w * (8 * q) ≤ 8 * length body = mul-le-div (8 * q) w (8 * length body) (omega (arith, le, f)) in
          omega (arith, d)
    ]

-- where the last miniblock lacks bytes, no more is wanted behind it
pub none_behind : (q k w count : ℕ) (bytes : List ℕ) → count ≡ min (there w q (take (w * q) bytes)) (min k (8 * q)) → min k (8 * q) ≤ count → (w * q - length (take (w * q) bytes) ≡ 0) ⊎ (k - count ≡ 0)
none_behind q k w count bytes is all_there =
    elim (cases_lt (8 * q) k) [
      | inl more ↦ inl (omega (arith, there_whole w q (take (w * q) bytes) (omega (arith, is, all_there, more))))
      | inr enough ↦ inr (omega (arith, is, all_there, enough))
    ]

pub size_fits : (w q : ℕ) → w ≤ 64 → 8 * q < 2 ^ 64 → w * q < 2 ^ 70
size_fits w q fits few =
    let p : w * q ≤ 64 * q = mul-le w q 64 q fits (omega arith) in
    omega (arith, p, few)

-- ---- nothing behind

pub none_wanted : (m q : ℕ) (least : ℤ) (widths bytes : List ℕ) → later_of false m q least widths 0 bytes ≡ ends
none_wanted m q least widths bytes = minis_none (blocks_at (length bytes) m q) q least widths bytes (λ b. blocks_none (length bytes) m q b)

-- ---- numbers of a miniblock in parts

pub parts_of : (w standing count : ℕ) (packed : List ℕ) → AreBytes packed → count ≡ min standing 32 → unpacked w count packed ++ unpacked w (standing - count) (drop (4 * w) packed) ≡ unpacked w standing packed
parts_of w standing count packed are is =
    elim (cases_lt standing 32) [
      | inl few ↦
          let same : count ≡ standing = omega (arith, is, few) in
          let none : standing - count ≡ 0 = omega (arith, same) in
          ap (λ (j : ℕ). unpacked w count packed ++ unpacked w j (drop (4 * w) packed)) none ∙ append-nil (unpacked w count packed) ∙ ap (λ (j : ℕ). unpacked w j packed) same
      | inr many ↦
          let some : count ≡ 8 * 4 = omega (arith, is, many) in
          let all_of : 8 * 4 + (standing - count) ≡ standing = omega (arith, is, many) in
          ap (λ (j : ℕ). unpacked w j packed ++ unpacked w (standing - count) (drop (4 * w) packed)) some ∙ sym (unpacked-parts w 4 (standing - count) packed are) ∙ ap (λ (j : ℕ). unpacked w j packed) all_of
    ]

-- ---- sums

wrapped-is : (w : Width) (z : ℤ) → wrapped w z ≡ int_wrap w z
unfolding int_wrap
wrapped-is w z = refl

pub next_number : (latest least : ℤ) (n : ℕ) (next : ℤ) → next ≡ int_wrap w64 (int_wrap w64 (latest +ℤ least) +ℤ int_wrap w64 (pos n)) → next ≡ wrapped w64 (latest +ℤ (least +ℤ pos n))
next_number latest least n next e =
    let turn : (latest +ℤ least) +ℤ pos n ≡ latest +ℤ (least +ℤ pos n) = omega (arith, ints) in
    e ∙ int_wrap-add_left w64 (latest +ℤ least) (int_wrap w64 (pos n)) ∙ int_wrap-add_right w64 (latest +ℤ least) (pos n) ∙ ap (int_wrap w64) turn ∙ sym (wrapped-is w64 (latest +ℤ (least +ℤ pos n)))

pub natural_wrap : (n : ℕ) → n < 2 ^ 64 → cast_signed w64 n ≡ int_wrap w64 (pos n)
unfolding int_wrap
natural_wrap n fits = ap (cast_signed w64) (sym (mod-eq_of_lt fits))

pub stepped_next : (latest least next : ℤ) (n : ℕ) (ns : List ℕ) (others : List (Result ℤ Error)) → next ≡ wrapped w64 (latest +ℤ (least +ℤ pos n)) → stepped latest (all (above least (n ∷ ns)) ++ others) ≡ Ok next ∷ stepped next (all (above least ns) ++ others)
stepped_next latest least next n ns others e = ap (λ (z : ℤ). Ok z ∷ stepped z (all (above least ns) ++ others)) (sym e)

-- the first number stands as a packed one above itself
pub running_steps : (z : ℤ) (items : List (Result ℤ Error)) → Ok (wrapped w64 z) ∷ stepped (wrapped w64 z) items ≡ running z items
running_steps z [] = refl
running_steps z (Ok d ∷ items) =
    let e : wrapped w64 (wrapped w64 z +ℤ d) ≡ wrapped w64 (z +ℤ d) = wrapped-is w64 (wrapped w64 z +ℤ d) ∙ ap (λ (y : ℤ). int_wrap w64 (y +ℤ d)) (wrapped-is w64 z) ∙ int_wrap-add_left w64 z d ∙ sym (wrapped-is w64 (z +ℤ d)) in
    ap (λ (y : ℤ). Ok (wrapped w64 z) ∷ (Ok y ∷ stepped y items)) e ∙ ap (λ (t : List (Result ℤ Error)). Ok (wrapped w64 z) ∷ t) (running_steps (z +ℤ d) items)
running_steps z (Err e ∷ items) = refl

pub are-take : (n : ℕ) (xs : List ℕ) → AreBytes xs → AreBytes (take n xs)
are-take zero xs h = λ k. lit< tt
are-take (suc n) [] h = λ k. lit< tt
are-take (suc n) (x ∷ xs) h = λ k. at_place (are-take n xs (λ j. h (suc j))) k
  where
    at_place : AreBytes (take n xs) → (k : ℕ) → get_or (x ∷ take n xs) k 0 < 256
    at_place rest zero = h 0
    at_place rest (suc k) = rest k

-- ---- states

abbrev item_list : ℤ → ℤ → List ℕ → ℕ → ℕ → List ℕ → Out → List (Result ℤ Error)
item_list latest least waiting width standing packed behind = stepped latest (all (above least (waiting ++ unpacked width standing packed)) ++ behind.items)

pub idle_items : (latest least : ℤ) (waiting : List ℕ) (width standing : ℕ) (packed : List ℕ) (behind : Out) → length waiting ≡ 0 → standing ≡ 0 → item_list latest least waiting width standing packed behind ≡ stepped latest behind.items
idle_items latest least [] width standing packed behind empty none = rw none refl
idle_items latest least (n ∷ ns) width standing packed behind empty none = absurd (omega (arith, empty))

-- what a block or a miniblock has in front of what comes behind it
pub gives_items : (latest least least' : ℤ) (waiting : List ℕ) (width width' standing count d : ℕ) (packed body : List ℕ) (o o' : Out) → length waiting ≡ 0 → standing ≡ 0 → o ≡ gives (above least' (unpacked width' count body)) d o' → (item_list latest least' waiting width' count body o' ≡ item_list latest least waiting width standing packed o) × (o.taken ≡ d + o'.taken)
gives_items latest least least' [] width width' standing count d packed body o o' empty none e =
    (sym (idle_items latest least [] width standing packed o empty none ∙ ap (λ (p : Out). stepped latest p.items) e), ap (λ (p : Out). p.taken) e)
gives_items latest least least' (n ∷ ns) width width' standing count d packed body o o' empty none e = absurd (omega (arith, empty))

pub no_numbers : (least : ℤ) (w standing d : ℕ) (packed : List ℕ) (o : Out) → standing ≡ 0 → gives [] d o ≡ gives (above least (unpacked w standing packed)) d o
no_numbers least w standing d packed o none = rw none refl

pub block_on : (cut : Bool) (m q k n : ℕ) (least least' : ℤ) (widths widths' bytes tail bytes' : List ℕ) → cut ≡ false → 0 < k → length widths ≡ 0 → varint_at bytes ≡ Some (n, tail) → m ≤ length tail → least' ≡ unzigzag n → widths' ≡ take m tail → bytes' ≡ drop m tail → later_of cut m q least widths k bytes ≡ gives [] (length bytes - length tail + m) (later_of cut m q least' widths' k bytes')
block_on cut m q k n least least' widths widths' bytes tail bytes' whole some none e long l w b = rw (whole, l, w, b) (block_begins m q k n least widths bytes tail some none e long)

-- numbers that stand in the front of bytes are those of the bytes
unpacked_longer : (w q count k size : ℕ) (bytes body : List ℕ) → body ≡ take size bytes → count ≡ min (there w q body) (min k (8 * q)) → unpacked w count body ≡ unpacked w count bytes
unpacked_longer w q count k size bytes body front counted =
    let enough : w * count ≤ 8 * length body = elim (cases_eq w 0) [
      | inl none ↦ (let z : w * count ≡ 0 = ap (λ (j : ℕ). j * count) none ∙ omega arith in omega (arith, z))
      | inr some ↦
          let f : there w q body ≡ min (8 * q) (8 * length body / w) = rw (ne_eqb w 0 some) refl in
          mul-le-div count w (8 * length body) (omega (arith, counted, f))
    ] in
    sym (unpacked-append w count body (drop size bytes) enough) ∙ ap (unpacked w count) (ap (λ (t : List ℕ). t ++ drop size bytes) front ∙ take-append-drop size bytes)

-- all that are wanted stand in a miniblock that is whole
pub all_standing : (w q k n : ℕ) (body : List ℕ) → (w ≡ 0 → ⊥) → n ≡ length body → w * q ≤ n → min k (8 * q) ≡ min (there w q body) (min k (8 * q))
all_standing w q k n body some size long =
    let f : there w q body ≡ min (8 * q) (8 * length body / w) = rw (ne_eqb w 0 some) refl in
    let most : 8 * q ≤ 8 * length body / w = le-div (8 * q) (8 * length body) w (omega (arith, some)) (omega (arith, size, long)) in
    omega (arith, f, most)

pub mini_on : (cut : Bool) (m q k w count size : ℕ) (least : ℤ) (widths ws bytes body rest : List ℕ) → cut ≡ false → 0 < k → w ≤ 64 → widths ≡ w ∷ ws → size ≡ w * q → body ≡ take size bytes → rest ≡ drop size bytes → count ≡ min (there w q body) (min k (8 * q)) → min k (8 * q) ≤ count → later_of cut m q least widths k bytes ≡ gives (above least (unpacked w count bytes)) (w * q) (later_of cut m q least ws (k - count) rest)
mini_on cut m q k w count size least widths ws bytes body rest whole some fits are is front back counted all_there =
    let body_is : body ≡ take (w * q) bytes = front ∙ ap (λ (n : ℕ). take n bytes) is in
    let rest_is : rest ≡ drop (w * q) bytes = back ∙ ap (λ (n : ℕ). drop n bytes) is in
    let count_is : count ≡ min (there w q (take (w * q) bytes)) (min k (8 * q)) = counted ∙ ap (λ (b : List ℕ). min (there w q b) (min k (8 * q))) body_is in
    rw (whole, are, body_is, rest_is) (mini_begins m q k w count least ws bytes some fits count_is all_there)
    ∙ ap (λ (ns : List ℕ). gives (above least ns) (w * q) (later_of cut m q least ws (k - count) rest)) (unpacked_longer w q count k size bytes body front counted)

pub mini_off : (cut : Bool) (m q k w count size : ℕ) (least : ℤ) (widths ws bytes body : List ℕ) → cut ≡ false → 0 < k → w ≤ 64 → widths ≡ w ∷ ws → size ≡ w * q → body ≡ take size bytes → count ≡ min (there w q body) (min k (8 * q)) → count < min k (8 * q) → later_of cut m q least widths k bytes ≡ gives (above least (unpacked w count bytes)) 0 failed
mini_off cut m q k w count size least widths ws bytes body whole some fits are is front counted few =
    let body_is : body ≡ take (w * q) bytes = front ∙ ap (λ (n : ℕ). take n bytes) is in
    let count_is : count ≡ min (there w q (take (w * q) bytes)) (min k (8 * q)) = counted ∙ ap (λ (b : List ℕ). min (there w q b) (min k (8 * q))) body_is in
    rw (whole, are, body_is) (mini_cut m q k w count least ws bytes some fits count_is few)
    ∙ ap (λ (ns : List ℕ). gives (above least ns) 0 failed) (unpacked_longer w q count k size bytes body front counted)

-- bytes that a miniblock takes and lacks
pub mini_taken : (all_bytes q k w count size missing missing' : ℕ) (bytes body rest : List ℕ) → length bytes ≤ all_bytes → missing ≡ 0 → size ≡ w * q → body ≡ take size bytes → rest ≡ drop size bytes → missing' ≡ size - length body → all_bytes - length rest + missing' ≡ all_bytes - length bytes + missing + w * q
mini_taken all_bytes q k w count size missing missing' bytes body rest within none is front back lacks =
    omega (arith, within, none, is, lacks, ap length front, ap length back, length-take size bytes, length-drop size bytes)

pub mini_last : (q k w count size missing' : ℕ) (bytes body : List ℕ) → size ≡ w * q → body ≡ take size bytes → missing' ≡ size - length body → count ≡ min (there w q body) (min k (8 * q)) → min k (8 * q) ≤ count → (missing' ≡ 0) ⊎ (k - count ≡ 0)
mini_last q k w count size missing' bytes body is front lacks counted all_there =
    let body_is : body ≡ take (w * q) bytes = front ∙ ap (λ (n : ℕ). take n bytes) is in
    let lacks_is : missing' ≡ w * q - length (take (w * q) bytes) = omega (arith, lacks, is, ap length body_is) in
    let count_is : count ≡ min (there w q (take (w * q) bytes)) (min k (8 * q)) = counted ∙ ap (λ (b : List ℕ). min (there w q b) (min k (8 * q))) body_is in
    elim (none_behind q k w count bytes count_is all_there) [
      | inl z ↦ inl (omega (arith, lacks_is, z))
      | inr z ↦ inr z
    ]

pub none_missing : (missing left : ℕ) → 0 < left → (missing ≡ 0) ⊎ (left ≡ 0) → missing ≡ 0
none_missing missing left some (inl e) = e
none_missing missing left some (inr e) = absurd (omega (arith, some, e))

pub fill_items : (latest least : ℤ) (waiting waiting' : List ℕ) (width standing count : ℕ) (packed packed' : List ℕ) (behind : Out) → length waiting ≡ 0 → AreBytes packed → count ≡ min standing 32 → waiting' ≡ unpacked width count packed → packed' ≡ drop (4 * width) packed → item_list latest least waiting' width (standing - count) packed' behind ≡ item_list latest least waiting width standing packed behind
fill_items latest least [] waiting' width standing count packed packed' behind empty are is front back =
    rw (front, back) (ap (λ (ns : List ℕ). stepped latest (all (above least ns) ++ behind.items)) (parts_of width standing count packed are is))
fill_items latest least (n ∷ ns) waiting' width standing count packed packed' behind empty are is front back = absurd (omega (arith, empty))

pub take_items : (latest least next : ℤ) (n : ℕ) (waiting waiting' : List ℕ) (width standing : ℕ) (packed : List ℕ) (behind : Out) → waiting ≡ n ∷ waiting' → next ≡ wrapped w64 (latest +ℤ (least +ℤ pos n)) → item_list latest least waiting width standing packed behind ≡ Ok next ∷ item_list next least waiting' width standing packed behind
take_items latest least next n waiting waiting' width standing packed behind e is =
    rw e (stepped_next latest least next n (waiting' ++ unpacked width standing packed) behind.items is)

pub nothing_left : (latest least : ℤ) (waiting : List ℕ) (width standing left m q : ℕ) (packed widths bytes : List ℕ) (cut : Bool) → length waiting + standing + left ≡ 0 → (cut ≡ true → 0 < left) → (item_list latest least waiting width standing packed (later_of cut m q least widths left bytes) ≡ []) × ((later_of cut m q least widths left bytes).taken ≡ 0)
nothing_left latest least waiting width standing left m q packed widths bytes true none wanted = absurd (omega (arith, none, wanted refl))
nothing_left latest least waiting width standing left m q packed widths bytes false none wanted =
    let zero_left : left ≡ 0 = omega (arith, none) in
    let behind : later_of false m q least widths left bytes ≡ ends = ap (λ (k : ℕ). later_of false m q least widths k bytes) zero_left ∙ none_wanted m q least widths bytes in
    (idle_items latest least waiting width standing packed (later_of false m q least widths left bytes) (omega (arith, none)) (omega (arith, none)) ∙ ap (λ (o : Out). stepped latest o.items) behind, ap (λ (o : Out). o.taken) behind)

-- ---- the header

positive : (n : ℕ) → nat_lt 0 n ≡ true → 0 < n
positive n e =
    elim (cases_lt 0 n) [
      | inl h ↦ h
      | inr z ↦ (let no = rw (le-ltb 0 n z) at e in absurd cc)
    ]

is_none : (n : ℕ) → nat_eq n 0 ≡ true → n ≡ 0
is_none n e =
    elim (cases_eq n 0) [
      | inl z ↦ z
      | inr h ↦ (let no = rw (ne_eqb n 0 h) at e in absurd cc)
    ]

both : (a b : Bool) → a && b ≡ true → (a ≡ true) × (b ≡ true)
both true b e = (refl, e)
both false b e = absurd cc

pub record Good (size m : ℕ) : Type 0 where
  pub some : 0 < m
  pub groups : 0 < size / m / 8
  pub most : 8 * (size / m / 8) ≤ size
  pub size_fits : (0 < size) × (size % 128 ≡ 0)
  pub divides : m * (8 * (size / m / 8)) ≡ size
  pub n_fits : (0 < 8 * (size / m / 8)) × (8 * (size / m / 8) % 32 ≡ 0)

pub good_parts : (size m : ℕ) → is_good size m ≡ true → Good size m
good_parts size m e =
    let one = both (nat_lt 0 size) (nat_eq (size % 128) 0 && (nat_lt 0 m && (nat_eq (size % m) 0 && nat_eq (size / m % 32) 0))) e in
    let two = both (nat_eq (size % 128) 0) (nat_lt 0 m && (nat_eq (size % m) 0 && nat_eq (size / m % 32) 0)) one.1 in
    let three = both (nat_lt 0 m) (nat_eq (size % m) 0 && nat_eq (size / m % 32) 0) two.1 in
    let four = both (nat_eq (size % m) 0) (nat_eq (size / m % 32) 0) three.1 in
    let some : 0 < size = positive size one.0 in
    let some_m : 0 < m = positive m three.0 in
    let whole : m * (size / m) + size % m ≡ size = div-add-mod size m in
    let none : size % m ≡ 0 = is_none (size % m) four.0 in
    let thirty_two : size / m % 32 ≡ 0 = is_none (size / m % 32) four.1 in
    let each : 0 < size / m = elim (cases_eq (size / m) 0) [
      | inl z ↦ absurd (omega (arith, some, whole, none, ap (λ (x : ℕ). m * x) z))
      | inr h ↦ omega (arith, h)
    ] in
    let eights : 8 * (size / m / 8) ≡ size / m = omega (arith, thirty_two) in
    let most : 1 * (size / m) ≤ m * (size / m) = mul-le 1 (size / m) m (size / m) some_m (omega arith) in
    record {
      some = some_m;
      groups = omega (arith, each, thirty_two);
      most = omega (arith, most, whole, none);
      size_fits = (some, is_none (size % 128) two.0);
      divides = ap (λ (x : ℕ). m * x) eights ∙ omega (arith, whole, none);
      n_fits = (omega (arith, eights, each), ap (λ (x : ℕ). x % 32) eights ∙ thirty_two);
    }

pub good_sizes : (size m : ℕ) → is_good size m ≡ true → (0 < m) × (0 < size / m / 8) × (8 * (size / m / 8) ≤ size)
good_sizes size m e = (let p = good_parts size m e in (p.some, p.groups, p.most))

pub record Starts (h : Head) (o : Out) (its : List (Result ℤ Error)) : Type 0 where
  pub items : its ≡ (numbers_of h).items
  pub taken : o.taken ≡ (numbers_of h).taken

first_number : (first : ℤ) → pos 0 +ℤ (first +ℤ pos 0) ≡ first
first_number first = omega (arith, ints)

pub starts : (h : Head) (standing left q : ℕ) → standing ≡ min h.count 1 → left ≡ h.count - standing → q ≡ h.size / h.miniblocks / 8 → Starts h (later_of false h.miniblocks q h.first [] left h.body) (item_list (pos 0) h.first [] 0 standing [] (later_of false h.miniblocks q h.first [] left h.body))
starts h standing left q one behind is = cases h.count refl
  where
    cases : (n : ℕ) → h.count ≡ n → Starts h (later_of false h.miniblocks q h.first [] left h.body) (item_list (pos 0) h.first [] 0 standing [] (later_of false h.miniblocks q h.first [] left h.body))
    cases zero e =
        let st : standing ≡ 0 = omega (arith, one, e) in
        let lf : left ≡ 0 = omega (arith, behind, e) in
        let none = none_wanted h.miniblocks q h.first [] h.body in
        rw (st, lf, none) (record { items = rw e refl; taken = rw e refl })
    cases (suc k) e =
        let st : standing ≡ 1 = omega (arith, one, e) in
        let lf : left ≡ k = omega (arith, behind, e, st) in
        let deltas : later_of false h.miniblocks q h.first [] left h.body ≡ deltas_of h k = rw (lf, is) (minis_end (blocks_at (length h.body) h.miniblocks (h.size / h.miniblocks / 8)) (h.size / h.miniblocks / 8) h.first k h.body) in
        rw (st, deltas) (record { items = rw e (ap (λ (z : ℤ). Ok (wrapped w64 z) ∷ stepped (wrapped w64 z) (deltas_of h k).items) (first_number h.first) ∙ running_steps h.first (deltas_of h k).items); taken = rw e refl })
