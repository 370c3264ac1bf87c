-- Lists one behind another, and the offsets between them.
use Rattle.std.proofs.Common.{◌≡◌, ℕ, suc, ℤ, pos, Bool, ◌+◌, ◌-◌, ◌≤◌, List, [], ◌∷◌, ◌++◌, length, map, take, drop, flat_map, sum, zero-add, refl, ap, sym, subst, ◌∙◌, arith}
use Rattle.std.proofs.lemmas.List.{length-append, append_assoc, flat_map_more, map-append}
use Rattle.std.proofs.lemmas.List.Concat.{length-flat_map}
use Rattle.std.proofs.lemmas.List.FromFn.{length-map-range_with_len}
use Rattle.std.proofs.lemmas.List.Sums.{sum-map, sum_by-cons}
use Rattle.std.proofs.Math.Seq.{drop-append_seam, take-append_seam}
use Rattle.columns_core.specs.Rising.{last_place, places_from}
use Rattle.columns_core.proofs.Places.{last_push, places_more}
use Rattle.columns_slots.specs.Bytes.{pieces}
use Rattle.columns_slots.specs.Slots.{AreUpTo, IsPlaces}
use Rattle.sample_rows.specs.Parts.{AreItems, AreStrung, is_kept, item_count, item_marks, item_numbers}
use Rattle.sample_rows.specs.Rows.{each_row}
use Rattle.sample_rows.proofs.Tables.{row_more}

-- the lengths together
pub total_length : {A : Type 0} (parts : List (List A)) → sum (map length parts) ≡ length (flat_map (λ part. part) parts)
total_length parts = sum-map length parts ∙ sym (length-flat_map (λ part. part) parts)

pub strung_none : {A : Type 0} → AreStrung {A = A} [] (0 ∷ []) []
strung_none = record { offsets_are = refl; all_are = refl; last = refl }

pub strung_more :
    {A : Type 0} (parts : List (List A)) (os : List ℕ) (xs part : List A)
    → AreStrung parts os xs → AreStrung (parts ++ part ∷ []) (os ++ (last_place os + length part) ∷ []) (xs ++ part)
strung_more parts os xs part h =
    let t : last_place os ≡ sum (map length parts) = h.last ∙ ap length h.all_are ∙ sym (total_length parts) in
    record {
      offsets_are = rw (t, h.offsets_are, map-append length parts (part ∷ []), places_more 0 (length part) (map length parts), zero-add (sum (map length parts))) refl;
      all_are = rw h.all_are (flat_map_more (λ p. p) [] parts part);
      last = last_push os (last_place os + length part) ∙ rw h.last (sym (length-append xs part));
    }

pieces_from : (parts : List (List ℕ)) (before : List ℕ) (o : ℕ) → o ≡ length before → pieces (o ∷ places_from o (map length parts)) (before ++ flat_map (λ part. part) parts) ≡ parts
pieces_from [] before o e = refl
pieces_from (p ∷ ps) before o e =
    let l : o + length p ≡ length (before ++ p) = omega (arith, e, length-append before p) in
    let d : o + length p - o ≡ length p = omega arith in
    let a : before ++ (p ++ flat_map (λ part. part) ps) ≡ (before ++ p) ++ flat_map (λ part. part) ps = sym (append_assoc before p (flat_map (λ part. part) ps)) in
    let here : take (o + length p - o) (drop o (before ++ (p ++ flat_map (λ part. part) ps))) ≡ p =
    rw (d, e, drop-append_seam before (p ++ flat_map (λ part. part) ps)) (take-append_seam p (flat_map (λ part. part) ps)) in
    rw here (ap (λ r. p ∷ r) (rw a (pieces_from ps (before ++ p) (o + length p) l)))

pub strung_pieces : (parts : List (List ℕ)) (os bs : List ℕ) → AreStrung parts os bs → pieces os bs ≡ parts
strung_pieces parts os bs h = rw (h.offsets_are, h.all_are) (pieces_from parts [] 0 refl)

places_up : (o : ℕ) (ns : List ℕ) (u : ℕ) → o + sum ns ≤ u → AreUpTo o (places_from o ns) u
places_up o [] u h = omega (arith, h)
places_up o (n ∷ ns) u h = (omega arith, places_up (o + n) ns u (omega (arith, h, sum_by-cons (λ (x : ℕ). x) n ns)))

pub length-places : (o : ℕ) (ns : List ℕ) → length (places_from o ns) ≡ length ns
length-places o [] = refl
length-places o (n ∷ ns) = ap suc (length-places (o + n) ns)

pub strung_places : {A : Type 0} (parts : List (List A)) (os : List ℕ) (xs : List A) → AreStrung parts os xs → IsPlaces os (length xs)
strung_places parts os xs h = rw h.offsets_are (places_up 0 (map length parts) (length xs) (omega (arith, total_length parts, ap length h.all_are)))

-- one row more
pub row_strung :
    {A : Type 0} (at : ℕ → List A) (i : ℕ) (os : List ℕ) (xs part : List A)
    → AreStrung (each_row at i) os xs → part ≡ at i → AreStrung (each_row at (i + 1)) (os ++ (last_place os + length part) ∷ []) (xs ++ part)
row_strung at i os xs part h e =
    subst (λ parts. AreStrung parts (os ++ (last_place os + length part) ∷ []) (xs ++ part)) (row_more at i (each_row at i) refl part e) (strung_more (each_row at i) os xs part h)

-- the items of one row more
pub rows_more :
    (row : ℕ) (os : List ℕ) (xs : List ℤ) (ms : List Bool) (count : ℕ)
    → AreItems row os xs ms → count ≡ item_count row → count ≤ 3 → AreItems (row + 1) (os ++ (last_place os + count) ∷ []) (xs ++ item_numbers row) (ms ++ item_marks row)
rows_more row os xs ms count h e l =
    let a : length (item_numbers row) ≡ count = length-map-range_with_len pos row (item_count row) ∙ sym e in
    let b : length (item_marks row) ≡ count = length-map-range_with_len is_kept row (item_count row) ∙ sym e in
    let after : ℕ → List ℕ = λ n. os ++ (last_place os + n) ∷ [] in
    record {
      numbers_are = subst (λ n. AreStrung (each_row item_numbers (row + 1)) (after n) (xs ++ item_numbers row)) a (row_strung item_numbers row os xs (item_numbers row) h.numbers_are refl);
      marks_are = subst (λ n. AreStrung (each_row item_marks (row + 1)) (after n) (ms ++ item_marks row)) b (row_strung item_marks row os ms (item_marks row) h.marks_are refl);
      few = omega (arith, last_push os (last_place os + count), l, h.few);
    }

pub no_rows : AreItems 0 (0 ∷ []) [] []
no_rows = record { numbers_are = strung_none; marks_are = strung_none; few = omega arith }
