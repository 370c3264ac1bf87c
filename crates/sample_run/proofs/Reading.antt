-- The lists that are read of the sample's file.
use Rattle.std.proofs.Common.{◌≡◌, ℕ, ℤ, zero, suc, ◌+◌, ◌≤◌, ◌<◌, All, List, [], ◌∷◌, ◌++◌, length, map, flat_map, take, drop, get_or, Option, Some, None, refl, subst, sym, ap, ◌∙◌, arith}
use Rattle.std.specs.List.{AllByRecursion, range_with_len}
use Rattle.std.proofs.lemmas.Grind.{flat_map-append, take_at_read}
use Rattle.std.proofs.lemmas.List.{append-nil, length-drop, take-append-drop}
use Rattle.std.proofs.lemmas.List.Elements.{All-from_recursion}
use Rattle.std.proofs.lemmas.List.Folds.{length-flat_map-take}
use Rattle.std.proofs.lemmas.Simd.{map-map}
use Rattle.std.proofs.lemmas.List.{map-append}
use Rattle.shredding.specs.Cut.{cut, pieces}
use Rattle.shredding.specs.Slot.{Slots, slot_at}
use Rattle.columns_array.specs.Boxed.{all_boxed, boxed}
use Rattle.columns_array.specs.declared.arrays.ArrayBox.{ArrayBox}
use Rattle.columns_slots.specs.Slots.{count_arrays, slots, type_of}
use Rattle.columns_slots.specs.Tree.{ArrayTrees, no_arrays, more_arrays}
use Rattle.pq_headline.specs.Arrays.{array_at, seen_in}
use Rattle.pq_headline.specs.Rows.{Seen, field_slots, seen_from}
use Rattle.sample_rows.specs.Fields.{sample_fields}
use Rattle.sample_rows.proofs.Counted.{few_sampled}
use Rattle.sample_rows.specs.Present.{numbers_in, present}
use Rattle.sample_rows.specs.Rows.{each_row, items_slot, sample_row, sample_rows}
use Rattle.unique_rows.specs.Rewritten.{all_cut}
use Rattle.rewrite_whole.specs.Asks.{Gives}
use Rattle.rewrite_notes.specs.declared.report.Report.{Report}
use Rattle.rewrite_whole.specs.declared.rows_view.RowsView.{RowsView}
use Rattle.pq_tree.specs.declared.version.Version.TheVariants.{V2}
use Rattle.sample_run.proofs.Anew.{sample_read}
use Rattle.sample_run.specs.Files.{IsSampleFile, plain_codec, sample_asked, sample_pieces}
use Rattle.sample_run.specs.Items.{HasItems, lists_in}

-- ---- one chunk in memory
pub third_array : (bs : List ArrayBox) (cs : ArrayTrees) (d : ArrayBox) → all_boxed bs ≡ cs → HasItems cs → boxed (get_or bs 2 d) ≡ array_at 2 cs
third_array [] cs d e h = absurd (omega (arith, h.some, ap count_arrays (sym e)))
third_array (a ∷ []) cs d e h = absurd (omega (arith, h.some, ap count_arrays (sym e)))
third_array (a ∷ b ∷ []) cs d e h = absurd (omega (arith, h.some, ap count_arrays (sym e)))
third_array (a ∷ b ∷ c ∷ bs) cs d e h = ap (array_at 2) e

pub third_there : (bs : List ArrayBox) (cs : ArrayTrees) → all_boxed bs ≡ cs → HasItems cs → 2 < length bs
third_there [] cs e h = absurd (omega (arith, h.some, ap count_arrays (sym e)))
third_there (a ∷ []) cs e h = absurd (omega (arith, h.some, ap count_arrays (sym e)))
third_there (a ∷ b ∷ []) cs e h = absurd (omega (arith, h.some, ap count_arrays (sym e)))
third_there (a ∷ b ∷ c ∷ bs) cs e h = omega arith

-- ---- what was shown
abbrev third_of : Seen → List Seen → Seen
third_of d (a ∷ b ∷ c ∷ ss) = c
third_of d _ = d

shown_has : (cs : ArrayTrees) (p : List Slots) → seen_in cs ≡ seen_from 0 sample_fields p → HasItems cs × (lists_in cs ≡ field_slots 2 p)
shown_has no_arrays p e = absurd (cc e)
shown_has (more_arrays a no_arrays) p e = absurd (omega (arith, ap length e))
shown_has (more_arrays a (more_arrays b no_arrays)) p e = absurd (omega (arith, ap length e))
shown_has (more_arrays a (more_arrays b (more_arrays c cs))) p e =
    let d : Seen = record { type = type_of c; slots = slots c } in (
      record { some = omega arith; typed = ap (λ ss. (third_of d ss).type) e },
      ap (λ ss. (third_of d ss).slots) e,
    )

abbrev rest_of : {A : Type 0} → List A → List A
rest_of [] = []
rest_of (x ∷ xs) = xs

abbrev front_of : {A : Type 0} → A → List A → A
front_of d [] = d
front_of d (x ∷ xs) = x

all_shown : (chunks : List ArrayTrees) (ps : List (List Slots)) → map seen_in chunks ≡ map (seen_from 0 sample_fields) ps → AllByRecursion HasItems chunks × (flat_map lists_in chunks ≡ flat_map (field_slots 2) ps)
all_shown [] [] e = (tt, refl)
all_shown [] (p ∷ ps) e = absurd (omega (arith, ap length e))
all_shown (c ∷ cs) [] e = absurd (omega (arith, ap length e))
all_shown (c ∷ cs) (p ∷ ps) e =
    let first = shown_has c p (ap (front_of (seen_in c)) e) in
    let others = all_shown cs ps (ap rest_of e) in
    ((first.0, others.0), ap (λ xs. xs ++ flat_map lists_in cs) first.1 ∙ ap (λ xs. field_slots 2 p ++ xs) others.1)

-- ---- pieces of pieces are all rows
pieces_joined : (fuel n : ℕ) (rows : List Slots) → 0 < n → length rows ≤ fuel → flat_map (λ piece. piece) (pieces fuel n rows) ≡ rows
pieces_joined zero n [] p l = refl
pieces_joined zero n (row ∷ rows) p l = absurd (omega (arith, l))
pieces_joined (suc fuel) n [] p l = refl
pieces_joined (suc fuel) n (row ∷ rows) p l =
    ap (λ rest. take n (row ∷ rows) ++ rest) (pieces_joined fuel n (drop n (row ∷ rows)) p (omega (arith, length-drop n (row ∷ rows), l))) ∙ take-append-drop n (row ∷ rows)

cut_joined : (rowss : List (List Slots)) → flat_map (λ piece. piece) (all_cut sample_asked rowss) ≡ flat_map (λ rows. rows) rowss
cut_joined [] = refl
cut_joined (r ∷ rs) =
    flat_map-append (λ piece. piece) (cut r (Some 1000)) (all_cut sample_asked rs) ∙ ap (λ xs. xs ++ flat_map (λ piece. piece) (all_cut sample_asked rs)) (pieces_joined (length r) 1000 r (omega arith) (omega arith))
    ∙ ap (λ xs. r ++ xs) (cut_joined rs)

slots_joined : (ps : List (List Slots)) → flat_map (field_slots 2) ps ≡ field_slots 2 (flat_map (λ piece. piece) ps)
slots_joined [] = refl
slots_joined (p ∷ ps) = ap (λ xs. field_slots 2 p ++ xs) (slots_joined ps) ∙ sym (map-append (λ slots. slot_at slots 2) p (flat_map (λ piece. piece) ps))

pub lists_read : (n : ℕ) (chunks : List ArrayTrees) → map seen_in chunks ≡ map (seen_from 0 sample_fields) (all_cut sample_asked (sample_pieces n)) → All HasItems chunks × (flat_map lists_in chunks ≡ each_row items_slot n)
lists_read n chunks e =
    let all = all_shown chunks (all_cut sample_asked (sample_pieces n)) e in
    let rows : flat_map (λ piece. piece) (all_cut sample_asked (sample_pieces n)) ≡ sample_rows n = cut_joined (sample_pieces n) ∙ pieces_joined (length (sample_rows n)) 1000 (sample_rows n) (omega arith) (omega arith) in (
      All-from_recursion HasItems chunks all.0,
      all.1 ∙ slots_joined (all_cut sample_asked (sample_pieces n)) ∙ ap (field_slots 2) rows ∙ map-map (λ slots. slot_at slots 2) sample_row (range_with_len 0 n),
    )

-- ---- counted piece by piece
abbrev pub present_in : ArrayTrees → List ℤ
present_in cs = present (lists_in cs)

present_joined : (xs : List ArrayTrees) → flat_map present_in xs ≡ present (flat_map lists_in xs)
present_joined [] = refl
present_joined (x ∷ xs) = ap (λ r. present_in x ++ r) (present_joined xs) ∙ sym (flat_map-append numbers_in (lists_in x) (flat_map lists_in xs))

pub all_present : (xs : List ArrayTrees) (n : ℕ) → flat_map lists_in xs ≡ each_row items_slot n → flat_map present_in xs ≡ present (each_row items_slot n)
all_present xs n e = present_joined xs ∙ ap present e

pub room_left : (xs : List ArrayTrees) (n k : ℕ) (d : ArrayTrees) → n ≤ 1000000 → flat_map lists_in xs ≡ each_row items_slot n → k < length xs
    → length (flat_map present_in (take k xs)) + length (present_in (get_or xs k d)) ≤ 3000000
room_left xs n k d h e l = omega (arith, length-flat_map-take present_in xs k d l, ap length (all_present xs n e), few_sampled n, h)

pub one_more : (xs : List ArrayTrees) (k : ℕ) (d : ArrayTrees) → k < length xs → flat_map present_in (take (k + 1) xs) ≡ flat_map present_in (take k xs) ++ present_in (get_or xs k d)
one_more xs k d l =
    ap (flat_map present_in) (take_at_read xs k d l).1 ∙ flat_map-append present_in (take k xs) (get_or xs k d ∷ []) ∙ ap (λ r. flat_map present_in (take k xs) ++ r) (append-nil (present_in (get_or xs k d)))

-- ---- what the view was shown
some_or : {A : Type 0} → A → Option A → A
some_or d None = d
some_or d (Some x) = x

pub shown_are :
    (n : ℕ) (input : List ℕ) (old new : RowsView) (chunks : List ArrayTrees) (output : List ℕ) (report : Report)
    → old.chunks.items ≡ [] → chunks ≡ new.chunks.items → IsSampleFile V2 (sample_pieces n) input
    → Gives plain_codec sample_asked (Some (map seen_in old.chunks.items)) (Some (map seen_in new.chunks.items)) input output report
    → map seen_in chunks ≡ map (seen_from 0 sample_fields) (all_cut sample_asked (sample_pieces n))
unfolding some_or
shown_are n input old new chunks output report e p f g =
    let from : Gives plain_codec sample_asked (Some []) (Some (map seen_in new.chunks.items)) input output report =
    subst (λ cs. Gives plain_codec sample_asked (Some (map seen_in cs)) (Some (map seen_in new.chunks.items)) input output report) e g in
    ap (map seen_in) p ∙ ap (some_or []) (sample_read n input output report (Some (map seen_in new.chunks.items)) f from)
