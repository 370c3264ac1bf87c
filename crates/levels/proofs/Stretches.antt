-- Stretches, part by part.
use Rattle.std.proofs.Common.{◌≡◌, ℕ, zero, suc, ◌+◌, ◌-◌, ◌<◌, ◌≤◌, Bool, true, false, cond, Option, List, [], ◌∷◌, ◌++◌, length, map, replicate, refl, arith, ap, sym, ◌∙◌, Bor, append-nil}
use Rattle.std.proofs.lemmas.List.{map-append}
use Rattle.shredding.specs.Parts.{Part, leaf_part, list_part, struct_part, is_present, item_start, item_count, item_span, IsPath, FitsAbove, FitTogether, path_way}
use Rattle.shredding.specs.Shred.{up, max_definition}
use Rattle.levels.specs.declared.nested.Nested.{Nested}
use Rattle.levels.specs.declared.walk.Level.{Level}
use Rattle.levels.specs.declared.walk.Level.TheVariants.{Repetition, Definition}
use Rattle.levels.specs.declared.walk.Stretch.TheVariants.{Ends, Below, Items}
use Rattle.levels.specs.Nested.{parts_of}
use Rattle.levels.specs.Levels.{run, run_or, one_pair, slot_pairs, bit}
use Rattle.levels.specs.Stretch.{level_of, like_pairs, StretchFits, IsStretch, AreAlike, AreFull}
use Rattle.levels.proofs.Runs.{run_or-none, run_or-some, run-more, run-none, run-split}

run-alike : {A : Type 0} (piece other : ℕ → ℕ → List A) (first others place count : ℕ) → ((rep i : ℕ) → place ≤ i → i < place + count → piece rep i ≡ other rep i) → run piece first others place count ≡ run other first others place count
unfolding run
run-alike piece other first others place zero same = refl
run-alike piece other first others place (suc count) same =
    ap (λ xs. xs ++ run piece others others (place + 1) count) (same first place (omega arith) (omega arith))
    ∙ ap (λ xs. other first place ++ xs) (run-alike piece other others others (place + 1) count (λ rep i low high. same rep i (omega (arith, low)) (omega (arith, high))))

run-others : (piece : ℕ → ℕ → List (ℕ × ℕ)) (depth def place count : ℕ) → ((rep i : ℕ) → place ≤ i → i < place + count → piece rep i ≡ one_pair rep def) → run piece depth depth place count ≡ replicate count (depth, def)
unfolding run
run-others piece depth def place zero same = refl
run-others piece depth def place (suc count) same =
    ap (λ xs. xs ++ run piece depth depth (place + 1) count) (same depth place (omega arith) (omega arith))
    ∙ ap (λ xs. (depth, def) ∷ xs) (run-others piece depth def (place + 1) count (λ rep i low high. same rep i (omega (arith, low)) (omega (arith, high))))

run-like : (piece : ℕ → ℕ → List (ℕ × ℕ)) (rep depth def place count : ℕ) → ((rep i : ℕ) → place ≤ i → i < place + count → piece rep i ≡ one_pair rep def) → run piece rep depth place count ≡ like_pairs rep depth def count
unfolding run like_pairs
run-like piece rep depth def place zero same = refl
run-like piece rep depth def place (suc count) same =
    ap (λ xs. xs ++ run piece depth depth (place + 1) count) (same rep place (omega arith) (omega arith))
    ∙ ap (λ xs. (rep, def) ∷ xs) (run-others piece depth def (place + 1) count (λ r i low high. same r i (omega (arith, low)) (omega (arith, high))))

up_to_one : (is_optional : Bool) (up : ℕ) → up ≡ bit is_optional → up ≤ 1
up_to_one true up u = omega (arith, u)
up_to_one false up u = omega (arith, u)

up-most : (is_optional : Bool) (n d : ℕ) → n ≡ bit is_optional → d + n ≤ up is_optional d
up-most true n d u = omega (arith, u)
up-most false n d u = omega (arith, u)

module _ (level : Level) (is_optional : Bool) (mask : Option (List Bool)) (count place last end : ℕ) where
  pub null_leaves : (parts : List Part) (n : ℕ) → AreAlike (λ i. is_present is_optional mask i) false place end → place < end → end ≤ last → IsStretch level (leaf_part is_optional mask count ∷ parts) n place last (Ends 0 end)
  unfolding slot_pairs
  null_leaves parts n alike some within = record {
    fits = (some, within, omega arith, omega arith);
    levels = λ def depth rep. ap (map (level_of level)) (run-like _ rep depth (def + 0) place (end - place) (λ r i low high. rw (alike i low (omega (arith, high, some))) (ap (one_pair r) (omega arith))));
  }

  pub full_leaves : (parts : List Part) (n up' : ℕ) → AreAlike (λ i. is_present is_optional mask i) true place end → up' ≡ bit is_optional → place < end → end ≤ last → IsStretch level (leaf_part is_optional mask count ∷ parts) n place last (Ends up' end)
  unfolding slot_pairs
  full_leaves parts n up' alike u some within = record {
    fits = (some, within, up_to_one is_optional up' u, omega (arith, up-most is_optional up' 0 u));
    levels = λ def depth rep. ap (map (level_of level)) (run-like _ rep depth (def + up') place (end - place) (λ r i low high. rw (alike i low (omega (arith, high, some)), u) refl));
  }

  pub null_structs : (parts : List Part) (n : ℕ) → AreAlike (λ i. is_present is_optional mask i) false place end → place < end → end ≤ last → IsStretch level (struct_part is_optional mask count ∷ parts) n place last (Ends 0 end)
  unfolding slot_pairs
  null_structs parts n alike some within = record {
    fits = (some, within, omega arith, omega arith);
    levels = λ def depth rep. ap (map (level_of level)) (run-like _ rep depth (def + 0) place (end - place) (λ r i low high. rw (alike i low (omega (arith, high, some))) (ap (one_pair r) (omega arith))));
  }

  pub full_structs : (rest : Bor (List Nested)) (n up' : ℕ) → AreAlike (λ i. is_present is_optional mask i) true place end → up' ≡ bit is_optional → n ≡ length rest.now + 1 → IsPath (struct_part is_optional mask count ∷ parts_of rest.now) → place < end → end ≤ last → last ≤ count → IsStretch level (struct_part is_optional mask count ∷ parts_of rest.now) n place last (Below rest up' end)
  unfolding slot_pairs
  full_structs rest n up' alike u l h some within whole = record {
    fits = (some, within, up_to_one is_optional up' u, record { well = record { some = h.fits.0.2; fits = h.fits.1 }; one_less = sym l; repetition = omega arith; definition = up-most is_optional up' (max_definition (path_way (parts_of rest.now))) u }, omega (arith, h.fits.0.1, within, whole));
    levels = λ def depth rep. ap (map (level_of level)) (run-alike _ _ rep depth place (end - place) (λ r i low high. rw (alike i low (omega (arith, high, some)), u) refl));
  }

module _ (level : Level) (is_optional : Bool) (mask : Option (List Bool)) (offsets : List ℕ) (place last : ℕ) where
  pub null_lists : (parts : List Part) (n end : ℕ) (there : Bool) → is_present is_optional mask place ≡ false → AreAlike (λ i. is_present is_optional mask i) there place end → place < end → end ≤ last → IsStretch level (list_part is_optional mask offsets ∷ parts) n place last (Ends 0 end)
  unfolding slot_pairs
  null_lists parts n end there here alike some within =
      let none : there ≡ false = sym (alike place (omega arith) some) ∙ here in
      record {
        fits = (some, within, omega arith, omega arith);
        levels = λ def depth rep. ap (map (level_of level)) (run-like _ rep depth (def + 0) place (end - place) (λ r i low high. rw (alike i low (omega (arith, high, some)), none) (ap (one_pair r) (omega arith))));
      }

  pub empty_lists : (parts : List Part) (n up' : ℕ) → is_present is_optional mask place ≡ true → up' ≡ bit is_optional → item_count offsets place ≡ 0 → place < last → IsStretch level (list_part is_optional mask offsets ∷ parts) n place last (Ends up' (place + 1))
  unfolding slot_pairs
  empty_lists parts n up' e u none some = record {
    fits = (omega arith, omega arith, up_to_one is_optional up' u, omega (arith, up-most is_optional up' (suc (max_definition (path_way parts))) u));
    levels = λ def depth rep. ap (map (level_of level)) (run-like _ rep depth (def + up') place (place + 1 - place) (λ r i low high.
        let at : i ≡ place = omega (arith, low, high) in
        rw (at, e, u) (run_or-none _ _ _ _ _ _ none)));
  }

-- ---- the repetition levels of a leaf

cond_first : (b : Bool) (r x y : ℕ) → map (level_of Repetition) (cond b (one_pair r x) (one_pair r y)) ≡ r ∷ []
cond_first true r x y = refl
cond_first false r x y = refl

firsts : (piece : ℕ → ℕ → List (ℕ × ℕ)) (depth def place count : ℕ) → ((rep i : ℕ) → map (level_of Repetition) (piece rep i) ≡ rep ∷ []) → map (level_of Repetition) (run piece depth depth place count) ≡ map (level_of Repetition) (replicate count (depth, def))
unfolding run
firsts piece depth def place zero same = refl
firsts piece depth def place (suc count) same =
    map-append (level_of Repetition) (piece depth place) (run piece depth depth (place + 1) count)
    ∙ (ap (λ xs. xs ++ map (level_of Repetition) (run piece depth depth (place + 1) count)) (same depth place)
    ∙ ap (λ xs. depth ∷ xs) (firsts piece depth def (place + 1) count same))

pub first_and_others : (piece : ℕ → ℕ → List (ℕ × ℕ)) (rep depth def place count : ℕ) → ((rep i : ℕ) → map (level_of Repetition) (piece rep i) ≡ rep ∷ []) → map (level_of Repetition) (run piece rep depth place count) ≡ map (level_of Repetition) (like_pairs rep depth def count)
unfolding run like_pairs
first_and_others piece rep depth def place zero same = refl
first_and_others piece rep depth def place (suc count) same =
    map-append (level_of Repetition) (piece rep place) (run piece depth depth (place + 1) count)
    ∙ (ap (λ xs. xs ++ map (level_of Repetition) (run piece depth depth (place + 1) count)) (same rep place)
    ∙ ap (λ xs. rep ∷ xs) (firsts piece depth def (place + 1) count same))

pub any_leaves : (is_optional : Bool) (mask : Option (List Bool)) (count place last : ℕ) (level : Level) (parts : List Part) (n : ℕ) → level ≡ Repetition → place < last → IsStretch level (leaf_part is_optional mask count ∷ parts) n place last (Ends 0 last)
unfolding slot_pairs
any_leaves is_optional mask count place last level parts n e some = rw e (record {
  fits = (some, omega arith, omega arith, omega arith);
  levels = λ def depth rep. first_and_others _ rep depth (def + 0) place (last - place) (λ r i. cond_first (is_present is_optional mask i) r (def + bit is_optional) def);
})

-- ---- the definition levels of lists in a row

abbrev seconds : List (ℕ × ℕ) → List ℕ
seconds = map (level_of Definition)

cond_seconds : (b : Bool) (xs xs' ys ys' : List (ℕ × ℕ)) → seconds xs ≡ seconds xs' → seconds ys ≡ seconds ys' → seconds (cond b xs ys) ≡ seconds (cond b xs' ys')
cond_seconds true xs xs' ys ys' e f = e
cond_seconds false xs xs' ys ys' e f = f

run-free : (piece : ℕ → ℕ → List (ℕ × ℕ)) → ((r r' i : ℕ) → seconds (piece r i) ≡ seconds (piece r' i)) → (first first' others place count : ℕ) → seconds (run piece first others place count) ≡ seconds (run piece first' others place count)
unfolding run
run-free piece free first first' others place zero = refl
run-free piece free first first' others place (suc count) =
    map-append (level_of Definition) (piece first place) (run piece others others (place + 1) count)
    ∙ (ap (λ xs. xs ++ seconds (run piece others others (place + 1) count)) (free first first' place)
    ∙ sym (map-append (level_of Definition) (piece first' place) (run piece others others (place + 1) count)))

run_or-free : (piece : ℕ → ℕ → List (ℕ × ℕ)) → ((r r' i : ℕ) → seconds (piece r i) ≡ seconds (piece r' i)) → (first first' def others place count : ℕ) → seconds (run_or (first, def) piece first others place count) ≡ seconds (run_or (first', def) piece first' others place count)
unfolding run_or
run_or-free piece free first first' def others place zero = refl
run_or-free piece free first first' def others place (suc count) = run-free piece free first first' others place (suc count)

-- definition levels do not depend on the repetition level in front
pub rep-free : (parts : List Part) (def depth r r' i : ℕ) → seconds (slot_pairs parts def depth r i) ≡ seconds (slot_pairs parts def depth r' i)
unfolding slot_pairs
rep-free [] def depth r r' i = refl
rep-free (leaf_part is_optional mask count ∷ parts) def depth r r' i = cond_seconds (is_present is_optional mask i) _ _ _ _ refl refl
rep-free (list_part is_optional mask offsets ∷ parts) def depth r r' i =
    cond_seconds (is_present is_optional mask i) _ _ _ _
    (run_or-free (slot_pairs parts (def + bit is_optional + 1) (depth + 1)) (rep-free parts (def + bit is_optional + 1) (depth + 1)) r r' (def + bit is_optional) (depth + 1) (item_start offsets i) (item_count offsets i)) refl
rep-free (struct_part is_optional mask count ∷ parts) def depth r r' i =
    cond_seconds (is_present is_optional mask i) _ _ _ _ (rep-free parts (def + bit is_optional) depth r r' i) refl

module _ (is_optional : Bool) (mask : Option (List Bool)) (offsets : List ℕ) (parts : List Part) where
  abbrev items_of : ℕ → ℕ → ℕ → ℕ → List (ℕ × ℕ)
  items_of def depth = slot_pairs parts (def + bit is_optional + 1) (depth + 1)

  abbrev lists_of : ℕ → ℕ → ℕ → ℕ → List (ℕ × ℕ)
  lists_of def depth = slot_pairs (list_part is_optional mask offsets ∷ parts) def depth

  pub one_list : (def depth rep i : ℕ) → is_present is_optional mask i ≡ true → item_start offsets i < item_start offsets (i + 1) → lists_of def depth rep i ≡ run (items_of def depth) rep (depth + 1) (item_start offsets i) (item_start offsets (i + 1) - item_start offsets i)
  unfolding slot_pairs
  one_list def depth rep i e some = rw e (run_or-some _ _ _ _ _ _ (omega (arith, some)))

  chain : (n place end : ℕ) → place + n ≡ end → AreFull is_optional mask offsets place end → item_start offsets place ≤ item_start offsets end
  chain zero place end e full = let same : place ≡ end = omega (arith, e) in rw same (omega arith)
  chain (suc n) place end e full =
      let here = (full place (omega arith) (omega (arith, e))).1 in
      let more = chain n (place + 1) end (omega (arith, e)) (λ i low high. full i (omega (arith, low)) high) in
      omega (arith, here, more)

  in_a_row : (n place end def depth rep : ℕ) → place + n ≡ end → AreFull is_optional mask offsets place end → seconds (run (lists_of def depth) rep depth place n) ≡ seconds (run (items_of def depth) rep (depth + 1) (item_start offsets place) (item_start offsets end - item_start offsets place))
  unfolding run
  in_a_row zero place end def depth rep e full =
      let same : place ≡ end = omega (arith, e) in
      let none : item_start offsets end - item_start offsets place ≡ 0 = rw same (omega arith) in
      rw none refl
  in_a_row (suc n) place end def depth rep e full =
      let here = full place (omega arith) (omega (arith, e)) in
      let later : AreFull is_optional mask offsets (place + 1) end = λ i low high. full i (omega (arith, low)) high in
      let next : place + 1 + n ≡ end = omega (arith, e) in
      let piece = items_of def depth in
      let s = item_start offsets place in
      let m = item_start offsets (place + 1) in
      let t = item_start offsets end in
      map-append (level_of Definition) (lists_of def depth rep place) (run (lists_of def depth) depth depth (place + 1) n)
      ∙ (ap (λ xs. seconds xs ++ seconds (run (lists_of def depth) depth depth (place + 1) n)) (one_list def depth rep place here.0 here.1)
      ∙ (ap (λ xs. seconds (run piece rep (depth + 1) s (m - s)) ++ xs)
      (in_a_row n (place + 1) end def depth depth next later ∙ run-free piece (rep-free parts (def + bit is_optional + 1) (depth + 1)) depth (depth + 1) (depth + 1) m (t - m))
      ∙ (sym (map-append (level_of Definition) (run piece rep (depth + 1) s (m - s)) (run piece (depth + 1) (depth + 1) m (t - m)))
      ∙ ap seconds (sym (run-split piece rep (depth + 1) s m t here.1 (chain n (place + 1) end next later))))))

-- what a stretch of lists with items needs beside its levels
module _ (level : Level) (is_optional : Bool) (mask : Option (List Bool)) (offsets : List ℕ) (place last end : ℕ) (rest : Bor (List Nested)) (up' from to : ℕ) where
  items_fit : up' ≡ bit is_optional + 1 → from ≡ item_start offsets place → to ≡ item_start offsets end → AreFull is_optional mask offsets place end → place < end → end ≤ last → to ≤ item_span offsets → FitsAbove (list_part is_optional mask offsets) (parts_of rest.now) → FitTogether (parts_of rest.now) → StretchFits (list_part is_optional mask offsets ∷ parts_of rest.now) (length rest.now + 1) place last (Items rest up' from to end)
  items_fit u f t full some ends within h beneath =
      let low = up-most is_optional (bit is_optional) (suc (max_definition (path_way (parts_of rest.now)))) refl in
      let one = up_to_one is_optional (bit is_optional) refl in
      let here = (full place (omega arith) some).1 in
      let more = chain is_optional mask offsets (parts_of rest.now) (end - (place + 1)) (place + 1) end (omega (arith, some)) (λ i l m. full i (omega (arith, l)) m) in
      (some, ends, omega (arith, f, t, here, more), omega (arith, u, one), record { well = record { some = h.2; fits = beneath }; one_less = refl; repetition = omega arith; definition = omega (arith, u, low) }, omega (arith, h.1, within))

  pub many_lists : level ≡ Definition → up' ≡ bit is_optional + 1 → from ≡ item_start offsets place → to ≡ item_start offsets end → AreFull is_optional mask offsets place end → place < end → end ≤ last → to ≤ item_span offsets → FitsAbove (list_part is_optional mask offsets) (parts_of rest.now) → FitTogether (parts_of rest.now) → IsStretch level (list_part is_optional mask offsets ∷ parts_of rest.now) (length rest.now + 1) place last (Items rest up' from to end)
  many_lists e u f t full some ends within h beneath = record {
    fits = items_fit u f t full some ends within h beneath;
    levels = λ def depth rep.
        let d : def + up' ≡ def + bit is_optional + 1 = omega (arith, u) in
        rw (e, d, f, t) (in_a_row is_optional mask offsets (parts_of rest.now) (end - place) place end def depth rep (omega (arith, some)) full);
  }

  pub first_list : end ≡ place + 1 → up' ≡ bit is_optional + 1 → from ≡ item_start offsets place → to ≡ item_start offsets end → AreFull is_optional mask offsets place end → place < end → end ≤ last → to ≤ item_span offsets → FitsAbove (list_part is_optional mask offsets) (parts_of rest.now) → FitTogether (parts_of rest.now) → IsStretch level (list_part is_optional mask offsets ∷ parts_of rest.now) (length rest.now + 1) place last (Items rest up' from to end)
  first_list e u f t full some ends within h beneath = record {
    fits = items_fit u f t full some ends within h beneath;
    levels = λ def depth rep.
        let d : def + up' ≡ def + bit is_optional + 1 = omega (arith, u) in
        let here = full place (omega arith) some in
        let piece = slot_pairs (list_part is_optional mask offsets ∷ parts_of rest.now) def depth in
        ap (map (level_of level)) (
        run-more piece rep depth place (end - place) 0 (omega (arith, e))
        ∙ (ap (λ t. piece rep place ++ t) (run-none piece depth depth (place + 1) 0 refl)
        ∙ (append-nil (piece rep place) ∙ rw (d, f, t, e) (one_list is_optional mask offsets (parts_of rest.now) def depth rep place here.0 here.1)))
        );
  }
