-- A walk along a path that cuts one part after another.
use Rattle.std.proofs.Common.{◌≡◌, ℕ, zero, suc, ◌+◌, ◌≤◌, ◌<◌, List, [], ◌∷◌, ◌++◌, length, take, drop, map, set, get_or, length-drop, append_assoc, refl, ap, sym, subst, ◌∙◌, arith}
use Rattle.std.proofs.lemmas.List.{drop_more, take_more_set, drop-set-lt, length-set, length-map, map-set, take_all, drop_all, append-nil}
use Rattle.shredding.specs.Parts.{Part, leaf_part, list_part, struct_part, MaskFits, slot_count}
use Rattle.levels.specs.declared.nested.Nested.{Nested}
use Rattle.levels.specs.Nested.{part_of, parts_of, is_large}
use Rattle.levels.specs.InBounds.{ReachesInto, AreWithin}
use Rattle.nested_slice.specs.CutPath.{cut_part, first_beneath, count_beneath, cut_parts, leaf_rows, part_mask, Rises, AreRising}
use Rattle.nested_slice.proofs.Paths.{rows_beneath}

-- the parts from i on are not cut yet, and are to be cut to count rows from row first on
pub record IsLeft (now old : List Part) (i first count o n : ℕ) : Type 0 where
  pub within : AreWithin (drop i now)
  pub rows : i < length now → first + count ≤ slot_count (drop i now)
  pub cut : take i now ++ cut_parts (drop i now) first count ≡ cut_parts old o n
  pub leaf : leaf_rows (drop i now) first count ≡ leaf_rows old o n
  pub rises : AreRising (drop i now) → AreRising old

pub left_first : (old : List Part) (o n : ℕ) → AreWithin old → o + n ≤ slot_count old → IsLeft old old 0 o n o n
left_first old o n w h = record { within = w; rows = λ _. h; cut = refl; leaf = refl; rises = λ r. r }

count_one : (p : Part) (ps : List Part) → slot_count (p ∷ ps) ≡ slot_count (p ∷ [])
count_one (leaf_part b m k) ps = refl
count_one (list_part b m os) ps = refl
count_one (struct_part b m k) ps = refl

mask_here : (p : Part) (ps : List Part) → ReachesInto p ps → MaskFits (part_mask p) (slot_count (p ∷ []))
mask_here (leaf_part b m k) ps w = w.0
mask_here (list_part b m os) ps w = w.0
mask_here (struct_part b m k) ps w = w.0

rows_next : (p : Part) (ps : List Part) (o n : ℕ) → ReachesInto p ps → Rises p → o + n ≤ slot_count (p ∷ ps) → 0 < length ps → first_beneath p o + count_beneath p o n ≤ slot_count ps
rows_next (leaf_part b m k) ps o n w r h l = absurd (omega (arith, w.1, l))
rows_next (list_part b m os) ps o n w r h l = rows_beneath os o n (slot_count ps) r w.1 h
rows_next (struct_part b m k) ps o n w r h l = omega (arith, w.1, h)

-- the parts from i on, as the one there and those behind it
split : (now : List Part) (i : ℕ) (p : Part) → i < length now → p ≡ get_or now i p → drop i now ≡ p ∷ drop (i + 1) now
split now i p l e = drop_more now i p l ∙ ap (λ x. x ∷ drop (i + 1) now) (sym e)

pub mask_left : (now old : List Part) (i first count o n : ℕ) (p : Part) → IsLeft now old i first count o n → i < length now → p ≡ get_or now i p → MaskFits (part_mask p) (slot_count (p ∷ []))
mask_left now old i first count o n p left l e = mask_here p (drop (i + 1) now) (subst AreWithin (split now i p l e) left.within).0

pub rows_left : (now old : List Part) (i first count o n : ℕ) (p : Part) → IsLeft now old i first count o n → i < length now → p ≡ get_or now i p → first + count ≤ slot_count (p ∷ [])
rows_left now old i first count o n p left l e = subst (λ k. first + count ≤ k) (count_one p (drop (i + 1) now)) (subst (λ ps. first + count ≤ slot_count ps) (split now i p l e) (left.rows l))

pub left_more : (now old : List Part) (i first count o n : ℕ) (p q : Part) → IsLeft now old i first count o n → i < length now → p ≡ get_or now i p → q ≡ cut_part p first count → Rises p
    → IsLeft (set now i q) old (i + 1) (first_beneath p first) (count_beneath p first count) o n
left_more now old i first count o n p q left l e c r =
    let here : drop i now ≡ p ∷ drop (i + 1) now = split now i p l e in
    let rest : drop (i + 1) (set now i q) ≡ drop (i + 1) now = drop-set-lt (i + 1) now i q (omega arith) in
    let front : take (i + 1) (set now i q) ≡ take i now ++ q ∷ [] = take_more_set now i q l in
    let w : AreWithin (p ∷ drop (i + 1) now) = subst AreWithin here left.within in
    record {
      within = subst AreWithin (sym rest) w.1;
      rows = λ k. subst (λ ps. first_beneath p first + count_beneath p first count ≤ slot_count ps) (sym rest)
          (rows_next p (drop (i + 1) now) first count w.0 r (subst (λ ps. first + count ≤ slot_count ps) here (left.rows l)) (omega (arith, k, length-set now i q, length-drop (i + 1) now)));
      cut =
          ap (λ ps. ps ++ cut_parts (drop (i + 1) (set now i q)) (first_beneath p first) (count_beneath p first count)) front
          ∙ ap (λ ps. (take i now ++ q ∷ []) ++ cut_parts ps (first_beneath p first) (count_beneath p first count)) rest
          ∙ append_assoc (take i now) (q ∷ []) _
          ∙ ap (λ x. take i now ++ x ∷ cut_parts (drop (i + 1) now) (first_beneath p first) (count_beneath p first count)) c
          ∙ ap (λ ps. take i now ++ cut_parts ps first count) (sym here)
          ∙ left.cut;
      leaf = ap (λ ps. leaf_rows ps (first_beneath p first) (count_beneath p first count)) rest ∙ ap (λ ps. leaf_rows ps first count) (sym here) ∙ left.leaf;
      rises = λ k. left.rises (subst AreRising (sym here) (r, subst AreRising rest k));
    }

-- what is left once all parts are cut
pub record IsDone (now old : List Part) (first count o n : ℕ) : Type 0 where
  pub cut : now ≡ cut_parts old o n
  pub leaf : (first, count) ≡ leaf_rows old o n
  pub rises : AreRising old

pub left_none : (now old : List Part) (i first count o n : ℕ) → IsLeft now old i first count o n → length now ≤ i → IsDone now old first count o n
left_none now old i first count o n left l =
    let none : drop i now ≡ [] = drop_all i now l in
    record {
      cut = sym (append-nil now) ∙ ap (λ ps. ps ++ []) (sym (take_all i now l)) ∙ ap (λ ps. take i now ++ cut_parts ps first count) (sym none) ∙ left.cut;
      leaf = ap (λ ps. leaf_rows ps first count) (sym none) ∙ left.leaf;
      rises = left.rises (subst AreRising (sym none) tt);
    }

-- the part at a place of a path
pub part_there : (xs : List Nested) (i : ℕ) (x : Nested) → i < length xs → part_of (get_or xs i x) ≡ get_or (parts_of xs) i (part_of (get_or xs i x))
part_there [] i x h = absurd (omega (arith, h))
part_there (y ∷ ys) zero x h = refl
part_there (y ∷ ys) (suc i) x h = part_there ys i x (omega (arith, h))

-- a part of the same kind in place of another
pub kinds_set : (xs : List Nested) (i : ℕ) (x y : Nested) → is_large y ≡ is_large (get_or xs i x) → map is_large (set xs i y) ≡ map is_large xs
kinds_set [] i x y e = refl
kinds_set (z ∷ zs) zero x y e = ap (λ b. b ∷ map is_large zs) e
kinds_set (z ∷ zs) (suc i) x y e = ap (λ bs. is_large z ∷ bs) (kinds_set zs i x y e)

parts_set : (xs : List Nested) (i : ℕ) (y : Nested) → parts_of (set xs i y) ≡ set (parts_of xs) i (part_of y)
parts_set xs i y = map-set part_of xs i y

pub nested_more : (now old : List Nested) (i first count o n : ℕ) (x y : Nested) (f c : ℕ) → IsLeft (parts_of now) (parts_of old) i first count o n → i < length now
    → part_of y ≡ cut_part (part_of (get_or now i x)) first count → Rises (part_of (get_or now i x)) → f ≡ first_beneath (part_of (get_or now i x)) first
    → c ≡ count_beneath (part_of (get_or now i x)) first count → IsLeft (parts_of (set now i y)) (parts_of old) (i + 1) f c o n
nested_more now old i first count o n x y f c left l e r a b =
    rw (parts_set now i y, a, b) (left_more (parts_of now) (parts_of old) i first count o n (part_of (get_or now i x)) (part_of y) left (omega (arith, l, length-map now part_of)) (part_there now i x l) e r)
