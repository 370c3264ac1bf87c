-- Columns that agree come from slots that agree.
use Rattle.std.proofs.Common.{◌≡◌, ℕ, zero, suc, ◌+◌, ◌≤◌, min, Bool, true, false, cond, nat_eq, nat_le, Option, None, List, [], ◌∷◌, ◌++◌, map, filter, subst, sym, ap, ◌∙◌, arith, le-leb, eq-eqb}
use Rattle.std.specs.List.{AllByRecursion as Each}
use Rattle.std.proofs.lemmas.List.{map-append}
use Rattle.std.proofs.lemmas.List.Elements.{recursion_from_All, filter-append}
use Rattle.shredding.specs.Along.{IsAlong}
use Rattle.shredding.specs.Share.{shared_lists, shared_levels, lowered, shown, IsWayOf, IsWayIn}
use Rattle.shredding.specs.Slot.{Slot, null, value, items, fields, Slots, no_slots, slot, list_of, slot_at}
use Rattle.shredding.specs.Shape.{Shape, leaf, list, struct, Shapes, no_shapes, shape, Way, at_leaf, in_list, in_struct}
use Rattle.shredding.specs.Shred.{Triple, up, single, shred}
use Rattle.shredding.proofs.Levels.{max-up, max_suc-up}
use Rattle.shredding.proofs.Starts.{Above, BeginsAt, StopsAt, StopsAt-append, shred_begins, items_begin, begins_in_list}
use Rattle.shredding.proofs.Unique.{split, no_triples, rows_along}

abbrev pub AgreeAll : (Slot → Slot → Type 0) → List Slot → List Slot → Type 0
AgreeAll R [] [] = Unit {0}
AgreeAll R (s ∷ ss) (t ∷ ts) = R s t × AgreeAll R ss ts
AgreeAll R _ _ = ⊥

-- the two slots are the same in the parts that both ways go through
abbrev pub Agree : Way → Way → Slot → Slot → Type 0
Agree (at_leaf n) (at_leaf m) s t = Unit {0}
Agree (in_list n w) (in_list m v) null null = Unit {0}
Agree (in_list n w) (in_list m v) (items ss) (items ts) = AgreeAll (Agree w v) (list_of ss) (list_of ts)
Agree (in_struct n i w) (in_struct m j v) null null = Unit {0}
Agree (in_struct n i w) (in_struct m j v) (fields ss) (fields ts) = i ≡ j → Agree w v (slot_at ss i) (slot_at ts j)
Agree _ _ _ _ = ⊥

-- What is shown.

pub shown-append : (c e : ℕ) (xs ys : List Triple) → shown c e (xs ++ ys) ≡ shown c e xs ++ shown c e ys
shown-append c e xs ys = ap (map (lowered e)) (filter-append (λ t. nat_le t.repetition c) xs ys) ∙ map-append (lowered e) (filter (λ t. nat_le t.repetition c) xs) (filter (λ t. nat_le t.repetition c) ys)

pub shown_above : (c e k : ℕ) (xs : List Triple) → Above k xs → Above k (shown c e xs)
shown_above c e k [] h = tt
shown_above c e k (x ∷ xs) h = go (shown_above c e k xs h.1) (nat_le x.repetition c)
  where
    go : Above k (shown c e xs) → (b : Bool) → Above k (map (lowered e) (cond b (x ∷ filter (λ t. nat_le t.repetition c) xs) (filter (λ t. nat_le t.repetition c) xs)))
    go rest true = (h.0, rest)
    go rest false = rest

shown_begins : (c e r d k : ℕ) (xs : List Triple) → r ≤ c → BeginsAt r d k xs → BeginsAt r (min d e) k (shown c e xs)
shown_begins c e r d k [] l h = absurd h
shown_begins c e r d k (x ∷ xs) l h =
    let p : nat_le x.repetition c ≡ true = le-leb x.repetition c (omega (arith, h.0)) in
    let q : BeginsAt r (min d e) k (lowered e x ∷ shown c e xs) = (h.0, omega (arith, h.1), shown_above c e k xs h.2) in
    subst (λ b. BeginsAt r (min d e) k (map (lowered e) (cond b (x ∷ filter (λ t. nat_le t.repetition c) xs) (filter (λ t. nat_le t.repetition c) xs)))) (sym p) q

shown_rows_stop : (w : Way) (c e r d k : ℕ) → r ≤ k → r ≤ c → (ss : List Slot) → StopsAt k (shown c e (rows_along r d k w ss))
shown_rows_stop w c e r d k l m [] = tt
shown_rows_stop w c e r d k l m (s ∷ ss) =
    subst (StopsAt k) (sym (shown-append c e (shred w s r d k) (rows_along r d k w ss)))
    (StopsAt-append r (min d e) k k (shown c e (shred w s r d k)) _ l (shown_begins c e r d k (shred w s r d k) m (shred_begins w s r d k)))

-- a slot at d levels does not show what begins with more
shown_too_low : (c e r d k : ℕ) (v : Option _) (xs : List Triple) → suc d ≤ e → r ≤ c → BeginsAt r (suc d) k xs → shown c e (single r d v) ≡ shown c e xs → ⊥
shown_too_low c e r d k v xs l m h q =
    let p : nat_le r c ≡ true = le-leb r c m in
    let alone : shown c e (single r d v) ≡ single r (min d e) None = ap (λ b. map (lowered e) (cond b (single r d v) [])) p in
    let g : BeginsAt r (min (suc d) e) k (single r (min d e) None) = subst (BeginsAt r (min (suc d) e) k) (sym q ∙ alone) (shown_begins c e r (suc d) k xs m h) in
    omega (arith, g.1)

shown_split : (c e r d d' k : ℕ) (xs ys R S : List Triple) → r ≤ c → BeginsAt r d k xs → BeginsAt r d' k ys → StopsAt k (shown c e R) → StopsAt k (shown c e S) → shown c e (xs ++ R) ≡ shown c e (ys ++ S) → (shown c e xs ≡ shown c e ys) × (shown c e R ≡ shown c e S)
shown_split c e r d d' k xs ys R S l a b p q h =
    split r r (min d e) (min d' e) k (shown c e xs) (shown c e ys) (shown c e R) (shown c e S) (shown_begins c e r d k xs l a) (shown_begins c e r d' k ys l b) p q
    (sym (shown-append c e xs R) ∙ h ∙ shown-append c e ys S)

shown_none : (c e r d k : ℕ) (xs R : List Triple) → r ≤ c → BeginsAt r d k xs → [] ≡ shown c e (xs ++ R) → ⊥
shown_none c e r d k xs R l a h = no_triples r (min d e) k (shown c e xs) (shown c e R) (shown_begins c e r d k xs l a) (h ∙ shown-append c e xs R)

-- From what is shown to the slots.

abbrev ShowsAgree : Way → Way → Type 0
ShowsAgree w v =
    (s t : Slot) (r d k c e : ℕ) → r ≤ k → IsAlong w s → IsAlong v t → c ≡ k + shared_lists w v → e ≡ d + shared_levels w v → shown c e (shred w s r d k) ≡ shown c e (shred v t r d k) → Agree w v s t

pub agree_rows : (w v : Way) → ShowsAgree w v → (r d k c e : ℕ) → r ≤ k → c ≡ k + shared_lists w v → e ≡ d + shared_levels w v → (ss ts : List Slot) → Each (IsAlong w) ss → Each (IsAlong v) ts → shown c e (rows_along r d k w ss) ≡ shown c e (rows_along r d k v ts) → AgreeAll (Agree w v) ss ts
agree_rows w v u r d k c e l m n [] [] p q h = tt
agree_rows w v u r d k c e l m n [] (t ∷ ts) p q h = absurd (shown_none c e r d k (shred v t r d k) (rows_along r d k v ts) (omega arith) (shred_begins v t r d k) h)
agree_rows w v u r d k c e l m n (s ∷ ss) [] p q h = absurd (shown_none c e r d k (shred w s r d k) (rows_along r d k w ss) (omega arith) (shred_begins w s r d k) (sym h))
agree_rows w v u r d k c e l m n (s ∷ ss) (t ∷ ts) p q h =
    let parts = shown_split c e r d d k (shred w s r d k) (shred v t r d k) (rows_along r d k w ss) (rows_along r d k v ts) (omega arith) (shred_begins w s r d k) (shred_begins v t r d k)
    (shown_rows_stop w c e r d k l (omega arith) ss) (shown_rows_stop v c e r d k l (omega arith) ts) h in
    (u s t r d k c e l p.0 q.0 m n parts.0, agree_rows w v u r d k c e l m n ss ts p.1 q.1 parts.1)

agree_items : (n : Bool) (w v : Way) → ShowsAgree w v → (r d k c e : ℕ) → r ≤ k → c ≡ k + suc (shared_lists w v) → e ≡ d + up n (suc (shared_levels w v)) → (ss ts : Slots) → Each (IsAlong w) (list_of ss) → Each (IsAlong v) (list_of ts) → shown c e (shred (in_list n w) (items ss) r d k) ≡ shown c e (shred (in_list n v) (items ts) r d k) → AgreeAll (Agree w v) (list_of ss) (list_of ts)
unfolding shred
agree_items n w v u r d k c e l m o no_slots no_slots p q h = tt
agree_items n w v u r d k c e l m o no_slots (slot t ts) p q h =
    absurd (shown_too_low c e r (up n d) k None _ (omega (arith, max_suc-up n d (shared_levels w v))) (omega arith) (begins_in_list v (shred_begins v) t (list_of ts) r (suc (up n d)) k) h)
agree_items n w v u r d k c e l m o (slot s ss) no_slots p q h =
    absurd (shown_too_low c e r (up n d) k None _ (omega (arith, max_suc-up n d (shared_levels w v))) (omega arith) (begins_in_list w (shred_begins w) s (list_of ss) r (suc (up n d)) k) (sym h))
agree_items n w v u r d k c e l m o (slot s ss) (slot t ts) p q h =
    let D : ℕ = suc (up n d) in
    let K : ℕ = suc k in
    let c_is : c ≡ K + shared_lists w v = omega arith in
    let e_is : e ≡ D + shared_levels w v = omega (arith, max_suc-up n d (shared_levels w v)) in
    let parts = shown_split c e r D D K (shred w s r D K) (shred v t r D K) (rows_along K D K w (list_of ss)) (rows_along K D K v (list_of ts)) (omega arith) (shred_begins w s r D K) (shred_begins v t r D K)
    (shown_rows_stop w c e K D K (omega arith) (omega arith) (list_of ss)) (shown_rows_stop v c e K D K (omega arith) (omega arith) (list_of ts)) h in
    (u s t r D K c e (omega arith) p.0 q.0 c_is e_is parts.0, agree_rows w v u K D K c e (omega arith) c_is e_is (list_of ss) (list_of ts) p.1 q.1 parts.1)

agree_list : (n : Bool) (w v : Way) → ShowsAgree w v → ShowsAgree (in_list n w) (in_list n v)
unfolding shred
agree_list n w v u null null r d k c e l p q m o h = tt
agree_list true w v u null (items ts) r d k c e l p q m o h =
    absurd (shown_too_low c e r d k None _ (omega arith) (omega arith) (items_begin true v (shred_begins v) ts r d k) h)
agree_list false w v u null (items ts) r d k c e l p q m o h = cc
agree_list true w v u (items ss) null r d k c e l p q m o h =
    absurd (shown_too_low c e r d k None _ (omega arith) (omega arith) (items_begin true w (shred_begins w) ss r d k) (sym h))
agree_list false w v u (items ss) null r d k c e l p q m o h = cc
agree_list n w v u (items ss) (items ts) r d k c e l p q m o h =
    agree_items n w v u r d k c e l m o ss ts (recursion_from_All (IsAlong w) (list_of ss) p) (recursion_from_All (IsAlong v) (list_of ts) q) h
agree_list n w v u (value x) t r d k c e l p q m o h = absurd p
agree_list n w v u (fields ss) t r d k c e l p q m o h = absurd p
agree_list n w v u null (value x) r d k c e l p q m o h = absurd q
agree_list n w v u null (fields ts) r d k c e l p q m o h = absurd q
agree_list n w v u (items ss) (value x) r d k c e l p q m o h = absurd q
agree_list n w v u (items ss) (fields ts) r d k c e l p q m o h = absurd q

agree_struct : (n : Bool) (i j : ℕ) (w v : Way) → (i ≡ j → ShowsAgree w v) → ShowsAgree (in_struct n i w) (in_struct n j v)
unfolding shred
agree_struct n i j w v u null null r d k c e l p q m o h = tt
agree_struct true i j w v u null (fields ts) r d k c e l p q m o h =
    absurd (shown_too_low c e r d k None _ (omega arith) (omega arith) (shred_begins v (slot_at ts j) r (suc d) k) h)
agree_struct false i j w v u null (fields ts) r d k c e l p q m o h = cc
agree_struct true i j w v u (fields ss) null r d k c e l p q m o h =
    absurd (shown_too_low c e r d k None _ (omega arith) (omega arith) (shred_begins w (slot_at ss i) r (suc d) k) (sym h))
agree_struct false i j w v u (fields ss) null r d k c e l p q m o h = cc
agree_struct n i j w v u (fields ss) (fields ts) r d k c e l p q m o h =
    λ same.
    let b : nat_eq i j ≡ true = eq-eqb i j same in
    let c_is : c ≡ k + shared_lists w v = subst (λ x. c ≡ k + cond x (shared_lists w v) 0) b m in
    let e_up : e ≡ d + up n (shared_levels w v) = subst (λ x. e ≡ d + up n (cond x (shared_levels w v) 0)) b o in
    u same (slot_at ss i) (slot_at ts j) r (up n d) k c e l p q c_is (omega (arith, e_up, max-up n d (shared_levels w v))) h
agree_struct n i j w v u (value x) t r d k c e l p q m o h = absurd p
agree_struct n i j w v u (items ss) t r d k c e l p q m o h = absurd p
agree_struct n i j w v u null (value x) r d k c e l p q m o h = absurd q
agree_struct n i j w v u null (items ts) r d k c e l p q m o h = absurd q
agree_struct n i j w v u (fields ss) (value x) r d k c e l p q m o h = absurd q
agree_struct n i j w v u (fields ss) (items ts) r d k c e l p q m o h = absurd q

mutual
  pub shows_agree : (f : Shape) (w v : Way) → IsWayOf f w → IsWayOf f v → ShowsAgree w v
  shows_agree (leaf n k) (at_leaf m) (at_leaf o) p q = λ s t r d j c e l a b x y h. tt
  shows_agree (leaf n k) (at_leaf m) (in_list o v) p q = absurd q
  shows_agree (leaf n k) (at_leaf m) (in_struct o i v) p q = absurd q
  shows_agree (leaf n k) (in_list m w) v p q = absurd p
  shows_agree (leaf n k) (in_struct m i w) v p q = absurd p
  shows_agree (list n f) (in_list m w) (in_list o v) p q = subst (λ b. ShowsAgree (in_list m w) (in_list b v)) (p.0 ∙ sym q.0) (agree_list m w v (shows_agree f w v p.1 q.1))
  shows_agree (list n f) (in_list m w) (at_leaf o) p q = absurd q
  shows_agree (list n f) (in_list m w) (in_struct o i v) p q = absurd q
  shows_agree (list n f) (at_leaf m) v p q = absurd p
  shows_agree (list n f) (in_struct m i w) v p q = absurd p
  shows_agree (struct n fs) (in_struct m i w) (in_struct o j v) p q =
      subst (λ b. ShowsAgree (in_struct m i w) (in_struct b j v)) (p.0 ∙ sym q.0) (agree_struct m i j w v (λ same. show_agree fs i w v p.1 (subst (λ x. IsWayIn fs x v) (sym same) q.1)))
  shows_agree (struct n fs) (in_struct m i w) (at_leaf o) p q = absurd q
  shows_agree (struct n fs) (in_struct m i w) (in_list o v) p q = absurd q
  shows_agree (struct n fs) (at_leaf m) v p q = absurd p
  shows_agree (struct n fs) (in_list m w) v p q = absurd p

  pub show_agree : (fs : Shapes) (i : ℕ) (w v : Way) → IsWayIn fs i w → IsWayIn fs i v → ShowsAgree w v
  show_agree no_shapes i w v p q = absurd p
  show_agree (shape f fs) zero w v p q = shows_agree f w v p q
  show_agree (shape f fs) (suc i) w v p q = show_agree fs i w v p q
