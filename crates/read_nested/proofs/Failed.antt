-- Why no array is put together of pieces.
use Rattle.std.proofs.Common.{◌≡◌, ◌⊎◌, ℕ, zero, suc, ◌+◌, ◌-◌, ◌<◌, ◌≤◌, Bool, Option, Some, List, [], ◌∷◌, ◌++◌, map, length, take, get_or, refl, arith, ap, sym, ◌∙◌, subst, inl, inr, length-append, append_assoc, zero-add, append-nil}
use Rattle.std.proofs.Math.Seq.{take-append_seam}
use Rattle.std.proofs.lemmas.List.Elements.{recursion_from_All}
use Rattle.columns_base.specs.declared.error.Error.{Error}
use Rattle.columns_base.specs.declared.error.Error.TheVariants.{Memory, OutOfSpec, NotYetImplemented, Overflow}
use Rattle.columns_base.specs.declared.error.S.TheVariants.{S10}
use Rattle.columns_base.specs.declared.error.N.TheVariants.{N5}
use Rattle.columns_base.specs.declared.error.V.TheVariants.{V1}
use Rattle.shredding.specs.Parts.{MaskFits}
use Rattle.shredding.specs.Shape.{Way, at_leaf, in_struct, struct, HasNoEmptyStruct, HaveNoEmptyStruct}
use Rattle.shredding.specs.Share.{ColumnsAgree}
use Rattle.shredding.specs.Shred.{Triple, max_repetition}
use Rattle.shredding.specs.Slot.{Slot}
use Rattle.columns_core.specs.Shapes.{base, type_shape, shape_of, shapes_of}
use Rattle.columns_core.specs.Tree.{TypeTree, t_list, t_fixed_size_list, t_large_list, t_struct, t_map, t_extension, FieldTree, field, FieldTrees, no_fields, more_fields}
use Rattle.columns_slots.specs.Slots.{slot_at as array_slot, slots_at, tree_len, first_len, count_arrays, IsPlaces, AreUpTo}
use Rattle.columns_slots.specs.Tree.{ArrayTree, ArrayTrees, no_arrays, more_arrays}
use Rattle.columns_slots.specs.Types.{part_types, small_item, large_item, map_item}
use Rattle.columns_array.specs.Fits.{FitParts}
use Rattle.read_laws.specs.State.{Kept, kept_leaf, kept_list, kept_struct, count, StateFits}
use Rattle.read_pieces.specs.Pieces.{type_leaves, leaf_types, all_leaf_types, ArePiecesOf}
use Rattle.read_pieces.specs.declared.piece.ColumnPiece.{ColumnPiece}
use Rattle.read_items.specs.Items.{ItemsAreCounted, list_counts, items_from}
use Rattle.pq_headline.specs.Columns.{ArrowColumn, beneath_struct, small_limit, large_limit, type_columns, field_columns, columns_from}
use Rattle.pq_headline.specs.FieldReasons.{PassesLists, items_in}
use Rattle.read_nested.specs.Above.{Above, above_list, above_struct, way_beneath, raised}
use Rattle.read_nested.specs.Beneath.{CannotJoinColumns as Cannot}
use Rattle.read_nested.specs.Builds.{Fails, FailsLeaf, FailsField, FailsAll, FailsOthers}
use Rattle.read_nested.specs.Fronts.{built as built_of}
use Rattle.read_nested.specs.Joined.{CannotJoin, HasFlatEntries, HaveFlatEntries, Disagree, DisagreesWith, SomePass, HasFixedList, HaveFixedList}
use Rattle.read_nested.specs.Made.{innermost, kind_of, RefusesKind, RefusesLists, RefusesStruct, FitsPart, FitsStructPart}
use Rattle.read_nested.proofs.Built.{Entries, AreFlatPieces, flat-pieces, IsBuilt, AreBuilt, IsStructFits, built, children-end, all-built, first-pieces, first-columns, some-columns, fit-len, all-full}
use Rattle.read_nested.proofs.Array.{raised-none}
use Rattle.read_nested.proofs.Fronts.{fronts-agree}
use Rattle.read_nested.proofs.Keeps.{list-len}
use Rattle.read_nested.proofs.Stood.{raised-list, raised-struct-one, raised-way, Aligned, aligned-length, list-end, IsListEnd, innermost-end, IsStood, AllStood, stood-back}

cannot-fixed : (F G : Type 0) (cs : List ArrowColumn) (tables : List (List Triple)) (e : Error) → (F → G) → Cannot F cs tables e → Cannot G cs tables e
cannot-fixed F G cs tables e f h = elim h [ inl m ↦ inl m | inr r ↦ elim r [ inl d ↦ inr (inl d) | inr q ↦ elim q [ inl p ↦ inr (inr (inl p)) | inr x ↦ inr (inr (inr (x.0, f x.1))) ] ] ]

module _ (above A : List Above) (front : List Kept) (at : ℕ → Slot) (n : ℕ) where
  disagree-later : (cs ds : List ArrowColumn) (first rest : List (List Triple)) → AllStood A cs first front at n → Disagree ds rest → Disagree (map (raised A) cs ++ ds) (first ++ rest)
  disagree-later [] ds [] rest s h = h
  disagree-later [] ds (ts ∷ first) rest s h = absurd s
  disagree-later (c ∷ cs) ds [] rest s h = absurd s
  disagree-later (c ∷ cs) ds (ts ∷ first) rest s h = inr (disagree-later cs ds first rest s.1 h)

  pass-later : (cs ds : List ArrowColumn) (first rest : List (List Triple)) → AllStood A cs first front at n → SomePass ds rest → SomePass (map (raised A) cs ++ ds) (first ++ rest)
  pass-later [] ds [] rest s h = h
  pass-later [] ds (ts ∷ first) rest s h = absurd s
  pass-later (c ∷ cs) ds [] rest s h = absurd s
  pass-later (c ∷ cs) ds (ts ∷ first) rest s h = inr (pass-later cs ds first rest s.1 h)

  with-later : (c : ArrowColumn) (us : List Triple) (cs ds : List ArrowColumn) (first rest : List (List Triple)) → AllStood A cs first front at n → DisagreesWith c us ds rest → DisagreesWith c us (map (raised A) cs ++ ds) (first ++ rest)
  with-later c us [] ds [] rest s h = h
  with-later c us [] ds (ts ∷ first) rest s h = absurd s
  with-later c us (d ∷ cs) ds [] rest s h = absurd s
  with-later c us (d ∷ cs) ds (ts ∷ first) rest s h = inr (with-later c us cs ds first rest s.1 h)

  cannot-later : (F : Type 0) (cs ds : List ArrowColumn) (first rest : List (List Triple)) (e : Error) → AllStood A cs first front at n → Cannot F ds rest e → Cannot F (map (raised A) cs ++ ds) (first ++ rest) e
  cannot-later F cs ds first rest e s h =
      elim h [ inl m ↦ inl m | inr r ↦ elim r [ inl d ↦ inr (inl (d.0, disagree-later cs ds first rest s d.1)) | inr q ↦ elim q [ inl p ↦ inr (inr (inl (p.0, pass-later cs ds first rest s p.1))) | inr x ↦ inr (inr (inr x)) ] ] ]

-- ---- offsets
up-to : (o : ℕ) (starts : List ℕ) (n : ℕ) → o ≤ n → ((i : ℕ) → i < length starts → o ≤ get_or starts i 0) → ((i : ℕ) → i < length starts → get_or starts i 0 ≤ n) → ((i j : ℕ) → i ≤ j → j < length starts → get_or starts i 0 ≤ get_or starts j 0) → AreUpTo o (starts ++ n ∷ []) n
up-to o [] n h above below sorted = (h, omega arith)
up-to o (s ∷ starts) n h above below sorted =
    (above 0 (omega arith), up-to s starts n (below 0 (omega arith)) (λ i l. sorted 0 (suc i) (omega arith) (omega arith)) (λ i l. below (suc i) (omega arith)) (λ i j p q. sorted (suc i) (suc j) (omega arith) (omega arith)))

pub starts-places : (starts : List ℕ) (n : ℕ) → ((i : ℕ) → i < length starts → get_or starts i 0 ≤ n) → ((i j : ℕ) → i ≤ j → j < length starts → get_or starts i 0 ≤ get_or starts j 0) → IsPlaces (starts ++ n ∷ []) n
starts-places [] n below sorted = omega arith
starts-places (s ∷ starts) n below sorted = up-to s starts n (below 0 (omega arith)) (λ i l. sorted 0 (suc i) (omega arith) (omega arith)) (λ i l. below (suc i) (omega arith)) (λ i j p q. sorted (suc i) (suc j) (omega arith) (omega arith))

-- the items of a list beneath parts, as the triples begin them
passes : (front : List Kept) (above : List Above) (n : Bool) (limit : ℕ) (c : ArrowColumn) (m : Option (List Bool)) (starts : List ℕ) (back : List Kept) (r : ℕ) (w : Way) (ts : List Triple) (lists : ℕ) → Aligned front above → list_counts (front ++ (kept_list m starts ∷ back)) ≡ items_from lists r w ts → limit < count back → PassesLists w r (raised (above ++ above_list n limit ∷ []) c).limits ts
passes [] [] n limit c m starts back r w ts zero a e h = absurd (cc)
passes [] [] n limit c m starts back r w ts (suc lists) a e h = let q : count back ≡ items_in w r ts = cc in inl (omega arith)
passes [] (x ∷ above) n limit c m starts back r w ts lists a e h = absurd a
passes (kept_leaf b d ∷ front) [] n limit c m starts back r w ts lists a e h = absurd a
passes (kept_list b d ∷ front) [] n limit c m starts back r w ts lists a e h = absurd a
passes (kept_struct b d ∷ front) [] n limit c m starts back r w ts lists a e h = absurd a
passes (kept_leaf b d ∷ front) (x ∷ above) n limit c m starts back r w ts lists a e h = absurd a
passes (kept_list b d ∷ front) (above_list v l ∷ above) n limit c m starts back r w ts zero a e h = absurd (cc)
passes (kept_list b d ∷ front) (above_list v l ∷ above) n limit c m starts back r w ts (suc lists) a e h =
    let q : list_counts (front ++ (kept_list m starts ∷ back)) ≡ items_from lists (suc r) w ts = cc in
    inr (passes front above n limit c m starts back (suc r) w ts lists a.1 q h)
passes (kept_list b d ∷ front) (above_struct v l ∷ above) n limit c m starts back r w ts lists a e h = absurd a
passes (kept_struct b d ∷ front) (above_struct v l ∷ above) n limit c m starts back r w ts lists a e h = passes front above n limit c m starts back r w ts lists a.1 e h
passes (kept_struct b d ∷ front) (above_list v l ∷ above) n limit c m starts back r w ts lists a e h = absurd a

-- ---- lists
record IsListFits (old : List Kept) (above : List Above) (b : Bool) (its : ArrayTree) : Type 0 where
  pub end : IsListEnd old above b
  pub places : IsPlaces (end.starts ++ tree_len its ∷ []) (tree_len its)
  pub mask_fits : MaskFits end.mask (length (end.starts ++ tree_len its ∷ []) - 1)

list-fits : (above : List Above) (b : Bool) (l : ℕ) (c : ArrowColumn) (ts : List Triple) (old : List Kept) (its : ArrayTree) → IsStood (above ++ above_list b l ∷ []) c ts old (array_slot its) (tree_len its) → Aligned old (above ++ above_list b l ∷ []) → IsListFits old above b its
list-fits above b l c ts old its s aligned =
    let end = list-end old above b l aligned in
    let S : List Kept → Type 0 = λ ks. IsStood (above ++ above_list b l ∷ []) c ts ks (array_slot its) (tree_len its) in
    let s' : S (end.front ++ kept_list end.mask end.starts ∷ []) = subst S end.parts s in
    let fits = stood-back (above ++ above_list b l ∷ []) c ts end.front (kept_list end.mask end.starts) (array_slot its) (tree_len its) s' in
    let M : ℕ → Type 0 = λ k. MaskFits end.mask k in
    record {
      end = end;
      places = starts-places end.starts (tree_len its) (λ i h. let q = fits.1 i h in omega (arith, q, s'.stands.count)) fits.2;
      mask_fits = subst M (list-len end.starts (tree_len its)) fits.0;
    }

module _ (counted : ItemsAreCounted) where
  list-passes : (above : List Above) (b : Bool) (l : ℕ) (c : ArrowColumn) (ts : List Triple) (old : List Kept) (its : ArrayTree) → IsStood (above ++ above_list b l ∷ []) c ts old (array_slot its) (tree_len its) → Aligned old (above ++ above_list b l ∷ []) → l < tree_len its → PassesLists (raised (above ++ above_list b l ∷ []) c).way 1 (raised (above ++ above_list b l ∷ []) c).limits ts
  list-passes above b l c ts old its s aligned h =
      let A : List Above = above ++ above_list b l ∷ [] in
      let end = list-end old above b l aligned in
      let w = (raised A c).way in
      let counts : list_counts s.state ≡ items_from (max_repetition w) 1 w ts = ap list_counts s.is.built ∙ counted w ts in
      let parts : s.state ≡ end.front ++ (kept_list end.mask end.starts ∷ s.back) = s.parts ∙ ap (λ ks. ks ++ s.back) end.parts ∙ append_assoc end.front (kept_list end.mask end.starts ∷ []) s.back in
      let counts' : list_counts (end.front ++ (kept_list end.mask end.starts ∷ s.back)) ≡ items_from (max_repetition w) 1 w ts = sym (ap list_counts parts) ∙ counts in
      passes end.front above b l c end.mask end.starts s.back 1 w ts (max_repetition w) end.aligned counts' (omega (arith, s.stands.count))

  list-refused : (F : Type 0) (above : List Above) (b : Bool) (l : ℕ) (item : Option TypeTree) (u : TypeTree) (cs others : List ArrowColumn) (types : List TypeTree) (tables : List (List Triple)) (es : List Entries) (left : List ColumnPiece) (old : List Kept) (its : ArrayTree) (e : Error) →
      (cs ≡ [] → ⊥) → item ≡ Some u → IsBuilt (above ++ above_list b l ∷ []) u cs others types tables es left old its → RefusesLists l item (innermost old) its e → Cannot F (map (raised (above ++ above_list b l ∷ [])) cs ++ others) tables e
  list-refused F above b l item u [] others types tables es left old its e some is made h = absurd (some refl)
  list-refused F above b l item u (c ∷ cs) others types tables es left old its e some is made h =
      let A : List Above = above ++ above_list b l ∷ [] in
      let T : List (List Triple) → Type 0 = λ xs. Cannot F (map (raised A) (c ∷ cs) ++ others) xs e in
      subst T (sym made.split.tables_are) (go made.split.first made.split.stood)
    where
      go : (first : List (List Triple)) → AllStood (above ++ above_list b l ∷ []) (c ∷ cs) first old (array_slot its) (tree_len its) → Cannot F (map (raised (above ++ above_list b l ∷ [])) (c ∷ cs) ++ others) (first ++ made.split.rest) e
      go [] s = absurd s
      go (ts ∷ first) s =
          let fits = list-fits above b l c ts old its s.0 made.aligned in
          let o : innermost old ≡ Some (kept_list fits.end.mask fits.end.starts) = ap innermost fits.end.parts ∙ innermost-end fits.end.front (kept_list fits.end.mask fits.end.starts) in
          let P : Option Kept → Type 0 = λ part. FitsPart item part its in
          let fit : P (innermost old) = subst P (sym o) (is ∙ ap Some (sym made.typed), fits.places, fits.mask_fits) in
          elim h [
            | inl m ↦ inl m
            | inr r ↦ elim r [
              | inl v ↦ inr (inr (inl (v.0, inl (list-passes above b l c ts old its s.0 made.aligned v.1))))
              | inr a ↦ absurd (a.2 fit)
            ]
          ]

-- ---- the parts of two children
state-front : (A : List Above) (c : ArrowColumn) (ts : List Triple) (front : List Kept) (at : ℕ → Slot) (n : ℕ) → IsStood A c ts front at n → Aligned front A → take (length A) (built_of (raised A c).way ts) ≡ front
state-front A c ts front at n s aligned =
    let len : length A ≡ length front = sym (aligned-length front A aligned) in
    let is : built_of (raised A c).way ts ≡ front ++ s.back = sym s.is.built ∙ s.parts in
    ap (λ k. take k (built_of (raised A c).way ts)) len ∙ ap (take (length front)) is ∙ take-append_seam front s.back

fronts-same : (above : List Above) (b : Bool) (i j : ℕ) (c d : ArrowColumn) (ts us : List Triple) (front other : List Kept) (at at' : ℕ → Slot) (n n' : ℕ) → (i ≡ j → ⊥) →
    IsStood (above ++ above_struct b i ∷ []) c ts front at n → Aligned front (above ++ above_struct b i ∷ []) → IsStood (above ++ above_struct b j ∷ []) d us other at' n' → Aligned other (above ++ above_struct b j ∷ []) →
    ColumnsAgree (raised (above ++ above_struct b i ∷ []) c).way (raised (above ++ above_struct b j ∷ []) d).way ts us → other ≡ front
fronts-same above b i j c d ts us front other at at' n n' apart s a s' a' agree =
    let A : List Above = above ++ above_struct b i ∷ [] in
    let B : List Above = above ++ above_struct b j ∷ [] in
    let wa : (raised A c).way ≡ way_beneath above (in_struct b i c.way) = ap (λ (x : ArrowColumn). x.way) (sym (raised-struct-one above b i c)) ∙ raised-way above (beneath_struct b i c) in
    let wb : (raised B d).way ≡ way_beneath above (in_struct b j d.way) = ap (λ (x : ArrowColumn). x.way) (sym (raised-struct-one above b j d)) ∙ raised-way above (beneath_struct b j d) in
    let P : Way → Type 0 = λ w. ColumnsAgree w (raised B d).way ts us in
    let Q : Way → Type 0 = λ w. ColumnsAgree (way_beneath above (in_struct b i c.way)) w ts us in
    let same = fronts-agree above b i j c.way d.way ts us apart (subst Q wb (subst P wa agree)) in
    let la : length A ≡ length above + 1 = length-append above (above_struct b i ∷ []) in
    let lb : length B ≡ length above + 1 = length-append above (above_struct b j ∷ []) in
    let left : take (length above + 1) (built_of (way_beneath above (in_struct b i c.way)) ts) ≡ front =
    ap (λ k. take k (built_of (way_beneath above (in_struct b i c.way)) ts)) (sym la) ∙ ap (λ w. take (length A) (built_of w ts)) (sym wa) ∙ state-front A c ts front at n s a in
    let right : take (length above + 1) (built_of (way_beneath above (in_struct b j d.way)) us) ≡ other =
    ap (λ k. take k (built_of (way_beneath above (in_struct b j d.way)) us)) (sym lb) ∙ ap (λ w. take (length B) (built_of w us)) (sym wb) ∙ state-front B d us other at' n' s' a' in
    sym right ∙ sym same ∙ left

-- one of the columns of another child disagrees
other-disagrees : (above : List Above) (b : Bool) (i j : ℕ) (c : ArrowColumn) (ts : List Triple) (front other : List Kept) (at at' : ℕ → Slot) (n n' : ℕ) (ds others : List ArrowColumn) (first rest : List (List Triple)) → (i ≡ j → ⊥) → (ds ≡ [] → ⊥) →
    IsStood (above ++ above_struct b i ∷ []) c ts front at n → Aligned front (above ++ above_struct b i ∷ []) → AllStood (above ++ above_struct b j ∷ []) ds first other at' n' → Aligned other (above ++ above_struct b j ∷ []) → (other ≡ front → ⊥) →
    DisagreesWith (raised (above ++ above_struct b i ∷ []) c) ts (map (raised (above ++ above_struct b j ∷ [])) ds ++ others) (first ++ rest)
other-disagrees above b i j c ts front other at at' n n' [] others first rest apart some s a s' a' ne = absurd (some refl)
other-disagrees above b i j c ts front other at at' n n' (d ∷ ds) others [] rest apart some s a s' a' ne = absurd s'
other-disagrees above b i j c ts front other at at' n n' (d ∷ ds) others (us ∷ first) rest apart some s a s' a' ne =
    inl (λ agree. ne (fronts-same above b i j c d ts us front other at at' n n' apart s a s'.0 a' agree))

-- ---- structs
struct-refused : (F : Type 0) (above : List Above) (b : Bool) (own : TypeTree) (fs : FieldTrees) (cs others : List ArrowColumn) (types : List TypeTree) (tables : List (List Triple)) (es : List Entries) (left : List ColumnPiece) (old : List Kept) (children : ArrayTrees) (e : Error) →
    base own ≡ t_struct fs → HasNoEmptyStruct (struct b (shapes_of fs)) → (end : IsStructFits old above b) → AreBuilt above fs cs others types tables es left end.end.front end.end.mask end.end.size children (λ k. slots_at children k) → RefusesStruct own (innermost old) children e →
    Cannot F (map (raised above) cs ++ others) tables e
struct-refused F above b own fs cs others types tables es left old children e is full end made h =
    let o : innermost old ≡ Some (kept_struct end.end.mask end.end.size) = ap innermost end.end.parts ∙ innermost-end end.end.front (kept_struct end.end.mask end.end.size) in
    let P : Option Kept → Type 0 = λ part. FitsStructPart (base own) part children in
    let len : first_len children ≡ end.end.size = fit-len b end.end.size fs children full made.fit in
    let N : ℕ → Type 0 = λ k. FitParts k fs children in
    let T : TypeTree → Type 0 = λ t. FitParts (first_len children) (part_types t) children in
    let M : ℕ → Type 0 = λ k. MaskFits end.end.mask k in
    let parts : FitParts (first_len children) (part_types (base own)) children = subst T (sym is) (subst N (sym len) made.fit) in
    let fit : P (innermost old) = subst P (sym o) (some-children b end.end.size fs children full made.fit, parts, subst M (sym len) end.fits) in
    elim h [ inl m ↦ inl m | inr a ↦ absurd (a.1 fit) ]
  where
    some-children : (b : Bool) (size : ℕ) (fs : FieldTrees) (children : ArrayTrees) → HasNoEmptyStruct (struct b (shapes_of fs)) → FitParts size fs children → 0 < count_arrays children
    some-children b size no_fields children s f = absurd s
    some-children b size (more_fields (field n t c md) fs) no_arrays s f = absurd f
    some-children b size (more_fields (field n t c md) fs) (more_arrays child children) s f = omega arith

-- ---- leaves
leaf-fails : (F : Type 0) (c : ArrowColumn) (own : TypeTree) (others : List ArrowColumn) (types : List TypeTree) (tables : List (List Triple)) (es : List Entries) (pieces : List ColumnPiece) (e : Error) → FailsLeaf pieces e → AreFlatPieces (c ∷ others) (own ∷ types) tables es pieces → Cannot F (c ∷ others) tables e
leaf-fails F c own others types [] es pieces e h are = absurd are
leaf-fails F c own others types (ts ∷ tables) [] pieces e h are = absurd are
leaf-fails F c own others types (ts ∷ tables) (en ∷ es) [] e h are = absurd are
leaf-fails F c own others types (ts ∷ tables) (en ∷ es) (p ∷ pieces) e h are =
    elim h.1 [
      | inl x ↦ absurd (cc x)
      | inr x ↦
          let same : p ≡ x.0 = let q = x.2 in cc in
          let none : p.nested ≡ [] = ap (λ (y : ColumnPiece). y.nested) same ∙ x.3 in
          let S : List Kept → Type 0 = λ ks. StateFits ks in
          absurd (let bad : S [] = subst S none are.0.piece.is.fits in bad)
    ]

-- what comes of the fields behind one whose column this is
abbrev Others : Type 0 → ArrowColumn → List Triple → List ArrowColumn → List (List Triple) → Error → Type 0
Others F c ts cs tables e = Cannot F cs tables e ⊎ ((e ≡ OutOfSpec S10) × DisagreesWith c ts cs tables)

others-later : (F : Type 0) (c : ArrowColumn) (ts : List Triple) (A : List Above) (cs ds : List ArrowColumn) (first rest : List (List Triple)) (front : List Kept) (at : ℕ → Slot) (n : ℕ) (e : Error) → AllStood A cs first front at n → Others F c ts ds rest e → Others F c ts (map (raised A) cs ++ ds) (first ++ rest) e
others-later F c ts A cs ds first rest front at n e s h =
    elim h [ inl x ↦ inl (cannot-later A A front at n F cs ds first rest e s x) | inr x ↦ inr (x.0, with-later A A front at n c ts cs ds first rest s x.1) ]

-- a column of the first child, and those of the others behind it
first-failed : (F : Type 0) (above : List Above) (b : Bool) (cs ds : List ArrowColumn) (first rest : List (List Triple)) (front : List Kept) (at : ℕ → Slot) (n : ℕ) (e : Error) → (cs ≡ [] → ⊥) → AllStood (above ++ above_struct b zero ∷ []) cs first front at n →
    ((c : ArrowColumn) (ts : List Triple) → IsStood (above ++ above_struct b zero ∷ []) c ts front at n → Others F (raised (above ++ above_struct b zero ∷ []) c) ts ds rest e) → Cannot F (map (raised (above ++ above_struct b zero ∷ [])) cs ++ ds) (first ++ rest) e
first-failed F above b [] ds first rest front at n e some s go = absurd (some refl)
first-failed F above b (c ∷ cs) ds [] rest front at n e some s go = absurd s
first-failed F above b (c ∷ cs) ds (ts ∷ first) rest front at n e some s go =
    let A : List Above = above ++ above_struct b zero ∷ [] in
    elim (go c ts s.0) [
      | inl x ↦ cannot-later A A front at n F (c ∷ cs) ds (ts ∷ first) rest e s x
      | inr x ↦ inr (inl (x.0, inl (with-later A A front at n (raised A c) ts cs ds first rest s.1 x.1)))
    ]

module _ (counted : ItemsAreCounted) where
  mutual
    pub failed : (own t : TypeTree) (b : Bool) (above : List Above) (others : List ArrowColumn) (types : List TypeTree) (tables : List (List Triple)) (es : List Entries) (pieces : List ColumnPiece) (e : Error) →
        base own ≡ base t → HasNoEmptyStruct (type_shape b t) → Fails own t pieces e → AreFlatPieces (map (raised above) (type_columns b t) ++ others) (type_leaves own t ++ types) tables es pieces →
        Cannot (HasFixedList t) (map (raised above) (type_columns b t) ++ others) tables e
    failed own (t_list (field n t c md)) b above others types tables es pieces e is h fs are =
        let cs : List ArrowColumn = field_columns (field n t c md) in
        let q = raised-list above b small_limit cs in
        let P : List ArrowColumn → Type 0 = λ xs. AreFlatPieces (xs ++ others) (leaf_types (field n t c md) ++ types) tables es pieces in
        let C : List ArrowColumn → Type 0 = λ xs. Cannot (HasFixedList t) (xs ++ others) tables e in
        elim fs [
          | inl m ↦ inl m
          | inr r ↦ elim r [
            | inl f ↦ subst C (sym q) (failed t t c (above ++ above_list b small_limit ∷ []) others types tables es pieces e refl h f (subst P q are))
            | inr x ↦
                let made = built t t c (above ++ above_list b small_limit ∷ []) others types tables es pieces x.2 x.0 x.1 refl h x.3 (subst P q are) in
                let M : TypeTree → Type 0 = λ u. RefusesKind (kind_of u) own (innermost x.1) x.0 e in
                subst C (sym q) (list-refused counted (HasFixedList t) above b small_limit (small_item (base own)) t cs others types tables es x.2 x.1 x.0 e (some-columns c t h) (ap small_item is) made (subst M is x.4))
          ]
        ]
    failed own (t_large_list (field n t c md)) b above others types tables es pieces e is h fs are =
        let cs : List ArrowColumn = field_columns (field n t c md) in
        let q = raised-list above b large_limit cs in
        let P : List ArrowColumn → Type 0 = λ xs. AreFlatPieces (xs ++ others) (leaf_types (field n t c md) ++ types) tables es pieces in
        let C : List ArrowColumn → Type 0 = λ xs. Cannot (HasFixedList t) (xs ++ others) tables e in
        elim fs [
          | inl m ↦ inl m
          | inr r ↦ elim r [
            | inl f ↦ subst C (sym q) (failed t t c (above ++ above_list b large_limit ∷ []) others types tables es pieces e refl h f (subst P q are))
            | inr x ↦
                let made = built t t c (above ++ above_list b large_limit ∷ []) others types tables es pieces x.2 x.0 x.1 refl h x.3 (subst P q are) in
                let M : TypeTree → Type 0 = λ u. RefusesKind (kind_of u) own (innermost x.1) x.0 e in
                subst C (sym q) (list-refused counted (HasFixedList t) above b large_limit (large_item (base own)) t cs others types tables es x.2 x.1 x.0 e (some-columns c t h) (ap large_item is) made (subst M is x.4))
          ]
        ]
    failed own (t_map (field n t c md) s) b above others types tables es pieces e is h fs are =
        let cs : List ArrowColumn = field_columns (field n t c md) in
        let q = raised-list above b small_limit cs in
        let P : List ArrowColumn → Type 0 = λ xs. AreFlatPieces (xs ++ others) (leaf_types (field n t c md) ++ types) tables es pieces in
        let C : List ArrowColumn → Type 0 = λ xs. Cannot (HasFixedList t) (xs ++ others) tables e in
        elim fs [
          | inl m ↦ inl m
          | inr r ↦ elim r [
            | inl f ↦ subst C (sym q) (failed t t c (above ++ above_list b small_limit ∷ []) others types tables es pieces e refl h f (subst P q are))
            | inr x ↦
                let made = built t t c (above ++ above_list b small_limit ∷ []) others types tables es pieces x.2 x.0 x.1 refl h x.3 (subst P q are) in
                subst C (sym q) (list-refused counted (HasFixedList t) above b small_limit (map_item (base own)) t cs others types tables es x.2 x.1 x.0 e (some-columns c t h) (ap map_item is) made x.4)
          ]
        ]
    failed own (t_fixed_size_list item k) b above others types tables es pieces e is h fs are = inr (inr (inr (fs, tt)))
    failed own (t_struct fields) b above others types tables es pieces e is h fs are =
        elim fs [
          | inl m ↦ inl m
          | inr r ↦ elim r [
            | inl f ↦ all-failed fields b above others types tables es pieces e h f are
            | inr x ↦
                let end = children-end fields b above others types tables es pieces x.2 x.0 x.1 h x.3 are in
                let made = all-built fields b zero above others types tables es pieces x.2 x.0 x.1 end.end.front end.end.mask end.end.size (λ k. slots_at x.0 k) end.end.parts end.end.nullable (all-full b fields h) x.3 are (λ k i. rw zero-add refl) in
                struct-refused (HaveFixedList fields) above b own fields (columns_from b zero fields) others types tables es x.2 x.1 x.0 e is h end made x.4
          ]
        ]
    failed own (t_extension n t md) b above others types tables es pieces e is h fs are = failed own t b above others types tables es pieces e is h fs are
    failed own t b above others types tables es pieces e is h fs are = leaf-fails ⊥ (raised above (record { way = at_leaf b; limits = []; data_type = t })) own others types tables es pieces e fs are

    all-failed : (fields : FieldTrees) (b : Bool) (above : List Above) (others : List ArrowColumn) (types : List TypeTree) (tables : List (List Triple)) (es : List Entries) (pieces : List ColumnPiece) (e : Error) →
        HasNoEmptyStruct (struct b (shapes_of fields)) → FailsAll fields pieces e → AreFlatPieces (map (raised above) (columns_from b zero fields) ++ others) (all_leaf_types fields ++ types) tables es pieces →
        Cannot (HaveFixedList fields) (map (raised above) (columns_from b zero fields) ++ others) tables e
    all-failed no_fields b above others types tables es pieces e h fs are = absurd h
    all-failed (more_fields (field n t c md) fields) b above others types tables es pieces e h fs are =
        let cs : List ArrowColumn = type_columns c t in
        let ds : List ArrowColumn = columns_from b 1 fields in
        let A : List Above = above ++ above_struct b zero ∷ [] in
        let q = first-columns above b zero cs ds others in
        let D : List ArrowColumn = map (raised above) ds ++ others in
        let are' = first-pieces above b zero cs ds others (leaf_types (field n t c md)) (all_leaf_types fields) types tables es pieces are in
        let F : Type 0 = HasFixedList t ⊎ HaveFixedList fields in
        let C : List ArrowColumn → Type 0 = λ xs. Cannot F xs tables e in
        elim fs [
          | inl m ↦ inl m
          | inr r ↦ elim r [
            | inl f ↦ subst C (sym q) (cannot-fixed (HasFixedList t) F (map (raised A) cs ++ D) tables e (λ x. inl x) (failed t t c A D (all_leaf_types fields ++ types) tables es pieces e refl h.0 f are'))
            | inr x ↦
                let made = built t t c A D (all_leaf_types fields ++ types) tables es pieces x.0 x.1 x.2 refl h.0 x.3 are' in
                let T : List (List Triple) → Type 0 = λ xs. Cannot F (map (raised A) cs ++ D) xs e in
                subst C (sym q) (subst T (sym made.split.tables_are) (first-failed F above b cs D made.split.first made.split.rest x.2 (array_slot x.1) (tree_len x.1) e (some-columns c t h.0) made.split.stood
                (λ c0 ts0 s. elim (others-failed fields b 1 above others types made.split.rest made.split.rest_entries x.0 x.2 c0 ts0 (array_slot x.1) (tree_len x.1) e (omega arith) s made.aligned h.1 x.4 made.split.behind) [
                  | inl y ↦ inl (cannot-fixed (HaveFixedList fields) F D made.split.rest e (λ z. inr z) y)
                  | inr y ↦ inr y
                ])))
          ]
        ]

    others-failed : (fields : FieldTrees) (b : Bool) (place : ℕ) (above : List Above) (others : List ArrowColumn) (types : List TypeTree) (tables : List (List Triple)) (es : List Entries) (pieces : List ColumnPiece) (front : List Kept) (c0 : ArrowColumn) (ts0 : List Triple) (at : ℕ → Slot) (size : ℕ) (e : Error) →
        0 < place → IsStood (above ++ above_struct b zero ∷ []) c0 ts0 front at size → Aligned front (above ++ above_struct b zero ∷ []) → HaveNoEmptyStruct (shapes_of fields) → FailsOthers front fields pieces e → AreFlatPieces (map (raised above) (columns_from b place fields) ++ others) (all_leaf_types fields ++ types) tables es pieces →
        Others (HaveFixedList fields) (raised (above ++ above_struct b zero ∷ []) c0) ts0 (map (raised above) (columns_from b place fields) ++ others) tables e
    others-failed no_fields b place above others types tables es pieces front c0 ts0 at size e later s aligned h fs are = absurd fs
    others-failed (more_fields (field n t c md) fields) b place above others types tables es pieces front c0 ts0 at size e later s aligned h fs are =
        let cs : List ArrowColumn = type_columns c t in
        let ds : List ArrowColumn = columns_from b (suc place) fields in
        let A : List Above = above ++ above_struct b place ∷ [] in
        let q = first-columns above b place cs ds others in
        let D : List ArrowColumn = map (raised above) ds ++ others in
        let c1 : ArrowColumn = raised (above ++ above_struct b zero ∷ []) c0 in
        let are' = first-pieces above b place cs ds others (leaf_types (field n t c md)) (all_leaf_types fields) types tables es pieces are in
        let F : Type 0 = HasFixedList t ⊎ HaveFixedList fields in
        let C : List ArrowColumn → Type 0 = λ xs. Others F c1 ts0 xs tables e in
        elim fs [
          | inl m ↦ inl (inl m)
          | inr r ↦ elim r [
            | inl f ↦ subst C (sym q) (inl (cannot-fixed (HasFixedList t) F (map (raised A) cs ++ D) tables e (λ x. inl x) (failed t t c A D (all_leaf_types fields ++ types) tables es pieces e refl h.0 f are')))
            | inr x ↦
                let made = built t t c A D (all_leaf_types fields ++ types) tables es pieces x.0 x.1 x.2 refl h.0 x.3 are' in
                let sp = made.split in
                let T : List (List Triple) → Type 0 = λ xs. Others F c1 ts0 (map (raised A) cs ++ D) xs e in
                subst C (sym q) (subst T (sym sp.tables_are) (elim x.4 [
                  | inl y ↦ inr (y.0, other-disagrees above b zero place c0 ts0 front x.2 at (array_slot x.1) size (tree_len x.1) cs D sp.first sp.rest (λ z. absurd (omega arith)) (some-columns c t h.0) s aligned sp.stood made.aligned y.1)
                  | inr y ↦ others-later F c1 ts0 A cs D sp.first sp.rest x.2 (array_slot x.1) (tree_len x.1) e sp.stood
                      (elim (others-failed fields b (suc place) above others types sp.rest sp.rest_entries x.0 front c0 ts0 at size e (omega arith) s aligned h.1 y.1 sp.behind) [
                        | inl z ↦ inl (cannot-fixed (HaveFixedList fields) F D sp.rest e (λ u. inr u) z)
                        | inr z ↦ inr z
                      ])
                ]))
          ]
        ]

  pub field-failed : (f : FieldTree) (tables : List (List Triple)) (es : List Entries) (pieces : List ColumnPiece) (e : Error) → HasNoEmptyStruct (shape_of f) → HaveFlatEntries f → FailsField f pieces e → ArePiecesOf (field_columns f) (leaf_types f) tables es pieces → CannotJoin f tables e
  field-failed (field n t b md) tables es pieces e full flat h are =
      let cs : List ArrowColumn = type_columns b t in
      let f = field n t b md in
      let P : List ArrowColumn → Type 0 = λ ds. AreFlatPieces ds (leaf_types f ++ []) tables es pieces in
      let Q : List TypeTree → Type 0 = λ ts. AreFlatPieces cs ts tables es pieces in
      let q : map (raised []) cs ++ [] ≡ cs = append-nil (map (raised []) cs) ∙ raised-none cs in
      let are' : P (map (raised []) cs ++ []) = subst P (sym q) (subst Q (sym (append-nil (leaf_types f))) (flat-pieces cs (leaf_types f) tables es pieces (recursion_from_All (λ c. HasFlatEntries c.data_type) cs flat) are)) in
      let C : List ArrowColumn → Type 0 = λ ds. Cannot (HasFixedList t) ds tables e in
      subst C q (failed t t b [] [] [] tables es pieces e refl full h are')
