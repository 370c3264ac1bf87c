-- What stands for what while the array of a field is put together.
use Rattle.std.proofs.Common.{◌≡◌, ℕ, ◌<◌, Bool, is_some, Option, Some, List, [], ◌∷◌, ◌++◌, map, length, refl, arith, ap, sym, ◌∙◌, subst, append_assoc, length-append}
use Rattle.shredding.specs.Along.{thin}
use Rattle.shredding.specs.Shape.{at_leaf, in_list, in_struct}
use Rattle.shredding.specs.Shred.{Triple}
use Rattle.shredding.specs.Slot.{Slot, Slots, fields, slot_at}
use Rattle.columns_core.specs.Tree.{TypeTree}
use Rattle.columns_slots.specs.Slots.{masked, slot_at as array_slot, tree_len}
use Rattle.columns_slots.specs.Tree.{ArrayTree}
use Rattle.read_laws.specs.Column.{slot_of}
use Rattle.read_laws.specs.State.{Kept, kept_leaf, kept_list, kept_struct, kept_way, leaf_count, StateFits}
use Rattle.read_pieces.specs.Pieces.{IsPiece}
use Rattle.pq_headline.specs.Columns.{ArrowColumn, beneath_list, beneath_struct}
pub use Rattle.read_nested.specs.Beneath.{Aligned, IsStood, AllStood}
use Rattle.read_nested.specs.Above.{Above, above_list, above_struct, way_beneath, raised}
use Rattle.read_nested.specs.Joined.{HasFlatEntries}
use Rattle.read_nested.specs.Keeps.{Stands, IsFlat, list_of_part}
use Rattle.read_nested.specs.Made.{innermost}
use Rattle.read_nested.proofs.Keeps.{lists-kept, structs-kept}

-- ---- columns beneath parts
pub raised-list-one : (above : List Above) (n : Bool) (l : ℕ) (c : ArrowColumn) → raised above (beneath_list n l c) ≡ raised (above ++ above_list n l ∷ []) c
raised-list-one [] n l c = refl
raised-list-one (above_list m k ∷ above) n l c = ap (beneath_list m k) (raised-list-one above n l c)
raised-list-one (above_struct m k ∷ above) n l c = ap (beneath_struct m k) (raised-list-one above n l c)

pub raised-struct-one : (above : List Above) (n : Bool) (i : ℕ) (c : ArrowColumn) → raised above (beneath_struct n i c) ≡ raised (above ++ above_struct n i ∷ []) c
raised-struct-one [] n i c = refl
raised-struct-one (above_list m k ∷ above) n i c = ap (beneath_list m k) (raised-struct-one above n i c)
raised-struct-one (above_struct m k ∷ above) n i c = ap (beneath_struct m k) (raised-struct-one above n i c)

pub raised-list : (above : List Above) (n : Bool) (l : ℕ) (cs : List ArrowColumn) → map (raised above) (map (beneath_list n l) cs) ≡ map (raised (above ++ above_list n l ∷ [])) cs
raised-list above n l [] = refl
raised-list above n l (c ∷ cs) = let e = raised-list-one above n l c in let f = raised-list above n l cs in cc (e, f)

pub raised-struct : (above : List Above) (n : Bool) (i : ℕ) (cs : List ArrowColumn) → map (raised above) (map (beneath_struct n i) cs) ≡ map (raised (above ++ above_struct n i ∷ [])) cs
raised-struct above n i [] = refl
raised-struct above n i (c ∷ cs) = let e = raised-struct-one above n i c in let f = raised-struct above n i cs in cc (e, f)

pub raised-way : (above : List Above) (c : ArrowColumn) → (raised above c).way ≡ way_beneath above c.way
raised-way [] c = refl
raised-way (above_list m k ∷ above) c = ap (in_list m) (raised-way above c)
raised-way (above_struct m k ∷ above) c = ap (in_struct m k) (raised-way above c)

pub raised-type : (above : List Above) (c : ArrowColumn) → (raised above c).data_type ≡ c.data_type
raised-type [] c = refl
raised-type (above_list m k ∷ above) c = raised-type above c
raised-type (above_struct m k ∷ above) c = raised-type above c

-- ---- parts that are those above
none-above : (k : Kept) (front : List Kept) → Aligned (k ∷ front) [] → ⊥
none-above (kept_leaf n c) front h = h
none-above (kept_list m starts) front h = h
none-above (kept_struct m c) front h = h

pub aligned-length : (front : List Kept) (above : List Above) → Aligned front above → length front ≡ length above
aligned-length [] [] h = refl
aligned-length [] (a ∷ above) h = absurd h
aligned-length (k ∷ front) [] h = absurd (none-above k front h)
aligned-length (kept_leaf n c ∷ front) (a ∷ above) h = absurd h
aligned-length (kept_list m starts ∷ front) (above_list n l ∷ above) h = let e = aligned-length front above h.1 in omega arith
aligned-length (kept_list m starts ∷ front) (above_struct n l ∷ above) h = absurd h
aligned-length (kept_struct m starts ∷ front) (above_struct n l ∷ above) h = let e = aligned-length front above h.1 in omega arith
aligned-length (kept_struct m starts ∷ front) (above_list n l ∷ above) h = absurd h

pub record IsListEnd (old : List Kept) (above : List Above) (n : Bool) : Type 0 where
  pub front : List Kept
  pub mask : Option (List Bool)
  pub starts : List ℕ
  pub parts : old ≡ front ++ kept_list mask starts ∷ []
  pub nullable : is_some mask ≡ n
  pub aligned : Aligned front above

pub list-end : (old : List Kept) (above : List Above) (n : Bool) (l : ℕ) → Aligned old (above ++ above_list n l ∷ []) → IsListEnd old above n
list-end [] [] n l h = absurd h
list-end [] (a ∷ above) n l h = absurd h
list-end (kept_leaf b c ∷ old) [] n l h = absurd h
list-end (kept_leaf b c ∷ old) (a ∷ above) n l h = absurd h
list-end (kept_struct m c ∷ old) [] n l h = absurd h
list-end (kept_list m starts ∷ []) [] n l h = record { front = []; mask = m; starts = starts; parts = refl; nullable = h.0; aligned = tt }
list-end (kept_list m starts ∷ (k ∷ old)) [] n l h = absurd (none-above k old h.1)
list-end (kept_list m starts ∷ old) (above_list b i ∷ above) n l h =
    let r = list-end old above n l h.1 in
    record { front = kept_list m starts ∷ r.front; mask = r.mask; starts = r.starts; parts = ap (λ (ks : List Kept). kept_list m starts ∷ ks) r.parts; nullable = r.nullable; aligned = (h.0, r.aligned) }
list-end (kept_list m starts ∷ old) (above_struct b i ∷ above) n l h = absurd h
list-end (kept_struct m c ∷ old) (above_struct b i ∷ above) n l h =
    let r = list-end old above n l h.1 in
    record { front = kept_struct m c ∷ r.front; mask = r.mask; starts = r.starts; parts = ap (λ (ks : List Kept). kept_struct m c ∷ ks) r.parts; nullable = r.nullable; aligned = (h.0, r.aligned) }
list-end (kept_struct m c ∷ old) (above_list b i ∷ above) n l h = absurd h

pub record IsStructEnd (old : List Kept) (above : List Above) (n : Bool) : Type 0 where
  pub front : List Kept
  pub mask : Option (List Bool)
  pub size : ℕ
  pub parts : old ≡ front ++ kept_struct mask size ∷ []
  pub nullable : is_some mask ≡ n
  pub aligned : Aligned front above

pub struct-end : (old : List Kept) (above : List Above) (n : Bool) (l : ℕ) → Aligned old (above ++ above_struct n l ∷ []) → IsStructEnd old above n
struct-end [] [] n l h = absurd h
struct-end [] (a ∷ above) n l h = absurd h
struct-end (kept_leaf b c ∷ old) [] n l h = absurd h
struct-end (kept_leaf b c ∷ old) (a ∷ above) n l h = absurd h
struct-end (kept_list m c ∷ old) [] n l h = absurd h
struct-end (kept_struct m c ∷ []) [] n l h = record { front = []; mask = m; size = c; parts = refl; nullable = h.0; aligned = tt }
struct-end (kept_struct m c ∷ (k ∷ old)) [] n l h = absurd (none-above k old h.1)
struct-end (kept_list m starts ∷ old) (above_list b i ∷ above) n l h =
    let r = struct-end old above n l h.1 in
    record { front = kept_list m starts ∷ r.front; mask = r.mask; size = r.size; parts = ap (λ (ks : List Kept). kept_list m starts ∷ ks) r.parts; nullable = r.nullable; aligned = (h.0, r.aligned) }
struct-end (kept_list m starts ∷ old) (above_struct b i ∷ above) n l h = absurd h
struct-end (kept_struct m c ∷ old) (above_struct b i ∷ above) n l h =
    let r = struct-end old above n l h.1 in
    record { front = kept_struct m c ∷ r.front; mask = r.mask; size = r.size; parts = ap (λ (ks : List Kept). kept_struct m c ∷ ks) r.parts; nullable = r.nullable; aligned = (h.0, r.aligned) }
struct-end (kept_struct m c ∷ old) (above_list b i ∷ above) n l h = absurd h

-- the innermost part of parts that end in it
pub innermost-end : (front : List Kept) (k : Kept) → innermost (front ++ k ∷ []) ≡ Some k
innermost-end [] k = refl
innermost-end (f ∷ []) k = refl
innermost-end (f ∷ (g ∷ front)) k = innermost-end (g ∷ front) k

pub record IsLeafEnd (old : List Kept) (above : List Above) (n : Bool) : Type 0 where
  pub front : List Kept
  pub size : ℕ
  pub parts : old ≡ front ++ kept_leaf n size ∷ []
  pub aligned : Aligned front above

-- a state of a way beneath parts ends in its leaf
pub leaf-end : (old : List Kept) (above : List Above) (n : Bool) → StateFits old → kept_way old ≡ thin (way_beneath above (at_leaf n)) → IsLeafEnd old above n
leaf-end [] above n f h = absurd f
leaf-end (kept_leaf b c ∷ []) [] n f h = let e : b ≡ n = cc in record { front = []; size = c; parts = rw e refl; aligned = tt }
leaf-end (kept_leaf b c ∷ (k ∷ old)) above n f h = absurd (omega (arith, f))
leaf-end (kept_leaf b c ∷ old) (above_list m l ∷ above) n f h = absurd (cc)
leaf-end (kept_leaf b c ∷ old) (above_struct m l ∷ above) n f h = absurd (cc)
leaf-end (kept_list b c ∷ old) [] n f h = absurd (cc)
leaf-end (kept_struct b c ∷ old) [] n f h = absurd (cc)
leaf-end (kept_list m starts ∷ old) (above_list b l ∷ above) n f h =
    let e : is_some m ≡ b = cc in
    let g : kept_way old ≡ thin (way_beneath above (at_leaf n)) = cc in
    let r = leaf-end old above n f.3 g in
    record { front = kept_list m starts ∷ r.front; size = r.size; parts = ap (λ (ks : List Kept). kept_list m starts ∷ ks) r.parts; aligned = (e, r.aligned) }
leaf-end (kept_list m starts ∷ old) (above_struct b l ∷ above) n f h = absurd (cc)
leaf-end (kept_struct m c ∷ old) (above_struct b l ∷ above) n f h =
    let e : is_some m ≡ b = cc in
    let g : kept_way old ≡ thin (way_beneath above (at_leaf n)) = cc in
    let r = leaf-end old above n f.2 g in
    record { front = kept_struct m c ∷ r.front; size = r.size; parts = ap (λ (ks : List Kept). kept_struct m c ∷ ks) r.parts; aligned = (e, r.aligned) }
leaf-end (kept_struct m c ∷ old) (above_list b l ∷ above) n f h = absurd (cc)

-- the last part of a list is one
pub last-same : (xs ys : List Kept) (x y : Kept) → xs ++ x ∷ [] ≡ ys ++ y ∷ [] → (xs ≡ ys) × (x ≡ y)
last-same [] [] x y e = (refl, cc)
last-same [] (k ∷ []) x y e = absurd (cc)
last-same [] (k ∷ (l ∷ ys)) x y e = absurd (cc)
last-same (k ∷ []) [] x y e = absurd (cc)
last-same (k ∷ (l ∷ xs)) [] x y e = absurd (cc)
last-same (k ∷ xs) (l ∷ ys) x y e =
    let h : k ≡ l = cc in
    let t : xs ++ x ∷ [] ≡ ys ++ y ∷ [] = cc in
    let r = last-same xs ys x y t in
    let g = r.0 in
    (cc (h, g), r.1)

pub fits-back : (front back : List Kept) → 0 < length back → StateFits (front ++ back) → StateFits back
fits-back [] back some f = f
fits-back (kept_leaf n c ∷ front) back some f = absurd (omega (arith, f, length-append front back))
fits-back (kept_list m starts ∷ front) back some f = fits-back front back some f.3
fits-back (kept_struct m c ∷ front) back some f = fits-back front back some f.2

pub leaf_count-end : (front : List Kept) (n : Bool) (c : ℕ) → StateFits (front ++ kept_leaf n c ∷ []) → leaf_count (front ++ kept_leaf n c ∷ []) ≡ c
leaf_count-end [] n c f = refl
leaf_count-end (kept_leaf m d ∷ front) n c f = absurd (omega (arith, f, length-append front (kept_leaf n c ∷ [])))
leaf_count-end (kept_list m starts ∷ front) n c f = leaf_count-end front n c f.3
leaf_count-end (kept_struct m d ∷ front) n c f = leaf_count-end front n c f.2

-- ---- a column whose parts, but those in front, stand for slots
pub stood-back : (above : List Above) (c : ArrowColumn) (ts : List Triple) (front : List Kept) (k : Kept) (at : ℕ → Slot) (n : ℕ) (s : IsStood above c ts (front ++ k ∷ []) at n) → StateFits (k ∷ s.back)
stood-back above c ts front k at n s =
    let f : StateFits (front ++ (k ∷ s.back)) = rw append_assoc at (rw s.parts at s.is.fits) in
    fits-back front (k ∷ s.back) (omega arith) f

list-one : (above : List Above) (b : Bool) (l : ℕ) (c : ArrowColumn) (ts : List Triple) (front : List Kept) (t : TypeTree) (m : Option (List Bool)) (starts : List ℕ) (a : ArrayTree) → is_some m ≡ b → IsStood (above ++ above_list b l ∷ []) c ts (front ++ kept_list m starts ∷ []) (array_slot a) (tree_len a) → IsStood above (beneath_list b l c) ts front (array_slot (list_of_part t m starts a)) (tree_len (list_of_part t m starts a))
list-one above b l c ts front t m starts a e s =
    let f = stood-back (above ++ above_list b l ∷ []) c ts front (kept_list m starts) (array_slot a) (tree_len a) s in
    let made = lists-kept (slot_of s.leaf) c.way s.back t m starts a f s.stands in
    let W : ArrowColumn → Type 0 = λ d. IsPiece d.way ts s.state s.leaf in
    let S : Bool → Type 0 = λ n. Stands (slot_of s.leaf) (in_list n c.way) (kept_list m starts ∷ s.back) (array_slot (list_of_part t m starts a)) (tree_len (list_of_part t m starts a)) in
    record {
      leaf = s.leaf;
      state = s.state;
      is = subst W (sym (raised-list-one above b l c)) s.is;
      back = kept_list m starts ∷ s.back;
      some = omega arith;
      parts = s.parts ∙ append_assoc front (kept_list m starts ∷ []) s.back;
      stands = subst S e made;
      flat = s.flat;
      plain = s.plain;
    }

pub list-all : (above : List Above) (b : Bool) (l : ℕ) (cs : List ArrowColumn) (tables : List (List Triple)) (front : List Kept) (t : TypeTree) (m : Option (List Bool)) (starts : List ℕ) (a : ArrayTree) → is_some m ≡ b → AllStood (above ++ above_list b l ∷ []) cs tables (front ++ kept_list m starts ∷ []) (array_slot a) (tree_len a) → AllStood above (map (beneath_list b l) cs) tables front (array_slot (list_of_part t m starts a)) (tree_len (list_of_part t m starts a))
list-all above b l [] [] front t m starts a e s = tt
list-all above b l [] (ts ∷ tables) front t m starts a e s = absurd s
list-all above b l (c ∷ cs) [] front t m starts a e s = absurd s
list-all above b l (c ∷ cs) (ts ∷ tables) front t m starts a e s = (list-one above b l c ts front t m starts a e s.0, list-all above b l cs tables front t m starts a e s.1)

struct-one : (above : List Above) (b : Bool) (i : ℕ) (c : ArrowColumn) (ts : List Triple) (front : List Kept) (m : Option (List Bool)) (n : ℕ) (at : ℕ → Slot) (whole : ℕ → Slots) → is_some m ≡ b → ((k : ℕ) → slot_at (whole k) i ≡ at k) → IsStood (above ++ above_struct b i ∷ []) c ts (front ++ kept_struct m n ∷ []) at n → IsStood above (beneath_struct b i c) ts front (λ k. masked m k (fields (whole k))) n
struct-one above b i c ts front m n at whole e same s =
    let f = stood-back (above ++ above_struct b i ∷ []) c ts front (kept_struct m n) at n s in
    let inner : Stands (slot_of s.leaf) c.way s.back (λ k. slot_at (whole k) i) n = record { way = s.stands.way; count = s.stands.count; seen = λ k h. rw (same k) (s.stands.seen k h) } in
    let made = structs-kept (slot_of s.leaf) c.way s.back m n i whole f inner in
    let W : ArrowColumn → Type 0 = λ d. IsPiece d.way ts s.state s.leaf in
    let S : Bool → Type 0 = λ v. Stands (slot_of s.leaf) (in_struct v i c.way) (kept_struct m n ∷ s.back) (λ k. masked m k (fields (whole k))) n in
    record {
      leaf = s.leaf;
      state = s.state;
      is = subst W (sym (raised-struct-one above b i c)) s.is;
      back = kept_struct m n ∷ s.back;
      some = omega arith;
      parts = s.parts ∙ append_assoc front (kept_struct m n ∷ []) s.back;
      stands = subst S e made;
      flat = s.flat;
      plain = s.plain;
    }

pub struct-all : (above : List Above) (b : Bool) (i : ℕ) (cs : List ArrowColumn) (tables : List (List Triple)) (front : List Kept) (m : Option (List Bool)) (n : ℕ) (at : ℕ → Slot) (whole : ℕ → Slots) → is_some m ≡ b → ((k : ℕ) → slot_at (whole k) i ≡ at k) → AllStood (above ++ above_struct b i ∷ []) cs tables (front ++ kept_struct m n ∷ []) at n → AllStood above (map (beneath_struct b i) cs) tables front (λ k. masked m k (fields (whole k))) n
struct-all above b i [] [] front m n at whole e same s = tt
struct-all above b i [] (ts ∷ tables) front m n at whole e same s = absurd s
struct-all above b i (c ∷ cs) [] front m n at whole e same s = absurd s
struct-all above b i (c ∷ cs) (ts ∷ tables) front m n at whole e same s = (struct-one above b i c ts front m n at whole e same s.0, struct-all above b i cs tables front m n at whole e same s.1)

pub stood-append : (above : List Above) (cs ds : List ArrowColumn) (ts us : List (List Triple)) (front : List Kept) (at : ℕ → Slot) (n : ℕ) → AllStood above cs ts front at n → AllStood above ds us front at n → AllStood above (cs ++ ds) (ts ++ us) front at n
stood-append above [] ds [] us front at n s t = t
stood-append above [] ds (x ∷ ts) us front at n s t = absurd s
stood-append above (c ∷ cs) ds [] us front at n s t = absurd s
stood-append above (c ∷ cs) ds (x ∷ ts) us front at n s t = (s.0, stood-append above cs ds ts us front at n s.1 t)
