-- Parts of a way, and the rows of a state.
use Rattle.std.proofs.Common.{◌≡◌, ℕ, zero, suc, ◌+◌, ◌-◌, ◌^◌, ◌<◌, Bool, true, cond, nat_eq, List, [], ◌∷◌, ◌++◌, map, length, refl, arith, ap, sym, ◌∙◌}
use Rattle.std.proofs.lemmas.List.Sums.{sum_by-append, sum_by-cons}
use Rattle.shredding.specs.Along.{thin}
use Rattle.shredding.specs.Local.{inside}
use Rattle.shredding.specs.Parts.{slots_from}
use Rattle.shredding.specs.Shape.{Way, at_leaf, in_list, in_struct}
use Rattle.shredding.specs.Shred.{up, Triple, max_definition, max_repetition}
use Rattle.shredding.specs.Slot.{Slot}
use Rattle.shredding.proofs.Counts.{counted}
use Rattle.pq_files.specs.Page.{rows_in}
use Rattle.read_laws.specs.Column.{kept_column, slot_of}
use Rattle.read_laws.specs.State.{Kept, count, kept_slot, kept_slots, kept_way}
use Rattle.read_pieces.specs.Pieces.{empty_state}
use Rattle.read_state.specs.declared.init.InitNested.{InitNested}
use Rattle.read_state.specs.declared.init.InitNested.TheVariants.{Primitive, List as ListOf, Struct}
use Rattle.read_state.specs.Initial.{initial, IsWay}
use Rattle.read_state.proofs.Empty.{begin-empty}
use Rattle.read_walk.specs.Pairs.{Item}
use Rattle.read_walk.specs.Values.{Stored}
use Rattle.read_walk.specs.Walk.{Extends, pair_of, begun, begins}
use Rattle.pq_headline.specs.Columns.{is_alone}
use Rattle.read_column.specs.Queues.{ends_in_leaf, is_leaf_alone, IsSound}

-- ---- ways
pub ends-way : (parts : List InitNested) → ends_in_leaf parts ≡ true → (w : Way) × IsWay parts w
ends-way [] e = absurd (cc e)
ends-way (Primitive n ∷ []) e = (at_leaf n, (refl, refl))
ends-way (Primitive n ∷ part ∷ parts) e = absurd (cc e)
ends-way (ListOf n ∷ parts) e = let r = ends-way parts e in (in_list n r.0, (r.0, r.1, refl))
ends-way (Struct n ∷ parts) e = let r = ends-way parts e in (in_struct n zero r.0, (r.0, r.1, refl))

no-more : (n : Bool) (parts : List InitNested) → parts ≡ [] → ends_in_leaf (Primitive n ∷ parts) ≡ true
no-more n [] e = refl
no-more n (part ∷ parts) e = absurd (cc e)

pub way-ends : (parts : List InitNested) (w : Way) → IsWay parts w → ends_in_leaf parts ≡ true
way-ends [] w h = absurd h
way-ends (Primitive n ∷ parts) w h = no-more n parts h.0
way-ends (ListOf n ∷ parts) w h = way-ends parts h.0 h.1
way-ends (Struct n ∷ parts) w h = way-ends parts h.0 h.1

alone-thin : (w : Way) → is_alone (thin w) ≡ is_alone w
alone-thin (at_leaf n) = refl
alone-thin (in_list n w) = refl
alone-thin (in_struct n i w) = refl

-- a way is no more than its leaf where its parts are
alone-parts : (parts : List InitNested) (w : Way) → IsWay parts w → is_leaf_alone parts ≡ is_alone w
alone-parts [] w h = absurd h
alone-parts (Primitive n ∷ []) w h = rw h.1 refl
alone-parts (Primitive n ∷ part ∷ parts) w h = absurd (cc h.0)
alone-parts (ListOf n ∷ parts) w h = rw h.2 refl
alone-parts (Struct n ∷ parts) w h = rw h.2 refl

pub way-alone : (parts : List InitNested) (w : Way) → IsWay parts (thin w) → is_leaf_alone parts ≡ is_alone w
way-alone parts w h = alone-parts parts (thin w) h ∙ alone-thin w

pub initial-empty : (parts : List InitNested) (w : Way) → IsWay parts w → map initial parts ≡ empty_state w
initial-empty [] w h = absurd h
initial-empty (Primitive n ∷ parts) w h = rw (h.0, h.1) refl
initial-empty (ListOf n ∷ parts) w h = rw h.2 (ap (λ (ks : List Kept). initial (ListOf n) ∷ ks) (initial-empty parts h.0 h.1))
initial-empty (Struct n ∷ parts) w h = rw h.2 (ap (λ (ks : List Kept). initial (Struct n) ∷ ks) (initial-empty parts h.0 h.1))

pub empty-thin : (w : Way) → empty_state (thin w) ≡ empty_state w
empty-thin (at_leaf n) = refl
empty-thin (in_list n w) = rw (empty-thin w) refl
empty-thin (in_struct n i w) = rw (empty-thin w) refl

pub repetition-thin : (w : Way) → max_repetition (thin w) ≡ max_repetition w
repetition-thin (at_leaf n) = refl
repetition-thin (in_list n w) = ap suc (repetition-thin w)
repetition-thin (in_struct n i w) = repetition-thin w

pub definition-thin : (w : Way) → max_definition (thin w) ≡ max_definition w
definition-thin (at_leaf n) = refl
definition-thin (in_list n w) = ap (λ (d : ℕ). up n (suc d)) (definition-thin w)
definition-thin (in_struct n i w) = ap (up n) (definition-thin w)

pub inside-thin : (w : Way) (r : ℕ) → inside (thin w) r ≡ inside w r
inside-thin w zero = refl
inside-thin (at_leaf n) (suc r) = refl
inside-thin (in_list n w) (suc r) = ap (λ (d : ℕ). up n (suc d)) (inside-thin w r)
inside-thin (in_struct n i w) (suc r) = ap (up n) (inside-thin w (suc r))

-- ---- the rows of a state
none-initial : (parts : List InitNested) → count (map initial parts) ≡ 0
none-initial [] = refl
none-initial (Primitive n ∷ parts) = refl
none-initial (ListOf n ∷ parts) = refl
none-initial (Struct n ∷ parts) = refl

pub sound-begun : (parts : List InitNested) (ks : List Kept) (slots : List Slot) (rows left : ℕ) → ends_in_leaf parts ≡ true → ks ≡ map initial parts → slots ≡ [] → rows + left < 2 ^ 64 → IsSound parts ks slots rows left
sound-begun parts ks slots rows left e k s few =
    let w = ends-way parts e in
    let empty = begin-empty parts w.0 w.1 in
    record {
      way = e;
      fits = rw k empty.fits;
      decoded = rw (s, k) (sym empty.leaf);
      room = omega (arith, ap count k, none-initial parts);
      few = few;
    }

length-from : (at : ℕ → Slot) (place n : ℕ) → length (slots_from at place n) ≡ n
unfolding slots_from
length-from at place zero = refl
length-from at place (suc n) = ap suc (length-from at (place + 1) n)

length-kept : (leaf : ℕ → Slot) (ks : List Kept) → length (kept_slots leaf ks) ≡ count ks
unfolding kept_slots
length-kept leaf ks = length-from (kept_slot leaf ks) 0 (count ks)

pub rows-kept : (leaf : ℕ → Slot) (ks : List Kept) → rows_in (kept_column leaf ks) ≡ count ks
rows-kept leaf ks = counted (kept_way ks) (kept_slots leaf ks) ∙ length-kept leaf ks

pub rows-append : (xs ys : List Triple) → rows_in (xs ++ ys) ≡ rows_in xs + rows_in ys
rows-append xs ys = sum_by-append (λ (t : Triple). cond (nat_eq t.repetition 0) 1 0) xs ys

pub rows-cons : (t : Triple) (ts : List Triple) → rows_in (t ∷ ts) ≡ cond (nat_eq t.repetition 0) 1 0 + rows_in ts
rows-cons t ts = sum_by-cons (λ (u : Triple). cond (nat_eq u.repetition 0) 1 0) t ts

pub begun-pairs : (ts : List Triple) → begun (map pair_of ts) ≡ rows_in ts
begun-pairs [] = refl
begun-pairs (t ∷ ts) = sum_by-cons (λ (p : ℕ × ℕ). cond (begins p) 1 0) (pair_of t) (map pair_of ts) ∙ (ap (λ (n : ℕ). cond (nat_eq t.repetition 0) 1 0 + n) (begun-pairs ts) ∙ sym (rows-cons t ts))

pub rows-extended : (rows : ℕ) (page page' : List Item) (left left' : List Stored) (ks ks' : List Kept) (slots slots' : List Slot) (e : Extends rows page page' left left' ks ks' slots slots') → count ks' ≡ count ks + rows_in e.triples
rows-extended rows page page' left left' ks ks' slots slots' e =
    omega (arith, rows-kept (slot_of slots') ks', rows-kept (slot_of slots) ks, ap rows_in e.column, rows-append (kept_column (slot_of slots) ks) e.triples)

pub sound-extended : (parts : List InitNested) (rows behind : ℕ) (page page' : List Item) (left left' : List Stored) (ks ks' : List Kept) (slots slots' : List Slot) → IsSound parts ks slots rows behind → Extends (rows - count ks) page page' left left' ks ks' slots slots' → IsSound parts ks' slots' rows behind
sound-extended parts rows behind page page' left left' ks ks' slots slots' s e = record {
  way = s.way;
  fits = e.fits;
  decoded = e.decoded;
  room = omega (arith, s.room, e.most, begun-pairs e.triples, rows-extended (rows - count ks) page page' left left' ks ks' slots slots' e);
  few = s.few;
}
