-- Where an object's bytes stand in others, and that what is read there is the object.
use Rattle.std.proofs.Common.{◌≡◌, ℕ, suc, ℤ, ◌+◌, ◌-◌, ◌*◌, ◌%◌, ◌^◌, ◌≤◌, ◌<◌, true, false, ltb, eqb, List, [], ◌∷◌, ◌++◌, length, take, drop, flat_map, replicate, Option, Some, None, IsUtf8, FitsSigned, refl, sym, ap, subst, ◌∙◌, append_assoc, arith, Fits, of_z}
use Rattle.std.specs.Int.{w8, w16, w32, to_le_bytes, from_le_bytes, cast_unsigned}
use Rattle.std.specs.Str.{is_utf8}
use Rattle.std.proofs.lemmas.Bool.{le-ltb, lt-ltb, ne_eqb}
use Rattle.std.proofs.lemmas.List.{take_at, drop_at, length-append, length-replicate}
use Rattle.std.proofs.lemmas.Nat.{from_le_bytes-to_le_bytes_2, from_le_bytes-to_le_bytes_4}
use Rattle.std.proofs.lemmas.Str.{is_utf8-from_IsUtf8}
use Rattle.std.proofs.Math.Facts.{to_z-of_z, Fits-of_z}
use Rattle.schema_codec.specs.Parse.{◌>>=◌}
use Rattle.schema_codec.specs.Ranges.{AreIds, max_length}
use Rattle.schema_codec.specs.Spelling.{count_bytes, size_bytes, id_bytes}
use Rattle.schema_fb.specs.Layout.{Cell, absent, number, below, Cells, no_cells, more_cells, Object, text, numbers, vector, table, Objects, no_objects, more_objects, object_bytes, front, gap, padded, offset, offsets, objects_bytes, count, vtable, table_size, entry, entries, cells_bytes, below_bytes, slots, short_bytes}
use Rattle.schema_fb.specs.Places.{bytes_at, byte_at, short_at, word_at, follow, Table, table_at, sized, before, slot, entry_of, present, text_at, numbers_at}

-- the part stands at the place
pub record Stands (bytes : List ℕ) (place : ℕ) (part : List ℕ) : Type 0 where
  pub before : List ℕ
  pub after : List ℕ
  pub whole : bytes ≡ before ++ part ++ after
  pub there : length before ≡ place

abbrev pub At : List ℕ → ℕ → Object → Type 0
At bytes place o = Stands bytes place (object_bytes o)

-- the offsets from the slot on lead to the objects, which stand from the start on
abbrev pub Lead : List ℕ → ℕ → ℕ → Objects → Type 0
Lead bytes place start no_objects = Unit {0}
Lead bytes place start (more_objects o os) = (follow bytes place ≡ Some (start + front o)) × At bytes start o × Lead bytes (place + 4) (start + length (object_bytes o)) os

-- the slots of a table from the i-th on are these cells, and what they point at stands from the start on
abbrev pub InSlots : List ℕ → Table → ℕ → ℕ → Cells → Type 0
InSlots bytes t i start no_cells = Unit {0}
InSlots bytes t i start (more_cells absent cs) = (slot bytes t i ≡ None) × InSlots bytes t (suc i) start cs
InSlots bytes t i start (more_cells (number n) cs) = (place : ℕ) × (slot bytes t i ≡ Some place) × Stands bytes place (size_bytes n) × InSlots bytes t (suc i) start cs
InSlots bytes t i start (more_cells (below o) cs) = (place : ℕ) × (slot bytes t i ≡ Some place) × (follow bytes place ≡ Some (start + front o)) × At bytes start o × InSlots bytes t (suc i) (start + length (object_bytes o)) cs

-- ---- parts of parts

regrouped : (f x y r : List ℕ) → (f ++ (x ++ y)) ++ r ≡ ((f ++ x) ++ y) ++ r
regrouped f x y r = ap (λ (t : List ℕ). t ++ r) (sym (append_assoc f x y))

pub stands_first : (b : List ℕ) (p : ℕ) (x y : List ℕ) → Stands b p (x ++ y) → Stands b p x
stands_first b p x y s = record { before = s.before; after = y ++ s.after; whole = s.whole ∙ regrouped s.before x y s.after ∙ append_assoc (s.before ++ x) y s.after; there = s.there }

pub stands_second : (b : List ℕ) (p : ℕ) (x y : List ℕ) → Stands b p (x ++ y) → Stands b (p + length x) y
stands_second b p x y s = record { before = s.before ++ x; after = s.after; whole = s.whole ∙ regrouped s.before x y s.after; there = omega (arith, length-append s.before x, s.there) }

pub stands_within : (b : List ℕ) (p : ℕ) (x : List ℕ) → Stands b p x → p + length x ≤ length b
stands_within b p x s = omega (arith, s.there, ap length s.whole, length-append (s.before ++ x) s.after, length-append s.before x)

pub stands_moved : (b : List ℕ) (p q : ℕ) (x : List ℕ) → p ≡ q → Stands b p x → Stands b q x
stands_moved b p q x same s = record { before = s.before; after = s.after; whole = s.whole; there = s.there ∙ same }

pub stands_as : (b : List ℕ) (p : ℕ) (x y : List ℕ) → x ≡ y → Stands b p x → Stands b p y
stands_as b p x y same s = subst (λ (t : List ℕ). Stands b p t) same s

-- ---- so many bytes

pub part_of : (b : List ℕ) (p n : ℕ) (x : List ℕ) → length x ≡ n → Stands b p x → take n (drop p b) ≡ x
part_of b p n x size s =
    let rest : drop p b ≡ x ++ s.after = ap (drop p) (s.whole ∙ append_assoc s.before x s.after) ∙ drop_at s.before (x ++ s.after) p s.there in
    ap (take n) rest ∙ take_at x s.after n size

pub bytes_stand : (b : List ℕ) (p n : ℕ) (x : List ℕ) → length x ≡ n → Stands b p x → bytes_at n b p ≡ Some x
bytes_stand b p n x size s =
    let long : ltb (length b) (p + n) ≡ false = le-ltb _ _ (omega (arith, stands_within b p x s)) in
    rw (long, part_of b p n x size s) refl

-- ---- numbers

word_bytes : (b : List ℕ) (p n : ℕ) → n < 2 ^ 32 → Stands b p (to_le_bytes w32 n) → word_at b p ≡ Some n
unfolding word_at
word_bytes b p n small s =
    ap (λ (r : Option (List ℕ)). r >>= λ x. Some (from_le_bytes w32 x)) (bytes_stand b p 4 (to_le_bytes w32 n) refl s)
    ∙ ap (λ (m : ℕ). Some m) (from_le_bytes-to_le_bytes_4 n small)

short_stands : (b : List ℕ) (p n : ℕ) → n < 2 ^ 16 → Stands b p (to_le_bytes w16 n) → short_at b p ≡ Some n
unfolding short_at
short_stands b p n small s =
    ap (λ (r : Option (List ℕ)). r >>= λ x. Some (from_le_bytes w16 x)) (bytes_stand b p 2 (to_le_bytes w16 n) refl s)
    ∙ ap (λ (m : ℕ). Some m) (from_le_bytes-to_le_bytes_2 n small)

pub word_stands : (b : List ℕ) (p n : ℕ) → n < 2 ^ 32 → Stands b p (count_bytes n) → word_at b p ≡ Some n
unfolding count_bytes
word_stands b p n small s =
    let low : n % 2 ^ 32 ≡ n = omega arith in
    word_bytes b p n small (stands_as b p (to_le_bytes w32 (n % 2 ^ 32)) (to_le_bytes w32 n) (ap (to_le_bytes w32) low) s)

pub cell_word : (b : List ℕ) (p n : ℕ) → n < 2 ^ 32 → Stands b p (size_bytes n) → word_at b p ≡ Some n
unfolding size_bytes
cell_word b p n small s = word_bytes b p n small (stands_first b p (to_le_bytes w32 n) (drop 4 (size_bytes n)) s)

pub cell_short : (b : List ℕ) (p n : ℕ) → n < 2 ^ 16 → Stands b p (size_bytes n) → short_at b p ≡ Some n
unfolding size_bytes
cell_short b p n small s = short_stands b p n small (stands_first b p (to_le_bytes w16 n) (drop 2 (size_bytes n)) s)

pub cell_byte : (b : List ℕ) (p n : ℕ) → n < 256 → Stands b p (size_bytes n) → byte_at b p ≡ Some n
unfolding size_bytes byte_at
cell_byte b p n small s =
    let low : n % 256 ≡ n = omega arith in
    let first : Stands b p (n % 256 ∷ []) = stands_first b p (n % 256 ∷ []) (drop 1 (size_bytes n)) s in
    ap (λ (r : Option (List ℕ)). r >>= λ x. Some (from_le_bytes w8 x)) (bytes_stand b p 1 (n % 256 ∷ []) refl first)
    ∙ ap (λ (m : ℕ). Some m) low

pub count_length : (n : ℕ) → length (count_bytes n) ≡ 4
unfolding count_bytes
count_length n = refl

pub size_length : (n : ℕ) → length (size_bytes n) ≡ 8
unfolding size_bytes
size_length n = refl

-- ---- texts and vectors of numbers

text_is : (b : List ℕ) (p left : ℕ) (s : List ℕ) → IsUtf8 s → length s ≤ left → word_at b p ≡ Some (length s) → bytes_at (length s + 1) b (p + 4) ≡ Some (s ++ 0 ∷ []) → text_at b p left ≡ Some (s, left - length s)
unfolding text_at
text_is b p left s valid enough size whole =
    let test : is_utf8 s ≡ true = is_utf8-from_IsUtf8 s valid in
    let room : ltb left (length s) ≡ false = le-ltb _ _ enough in
    rw (size, whole, room, take_at s (0 ∷ []) (length s) refl, test) refl

text_part : (b : List ℕ) (p : ℕ) (s : List ℕ) → At b p (text s) → Stands b p (count_bytes (length s) ++ (s ++ 0 ∷ []))
text_part b p s at =
    stands_as b p (count_bytes (length s) ++ s ++ 0 ∷ []) (count_bytes (length s) ++ (s ++ 0 ∷ [])) (append_assoc (count_bytes (length s)) s (0 ∷ []))
    (stands_first b p (count_bytes (length s) ++ s ++ 0 ∷ []) (replicate (gap (length (count_bytes (length s) ++ s ++ 0 ∷ []))) 0) at)

pub text_stands : (b : List ℕ) (p left : ℕ) (s : List ℕ) → length b ≤ max_length → IsUtf8 s → length s ≤ left → At b p (text s) → text_at b p left ≡ Some (s, left - length s)
text_stands b p left s bound valid enough at =
    let part = text_part b p s at in
    let four = count_length (length s) in
    let one : length (s ++ 0 ∷ []) ≡ length s + 1 = length-append s (0 ∷ []) in
    let inside = stands_within b p (count_bytes (length s) ++ (s ++ 0 ∷ [])) part in
    let sum = length-append (count_bytes (length s)) (s ++ 0 ∷ []) in
    let size : word_at b p ≡ Some (length s) = word_stands b p (length s) (omega arith) (stands_first b p (count_bytes (length s)) (s ++ 0 ∷ []) part) in
    let there : Stands b (p + 4) (s ++ 0 ∷ []) = stands_moved b (p + length (count_bytes (length s))) (p + 4) (s ++ 0 ∷ []) (omega arith) (stands_second b p (count_bytes (length s)) (s ++ 0 ∷ []) part) in
    text_is b p left s valid enough size (bytes_stand b (p + 4) (length s + 1) (s ++ 0 ∷ []) one there)

id_stands : (b : List ℕ) (p : ℕ) (z : ℤ) → FitsSigned w32 z → Stands b p (id_bytes z) → word_at b p ≡ Some (cast_unsigned w32 z)
id_stands b p z fits s =
    let low : Fits w32 (of_z w32 z) = Fits-of_z fits in
    word_stands b p (cast_unsigned w32 z) low.fits s

ids_stand : (b : List ℕ) (p : ℕ) (ids : List ℤ) → AreIds ids → Stands b p (flat_map id_bytes ids) → numbers_at b (length ids) p ≡ Some ids
unfolding numbers_at
ids_stand b p [] are s = refl
ids_stand b p (z ∷ ids) are s =
    let first : word_at b p ≡ Some (cast_unsigned w32 z) = id_stands b p z are.0 (stands_first b p (id_bytes z) (flat_map id_bytes ids) s) in
    let next : Stands b (p + 4) (flat_map id_bytes ids) = stands_moved b (p + length (id_bytes z)) (p + 4) (flat_map id_bytes ids) (omega (arith, count_length (cast_unsigned w32 z))) (stands_second b p (id_bytes z) (flat_map id_bytes ids) s) in
    rw (first, ids_stand b (p + 4) ids are.1 next) (ap (λ (y : ℤ). Some (y ∷ ids)) (to_z-of_z are.0))

ids_length : (ids : List ℤ) → length (flat_map id_bytes ids) ≡ 4 * length ids
ids_length [] = refl
ids_length (z ∷ ids) = omega (arith, length-append (id_bytes z) (flat_map id_bytes ids), count_length (cast_unsigned w32 z), ids_length ids)

pub numbers_stand : (b : List ℕ) (p : ℕ) (ids : List ℤ) → length b ≤ max_length → AreIds ids → At b p (numbers ids) → (word_at b p ≡ Some (length ids)) × (numbers_at b (length ids) (p + 4) ≡ Some ids)
numbers_stand b p ids bound are at =
    let count = count_bytes (length ids) in
    let all = flat_map id_bytes ids in
    let part : Stands b p (count ++ all) = stands_first b p (count ++ all) (replicate (gap (length (count ++ all))) 0) at in
    let four = count_length (length ids) in
    let inside = stands_within b p (count ++ all) part in
    let sum = length-append count all in
    let many = ids_length ids in
    let there : Stands b (p + 4) all = stands_moved b (p + length count) (p + 4) all (omega arith) (stands_second b p count all part) in
    (word_stands b p (length ids) (omega arith) (stands_first b p count all part), ids_stand b (p + 4) ids are there)

-- ---- offsets

pub padded_length : (x : List ℕ) → length (padded x) ≡ length x + gap (length x)
padded_length x = length-append x (replicate (gap (length x)) 0) ∙ ap (λ (n : ℕ). length x + n) (length-replicate (gap (length x)) 0)

pub front_within : (o : Object) → front o ≤ length (object_bytes o)
front_within (text s) = omega arith
front_within (numbers ids) = omega arith
front_within (vector os) = omega arith
front_within (table cells) =
    let v = padded (vtable cells) in
    let own = size_bytes (length v) in
    let inner = cells_bytes 8 (table_size cells) cells in
    omega (arith, length-append (v ++ own ++ inner) (below_bytes cells), length-append (v ++ own) inner, length-append v own)

-- an offset from a slot leads to what begins at the start, where both are counted from the base
pub offset_leads : (b : List ℕ) (base place start slot rel : ℕ) (o : Object) → length b ≤ max_length → place ≡ base + slot → start ≡ base + rel → slot ≤ rel → At b start o → Stands b place (offset slot rel o)
    → follow b place ≡ Some (start + front o)
offset_leads b base place start slot rel o bound here there ahead at s =
    let inside = stands_within b start (object_bytes o) at in
    let short = front_within o in
    let small : rel + front o - slot < 2 ^ 32 = omega arith in
    let value : place + (rel + front o - slot) ≡ start + front o = omega arith in
    rw (word_stands b place (rel + front o - slot) small s) (ap (λ (n : ℕ). Some n) value)

offset_length : (slot rel : ℕ) (o : Object) → length (offset slot rel o) ≡ 4
offset_length slot rel o = count_length (rel + front o - slot)

offsets_length : (slot rel : ℕ) (os : Objects) → length (offsets slot rel os) ≡ 4 * count os
offsets_length slot rel no_objects = refl
offsets_length slot rel (more_objects o os) =
    let rest = offsets (slot + 4) (rel + length (object_bytes o)) os in
    omega (arith, length-append (offset slot rel o) rest, offset_length slot rel o, offsets_length (slot + 4) (rel + length (object_bytes o)) os)

pub lead_stands : (b : List ℕ) (base place start slot rel : ℕ) (os : Objects) → length b ≤ max_length → place ≡ base + slot → start ≡ base + rel → slot + 4 * count os ≤ rel
    → Stands b place (offsets slot rel os) → Stands b start (objects_bytes os) → Lead b place start os
lead_stands b base place start slot rel no_objects bound here there ahead os_at s = tt
lead_stands b base place start slot rel (more_objects o os) bound here there ahead heads s =
    let size = length (object_bytes o) in
    let rest = offsets (slot + 4) (rel + size) os in
    let at : At b start o = stands_first b start (object_bytes o) (objects_bytes os) s in
    let head : Stands b place (offset slot rel o) = stands_first b place (offset slot rel o) rest heads in
    let tail : Stands b (place + 4) rest = stands_moved b (place + length (offset slot rel o)) (place + 4) rest (omega (arith, offset_length slot rel o)) (stands_second b place (offset slot rel o) rest heads) in
    let below : Stands b (start + size) (objects_bytes os) = stands_second b start (object_bytes o) (objects_bytes os) s in
    (offset_leads b base place start slot rel o bound here there (omega arith) at head, at, lead_stands b base (place + 4) (start + size) (slot + 4) (rel + size) os bound (omega arith) (omega arith) (omega arith) tail below)

-- the place behind a vector's offsets, counted from its own
abbrev pub behind_offsets : Objects → ℕ
behind_offsets os = 4 + 4 * count os + gap (4 + 4 * count os)

abbrev pub head_bytes : Objects → List ℕ
head_bytes os = count_bytes (count os) ++ offsets 4 (behind_offsets os) os

head_length : (os : Objects) → length (head_bytes os) ≡ 4 + 4 * count os
head_length os = omega (arith, length-append (count_bytes (count os)) (offsets 4 (behind_offsets os) os), count_length (count os), offsets_length 4 (behind_offsets os) os)

pub behind_is : (os : Objects) → length (padded (head_bytes os)) ≡ behind_offsets os
behind_is os = padded_length (head_bytes os) ∙ ap (λ (n : ℕ). n + gap n) (head_length os)

pub vector_stands : (b : List ℕ) (p : ℕ) (os : Objects) → length b ≤ max_length → At b p (vector os)
    → (word_at b p ≡ Some (count os)) × Lead b (p + 4) (p + length (padded (count_bytes (count os) ++ offsets 4 (4 + 4 * count os + gap (4 + 4 * count os)) os))) os
vector_stands b p os bound at =
    let n = count_bytes (count os) in
    let leads = offsets 4 (behind_offsets os) os in
    let front : Stands b p (padded (head_bytes os)) = stands_first b p (padded (head_bytes os)) (objects_bytes os) at in
    let head : Stands b p (n ++ leads) = stands_first b p (n ++ leads) (replicate (gap (length (head_bytes os))) 0) front in
    let inside = stands_within b p (n ++ leads) head in
    let size = head_length os in
    let tail : Stands b (p + 4) leads = stands_moved b (p + length n) (p + 4) leads (omega (arith, count_length (count os))) (stands_second b p n leads head) in
    let below : Stands b (p + length (padded (head_bytes os))) (objects_bytes os) = stands_second b p (padded (head_bytes os)) (objects_bytes os) at in
    let start : p + length (padded (head_bytes os)) ≡ p + behind_offsets os = ap (λ (k : ℕ). p + k) (behind_is os) in
    (word_stands b p (count os) (omega arith) (stands_first b p n leads head), lead_stands b p (p + 4) (p + length (padded (head_bytes os))) 4 (behind_offsets os) os bound refl start (omega arith) tail below)

-- ---- tables

short_length : (n : ℕ) → length (short_bytes n) ≡ 2
unfolding short_bytes
short_length n = refl

short_value : (n : ℕ) → n < 2 ^ 16 → from_le_bytes w16 (short_bytes n) ≡ n
unfolding short_bytes
short_value n small =
    let low : n % 2 ^ 16 ≡ n = omega arith in
    from_le_bytes-to_le_bytes_2 (n % 2 ^ 16) (omega arith) ∙ low

short_is : (b : List ℕ) (p n : ℕ) → n < 2 ^ 16 → Stands b p (short_bytes n) → short_at b p ≡ Some n
unfolding short_at
short_is b p n small s =
    ap (λ (r : Option (List ℕ)). r >>= λ x. Some (from_le_bytes w16 x)) (bytes_stand b p 2 (short_bytes n) (short_length n) s)
    ∙ ap (λ (m : ℕ). Some m) (short_value n small)

entry_is : (b : List ℕ) (t : Table) (i n : ℕ) → n < 2 ^ 16 → 6 + 2 * i ≤ t.size → Stands b (t.vtable + 4 + 2 * i) (short_bytes n) → entry_of b t i ≡ n
entry_is b t i n small room s =
    let long : ltb t.size (6 + 2 * i) ≡ false = le-ltb _ _ room in
    rw (long, part_of b (t.vtable + 4 + 2 * i) 2 (short_bytes n) (short_length n) s) (short_value n small)

absent_slot : (b : List ℕ) (t : Table) (i : ℕ) → 6 + 2 * i ≤ t.size → Stands b (t.vtable + 4 + 2 * i) (short_bytes 0) → slot b t i ≡ None
unfolding slot
absent_slot b t i room s = ap (present t) (entry_is b t i 0 (omega arith) room s)

present_slot : (b : List ℕ) (t : Table) (i n : ℕ) → 0 < n → n < 2 ^ 16 → 6 + 2 * i ≤ t.size → Stands b (t.vtable + 4 + 2 * i) (short_bytes n) → slot b t i ≡ Some (t.place + n)
unfolding slot
present_slot b t i n some small room s =
    let there : eqb n 0 ≡ false = ne_eqb n 0 (omega arith) in
    ap (present t) (entry_is b t i n small room s) ∙ rw there refl

-- what bounds the slots from the i-th on: the first stands at a place counted from the table, and what they point at from rel on
record Room (t : Table) (i place rel : ℕ) (cells : Cells) : Type 0 where
  size : t.size ≡ 4 + 2 * (i + slots cells)
  low : 0 < place
  high : place + 8 * slots cells < 2 ^ 16
  ahead : place + 8 * slots cells ≤ rel

room_next : (t : Table) (i place rel more : ℕ) (c : Cell) (cs : Cells) → Room t i place rel (more_cells c cs) → Room t (suc i) (place + 8) (rel + more) cs
room_next t i place rel more c cs r = record { size = omega (arith, r.size); low = omega arith; high = omega (arith, r.high); ahead = omega (arith, r.ahead) }

next_entries : (b : List ℕ) (t : Table) (i place : ℕ) (c : Cell) (cs : Cells) → Stands b (t.vtable + 4 + 2 * i) (entries place (more_cells c cs)) → Stands b (t.vtable + 4 + 2 * suc i) (entries (place + 8) cs)
next_entries b t i place c cs s =
    let n = short_bytes (entry place c) in
    stands_moved b (t.vtable + 4 + 2 * i + length n) (t.vtable + 4 + 2 * suc i) (entries (place + 8) cs) (omega (arith, short_length (entry place c))) (stands_second b (t.vtable + 4 + 2 * i) n (entries (place + 8) cs) s)

first_entry : (b : List ℕ) (t : Table) (i place : ℕ) (c : Cell) (cs : Cells) → Stands b (t.vtable + 4 + 2 * i) (entries place (more_cells c cs)) → Stands b (t.vtable + 4 + 2 * i) (short_bytes (entry place c))
first_entry b t i place c cs s = stands_first b (t.vtable + 4 + 2 * i) (short_bytes (entry place c)) (entries (place + 8) cs) s

-- behind a cell of 8 bytes
next_cells : (b : List ℕ) (base place : ℕ) (cell rest : List ℕ) → length cell ≡ 8 → Stands b (base + place) (cell ++ rest) → Stands b (base + (place + 8)) rest
next_cells b base place cell rest size s = stands_moved b (base + place + length cell) (base + (place + 8)) rest (omega arith) (stands_second b (base + place) cell rest s)

offset_cell_length : (slot rel : ℕ) (o : Object) → length (padded (offset slot rel o)) ≡ 8
offset_cell_length slot rel o = padded_length (offset slot rel o) ∙ ap (λ (n : ℕ). n + gap n) (offset_length slot rel o)

slots_stand : (b : List ℕ) (t : Table) (i place rel start : ℕ) (cells : Cells) → length b ≤ max_length → Room t i place rel cells → start ≡ t.place + rel
    → Stands b (t.vtable + 4 + 2 * i) (entries place cells) → Stands b (t.place + place) (cells_bytes place rel cells) → Stands b start (below_bytes cells) → InSlots b t i start cells
slots_stand b t i place rel start no_cells bound r there v c s = tt
slots_stand b t i place rel start (more_cells absent cs) bound r there v c s =
    let cell : Stands b (t.place + (place + 8)) (cells_bytes (place + 8) rel cs) = next_cells b t.place place (size_bytes 0) (cells_bytes (place + 8) rel cs) (size_length 0) c in
    let room : Room t (suc i) (place + 8) rel cs = record { size = omega (arith, r.size); low = omega arith; high = omega (arith, r.high); ahead = omega (arith, r.ahead) } in
    (absent_slot b t i (omega (arith, r.size)) (first_entry b t i place absent cs v), slots_stand b t (suc i) (place + 8) rel start cs bound room there (next_entries b t i place absent cs v) cell s)
slots_stand b t i place rel start (more_cells (number n) cs) bound r there v c s =
    let rest = cells_bytes (place + 8) rel cs in
    let cell : Stands b (t.place + (place + 8)) rest = next_cells b t.place place (size_bytes n) rest (size_length n) c in
    let room : Room t (suc i) (place + 8) rel cs = record { size = omega (arith, r.size); low = omega arith; high = omega (arith, r.high); ahead = omega (arith, r.ahead) } in
    let slot_is = present_slot b t i place r.low (omega (arith, r.high)) (omega (arith, r.size)) (first_entry b t i place (number n) cs v) in
    (t.place + place, slot_is, stands_first b (t.place + place) (size_bytes n) rest c, slots_stand b t (suc i) (place + 8) rel start cs bound room there (next_entries b t i place (number n) cs v) cell s)
slots_stand b t i place rel start (more_cells (below o) cs) bound r there v c s =
    let size = length (object_bytes o) in
    let rest = cells_bytes (place + 8) (rel + size) cs in
    let head = padded (offset place rel o) in
    let cell : Stands b (t.place + (place + 8)) rest = next_cells b t.place place head rest (offset_cell_length place rel o) c in
    let lead : Stands b (t.place + place) (offset place rel o) = stands_first b (t.place + place) (offset place rel o) (replicate (gap (length (offset place rel o))) 0) (stands_first b (t.place + place) head rest c) in
    let at : At b start o = stands_first b start (object_bytes o) (below_bytes cs) s in
    let follows = offset_leads b t.place (t.place + place) start place rel o bound refl there (omega (arith, r.ahead)) at lead in
    let slot_is = present_slot b t i place r.low (omega (arith, r.high)) (omega (arith, r.size)) (first_entry b t i place (below o) cs v) in
    let next = slots_stand b t (suc i) (place + 8) (rel + size) (start + size) cs bound (room_next t i place rel size (below o) cs r) (omega arith) (next_entries b t i place (below o) cs v) cell (stands_second b start (object_bytes o) (below_bytes cs) s) in
    (t.place + place, slot_is, follows, at, next)

-- the table whose vtable stands at the place
abbrev pub table_of : ℕ → Cells → Table
table_of p cells = record { place = p + length (padded (vtable cells)); vtable = p; size = 4 + 2 * slots cells }

entries_length : (place : ℕ) (cells : Cells) → length (entries place cells) ≡ 2 * slots cells
entries_length place no_cells = refl
entries_length place (more_cells c cs) = omega (arith, length-append (short_bytes (entry place c)) (entries (place + 8) cs), short_length (entry place c), entries_length (place + 8) cs)

vtable_length : (cells : Cells) → length (vtable cells) ≡ 4 + 2 * slots cells
vtable_length cells =
    let own = short_bytes (4 + 2 * slots cells) in
    let size = short_bytes (table_size cells) in
    omega (arith, length-append (own ++ size) (entries 8 cells), length-append own size, short_length (4 + 2 * slots cells), short_length (table_size cells), entries_length 8 cells)

back_to : (p n : ℕ) → n < 2 ^ 31 → before (p + n) n ≡ Some p
back_to p n small =
    let low : ltb n (2 ^ 31) ≡ true = lt-ltb _ _ small in
    let inside : ltb (p + n) n ≡ false = le-ltb _ _ (omega arith) in
    let less : p + n - n ≡ p = omega arith in
    rw (low, inside) (ap (λ (m : ℕ). Some m) less)

sized_is : (b : List ℕ) (place p k : ℕ) → p + (4 + 2 * k) ≤ length b → sized b place p (4 + 2 * k) ≡ Some (record { place = place; vtable = p; size = 4 + 2 * k })
sized_is b place p k inside =
    let four : ltb (4 + 2 * k) 4 ≡ false = le-ltb _ _ (omega arith) in
    let even : eqb ((4 + 2 * k) % 2) 1 ≡ false = ne_eqb _ _ (omega arith) in
    let long : ltb (length b) (p + (4 + 2 * k)) ≡ false = le-ltb _ _ inside in
    rw (four, even, long) refl

table_is : (b : List ℕ) (p n k : ℕ) → n < 2 ^ 31 → p + (4 + 2 * k) ≤ length b → word_at b (p + n) ≡ Some n → short_at b p ≡ Some (4 + 2 * k)
    → table_at b (p + n) ≡ Some (record { place = p + n; vtable = p; size = 4 + 2 * k })
unfolding table_at
table_is b p n k small inside word short = rw (word, back_to p n small, short) (sized_is b (p + n) p k inside)

cells_length : (place rel : ℕ) (cells : Cells) → length (cells_bytes place rel cells) ≡ 8 * slots cells
cells_length place rel no_cells = refl
cells_length place rel (more_cells absent cs) = omega (arith, length-append (size_bytes 0) (cells_bytes (place + 8) rel cs), size_length 0, cells_length (place + 8) rel cs)
cells_length place rel (more_cells (number n) cs) = omega (arith, length-append (size_bytes n) (cells_bytes (place + 8) rel cs), size_length n, cells_length (place + 8) rel cs)
cells_length place rel (more_cells (below o) cs) =
    let behind = rel + length (object_bytes o) in
    omega (arith, length-append (padded (offset place rel o)) (cells_bytes (place + 8) behind cs), offset_cell_length place rel o, cells_length (place + 8) behind cs)

-- where the parts of a table stand
record Parts (b : List ℕ) (p : ℕ) (cells : Cells) : Type 0 where
  first : Stands b p (vtable cells)
  inside : p + length (padded (vtable cells)) ≤ length b
  distance : Stands b (p + length (padded (vtable cells))) (size_bytes (length (padded (vtable cells))))
  inner : Stands b (p + length (padded (vtable cells)) + 8) (cells_bytes 8 (table_size cells) cells)
  last : Stands b (p + length (padded (vtable cells)) + table_size cells) (below_bytes cells)

table_parts : (b : List ℕ) (p : ℕ) (cells : Cells) → At b p (table cells) → Parts b p cells
table_parts b p cells at =
    let v = padded (vtable cells) in
    let own = size_bytes (length v) in
    let inner = cells_bytes 8 (table_size cells) cells in
    let three : Stands b p (v ++ own ++ inner) = stands_first b p (v ++ own ++ inner) (below_bytes cells) at in
    let two : Stands b p (v ++ own) = stands_first b p (v ++ own) inner three in
    let one : Stands b p v = stands_first b p v own two in
    let size_two : length (v ++ own) ≡ length v + 8 = omega (arith, length-append v own, size_length (length v)) in
    let size_three : length (v ++ own ++ inner) ≡ length v + table_size cells = omega (arith, length-append (v ++ own) inner, cells_length 8 (table_size cells) cells) in
    let inner_at = stands_moved b (p + length (v ++ own)) (p + length v + 8) inner (omega arith) (stands_second b p (v ++ own) inner three) in
    let last_at = stands_moved b (p + length (v ++ own ++ inner)) (p + length v + table_size cells) (below_bytes cells) (omega arith) (stands_second b p (v ++ own ++ inner) (below_bytes cells) at) in
    record {
      first = stands_first b p (vtable cells) (replicate (gap (length (vtable cells))) 0) one;
      inside = stands_within b p v one;
      distance = stands_second b p v own two;
      inner = inner_at;
      last = last_at;
    }

-- the two numbers before a vtable's entries
abbrev sizes : Cells → List ℕ
sizes cells = short_bytes (4 + 2 * slots cells) ++ short_bytes (table_size cells)

entries_stand : (b : List ℕ) (p : ℕ) (cells : Cells) → Stands b p (vtable cells) → Stands b (p + 4 + 2 * 0) (entries 8 cells)
entries_stand b p cells v =
    let own = short_bytes (4 + 2 * slots cells) in
    let size = short_bytes (table_size cells) in
    let four : length (sizes cells) ≡ 4 = omega (arith, length-append own size, short_length (4 + 2 * slots cells), short_length (table_size cells)) in
    stands_moved b (p + length (sizes cells)) (p + 4 + 2 * 0) (entries 8 cells) (omega arith) (stands_second b p (sizes cells) (entries 8 cells) v)

size_stands : (b : List ℕ) (p : ℕ) (cells : Cells) → slots cells ≤ 100 → Stands b p (vtable cells) → short_at b p ≡ Some (4 + 2 * slots cells)
size_stands b p cells few v = short_is b p (4 + 2 * slots cells) (omega arith) (stands_first b p (short_bytes (4 + 2 * slots cells)) (short_bytes (table_size cells)) (stands_first b p (sizes cells) (entries 8 cells) v))

pub table_stands : (b : List ℕ) (p : ℕ) (cells : Cells) → length b ≤ max_length → slots cells ≤ 100 → At b p (table cells)
    → (t : Table) × (table_at b (p + front (table cells)) ≡ Some t) × InSlots b t 0 (p + front (table cells) + table_size cells) cells
table_stands b p cells bound few at =
    let n = length (padded (vtable cells)) in
    let t = table_of p cells in
    let parts = table_parts b p cells at in
    let v = parts.first in
    let inside = parts.inside in
    let within : p + (4 + 2 * slots cells) ≤ length b = omega (arith, stands_within b p (vtable cells) v, vtable_length cells) in
    let word : word_at b (p + n) ≡ Some n = cell_word b (p + n) n (omega arith) parts.distance in
    let is : table_at b (p + n) ≡ Some t = table_is b p n (slots cells) (omega arith) within word (size_stands b p cells few v) in
    let room : Room t 0 8 (table_size cells) cells = record { size = omega arith; low = omega arith; high = omega arith; ahead = omega arith } in
    (t, is, slots_stand b t 0 8 (table_size cells) (p + n + table_size cells) cells bound room refl (entries_stand b p cells v) parts.inner parts.last)

-- ---- how long objects are

pub text_size : (s : List ℕ) → length s + 5 ≤ length (object_bytes (text s))
text_size s =
    let n = count_bytes (length s) in
    omega (arith, padded_length (n ++ s ++ 0 ∷ []), length-append (n ++ s) (0 ∷ []), length-append n s, count_length (length s))

pub vector_size : (os : Objects) → length (object_bytes (vector os)) ≡ behind_offsets os + length (objects_bytes os)
vector_size os = length-append (padded (head_bytes os)) (objects_bytes os) ∙ ap (λ (n : ℕ). n + length (objects_bytes os)) (behind_is os)

pub table_length : (cells : Cells) → length (object_bytes (table cells)) ≡ front (table cells) + table_size cells + length (below_bytes cells)
table_length cells =
    let v = padded (vtable cells) in
    let own = size_bytes (length v) in
    let inner = cells_bytes 8 (table_size cells) cells in
    omega (arith, length-append (v ++ own ++ inner) (below_bytes cells), length-append (v ++ own) inner, length-append v own, size_length (length v), cells_length 8 (table_size cells) cells)
