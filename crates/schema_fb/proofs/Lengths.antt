-- How many bytes the parts of objects take.
use Rattle.std.proofs.Common.{◌≡◌, ℕ, ℤ, suc, ◌+◌, ◌-◌, ◌*◌, ◌%◌, ◌^◌, List, [], ◌∷◌, ◌++◌, length, replicate, flat_map, drop, refl, sym, ap, ◌∙◌, arith, Global, vec_len}
use Rattle.std.specs.declared.vec.Vec.{Vec}
use Rattle.std.specs.Int.{w32, cast_unsigned}
use Rattle.std.proofs.lemmas.List.{length-append, length-drop, length-replicate}
use Rattle.schema_codec.specs.Spelling.{count_bytes, size_bytes, id_bytes}
use Rattle.schema_codec.specs.Proved.Formats.{count_length}
use Rattle.schema_fb.specs.Layout.{Cells, no_cells, more_cells, absent, number, below, Objects, no_objects, more_objects, text, numbers, vector, table, short_bytes, gap, padded, slots, count, entries, entry, vtable, table_size, front, offset, offsets, object_bytes, objects_bytes, cells_bytes, below_bytes}
use Rattle.schema_fb.specs.declared.object.Cell.{Cell}
use Rattle.schema_fb.specs.declared.object.Object as memory
use Rattle.schema_fb.specs.Views.{cells_view, objects_view}

pub short_length : (n : ℕ) → length (short_bytes n) ≡ 2
unfolding short_bytes
short_length n = refl

pub size_length : (n : ℕ) → length (size_bytes n) ≡ 8
unfolding size_bytes
size_length n = refl

pub padded_length : (bytes : List ℕ) → length (padded bytes) ≡ length bytes + gap (length bytes)
padded_length bytes = length-append bytes (replicate (gap (length bytes)) 0) ∙ ap (λ (n : ℕ). length bytes + n) (length-replicate (gap (length bytes)) 0)

pub block_length : (bytes : List ℕ) (n : ℕ) → length bytes ≡ n → length (padded bytes) ≡ n + gap n
block_length bytes n h = padded_length bytes ∙ ap (λ (k : ℕ). k + gap k) h

pub ids_length : (ids : List ℤ) → length (flat_map id_bytes ids) ≡ 4 * length ids
ids_length [] = refl
ids_length (z ∷ ids) = omega (arith, length-append (id_bytes z) (flat_map id_bytes ids), count_length (cast_unsigned w32 z), ids_length ids)

pub offsets_length : (slot start : ℕ) (os : Objects) → length (offsets slot start os) ≡ 4 * count os
offsets_length slot start no_objects = refl
offsets_length slot start (more_objects o os) = omega (arith, length-append (offset slot start o) (offsets (slot + 4) (start + length (object_bytes o)) os), count_length (start + front o - slot), offsets_length (slot + 4) (start + length (object_bytes o)) os)

pub entries_length : (place : ℕ) (cs : Cells) → length (entries place cs) ≡ 2 * slots cs
entries_length place no_cells = refl
entries_length place (more_cells c cs) = omega (arith, length-append (short_bytes (entry place c)) (entries (place + 8) cs), short_length (entry place c), entries_length (place + 8) cs)

pub vtable_length : (cs : Cells) → length (vtable cs) ≡ 4 + 2 * slots cs
vtable_length cs =
    let a = short_bytes (4 + 2 * slots cs) in
    let b = short_bytes (table_size cs) in
    omega (arith, length-append (a ++ b) (entries 8 cs), length-append a b, short_length (4 + 2 * slots cs), short_length (table_size cs), entries_length 8 cs)

pub front_length : (cs : Cells) → front (table cs) ≡ 4 + 2 * slots cs + gap (4 + 2 * slots cs)
front_length cs = block_length (vtable cs) (4 + 2 * slots cs) (vtable_length cs)

pub cells_length : (slot start : ℕ) (cs : Cells) → length (cells_bytes slot start cs) ≡ 8 * slots cs
cells_length slot start no_cells = refl
cells_length slot start (more_cells absent cs) = omega (arith, length-append (size_bytes 0) (cells_bytes (slot + 8) start cs), size_length 0, cells_length (slot + 8) start cs)
cells_length slot start (more_cells (number n) cs) = omega (arith, length-append (size_bytes n) (cells_bytes (slot + 8) start cs), size_length n, cells_length (slot + 8) start cs)
cells_length slot start (more_cells (below o) cs) =
    let rest = cells_bytes (slot + 8) (start + length (object_bytes o)) cs in
    let here : length (padded (offset slot start o)) ≡ 8 = block_length (offset slot start o) 4 (count_length (start + front o - slot)) in
    omega (arith, length-append (padded (offset slot start o)) rest, here, cells_length (slot + 8) (start + length (object_bytes o)) cs)

-- ---- objects

text_inner : (bytes : List ℕ) → length (count_bytes (length bytes) ++ bytes ++ 0 ∷ []) ≡ 5 + 1 * length bytes
text_inner bytes =
    let head = count_bytes (length bytes) in
    omega (arith, length-append (head ++ bytes) (0 ∷ []), length-append head bytes, count_length (length bytes))

pub text_length : (bytes : List ℕ) → length (object_bytes (text bytes)) ≡ 5 + 1 * length bytes + gap (5 + 1 * length bytes)
text_length bytes = block_length (count_bytes (length bytes) ++ bytes ++ 0 ∷ []) (5 + 1 * length bytes) (text_inner bytes)

-- the size before the bytes up to a multiple of 8, as far as these go by it
pub text_rest : (bytes : List ℕ) → (length bytes + 5) % 2 ^ 64 % 8 ≡ length (count_bytes (length bytes) ++ bytes ++ 0 ∷ []) % 8
text_rest bytes = omega (arith, text_inner bytes)

numbers_inner : (ids : List ℤ) → length (count_bytes (length ids) ++ flat_map id_bytes ids) ≡ 4 + 4 * length ids
numbers_inner ids = omega (arith, length-append (count_bytes (length ids)) (flat_map id_bytes ids), count_length (length ids), ids_length ids)

pub numbers_length : (ids : List ℤ) → length (object_bytes (numbers ids)) ≡ 4 + 4 * length ids + gap (4 + 4 * length ids)
numbers_length ids = block_length (count_bytes (length ids) ++ flat_map id_bytes ids) (4 + 4 * length ids) (numbers_inner ids)

pub numbers_rest : (ids : List ℤ) → (length ids * 4 % 2 ^ 64 + 4) % 2 ^ 64 % 8 ≡ length (count_bytes (length ids) ++ flat_map id_bytes ids) % 8
numbers_rest ids = omega (arith, numbers_inner ids)

head_inner : (start : ℕ) (os : Objects) → length (count_bytes (count os) ++ offsets 4 start os) ≡ 4 + 4 * count os
head_inner start os = omega (arith, length-append (count_bytes (count os)) (offsets 4 start os), count_length (count os), offsets_length 4 start os)

pub vector_length : (os : Objects) → length (object_bytes (vector os)) ≡ 4 + 4 * count os + gap (4 + 4 * count os) + length (objects_bytes os)
vector_length os =
    let start = 4 + 4 * count os + gap (4 + 4 * count os) in
    let head = count_bytes (count os) ++ offsets 4 start os in
    length-append (padded head) (objects_bytes os) ∙ ap (λ (n : ℕ). n + length (objects_bytes os)) (block_length head (4 + 4 * count os) (head_inner start os))

pub head_rest : (start : ℕ) (os : Objects) → (count os * 4 % 2 ^ 64 + 4) % 2 ^ 64 % 8 ≡ length (count_bytes (count os) ++ offsets 4 start os) % 8
head_rest start os = omega (arith, head_inner start os)

pub vtable_rest : (cs : Cells) → (slots cs * 2 % 2 ^ 64 + 4) % 2 ^ 64 % 8 ≡ length (vtable cs) % 8
vtable_rest cs = omega (arith, vtable_length cs)

pub table_length : (cs : Cells) → length (object_bytes (table cs)) ≡ 4 + 2 * slots cs + gap (4 + 2 * slots cs) + 8 * suc (slots cs) + length (below_bytes cs)
table_length cs =
    let front_bytes = padded (vtable cs) in
    let back = size_bytes (length front_bytes) in
    let cells = cells_bytes 8 (table_size cs) cs in
    omega (arith, length-append ((front_bytes ++ back) ++ cells) (below_bytes cs), length-append (front_bytes ++ back) cells, length-append front_bytes back, front_length cs, size_length (length front_bytes), cells_length 8 (table_size cs) cs)

-- ---- lists in memory

pub slots_is : (cs : List Cell) → slots (cells_view cs) ≡ length cs
slots_is [] = refl
slots_is (c ∷ cs) = ap suc (slots_is cs)

pub count_is : (os : List memory.Object) → count (objects_view os) ≡ length os
count_is [] = refl
count_is (o ∷ os) = ap suc (count_is os)

pub cells_count : (cells : Vec Cell Global) → vec_len cells ≡ slots (cells_view cells.items)
cells_count cells = cells.ok.0 ∙ sym (slots_is cells.items)

pub objects_count : (objects : Vec memory.Object Global) → vec_len objects ≡ count (objects_view objects.items)
objects_count objects = objects.ok.0 ∙ sym (count_is objects.items)

pub slots_left : (cs : List Cell) (n i : ℕ) → n ≡ length cs → n - i ≡ slots (cells_view (drop i cs))
slots_left cs n i h = ap (λ (k : ℕ). k - i) h ∙ sym (length-drop i cs) ∙ sym (slots_is (drop i cs))

pub count_left : (os : List memory.Object) (n i : ℕ) → n ≡ length os → n - i ≡ count (objects_view (drop i os))
count_left os n i h = ap (λ (k : ℕ). k - i) h ∙ sym (length-drop i os) ∙ sym (count_is (drop i os))
