-- Objects written part by part, with sizes that wrap at 2^64.
use Rattle.std.proofs.Common.{◌≡◌, ℕ, ℤ, pos, to_z, SFits, flat_map, suc, ◌+◌, ◌-◌, ◌*◌, ◌/◌, ◌%◌, ◌^◌, ◌<◌, ◌≤◌, List, [], ◌∷◌, ◌++◌, length, replicate, get_or, drop, refl, sym, ap, ◌∙◌, arith, append_assoc}
use Rattle.std.specs.Int.{w32, cast_unsigned}
use Rattle.std.proofs.Math.Facts.{of_z-to_z, Fits-of_z}
use Rattle.std.proofs.Math.Nat.{add-mod-mod}
use Rattle.std.proofs.Math.Seq.{drop-cons}
use Rattle.std.proofs.lemmas.List.{append-nil}
use Rattle.schema_codec.specs.Spelling.{count_bytes, size_bytes, id_bytes}
use Rattle.schema_codec.specs.Proved.Formats.{count_length}
use Rattle.schema_fb.proofs.Lengths.{head_rest, front_length}
use Rattle.schema_fb.specs.Layout.{Cell, Cells, no_cells, more_cells, absent, number, below, Object, Objects, no_objects, more_objects, vector, table, short_bytes, gap, padded, slots, count, entry, entries, vtable, table_size, front, offset, offsets, object_bytes, objects_bytes, cells_bytes, below_bytes}
use Rattle.schema_fb.specs.Tables.{one}

-- ---- lists

pub appended : (out a b mid new : List ℕ) → mid ≡ out ++ a → new ≡ mid ++ b → new ≡ out ++ (a ++ b)
appended out a b mid new p q = q ∙ ap (λ (t : List ℕ). t ++ b) p ∙ append_assoc out a b

pub turn : {A : Type 0} (xs : List A) (i : ℕ) (x : A) → i < length xs → x ≡ get_or xs i x → drop i xs ≡ x ∷ drop (i + 1) xs
turn {A = A} xs i x lt is =
    let next : suc i ≡ i + 1 = omega arith in
    drop-cons xs i x lt ∙ ap (λ (y : A). y ∷ drop (suc i) xs) (sym is) ∙ ap (λ (k : ℕ). x ∷ drop k xs) next

-- what stands behind bytes up to a multiple of 8
pub padded_appended : (out bytes before new : List ℕ) (n : ℕ) → before ≡ out ++ bytes → n % 8 ≡ length bytes % 8 → new ≡ before ++ replicate (gap n) 0 → new ≡ out ++ padded bytes
padded_appended out bytes before new n p size q =
    let gaps : gap n ≡ gap (length bytes) = ap (λ (r : ℕ). (8 - r) % 8) size in
    appended out bytes (replicate (gap (length bytes)) 0) before new p (q ∙ ap (λ (k : ℕ). before ++ replicate k 0) gaps)

-- ---- numbers go by their low bits

pub short_same : (m n : ℕ) → m % 2 ^ 16 ≡ n % 2 ^ 16 → short_bytes m ≡ short_bytes n
unfolding short_bytes
short_same m n h = rw h refl

pub count_same : (m n : ℕ) → m % 2 ^ 32 ≡ n % 2 ^ 32 → count_bytes m ≡ count_bytes n
unfolding count_bytes
count_same m n h = rw h refl

pub short_low : (n : ℕ) → short_bytes (n % 2 ^ 64) ≡ short_bytes n
short_low n = short_same (n % 2 ^ 64) n (omega arith)

pub count_low : (n : ℕ) → count_bytes (n % 2 ^ 64) ≡ count_bytes n
count_low n = count_same (n % 2 ^ 64) n (omega arith)

-- ---- the entries of a vtable

entry_same : (p q : ℕ) (c : Cell) → p % 2 ^ 64 ≡ q % 2 ^ 64 → short_bytes (entry p c) ≡ short_bytes (entry q c)
entry_same p q absent h = refl
entry_same p q (number n) h = short_same p q (omega arith)
entry_same p q (below o) h = short_same p q (omega arith)

entries_same : (p q : ℕ) (cs : Cells) → p % 2 ^ 64 ≡ q % 2 ^ 64 → entries p cs ≡ entries q cs
entries_same p q no_cells h = refl
entries_same p q (more_cells c cs) h =
    let next : (p + 8) % 2 ^ 64 ≡ (q + 8) % 2 ^ 64 = omega arith in
    ap (λ (t : List ℕ). t ++ entries (p + 8) cs) (entry_same p q c h) ∙ ap (λ (t : List ℕ). short_bytes (entry q c) ++ t) (entries_same (p + 8) (q + 8) cs next)

pub entries_low : (p : ℕ) (cs : Cells) → entries (p % 2 ^ 64) cs ≡ entries p cs
entries_low p cs = entries_same (p % 2 ^ 64) p cs (omega arith)

-- ---- offsets

offset_same : (slot start begin : ℕ) (o : Object) → slot ≤ start → slot ≤ begin → start % 2 ^ 64 ≡ begin % 2 ^ 64 → offset slot start o ≡ offset slot begin o
offset_same slot start begin o le le' h = count_same (start + front o - slot) (begin + front o - slot) (low slot start begin (front o) le le' h)
  where
    low : (slot start begin f : ℕ) → slot ≤ start → slot ≤ begin → start % 2 ^ 64 ≡ begin % 2 ^ 64 → (start + f - slot) % 2 ^ 32 ≡ (begin + f - slot) % 2 ^ 32
    low slot start begin f le le' h = omega arith

pub offset_low : (distance : ℕ) (o : Object) → offset 0 (distance % 2 ^ 64) o ≡ offset 0 distance o
offset_low d o = offset_same 0 (d % 2 ^ 64) d o (omega arith) (omega arith) (omega arith)

offset_shift : (slot start k : ℕ) (o : Object) → offset (slot + k) (start + k) o ≡ offset slot start o
offset_shift slot start k o =
    let same : start + k + front o - (slot + k) ≡ start + front o - slot = omega arith in
    ap count_bytes same

offsets_shift : (slot start k : ℕ) (os : Objects) → offsets (slot + k) (start + k) os ≡ offsets slot start os
offsets_shift slot start k no_objects = refl
offsets_shift slot start k (more_objects o os) =
    let l = length (object_bytes o) in
    let p : slot + k + 4 ≡ slot + 4 + k = omega arith in
    let q : start + k + l ≡ start + l + k = omega arith in
    let rest : offsets (slot + k + 4) (start + k + l) os ≡ offsets (slot + 4) (start + l) os = rw (p, q) (offsets_shift (slot + 4) (start + l) k os) in
    ap (λ (t : List ℕ). t ++ offsets (slot + k + 4) (start + k + l) os) (offset_shift slot start k o) ∙ ap (λ (t : List ℕ). offset slot start o ++ t) rest

offsets_same : (slot start begin : ℕ) (os : Objects) → slot + 4 * count os ≤ start → slot + 4 * count os ≤ begin → start % 2 ^ 64 ≡ begin % 2 ^ 64 → offsets slot start os ≡ offsets slot begin os
offsets_same slot start begin no_objects le le' h = refl
offsets_same slot start begin (more_objects o os) le le' h =
    let l = length (object_bytes o) in
    let next : (start + l) % 2 ^ 64 ≡ (begin + l) % 2 ^ 64 = omega arith in
    let rest : offsets (slot + 4) (start + l) os ≡ offsets (slot + 4) (begin + l) os = offsets_same (slot + 4) (start + l) (begin + l) os (omega arith) (omega arith) next in
    ap (λ (t : List ℕ). t ++ offsets (slot + 4) (start + l) os) (offset_same slot start begin o (omega arith) (omega arith) h) ∙ ap (λ (t : List ℕ). offset slot begin o ++ t) rest

-- the first offset, and the others, from which the objects stand further by its object
pub offsets_turn : (between : ℕ) (o : Object) (os : Objects)
    → offsets 0 (4 * count (more_objects o os) + between) (more_objects o os) ≡ offset 0 (4 * count (more_objects o os) + between) o ++ offsets 0 (4 * count os + (between + length (object_bytes o)) % 2 ^ 64) os
offsets_turn b o os =
    let l = length (object_bytes o) in
    let n = count os in
    let regroup : 4 * suc n + b + l ≡ 4 * n + (b + l) + 4 = omega arith in
    let start : offsets (0 + 4) (4 * suc n + b + l) os ≡ offsets 0 (4 * n + (b + l)) os = rw regroup (offsets_shift 0 (4 * n + (b + l)) 4 os) in
    let low : (4 * n + (b + l)) % 2 ^ 64 ≡ (4 * n + (b + l) % 2 ^ 64) % 2 ^ 64 = sym (add-mod-mod (4 * n) (b + l) (2 ^ 64)) in
    let rest = offsets_same 0 (4 * n + (b + l)) (4 * n + (b + l) % 2 ^ 64) os (omega arith) (omega arith) low in
    ap (λ (t : List ℕ). offset 0 (4 * suc n + b) o ++ t) (start ∙ rest)

-- ---- cells

cells_shift : (slot start k : ℕ) (cs : Cells) → cells_bytes (slot + k) (start + k) cs ≡ cells_bytes slot start cs
cells_shift slot start k no_cells = refl
cells_shift slot start k (more_cells absent cs) =
    let p : slot + k + 8 ≡ slot + 8 + k = omega arith in
    let rest : cells_bytes (slot + k + 8) (start + k) cs ≡ cells_bytes (slot + 8) start cs = rw p (cells_shift (slot + 8) start k cs) in
    ap (λ (t : List ℕ). size_bytes 0 ++ t) rest
cells_shift slot start k (more_cells (number n) cs) =
    let p : slot + k + 8 ≡ slot + 8 + k = omega arith in
    let rest : cells_bytes (slot + k + 8) (start + k) cs ≡ cells_bytes (slot + 8) start cs = rw p (cells_shift (slot + 8) start k cs) in
    ap (λ (t : List ℕ). size_bytes n ++ t) rest
cells_shift slot start k (more_cells (below o) cs) =
    let l = length (object_bytes o) in
    let p : slot + k + 8 ≡ slot + 8 + k = omega arith in
    let q : start + k + l ≡ start + l + k = omega arith in
    let rest : cells_bytes (slot + k + 8) (start + k + l) cs ≡ cells_bytes (slot + 8) (start + l) cs = rw (p, q) (cells_shift (slot + 8) (start + l) k cs) in
    ap (λ (t : List ℕ). padded t ++ cells_bytes (slot + k + 8) (start + k + l) cs) (offset_shift slot start k o) ∙ ap (λ (t : List ℕ). padded (offset slot start o) ++ t) rest

cells_same : (slot start begin : ℕ) (cs : Cells) → slot + 8 * slots cs ≤ start → slot + 8 * slots cs ≤ begin → start % 2 ^ 64 ≡ begin % 2 ^ 64 → cells_bytes slot start cs ≡ cells_bytes slot begin cs
cells_same slot start begin no_cells le le' h = refl
cells_same slot start begin (more_cells absent cs) le le' h = ap (λ (t : List ℕ). size_bytes 0 ++ t) (cells_same (slot + 8) start begin cs (omega arith) (omega arith) h)
cells_same slot start begin (more_cells (number n) cs) le le' h = ap (λ (t : List ℕ). size_bytes n ++ t) (cells_same (slot + 8) start begin cs (omega arith) (omega arith) h)
cells_same slot start begin (more_cells (below o) cs) le le' h =
    let l = length (object_bytes o) in
    let next : (start + l) % 2 ^ 64 ≡ (begin + l) % 2 ^ 64 = omega arith in
    let rest : cells_bytes (slot + 8) (start + l) cs ≡ cells_bytes (slot + 8) (begin + l) cs = cells_same (slot + 8) (start + l) (begin + l) cs (omega arith) (omega arith) next in
    ap (λ (t : List ℕ). padded t ++ cells_bytes (slot + 8) (start + l) cs) (offset_same slot start begin o (omega arith) (omega arith) h) ∙ ap (λ (t : List ℕ). padded (offset slot begin o) ++ t) rest

-- the others, from which what they point at stands further by what the first one points at
others : (before l : ℕ) (cs : Cells) → cells_bytes (0 + 8) (8 * suc (slots cs) + before + l) cs ≡ cells_bytes 0 (8 * slots cs + (before + l) % 2 ^ 64) cs
others b l cs =
    let n = slots cs in
    let regroup : 8 * suc n + b + l ≡ 8 * n + (b + l) + 8 = omega arith in
    let start : cells_bytes (0 + 8) (8 * suc n + b + l) cs ≡ cells_bytes 0 (8 * n + (b + l)) cs = rw regroup (cells_shift 0 (8 * n + (b + l)) 8 cs) in
    let low : (8 * n + (b + l)) % 2 ^ 64 ≡ (8 * n + (b + l) % 2 ^ 64) % 2 ^ 64 = sym (add-mod-mod (8 * n) (b + l) (2 ^ 64)) in
    start ∙ cells_same 0 (8 * n + (b + l)) (8 * n + (b + l) % 2 ^ 64) cs (omega arith) (omega arith) low

none_more : (before : ℕ) (cs : Cells) → cells_bytes (0 + 8) (8 * suc (slots cs) + before) cs ≡ cells_bytes 0 (8 * slots cs + (before + 0) % 2 ^ 64) cs
none_more b cs =
    let none : 8 * suc (slots cs) + b ≡ 8 * suc (slots cs) + b + 0 = omega arith in
    rw none (others b 0 cs)

pub cells_turn : (before : ℕ) (c : Cell) (cs : Cells)
    → cells_bytes 0 (8 * slots (more_cells c cs) + before) (more_cells c cs) ≡ cells_bytes 0 (8 * slots (more_cells c cs) + before) (one c) ++ cells_bytes 0 (8 * slots cs + (before + length (below_bytes (one c))) % 2 ^ 64) cs
cells_turn b absent cs = ap (λ (t : List ℕ). size_bytes 0 ++ t) (none_more b cs) ∙ ap (λ (t : List ℕ). t ++ cells_bytes 0 (8 * slots cs + (b + 0) % 2 ^ 64) cs) (sym (append-nil (size_bytes 0)))
cells_turn b (number n) cs = ap (λ (t : List ℕ). size_bytes n ++ t) (none_more b cs) ∙ ap (λ (t : List ℕ). t ++ cells_bytes 0 (8 * slots cs + (b + 0) % 2 ^ 64) cs) (sym (append-nil (size_bytes n)))
cells_turn b (below o) cs =
    let here = padded (offset 0 (8 * suc (slots cs) + b) o) in
    let l = length (object_bytes o ++ []) in
    let same : length (object_bytes o) ≡ l = ap (length {A = ℕ}) (sym (append-nil (object_bytes o))) in
    ap (λ (t : List ℕ). here ++ t) (others b (length (object_bytes o)) cs ∙ ap (λ (k : ℕ). cells_bytes 0 (8 * slots cs + (b + k) % 2 ^ 64) cs) same)
    ∙ ap (λ (t : List ℕ). t ++ cells_bytes 0 (8 * slots cs + (b + l) % 2 ^ 64) cs) (sym (append-nil here))

-- ---- where a vector's and a table's parts begin

pub gap_same : (n : ℕ) → gap ((n * 4 % 2 ^ 64 + 4) % 2 ^ 64) ≡ gap (4 + 4 * n)
gap_same n =
    let same : (n * 4 % 2 ^ 64 + 4) % 2 ^ 64 % 8 ≡ (4 + 4 * n) % 8 = omega arith in
    ap (λ (r : ℕ). (8 - r) % 8) same

pub offsets_begin : (between : ℕ) (os : Objects) → offsets 0 (4 * count os + between) os ≡ offsets 4 (4 + 4 * count os + between) os
offsets_begin b os =
    let regroup : 4 + 4 * count os + b ≡ 4 * count os + b + 4 = omega arith in
    sym (rw regroup (offsets_shift 0 (4 * count os + b) 4 os))

pub cells_begin : (cs : Cells) → cells_bytes 0 (8 * slots cs + 0) cs ≡ cells_bytes 8 (8 * suc (slots cs)) cs
cells_begin cs =
    let regroup : 8 * suc (slots cs) ≡ 8 * slots cs + 0 + 8 = omega arith in
    sym (rw regroup (cells_shift 0 (8 * slots cs + 0) 8 cs))

-- ---- single turns of the loops

pub entries_step : (out new whole : List ℕ) (place : ℕ) (v : Cell) (left rest : Cells) → left ≡ more_cells v rest → new ≡ out ++ short_bytes (entry place v) → out ++ entries place left ≡ whole → new ++ entries ((place + 8) % 2 ^ 64) rest ≡ whole
entries_step out new whole place v left rest is put so_far =
    let here = short_bytes (entry place v) in
    ap (λ (t : List ℕ). t ++ entries ((place + 8) % 2 ^ 64) rest) put ∙ ap (λ (t : List ℕ). (out ++ here) ++ t) (entries_low (place + 8) rest) ∙ append_assoc out here (entries (place + 8) rest)
    ∙ ap (λ (cs : Cells). out ++ entries place cs) (sym is) ∙ so_far

pub offsets_step : (out new whole : List ℕ) (between size l : ℕ) (v : Object) (left rest : Objects) → left ≡ more_objects v rest → l ≡ count left → size ≡ length (object_bytes v) % 2 ^ 64
    → new ≡ out ++ offset 0 ((l * 4 % 2 ^ 64 + between) % 2 ^ 64) v → out ++ offsets 0 (4 * count left + between) left ≡ whole → new ++ offsets 0 (4 * count rest + (between + size) % 2 ^ 64) rest ≡ whole
offsets_step out new whole b size l v left rest is many sized put so_far =
    let n = count rest in
    let count_is : l ≡ suc n = many ∙ ap count is in
    let distance : offset 0 ((l * 4 % 2 ^ 64 + b) % 2 ^ 64) v ≡ offset 0 (4 * suc n + b) v = offset_same 0 ((l * 4 % 2 ^ 64 + b) % 2 ^ 64) (4 * suc n + b) v (omega arith) (omega arith) (omega (arith, count_is)) in
    let next : (b + size) % 2 ^ 64 ≡ (b + length (object_bytes v)) % 2 ^ 64 = ap (λ (k : ℕ). (b + k) % 2 ^ 64) sized ∙ add-mod-mod b (length (object_bytes v)) (2 ^ 64) in
    let here = offset 0 (4 * suc n + b) v in
    let others = offsets 0 (4 * n + (b + length (object_bytes v)) % 2 ^ 64) rest in
    ap (λ (k : ℕ). new ++ offsets 0 (4 * n + k) rest) next ∙ ap (λ (t : List ℕ). t ++ others) (put ∙ ap (λ (t : List ℕ). out ++ t) distance) ∙ append_assoc out here others
    ∙ ap (λ (t : List ℕ). out ++ t) (sym (offsets_turn b v rest)) ∙ ap (λ (os : Objects). out ++ offsets 0 (4 * count os + b) os) (sym is) ∙ so_far

pub cells_step : (out new whole : List ℕ) (before size l : ℕ) (v : Cell) (left rest : Cells) → left ≡ more_cells v rest → l ≡ slots left → size ≡ length (below_bytes (one v)) % 2 ^ 64
    → new ≡ out ++ cells_bytes 0 (8 * l + before) (one v) → out ++ cells_bytes 0 (8 * slots left + before) left ≡ whole → new ++ cells_bytes 0 (8 * slots rest + (before + size) % 2 ^ 64) rest ≡ whole
cells_step out new whole b size l v left rest is many sized put so_far =
    let n = slots rest in
    let count_is : l ≡ suc n = many ∙ ap slots is in
    let next : (b + size) % 2 ^ 64 ≡ (b + length (below_bytes (one v))) % 2 ^ 64 = ap (λ (k : ℕ). (b + k) % 2 ^ 64) sized ∙ add-mod-mod b (length (below_bytes (one v))) (2 ^ 64) in
    let here = cells_bytes 0 (8 * suc n + b) (one v) in
    let others = cells_bytes 0 (8 * n + (b + length (below_bytes (one v))) % 2 ^ 64) rest in
    ap (λ (k : ℕ). new ++ cells_bytes 0 (8 * n + k) rest) next ∙ ap (λ (t : List ℕ). t ++ others) (put ∙ ap (λ (k : ℕ). out ++ cells_bytes 0 (8 * k + b) (one v)) count_is) ∙ append_assoc out here others
    ∙ ap (λ (t : List ℕ). out ++ t) (sym (cells_turn b v rest)) ∙ ap (λ (cs : Cells). out ++ cells_bytes 0 (8 * slots cs + b) cs) (sym is) ∙ so_far

pub below_pushed : (out mid new : List ℕ) (l before : ℕ) (o : Object) (c : Cell) → c ≡ below o → mid ≡ out ++ offset 0 ((l * 8 % 2 ^ 64 + before) % 2 ^ 64) o → new ≡ mid ++ replicate (gap 4) 0 → new ≡ out ++ cells_bytes 0 (8 * l + before) (one c)
below_pushed out mid new l b o c is put last =
    let distance : offset 0 ((l * 8 % 2 ^ 64 + b) % 2 ^ 64) o ≡ offset 0 (8 * l + b) o = offset_same 0 ((l * 8 % 2 ^ 64 + b) % 2 ^ 64) (8 * l + b) o (omega arith) (omega arith) (omega arith) in
    let size : 4 % 8 ≡ length (offset 0 (8 * l + b) o) % 8 = ap (λ (k : ℕ). k % 8) (sym (count_length (8 * l + b + front o - 0))) in
    padded_appended out (offset 0 (8 * l + b) o) mid new 4 (put ∙ ap (λ (t : List ℕ). out ++ t) distance) size last
    ∙ ap (λ (t : List ℕ). out ++ t) (sym (append-nil (padded (offset 0 (8 * l + b) o)))) ∙ ap (λ (d : Cell). out ++ cells_bytes 0 (8 * l + b) (one d)) (sym is)

pub size_low : (n : ℕ) → size_bytes (n % 2 ^ 64) ≡ size_bytes n
unfolding size_bytes
size_low n =
    let b0 : n % 2 ^ 64 % 256 ≡ n % 256 = omega arith in
    let b1 : n % 2 ^ 64 / 256 ^ 1 % 256 ≡ n / 256 ^ 1 % 256 = omega arith in
    let b2 : n % 2 ^ 64 / 256 ^ 2 % 256 ≡ n / 256 ^ 2 % 256 = omega arith in
    let b3 : n % 2 ^ 64 / 256 ^ 3 % 256 ≡ n / 256 ^ 3 % 256 = omega arith in
    let b4 : n % 2 ^ 64 / 256 ^ 4 % 256 ≡ n / 256 ^ 4 % 256 = omega arith in
    let b5 : n % 2 ^ 64 / 256 ^ 5 % 256 ≡ n / 256 ^ 5 % 256 = omega arith in
    let b6 : n % 2 ^ 64 / 256 ^ 6 % 256 ≡ n / 256 ^ 6 % 256 = omega arith in
    let b7 : n % 2 ^ 64 / 256 ^ 7 % 256 ≡ n / 256 ^ 7 % 256 = omega arith in
    rw (b0, b1, b2, b3, b4, b5, b6, b7) refl

-- ---- a vector and a table

pub vector_pushed : (out counted led filled new : List ℕ) (os : Objects) (l m between : ℕ) → l ≡ count os → m ≡ count os → between ≡ gap ((l * 4 % 2 ^ 64 + 4) % 2 ^ 64) → counted ≡ out ++ count_bytes m
    → led ≡ counted ++ offsets 0 (4 * count os + between) os → filled ≡ led ++ replicate (gap ((l * 4 % 2 ^ 64 + 4) % 2 ^ 64)) 0 → new ≡ filled ++ objects_bytes os → new ≡ out ++ object_bytes (vector os)
vector_pushed out counted led filled new os l m between many many' gaps p q r last =
    let n = count os in
    let start = 4 + 4 * n + gap (4 + 4 * n) in
    let head = count_bytes n ++ offsets 4 start os in
    let b : between ≡ gap (4 + 4 * n) = gaps ∙ ap (λ (k : ℕ). gap ((k * 4 % 2 ^ 64 + 4) % 2 ^ 64)) many ∙ gap_same n in
    let counts : counted ≡ out ++ count_bytes n = p ∙ ap (λ (k : ℕ). out ++ count_bytes k) many' in
    let leads : led ≡ counted ++ offsets 4 start os = q ∙ ap (λ (k : ℕ). counted ++ offsets 0 (4 * n + k) os) b ∙ ap (λ (t : List ℕ). counted ++ t) (offsets_begin (gap (4 + 4 * n)) os) in
    let rest : (l * 4 % 2 ^ 64 + 4) % 2 ^ 64 % 8 ≡ length head % 8 = ap (λ (k : ℕ). (k * 4 % 2 ^ 64 + 4) % 2 ^ 64 % 8) many ∙ head_rest start os in
    let fills = padded_appended out head led filled ((l * 4 % 2 ^ 64 + 4) % 2 ^ 64) (appended out (count_bytes n) (offsets 4 start os) counted led counts leads) rest r in
    appended out (padded head) (objects_bytes os) filled new fills last

pub table_pushed : (out first second third new : List ℕ) (cs : Cells) (l size : ℕ) → l ≡ slots cs → size ≡ (4 + 2 * l + gap (4 + 2 * l)) % 2 ^ 64 → first ≡ out ++ padded (vtable cs) → second ≡ first ++ size_bytes size
    → third ≡ second ++ cells_bytes 8 (table_size cs) cs → new ≡ third ++ below_bytes cs → new ≡ out ++ object_bytes (table cs)
table_pushed out first second third new cs l size many sized p q r last =
    let before = padded (vtable cs) in
    let back = size_bytes (length before) in
    let cells = cells_bytes 8 (table_size cs) cs in
    let low : size ≡ length before % 2 ^ 64 = sized ∙ ap (λ (k : ℕ). (4 + 2 * k + gap (4 + 2 * k)) % 2 ^ 64) many ∙ ap (λ (k : ℕ). k % 2 ^ 64) (sym (front_length cs)) in
    let same : size_bytes size ≡ back = ap size_bytes low ∙ size_low (length before) in
    let two = appended out before back first second p (q ∙ ap (λ (t : List ℕ). first ++ t) same) in
    appended out (before ++ back ++ cells) (below_bytes cs) third new (appended out (before ++ back) cells second third two r) last

pub ids_step : (out new whole : List ℕ) (ids : List ℤ) (i n : ℕ) → i < length ids → SFits w32 (get_or ids i (pos 0)) → n ≡ cast_unsigned w32 (to_z w32 (cast_unsigned w32 (get_or ids i (pos 0)))) → new ≡ out ++ count_bytes n
    → out ++ flat_map id_bytes (drop i ids) ≡ whole → new ++ flat_map id_bytes (drop (i + 1) ids) ≡ whole
ids_step out new whole ids i n lt fits is put so_far =
    let z = get_or ids i (pos 0) in
    let rest = drop (i + 1) ids in
    let same : n ≡ cast_unsigned w32 z = is ∙ of_z-to_z (Fits-of_z fits) in
    let next : suc i ≡ i + 1 = omega arith in
    let split : drop i ids ≡ z ∷ rest = drop-cons ids i (pos 0) lt ∙ ap (λ (k : ℕ). z ∷ drop k ids) next in
    ap (λ (t : List ℕ). t ++ flat_map id_bytes rest) (put ∙ ap (λ (k : ℕ). out ++ count_bytes k) same) ∙ append_assoc out (id_bytes z) (flat_map id_bytes rest)
    ∙ ap (λ (zs : List ℤ). out ++ flat_map id_bytes zs) (sym split) ∙ so_far
