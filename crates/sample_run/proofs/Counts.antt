-- How many groups, rows and pages the sample is written anew in.
use Rattle.std.proofs.Common.{◌≡◌, ℕ, zero, suc, ◌+◌, ◌-◌, ◌*◌, ◌/◌, ◌≤◌, ◌<◌, List, [], ◌∷◌, length, map, take, drop, Option, Some, None, sum_by, refl, subst, ap, ◌∙◌, arith}
use Rattle.std.specs.List.{AllByRecursion}
use Rattle.std.proofs.Math.Nat.{div-le_of_le-mul, mul_comm}
use Rattle.std.proofs.lemmas.Nat.{le-div, mul-le}
use Rattle.std.proofs.lemmas.List.{length-drop, length-map, length-take, drop_all}
use Rattle.std.proofs.lemmas.List.Sums.{sum_by-cons}
use Rattle.std.proofs.lemmas.Slice.Zip.{AllZip-long}
use Rattle.shredding.specs.Cut.{cut, pieces}
use Rattle.shredding.specs.Shred.{Triple, column}
use Rattle.shredding.specs.Slot.{Slot, Slots, Value, fields}
use Rattle.columns_core.specs.Shapes.{leaf_type}
use Rattle.pq_files.specs.Layout.{OutChunk, plain_length, rows_per_page}
use Rattle.pq_files.specs.Page.{Encoding, values_in}
use Rattle.pq_files.specs.Stored.{AreStored}
use Rattle.pq_tree.specs.Physical.{Physical}
use Rattle.pq_tree.specs.Tree.{Leaf}
use Rattle.pq_headline.specs.Columns.{ArrowColumn}
use Rattle.pq_headline.specs.Output.{AreLaid, IsLaid, Style}
use Rattle.unique_rows.proofs.Laid.{AllNone}

-- ---- pieces of a thousand
pub counted : {A : Type 0} (fuel : ℕ) (rows : List A) → length rows ≤ fuel → length (pieces fuel 1000 rows) ≡ (length rows + 999) / 1000
counted zero [] h = refl
counted zero (r ∷ rs) h = absurd (omega (arith, h))
counted (suc fuel) [] h = refl
counted (suc fuel) (r ∷ rs) h =
    let d : length (drop 1000 (r ∷ rs)) ≡ length (r ∷ rs) - 1000 = length-drop 1000 (r ∷ rs) in
    omega (arith, d, counted fuel (drop 1000 (r ∷ rs)) (omega (arith, d, h)))

pub summed : {A : Type 0} (fuel : ℕ) (rows : List A) → length rows ≤ fuel → sum_by length (pieces fuel 1000 rows) ≡ length rows
summed zero [] h = refl
summed zero (r ∷ rs) h = absurd (omega (arith, h))
summed (suc fuel) [] h = refl
summed (suc fuel) (r ∷ rs) h =
    let d : length (drop 1000 (r ∷ rs)) ≡ length (r ∷ rs) - 1000 = length-drop 1000 (r ∷ rs) in
    omega (arith, d, length-take 1000 (r ∷ rs), sum_by-cons length (take 1000 (r ∷ rs)) (pieces fuel 1000 (drop 1000 (r ∷ rs))), summed fuel (drop 1000 (r ∷ rs)) (omega (arith, d, h)))

-- each has a row at least, and at most a thousand
pub record IsShort {A : Type 0} (rows : List A) : Type 0 where
  pub some : 0 < length rows
  pub few : length rows ≤ 1000

pub short_pieces : {A : Type 0} (fuel : ℕ) (rows : List A) → AllByRecursion (IsShort {A = A}) (pieces fuel 1000 rows)
short_pieces zero rows = tt
short_pieces (suc fuel) [] = tt
short_pieces (suc fuel) (r ∷ rs) = (record { some = omega (arith, length-take 1000 (r ∷ rs)); few = omega (arith, length-take 1000 (r ∷ rs)) }, short_pieces fuel (drop 1000 (r ∷ rs)))

-- ---- one page
one_piece : (rows : List Slot) (k : ℕ) → 0 < length rows → length rows ≤ k → length (cut rows (Some k)) ≡ 1
one_piece [] k s h = absurd (omega (arith, s))
one_piece (r ∷ rs) k s h = rw (drop_all k (r ∷ rs) h) (ap suc (nothing (length rs) k))
  where
    nothing : (fuel k : ℕ) → length (pieces {A = Slot} fuel k []) ≡ 0
    nothing zero k = refl
    nothing (suc fuel) k = refl

-- light rows stand in one page
long_pages : (size n : ℕ) → size ≤ 24 * n → 0 < n → n ≤ 1000 → n ≤ rows_per_page 1048576 size n
long_pages size n h s f =
    let q : size / n ≤ 24 = div-le_of_le-mul n (subst (λ m. size ≤ m) (mul_comm 24 n) h) in
    let d = size / n + 1 in
    let e : n * d ≤ 1000 * 25 = mul-le n d 1000 25 f (omega (arith, q)) in
    let b : n ≤ 1048576 / d = le-div n 1048576 d (omega arith) (omega (arith, e)) in
    omega (arith, b)

-- ---- the pages of a group
abbrev pub AreLight : List Slots → List ArrowColumn → List Leaf → Type 0
AreLight rows (c ∷ cs) (l ∷ ls) = ((stored : List Triple) → AreStored (leaf_type c.data_type) l.physical (column c.way (map fields rows)) stored → plain_length l.physical (values_in stored) ≤ 24 * length rows) × AreLight rows cs ls
AreLight rows _ _ = Unit {0}

one_page : (s : Style) (e : Encoding) (a : ArrowColumn) (p : Physical) (d : Option (List (Option Value))) (rows : List Slots) (out : OutChunk) → s.page_limit ≡ 1048576 → IsShort rows → d ≡ None
    → ((stored : List Triple) → AreStored (leaf_type a.data_type) p (column a.way (map fields rows)) stored → plain_length p (values_in stored) ≤ 24 * length rows)
    → IsLaid s e (record { arrow = a; physical = p; entries = d }) (map fields rows) out → length out.pages ≡ 1
one_page s e a p (Some es) rows out limit short n light h = absurd (cc n)
one_page s e a p None rows out limit short n light h =
    let m : length (map fields rows) ≡ length rows = length-map rows fields in
    let k = rows_per_page s.page_limit (plain_length p (values_in h.stored)) (length (map fields rows)) in
    let enough : length (map fields rows) ≤ k = rw (limit, m) (long_pages (plain_length p (values_in h.stored)) (length rows) (light h.stored h.are_stored) short.some short.few) in
    AllZip-long _ _ out.pages h.pages ∙ one_piece (map fields rows) k (rw m short.some) enough

pub all_pages : (s : Style) (rows : List Slots) (cs : List ArrowColumn) (ls : List Leaf) (es : List Encoding) (ds : List (Option (List (Option Value)))) (outs : List OutChunk)
    → s.page_limit ≡ 1048576 → IsShort rows → AllNone ds → AreLight rows cs ls → AreLaid s rows cs ls es ds outs → sum_by (λ c. length c.pages) outs ≡ length cs
all_pages s rows [] [] [] [] [] limit short n light h = refl
all_pages s rows [] [] [] [] (o ∷ os) limit short n light h = absurd h
all_pages s rows [] [] [] (d ∷ ds) os limit short n light h = absurd h
all_pages s rows [] [] (e ∷ es) ds os limit short n light h = absurd h
all_pages s rows [] (l ∷ ls) es ds os limit short n light h = absurd h
all_pages s rows (c ∷ cs) [] es ds os limit short n light h = absurd h
all_pages s rows (c ∷ cs) (l ∷ ls) [] ds os limit short n light h = absurd h
all_pages s rows (c ∷ cs) (l ∷ ls) (e ∷ es) [] os limit short n light h = absurd h
all_pages s rows (c ∷ cs) (l ∷ ls) (e ∷ es) (d ∷ ds) [] limit short n light h = absurd h
all_pages s rows (c ∷ cs) (l ∷ ls) (e ∷ es) (d ∷ ds) (o ∷ os) limit short n light h =
    omega (arith, one_page s e c l.physical d rows o limit short n.0 light.0 h.0, all_pages s rows cs ls es ds os limit short n.1 light.1 h.1, sum_by-cons (λ (x : OutChunk). length x.pages) o os)
