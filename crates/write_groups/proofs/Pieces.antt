-- A column in pages.
use Rattle.std.proofs.Common.{◌≡◌, ℕ, zero, suc, ◌+◌, ◌<◌, List, [], ◌∷◌, ◌++◌, length, flat_map, drop, Option, Some, refl, sym, ap, subst, ◌∙◌, All, append-nil, arith, nat_eq, cond}
use Rattle.std.specs.List.{AllZip, AllByRecursion as Each}
use Rattle.std.proofs.lemmas.Grind.{flat_map-append}
use Rattle.std.proofs.lemmas.List.{length-take}
use Rattle.std.proofs.lemmas.List.Elements.{All-from_recursion, filter_map-append, recursion_from_All}
use Rattle.std.proofs.lemmas.List.Sums.{count_by-le-length}
use Rattle.shredding.proofs.Counts.{count_by-cons, counted as rows_are_counted}
use Rattle.shredding.specs.Laws.{starts_row}
use Rattle.shredding.specs.Cut.{cut, pieces, whole}
use Rattle.shredding.specs.Shape.{LeafType}
use Rattle.shredding.specs.Shred.{Triple, column, shred}
use Rattle.shredding.specs.Slot.{Slot, Value}
use Rattle.pq_files.specs.Layout.{OutPage, bounded}
use Rattle.pq_files.specs.Page.{rows_in, values_in}
use Rattle.pq_files.specs.Statistics.{Statistics, HasStatistics}
use Rattle.pq_files.specs.Stored.{AreStored, IsStoredTriple}
use Rattle.pq_tree.specs.Physical.{Physical}
use Rattle.page_statistics.specs.Spelled.{HasOwnBytes, IsExact}
use Rattle.write_groups.proofs.Lists.{split_zip, zip_length}
use Rattle.write_groups.specs.Given.{IsPageOf}
use Rattle.write_pages.specs.Holds.{HaveBytes, ToGive}

abbrev pub joined : {A : Type 0} → List (List A) → List A
joined ps = flat_map (λ p. p) ps

-- ---- rows are counted in what is stored

pub stored_rows : (t : LeafType) (p : Physical) (xs ys : List Triple) → AreStored t p xs ys → rows_in ys ≡ rows_in xs
stored_rows t p [] [] h = refl
stored_rows t p [] (y ∷ ys) h = absurd h
stored_rows t p (x ∷ xs) [] h = absurd h
stored_rows t p (x ∷ xs) (y ∷ ys) h =
    count_by-cons y ys ∙ ((λ i. cond (nat_eq (h.0.repetition i) 0) 1 0 + stored_rows t p xs ys h.1 i) ∙ sym (count_by-cons x xs))

-- ---- pieces

-- no piece is without rows
some_rows : {A : Type 0} (k n : ℕ) (rows : List A) → 0 < n → Each (λ p. 0 < length p) (pieces k n rows)
some_rows zero n rows b = tt
some_rows (suc k) n [] b = tt
some_rows (suc k) n (r ∷ rows) b = (omega (arith, b, length-take n (r ∷ rows)), some_rows k n (drop n (r ∷ rows)) b)

pub each_some : {A : Type 0} (n : ℕ) (rows : List A) → 0 < n → Each (λ p. 0 < length p) (cut rows (Some n))
each_some n rows b = some_rows (length rows) n rows b

-- some rows make a piece
pub some_pieces : {A : Type 0} (n : ℕ) (rows : List A) → 0 < length rows → 0 < length (cut rows (Some n))
some_pieces n [] h = absurd (omega (arith, h))
some_pieces n (r ∷ rows) h = omega arith

-- all rows as one piece
pub joined_whole : {A : Type 0} (rows : List A) → joined (whole rows) ≡ rows
joined_whole [] = refl
joined_whole (r ∷ rows) = append-nil (r ∷ rows)

pub whole_some : {A : Type 0} (rows : List A) → Each (λ p. 0 < length p) (whole rows)
whole_some [] = tt
whole_some (r ∷ rows) = (omega arith, tt)

pub one_piece : {A : Type 0} (rows : List A) → 0 < length rows → 0 < length (whole rows)
one_piece [] h = absurd (omega (arith, h))
one_piece (r ∷ rows) h = omega arith

pub whole_each : {A : Type 0} (P : List A → Type 0) (rows : List A) → P rows → Each P (whole rows)
whole_each P [] h = tt
whole_each P (r ∷ rows) h = (h, tt)

-- ---- pages

-- there are statistics of a page of these rows, whatever is stored for them
abbrev pub HasStated : ToGive → List Slot → Type 0
HasStated g p =
    (ts : List Triple) → AreStored g.type g.physical (column g.way p) ts → HaveBytes g.type ts
    → (st : Option Statistics) × HasStatistics g.options.write_statistics g.type g.physical st (column g.way p) (bounded g.entries (column g.way p)) × IsExact g.type g.physical (bounded g.entries (column g.way p)) st

pub record Paged (g : ToGive) (ps : List (List Slot)) (stored : List Triple) : Type 0 where
  pub pages : List OutPage
  pub are : AllZip (IsPageOf g.options.write_statistics g.encoding g.type g.physical g.way g.entries) ps pages
  pub whole : flat_map (λ (o : OutPage). o.triples) pages ≡ stored

page_some : (g : ToGive) (p : List Slot) (ts : List Triple) → 0 < length p → AreStored g.type g.physical (column g.way p) ts → 0 < length ts
page_some g p ts some h =
    omega (arith, some, rows_are_counted g.way p, count_by-le-length starts_row (column g.way p), zip_length (IsStoredTriple g.type g.physical) (column g.way p) ts h)

each_front : {A : Type 0} (P : A → Type 0) (vs ws : List A) → Each P (vs ++ ws) → Each P vs
each_front P [] ws k = tt
each_front P (v ∷ vs) ws k = (k.0, each_front P vs ws k.1)

each_behind : {A : Type 0} (P : A → Type 0) (vs ws : List A) → Each P (vs ++ ws) → Each P ws
each_behind P [] ws k = k
each_behind P (v ∷ vs) ws k = each_behind P vs ws k.1

-- what is stored in front has bytes, and what is stored behind
halves_have : (t : LeafType) (xs ys : List Triple) → HaveBytes t (xs ++ ys) → HaveBytes t xs × HaveBytes t ys
halves_have t xs ys h =
    let both = recursion_from_All (HasOwnBytes t) (values_in xs ++ values_in ys) (subst (λ (vs : List Value). All (HasOwnBytes t) vs) (filter_map-append (λ (x : Triple). x.value) xs ys) h) in
    (All-from_recursion (HasOwnBytes t) (values_in xs) (each_front (HasOwnBytes t) (values_in xs) (values_in ys) both), All-from_recursion (HasOwnBytes t) (values_in ys) (each_behind (HasOwnBytes t) (values_in xs) (values_in ys) both))

pub paged : (g : ToGive) (ps : List (List Slot)) (stored : List Triple) → Each (λ p. 0 < length p) ps → Each (HasStated g) ps → HaveBytes g.type stored → AreStored g.type g.physical (column g.way (joined ps)) stored → Paged g ps stored
paged g [] [] e k b h = record { pages = []; are = tt; whole = refl }
paged g [] (t ∷ ts) e k b h = absurd h
paged g (p ∷ ps) stored e k b h =
    let parts = subst (λ (xs : List Triple). AllZip (IsStoredTriple g.type g.physical) xs stored) (flat_map-append (λ (s : Slot). shred g.way s 0 0 0) p (joined ps)) h in
    let two = split_zip (IsStoredTriple g.type g.physical) (column g.way p) (column g.way (joined ps)) stored parts in
    let bs = halves_have g.type two.0 two.1 (subst (λ (xs : List Triple). HaveBytes g.type xs) two.2 b) in
    let st = k.0 two.0 two.3 bs.0 in
    let rest = paged g ps two.1 e.1 k.1 bs.1 two.4 in
    record {
      pages = record { triples = two.0; encoding = g.encoding; statistics = st.0 } ∷ rest.pages;
      are = (record { triples = two.3; have_bytes = bs.0; encoding = refl; statistics = st.1; exact = st.2; some = page_some g p two.0 e.0 two.3 }, rest.are);
      whole = ap (λ (xs : List Triple). two.0 ++ xs) rest.whole ∙ sym two.2;
    }
