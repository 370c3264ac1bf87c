-- What can be read of a dictionary's column, by what can be read of its keys.
use Rattle.std.proofs.Common.{◌≡◌, ◌⊎◌, inl, inr, ℕ, zero, suc, ◌+◌, ◌<◌, ◌*◌, Bool, true, false, cond, nat_le, Option, Some, None, List, [], ◌∷◌, ◌++◌, map, length, drop, All, refl, arith, ap, sym, subst, ◌∙◌}
use Rattle.std.specs.Prelude.{◌&&◌, slice_get}
use Rattle.std.proofs.lemmas.List.{append-nil, drop-map, length-map, map-append}
use Rattle.std.proofs.lemmas.List.Sums.{sum_by-cons}
use Rattle.columns_base.specs.declared.error.Error.TheVariants.{NotYetImplemented}
use Rattle.columns_base.specs.declared.error.N.TheVariants.{N4}
use Rattle.columns_core.specs.Shapes.{leaf_type}
use Rattle.columns_core.specs.declared.types.IntegerType.{IntegerType}
use Rattle.columns_core.specs.declared.types.IntegerType.TheVariants as K
use Rattle.pq_files.specs.Chunk.{IsData, RawPage, count_in}
use Rattle.pq_files.specs.Page.{Encoding, HasEncoding, delta, delta_length, dictionary, values_in}
use Rattle.pq_files.specs.PageReasons.{IsOutside}
use Rattle.pq_files.specs.RowReasons.{ReadsTriples}
use Rattle.pq_files.proofs.PageOnce.{encoding_same}
use Rattle.pq_files.proofs.PlainOnce.{plain_same}
use Rattle.pq_headline.specs.Columns.{ArrowColumn}
use Rattle.pq_headline.specs.FieldReasons.{EntriesPass, IsNotReadIn, IsPieceOf, PassesKeys, PassesLists, PassesOffsets, PassesTexts, ReadsColumn, ReadsPages, items_in}
use Rattle.pq_pages.specs.Held.{AreEntriesIn}
use Rattle.pq_pages.specs.Outcomes.{Levels, Outcome, gives_page, gives_dictionary, fails}
use Rattle.pq_tree.specs.Headers.{Header, data_page, data_page_2, dictionary_page}
use Rattle.pq_tree.specs.Physical.{Physical, boolean}
use Rattle.pq_tree.specs.Tree.{Leaf}
use Rattle.shredding.specs.Laws.{first_rows}
use Rattle.shredding.specs.Local.{inside}
use Rattle.shredding.specs.Shape.{LeafType, Way}
use Rattle.shredding.specs.Shred.{Triple}
use Rattle.shredding.specs.Slot.{Value}
use Rattle.dictionary_columns.specs.Columns.{key_column, key_leaf}
use Rattle.dictionary_columns.specs.Keys.{key_physical, key_tree, with_value}
use Rattle.dictionary_columns.specs.Sources.{has_indices, keyed_outcome, keyed_outcomes}
use Rattle.dictionary_columns.proofs.Looked.{Looks, beside}
use Rattle.dictionary_columns.proofs.Pages.{indexed, reads-forth}
use Rattle.dictionary_columns.proofs.Triples.{first-with}

-- ---- pages
-- a page by a dictionary is read
read-page : (c : ArrowColumn) (h : Header) → HasEncoding h dictionary → IsNotReadIn c h → ⊥
read-page c h has (inl x) = x.2 has
read-page c h has (inr x) = by x.1
  where
    by : HasEncoding h delta ⊎ HasEncoding h delta_length → ⊥
    by (inl d) = cc (encoding_same h dictionary delta has d)
    by (inr d) = cc (encoding_same h dictionary delta_length has d)

-- the page's triples, each of which is one of a data page by a dictionary
encoded : (t : LeafType) (l : Leaf) (es : Option (List Value)) (raw : RawPage) (ts : List Triple) → has_indices raw.header ≡ true → ReadsTriples t l es raw ts → HasEncoding raw.header dictionary
encoded t l es raw ts h r = indexed raw.header (data-of raw.header r.pairs.encoding r.pairs.has_encoding) h
  where
    data-of : (h : Header) (e : Encoding) → HasEncoding h e → IsData h
    data-of (data_page h) e x = tt
    data-of (data_page_2 h) e x = tt
    data-of (dictionary_page h) e x = absurd x

-- some triples, or none
some-or-none : (ts : List Triple) → (ts ≡ []) ⊎ (0 < length ts)
some-or-none [] = inl refl
some-or-none (t ∷ ts) = inr (omega arith)

page-reads : (c c' : ArrowColumn) (l : Leaf) (p : Physical) (keys es : List Value) (f : Value → Value) (raw : RawPage) (levels : Levels) (os : List Outcome) (ts : List Triple) (b : Bool) → (l.physical ≡ boolean → ⊥) → Looks keys es f → ((i : ℕ) (v : Value) → slice_get es i ≡ Some v → IsOutside (leaf_type c.data_type) l.physical v → ⊥) →
    has_indices raw.header ≡ b → ReadsPages c' (beside l p) (Some keys) (cond b (gives_page raw levels) (fails (NotYetImplemented N4)) ∷ map keyed_outcome os) ts → 0 < length ts →
    ((us : List Triple) → ReadsPages c' (beside l p) (Some keys) (map keyed_outcome os) us → 0 < length us → ReadsPages c l (Some es) os (map (with_value f) us)) →
    ReadsPages c l (Some es) (gives_page raw levels ∷ os) (map (with_value f) ts)
page-reads c c' l p keys es f raw levels os ts false some k within h r n rest = absurd (omega (arith, n, ap length r))
page-reads c c' l p keys es f raw levels os ts true some k within h (read, inl front) n rest =
    let has = encoded (leaf_type c'.data_type) (beside l p) (Some keys) raw ts h front in
    (read-page c raw.header has, inl (reads-forth (leaf_type c.data_type) (leaf_type c'.data_type) l p keys es f raw ts some k has within front))
page-reads c c' l p keys es f raw levels os ts true some k within h (read, inr whole) n rest =
    let first = whole.0 in
    let others = whole.1 in
    let has = encoded (leaf_type c'.data_type) (beside l p) (Some keys) raw first h whole.2 in
    let forth = reads-forth (leaf_type c.data_type) (leaf_type c'.data_type) l p keys es f raw first some k has within whole.2 in
    let parts : map (with_value f) ts ≡ map (with_value f) first ++ map (with_value f) others = ap (map (with_value f)) whole.5 ∙ map-append (with_value f) first others in
    (read-page c raw.header has, by first others parts (length-map first (with_value f) ∙ whole.3) forth (some-or-none others) (rest others whole.4))
  where
    by : (first others : List Triple) → map (with_value f) ts ≡ map (with_value f) first ++ map (with_value f) others → length (map (with_value f) first) ≡ count_in raw.header → ReadsTriples (leaf_type c.data_type) l (Some es) raw (map (with_value f) first) → (others ≡ []) ⊎ (0 < length others) → (0 < length others → ReadsPages c l (Some es) os (map (with_value f) others)) →
        ReadsTriples (leaf_type c.data_type) l (Some es) raw (map (with_value f) ts) ⊎ ((a : List Triple) × (b : List Triple) × ReadsTriples (leaf_type c.data_type) l (Some es) raw a × (length a ≡ count_in raw.header) × ReadsPages c l (Some es) os b × (map (with_value f) ts ≡ a ++ b))
    by first others parts size forth (inl none) more = inl (rw (parts ∙ (ap (λ (us : List Triple). map (with_value f) first ++ map (with_value f) us) none ∙ append-nil (map (with_value f) first))) forth)
    by first others parts size forth (inr are) more = inr (map (with_value f) first, map (with_value f) others, forth, size, more are, parts)

pages-read : (c c' : ArrowColumn) (l : Leaf) (p : Physical) (keys es : List Value) (f : Value → Value) (os : List Outcome) (ts : List Triple) → (l.physical ≡ boolean → ⊥) → Looks keys es f → ((i : ℕ) (v : Value) → slice_get es i ≡ Some v → IsOutside (leaf_type c.data_type) l.physical v → ⊥) →
    ReadsPages c' (beside l p) (Some keys) (map keyed_outcome os) ts → 0 < length ts → ReadsPages c l (Some es) os (map (with_value f) ts)
pages-read c c' l p keys es f [] ts some k within r n = absurd (omega (arith, n, ap length r))
pages-read c c' l p keys es f (gives_page raw levels ∷ os) ts some k within r n = page-reads c c' l p keys es f raw levels os ts (has_indices raw.header) some k within refl r n (λ us own m. pages-read c c' l p keys es f os us some k within own m)
pages-read c c' l p keys es f (gives_dictionary m body ∷ os) ts some k within r n = absurd (omega (arith, n, ap length r))
pages-read c c' l p keys es f (fails e ∷ os) ts some k within r n = absurd (omega (arith, n, ap length r))

-- ---- a column
-- its entries, so many, and those of the keys
pub record HasBoth (c : ArrowColumn) (l : Leaf) (p : Physical) (n : ℕ) (body text : List ℕ) (keys es : List Value) (f : Value → Value) : Type 0 where
  pub some : l.physical ≡ boolean → ⊥
  pub look : Looks keys es f
  pub own : AreEntriesIn l n body es
  pub inside : All (λ v. IsOutside (leaf_type c.data_type) l.physical v → ⊥) es
  pub within : (i : ℕ) (v : Value) → slice_get es i ≡ Some v → IsOutside (leaf_type c.data_type) l.physical v → ⊥
  pub are : AreEntriesIn (beside l p) n text keys

pub entries-are : (l : Leaf) (n : ℕ) (body : List ℕ) (es fs : List Value) → AreEntriesIn l n body es → AreEntriesIn l n body fs → es ≡ fs
entries-are l n body es fs a b = plain_same l.physical body body es fs refl a.plain b.plain (sym a.count ∙ b.count)

pub column-reads : (c c' : ArrowColumn) (l : Leaf) (p : Physical) (n : ℕ) (body text : List ℕ) (keys es : List Value) (f : Value → Value) (os : List Outcome) (entries : Option (List Value)) (ts : List Triple) → HasBoth c l p n body text keys es f →
    ReadsColumn c' (beside l p) (keyed_outcomes (gives_dictionary n text) os) entries ts → 0 < length ts → ReadsColumn c l (gives_dictionary n body ∷ os) (Some es) (map (with_value f) ts)
column-reads c c' l p n body text keys es f os entries ts h r m =
    let front = r.front in
    let keys-are : front.0 ≡ keys = entries-are (beside l p) n text front.0 keys front.2 h.are in
    let own : ReadsPages c' (beside l p) (Some keys) (map keyed_outcome os) ts = subst (λ (xs : List Outcome). ReadsPages c' (beside l p) (Some keys) xs ts) front.4 (subst (λ (x : Option (List Value)). ReadsPages c' (beside l p) x r.behind ts) (front.1 ∙ ap Some keys-are) r.pages) in
    record { behind = os; front = (es, refl, h.own, h.inside, refl); pages = pages-read c c' l p keys es f os ts h.some h.look h.within own m }

pub piece-with : (f : Value → Value) (n : Option ℕ) (ts piece : List Triple) → IsPieceOf n ts piece → IsPieceOf n (map (with_value f) ts) (map (with_value f) piece)
piece-with f None ts piece e = ap (map (with_value f)) e
piece-with f (Some n) ts piece e =
    let k = e.0 in
    let front : length (first_rows (k * n) (map (with_value f) ts)) ≡ length (first_rows (k * n) ts) = ap length (first-with f (k * n) ts) ∙ length-map (first_rows (k * n) ts) (with_value f) in
    (k, ap (map (with_value f)) e.1 ∙ (sym (first-with f n (drop (length (first_rows (k * n) ts)) ts)) ∙ ap (first_rows n) (sym (drop-map (with_value f) (length (first_rows (k * n) ts)) ts) ∙ ap (λ (m : ℕ). drop m (map (with_value f) ts)) (sym front))))

-- ---- V1
items-with : (f : Value → Value) (w : Way) (r : ℕ) (ts : List Triple) → items_in w r (map (with_value f) ts) ≡ items_in w r ts
items-with f w r [] = refl
items-with f w r (t ∷ ts) =
    sum_by-cons (λ (u : Triple). cond (nat_le u.repetition r && nat_le (inside w r) u.definition) 1 0) (with_value f t) (map (with_value f) ts)
    ∙ (ap (λ (n : ℕ). cond (nat_le t.repetition r && nat_le (inside w r) t.definition) 1 0 + n) (items-with f w r ts) ∙ sym (sum_by-cons (λ (u : Triple). cond (nat_le u.repetition r && nat_le (inside w r) u.definition) 1 0) t ts))

lists-with : (f : Value → Value) (w : Way) (r : ℕ) (limits : List ℕ) (ts : List Triple) → PassesLists w r limits ts → PassesLists w r limits (map (with_value f) ts)
lists-with f w r [] ts h = absurd h
lists-with f w r (n ∷ limits) ts (inl h) = inl (omega (arith, h, items-with f w r ts))
lists-with f w r (n ∷ limits) ts (inr h) = inr (lists-with f w (suc r) limits ts h)

lists-some : (w : Way) (r : ℕ) (limits : List ℕ) (ts : List Triple) → PassesLists w r limits ts → 0 < length ts
lists-some w r [] ts h = absurd h
lists-some w r (n ∷ limits) [] (inl h) = absurd (omega (arith, h))
lists-some w r (n ∷ limits) (t ∷ ts) (inl h) = omega arith
lists-some w r (n ∷ limits) ts (inr h) = lists-some w (suc r) limits ts h

pub piece-some : (n : Option ℕ) (ts piece : List Triple) → IsPieceOf n ts piece → 0 < length piece → 0 < length ts
piece-some None ts piece e h = omega (arith, h, ap length e)
piece-some (Some n) [] piece e h = absurd (omega (arith, h, ap length (nothing (e.0 * n) n piece e.1)))
  where
    nothing : (k n : ℕ) (piece : List Triple) → piece ≡ first_rows n (drop (length (first_rows k [])) []) → piece ≡ []
    nothing zero zero piece e = e
    nothing zero (suc n) piece e = e
    nothing (suc k) zero piece e = e
    nothing (suc k) (suc n) piece e = e
piece-some (Some n) (t ∷ ts) piece e h = omega arith

no-texts : (key : IntegerType) (vs : List Value) → PassesTexts (key_tree key) vs → ⊥
no-texts K.Int8 vs h = h
no-texts K.Int16 vs h = h
no-texts K.Int32 vs h = h
no-texts K.Int64 vs h = h
no-texts K.UInt8 vs h = h
no-texts K.UInt16 vs h = h
no-texts K.UInt32 vs h = h
no-texts K.UInt64 vs h = h

pub no-entries : (key : IntegerType) (es : Option (List Value)) → EntriesPass (key_tree key) es → ⊥
no-entries K.Int8 es h = h
no-entries K.Int16 es h = h
no-entries K.Int32 es h = h
no-entries K.Int64 es h = h
no-entries K.UInt8 es h = h
no-entries K.UInt16 es h = h
no-entries K.UInt32 es h = h
no-entries K.UInt64 es h = h

pub no-room : (key : IntegerType) (n : ℕ) → PassesKeys (key_tree key) n → ⊥
no-room K.Int8 n h = h
no-room K.Int16 n h = h
no-room K.Int32 n h = h
no-room K.Int64 n h = h
no-room K.UInt8 n h = h
no-room K.UInt16 n h = h
no-room K.UInt32 n h = h
no-room K.UInt64 n h = h

pub passes-forth : (chunk : Option ℕ) (key : IntegerType) (c : ArrowColumn) (l : Leaf) (n : ℕ) (body text : List ℕ) (keys es : List Value) (f : Value → Value) (os : List Outcome) → HasBoth c l (key_physical key) n body text keys es f → PassesOffsets chunk (key_column key c) (key_leaf key l) (keyed_outcomes (gives_dictionary n text) os) → PassesOffsets chunk c l (gives_dictionary n body ∷ os)
passes-forth chunk key c l n body text keys es f os h x = by x.passes
  where
    by : PassesLists c.way 1 c.limits x.piece ⊎ PassesTexts (key_tree key) (values_in x.piece) → PassesOffsets chunk c l (gives_dictionary n body ∷ os)
    by (inl lists) = record {
      entries = Some es;
      triples = map (with_value f) x.triples;
      reads = column-reads c (key_column key c) l (key_physical key) n body text keys es f os x.entries x.triples h x.reads (piece-some chunk x.triples x.piece x.is_piece (lists-some c.way 1 c.limits x.piece lists));
      piece = map (with_value f) x.piece;
      is_piece = piece-with f chunk x.triples x.piece x.is_piece;
      passes = inl (lists-with f c.way 1 c.limits x.piece lists);
    }
    by (inr texts) = absurd (no-texts key (values_in x.piece) texts)
