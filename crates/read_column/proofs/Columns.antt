-- What is taken of a column is its front.
use Rattle.std.proofs.Common.{◌≡◌, ℕ, ◌+◌, ◌-◌, ◌≤◌, Option, Some, None, IfSome, All, subst, List, [], ◌∷◌, ◌++◌, length, take, drop, refl, arith, ap, sym, ◌∙◌, append_assoc}
use Rattle.std.proofs.lemmas.List.{length-take}
use Rattle.std.proofs.lemmas.List.Sums.{sum_by-cons}
use Rattle.columns_core.specs.Shapes.{leaf_type}
use Rattle.shredding.specs.Laws.{BeginsRow}
use Rattle.shredding.specs.Shape.{LeafType, Way}
use Rattle.shredding.specs.Shred.{Triple, column}
use Rattle.shredding.specs.Slot.{Slot, Value}
use Rattle.shredding.proofs.Counts.{counted}
use Rattle.shredding.proofs.Splits.{splits}
use Rattle.pq_files.specs.Chunk.{Chunk, IsPageIn, Page, RawPage}
use Rattle.pq_files.specs.Page.{rows_in}
use Rattle.pq_files.specs.Stored.{AreStored, IsStoredTriple}
use Rattle.pq_files.specs.PageReasons.{IsOutside}
use Rattle.pq_files.proofs.PageOnce.{page_same}
use Rattle.pq_files.proofs.PlainOnce.{plain_same}
use Rattle.pq_files.proofs.StoredOnce.{are_unique}
use Rattle.pq_headline.specs.Columns.{ArrowColumn}
use Rattle.pq_headline.specs.FieldReasons.{ReadsFront}
use Rattle.pq_pages.specs.Held.{AreEntriesIn, ArePagesIn, HoldsChunk}
use Rattle.pq_pages.specs.Outcomes.{Outcome, gives_page, gives_dictionary, fails}
use Rattle.pq_tree.specs.Physical.{Physical}
use Rattle.pq_tree.specs.Tree.{Leaf}
use Rattle.read_pieces.specs.Columns.{AreColumnRows, ColumnOpening, rows_of_all}
use Rattle.read_walk.specs.Pairs.{Item}
use Rattle.read_walk.specs.Values.{Stored}
use Rattle.read_column.specs.Queues.{Waiting, rows_to_come}
use Rattle.read_column.specs.Reading.{IsReading, Reading, stored_in}
use Rattle.read_column.specs.Taken.{joined, AreSized, IsQueued, TakesPairs}
use Rattle.read_column.proofs.Taking.{begins-append, piece-few, rows-piece}
use Rattle.read_column.proofs.Ways.{rows-append}

-- ---- pages
-- no dictionary page in front
abbrev pub StartsPlain : List Outcome → Type 0
StartsPlain [] = Unit {0}
StartsPlain (gives_page p levels ∷ os) = Unit {0}
StartsPlain (gives_dictionary n body ∷ os) = ⊥
StartsPlain (fails e ∷ os) = Unit {0}

holds-plain : (l : Leaf) (os : List Outcome) (c : Chunk) → StartsPlain os → HoldsChunk l os c → (c.entries ≡ None) × ArePagesIn l c.entries os c.pages
holds-plain l [] c s h = h
holds-plain l (gives_page p levels ∷ os) c s h = h
holds-plain l (gives_dictionary n body ∷ os) c s h = absurd s
holds-plain l (fails e ∷ os) c s h = h

-- entries are what their bytes spell
entries-same : (l : Leaf) (n : ℕ) (body : List ℕ) (es fs : List Value) → AreEntriesIn l n body es → AreEntriesIn l n body fs → es ≡ fs
entries-same l n body es fs a b = plain_same l.physical body body es fs refl a.plain b.plain (sym a.count ∙ b.count)

-- what was taken is the front of what holds a chunk
pub front-holds : (c : ArrowColumn) (l : Leaf) (taken left : List Outcome) (es : Option (List Value)) (behind : List Outcome) (got : Chunk) → (taken ≡ [] → StartsPlain left) → ReadsFront c l taken es behind → HoldsChunk l (taken ++ left) got → (got.entries ≡ es) × ArePagesIn l es (behind ++ left) got.pages
front-holds c l [] left es behind got s f h =
    let g = holds-plain l left got (s refl) h in
    rw (f.0, f.1) (g.0, subst (λ (x : Option (List Value)). ArePagesIn l x left got.pages) g.0 g.1)
front-holds c l (gives_page p levels ∷ os) left es behind got s f h = rw (f.0, f.1) (h.0, subst (λ (x : Option (List Value)). ArePagesIn l x (gives_page p levels ∷ (os ++ left)) got.pages) h.0 h.1)
front-holds c l (fails e ∷ os) left es behind got s f h = absurd h.1
front-holds c l (gives_dictionary n body ∷ os) left es behind got s f h =
    let same : h.0 ≡ f.0 = entries-same l n body h.0 f.0 h.2 f.2 in
    let e : got.entries ≡ es = h.1 ∙ (ap (λ (x : List Value). Some x) same ∙ sym f.1) in
    rw f.4 (e, subst (λ (x : Option (List Value)). ArePagesIn l x (os ++ left) got.pages) e h.3)

-- and all of it, where nothing is left
pub holds-front : (c : ArrowColumn) (l : Leaf) (taken : List Outcome) (es : Option (List Value)) (behind : List Outcome) (pages : List Page) → ReadsFront c l taken es behind → ArePagesIn l es behind pages → HoldsChunk l taken (record { entries = es; pages = pages })
holds-front c l [] es behind pages f a = (f.0, subst (λ (xs : List Outcome). ArePagesIn l es xs pages) f.1 a)
holds-front c l (gives_page p levels ∷ os) es behind pages f a = (f.0, subst (λ (xs : List Outcome). ArePagesIn l es xs pages) f.1 a)
holds-front c l (fails e ∷ os) es behind pages f a = (f.0, subst (λ (xs : List Outcome). ArePagesIn l es xs pages) f.1 a)
holds-front c l (gives_dictionary n body ∷ os) es behind pages f a = (f.0, f.1, f.2, subst (λ (xs : List Outcome). ArePagesIn l es xs pages) f.4 a)

pub front-inside : (c : ArrowColumn) (l : Leaf) (taken : List Outcome) (es : Option (List Value)) (behind : List Outcome) → ReadsFront c l taken es behind → IfSome es (All (λ v. ¬ IsOutside (leaf_type c.data_type) l.physical v))
front-inside c l [] es behind f = rw f.0 tt
front-inside c l (gives_page p levels ∷ os) es behind f = rw f.0 tt
front-inside c l (fails e ∷ os) es behind f = rw f.0 tt
front-inside c l (gives_dictionary n body ∷ os) es behind f = rw f.1 f.3

-- with more behind it
pub front-on : (c : ArrowColumn) (l : Leaf) (taken left : List Outcome) (es : Option (List Value)) (behind : List Outcome) → (taken ≡ [] → StartsPlain left) → ReadsFront c l taken es behind → ReadsFront c l (taken ++ left) es (behind ++ left)
front-on c l [] left es behind s f = rw (f.0, f.1) (plainly c l left (s refl))
  where
    plainly : (c : ArrowColumn) (l : Leaf) (left : List Outcome) → StartsPlain left → ReadsFront c l left None left
    plainly c l [] s = (refl, refl)
    plainly c l (gives_page p levels ∷ os) s = (refl, refl)
    plainly c l (fails e ∷ os) s = (refl, refl)
    plainly c l (gives_dictionary n body ∷ os) s = absurd s
front-on c l (gives_page p levels ∷ os) left es behind s f = (f.0, ap (λ (xs : List Outcome). xs ++ left) f.1)
front-on c l (fails e ∷ os) left es behind s f = (f.0, ap (λ (xs : List Outcome). xs ++ left) f.1)
front-on c l (gives_dictionary n body ∷ os) left es behind s f = (f.0, f.1, f.2, f.3, ap (λ (xs : List Outcome). xs ++ left) f.4)

-- where nothing was taken, no page was
pub behind-none : (c : ArrowColumn) (l : Leaf) (taken : List Outcome) (es : Option (List Value)) (behind : List Outcome) → ReadsFront c l taken es behind → taken ≡ [] → behind ≡ []
behind-none c l [] es behind f e = f.1
behind-none c l (o ∷ os) es behind f e = absurd (cc e)

page-in-same : (l : Leaf) (entries : Option (List Value)) (p : RawPage) (q r : Page) → IsPageIn l entries p q → IsPageIn l entries p r → q ≡ r
page-in-same l entries p q r a b =
    let h : q.header ≡ r.header = a.header ∙ sym b.header in
    let t : q.triples ≡ r.triples = page_same l entries p.header p.body q.triples r.triples a.is b.is in
    λ i. record { header = h i; triples = t i }

pub pages-split : (l : Leaf) (es : Option (List Value)) (os left : List Outcome) (ps qs : List Page) → ArePagesIn l es os ps → ArePagesIn l es (os ++ left) qs → (rest : List Page) × (qs ≡ ps ++ rest) × ArePagesIn l es left rest
pages-split l es [] left [] qs a b = (qs, refl, b)
pages-split l es [] left (p ∷ ps) qs a b = absurd a
pages-split l es (gives_page p levels ∷ os) left [] qs a b = absurd a
pages-split l es (gives_page p levels ∷ os) left (q ∷ ps) [] a b = absurd b
pages-split l es (gives_page p levels ∷ os) left (q ∷ ps) (r ∷ qs) a b =
    let rest = pages-split l es os left ps qs a.1 b.1 in
    (rest.0, ap (λ (xs : List Page). r ∷ xs) rest.1 ∙ ap (λ (x : Page). x ∷ (ps ++ rest.0)) (page-in-same l es p r q b.0 a.0), rest.2)
pages-split l es (gives_dictionary n body ∷ os) left ps qs a b = absurd a
pages-split l es (fails e ∷ os) left ps qs a b = absurd a

pub pages-push : (l : Leaf) (es : Option (List Value)) (os left : List Outcome) (ps qs : List Page) → ArePagesIn l es os ps → ArePagesIn l es left qs → ArePagesIn l es (os ++ left) (ps ++ qs)
pages-push l es [] left [] qs a b = b
pages-push l es [] left (p ∷ ps) qs a b = absurd a
pages-push l es (gives_page p levels ∷ os) left [] qs a b = absurd a
pages-push l es (gives_page p levels ∷ os) left (q ∷ ps) qs a b = (a.0, pages-push l es os left ps qs a.1 b)
pages-push l es (gives_dictionary n body ∷ os) left ps qs a b = absurd a
pages-push l es (fails e ∷ os) left ps qs a b = absurd a

pub stored-append : (ps qs : List Page) → stored_in (ps ++ qs) ≡ stored_in ps ++ stored_in qs
stored-append [] qs = refl
stored-append (p ∷ ps) qs = ap (λ (ts : List Triple). p.triples ++ ts) (stored-append ps qs) ∙ sym (append_assoc p.triples (stored_in ps) (stored_in qs))

-- ---- stored triples
head-same : (t : LeafType) (p : Physical) (x y z : Triple) → IsStoredTriple t p x z → IsStoredTriple t p y z → x ≡ y
head-same t p x y z a b = let e : x ∷ [] ≡ y ∷ [] = are_unique.triples t p (x ∷ []) (y ∷ []) (z ∷ []) (a, tt) (b, tt) in cc

pub stored-front : (t : LeafType) (p : Physical) (xs ys zs ws : List Triple) → AreStored t p xs zs → AreStored t p ys (zs ++ ws) → (others : List Triple) × (ys ≡ xs ++ others) × AreStored t p others ws
stored-front t p [] ys [] ws a b = (ys, refl, b)
stored-front t p [] ys (z ∷ zs) ws a b = absurd a
stored-front t p (x ∷ xs) ys [] ws a b = absurd a
stored-front t p (x ∷ xs) [] (z ∷ zs) ws a b = absurd b
stored-front t p (x ∷ xs) (y ∷ ys) (z ∷ zs) ws a b =
    let rest = stored-front t p xs ys zs ws a.1 b.1 in
    (rest.0, ap (λ (us : List Triple). y ∷ us) rest.1 ∙ ap (λ (u : Triple). u ∷ (xs ++ rest.0)) (head-same t p y x z b.0 a.0), rest.2)

pub stored-both : (t : LeafType) (p : Physical) (xs ys zs ws : List Triple) → AreStored t p xs zs → AreStored t p ys ws → AreStored t p (xs ++ ys) (zs ++ ws)
stored-both t p [] ys [] ws a b = b
stored-both t p [] ys (z ∷ zs) ws a b = absurd a
stored-both t p (x ∷ xs) ys [] ws a b = absurd a
stored-both t p (x ∷ xs) ys (z ∷ zs) ws a b = (a.0, stored-both t p xs ys zs ws a.1 b)

-- stored triples of a list in two parts
pub stored-parts : (t : LeafType) (p : Physical) (xs ys zs : List Triple) → AreStored t p (xs ++ ys) zs → (a : List Triple) × (b : List Triple) × (zs ≡ a ++ b) × AreStored t p xs a × AreStored t p ys b
stored-parts t p [] ys zs s = ([], zs, refl, tt, s)
stored-parts t p (x ∷ xs) ys [] s = absurd s
stored-parts t p (x ∷ xs) ys (z ∷ zs) s =
    let r = stored-parts t p xs ys zs s.1 in
    (z ∷ r.0, r.1, ap (λ (us : List Triple). z ∷ us) r.2, (s.0, r.3), r.4)

pub stored-begins : (t : LeafType) (p : Physical) (xs zs : List Triple) → AreStored t p xs zs → BeginsRow zs → BeginsRow xs
stored-begins t p [] zs a b = tt
stored-begins t p (x ∷ xs) [] a b = absurd a
stored-begins t p (x ∷ xs) (z ∷ zs) a b = sym a.0.repetition ∙ b

pub begins-stored : (t : LeafType) (p : Physical) (xs zs : List Triple) → AreStored t p xs zs → BeginsRow xs → BeginsRow zs
begins-stored t p xs [] a b = tt
begins-stored t p [] (z ∷ zs) a b = absurd a
begins-stored t p (x ∷ xs) (z ∷ zs) a b = a.0.repetition ∙ b

pub pages-begin : (l : Leaf) (es : Option (List Value)) (os : List Outcome) (ps : List Page) → ArePagesIn l es os ps → BeginsRow (stored_in ps)
pages-begin l es os [] a = tt
pages-begin l es [] (p ∷ ps) a = absurd a
pages-begin l es (gives_page r levels ∷ os) (p ∷ ps) a = begins-append p.triples (stored_in ps) a.0.is.begins_row (λ _. pages-begin l es os ps a.1)
pages-begin l es (gives_dictionary n body ∷ os) (p ∷ ps) a = absurd a
pages-begin l es (fails e ∷ os) (p ∷ ps) a = absurd a

-- ---- rows
pub rows-sized : (n : Option ℕ) (left rest : ℕ) (pieces : List (List Triple)) → AreSized n left pieces rest → rows_of_all pieces + rest ≡ left
rows-sized n left rest [] s = omega (arith, s)
rows-sized n left rest (ts ∷ pieces) s =
    omega (arith, sum_by-cons rows_in ts pieces, rows-sized n (left - rows_in ts) rest pieces s.3, s.0, piece-few n left)

pub rows-joined : (pieces : List (List Triple)) → rows_in (joined pieces) ≡ rows_of_all pieces
rows-joined [] = refl
rows-joined (ts ∷ pieces) = omega (arith, sum_by-cons rows_in ts pieces, rows-append ts (joined pieces), rows-joined pieces)

-- what was taken of a page, by the rows that were still to come before it and are behind it
pub rows-taken : (n : Option ℕ) (w : Way) (before : ℕ) (whole : List (List Triple)) (last : List Triple) (q q' : Waiting) (page page' : List Item) (left left' : List Stored) → IsQueued w before whole last q → (t : TakesPairs n w before (joined whole ++ last) q' page page' left left') → rows_to_come q - rows_to_come q' ≡ rows_in t.taken
rows-taken n w before whole last q q' page page' left left' k t =
    let k' = t.queued in
    omega (
      arith,
      rows-piece w last q.state q.leaf k.is,
      rows-piece w t.last q'.state q'.leaf k'.is,
      k.left,
      k.most,
      k'.left,
      k'.most,
      rows-sized q.chunk_size before k.rest whole k.sized,
      rows-sized q'.chunk_size before k'.rest t.whole k'.sized,
      rows-joined whole,
      rows-joined t.whole,
      ap rows_in t.all,
      rows-append (joined whole) last,
      rows-append (joined t.whole) t.last,
      rows-append (joined whole ++ last) t.taken,
    )

-- the rows behind a part of a column
pub rows-behind : (w : Way) (rows : List Slot) (a b : List Triple) → column w rows ≡ a ++ b → BeginsRow b → (rows_in a ≤ length rows) × (a ≡ column w (take (rows_in a) rows)) × (b ≡ column w (drop (rows_in a) rows))
rows-behind w rows a b e begins =
    let s = splits w rows a b e begins in
    let n : rows_in a ≡ s.0 = ap rows_in s.2 ∙ (counted w (take s.0 rows) ∙ omega (arith, length-take s.0 rows, s.1)) in
    (omega (arith, n, s.1), s.2 ∙ ap (λ (k : ℕ). column w (take k rows)) (sym n), s.3 ∙ ap (λ (k : ℕ). column w (drop k rows)) (sym n))

pub rows-between : (w : Way) (rows : List Slot) (a ts c : List Triple) → column w rows ≡ a ++ (ts ++ c) → BeginsRow (ts ++ c) → BeginsRow c → ts ≡ column w (take (rows_in ts) (drop (rows_in a) rows))
rows-between w rows a ts c e b d =
    let behind = rows-behind w rows a (ts ++ c) e b in
    (rows-behind w (drop (rows_in a) rows) ts c (sym behind.2) d).1

-- ---- the rest of a column
pub record Continues (o : ColumnOpening) (es : Option (List Value)) (rows : List Slot) (front : List Triple) (left : List Outcome) : Type 0 where
  pub others : List Triple
  pub rest : List Page
  pub pages : ArePagesIn o.leaf es left rest
  pub stored : AreStored (leaf_type o.column.data_type) o.leaf.physical others (stored_in rest)
  pub parts : column o.column.way rows ≡ front ++ others

pub continues : (stored : List ℕ → List Stored) (limit : ℕ) (o : ColumnOpening) (pieces : List (List Triple)) (now : Reading) (rows : List Slot) → (r : IsReading stored limit o pieces now) → (r.taken ≡ [] → StartsPlain now.outcomes) → AreColumnRows o rows → Continues o r.entries rows (joined pieces ++ (joined r.whole ++ r.last)) now.outcomes
continues stored limit o pieces now rows r s a =
    let t = leaf_type o.column.data_type in
    let c = a.chunk in
    let holds : HoldsChunk o.leaf (r.taken ++ now.outcomes) c = rw r.outcomes at a.holds.holds in
    let h = front-holds o.column o.leaf r.taken now.outcomes r.entries r.behind c s r.front holds in
    let split = pages-split o.leaf r.entries r.behind now.outcomes r.pages c.pages r.are h.1 in
    let shred : AreStored t o.leaf.physical (column o.column.way rows) (stored_in r.pages ++ stored_in split.0) = rw (← stored-append r.pages split.0, ← split.1) a.holds.shred in
    let front = stored-front t o.leaf.physical (joined pieces ++ (joined r.whole ++ r.last)) (column o.column.way rows) (stored_in r.pages) (stored_in split.0) r.triples shred in
    record { others = front.0; rest = split.0; pages = split.2; stored = front.2; parts = front.1 }
