-- Why a page is refused.
use Rattle.std.proofs.Common.{◌≡◌, ◌⊎◌, inl, inr, ℕ, ◌<◌, Bool, true, false, not, nat_eq, nat_lt, cond, Option, Some, None, Ok, List, [], ◌∷◌, ◌++◌, map, length, All, refl, arith, ap, sym, subst, ◌∙◌, append_assoc, append-nil}
use Rattle.std.proofs.lemmas.Bool.{cases_lt}
use Rattle.columns_base.specs.declared.error.Error.{Error}
use Rattle.columns_base.specs.declared.error.Error.TheVariants.{NotYetImplemented, OutOfSpec}
use Rattle.columns_base.specs.declared.error.N.TheVariants.{N8}
use Rattle.columns_base.specs.declared.error.S.TheVariants.{S5}
use Rattle.columns_core.specs.Shapes.{leaf_type}
use Rattle.shredding.specs.Laws.{BeginsRow}
use Rattle.shredding.specs.Local.{IsInOrder, IsWithin}
use Rattle.shredding.specs.Shape.{LeafType, Way}
use Rattle.shredding.specs.Shred.{Triple, column}
use Rattle.shredding.specs.Slot.{Slot, Value}
use Rattle.shredding.proofs.Counts.{counted}
use Rattle.shredding.proofs.Levels.{levels_are_within}
use Rattle.shredding.proofs.Order.{columns_are_local}
use Rattle.pq_files.specs.Chunk.{IsData, IsPageIn, Page, RawPage}
use Rattle.pq_files.specs.Page.{Encoding, plain, dictionary, delta, delta_length, HasEncoding, IsSpelled, LevelsAreRuns, encoding_numbered, rows_in, values_in}
use Rattle.pq_files.specs.PageReasons.{IsOfVersion1, IsRead}
use Rattle.pq_files.specs.Stored.{AreStored}
use Rattle.pq_headline.specs.Columns.{ArrowColumn, is_alone}
use Rattle.pq_files.specs.Reasons.{AnyOf}
use Rattle.pq_headline.specs.FieldReasons.{GivesPage, BeginsWithEntries, HasMisplaced, HasN4Page, ReadsFront}
use Rattle.pq_headline.specs.Openings.{leaf_levels, piece_size}
use Rattle.pq_pages.specs.Held.{ArePagesIn}
use Rattle.pq_pages.specs.Outcomes.{Levels, Outcome, gives_page, gives_dictionary, fails, IsOfLevels}
use Rattle.pq_tree.specs.Headers.{Header, data_page, data_page_2, dictionary_page}
use Rattle.pq_tree.specs.Tree.{Leaf}
use Rattle.read_items.specs.Items.{ItemsAreCounted}
use Rattle.read_pieces.specs.Columns.{AreColumnRows, ColumnOpening, RefusesPiece}
use Rattle.read_walk.specs.Pairs.{Pair, Item}
use Rattle.read_walk.specs.Values.{Stored}
use Rattle.read_walk.specs.Walk.{begun, pair_of, values_of}
use Rattle.pq_numbers.specs.Texts.{Begins}
use Rattle.pq_tree.specs.Physical.{Physical, int32, int64, byte_array}
use Rattle.read_pieces.specs.Leaves.{ReadsPlain, in_bytes}
use Rattle.std.proofs.lemmas.Option.{same_Some}
use Rattle.read_column.specs.Deltas.{HasFault, IsReadBy, SpellNone, deltas_in, present_in}
use Rattle.read_column.specs.Dictionary.{AreTextsOf, Means, Texts}
use Rattle.read_column.specs.declared.deltas.Deltas.{Deltas}
use Rattle.read_column.specs.Opened.{IsServedIn, SayRuns, StatesRows, first_goes_on}
use Rattle.read_column.specs.Queues.{Waiting}
use Rattle.read_column.specs.Reading.{CountsOtherwise, HasItems, HasNoDeltas, IsReading, RefusesPage, goes_on_error, reading, stored_in}
use Rattle.read_column.specs.Taken.{joined, BeginsPair, StopsPage, TakesPairs}
use Rattle.read_column.proofs.Columns.{continues, rows-joined, rows-sized, stored-begins}
use Rattle.read_column.proofs.Long.{goes-on-in, lists-long, texts-long}
use Rattle.read_column.proofs.Dictionaries.{are-bits}
use Rattle.read_column.proofs.Foreseen.{PairsForeseen, all-behind, all-front, behind-taken, foreseen, pairs-foreseen, stored-cut}
use Rattle.read_column.proofs.Pages.{counts-rows, rows-stored}
use Rattle.read_column.proofs.Present.{no-fault}
use Rattle.read_column.proofs.Turned.{none-numbers, none-strings}
use Rattle.read_column.proofs.Readings.{any-left, holds-left, of-rows, queue-is}
use Rattle.read_column.proofs.Refused.{Chained, chained-behind, chained-front, no-fault-left, not-on, not-out-of-order, not-outside, not-too-few, not-unreadable, order-chained}
use Rattle.read_column.proofs.Taking.{first-begins, lt-holds, piece-some}
use Rattle.read_column.proofs.Ways.{begun-pairs, rows-append, rows-cons}

-- ---- a page that is not served
-- Its encoding is not read here: deltas in a column that is not flat, or one that its physical type has not.
abbrev Unread : ArrowColumn → Leaf → Header → Type 0
Unread c l h = ((is_alone c.way ≡ false) × (HasEncoding h delta ⊎ HasEncoding h delta_length)) ⊎ ((e : Encoding) → HasEncoding h e → IsRead l e → ⊥)

flat-numbers : (own : Bool) (p : Physical) → (p ≡ int32) ⊎ (p ≡ int64) → IsReadBy own (deltas_in true p) delta
flat-numbers own p (inl e) = rw e tt
flat-numbers own p (inr e) = rw e tt

flat-strings : (own : Bool) (p : Physical) → p ≡ byte_array → IsReadBy own (deltas_in true p) delta_length
flat-strings own p e = rw e tt

unread : (t : LeafType) (c : ArrowColumn) (l : Leaf) (stored : List ℕ → List Stored) (k : Deltas) (h : Header) (flat : Bool) (o : Option Encoding) → is_alone c.way ≡ flat → k ≡ deltas_in flat l.physical → ReadsPlain t l.physical stored → ((e : Encoding) → HasEncoding h e → o ≡ Some e) → ((e : Encoding) → o ≡ Some e → HasEncoding h e) → (IsServedIn (in_bytes stored) k h → ⊥) → Unread c l h
unread t c l stored k h flat None alone is r to back n = inr (λ e has read. absurd (cc (to e has)))
unread t c l stored k h flat (Some plain) alone is r to back n = absurd (n (plain, back plain refl, tt))
unread t c l stored k h false (Some delta) alone is r to back n = inl (alone, inl (back delta refl))
unread t c l stored k h false (Some delta_length) alone is r to back n = inl (alone, inr (back delta_length refl))
unread t c l stored k h true (Some delta) alone is r to back n = inr (λ e has read. n (delta, back delta refl, rw is (flat-numbers (in_bytes stored) l.physical (subst (λ (x : Encoding). IsRead l x) (sym (same_Some delta e (to e has))) read))))
unread t c l stored k h true (Some delta_length) alone is r to back n = inr (λ e has read. n (delta_length, back delta_length refl, rw is (flat-strings (in_bytes stored) l.physical (subst (λ (x : Encoding). IsRead l x) (sym (same_Some delta_length e (to e has))) read))))
unread t c l stored k h flat (Some dictionary) alone is r to back n = inr (λ e has read. not-read (in_bytes stored) refl (subst (λ (x : Encoding). IsRead l x) (sym (same_Some dictionary e (to e has))) read))
  where
    not-read : (b : Bool) → in_bytes stored ≡ b → IsRead l dictionary → ⊥
    not-read true own read = n (dictionary, back dictionary refl, own)
    not-read false own read = are-bits t l.physical stored r own read

unserved : (t : LeafType) (c : ArrowColumn) (l : Leaf) (stored : List ℕ → List Stored) (k : Deltas) (h : Header) → k ≡ deltas_in (is_alone c.way) l.physical → ReadsPlain t l.physical stored → IsData h → (IsServedIn (in_bytes stored) k h → ⊥) → Unread c l h
unserved t c l stored k (data_page h) is r is-data n = unread t c l stored k (data_page h) (is_alone c.way) (encoding_numbered h.encoding) refl is r (λ e x. x) (λ e x. x) n
unserved t c l stored k (data_page_2 h) is r is-data n = unread t c l stored k (data_page_2 h) (is_alone c.way) (encoding_numbered h.encoding) refl is r (λ e x. x) (λ e x. x) n
unserved t c l stored k (dictionary_page h) is r is-data n = absurd is-data

no-runs : (l : Leaf) (h : Header) (levels : Levels) → levels ≡ leaf_levels l → (SayRuns levels h → ⊥) → IsData h × (LevelsAreRuns l h → ⊥)
no-runs l (data_page h) levels e n = (tt, λ runs. n (rw e runs))
no-runs l (data_page_2 h) levels e n = absurd (n tt)
no-runs l (dictionary_page h) levels e n = absurd (n tt)

-- ---- the page of rows
first-page : (l : Leaf) (es : Option (List Value)) (p : RawPage) (levels : Levels) (os : List Outcome) (rest : List Page) → ArePagesIn l es (gives_page p levels ∷ os) rest → (q : Page) × (more : List Page) × (rest ≡ q ∷ more) × IsPageIn l es p q
first-page l es p levels os [] a = absurd a
first-page l es p levels os (q ∷ more) a = (q, more, refl, a.0)

-- the triples of the page that comes, where the column is one of rows
pub record PageOfRows (o : ColumnOpening) (es : Option (List Value)) (front : List Triple) (p : RawPage) (rows : List Slot) : Type 0 where
  pub page : Page
  pub is : IsPageIn o.leaf es p page
  pub own : List Triple
  pub others : List Triple
  pub stored : AreStored (leaf_type o.column.data_type) o.leaf.physical own page.triples
  pub parts : column o.column.way rows ≡ front ++ (own ++ others)
  pub within : All (IsWithin o.column.way) own
  pub chained : Chained o.column.way own
  pub begins : BeginsRow own

pub page-of-rows : (stored : List ℕ → List Stored) (limit : ℕ) (o : ColumnOpening) (pieces : List (List Triple)) (p : RawPage) (levels : Levels) (os : List Outcome) (d : Means) (q : Waiting) (b : Bool) (rows : List Slot) → (r : IsReading stored limit o pieces (reading (gives_page p levels ∷ os) d q b)) → AreColumnRows o rows → PageOfRows o r.entries (joined pieces ++ (joined r.whole ++ r.last)) p rows
page-of-rows stored limit o pieces p levels os d q b rows r a =
    let w = o.column.way in
    let t = leaf_type o.column.data_type in
    let c = continues stored limit o pieces (reading (gives_page p levels ∷ os) d q b) rows r (λ _. tt) a in
    let first = first-page o.leaf r.entries p levels os c.rest c.pages in
    let cut = stored-cut t o.leaf.physical c.others (first.0).triples (stored_in first.1) (subst (λ (ps : List Page). AreStored t o.leaf.physical c.others (stored_in ps)) first.2 c.stored) in
    let front = joined pieces ++ (joined r.whole ++ r.last) in
    let parts : column w rows ≡ front ++ (cut.0 ++ cut.1) = c.parts ∙ ap (λ (xs : List Triple). front ++ xs) cut.2 in
    let within : All (IsWithin w) (front ++ (cut.0 ++ cut.1)) = subst (λ (ts : List Triple). All (IsWithin w) ts) parts (levels_are_within w rows a.along) in
    let order : IsInOrder w (column w rows) = ((columns_are_local w (column w rows)).1 (rows, a.along, refl)).1 in
    let chained : Chained w (front ++ (cut.0 ++ cut.1)) = subst (λ (ts : List Triple). Chained w ts) parts (order-chained w (column w rows) order) in
    record {
      page = first.0;
      is = first.3;
      own = cut.0;
      others = cut.1;
      stored = cut.3;
      parts = parts;
      within = all-front (IsWithin w) cut.0 cut.1 (all-behind (IsWithin w) front (cut.0 ++ cut.1) within);
      chained = chained-front w cut.0 cut.1 (chained-behind w front (cut.0 ++ cut.1) chained);
      begins = stored-begins t o.leaf.physical cut.0 (first.0).triples cut.3 first.3.is.begins_row;
    }

pub levels-of : (stored : List ℕ → List Stored) (limit : ℕ) (o : ColumnOpening) (pieces : List (List Triple)) (p : RawPage) (levels : Levels) (os : List Outcome) (d : Means) (q : Waiting) (b : Bool) → (r : IsReading stored limit o pieces (reading (gives_page p levels ∷ os) d q b)) → levels ≡ leaf_levels o.leaf
levels-of stored limit o pieces p levels os d q b r = holds-left stored limit o pieces (gives_page p levels) os d q b (IsOfLevels (leaf_levels o.leaf)) r r.readable.levels

-- ---- the first pair
not-first : (items : List Item) (us : List Triple) → items ≡ map Ok (map pair_of us) → BeginsRow us → first_goes_on items ≡ true → ⊥
not-first items [] e b h = (let f : first_goes_on [] ≡ true = subst (λ (is : List Item). first_goes_on is ≡ true) e h in cc f)
not-first items (u ∷ us) e b h = (let f : nat_lt 0 u.repetition ≡ true = subst (λ (is : List Item). first_goes_on is ≡ true) e h in omega (arith, lt-holds 0 u.repetition f, b))

-- ---- behind some of the page
pub record StillComes (w : Way) (page' : List Item) (left' : List Stored) (us : List Triple) : Type 0 where
  pub pairs : page' ≡ map Ok (map pair_of us)
  pub rest : List Stored
  pub values : left' ≡ map Some (values_of us) ++ rest
  pub within : All (IsWithin w) us
  pub chained : Chained w us
  pub taken : List Triple

-- of rows: what still comes of the page, behind what was taken of it
pub record ComesOfRows (o : ColumnOpening) (front taken : List Triple) (page' : List Item) (left' : List Stored) (rows : List Slot) : Type 0 where
  pub own : List Triple
  pub others : List Triple
  pub parts : column o.column.way rows ≡ front ++ (taken ++ (own ++ others))
  pub comes : StillComes o.column.way page' left' own

pub comes-of-rows : (stored : List ℕ → List Stored) (limit : ℕ) (o : ColumnOpening) (pieces : List (List Triple)) (p : RawPage) (levels : Levels) (os : List Outcome) (d : Means) (q : Waiting) (b : Bool) (items : List Item) (values : List ℕ) (n : Option ℕ) (queue : Waiting) (page' : List Item) (left' : List Stored) (rows : List Slot) → (r : IsReading stored limit o pieces (reading (gives_page p levels ∷ os) d q b)) → HasItems (in_bytes stored) d p levels items values → (takes : TakesPairs n o.column.way r.middle (joined r.whole ++ r.last) queue items page' (stored values) left') → AreColumnRows o rows → ComesOfRows o (joined pieces ++ (joined r.whole ++ r.last)) takes.taken page' left' rows
comes-of-rows stored limit o pieces p levels os d q b items values n queue page' left' rows r has takes a =
    let w = o.column.way in
    let t = leaf_type o.column.data_type in
    let x = page-of-rows stored limit o pieces p levels os d q b rows r a in
    let f = foreseen t o.leaf w stored d r.entries (is_alone o.column.way) p levels items values x.page x.own r.readable.values.plain r.texts r.deltas (levels-of stored limit o pieces p levels os d q b r) has x.is x.stored x.within in
    let behind = behind-taken w x.own takes.taken page' left' f.rest x.within takes.within (sym f.pairs ∙ takes.pairs) (sym f.values ∙ takes.values) in
    let front = joined pieces ++ (joined r.whole ++ r.last) in
    record {
      own = behind.others;
      others = x.others;
      parts = x.parts ∙ ap (λ (ts : List Triple). front ++ ts) (ap (λ (ts : List Triple). ts ++ x.others) behind.parts ∙ append_assoc takes.taken behind.others x.others);
      comes = record {
        pairs = behind.pairs;
        rest = f.rest;
        values = behind.values;
        within = all-behind (IsWithin w) takes.taken behind.others (subst (λ (ts : List Triple). All (IsWithin w) ts) behind.parts x.within);
        chained = chained-behind w takes.taken behind.others (subst (λ (ts : List Triple). Chained w ts) behind.parts x.chained);
        taken = takes.taken;
      };
    }

-- ---- no row is left
rest-none : (n : Option ℕ) (rows rest : ℕ) → (n ≡ Some 0 → ⊥) → rows ≡ piece_size n rest → rows ≡ 0 → rest ≡ 0
rest-none n rows rest some e none = elim (cases_lt 0 rest) [
  | inl h ↦ absurd (omega (arith, none, e, piece-some n rest some h))
  | inr h ↦ omega (arith, h)
]

row-begins : (us : List Triple) (p : Pair) (is page' : List Item) → page' ≡ map Ok (map pair_of us) → page' ≡ Ok p ∷ is → BeginsPair page' → 0 < rows_in us
row-begins [] p is page' e f b = absurd (let h = sym e ∙ f in cc)
row-begins (u ∷ us) p is page' e f b =
    let z : u.repetition ≡ 0 = subst BeginsPair e b in
    let one : ◌≡◌ {A = ℕ} (cond (nat_eq u.repetition 0) 1 0) 1 = rw z refl in
    omega (arith, rows-cons u us, one)

too-many : (stored : List ℕ → List Stored) (limit : ℕ) (o : ColumnOpening) (pieces : List (List Triple)) (p : RawPage) (levels : Levels) (os : List Outcome) (d : Means) (q : Waiting) (b : Bool) (items : List Item) (values : List ℕ) (n : Option ℕ) (queue : Waiting) (page' : List Item) (left' : List Stored) (rows : List Slot) (pair : Pair) (is : List Item) → (r : IsReading stored limit o pieces (reading (gives_page p levels ∷ os) d q b)) → HasItems (in_bytes stored) d p levels items values → (takes : TakesPairs n o.column.way r.middle (joined r.whole ++ r.last) queue items page' (stored values) left') → queue.rows ≡ 0 → page' ≡ Ok pair ∷ is → AreColumnRows o rows → ⊥
too-many stored limit o pieces p levels os d q b items values n queue page' left' rows pair is r has takes none next a =
    let w = o.column.way in
    let c = comes-of-rows stored limit o pieces p levels os d q b items values n queue page' left' rows r has takes a in
    let k = takes.queued in
    let rest : k.rest ≡ 0 = rest-none queue.chunk_size queue.rows k.rest k.some k.rows none in
    let total : rows_in (column w rows) ≡ length rows = counted w rows in
    let front = joined pieces ++ (joined r.whole ++ r.last) in
    omega (
      arith,
      total,
      ap rows_in c.parts,
      rows-append front (takes.taken ++ (c.own ++ c.others)),
      rows-append takes.taken (c.own ++ c.others),
      rows-append c.own c.others,
      row-begins c.own pair is page' c.comes.pairs next takes.begins,
      rows-append (joined pieces) (joined r.whole ++ r.last),
      rows-joined pieces,
      rows-sized o.chunk_size o.rows r.middle pieces r.sized,
      ap rows_in takes.all,
      rows-append (joined takes.whole) takes.last,
      rows-append (joined r.whole ++ r.last) takes.taken,
      rows-joined takes.whole,
      rows-sized queue.chunk_size r.middle k.rest takes.whole k.sized,
      rest,
      a.count,
    )

-- ---- V1 and N8

stops : (counts : ItemsAreCounted) (stored : List ℕ → List Stored) (limit : ℕ) (o : ColumnOpening) (pieces : List (List Triple)) (p : RawPage) (levels : Levels) (os : List Outcome) (d : Means) (q : Waiting) (b : Bool) (items : List Item) (values : List ℕ) (n : Option ℕ) (e : Error) → (r : IsReading stored limit o pieces (reading (gives_page p levels ∷ os) d q b)) → HasItems (in_bytes stored) d p levels items values → BeginsPair items → n ≡ o.chunk_size → StopsPage limit n o.column.way r.middle (joined r.whole ++ r.last) items (stored values) e → RefusesPiece o e
stops counts stored limit o pieces p levels os d q b items values n e r has first size s =
    let of-leaf = levels-of stored limit o pieces p levels os d q b r in
    let w = o.column.way in
    let way = s.takes.queued.is.way in
    let comes = λ (rows : List Slot) (a : AreColumnRows o rows). comes-of-rows stored limit o pieces p levels os d q b items values n s.queue s.page' s.left' rows r has s.takes a in
    elim s.why [
      | inl (some, inl unread) ↦ of-rows o e (inl unread.0) (λ rows a. let c = comes rows a in not-unreadable w _ c.own _ s.page' way c.comes.within c.comes.pairs unread.1)
      | inl (some, inr (inl on)) ↦ absurd (not-on s.page' s.takes.begins on.1)
      | inl (some, inr (inr (inl order))) ↦ of-rows o e (inr (inr (inr (inr (inr order.0))))) (λ rows a. let c = comes rows a in not-out-of-order w _ c.own _ s.page' way c.comes.chained c.comes.pairs order.1)
      | inl (some, inr (inr (inr (inl long)))) ↦ inr (inr (inr (inr (inr (inl (inl (long.0, inl (lists-long counts stored limit o pieces p levels os d q b items values n s.queue s.page' s.left' r has of-leaf first size s.takes some long.1))))))))
      | inl (some, inr (inr (inr (inr fill)))) ↦ elim fill.why [
        | inl memory ↦ inl memory
        | inr (inl few) ↦ of-rows o e (inr (inr (inl few.0))) (λ rows a. let c = comes rows a in not-too-few w _ c.own fill.pairs s.page' fill.rest s.left' c.comes.rest way c.comes.within c.comes.pairs fill.wanted.pairs c.comes.values few.1)
        | inr (inr (inl out)) ↦ of-rows o e (inr (inr (inr (inl out.0)))) (λ rows a. let c = comes rows a in not-outside w _ c.own fill.pairs s.page' fill.rest s.left' c.comes.rest way c.comes.within c.comes.pairs fill.wanted.pairs c.comes.values out.1)
        | inr (inr (inr long)) ↦ inr (inr (inr (inr (inr (inl (inl (long.0, inl (texts-long stored limit o pieces p levels os d q b items values n s.queue s.page' s.left' fill.pairs fill.rest r has of-leaf first size s.takes some fill.wanted long.1))))))))
      ]
      | inr x ↦ elim x.1 [
        | inl more ↦ of-rows o e (inr (inr (inr (inr (inl more.0))))) (λ rows a. too-many stored limit o pieces p levels os d q b items values n s.queue s.page' s.left' rows more.1.0 more.1.1 r has s.takes x.0 more.1.2 a)
        | inr bad ↦ of-rows o e (inl bad.0) (λ rows a. let c = comes rows a in no-fault-left c.own s.page' bad.1.0 c.comes.pairs bad.1.1)
      ]
    ]

-- of a page of version 1 that isn't the first, or wherever else it stands
which : (h : Header) (is_first : Bool) (e : Error) → e ≡ goes_on_error h is_first → (e ≡ OutOfSpec S5) ⊎ ((e ≡ NotYetImplemented N8) × IsOfVersion1 h × (is_first ≡ false))
which (data_page h) true e is = inl is
which (data_page h) false e is = inr (is, tt, refl)
which (data_page_2 h) is_first e is = inl is
which (dictionary_page h) is_first e is = inl is

front-any : (P : Outcome → Type 0) (c : ArrowColumn) (l : Leaf) (taken : List Outcome) (es : Option (List Value)) (behind : List Outcome) → ReadsFront c l taken es behind → AnyOf P behind → AnyOf P taken
front-any P c l [] es behind f a = subst (λ (xs : List Outcome). AnyOf P xs) f.1 a
front-any P c l (gives_page p levels ∷ os) es behind f a = subst (λ (xs : List Outcome). AnyOf P xs) f.1 a
front-any P c l (fails e ∷ os) es behind f a = subst (λ (xs : List Outcome). AnyOf P xs) f.1 a
front-any P c l (gives_dictionary n body ∷ os) es behind f a = inr (subst (λ (xs : List Outcome). AnyOf P xs) f.4 a)

goes-on : (stored : List ℕ → List Stored) (limit : ℕ) (o : ColumnOpening) (pieces : List (List Triple)) (p : RawPage) (levels : Levels) (os : List Outcome) (d : Means) (q : Waiting) (is_first b : Bool) (items : List Item) (values : List ℕ) (e : Error) → b ≡ not is_first → (r : IsReading stored limit o pieces (reading (gives_page p levels ∷ os) d q b)) → HasItems (in_bytes stored) d p levels items values → first_goes_on items ≡ true → e ≡ goes_on_error p.header is_first → RefusesPiece o e
goes-on stored limit o pieces p levels os d q is_first b items values e same r has on is = elim (which p.header is_first e is) [
  | inl s5 ↦ of-rows o e (inr (inl s5)) (λ rows a.
      let x = page-of-rows stored limit o pieces p levels os d q b rows r a in
      let f = foreseen (leaf_type o.column.data_type) o.leaf o.column.way stored d r.entries (is_alone o.column.way) p levels items values x.page x.own r.readable.values.plain r.texts r.deltas (levels-of stored limit o pieces p levels os d q b r) has x.is x.stored x.within in
      not-first items x.own f.pairs x.begins on)
  | inr n8 ↦ inr (inr (inr (inr (inl (
    n8.0,
    record {
      before = r.taken;
      page = p;
      levels = levels;
      rest = os;
      parts = r.outcomes;
      later = elim r.began [ inl x ↦ front-any GivesPage o.column o.leaf r.taken r.entries r.behind r.front x.1 | inr x ↦ absurd (let h = sym x.0 ∙ (same ∙ ap not n8.2) in cc) ];
      version = n8.1;
      goes_on = goes-on-in (in_bytes stored) d o.leaf p levels items values (levels-of stored limit o pieces p levels os d q b r) has on;
    },
  )))))
]

-- ---- another number of rows
pairs-only : (ps qs : List Pair) → map {B = Item} Ok ps ≡ map Ok qs → ps ≡ qs
pairs-only [] [] e = refl
pairs-only [] (q ∷ qs) e = absurd (cc e)
pairs-only (p ∷ ps) [] e = absurd (cc e)
pairs-only (p ∷ ps) (q ∷ qs) e =
    let head : p ≡ q = cc in
    let tail : map {B = Item} Ok ps ≡ map Ok qs = cc in
    ap (λ (x : Pair). x ∷ ps) head ∙ ap (λ (xs : List Pair). q ∷ xs) (pairs-only ps qs tail)

other-rows : (stored : List ℕ → List Stored) (limit : ℕ) (o : ColumnOpening) (pieces : List (List Triple)) (p : RawPage) (levels : Levels) (os : List Outcome) (d : Means) (q : Waiting) (b : Bool) (items : List Item) (values : List ℕ) (n : Option ℕ) (rows : List Slot) → (r : IsReading stored limit o pieces (reading (gives_page p levels ∷ os) d q b)) → HasItems (in_bytes stored) d p levels items values → CountsOtherwise n o.column.way r.middle (joined r.whole ++ r.last) p.header items (stored values) → AreColumnRows o rows → ⊥
other-rows stored limit o pieces p levels os d q b items values n rows r has x a =
    let t = leaf_type o.column.data_type in
    let c = page-of-rows stored limit o pieces p levels os d q b rows r a in
    let f = foreseen t o.leaf o.column.way stored d r.entries (is_alone o.column.way) p levels items values c.page c.own r.readable.values.plain r.texts r.deltas (levels-of stored limit o pieces p levels os d q b r) has c.is c.stored c.within in
    let taken = x.takes.1.taken in
    let pairs : map Ok (map pair_of c.own) ≡ map Ok (map pair_of taken) = sym f.pairs ∙ (x.takes.1.pairs ∙ append-nil (map {B = Item} Ok (map pair_of taken))) in
    let same : map pair_of c.own ≡ map pair_of taken = pairs-only (map pair_of c.own) (map pair_of taken) pairs in
    let count : rows_in (c.page).triples ≡ rows_in taken = rows-stored t o.leaf.physical c.own (c.page).triples c.stored ∙ (sym (begun-pairs c.own) ∙ (ap begun same ∙ begun-pairs taken)) in
    x.otherwise (subst (StatesRows p.header) count (counts-rows p.header (c.page).triples c.is.is.counted))

-- indices, and no dictionary page was taken
no-entries : (stored : List ℕ → List Stored) (limit : ℕ) (o : ColumnOpening) (pieces : List (List Triple)) (p : RawPage) (levels : Levels) (os : List Outcome) (d : Means) (q : Waiting) (b : Bool) → (r : IsReading stored limit o pieces (reading (gives_page p levels ∷ os) d q b)) → d.entries ≡ None → HasEncoding p.header dictionary → HasMisplaced o.outcomes
no-entries stored limit o pieces p levels os d q b r none indices = record {
  before = r.taken;
  outcome = gives_page p levels;
  rest = os;
  parts = r.outcomes;
  misplaced = inr (indices, λ begins. none-begins o.column o.leaf r.taken p levels os r.entries r.behind r.front (no-texts stored o.leaf.physical d.entries r.entries none r.texts) (subst BeginsWithEntries r.outcomes begins));
}
  where
    no-texts : (stored : List ℕ → List Stored) (p : Physical) (d : Option Texts) (es : Option (List Value)) → d ≡ None → AreTextsOf stored p d es → es ≡ None
    no-texts stored p None None e a = refl
    no-texts stored p None (Some es) e a = absurd a
    no-texts stored p (Some x) es e a = absurd (cc e)

    none-begins : (c : ArrowColumn) (l : Leaf) (taken : List Outcome) (p : RawPage) (levels : Levels) (os : List Outcome) (es : Option (List Value)) (behind : List Outcome) → ReadsFront c l taken es behind → es ≡ None → BeginsWithEntries (taken ++ gives_page p levels ∷ os) → ⊥
    none-begins c l [] p levels os es behind f e b = b
    none-begins c l (gives_page x y ∷ taken) p levels os es behind f e b = b
    none-begins c l (fails x ∷ taken) p levels os es behind f e b = b
    none-begins c l (gives_dictionary n body ∷ taken) p levels os es behind f e b = absurd (let h = sym f.1 ∙ e in cc h)

-- ---- deltas that cannot be turned plain
-- of rows all pairs can be read, and the section begins with their values
no-deltas : (stored : List ℕ → List Stored) (limit : ℕ) (o : ColumnOpening) (pieces : List (List Triple)) (p : RawPage) (levels : Levels) (os : List Outcome) (d : Means) (q : Waiting) (b : Bool) (e : Error) → (r : IsReading stored limit o pieces (reading (gives_page p levels ∷ os) d q b)) → HasNoDeltas (in_bytes stored) d p levels e → RefusesPiece o e
no-deltas stored limit o pieces p levels os d q b e r x = elim x.why [
  | inl s4 ↦ of-rows o e (inl s4.0) (λ rows a. let f = of rows a in no-fault (map pair_of f.0.own) (subst HasFault f.1.pairs s4.1))
  | inr s6 ↦ of-rows o e (inr (inr (inl s6.0))) (λ rows a. let f = of rows a in none x.encoding x.deltas x.has.opened.read (values_in f.0.page.triples) f.1.present f.1.spelled s6.1)
]
  where
    of : (rows : List Slot) → AreColumnRows o rows → (y : PageOfRows o r.entries (joined pieces ++ (joined r.whole ++ r.last)) p rows) × PairsForeseen o.leaf r.entries x.encoding p x.has.definition x.items x.section (values_in y.page.triples) y.own
    of rows a =
        let y = page-of-rows stored limit o pieces p levels os d q b rows r a in
        (y, pairs-foreseen (leaf_type o.column.data_type) o.leaf (in_bytes stored) d.deltas x.encoding r.entries p levels x.items x.section y.page y.own (levels-of stored limit o pieces p levels os d q b r) x.has y.is y.stored)

    none : (f : Encoding) → (f ≡ delta) ⊎ (f ≡ delta_length) → IsReadBy (in_bytes stored) d.deltas f → (vs : List Value) → length vs ≡ present_in x.has.definition x.items → Begins (IsSpelled f o.leaf r.entries) x.section vs → SpellNone d.deltas (present_in x.has.definition x.items) x.section → ⊥
    none plain w read vs size spelled s = elim w [ inl g ↦ absurd (cc g) | inr g ↦ absurd (cc g) ]
    none dictionary w read vs size spelled s = elim w [ inl g ↦ absurd (cc g) | inr g ↦ absurd (cc g) ]
    none delta w read vs size spelled s = none-numbers (in_bytes stored) o.leaf r.entries (is_alone o.column.way) d.deltas (present_in x.has.definition x.items) x.section vs r.deltas read s size spelled
    none delta_length w read vs size spelled s = none-strings (in_bytes stored) o.leaf r.entries (is_alone o.column.way) d.deltas (present_in x.has.definition x.items) x.section vs r.deltas read s size spelled

pub page-refused : (counts : ItemsAreCounted) (stored : List ℕ → List Stored) (limit : ℕ) (o : ColumnOpening) (pieces : List (List Triple)) (p : RawPage) (levels : Levels) (os : List Outcome) (d : Means) (q : Waiting) (is_first : Bool) (b : Bool) (e : Error) → b ≡ not is_first → (r : IsReading stored limit o pieces (reading (gives_page p levels ∷ os) d q b)) → RefusesPage stored d limit is_first q.chunk_size o.column.way r.middle (joined r.whole ++ r.last) p levels e → RefusesPiece o e
page-refused counts stored limit o pieces p levels os d q is_first b e same r why = elim why [
  | inl (inl n4) ↦ elim n4.1 [
    | inl n ↦ elim (unserved (leaf_type o.column.data_type) o.column o.leaf stored d.deltas p.header r.deltas r.readable.values.plain n.0 n.1) [
      | inl nested ↦ inr (inr (inr (inl (n4.0, any-left stored limit o pieces (gives_page p levels) os d q b (HasN4Page o.column o.leaf) r (inr (inr nested))))))
      | inr none ↦ inr (inr (inr (inl (n4.0, any-left stored limit o pieces (gives_page p levels) os d q b (HasN4Page o.column o.leaf) r (inl (inl (n.0, inl none)))))))
    ]
    | inr n ↦ (let x = no-runs o.leaf p.header levels (levels-of stored limit o pieces p levels os d q b r) n in inr (inr (inr (inl (n4.0, any-left stored limit o pieces (gives_page p levels) os d q b (HasN4Page o.column o.leaf) r (inl (inl (x.0, inr x.1))))))))
  ]
  | inl (inr s4) ↦ (
      let of-leaf = levels-of stored limit o pieces p levels os d q b r in
      of-rows o e (inl s4.0) (λ rows a. let x = page-of-rows stored limit o pieces p levels os d q b rows r a in s4.1 o.leaf (sym (ap (λ (v : Levels). v.repetition) of-leaf)) (sym (ap (λ (v : Levels). v.definition) of-leaf)) x.is.is.sections x.is.is.split))
  | inr (inl (inl s3)) ↦ inr (inr (inl (s3.0, no-entries stored limit o pieces p levels os d q b r s3.1 s3.2)))
  | inr (inl (inr deltas)) ↦ no-deltas stored limit o pieces p levels os d q b e r deltas
  | inr (inr x) ↦ elim x.why [
    | inl on ↦ goes-on stored limit o pieces p levels os d q is_first b x.items x.values e same r x.has on.0 on.1
    | inr (inl s) ↦ stops counts stored limit o pieces p levels os d q b x.items x.values q.chunk_size e r x.has (first-begins x.items s.0) (ap (λ (v : Waiting). v.chunk_size) (sym (queue-is stored limit o pieces (gives_page p levels ∷ os) d q b r)) ∙ r.chunk) s.1
    | inr (inr other) ↦ of-rows o e (inr (inr (inr (inr (inl other.0))))) (λ rows a. other-rows stored limit o pieces p levels os d q b x.items x.values q.chunk_size rows r x.has other.1 a)
  ]
]
