-- The reader's steps.
use Rattle.std.proofs.Common.{◌≡◌, inl, inr, ℕ, ◌+◌, ◌-◌, ◌<◌, ◌≤◌, Bool, true, false, not, Option, Some, None, Ok, List, [], ◌∷◌, ◌++◌, map, length, All, MatchOption, cond, nat_eq, refl, arith, ap, sym, subst, ◌∙◌, append_assoc, append-nil}
use Rattle.std.specs.List.{AllZip}
use Rattle.std.proofs.lemmas.Bool.{cases_lt}
use Rattle.std.proofs.lemmas.List.Elements.{All-nil, All-append, All-cons, All-head, All-tail}
use Rattle.std.proofs.lemmas.Option.{same_Some}
use Rattle.columns_core.specs.Shapes.{leaf_type}
use Rattle.shredding.specs.Laws.{BeginsRow}
use Rattle.shredding.specs.Shape.{LeafType}
use Rattle.shredding.specs.Shred.{column}
use Rattle.shredding.proofs.Counts.{counted}
use Rattle.pq_files.specs.Chunk.{Chunk, Page}
use Rattle.pq_files.specs.Page.{rows_in}
use Rattle.pq_files.specs.Reasons.{AnyOf}
use Rattle.pq_files.specs.Stored.{AreStored}
use Rattle.pq_headline.specs.FieldReasons.{GivesPage, IsOfRows, IsPieceOf, ReadsFront}
use Rattle.pq_headline.specs.Openings.{leaf_levels, piece_size}
use Rattle.pq_pages.specs.Held.{ArePagesIn, HoldsChunk}
use Rattle.pq_tree.specs.Physical.{Physical}
use Rattle.pq_tree.specs.Tree.{Leaf}
use Rattle.read_laws.specs.State.{count}
use Rattle.read_state.specs.declared.init.InitNested.TheVariants.{Primitive, List as ListOf, Struct}
use Rattle.read_column.proofs.Pages.{rows-stored, taken-page}
use Rattle.read_column.proofs.CanRead.{is-read, piece-of, reads-taken}
use Rattle.read_column.proofs.Columns.{StartsPlain, begins-stored, behind-none, continues, front-inside, front-on, holds-front, pages-begin, pages-push, rows-between, stored-append, stored-begins, stored-both, stored-parts, rows-joined, rows-sized}
use Rattle.read_column.proofs.Taking.{begins-append, begins-taken, joined-last, sized-append, first-begins, piece-empty, piece-few, piece-some, rows-piece}
use Rattle.read_column.proofs.Ways.{rows-append, rows-cons}
use Rattle.columns_base.specs.declared.error.Error.{Error}
use Rattle.columns_base.specs.declared.error.Error.TheVariants.{OutOfSpec}
use Rattle.columns_base.specs.declared.error.S.TheVariants.{S9}
use Rattle.shredding.specs.Along.{thin}
use Rattle.shredding.specs.Shape.{Way}
use Rattle.shredding.specs.Shred.{Triple}
use Rattle.shredding.specs.Slot.{Slot, Value}
use Rattle.pq_files.specs.Chunk.{RawPage}
use Rattle.pq_pages.specs.Outcomes.{Levels, Outcome, gives_page, gives_dictionary, fails, IsGiven, IsOfLevels, Takes}
use Rattle.read_pieces.specs.Columns.{AreColumnRows, ColumnOpening, FailsAs, IsReadable, IsNextPiece, IsWhole, RefusesPiece, rows_of_all}
use Rattle.read_pieces.specs.Pieces.{IsPiece}
use Rattle.read_laws.specs.State.{Kept}
use Rattle.read_state.specs.declared.init.InitNested.{InitNested}
use Rattle.read_state.specs.Initial.{initial, IsWay}
use Rattle.read_walk.specs.Pairs.{Item}
use Rattle.read_walk.specs.Values.{Stored}
use Rattle.read_walk.specs.Walk.{pair_of}
use Rattle.pq_headline.specs.Columns.{ArrowColumn, is_alone}
use Rattle.read_pieces.specs.Leaves.{in_bytes}
use Rattle.read_column.specs.declared.deltas.Deltas.{Deltas}
use Rattle.read_column.specs.Deltas.{deltas_in}
use Rattle.read_column.specs.Dictionary.{Means, means}
use Rattle.read_column.specs.Opened.{IsServedPage}
use Rattle.read_column.specs.Queues.{Waiting, begun_queue, ends_in_leaf}
use Rattle.read_column.specs.Reading.{IsFilled, IsReading, Reading, Steps, TakesAll, reading, stored_in}
use Rattle.read_column.specs.Taken.{joined, AreSized, IsOpen, IsPieceAt, IsQueued}

-- ---- what a step of the source took
pub taken-none : (before after : List Outcome) (lent : Option Outcome) → Takes before after lent → lent ≡ None → (before ≡ []) × (after ≡ [])
taken-none [] after lent t e = (refl, t.0)
taken-none (o ∷ os) after lent t e = absurd (let h = sym e ∙ t.2 in cc)

pub taken-some : (before after : List Outcome) (lent : Option Outcome) (o : Outcome) → Takes before after lent → lent ≡ Some o → before ≡ o ∷ after
taken-some [] after lent o t e = absurd (let h = sym e ∙ t.1 in cc)
taken-some (p ∷ os) after lent o t e =
    let h : Some p ≡ Some o = sym t.2 ∙ e in
    ap (λ (x : Outcome). x ∷ os) (same_Some p o h) ∙ ap (λ (xs : List Outcome). o ∷ xs) (sym t.1)

pub queue-is : (stored : List ℕ → List Stored) (limit : ℕ) (o : ColumnOpening) (pieces : List (List Triple)) (os : List Outcome) (d : Means) (q : Waiting) (b : Bool) → (r : IsReading stored limit o pieces (reading os d q b)) → r.queue ≡ q
queue-is stored limit o pieces os d q b r = sym (same_Some q r.queue r.has)

pub queued-of : (stored : List ℕ → List Stored) (limit : ℕ) (o : ColumnOpening) (pieces : List (List Triple)) (os : List Outcome) (d : Means) (q : Waiting) (b : Bool) → (r : IsReading stored limit o pieces (reading os d q b)) → IsQueued o.column.way r.middle r.whole r.last q
queued-of stored limit o pieces os d q b r = subst (λ (v : Waiting). IsQueued o.column.way r.middle r.whole r.last v) (queue-is stored limit o pieces os d q b r) r.queued

count-none : (parts : List InitNested) → count (map initial parts) ≡ 0
count-none [] = refl
count-none (Primitive n ∷ parts) = refl
count-none (ListOf n ∷ parts) = refl
count-none (Struct n ∷ parts) = refl

begins-open : (width : ℕ) (parts : List InitNested) (n : Option ℕ) (rows : ℕ) → IsOpen (begun_queue width parts n rows)
begins-open width parts n rows = elim (cases_lt 0 (piece_size n rows)) [
  | inl some ↦ inr (omega (arith, some, count-none parts))
  | inr none ↦ inl (omega (arith, none))
]

any-behind : (P : Outcome → Type 0) (os : List Outcome) (o : Outcome) (rest : List Outcome) → P o → AnyOf P (os ++ o ∷ rest)
any-behind P [] o rest p = inl p
any-behind P (x ∷ os) o rest p = inr (any-behind P os o rest p)

-- the first outcome that is left is one of the source's
pub any-left : (stored : List ℕ → List Stored) (limit : ℕ) (o : ColumnOpening) (pieces : List (List Triple)) (x : Outcome) (os : List Outcome) (d : Means) (q : Waiting) (b : Bool) (P : Outcome → Type 0) → IsReading stored limit o pieces (reading (x ∷ os) d q b) → P x → AnyOf P o.outcomes
any-left stored limit o pieces x os d q b P r p = subst (λ (xs : List Outcome). AnyOf P xs) (sym r.outcomes) (any-behind P r.taken x os p)

all-at : (P : Outcome → Type 0) (os : List Outcome) (o : Outcome) (rest : List Outcome) → All P (os ++ o ∷ rest) → P o
all-at P [] o rest a = All-head P o rest a
all-at P (x ∷ os) o rest a = all-at P os o rest (All-tail P x (os ++ o ∷ rest) a)

-- and what holds of all of them holds of it
pub holds-left : (stored : List ℕ → List Stored) (limit : ℕ) (o : ColumnOpening) (pieces : List (List Triple)) (x : Outcome) (os : List Outcome) (d : Means) (q : Waiting) (b : Bool) (P : Outcome → Type 0) → IsReading stored limit o pieces (reading (x ∷ os) d q b) → All P o.outcomes → P x
holds-left stored limit o pieces x os d q b P r a = all-at P r.taken x os (subst (λ (xs : List Outcome). All P xs) r.outcomes a)

pages-given : (l : Leaf) (es : Option (List Value)) (os : List Outcome) (ps : List Page) → ArePagesIn l es os ps → All IsGiven os
pages-given l es [] ps a = All-nil IsGiven
pages-given l es (gives_page p levels ∷ os) [] a = absurd a
pages-given l es (gives_page p levels ∷ os) (q ∷ ps) a = All-cons IsGiven (gives_page p levels) os tt (pages-given l es os ps a.1)
pages-given l es (gives_dictionary n body ∷ os) ps a = absurd a
pages-given l es (fails e ∷ os) ps a = absurd a

pub begins-reading : (width : ℕ) (stored : List ℕ → List Stored) (limit : ℕ) (o : ColumnOpening) (parts : List InitNested) (outcomes : List Outcome) (k : Deltas) → IsReadable o stored limit → o.outcomes ≡ outcomes → IsWay parts (thin o.column.way) → k ≡ deltas_in (is_alone o.column.way) o.leaf.physical → IsReading stored limit o [] (reading outcomes (means None k) (begun_queue width parts o.chunk_size o.rows) false)
begins-reading width stored limit o parts outcomes k r e way deltas = record {
  readable = r;
  queue = begun_queue width parts o.chunk_size o.rows;
  has = refl;
  chunk = refl;
  middle = o.rows;
  sized = refl;
  whole = [];
  last = [];
  queued = record {
    parts = way;
    some = r.some;
    rest = o.rows;
    sized = refl;
    are = tt;
    is = piece-empty o.column.way parts way;
    bytes = refl;
    rows = refl;
    left = omega (arith, piece-few o.chunk_size o.rows);
    most = omega arith;
    begins = tt;
  };
  wants = begins-open width parts o.chunk_size o.rows;
  taken = [];
  outcomes = e;
  entries = None;
  behind = [];
  front = (refl, refl);
  texts = tt;
  deltas = deltas;
  began = inr (refl, refl);
  pages = [];
  are = tt;
  served = All-nil (IsServedPage o.column);
  triples = tt;
}

pub page-taken : (stored : List ℕ → List Stored) (limit : ℕ) (o : ColumnOpening) (pieces : List (List Triple)) (p : RawPage) (levels : Levels) (os : List Outcome) (d : Means) (q q' : Waiting) (b : Bool) → (r : IsReading stored limit o pieces (reading (gives_page p levels ∷ os) d q b)) → TakesAll stored d q.chunk_size o.column.way r.middle (joined r.whole ++ r.last) q' p levels → IsReading stored limit o pieces (reading os d q' true)
page-taken stored limit o pieces p levels os d q q' b r t =
    let tk = t.takes.1 in
    let plainly = r.readable.values.plain in
    let of-leaf : levels ≡ leaf_levels o.leaf = holds-left stored limit o pieces (gives_page p levels) os d q b (IsOfLevels (leaf_levels o.leaf)) r r.readable.levels in
    let pairs : t.items ≡ map Ok (map pair_of tk.taken) = tk.pairs ∙ append-nil (map {B = Item} Ok (map pair_of tk.taken)) in
    let page = taken-page (leaf_type o.column.data_type) o.leaf o.column.way stored d r.entries (is_alone o.column.way) p levels t.items t.values tk.taken t.takes.0 plainly r.texts r.deltas of-leaf r.readable.definition t.has pairs tk.values tk.within (begins-taken t.items [] tk.taken tk.pairs (first-begins t.items t.first)) t.rows in
    let q-is = queue-is stored limit o pieces (gives_page p levels ∷ os) d q b r in
    let chunk : q'.chunk_size ≡ o.chunk_size = tk.chunk ∙ (ap (λ (v : Waiting). v.chunk_size) (sym q-is) ∙ r.chunk) in
    let outcome = gives_page p levels in
    let triples : (joined pieces ++ (joined r.whole ++ r.last)) ++ tk.taken ≡ joined pieces ++ (joined tk.whole ++ tk.last) = append_assoc (joined pieces) (joined r.whole ++ r.last) tk.taken ∙ ap (λ (ts : List Triple). joined pieces ++ ts) (sym tk.all) in
    let pages : stored_in (r.pages ++ page.page ∷ []) ≡ stored_in r.pages ++ page.page.triples = stored-append r.pages (page.page ∷ []) ∙ ap (λ (ts : List Triple). stored_in r.pages ++ ts) (append-nil page.page.triples) in
    record {
      readable = r.readable;
      queue = q';
      has = refl;
      chunk = chunk;
      middle = r.middle;
      sized = r.sized;
      whole = tk.whole;
      last = tk.last;
      queued = tk.queued;
      wants = t.takes.2;
      taken = r.taken ++ outcome ∷ [];
      outcomes = r.outcomes ∙ sym (append_assoc r.taken (outcome ∷ []) os);
      entries = r.entries;
      behind = r.behind ++ outcome ∷ [];
      front = front-on o.column o.leaf r.taken (outcome ∷ []) r.entries r.behind (λ _. tt) r.front;
      texts = r.texts;
      deltas = r.deltas;
      began = inl (refl, any-behind GivesPage r.behind outcome [] tt);
      pages = r.pages ++ page.page ∷ [];
      are = pages-push o.leaf r.entries r.behind (outcome ∷ []) r.pages (page.page ∷ []) r.are (page.is, tt);
      served = All-append (IsServedPage o.column) r.behind (outcome ∷ []) r.served (All-cons (IsServedPage o.column) outcome [] ((t.has.encoding, t.has.opened.encoding), is-read o.column o.leaf p.header (in_bytes stored) d.deltas t.has.encoding r.readable.direct t.has.opened.encoding t.has.opened.read r.deltas) (All-nil (IsServedPage o.column)));
      triples = rw (← triples, pages) (stored-both (leaf_type o.column.data_type) o.leaf.physical (joined pieces ++ (joined r.whole ++ r.last)) tk.taken (stored_in r.pages) page.page.triples r.triples page.stored);
    }

-- a reason that speaks of rows
pub of-rows : (o : ColumnOpening) (e : Error) → IsOfRows e → ((rows : List Slot) → AreColumnRows o rows → ⊥) → RefusesPiece o e
of-rows o e is none = inr (inr (inr (inr (inr (inr (is, none))))))

no-others : (l : Leaf) (es : Option (List Value)) (t : LeafType) (p : Physical) (others : List Triple) (rest : List Page) → ArePagesIn l es [] rest → AreStored t p others (stored_in rest) → others ≡ []
no-others l es t p [] [] a s = refl
no-others l es t p (x ∷ others) [] a s = absurd s
no-others l es t p others (q ∷ rest) a s = absurd a

-- all rows: those of the triples so far, those that the last piece still wants, and those behind it
pub rows-in-all : (stored : List ℕ → List Stored) (limit : ℕ) (o : ColumnOpening) (pieces : List (List Triple)) (now : Reading) → (r : IsReading stored limit o pieces now) → rows_in (joined pieces ++ (joined r.whole ++ r.last)) + (r.queued.rest - rows_in r.last) ≡ o.rows
rows-in-all stored limit o pieces now r =
    omega (
      arith,
      rows-append (joined pieces) (joined r.whole ++ r.last),
      rows-append (joined r.whole) r.last,
      rows-joined pieces,
      rows-joined r.whole,
      rows-sized o.chunk_size o.rows r.middle pieces r.sized,
      rows-sized r.queue.chunk_size r.middle r.queued.rest r.whole r.queued.sized,
      r.queued.most,
      r.queued.left,
    )

pub less-last : (stored : List ℕ → List Stored) (limit : ℕ) (o : ColumnOpening) (pieces : List (List Triple)) (now : Reading) → (r : IsReading stored limit o pieces now) → 0 < r.queue.rows → rows_in r.last < r.queued.rest
less-last stored limit o pieces now r some = elim r.wants [
  | inl none ↦ absurd (omega (arith, some, none))
  | inr less ↦ omega (arith, less, rows-piece o.column.way r.last r.queue.state r.queue.leaf r.queued.is, r.queued.left)
]

nothing-left-over : (stored : List ℕ → List Stored) (limit : ℕ) (o : ColumnOpening) (pieces : List (List Triple)) (now : Reading) → (r : IsReading stored limit o pieces now) → r.queue.rows ≡ 0 → r.queued.rest ≡ 0
nothing-left-over stored limit o pieces now r none = elim (cases_lt 0 r.queued.rest) [
  | inl some ↦ absurd (omega (arith, none, r.queued.rows, piece-some r.queue.chunk_size r.queued.rest r.queued.some some))
  | inr le ↦ omega (arith, le)
]

no-pieces : (w : Way) (ts : List (List Triple)) (ps : List (List Kept × List Slot)) → ps ≡ [] → AllZip (IsPieceAt w) ts ps → ts ≡ []
no-pieces w [] ps e a = refl
no-pieces w (t ∷ ts) [] e a = absurd a
no-pieces w (t ∷ ts) (p ∷ ps) e a = absurd (cc e)

-- triples that begin a row have one
pub no-rows : (ts : List Triple) → BeginsRow ts → rows_in ts ≤ 0 → ts ≡ []
no-rows [] b n = refl
no-rows (t ∷ ts) b n = absurd (let one : ◌≡◌ {A = ℕ} (cond (nat_eq t.repetition 0) 1 0) 1 = rw b refl in omega (arith, n, rows-cons t ts, one))

pub ended-early : (stored : List ℕ → List Stored) (limit : ℕ) (o : ColumnOpening) (pieces : List (List Triple)) (d : Means) (q : Waiting) (b : Bool) (e : Error) → IsReading stored limit o pieces (reading [] d q b) → e ≡ OutOfSpec S9 → 0 < q.rows → RefusesPiece o e
ended-early stored limit o pieces d q b e r is some = of-rows o e (inr (inr (inr (inr (inl is))))) (λ rows a.
    let c = continues stored limit o pieces (reading [] d q b) rows r (λ _. tt) a in
    let none : c.others ≡ [] = no-others o.leaf r.entries (leaf_type o.column.data_type) o.leaf.physical c.others c.rest c.pages c.stored in
    let count : rows_in (column o.column.way rows) ≡ length rows = counted o.column.way rows in
    let all = rows-in-all stored limit o pieces (reading [] d q b) r in
    let q-is = queue-is stored limit o pieces [] d q b r in
    absurd (omega (arith, count, ap rows_in c.parts, rows-append (joined pieces ++ (joined r.whole ++ r.last)) c.others, ap rows_in none, a.count, all, less-last stored limit o pieces (reading [] d q b) r (omega (arith, some, ap (λ (v : Waiting). v.rows) q-is)), some, ap (λ (v : Waiting). v.rows) q-is)))

pub source-fails : (stored : List ℕ → List Stored) (limit : ℕ) (o : ColumnOpening) (pieces : List (List Triple)) (e : Error) (os : List Outcome) (d : Means) (q : Waiting) (b : Bool) → IsReading stored limit o pieces (reading (fails e ∷ os) d q b) → RefusesPiece o e
source-fails stored limit o pieces e os d q b r = inr (inl (holds-left stored limit o pieces (fails e) os d q b FailsAs r r.readable.failing, any-left stored limit o pieces (fails e) os d q b (λ x. x ≡ fails e) r refl))

-- all outcomes are given, with the dictionary page in front
front-given : (c : ArrowColumn) (l : Leaf) (taken : List Outcome) (es : Option (List Value)) (behind : List Outcome) → ReadsFront c l taken es behind → All IsGiven behind → All IsGiven taken
front-given c l [] es behind f a = rw f.1 at a
front-given c l (gives_page p levels ∷ os) es behind f a = rw f.1 at a
front-given c l (fails e ∷ os) es behind f a = rw f.1 at a
front-given c l (gives_dictionary n body ∷ os) es behind f a = All-cons IsGiven (gives_dictionary n body) os tt (rw f.4 at a)

pub record Gives (stored : List ℕ → List Stored) (limit : ℕ) (o : ColumnOpening) (pieces : List (List Triple)) (p : List Kept × List Slot) (now : Reading) : Type 0 where
  pub triples : List Triple
  pub next : IsNextPiece o (rows_of_all pieces) triples
  pub is : IsPiece o.column.way triples p.0 p.1
  pub reads : IsReading stored limit o (pieces ++ triples ∷ []) now

first-piece : (w : Way) (ws : List (List Triple)) (ps : List (List Kept × List Slot)) (p : List Kept × List Slot) → AllZip (IsPieceAt w) ws (p ∷ ps) → (ts : List Triple) × (more : List (List Triple)) × (ws ≡ ts ∷ more) × IsPieceAt w ts p × AllZip (IsPieceAt w) more ps
first-piece w [] ps p a = absurd a
first-piece w (ts ∷ more) ps p a = (ts, more, refl, a.0, a.1)

pub begins-joined : (n : Option ℕ) (left rest : ℕ) (pieces : List (List Triple)) (last : List Triple) → AreSized n left pieces rest → BeginsRow last → BeginsRow (joined pieces ++ last)
begins-joined n left rest [] last s b = b
begins-joined n left rest (ts ∷ pieces) last s b = rw (append_assoc ts (joined pieces) last) (begins-append ts (joined pieces ++ last) s.2 (λ _. begins-joined n (left - rows_in ts) rest pieces last s.3 b))

some-pages : (t : LeafType) (p : Physical) (l : Leaf) (es : Option (List Value)) (os : List Outcome) (ps : List Page) (a b c : List Triple) → ArePagesIn l es os ps → stored_in ps ≡ a ++ (b ++ c) → 0 < rows_in b → 0 < length os
some-pages t p l es [] [] a b c are e some = absurd (omega (arith, ap rows_in e, rows-append a (b ++ c), rows-append b c, some))
some-pages t p l es [] (q ∷ ps) a b c are e some = absurd are
some-pages t p l es (x ∷ os) ps a b c are e some = omega arith

pub gives-piece : (stored : List ℕ → List Stored) (limit : ℕ) (o : ColumnOpening) (pieces : List (List Triple)) (outcomes : List Outcome) (d : Means) (q q' : Waiting) (b : Bool) (p : List Kept × List Slot) → IsReading stored limit o pieces (reading outcomes d q b) → q ≡ record q' { whole = p ∷ q'.whole } → Gives stored limit o pieces p (reading outcomes d q' b)
gives-piece stored limit o pieces outcomes d q q' b p r e =
    let w = o.column.way in
    let t = leaf_type o.column.data_type in
    let k : IsQueued w r.middle r.whole r.last (record q' { whole = p ∷ q'.whole }) = subst (λ (v : Waiting). IsQueued w r.middle r.whole r.last v) e (queued-of stored limit o pieces outcomes d q b r) in
    let chunk : q'.chunk_size ≡ o.chunk_size = sym (ap (λ (v : Waiting). v.chunk_size) e) ∙ (sym (ap (λ (v : Waiting). v.chunk_size) (queue-is stored limit o pieces outcomes d q b r)) ∙ r.chunk) in
    let split = first-piece w r.whole q'.whole p k.are in
    let ts = split.0 in
    let more = split.1 in
    let sized : AreSized q'.chunk_size r.middle (ts ∷ more) k.rest = subst (λ (ps : List (List Triple)). AreSized q'.chunk_size r.middle ps k.rest) split.2 k.sized in
    let regrouped : joined r.whole ++ r.last ≡ ts ++ (joined more ++ r.last) = ap (λ (ps : List (List Triple)). joined ps ++ r.last) split.2 ∙ append_assoc ts (joined more) r.last in
    let all : AreStored t o.leaf.physical (joined pieces ++ (ts ++ (joined more ++ r.last))) (stored_in r.pages) = rw regrouped at r.triples in
    let first = stored-parts t o.leaf.physical (joined pieces) (ts ++ (joined more ++ r.last)) (stored_in r.pages) all in
    let second = stored-parts t o.leaf.physical ts (joined more ++ r.last) first.1 first.4 in
    let behind-begins : BeginsRow (joined more ++ r.last) = begins-joined q'.chunk_size (r.middle - rows_in ts) k.rest more r.last sized.3 k.begins in
    let here-begins : BeginsRow (ts ++ (joined more ++ r.last)) = begins-append ts (joined more ++ r.last) sized.2 (λ _. behind-begins) in
    let count : rows_in ts ≡ piece_size o.chunk_size r.middle = sized.0 ∙ ap (λ (n : Option ℕ). piece_size n r.middle) chunk in
    let before : rows_of_all pieces + r.middle ≡ o.rows = rows-sized o.chunk_size o.rows r.middle pieces r.sized in
    let left-over : rows_of_all more + k.rest ≡ r.middle - rows_in ts = rows-sized q'.chunk_size (r.middle - rows_in ts) k.rest more sized.3 in
    let few-behind : rows_in ts + rows_in (joined more ++ r.last) ≤ r.middle = omega (arith, left-over, rows-append (joined more) r.last, rows-joined more, k.most, k.left, count, piece-few o.chunk_size r.middle) in
    let same-b : rows_in second.0 ≡ rows_in ts = rows-stored t o.leaf.physical ts second.0 second.3 in
    let same-c : rows_in second.1 ≡ rows_in (joined more ++ r.last) = rows-stored t o.leaf.physical (joined more ++ r.last) second.1 second.4 in
    let parts : stored_in r.pages ≡ first.0 ++ (second.0 ++ second.1) = first.2 ∙ ap (λ (zs : List Triple). first.0 ++ zs) second.2 in
    let some-taken : 0 < length r.behind = some-pages t o.leaf.physical o.leaf r.entries r.behind r.pages first.0 second.0 second.1 r.are parts (omega (arith, same-b, sized.1)) in
    let taken-some-page : r.taken ≡ [] → StartsPlain outcomes = λ none. absurd (omega (arith, some-taken, ap length (behind-none o.column o.leaf r.taken r.entries r.behind r.front none))) in
    record {
      triples = ts;
      next = record {
        count = count ∙ ap (piece_size o.chunk_size) (omega (arith, before));
        some = sized.1;
        entries = r.entries;
        triples = stored_in r.pages;
        reads = record {
          behind = r.behind ++ outcomes;
          front = subst (λ (xs : List Outcome). ReadsFront o.column o.leaf xs r.entries (r.behind ++ outcomes)) (sym r.outcomes) (front-on o.column o.leaf r.taken outcomes r.entries r.behind taken-some-page r.front);
          pages = reads-taken o.column o.leaf r.entries r.behind outcomes r.pages (joined pieces ++ (joined r.whole ++ r.last)) r.are r.served r.triples some-taken;
        };
        stored = second.0;
        are = second.3;
        part = subst (λ (zs : List Triple). IsPieceOf o.chunk_size zs second.0) (sym parts) (piece-of o.chunk_size o.rows r.middle pieces first.0 second.0 second.1 r.sized (rows-stored t o.leaf.physical (joined pieces) first.0 first.3 ∙ rows-joined pieces) (omega (arith, count, sized.1, piece-few o.chunk_size r.middle)) (omega (arith, same-b, same-c, few-behind)) (inl (same-b ∙ count)) (omega (arith, same-b, count)) (begins-stored t o.leaf.physical (joined pieces) first.0 first.3 (rw append-nil at (begins-joined o.chunk_size o.rows r.middle pieces [] r.sized tt))) (subst BeginsRow second.2 (begins-stored t o.leaf.physical (ts ++ (joined more ++ r.last)) first.1 first.4 here-begins)) (begins-stored t o.leaf.physical (joined more ++ r.last) second.1 second.4 behind-begins));
        only = (λ rows a.
            let c = continues stored limit o pieces (reading outcomes d q b) rows r taken-some-page a in
            let column-is : column w rows ≡ joined pieces ++ (ts ++ ((joined more ++ r.last) ++ c.others)) =
            c.parts ∙ (ap (λ (xs : List Triple). (joined pieces ++ xs) ++ c.others) regrouped ∙ (append_assoc (joined pieces) (ts ++ (joined more ++ r.last)) c.others ∙ ap (λ (xs : List Triple). joined pieces ++ xs) (append_assoc ts (joined more ++ r.last) c.others))) in
            let rest-begins : BeginsRow ((joined more ++ r.last) ++ c.others) = begins-append (joined more ++ r.last) c.others behind-begins (λ _. stored-begins t o.leaf.physical c.others (stored_in c.rest) c.stored (pages-begin o.leaf r.entries outcomes c.rest c.pages)) in
            rw (rows-joined pieces) at (rows-between w rows (joined pieces) ts ((joined more ++ r.last) ++ c.others) column-is (begins-append ts ((joined more ++ r.last) ++ c.others) sized.2 (λ _. rest-begins)) rest-begins));
      };
      is = split.3;
      reads = record {
        readable = r.readable;
        queue = q';
        has = refl;
        chunk = chunk;
        middle = r.middle - rows_in ts;
        sized = sized-append o.chunk_size o.rows r.middle pieces ts r.sized count sized.1 sized.2;
        whole = more;
        last = r.last;
        queued = record {
          parts = k.parts;
          some = k.some;
          rest = k.rest;
          sized = sized.3;
          are = split.4;
          is = k.is;
          bytes = k.bytes;
          rows = k.rows;
          left = k.left;
          most = k.most;
          begins = k.begins;
        };
        wants = subst (λ (v : Waiting). IsOpen v) e (subst (λ (v : Waiting). IsOpen v) (queue-is stored limit o pieces outcomes d q b r) r.wants);
        taken = r.taken;
        outcomes = r.outcomes;
        entries = r.entries;
        behind = r.behind;
        front = r.front;
        texts = r.texts;
        deltas = r.deltas;
        began = r.began;
        pages = r.pages;
        are = r.are;
        served = r.served;
        triples = rw (joined-last pieces ts, append_assoc (joined pieces) ts (joined more ++ r.last)) all;
      };
    }

pub is-whole : (stored : List ℕ → List Stored) (limit : ℕ) (o : ColumnOpening) (pieces : List (List Triple)) (outcomes : List Outcome) (d : Means) (q : Waiting) (b : Bool) → IsReading stored limit o pieces (reading outcomes d q b) → q.whole ≡ [] → q.rows ≡ 0 → outcomes ≡ [] → IsWhole o pieces
is-whole stored limit o pieces outcomes d q b r w n e =
    let q-is = queue-is stored limit o pieces outcomes d q b r in
    let whole : r.whole ≡ [] = no-pieces o.column.way r.whole r.queue.whole (ap (λ (v : Waiting). v.whole) q-is ∙ w) r.queued.are in
    let last : r.last ≡ [] = no-rows r.last r.queued.begins (omega (arith, r.queued.most, ap (λ (v : Waiting). v.rows) q-is, n)) in
    let outcomes-are : o.outcomes ≡ r.taken = r.outcomes ∙ (ap (λ (xs : List Outcome). r.taken ++ xs) e ∙ append-nil r.taken) in
    let chunk : Chunk = record { entries = r.entries; pages = r.pages } in
    let triples : joined pieces ++ (joined r.whole ++ r.last) ≡ joined pieces = rw (whole, last) (append-nil (joined pieces)) in
    let all = rows-in-all stored limit o pieces (reading outcomes d q b) r in
    record {
      given = subst (λ (xs : List Outcome). All IsGiven xs) (sym outcomes-are) (front-given o.column o.leaf r.taken r.entries r.behind r.front (pages-given o.leaf r.entries r.behind r.pages r.are));
      chunk = chunk;
      holds = subst (λ (xs : List Outcome). HoldsChunk o.leaf xs chunk) (sym outcomes-are) (holds-front o.column o.leaf r.taken r.entries r.behind r.pages r.front r.are);
      stored = rw triples at r.triples;
      inside = front-inside o.column o.leaf r.taken r.entries r.behind r.front;
      counted = omega (arith, all, ap rows_in triples, rows-joined pieces, r.queued.left, r.queued.rows, nothing-left-over stored limit o pieces (reading outcomes d q b) r (omega (arith, n, ap (λ (v : Waiting). v.rows) q-is)));
    }

-- ---- the loop over pages
pub ended : (stored : List ℕ → List Stored) (limit : ℕ) (o : ColumnOpening) (pieces : List (List Triple)) (taken : Bool) (after : List Outcome) (d : Means) (q q' : Waiting) (b : Bool) → IsReading stored limit o pieces (reading [] d q b) → after ≡ [] → q' ≡ q → taken ≡ false → q.rows ≡ 0 → Steps stored limit o pieces taken q' after d b
ended stored limit o pieces true after d q q' b r e same none rows = absurd (cc none)
ended stored limit o pieces false after d q q' b r e same none rows = rw (e, same) (refl, rows, r)

pub not-not : (b : Bool) → not (not b) ≡ b
not-not true = refl
not-not false = refl

pub ended-filled : (stored : List ℕ → List Stored) (limit : ℕ) (o : ColumnOpening) (pieces : List (List Triple)) (taken : Bool) (q : Waiting) (os : List Outcome) (d : Means) (began : Bool) → taken ≡ false → Steps stored limit o pieces taken q os d began → IsFilled stored limit o pieces q os d began
ended-filled stored limit o pieces true q os d began e s = absurd (cc e)
ended-filled stored limit o pieces false q os d began e s = record {
  is = s.2;
  full = inr (s.0, s.1);
}

pub steps-on : (stored : List ℕ → List Stored) (limit : ℕ) (o : ColumnOpening) (pieces : List (List Triple)) (taken : Bool) (q : Waiting) (os : List Outcome) (d : Means) (began : Bool) → taken ≡ true → Steps stored limit o pieces taken q os d began → IsReading stored limit o pieces (reading os d q began)
steps-on stored limit o pieces true q os d began e s = s
steps-on stored limit o pieces false q os d began e s = absurd (cc e)

pub begun-some : (parts : List InitNested) (n : Option ℕ) (rows : ℕ) (o : Option Waiting) → ends_in_leaf parts ≡ true → MatchOption o (ends_in_leaf parts ≡ false) (λ x. x ≡ begun_queue x.width parts n rows) → (width : ℕ) × (o ≡ Some (begun_queue width parts n rows))
begun-some parts n rows None e m = absurd (let h = sym e ∙ m in cc)
begun-some parts n rows (Some x) e m = (x.width, ap Some m)

pub begins-queued : (width : ℕ) (stored : List ℕ → List Stored) (limit : ℕ) (o : ColumnOpening) (parts : List InitNested) (outcomes : List Outcome) (k : Deltas) (n : Option ℕ) (rows : ℕ) (queue : Option Waiting) → queue ≡ Some (begun_queue width parts n rows) → IsReadable o stored limit → o.outcomes ≡ outcomes → IsWay parts (thin o.column.way) → k ≡ deltas_in (is_alone o.column.way) o.leaf.physical → o.rows ≡ rows → o.chunk_size ≡ n → IsReading stored limit o [] (record { outcomes = outcomes; means = means None k; queue = queue; began = false })
begins-queued width stored limit o parts outcomes k n rows queue begun readable given way deltas r size = subst (λ (q : Option Waiting). IsReading stored limit o [] (record { outcomes = outcomes; means = means None k; queue = q; began = false })) (sym begun) (rw (← r, ← size) (begins-reading width stored limit o parts outcomes k readable given way deltas))

pub nothing-more : (stored : List ℕ → List Stored) (limit : ℕ) (o : ColumnOpening) (pieces : List (List Triple)) (os : List Outcome) (d : Means) (q : Waiting) (b : Bool) → IsFilled stored limit o pieces q os d b → q.whole ≡ [] → IsWhole o pieces
nothing-more stored limit o pieces os d q b f w = elim f.full [
  | inl some ↦ absurd (omega (arith, some, ap length w))
  | inr none ↦ is-whole stored limit o pieces os d q b f.is w none.1 none.0
]
