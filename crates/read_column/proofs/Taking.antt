-- One more stretch of a page to the last piece, and one more piece.
use Rattle.std.proofs.Common.{◌≡◌, ◌≢◌, inl, inr, ℕ, zero, suc, ◌+◌, ◌-◌, ◌<◌, ◌≤◌, nat_le, nat_lt, true, false, Option, Some, None, Ok, Err, List, [], ◌∷◌, ◌++◌, map, All, refl, arith, ap, sym, subst, ◌∙◌, append_assoc, append-nil}
use Rattle.std.specs.List.{AllZip}
use Rattle.std.proofs.lemmas.Bool.Decides.{leb_tells}
use Rattle.std.proofs.lemmas.List.{map-append}
use Rattle.std.proofs.lemmas.List.Elements.{All-nil, All-cons, All-append}
use Rattle.shredding.specs.Along.{thin}
use Rattle.shredding.specs.Laws.{BeginsRow}
use Rattle.shredding.specs.Local.{IsWithin}
use Rattle.shredding.specs.Shape.{Way}
use Rattle.shredding.specs.Shred.{Triple, max_definition, max_repetition}
use Rattle.shredding.specs.Slot.{Value, Slot}
use Rattle.pq_files.specs.Page.{rows_in}
use Rattle.pq_headline.specs.Openings.{piece_size}
use Rattle.read_laws.specs.Block.{walk}
use Rattle.read_laws.specs.Blocks.{mark_of}
use Rattle.read_laws.specs.Column.{slot_of}
use Rattle.read_laws.specs.State.{Kept, count, kept_way}
use Rattle.read_pieces.specs.Pieces.{empty_state, IsPiece}
use Rattle.read_state.specs.Initial.{initial, IsWay}
use Rattle.read_state.specs.declared.init.InitNested.{InitNested}
use Rattle.read_state.proofs.Empty.{begin-empty}
use Rattle.read_walk.specs.Pairs.{Pair, Item, StopsAt}
use Rattle.read_walk.specs.Values.{Stored, bytes_of}
use Rattle.read_walk.specs.Walk.{AreWithin, Extends, pair_of, begun, values_of}
use Rattle.read_walk.proofs.Walking.{walk-append, values-append}
use Rattle.read_column.specs.Opened.{first_goes_on}
use Rattle.read_column.specs.Queues.{Waiting, closed_queue, ExtendsLast}
use Rattle.read_column.specs.Taken.{joined, AreSized, IsPieceAt, IsQueued, BeginsPair, TakesPairs}
use Rattle.read_column.proofs.Ways.{begun-pairs, definition-thin, empty-thin, initial-empty, repetition-thin, rows-append, rows-extended, rows-kept}

-- ---- lists
pub joined-append : (xs ys : List (List Triple)) → joined (xs ++ ys) ≡ joined xs ++ joined ys
joined-append [] ys = refl
joined-append (x ∷ xs) ys = ap (λ (ts : List Triple). x ++ ts) (joined-append xs ys) ∙ sym (append_assoc x (joined xs) (joined ys))

pub joined-last : (xs : List (List Triple)) (last : List Triple) → joined (xs ++ last ∷ []) ≡ joined xs ++ last
joined-last xs last = joined-append xs (last ∷ []) ∙ ap (λ (ts : List Triple). joined xs ++ ts) (append-nil last)

pub bytes-append : (xs ys : List Value) → bytes_of (xs ++ ys) ≡ bytes_of xs + bytes_of ys
bytes-append [] ys = omega arith
bytes-append (x ∷ xs) ys = omega (arith, bytes-append xs ys)

pub within-all : (v w : Way) (ts : List Triple) → v ≡ thin w → AreWithin v ts → All (IsWithin w) ts
within-all v w [] e a = All-nil (IsWithin w)
within-all v w (t ∷ ts) e a =
    let top : max_definition v ≡ max_definition w = ap max_definition e ∙ definition-thin w in
    All-cons (IsWithin w) t ts (record {
      repetition = omega (arith, a.0, ap max_repetition e, repetition-thin w);
      definition = omega (arith, a.1, top);
      present = rw (← top) a.2;
    }) (within-all v w ts e a.3)

pub begins-append : (xs ys : List Triple) → BeginsRow xs → (xs ≡ [] → BeginsRow ys) → BeginsRow (xs ++ ys)
begins-append [] ys b c = c refl
begins-append (x ∷ xs) ys b c = b

-- the triples of a page that begins with a row
pub begins-taken : (page page' : List Item) (ts : List Triple) → page ≡ map Ok (map pair_of ts) ++ page' → BeginsPair page → BeginsRow ts
begins-taken page page' [] e b = tt
begins-taken page page' (t ∷ ts) e b = rw e at b

pub begins-left : (n : ℕ) (page : List Item) → StopsAt n page → BeginsPair page
begins-left n [] s = tt
begins-left n (Ok p ∷ is) s = s.0
begins-left n (Err e ∷ is) s = absurd s

-- one list behind another, in front of a third
behind : {A : Type 0} (xs ys rest all next : List A) → all ≡ xs ++ next → next ≡ ys ++ rest → all ≡ (xs ++ ys) ++ rest
behind xs ys rest all next a b = a ∙ (ap (λ t. xs ++ t) b ∙ sym (append_assoc xs ys rest))

pub ok-append : (ps qs : List Pair) → (let ok : List Pair → List Item = map Ok in ok (ps ++ qs) ≡ ok ps ++ ok qs)
ok-append [] qs = refl
ok-append (p ∷ ps) qs = ap (λ (is : List Item). Ok p ∷ is) (ok-append ps qs)

pub some-append : (vs ws : List Value) → (let some : List Value → List Stored = map Some in some (vs ++ ws) ≡ some vs ++ some ws)
some-append [] ws = refl
some-append (v ∷ vs) ws = ap (λ (ss : List Stored). Some v ∷ ss) (some-append vs ws)

-- ---- tests
pub lt-holds : (k n : ℕ) → nat_lt k n ≡ true → k < n
lt-holds k n e = elim (leb_tells (suc k) n) [ inl h ↦ h.1 | inr h ↦ absurd (let f = sym h.0 ∙ e in cc) ]

pub lt-fails : (k n : ℕ) → nat_lt k n ≡ false → n ≤ k
lt-fails k n e = elim (leb_tells (suc k) n) [ inl h ↦ absurd (let f = sym h.0 ∙ e in cc) | inr h ↦ omega (arith, h.1) ]

pub le-holds : (k n : ℕ) → nat_le k n ≡ true → k ≤ n
le-holds k n e = elim (leb_tells k n) [ inl h ↦ h.1 | inr h ↦ absurd (let f = sym h.0 ∙ e in cc) ]

pub le-fails : (k n : ℕ) → nat_le k n ≡ false → n < k
le-fails k n e = elim (leb_tells k n) [ inl h ↦ absurd (let f = sym h.0 ∙ e in cc) | inr h ↦ h.1 ]

-- ---- pieces
pub piece-few : (n : Option ℕ) (left : ℕ) → piece_size n left ≤ left
piece-few None left = omega arith
piece-few (Some n) left = omega arith

pub piece-some : (n : Option ℕ) (left : ℕ) → n ≢ Some 0 → 0 < left → 0 < piece_size n left
piece-some None left some h = h
piece-some (Some zero) left some h = absurd (some refl)
piece-some (Some (suc n)) left some h = omega (arith, h)

pub sized-append : (n : Option ℕ) (left rest : ℕ) (pieces : List (List Triple)) (last : List Triple) → AreSized n left pieces rest → rows_in last ≡ piece_size n rest → 0 < rows_in last → BeginsRow last → AreSized n left (pieces ++ last ∷ []) (rest - rows_in last)
sized-append n left rest [] last s e some b = (rw s e, some, b, ap (λ (k : ℕ). k - rows_in last) s)
sized-append n left rest (ts ∷ pieces) last s e some b = (s.0, s.1, s.2, sized-append n (left - rows_in ts) rest pieces last s.3 e some b)

zip-push : {A B : Type 0} (R : A → B → Type 0) (xs : List A) (ys : List B) (x : A) (y : B) → AllZip R xs ys → R x y → AllZip R (xs ++ x ∷ []) (ys ++ y ∷ [])
zip-push R [] [] x y z r = (r, tt)
zip-push R [] (b ∷ ys) x y z r = absurd z
zip-push R (a ∷ xs) [] x y z r = absurd z
zip-push R (a ∷ xs) (b ∷ ys) x y z r = (z.0, zip-push R xs ys x y z.1 r)

pub rows-piece : (w : Way) (ts : List Triple) (ks : List Kept) (leaf : List Slot) → IsPiece w ts ks leaf → rows_in ts ≡ count ks
rows-piece w ts ks leaf p = ap rows_in (sym p.column) ∙ rows-kept (slot_of leaf) ks

piece-more : (w : Way) (ts : List Triple) (rows : ℕ) (page page' : List Item) (left left' : List Stored) (ks ks' : List Kept) (leaf leaf' : List Slot) → IsPiece w ts ks leaf → (e : Extends rows page page' left left' ks ks' leaf leaf') → IsPiece w (ts ++ e.triples) ks' leaf'
piece-more w ts rows page page' left left' ks ks' leaf leaf' p e = record {
  built = e.built ∙ (ap (walk (map mark_of e.triples)) p.built ∙ (sym (walk-append (map mark_of ts) (map mark_of e.triples) (empty_state w)) ∙ ap (λ ms. walk ms (empty_state w)) (sym (map-append mark_of ts e.triples))));
  fits = e.fits;
  way = e.way ∙ p.way;
  column = e.column ∙ ap (λ cs. cs ++ e.triples) p.column;
  decoded = e.decoded;
  within = All-append (IsWithin w) ts e.triples p.within (within-all (kept_way ks) w e.triples p.way e.within);
}

pub piece-empty : (w : Way) (parts : List InitNested) → IsWay parts (thin w) → IsPiece w [] (map initial parts) []
piece-empty w parts way =
    let empty = begin-empty parts (thin w) way in
    record {
      built = initial-empty parts (thin w) way ∙ empty-thin w;
      fits = empty.fits;
      way = empty.way;
      column = empty.column (slot_of []);
      decoded = sym empty.leaf;
      within = All-nil (IsWithin w);
    }

-- ---- the steps
pub start-takes : (w : Way) (before : ℕ) (whole : List (List Triple)) (last : List Triple) (q : Waiting) (page : List Item) (left : List Stored) → IsQueued w before whole last q → BeginsPair page → TakesPairs q.chunk_size w before (joined whole ++ last) q page page left left
start-takes w before whole last q page left k b = record {
  whole = whole;
  last = last;
  queued = k;
  chunk = refl;
  taken = [];
  all = sym (append-nil (joined whole ++ last));
  pairs = refl;
  values = refl;
  within = All-nil (IsWithin w);
  begins = b;
}

pub step-extend : (n : Option ℕ) (w : Way) (before : ℕ) (old : List Triple) (q q' : Waiting) (start page page' : List Item) (first left left' : List Stored) → TakesPairs n w before old q start page first left → ExtendsLast q q' page page' left left' → TakesPairs n w before old q' start page' first left'
step-extend n w before old q q' start page page' first left left' t x =
    let k = t.queued in
    let e = x.extends in
    let more = e.triples in
    let more-rows : count q'.state ≡ count q.state + rows_in more = rows-extended (q.rows - count q.state) page page' left left' q.state q'.state q.leaf q'.leaf e in
    let so-far : rows_in t.last ≡ count q.state = rows-piece w t.last q.state q.leaf k.is in
    let queued : IsQueued w before t.whole (t.last ++ more) (record q { state = q'.state; leaf = q'.leaf }) = record {
      parts = k.parts;
      some = k.some;
      rest = k.rest;
      sized = k.sized;
      are = k.are;
      is = piece-more w t.last (q.rows - count q.state) page page' left left' q.state q'.state q.leaf q'.leaf k.is e;
      bytes = rw (values-append t.last more) (omega (arith, e.sized, k.bytes, bytes-append (values_of t.last) (values_of more)));
      rows = k.rows;
      left = k.left;
      most = omega (arith, rows-append t.last more, so-far, e.most, begun-pairs more, k.most);
      begins = begins-append t.last more k.begins (λ _. begins-taken page page' more e.pairs t.begins);
    } in
    record {
      whole = t.whole;
      last = t.last ++ more;
      queued = subst (λ (v : Waiting). IsQueued w before t.whole (t.last ++ more) v) (sym x.same) queued;
      chunk = ap (λ (v : Waiting). v.chunk_size) x.same ∙ t.chunk;
      taken = t.taken ++ more;
      all = sym (append_assoc (joined t.whole) t.last more) ∙ (ap (λ (ts : List Triple). ts ++ more) t.all ∙ append_assoc old t.taken more);
      pairs = rw (map-append pair_of t.taken more, ok-append (map pair_of t.taken) (map pair_of more)) (behind (map Ok (map pair_of t.taken)) (map Ok (map pair_of more)) page' start page t.pairs e.pairs);
      values = rw (values-append t.taken more, some-append (values_of t.taken) (values_of more)) (behind (map Some (values_of t.taken)) (map Some (values_of more)) left' first left t.values e.values);
      within = All-append (IsWithin w) t.taken more t.within (within-all (kept_way q.state) w more k.is.way e.within);
      begins = begins-left (q.rows - count q.state - begun (map pair_of more)) page' e.stops;
    }

pub step-close : (n : Option ℕ) (w : Way) (before : ℕ) (old : List Triple) (q : Waiting) (start page : List Item) (first left : List Stored) → TakesPairs n w before old q start page first left → q.rows ≤ count q.state → 0 < q.rows → TakesPairs n w before old (closed_queue q) start page first left
step-close n w before old q start page first left t full some =
    let k = t.queued in
    let rows : rows_in t.last ≡ q.rows = omega (arith, rows-piece w t.last q.state q.leaf k.is, full, k.most) in
    let behind-it : k.rest - rows_in t.last ≡ q.left = omega (arith, rows, k.left) in
    let sized : AreSized q.chunk_size before (t.whole ++ t.last ∷ []) q.left = subst (λ (n : ℕ). AreSized q.chunk_size before (t.whole ++ t.last ∷ []) n) behind-it (sized-append q.chunk_size before k.rest t.whole t.last k.sized (rows ∙ k.rows) (omega (arith, rows, some)) k.begins) in
    record {
      whole = t.whole ++ t.last ∷ [];
      last = [];
      queued = record {
        parts = k.parts;
        some = k.some;
        rest = q.left;
        sized = sized;
        are = zip-push (IsPieceAt w) t.whole q.whole t.last (q.state, q.leaf) k.are k.is;
        is = piece-empty w q.parts k.parts;
        bytes = refl;
        rows = refl;
        left = omega (arith, piece-few q.chunk_size q.left);
        most = omega arith;
        begins = tt;
      };
      chunk = t.chunk;
      taken = t.taken;
      all = append-nil (joined (t.whole ++ t.last ∷ [])) ∙ (joined-last t.whole t.last ∙ t.all);
      pairs = t.pairs;
      values = t.values;
      within = t.within;
      begins = t.begins;
    }

-- the page ended where the last piece still wants rows
none-left : (n : ℕ) (page : List Item) → 0 < n → StopsAt n page → page ≡ []
none-left n [] h s = refl
none-left n (Ok p ∷ is) h s = absurd (omega (arith, h, s.1))
none-left n (Err e ∷ is) h s = absurd s

pub step-ended : (q q' : Waiting) (page page' : List Item) (left left' : List Stored) → ExtendsLast q q' page page' left left' → count q'.state < q'.rows → page' ≡ []
step-ended q q' page page' left left' x less =
    let e = x.extends in
    let more-rows = rows-extended (q.rows - count q.state) page page' left left' q.state q'.state q.leaf q'.leaf e in
    none-left (q.rows - count q.state - begun (map pair_of e.triples)) page' (omega (arith, less, ap (λ (v : Waiting). v.rows) x.same, more-rows, begun-pairs e.triples)) e.stops

-- a page whose first pair does not go on with a row
pub first-begins : (items : List Item) → first_goes_on items ≡ false → BeginsPair items
first-begins [] e = tt
first-begins (Ok p ∷ is) e = omega (arith, lt-fails 0 p.0 e)
first-begins (Err e ∷ is) h = tt
