-- The next piece of a dictionary's column, and the whole of it, by those of its keys.
use Rattle.std.proofs.Common.{◌≡◌, ℕ, zero, suc, ◌-◌, ◌<◌, Option, Some, List, [], ◌∷◌, ◌++◌, map, length, All, refl, arith, ap, sym, subst, ◌∙◌, append_assoc}
use Rattle.std.specs.Prelude.{slice_get}
use Rattle.std.specs.List.{AllZip}
use Rattle.std.proofs.lemmas.List.{append-nil, map-append}
use Rattle.std.proofs.lemmas.List.Elements.{All-cons, All-head, All-nil, All-tail}
use Rattle.columns_core.specs.Shapes.{leaf_type}
use Rattle.columns_core.specs.declared.types.IntegerType.{IntegerType}
use Rattle.pq_files.specs.Chunk.{Chunk, Page, triples_of}
use Rattle.pq_files.specs.Page.{rows_in, values_in}
use Rattle.pq_files.specs.PageReasons.{IsOutside}
use Rattle.pq_files.specs.Plain.{InARow, IsPlain}
use Rattle.pq_files.specs.Stored.{AreStored, IsStored}
use Rattle.std.proofs.lemmas.Option.{same_Some}
use Rattle.pq_headline.specs.FieldReasons.{ReadsColumn, ReadsFront}
use Rattle.pq_headline.specs.Openings.{piece_size}
use Rattle.pq_pages.specs.Held.{ArePagesIn, HoldsChunk}
use Rattle.pq_pages.specs.Outcomes.{IsGiven, Outcome, gives_page, gives_dictionary, fails}
use Rattle.pq_tree.specs.Physical.{Physical}
use Rattle.pq_tree.specs.Tree.{Leaf}
use Rattle.read_column.proofs.Columns.{pages-begin, pages-split, rows-between, rows-joined, stored-append, stored-begins, stored-front}
use Rattle.read_column.proofs.Readings.{begins-joined}
use Rattle.read_column.proofs.Taking.{begins-append, joined-last}
use Rattle.read_column.proofs.Ways.{rows-append}
use Rattle.read_column.specs.Reading.{IsReading, Reading, stored_in}
use Rattle.read_column.specs.Taken.{AreSized, joined}
use Rattle.read_pieces.specs.Columns.{ColumnOpening, IsNextPiece, IsWhole, rows_of_all}
use Rattle.read_walk.specs.Values.{Stored}
use Rattle.shredding.specs.Laws.{BeginsRow}
use Rattle.shredding.specs.Shape.{LeafType}
use Rattle.shredding.specs.Shred.{Triple, column}
use Rattle.shredding.specs.Slot.{Value}
use Rattle.dictionary_columns.specs.Columns.{key_opening}
use Rattle.dictionary_columns.specs.Laws.{HasKeys, entered_all}
use Rattle.dictionary_columns.specs.Keys.{entered, entry_of, entry_of_stored, key_physical, key_tree, stored_key, stored_keys, with_value}
use Rattle.dictionary_columns.specs.Sources.{keyed_outcome, keyed_outcomes}
use Rattle.dictionary_columns.proofs.Entered.{EntryKey, StoredKey, good-values, keys-of-stored, stored-entered}
use Rattle.dictionary_columns.proofs.Kept.{AreGood, good-first, good-second}
use Rattle.dictionary_columns.proofs.Looked.{Looks, beside}
use Rattle.dictionary_columns.proofs.Numbers.{key-at, key-zero, keys-look, length-keys}
use Rattle.dictionary_columns.proofs.Pages.{IsEntered, entered_page, pages-entered, zip-inside}
use Rattle.dictionary_columns.proofs.ReadKeys.{HasBoth, column-reads, entries-are, piece-some, piece-with}
use Rattle.dictionary_columns.proofs.Triples.{begins-with, rows-with}

stored-inside : (t : LeafType) (p : Physical) (vs es : List Value) → AllZip (IsStored t p) vs es → All (λ e. IsOutside t p e → ⊥) es
stored-inside t p vs [] a = All-nil (λ (e : Value). IsOutside t p e → ⊥)
stored-inside t p [] (e ∷ es) a = absurd a
stored-inside t p (v ∷ vs) (e ∷ es) a = All-cons (λ (x : Value). IsOutside t p x → ⊥) e es (λ out. out v a.0) (stored-inside t p vs es a.1)

all-get : (P : Value → Type 0) (es : List Value) (i : ℕ) (v : Value) → All P es → slice_get es i ≡ Some v → P v
all-get P [] i v a e = absurd (cc e)
all-get P (x ∷ es) zero v a e = subst P (same_Some x v e) (All-head P x es a)
all-get P (x ∷ es) (suc i) v a e = all-get P es i v (All-tail P x es a) e

key-plain : (key : IntegerType) (text : List ℕ) (vs : List Value) → InARow (key_physical key) text vs → IsPlain (key_physical key) text vs
key-plain key text vs r = (key-zero key).row text vs r

-- the entries of the column and those of the keys
pub both : (key : IntegerType) (o : ColumnOpening) (body text : List ℕ) (os : List Outcome) (vs es : List Value) → HasKeys key o body text os vs es → HasBoth o.column o.leaf (key_physical key) (length vs) body text (stored_keys key 0 (length vs)) es (entry_of_stored key es)
both key o body text os vs es k =
    let n = length vs in
    let t = leaf_type o.column.data_type in
    let p = o.leaf.physical in
    let same : length es ≡ n = sym k.own.count in
    let look = subst (λ (m : ℕ). Looks (stored_keys key 0 m) es (entry_of_stored key es)) same (keys-look key es (omega (arith, same, k.few))) in
    let inside = stored-inside t p vs es k.stored in
    record {
      some = k.some;
      look = look;
      own = k.own;
      inside = inside;
      within = λ i v e. all-get (λ x. IsOutside t p x → ⊥) es i v inside e;
      are = record { count = sym (length-keys key 0 n); plain = record { text = text; rest = []; parts = sym (append-nil text); spells = key-plain key text (stored_keys key 0 n) k.keys } };
    }

-- ---- pieces with their entries
joined-entered : (vs : List Value) (pieces : List (List Triple)) → joined (entered_all vs pieces) ≡ entered vs (joined pieces)
joined-entered vs [] = refl
joined-entered vs (ts ∷ pieces) = ap (λ (us : List Triple). entered vs ts ++ us) (joined-entered vs pieces) ∙ sym (map-append (with_value (entry_of vs)) ts (joined pieces))

rows-entered : (vs : List Value) (pieces : List (List Triple)) → rows_of_all (entered_all vs pieces) ≡ rows_of_all pieces
rows-entered vs pieces = sym (rows-joined (entered_all vs pieces)) ∙ (ap rows_in (joined-entered vs pieces) ∙ (rows-with (entry_of vs) (joined pieces) ∙ rows-joined pieces))

pages-stored : (f : Value → Value) (qs : List Page) → stored_in (map (entered_page f) qs) ≡ map (with_value f) (stored_in qs)
pages-stored f [] = refl
pages-stored f (q ∷ qs) = ap (λ (us : List Triple). map (with_value f) q.triples ++ us) (pages-stored f qs) ∙ sym (map-append (with_value f) q.triples (stored_in qs))

stored-some : (t : LeafType) (p : Physical) (ts zs : List Triple) → AreStored t p ts zs → 0 < rows_in ts → 0 < length zs
stored-some t p [] zs a n = absurd (omega (arith, n))
stored-some t p (u ∷ ts) [] a n = absurd a
stored-some t p (u ∷ ts) (z ∷ zs) a n = omega arith

sized-last : (n : Option ℕ) (left rest : ℕ) (pieces : List (List Triple)) (ts : List Triple) → AreSized n left (pieces ++ ts ∷ []) rest → BeginsRow ts
sized-last n left rest [] ts s = s.2
sized-last n left rest (us ∷ pieces) ts s = sized-last n (left - rows_in us) rest pieces ts s.3

-- ---- the pages that were taken
record HasTaken (key : IntegerType) (o : ColumnOpening) (os left : List Outcome) (vs es : List Value) (qs : List Page) (ts : List Triple) : Type 0 where
  entered-are : IsEntered o.leaf (stored_keys key 0 (length vs)) es (entry_of_stored key es) os left qs
  good : AreGood (EntryKey (length vs)) ts

keys-among : (key : IntegerType) (n : ℕ) (ns : List ℕ) (vs : List Value) → AllZip (λ m v. slice_get (stored_keys key 0 n) m ≡ Some v) ns vs → All (StoredKey key n) vs
keys-among key n ns vs a = zip-inside (StoredKey key n) (stored_keys key 0 n) ns vs (λ i v e. (let at = key-at key 0 n i v e in (i, at.0, at.1 ∙ ap (λ (k : ℕ). stored_key key k) (omega arith)))) a

taken-keys : (key : IntegerType) (o : ColumnOpening) (body text : List ℕ) (os taken left : List Outcome) (vs es : List Value) (entries : Option (List Value)) (behind : List Outcome) (qs : List Page) (ts : List Triple) → HasKeys key o body text os vs es → keyed_outcomes (gives_dictionary (length vs) text) os ≡ taken ++ left →
    ReadsFront (key_opening key (length vs) text os o).column (key_opening key (length vs) text os o).leaf taken entries behind → ArePagesIn (beside o.leaf (key_physical key)) entries behind qs → AreStored (leaf_type (key_tree key)) (key_physical key) ts (stored_in qs) → 0 < length (stored_in qs) → HasTaken key o os left vs es qs ts
taken-keys key o body text os [] left vs es entries behind qs ts k e front are stored some = absurd (none behind qs front.1 are some)
  where
    none : (behind : List Outcome) (qs : List Page) → behind ≡ [] → ArePagesIn (beside o.leaf (key_physical key)) entries behind qs → 0 < length (stored_in qs) → ⊥
    none [] [] b are some = omega (arith, some)
    none [] (q ∷ qs) b are some = are
    none (x ∷ behind) qs b are some = cc b
taken-keys key o body text os (x ∷ taken) left vs es entries behind qs ts k e front are stored some =
    let n = length vs in
    let head : gives_dictionary n text ≡ x = cc e in
    let tail : map keyed_outcome os ≡ taken ++ left = cc e in
    let l' = beside o.leaf (key_physical key) in
    let own = subst (λ (y : Outcome). ReadsFront (key_opening key n text os o).column (key_opening key n text os o).leaf (y ∷ taken) entries behind) (sym head) front in
    let keys-are = own.1 ∙ ap Some (entries-are l' n text own.0 (stored_keys key 0 n) own.2 (both key o body text os vs es k).are) in
    let pages : ArePagesIn l' (Some (stored_keys key 0 n)) taken qs = subst (λ (xs : List Outcome). ArePagesIn l' (Some (stored_keys key 0 n)) xs qs) own.4 (subst (λ (y : Option (List Value)). ArePagesIn l' y behind qs) keys-are are) in
    let r = pages-entered o.leaf (key_physical key) (stored_keys key 0 n) es (entry_of_stored key es) os taken left qs (both key o body text os vs es k).some (both key o body text os vs es k).look tail pages in
    record { entered-are = r; good = keys-of-stored key n ts (stored_in qs) k.few stored (good-values (StoredKey key n) (stored_in qs) (keys-among key n r.indices (values_in (stored_in qs)) r.among)) }

-- ---- the next piece
pub next-forth : (stored : List ℕ → List Stored) (limit : ℕ) (key : IntegerType) (o : ColumnOpening) (body text : List ℕ) (os : List Outcome) (vs es : List Value) (pieces : List (List Triple)) (ts : List Triple) (now : Reading) → HasKeys key o body text os vs es →
    IsNextPiece (key_opening key (length vs) text os o) (rows_of_all pieces) ts → IsReading stored limit (key_opening key (length vs) text os o) (pieces ++ ts ∷ []) now → IsNextPiece o (rows_of_all (entered_all vs pieces)) (entered vs ts) × AreGood (EntryKey (length vs)) ts
next-forth stored limit key o body text os vs es pieces ts now k next r =
    let n = length vs in
    let t = leaf_type o.column.data_type in
    let l = o.leaf in
    let p = l.physical in
    let w = o.column.way in
    let f = entry_of_stored key es in
    let g = entry_of vs in
    let kt = leaf_type (key_tree key) in
    let behind = joined r.whole ++ r.last in
    let all = joined pieces ++ (ts ++ behind) in
    let regrouped : joined (pieces ++ ts ∷ []) ++ behind ≡ all = ap (λ (us : List Triple). us ++ behind) (joined-last pieces ts) ∙ append_assoc (joined pieces) ts behind in
    let held : AreStored kt (key_physical key) all (stored_in r.pages) = subst (λ (us : List Triple). AreStored kt (key_physical key) us (stored_in r.pages)) regrouped r.triples in
    let some : 0 < rows_in all = omega (arith, next.some, rows-append (joined pieces) (ts ++ behind), rows-append ts behind) in
    let taken = taken-keys key o body text os r.taken now.outcomes vs es r.entries r.behind r.pages all k r.outcomes r.front r.are held (stored-some kt (key_physical key) all (stored_in r.pages) held some) in
    let x = taken.entered-are in
    let good-ts : AreGood (EntryKey n) ts = good-first (EntryKey n) ts behind (good-second (EntryKey n) (joined pieces) (ts ++ behind) taken.good) in
    let part-some = stored-some kt (key_physical key) ts next.stored next.are next.some in
    let forth : AreStored t p (entered vs all) (stored_in (map (entered_page f) r.pages)) = rw (pages-stored f r.pages) (stored-entered t p key vs es all (stored_in r.pages) k.few k.stored taken.good held) in
    let parts : entered vs all ≡ entered vs (joined pieces) ++ (entered vs ts ++ entered vs behind) = map-append (with_value g) (joined pieces) (ts ++ behind) ∙ ap (λ (us : List Triple). entered vs (joined pieces) ++ us) (map-append (with_value g) ts behind) in
    let begins-behind : BeginsRow (entered vs behind) = begins-with g behind (begins-joined r.queue.chunk_size r.middle r.queued.rest r.whole r.last r.queued.sized r.queued.begins) in
    let begins-ts : BeginsRow (entered vs ts) = begins-with g ts (sized-last o.chunk_size o.rows r.middle pieces ts r.sized) in (
      record {
        count = rows-with g ts ∙ (next.count ∙ ap (λ (m : ℕ). piece_size o.chunk_size (o.rows - m)) (sym (rows-entered vs pieces)));
        some = omega (arith, next.some, rows-with g ts);
        entries = Some es;
        triples = map (with_value f) next.triples;
        reads = subst (λ (xs : List Outcome). ReadsColumn o.column l xs (Some es) (map (with_value f) next.triples)) (sym k.outcomes) (column-reads o.column (key_opening key n text os o).column l (key_physical key) n body text (stored_keys key 0 n) es f os next.entries next.triples (both key o body text os vs es k) next.reads (piece-some o.chunk_size next.triples next.stored next.part part-some));
        stored = map (with_value f) next.stored;
        are = stored-entered t p key vs es ts next.stored k.few k.stored good-ts next.are;
        part = piece-with f o.chunk_size next.triples next.stored next.part;
        only = (λ rows a.
            let c = a.chunk in
            let chunk-holds : HoldsChunk l (gives_dictionary n body ∷ os) c = subst (λ (xs : List Outcome). HoldsChunk l xs c) k.outcomes a.holds.holds in
            let entries-is = chunk-holds.1 ∙ ap Some (entries-are l n body chunk-holds.0 es chunk-holds.2 (both key o body text os vs es k).own) in
            let pages : ArePagesIn l (Some es) (x.front ++ x.behind) c.pages = subst (λ (xs : List Outcome). ArePagesIn l (Some es) xs c.pages) x.parts (subst (λ (y : Option (List Value)). ArePagesIn l y os c.pages) entries-is chunk-holds.3) in
            let split = pages-split l (Some es) x.front x.behind (map (entered_page f) r.pages) c.pages x.are pages in
            let shred : AreStored t p (column w rows) (stored_in (map (entered_page f) r.pages) ++ stored_in split.0) = subst (λ (zs : List Triple). AreStored t p (column w rows) zs) (ap stored_in split.1 ∙ stored-append (map (entered_page f) r.pages) split.0) a.holds.shred in
            let front = stored-front t p (entered vs all) (column w rows) (stored_in (map (entered_page f) r.pages)) (stored_in split.0) forth shred in
            let others = front.0 in
            let column-is : column w rows ≡ entered vs (joined pieces) ++ (entered vs ts ++ (entered vs behind ++ others)) =
            front.1 ∙ (ap (λ (us : List Triple). us ++ others) parts ∙ (append_assoc (entered vs (joined pieces)) (entered vs ts ++ entered vs behind) others ∙ ap (λ (us : List Triple). entered vs (joined pieces) ++ us) (append_assoc (entered vs ts) (entered vs behind) others))) in
            let begins : BeginsRow (entered vs behind ++ others) = begins-append (entered vs behind) others begins-behind (λ _. stored-begins t p others (stored_in split.0) front.2 (pages-begin l (Some es) x.behind split.0 split.2)) in
            let before : rows_in (entered vs (joined pieces)) ≡ rows_of_all (entered_all vs pieces) = rows-with g (joined pieces) ∙ (rows-joined pieces ∙ sym (rows-entered vs pieces)) in
            rw before at (rows-between w rows (entered vs (joined pieces)) (entered vs ts) (entered vs behind ++ others) column-is (begins-append (entered vs ts) (entered vs behind ++ others) begins-ts (λ _. begins)) begins));
      },
      good-ts,
    )

-- ---- the whole
given-keyed : (os : List Outcome) → All IsGiven (map keyed_outcome os) → All IsGiven os
given-keyed [] a = All-nil IsGiven
given-keyed (o ∷ os) a = All-cons IsGiven o os (one o (All-head IsGiven (keyed_outcome o) (map keyed_outcome os) a)) (given-keyed os (All-tail IsGiven (keyed_outcome o) (map keyed_outcome os) a))
  where
    one : (o : Outcome) → IsGiven (keyed_outcome o) → IsGiven o
    one (gives_page p levels) g = tt
    one (gives_dictionary n body) g = tt
    one (fails e) g = g

nothing-behind : (l : Leaf) (keys es : List Value) (f : Value → Value) (os : List Outcome) (qs : List Page) → IsEntered l keys es f os [] qs → ArePagesIn l (Some es) os (map (entered_page f) qs)
nothing-behind l keys es f os qs x = by x.behind x.parts x.left_are
  where
    by : (behind : List Outcome) → os ≡ x.front ++ behind → map keyed_outcome behind ≡ [] → ArePagesIn l (Some es) os (map (entered_page f) qs)
    by [] parts none = subst (λ (xs : List Outcome). ArePagesIn l (Some es) xs (map (entered_page f) qs)) (sym (parts ∙ append-nil x.front)) x.are
    by (o ∷ behind) parts none = absurd (cc none)

pub whole-forth : (key : IntegerType) (o : ColumnOpening) (body text : List ℕ) (os : List Outcome) (vs es : List Value) (pieces : List (List Triple)) → HasKeys key o body text os vs es → IsWhole (key_opening key (length vs) text os o) pieces → IsWhole o (entered_all vs pieces)
whole-forth key o body text os vs es pieces k h =
    let n = length vs in
    let l' = beside o.leaf (key_physical key) in
    let f = entry_of_stored key es in
    let qs = h.chunk.pages in
    let keys-are = h.holds.1 ∙ ap Some (entries-are l' n text h.holds.0 (stored_keys key 0 n) h.holds.2 (both key o body text os vs es k).are) in
    let pages : ArePagesIn l' (Some (stored_keys key 0 n)) (map keyed_outcome os) qs = subst (λ (y : Option (List Value)). ArePagesIn l' y (map keyed_outcome os) qs) keys-are h.holds.3 in
    let r = pages-entered o.leaf (key_physical key) (stored_keys key 0 n) es f os (map keyed_outcome os) [] qs (both key o body text os vs es k).some (both key o body text os vs es k).look (sym (append-nil (map keyed_outcome os))) pages in
    let good = keys-of-stored key n (joined pieces) (stored_in qs) k.few h.stored (good-values (StoredKey key n) (stored_in qs) (keys-among key n r.indices (values_in (stored_in qs)) r.among)) in
    let chunk : Chunk = record { entries = Some es; pages = map (entered_page f) qs } in
    let stored : AreStored (leaf_type o.column.data_type) o.leaf.physical (joined (entered_all vs pieces)) (triples_of chunk) = rw (joined-entered vs pieces, pages-stored f qs) (stored-entered (leaf_type o.column.data_type) o.leaf.physical key vs es (joined pieces) (stored_in qs) k.few k.stored good h.stored) in
    record {
      given = subst (λ (xs : List Outcome). All IsGiven xs) (sym k.outcomes) (All-cons IsGiven (gives_dictionary n body) os tt (given-keyed os (All-tail IsGiven (gives_dictionary n text) (map keyed_outcome os) h.given)));
      chunk = chunk;
      holds = subst (λ (xs : List Outcome). HoldsChunk o.leaf xs chunk) (sym k.outcomes) (es, refl, (both key o body text os vs es k).own, nothing-behind o.leaf (stored_keys key 0 n) es f os qs r);
      stored = stored;
      inside = (both key o body text os vs es k).inside;
      counted = rows-entered vs pieces ∙ h.counted;
    }
