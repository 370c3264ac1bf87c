-- The walk, block by block.
use Rattle.std.proofs.Common.{◌≡◌, ℕ, zero, suc, replicate, ◌+◌, ◌-◌, ◌<◌, ◌≤◌, Bool, nat_le, nat_eq, is_some, Option, Some, None, Ok, List, [], ◌∷◌, ◌++◌, map, length, refl, arith, ap, sym, ◌∙◌, append_assoc, append-nil, cond, eq-eqb, ne_eqb}
use Rattle.std.proofs.lemmas.List.{map-append}
use Rattle.std.proofs.lemmas.List.Sums.{sum_by-append, sum_by-cons}
use Rattle.shredding.specs.Slot.{Value, Slot}
use Rattle.shredding.specs.Shape.{Way}
use Rattle.shredding.specs.Shred.{Triple, max_definition, max_repetition}
use Rattle.shredding.specs.Local.{inside}
use Rattle.read_laws.specs.State.{Kept, kept_way, leaf_count, StateFits}
use Rattle.read_laws.specs.Step.{bit, step}
use Rattle.read_laws.specs.Column.{kept_column, slot_of}
use Rattle.read_laws.specs.Block.{Mark, walk}
use Rattle.read_laws.specs.Blocks.{mark_of}
use Rattle.read_state.specs.Kinds.{HasLongItems}
use Rattle.read_walk.specs.Gives.{given, called, LeafIs, Each}
use Rattle.read_walk.specs.Order.{zipped, last_level, Follows, EndedAt}
use Rattle.read_walk.specs.Pairs.{Pair, Item, pair_items, rows_in, is_row, TakesBlock, TakesPairs}
use Rattle.read_walk.specs.Values.{Stored, bytes_of, bytes_in}
use Rattle.read_walk.specs.Blocks.{triples_of, TookBlock}
use Rattle.read_walk.specs.Steps.{TookPairs, TookNone}
use Rattle.read_walk.specs.Walk.{pair_of, begins, begun, values_of, AreWithin, Extends, mark_pair}

-- What was taken so far: as `Extends`, with the rows that are still wanted, the definition level of the last pair, the state as the pairs make it
-- one by one, and the bytes of texts.
pub record Progress (rows rest : ℕ) (before : Option ℕ) (page page' : List Item) (left left' : List Stored) (ks ks' : List Kept) (slots slots' : List Slot) : Type 0 where
  pub triples : List Triple
  pub pairs : page ≡ map Ok (map pair_of triples) ++ page'
  pub values : left ≡ map Some (values_of triples) ++ left'
  pub column : kept_column (slot_of slots') ks' ≡ kept_column (slot_of slots) ks ++ triples
  pub within : AreWithin (kept_way ks) triples
  pub way : kept_way ks' ≡ kept_way ks
  pub fits : StateFits ks'
  pub decoded : length slots' ≡ leaf_count ks'
  pub counted : 0 < length triples → HasLongItems ks' → ⊥
  pub wanted : begun (map pair_of triples) + rest ≡ rows
  pub last : before ≡ last_level None (map pair_of triples)
  pub ended : EndedAt before ks'
  pub walked : ks' ≡ walk (map mark_of triples) ks
  pub sized : bytes_in slots' ≡ bytes_in slots + bytes_of (values_of triples)

pub nothing-taken : (rows : ℕ) (page : List Item) (left : List Stored) (ks : List Kept) (slots : List Slot) → StateFits ks → length slots ≡ leaf_count ks → Progress rows rows None page page left left ks ks slots slots
nothing-taken rows page left ks slots f d = record {
  triples = [];
  pairs = refl;
  values = refl;
  column = sym (append-nil (kept_column (slot_of slots) ks));
  within = tt;
  way = refl;
  fits = f;
  decoded = d;
  counted = λ some. absurd (omega (arith, some));
  wanted = omega arith;
  last = refl;
  ended = tt;
  walked = refl;
  sized = omega arith;
}

-- ---- lists of pairs
pub begun-append : (ps qs : List Pair) → begun (ps ++ qs) ≡ begun ps + begun qs
begun-append ps qs = sum_by-append (λ p. cond (begins p) 1 0) ps qs

begun-cons : (p : Pair) (ps : List Pair) → begun (p ∷ ps) ≡ cond (begins p) 1 0 + begun ps
begun-cons p ps = sum_by-cons (λ q. cond (begins q) 1 0) p ps

rows-cons : (r : ℕ) (rs : List ℕ) → rows_in (r ∷ rs) ≡ cond (is_row r) 1 0 + rows_in rs
rows-cons r rs = sum_by-cons (λ q. cond (is_row q) 1 0) r rs

pub begun-zipped : (rs ds : List ℕ) → length ds ≡ length rs → begun (zipped rs ds) ≡ rows_in rs
begun-zipped [] ds e = refl
begun-zipped (r ∷ rs) [] e = absurd (omega (arith, e))
begun-zipped (r ∷ rs) (d ∷ ds) e = begun-cons (r, d) (zipped rs ds) ∙ (ap (λ (n : ℕ). cond (is_row r) 1 0 + n) (begun-zipped rs ds (omega (arith, e))) ∙ sym (rows-cons r rs))

pub items-zipped : (rs ds : List ℕ) → pair_items rs ds ≡ map Ok (zipped rs ds)
items-zipped [] ds = refl
items-zipped (r ∷ rs) [] = refl
items-zipped (r ∷ rs) (d ∷ ds) = ap (λ (is : List Item). Ok (r, d) ∷ is) (items-zipped rs ds)

pub last-append : (before : Option ℕ) (ps qs : List Pair) → last_level before (ps ++ qs) ≡ last_level (last_level before ps) qs
last-append before [] qs = refl
last-append before (p ∷ ps) qs = last-append (Some p.1) ps qs

pub walk-append : (ms ns : List Mark) (ks : List Kept) → walk (ms ++ ns) ks ≡ walk ns (walk ms ks)
walk-append [] ns ks = refl
walk-append (m ∷ ms) ns ks = walk-append ms ns (step 1 m.repetition m.definition m.hidden 0 0 ks)

pub marks-pairs : (ts : List Triple) → map mark_of ts ≡ map mark_pair (map pair_of ts)
marks-pairs [] = refl
marks-pairs (t ∷ ts) = ap (λ (ms : List Mark). mark_of t ∷ ms) (marks-pairs ts)

pub called-append : (top : ℕ) (xs ys : List ℕ) → called top (xs ++ ys) ≡ called top xs + called top ys
called-append top [] ys = omega arith
called-append top (x ∷ xs) ys = omega (arith, called-append top xs ys)

pub length-zipped : (rs ds : List ℕ) → length ds ≡ length rs → length (zipped rs ds) ≡ length rs
length-zipped [] ds e = refl
length-zipped (r ∷ rs) [] e = absurd (omega (arith, e))
length-zipped (r ∷ rs) (d ∷ ds) e = ap suc (length-zipped rs ds (omega (arith, e)))

pub second-zipped : (rs ds : List ℕ) → length ds ≡ length rs → map (λ p. p.1) (zipped rs ds) ≡ ds
second-zipped [] [] e = refl
second-zipped [] (d ∷ ds) e = absurd (omega (arith, e))
second-zipped (r ∷ rs) [] e = absurd (omega (arith, e))
second-zipped (r ∷ rs) (d ∷ ds) e = ap (λ (xs : List ℕ). d ∷ xs) (second-zipped rs ds (omega (arith, e)))

-- as many values as the pairs call for
given-one : (b : Bool) (v : Option Value) (vs : List (Option Value)) → is_some v ≡ b → length (given (v ∷ vs)) ≡ bit b + length (given vs)
given-one b None vs e = rw (← e) (omega arith)
given-one b (Some v) vs e = rw (← e) (omega arith)

pub called-triples : (w : Way) (ts : List Triple) → AreWithin w ts → length (values_of ts) ≡ called (max_definition w) (map (λ p. p.1) (map pair_of ts))
called-triples w [] a = refl
called-triples w (t ∷ ts) a = given-one (nat_eq t.definition (max_definition w)) t.value (map (λ u. u.value) ts) a.2 ∙ ap (λ (n : ℕ). bit (nat_eq t.definition (max_definition w)) + n) (called-triples w ts a.3)

-- ---- triples of a block
pairs-triples : (floor top place : ℕ) (leaf : ℕ → Slot) (rs ds : List ℕ) (os : List (Option Value)) → length ds ≡ length rs → Each floor top leaf place ds os → map pair_of (triples_of rs ds os) ≡ zipped rs ds
pairs-triples floor top place leaf [] ds os z e = refl
pairs-triples floor top place leaf (r ∷ rs) [] os z e = absurd (omega (arith, z))
pairs-triples floor top place leaf (r ∷ rs) (d ∷ ds) [] z e = absurd e
pairs-triples floor top place leaf (r ∷ rs) (d ∷ ds) (o ∷ os) z e = ap (λ (ps : List Pair). (r, d) ∷ ps) (pairs-triples floor top (place + bit (nat_le floor d)) leaf rs ds os (omega (arith, z)) e.1)

values-triples : (floor top place : ℕ) (leaf : ℕ → Slot) (rs ds : List ℕ) (os : List (Option Value)) → length ds ≡ length rs → Each floor top leaf place ds os → values_of (triples_of rs ds os) ≡ given os
values-triples floor top place leaf [] [] [] z e = refl
values-triples floor top place leaf [] [] (o ∷ os) z e = absurd e
values-triples floor top place leaf [] (d ∷ ds) os z e = absurd (omega (arith, z))
values-triples floor top place leaf (r ∷ rs) [] os z e = absurd (omega (arith, z))
values-triples floor top place leaf (r ∷ rs) (d ∷ ds) [] z e = absurd e
values-triples floor top place leaf (r ∷ rs) (d ∷ ds) (None ∷ os) z e = values-triples floor top (place + bit (nat_le floor d)) leaf rs ds os (omega (arith, z)) e.1
values-triples floor top place leaf (r ∷ rs) (d ∷ ds) (Some v ∷ os) z e = ap (λ (vs : List Value). v ∷ vs) (values-triples floor top (place + bit (nat_le floor d)) leaf rs ds os (omega (arith, z)) e.1)

present : (floor top d : ℕ) (s : Slot) (o : Option Value) → LeafIs floor top d s o → is_some o ≡ nat_eq d top
present floor top d s None l = sym (ne_eqb d top l.0)
present floor top d s (Some v) l = sym (eq-eqb d top l.0)

pub given-called : (floor top place : ℕ) (leaf : ℕ → Slot) (ds : List ℕ) (os : List (Option Value)) → Each floor top leaf place ds os → length (given os) ≡ called top ds
given-called floor top place leaf [] [] e = refl
given-called floor top place leaf [] (o ∷ os) e = absurd e
given-called floor top place leaf (d ∷ ds) [] e = absurd e
given-called floor top place leaf (d ∷ ds) (o ∷ os) e = given-one (nat_eq d top) o os (present floor top d (leaf place) o e.0) ∙ ap (λ (n : ℕ). bit (nat_eq d top) + n) (given-called floor top (place + bit (nat_le floor d)) leaf ds os e.1)

within-triples : (w : Way) (before : Option ℕ) (floor place : ℕ) (leaf : ℕ → Slot) (rs ds : List ℕ) (os : List (Option Value)) → length ds ≡ length rs → Follows w before (zipped rs ds) → Each floor (max_definition w) leaf place ds os → AreWithin w (triples_of rs ds os)
within-triples w before floor place leaf [] ds os z f e = tt
within-triples w before floor place leaf (r ∷ rs) [] os z f e = tt
within-triples w before floor place leaf (r ∷ rs) (d ∷ ds) [] z f e = tt
within-triples w before floor place leaf (r ∷ rs) (d ∷ ds) (o ∷ os) z f e = (f.0, f.1, present floor (max_definition w) d (leaf place) o e.0, within-triples w (Some d) floor (place + bit (nat_le floor d)) leaf rs ds os (omega (arith, z)) f.3 e.1)

within-append : (w : Way) (xs ys : List Triple) → AreWithin w xs → AreWithin w ys → AreWithin w (xs ++ ys)
within-append w [] ys a b = b
within-append w (x ∷ xs) ys a b = (a.0, a.1, a.2, within-append w xs ys a.3 b)

given-append : (xs ys : List (Option Value)) → given (xs ++ ys) ≡ given xs ++ given ys
given-append [] ys = refl
given-append (None ∷ xs) ys = given-append xs ys
given-append (Some v ∷ xs) ys = ap (λ vs. v ∷ vs) (given-append xs ys)

pub values-append : (xs ys : List Triple) → values_of (xs ++ ys) ≡ values_of xs ++ values_of ys
values-append xs ys = ap given (map-append (λ t. t.value) xs ys) ∙ given-append (map (λ t. t.value) xs) (map (λ t. t.value) ys)

bytes-append : (xs ys : List Value) → bytes_of (xs ++ ys) ≡ bytes_of xs + bytes_of ys
bytes-append [] ys = omega arith
bytes-append (x ∷ xs) ys = omega (arith, bytes-append xs ys)

joined : {A : Type 0} (xs ys rest : List A) (all next : List A) → all ≡ xs ++ next → next ≡ ys ++ rest → all ≡ (xs ++ ys) ++ rest
joined xs ys rest all next a b = a ∙ (ap (λ t. xs ++ t) b ∙ sym (append_assoc xs ys rest))

-- ---- one block more
pub progress-step : (rows rest n : ℕ) (before : Option ℕ) (reps defs : List ℕ) (page page' page'' : List Item) (left left' left'' : List Stored) (ks ks' ks'' : List Kept) (s s' s'' : List Slot) →
    Progress rows rest before page page' left left' ks ks' s s' → TakesPairs rest page' n reps defs page'' → Follows (kept_way ks') before (zipped reps defs) → TookBlock before reps defs ks' ks'' s' s'' left' left'' →
    Progress rows (rest - n) (last_level before (zipped reps defs)) page page'' left left'' ks ks'' s s''
progress-step rows rest n before reps defs page page' page'' left left' left'' ks ks' ks'' s s' s'' p b f t =
    let w = kept_way ks' in
    let floor = inside w (max_repetition w) in
    let top = max_definition w in
    let new = triples_of reps defs t.gives in
    let pairs-new : map pair_of new ≡ zipped reps defs = pairs-triples floor top (length s') (slot_of s'') reps defs t.gives b.1 t.each in
    let pairs-all : map pair_of (p.triples ++ new) ≡ map pair_of p.triples ++ zipped reps defs = map-append pair_of p.triples new ∙ ap (λ (ps : List Pair). map pair_of p.triples ++ ps) pairs-new in
    let items-all : map Ok (map pair_of (p.triples ++ new)) ≡ map Ok (map pair_of p.triples) ++ pair_items reps defs = ap (map Ok) pairs-all ∙ (map-append Ok (map pair_of p.triples) (zipped reps defs) ∙ ap (λ (is : List Item). map Ok (map pair_of p.triples) ++ is) (sym (items-zipped reps defs))) in
    let values-new : values_of new ≡ given t.gives = values-triples floor top (length s') (slot_of s'') reps defs t.gives b.1 t.each in
    let values-all : values_of (p.triples ++ new) ≡ values_of p.triples ++ given t.gives = values-append p.triples new ∙ ap (λ (vs : List Value). values_of p.triples ++ vs) values-new in
    let stored-all : map Some (values_of (p.triples ++ new)) ≡ map Some (values_of p.triples) ++ map Some (given t.gives) = ap (map Some) values-all ∙ map-append Some (values_of p.triples) (given t.gives) in
    let begun-all : begun (map pair_of (p.triples ++ new)) ≡ begun (map pair_of p.triples) + n = ap begun pairs-all ∙ (begun-append (map pair_of p.triples) (zipped reps defs) ∙ ap (λ (k : ℕ). begun (map pair_of p.triples) + k) (begun-zipped reps defs b.1 ∙ sym b.3)) in
    record {
      triples = p.triples ++ new;
      pairs = rw items-all (joined (map Ok (map pair_of p.triples)) (pair_items reps defs) page'' page page' p.pairs b.0);
      values = rw stored-all (joined (map Some (values_of p.triples)) (map Some (given t.gives)) left'' left left' p.values t.values);
      column = t.column ∙ (ap (λ ts. ts ++ new) p.column ∙ append_assoc (kept_column (slot_of s) ks) p.triples new);
      within = within-append (kept_way ks) p.triples new p.within (rw p.way at (within-triples w before floor (length s') (slot_of s'') reps defs t.gives b.1 f t.each));
      way = t.way ∙ p.way;
      fits = t.fits;
      decoded = t.decoded;
      counted = λ some. t.counted;
      wanted = omega (arith, begun-all, p.wanted, b.4);
      last = ap (λ (o : Option ℕ). last_level o (zipped reps defs)) p.last ∙ (sym (last-append None (map pair_of p.triples) (zipped reps defs)) ∙ ap (last_level None) (sym pairs-all));
      ended = t.ended;
      walked = t.walked ∙ (ap (walk (map mark_of new)) p.walked ∙ (sym (walk-append (map mark_of p.triples) (map mark_of new) ks) ∙ ap (λ (ms : List Mark). walk ms ks) (sym (map-append mark_of p.triples new))));
      sized = omega (arith, t.sized, p.sized, ap bytes_of values-all, bytes-append (values_of p.triples) (given t.gives));
    }

pub block-takes : (rest n : ℕ) (reps defs : List ℕ) (page page' : List Item) → TakesBlock rest page (Some (Ok n)) reps defs page' → TakesPairs rest page n reps defs page'
block-takes rest n reps defs page page' b = (b.0, b.1, b.2, b.4, b.5)

-- one step more
pub progress-more : (rows rest rest' : ℕ) (before before' : Option ℕ) (page page' page'' : List Item) (left left' left'' : List Stored) (ks ks' ks'' : List Kept) (s s' s'' : List Slot) → Progress rows rest before page page' left left' ks ks' s s' → TookPairs rest rest' before before' page' page'' left' left'' ks' ks'' s' s'' → Progress rows rest' before' page page'' left left'' ks ks'' s s''
progress-more rows rest rest' before before' page page' page'' left left' left'' ks ks' ks'' s s' s'' p t = rw (t.wanted, t.last) (progress-step rows rest t.begun before t.reps t.defs page page' page'' left left' left'' ks ks' ks'' s s' s'' p t.takes t.follow t.took)

-- ---- equal pairs
pub last-copies : (before : Option ℕ) (n r d : ℕ) → 0 < n → last_level before (zipped (replicate n r) (replicate n d)) ≡ Some d
last-copies before zero r d h = absurd (omega (arith, h))
last-copies before (suc zero) r d h = refl
last-copies before (suc (suc n)) r d h = last-copies (Some d) (suc n) r d (omega arith)

pub rows-zero : (n r : ℕ) → r ≡ 0 → rows_in (replicate n r) ≡ n
rows-zero zero r e = refl
rows-zero (suc n) r e = rows-cons r (replicate n r) ∙ (rw e (rw (rows-zero n 0 refl) (omega arith)))

pub rows-none : (n r : ℕ) → (r ≡ 0 → ⊥) → rows_in (replicate n r) ≡ 0
rows-none zero r h = refl
rows-none (suc n) r h = rows-cons r (replicate n r) ∙ (rw (ne_eqb r 0 h) (rw (rows-none n r h) (omega arith)))

pub rows-most : (n r rows : ℕ) → (r ≡ 0 → n ≤ rows) → rows_in (replicate n r) ≤ rows
rows-most n zero rows h = omega (arith, rows-zero n 0 refl, h refl)
rows-most n (suc r) rows h = omega (arith, rows-none n (suc r) (λ e. omega (arith, e)))

pub finished : (rows rest : ℕ) (before : Option ℕ) (page page' page'' : List Item) (left left' left'' : List Stored) (ks ks' ks'' : List Kept) (s s' s'' : List Slot) → Progress rows rest before page page' left left' ks ks' s s' → TookNone rest page' page'' left' left'' ks' ks'' s' s'' → Extends rows page page'' left left'' ks ks'' s s''
finished rows rest before page page' page'' left left' left'' ks ks' ks'' s s' s'' p b =
    let n = begun (map pair_of p.triples) in
    let more : rest ≡ rows - n = omega (arith, p.wanted) in
    rw (b.same, b.values, b.state, b.decoded) (record {
      triples = p.triples;
      pairs = p.pairs;
      values = p.values;
      column = p.column;
      within = p.within;
      way = p.way;
      fits = p.fits;
      decoded = p.decoded;
      built = p.walked;
      sized = p.sized;
      counted = p.counted;
      most = omega (arith, p.wanted);
      stops = rw (← more) b.stops;
    })
