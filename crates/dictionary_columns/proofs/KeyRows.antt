-- Where the pages hold rows of a dictionary's column, those of its keys could hold as many.
use Rattle.std.proofs.Common.{◌≡◌, ℕ, zero, suc, ◌+◌, ◌≤◌, is_some, nat_eq, cond, Option, Some, None, List, [], ◌∷◌, map, length, All, refl, arith, ap, sym, subst, ◌∙◌}
use Rattle.std.proofs.lemmas.List.Elements.{All-append, All-nil, All-cons, All-head, All-tail}
use Rattle.std.proofs.lemmas.List.Sums.{sum_by-cons}
use Rattle.columns_core.specs.Shapes.{leaf_type}
use Rattle.columns_core.specs.declared.types.IntegerType.{IntegerType}
use Rattle.pq_files.specs.Chunk.{Chunk, Page, triples_of}
use Rattle.pq_files.specs.Page.{rows_in}
use Rattle.pq_files.specs.PageReasons.{IsOutside}
use Rattle.pq_files.specs.RowReasons.{without_value}
use Rattle.pq_files.specs.Stored.{AreStored}
use Rattle.pq_headline.specs.FieldReasons.{key_room}
use Rattle.pq_headline.specs.Openings.{leaf_levels}
use Rattle.pq_pages.specs.Held.{ArePagesIn, HoldsChunk}
use Rattle.pq_pages.specs.Outcomes.{IsGiven, Outcome, gives_page, gives_dictionary, fails}
use Rattle.pq_tree.specs.Physical.{Physical}
use Rattle.pq_tree.specs.Tree.{Leaf, max_definition}
use Rattle.read_pieces.specs.Columns.{AreColumnRows, ColumnOpening}
use Rattle.shredding.proofs.Counts.{counted}
use Rattle.shredding.proofs.Order.{columns_are_local}
use Rattle.shredding.specs.Local.{IsInOrder, IsWithin, MayFollow, MayGoOn}
use Rattle.shredding.specs.Shape.{LeafType, Way}
use Rattle.shredding.specs.Shred.{Triple, column, max_definition as way_definition}
use Rattle.shredding.specs.Slot.{Slot, Value}
use Rattle.dictionary_columns.specs.Columns.{key_opening}
use Rattle.dictionary_columns.specs.Keys.{entry_of_stored, key_physical, key_tree, stored_key, stored_keys, with_value}
use Rattle.dictionary_columns.specs.Sources.{keyed_outcome}
use Rattle.dictionary_columns.specs.Laws.{CouldBe}
use Rattle.read_column.specs.Foreseen.{foreseen}
use Rattle.read_column.specs.Reading.{stored_in}
use Rattle.dictionary_columns.proofs.Entered.{good-values, key_value, stored-keyed}
use Rattle.dictionary_columns.proofs.Futures.{could-hold}
use Rattle.dictionary_columns.proofs.Looked.{beside}
use Rattle.dictionary_columns.proofs.Numbers.{IsKey, is-stored, key-zero, keys-good, not-truths, zero-key}
use Rattle.dictionary_columns.proofs.ReadKeys.{HasBoth, entries-are}
use Rattle.dictionary_columns.proofs.Triples.{present-with, without-with}

-- ---- the same levels
stored-levels : (t : LeafType) (p : Physical) (xs zs : List Triple) → AreStored t p xs zs → map without_value zs ≡ map without_value xs
stored-levels t p [] [] a = refl
stored-levels t p [] (z ∷ zs) a = absurd a
stored-levels t p (x ∷ xs) [] a = absurd a
stored-levels t p (x ∷ xs) (z ∷ zs) a =
    let r = a.0.repetition in
    let d = a.0.definition in
    let head : without_value z ≡ without_value x = λ i. record { repetition = r i; definition = d i; value = None } in
    cc (head, stored-levels t p xs zs a.1)

within-one : (w : Way) (x y : Triple) → without_value x ≡ without_value y → IsWithin w y → is_some x.value ≡ nat_eq x.definition (way_definition w) → IsWithin w x
within-one w x y e h p =
    let r : x.repetition ≡ y.repetition = ap (λ (t : Triple). t.repetition) e in
    let d : x.definition ≡ y.definition = ap (λ (t : Triple). t.definition) e in
    record { repetition = omega (arith, h.repetition, r); definition = omega (arith, h.definition, d); present = p }

within-like : (w : Way) (xs ys : List Triple) → map without_value xs ≡ map without_value ys → All (IsWithin w) ys → All (λ t. is_some t.value ≡ nat_eq t.definition (way_definition w)) xs → All (IsWithin w) xs
within-like w [] ys e h p = All-nil (IsWithin w)
within-like w (x ∷ xs) [] e h p = absurd (cc e)
within-like w (x ∷ xs) (y ∷ ys) e h p =
    let P : Triple → Type 0 = λ t. is_some t.value ≡ nat_eq t.definition (way_definition w) in
    let head : without_value x ≡ without_value y = cc e in
    let tail : map without_value xs ≡ map without_value ys = cc e in
    All-cons (IsWithin w) x xs (within-one w x y head (All-head (IsWithin w) y ys h) (All-head P x xs p)) (within-like w xs ys tail (All-tail (IsWithin w) y ys h) (All-tail P x xs p))

follow-like : (w : Way) (x x' y y' : Triple) → without_value x ≡ without_value y → without_value x' ≡ without_value y' → MayFollow w y y' → MayFollow w x x'
follow-like w x x' y y' e e' m =
    let d : x.definition ≡ y.definition = ap (λ (t : Triple). t.definition) e in
    let r' : x'.repetition ≡ y'.repetition = ap (λ (t : Triple). t.repetition) e' in
    let d' : x'.definition ≡ y'.definition = ap (λ (t : Triple). t.definition) e' in
    record { before = rw (r', d) m.before; after = rw (r', d') m.after }

goes-on-like : (w : Way) (x y : Triple) (xs ys : List Triple) → without_value x ≡ without_value y → map without_value xs ≡ map without_value ys → MayGoOn w y ys → MayGoOn w x xs
goes-on-like w x y [] ys e es m = tt
goes-on-like w x y (x' ∷ xs) [] e es m = absurd (cc es)
goes-on-like w x y (x' ∷ xs) (y' ∷ ys) e es m =
    let head : without_value x' ≡ without_value y' = cc es in
    let tail : map without_value xs ≡ map without_value ys = cc es in
    (follow-like w x x' y y' e head m.0, goes-on-like w x' y' xs ys head tail m.1)

order-like : (w : Way) (xs ys : List Triple) → map without_value xs ≡ map without_value ys → IsInOrder w ys → IsInOrder w xs
order-like w [] ys e o = tt
order-like w (x ∷ xs) [] e o = absurd (cc e)
order-like w (x ∷ xs) (y ∷ ys) e o =
    let head : without_value x ≡ without_value y = cc e in
    let tail : map without_value xs ≡ map without_value ys = cc e in
    (ap (λ (t : Triple). t.repetition) head ∙ o.0, goes-on-like w x y xs ys head tail o.1)

rows-without : (ts : List Triple) → rows_in (map without_value ts) ≡ rows_in ts
rows-without [] = refl
rows-without (t ∷ ts) =
    sum_by-cons (λ (u : Triple). cond (nat_eq u.repetition 0) 1 0) (without_value t) (map without_value ts)
    ∙ (ap (λ (n : ℕ). cond (nat_eq t.repetition 0) 1 0 + n) (rows-without ts) ∙ sym (sum_by-cons (λ (u : Triple). cond (nat_eq u.repetition 0) 1 0) t ts))

rows-like : (xs ys : List Triple) → map without_value xs ≡ map without_value ys → rows_in xs ≡ rows_in ys
rows-like xs ys e = sym (rows-without xs) ∙ (ap rows_in e ∙ rows-without ys)

-- ---- pages
pages-present : (l : Leaf) (es : Option (List Value)) (os : List Outcome) (qs : List Page) → ArePagesIn l es os qs → All (λ t. is_some t.value ≡ nat_eq t.definition (max_definition l)) (stored_in qs)
pages-present l es [] [] a = All-nil (λ (t : Triple). is_some t.value ≡ nat_eq t.definition (max_definition l))
pages-present l es [] (q ∷ qs) a = absurd a
pages-present l es (gives_page p levels ∷ os) [] a = absurd a
pages-present l es (gives_page p levels ∷ os) (q ∷ qs) a = All-append (λ (t : Triple). is_some t.value ≡ nat_eq t.definition (max_definition l)) q.triples (stored_in qs) a.0.is.present (pages-present l es os qs a.1)
pages-present l es (gives_dictionary n body ∷ os) qs a = absurd a
pages-present l es (fails e ∷ os) qs a = absurd a

pages-given : (l : Leaf) (es : Option (List Value)) (os : List Outcome) (qs : List Page) → ArePagesIn l es os qs → All IsGiven os
pages-given l es [] qs a = All-nil IsGiven
pages-given l es (gives_page p levels ∷ os) [] a = absurd a
pages-given l es (gives_page p levels ∷ os) (q ∷ qs) a = All-cons IsGiven (gives_page p levels) os tt (pages-given l es os qs a.1)
pages-given l es (gives_dictionary n body ∷ os) qs a = absurd a
pages-given l es (fails e ∷ os) qs a = absurd a

keys-inside : (key : IntegerType) (place n : ℕ) → place + n ≤ key_room key → All (λ v. IsOutside (leaf_type (key_tree key)) (key_physical key) v → ⊥) (stored_keys key place n)
keys-inside key place zero few = All-nil (λ (v : Value). IsOutside (leaf_type (key_tree key)) (key_physical key) v → ⊥)
keys-inside key place (suc n) few = All-cons (λ (v : Value). IsOutside (leaf_type (key_tree key)) (key_physical key) v → ⊥) (stored_key key place) (stored_keys key (suc place) n) (λ out. out _ (is-stored key place (omega (arith, few)))) (keys-inside key (suc place) n (omega (arith, few)))

-- ---- rows
pub rows-could-be : (key : IntegerType) (o : ColumnOpening) (n : ℕ) (body text : List ℕ) (es : List Value) (os : List Outcome) (rows : List Slot) → o.outcomes ≡ gives_dictionary n body ∷ os → n ≤ key_room key → max_definition o.leaf ≡ way_definition o.column.way →
    HasBoth o.column o.leaf (key_physical key) n body text (stored_keys key 0 n) es (entry_of_stored key es) → AreColumnRows o rows → CouldBe o (key_opening key n text os o)
rows-could-be key o n body text es os rows outcomes few definition h a =
    let w = o.column.way in
    let l = o.leaf in
    let p = key_physical key in
    let kt = leaf_type (key_tree key) in
    let keys = stored_keys key 0 n in
    let c = a.chunk in
    let held : HoldsChunk l (gives_dictionary n body ∷ os) c = subst (λ (xs : List Outcome). HoldsChunk l xs c) outcomes a.holds.holds in
    let entries-is : c.entries ≡ Some es = held.1 ∙ ap Some (entries-are l n body held.0 es held.2 h.own) in
    let pages : ArePagesIn l (Some es) os c.pages = subst (λ (x : Option (List Value)). ArePagesIn l x os c.pages) entries-is held.3 in
    let could = could-hold l p keys es (entry_of_stored key es) (IsKey key) (leaf_levels l) os c.pages (not-truths key) h.look (key-zero key) (zero-key key) (λ i v e. keys-good key n i v few e) pages in
    let own = could.hold in
    let zs = stored_in own.pages in
    let ts = map (with_value (key_value key)) zs in
    let stored : AreStored kt p ts zs = stored-keyed key zs (good-values (IsKey key) zs own.good) in
    let levels : map without_value ts ≡ map without_value (column w rows) = without-with (key_value key) zs ∙ (own.same ∙ stored-levels (leaf_type o.column.data_type) l.physical (column w rows) (triples_of c) a.holds.shred) in
    let present : All (λ t. is_some t.value ≡ nat_eq t.definition (way_definition w)) ts = subst (λ (m : ℕ). All (λ (t : Triple). is_some t.value ≡ nat_eq t.definition m) ts) definition (present-with (key_value key) (max_definition l) zs (pages-present (beside l p) (Some keys) (foreseen (map keyed_outcome os) could.others) own.pages own.are)) in
    let local = (columns_are_local w (column w rows)).1 (rows, a.along, refl) in
    let made = (columns_are_local w ts).0 (within-like w ts (column w rows) levels local.0 present, order-like w ts (column w rows) levels local.1) in
    let count : length made.0 ≡ length rows = sym (counted w made.0) ∙ (ap rows_in made.2 ∙ (rows-like ts (column w rows) levels ∙ counted w rows)) in
    let of-column : AreStored kt p (column w made.0) zs = subst (λ (xs : List Triple). AreStored kt p xs zs) (sym made.2) stored in
    let chunk : Chunk = record { entries = Some keys; pages = own.pages } in
    record {
      others = could.others;
      given = could.given;
      of_levels = could.of_levels;
      rows = made.0;
      are = record {
        along = made.1;
        count = count ∙ a.count;
        chunk = chunk;
        holds = record {
          given = All-cons IsGiven (gives_dictionary n text) (foreseen (map keyed_outcome os) could.others) tt (pages-given (beside l p) (Some keys) (foreseen (map keyed_outcome os) could.others) own.pages own.are);
          holds = (keys, refl, h.are, own.are);
          shred = of-column;
          counted = rows-like zs (column w made.0) (stored-levels kt p (column w made.0) zs of-column) ∙ counted w made.0;
          inside = keys-inside key 0 n (omega (arith, few));
        };
      };
    }
