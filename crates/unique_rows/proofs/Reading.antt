-- What is read of the columns of one field, in a file that was written: no outcome is a reason.
use Rattle.std.proofs.Common.{◌≡◌, ◌≢◌, ◌⊎◌, ◌≤◌, ℕ, Bool, true, false, true≢false, List, [], ◌∷◌, ◌++◌, All, map, length, take, drop, length-take, Option, None, refl, sym, ap, subst, ◌∙◌, inl, inr, arith}
use Rattle.std.proofs.lemmas.List.{length-map}
use Rattle.std.proofs.lemmas.List.Elements.{All-from_recursion}
use Rattle.std.specs.Prelude.{IfSome}
use Rattle.std.specs.List.{AllByRecursion, AllZip}
use Rattle.shredding.proofs.Schema.{own_columns}
use Rattle.shredding.specs.Shred.{Triple}
use Rattle.shredding.specs.Slot.{Slot, Slots, Value}
use Rattle.columns_base.specs.declared.error.Error.{Error}
use Rattle.columns_core.specs.Shapes.{leaf_type}
use Rattle.pq_metadata.proofs.Injective.{pos_same}
use Rattle.pq_metadata.specs.Footer.{ChunkMeta}
use Rattle.pq_metadata.specs.Header.{Header}
use Rattle.pq_tree.specs.Tree.{Leaf}
use Rattle.pq_files.proofs.Excluded.{exclude}
use Rattle.pq_files.proofs.PageOnce.{encoding_same}
use Rattle.pq_files.specs.Carried.{column_in}
use Rattle.pq_files.specs.Chunk.{Chunk, IsChunk, IsPageIn, Page, RawPage, triples_of}
use Rattle.pq_files.specs.Page.{Encoding, HasEncoding, delta, delta_length, plain, rows_in}
use Rattle.pq_files.specs.PageReasons.{GoesOn, IsOutside, N4Page}
use Rattle.pq_files.specs.Reasons.{AnyOf}
use Rattle.pq_files.specs.Stored.{AreStored}
use Rattle.pq_pages.specs.Held.{ArePagesIn, HoldsChunk}
use Rattle.pq_pages.specs.Outcomes.{IsGiven, Levels, Outcome, fails, gives_dictionary, gives_page}
use Rattle.pq_headline.specs.Columns.{ArrowColumn, beneath_struct, is_alone, is_dictionary}
use Rattle.pq_headline.specs.FieldReasons.{BeginsWithEntries, GivesEntries, GivesIndices, HasMisplaced, HasN4Page, SomeFails, SomeN4, SomeN8, SomeV2}
use Rattle.pq_headline.specs.Lists.{AllZip3}
use Rattle.pq_headline.specs.Opened.{Reads}
use Rattle.pq_headline.specs.Openings.{HoldColumns, HoldsColumn, leaf_levels}
use Rattle.pq_headline.specs.Rows.{IsColumnOf, field_slots}
use Rattle.unique_rows.proofs.Begun.{none_goes_on}
use Rattle.unique_rows.proofs.Found.{AreEncoded}
use Rattle.unique_rows.proofs.Given.{AreGiven, given, not_indexed}
use Rattle.unique_rows.proofs.Sound.{IsSound}

-- The source of a column gives the pages of its chunk, which hold the column of the rows.
pub record IsReadOf (rows : List Slot) (c : ArrowColumn) (l : Leaf) (outcomes : List Outcome) : Type 0 where
  pub chunk : Chunk
  pub entries : chunk.entries ≡ None
  pub given : AreGiven l (leaf_levels l) outcomes chunk.pages
  pub shred : IsColumnOf rows c l (column_in chunk)
  pub counted : rows_in (triples_of chunk) ≡ length rows
  pub encoded : is_alone c.way ≡ false → AreEncoded plain chunk.pages
  pub direct : is_dictionary c.data_type ≡ false

abbrev pub AreReadOf : List Slot → List ArrowColumn → List Leaf → List (List Outcome) → Type 0
AreReadOf rows cs ls outcomes = AllZip3 (IsReadOf rows) cs ls outcomes

-- ---- the chunk that is read is the one that was written

is_read : (bytes : List ℕ) (place i : ℕ) (rows : List Slots) (c : ArrowColumn) (l : Leaf) (m : ChunkMeta) (outcomes : List Outcome) → IsSound bytes place rows (beneath_struct false i c) l m → Reads bytes place m l outcomes → IsReadOf (field_slots i rows) c l outcomes
is_read bytes place i rows c l m outcomes s r =
    let n = pos_same s.is.num_values r.placed.num_values (sym s.is.has_num_values ∙ r.placed.has_num_values) in
    let start = pos_same s.is.start r.placed.start (sym s.is.starts ∙ r.placed.starts) in
    let size = pos_same s.is.size r.placed.size (sym s.is.has_size ∙ r.placed.has_size) in
    let text : s.is.text ≡ r.text = s.is.is_there.is ∙ ap (λ (k : ℕ). take s.is.size (drop k bytes)) start ∙ ap (λ (k : ℕ). take k (drop r.placed.start bytes)) size ∙ sym r.is_there.is in
    let is : IsChunk l r.placed.num_values r.text s.chunk = subst (λ (k : ℕ). IsChunk l k r.text s.chunk) n (subst (λ (t : List ℕ). IsChunk l s.is.num_values t s.chunk) text s.is.is) in
    let fits : length r.text ≤ r.placed.size = omega (arith, ap length r.is_there.is, length-take r.placed.size (drop r.placed.start bytes)) in
    record {
      chunk = s.chunk;
      entries = s.entries;
      given = given r.placed.size l (leaf_levels l) r.placed.num_values r.text s.chunk outcomes fits s.entries is r.reads;
      shred = subst (λ (ts : List Triple). AreStored (leaf_type c.data_type) l.physical ts (triples_of s.chunk)) (own_columns i c.way rows) s.shred;
      counted = s.counted ∙ sym (length-map rows _);
      encoded = s.encoded;
      direct = s.direct;
    }

pub are_read : (bytes : List ℕ) (place i : ℕ) (rows : List Slots) (cs : List ArrowColumn) (ls : List Leaf) (ms : List ChunkMeta) (outcomes : List (List Outcome))
    → AllZip3 (IsSound bytes place rows) (map (beneath_struct false i) cs) ls ms → AllZip3 (Reads bytes place) ms ls outcomes → AreReadOf (field_slots i rows) cs ls outcomes
are_read bytes place i rows [] [] [] [] s r = tt
are_read bytes place i rows [] [] [] (o ∷ os) s r = absurd r
are_read bytes place i rows [] [] (m ∷ ms) os s r = absurd s
are_read bytes place i rows [] (l ∷ ls) ms os s r = absurd s
are_read bytes place i rows (c ∷ cs) [] ms os s r = absurd s
are_read bytes place i rows (c ∷ cs) (l ∷ ls) [] os s r = absurd s
are_read bytes place i rows (c ∷ cs) (l ∷ ls) (m ∷ ms) [] s r = absurd r
are_read bytes place i rows (c ∷ cs) (l ∷ ls) (m ∷ ms) (o ∷ os) s r = (is_read bytes place i rows c l m o s.0 r.0, are_read bytes place i rows cs ls ms os s.1 r.1)

-- ---- of each outcome

-- what holds of each page that holds triples holds of each outcome
abbrev Everywhere : (Outcome → Type 0) → List Outcome → Type 0
Everywhere P os = AllByRecursion P os

on_pages : (l : Leaf) (levels : Levels) (P : Outcome → Type 0) → ((raw : RawPage) (q : Page) → IsPageIn l None raw q → P (gives_page raw levels)) → (raws : List RawPage) (pages : List Page) → AllZip (IsPageIn l None) raws pages → Everywhere P (map (λ p. gives_page p levels) raws)
on_pages l levels P each [] [] h = tt
on_pages l levels P each [] (q ∷ qs) h = absurd h
on_pages l levels P each (r ∷ rs) [] h = absurd h
on_pages l levels P each (r ∷ rs) (q ∷ qs) h = (each r q h.0, on_pages l levels P each rs qs h.1)

everywhere : (l : Leaf) (levels : Levels) (P : Outcome → Type 0) (outcomes : List Outcome) (pages : List Page) → ((raw : RawPage) (q : Page) → IsPageIn l None raw q → P (gives_page raw levels)) → AreGiven l levels outcomes pages → Everywhere P outcomes
everywhere l levels P outcomes pages each g = subst (Everywhere P) (sym g.are) (on_pages l levels P each g.raws pages g.hold)

-- the same with the encoding of each page
on_encoded : (l : Leaf) (levels : Levels) (e : Encoding) (P : Outcome → Type 0) → ((raw : RawPage) → HasEncoding raw.header e → P (gives_page raw levels)) → (raws : List RawPage) (pages : List Page) → AllZip (IsPageIn l None) raws pages → AreEncoded e pages → Everywhere P (map (λ p. gives_page p levels) raws)
on_encoded l levels e P each [] [] h k = tt
on_encoded l levels e P each [] (q ∷ qs) h k = absurd h
on_encoded l levels e P each (r ∷ rs) [] h k = absurd h
on_encoded l levels e P each (r ∷ rs) (q ∷ qs) h k = (each r (subst (λ (x : Header). HasEncoding x e) h.0.header k.0), on_encoded l levels e P each rs qs h.1 k.1)

none_of : (P : Outcome → Type 0) (os : List Outcome) → Everywhere (λ o. ¬ P o) os → AnyOf P os → ⊥
none_of P [] n h = h
none_of P (o ∷ os) n (inl h) = n.0 h
none_of P (o ∷ os) n (inr h) = none_of P os n.1 h

at_seam : (P : Outcome → Type 0) (before : List Outcome) (o : Outcome) (rest : List Outcome) → Everywhere P (before ++ o ∷ rest) → P o
at_seam P [] o rest h = h.0
at_seam P (b ∷ before) o rest h = at_seam P before o rest h.1

-- ---- no source fails

pub none_fails : (rows : List Slot) (cs : List ArrowColumn) (ls : List Leaf) (outcomes : List (List Outcome)) (e : Error) → AreReadOf rows cs ls outcomes → SomeFails e outcomes → ⊥
none_fails rows [] [] [] e r h = h
none_fails rows [] [] (o ∷ os) e r h = r
none_fails rows [] (l ∷ ls) os e r h = r
none_fails rows (c ∷ cs) [] os e r h = r
none_fails rows (c ∷ cs) (l ∷ ls) [] e r h = r
none_fails rows (c ∷ cs) (l ∷ ls) (o ∷ os) e r (inl h) = none_of (λ x. x ≡ fails e) o (everywhere l (leaf_levels l) (λ x. ¬ (x ≡ fails e)) o r.0.chunk.pages (λ raw q is k. cc k) r.0.given) h
none_fails rows (c ∷ cs) (l ∷ ls) (o ∷ os) e r (inr h) = none_fails rows cs ls os e r.1 h

-- ---- nothing is misplaced

abbrev IsPlaced : Outcome → Type 0
IsPlaced o = (¬ GivesEntries o) × (¬ GivesIndices o)

placed : (rows : List Slot) (c : ArrowColumn) (l : Leaf) (os : List Outcome) → IsReadOf rows c l os → Everywhere IsPlaced os
placed rows c l os r = everywhere l (leaf_levels l) IsPlaced os r.chunk.pages (λ raw q is. (λ k. k, not_indexed l raw q is)) r.given

not_misplaced : (os : List Outcome) → Everywhere IsPlaced os → HasMisplaced os → ⊥
not_misplaced os p h = by (at_seam IsPlaced h.before h.outcome h.rest (subst (Everywhere IsPlaced) h.parts p)) h.misplaced
  where
    by : IsPlaced h.outcome → ((h.before ≢ []) × GivesEntries h.outcome) ⊎ (GivesIndices h.outcome × (¬ BeginsWithEntries os)) → ⊥
    by q (inl x) = q.0 x.1
    by q (inr x) = q.1 x.0

pub none_misplaced : (rows : List Slot) (cs : List ArrowColumn) (ls : List Leaf) (outcomes : List (List Outcome)) → AreReadOf rows cs ls outcomes → AnyOf HasMisplaced outcomes → ⊥
none_misplaced rows [] [] [] r h = h
none_misplaced rows [] [] (o ∷ os) r h = r
none_misplaced rows [] (l ∷ ls) os r h = r
none_misplaced rows (c ∷ cs) [] os r h = r
none_misplaced rows (c ∷ cs) (l ∷ ls) [] r h = r
none_misplaced rows (c ∷ cs) (l ∷ ls) (o ∷ os) r (inl h) = not_misplaced o (placed rows c l o r.0) h
none_misplaced rows (c ∷ cs) (l ∷ ls) (o ∷ os) r (inr h) = none_misplaced rows cs ls os r.1 h

-- ---- each page is in an encoding that is read

-- of a column that is a field's own, and of one beneath others
not_nested : (b : Bool) (A : Type 0) → b ≡ true → (b ≡ false) × A → ⊥
not_nested b A e h = true≢false (sym e ∙ h.0)

plain_only : (raw : RawPage) → HasEncoding raw.header plain → HasEncoding raw.header delta ⊎ HasEncoding raw.header delta_length → ⊥
plain_only raw e (inl d) = cc (encoding_same raw.header plain delta e d)
plain_only raw e (inr d) = cc (encoding_same raw.header plain delta_length e d)

abbrev NotNested : ArrowColumn → Outcome → Type 0
NotNested c (gives_page p levels) = (is_alone c.way ≡ false) × (HasEncoding p.header delta ⊎ HasEncoding p.header delta_length) → ⊥
NotNested c o = Unit {0}

no_deltas : (rows : List Slot) (c : ArrowColumn) (l : Leaf) (os : List Outcome) (b : Bool) → is_alone c.way ≡ b → IsReadOf rows c l os → Everywhere (NotNested c) os
no_deltas rows c l os true e r = everywhere l (leaf_levels l) (NotNested c) os r.chunk.pages (λ raw q is. not_nested (is_alone c.way) _ e) r.given
no_deltas rows c l os false e r = subst (Everywhere (NotNested c)) (sym r.given.are) (on_encoded l (leaf_levels l) plain (NotNested c) (λ raw k h. plain_only raw k h.1) r.given.raws r.chunk.pages r.given.hold (r.encoded e))

abbrev NotN4Page : Leaf → Outcome → Type 0
NotN4Page l (gives_page p levels) = ¬ N4Page l p
NotN4Page l o = Unit {0}

no_n4 : (c : ArrowColumn) (l : Leaf) (os : List Outcome) → is_dictionary c.data_type ≡ false → Everywhere (NotNested c) os → Everywhere (NotN4Page l) os → AnyOf (HasN4Page c l) os → ⊥
no_n4 c l [] d n p h = h
no_n4 c l (gives_page raw levels ∷ os) d n p (inl (inl h)) = p.0 h
no_n4 c l (gives_page raw levels ∷ os) d n p (inl (inr (inl h))) = true≢false (sym h.0 ∙ d)
no_n4 c l (gives_page raw levels ∷ os) d n p (inl (inr (inr h))) = n.0 h
no_n4 c l (gives_dictionary k body ∷ os) d n p (inl h) = h
no_n4 c l (fails e ∷ os) d n p (inl h) = h
no_n4 c l (o ∷ os) d n p (inr h) = no_n4 c l os d n.1 p.1 h

pub none_n4 : (rows : List Slot) (cs : List ArrowColumn) (ls : List Leaf) (outcomes : List (List Outcome)) → AreReadOf rows cs ls outcomes → SomeN4 cs ls outcomes → ⊥
none_n4 rows [] [] [] r h = h
none_n4 rows [] [] (o ∷ os) r h = r
none_n4 rows [] (l ∷ ls) os r h = r
none_n4 rows (c ∷ cs) [] os r h = r
none_n4 rows (c ∷ cs) (l ∷ ls) [] r h = r
none_n4 rows (c ∷ cs) (l ∷ ls) (o ∷ os) r (inl h) =
    no_n4 c l o r.0.direct (no_deltas rows c l o (is_alone c.way) refl r.0) (everywhere l (leaf_levels l) (NotN4Page l) o r.0.chunk.pages (λ raw q is k. exclude.n4 l None raw k q.triples is.is) r.0.given) h
none_n4 rows (c ∷ cs) (l ∷ ls) (o ∷ os) r (inr h) = none_n4 rows cs ls os r.1 h

-- ---- each page begins with a row

abbrev NotGoingOn : Leaf → Outcome → Type 0
NotGoingOn l (gives_page p levels) = ¬ GoesOn l p
NotGoingOn l o = Unit {0}

pub none_n8 : (rows : List Slot) (cs : List ArrowColumn) (ls : List Leaf) (outcomes : List (List Outcome)) → AreReadOf rows cs ls outcomes → SomeN8 ls outcomes → ⊥
none_n8 rows [] [] [] r h = h
none_n8 rows [] [] (o ∷ os) r h = r
none_n8 rows [] (l ∷ ls) os r h = r
none_n8 rows (c ∷ cs) [] os r h = r
none_n8 rows (c ∷ cs) (l ∷ ls) [] r h = r
none_n8 rows (c ∷ cs) (l ∷ ls) (o ∷ os) r (inl h) =
    at_seam (NotGoingOn l) h.before (gives_page h.page h.levels) h.rest (subst (Everywhere (NotGoingOn l)) h.parts (everywhere l (leaf_levels l) (NotGoingOn l) o r.0.chunk.pages (λ raw q is. none_goes_on l raw q is) r.0.given)) h.goes_on
none_n8 rows (c ∷ cs) (l ∷ ls) (o ∷ os) r (inr h) = none_n8 rows cs ls os r.1 h

-- ---- no dictionary has more entries than its keys count

pub none_v2 : (rows : List Slot) (cs : List ArrowColumn) (ls : List Leaf) (outcomes : List (List Outcome)) → AreReadOf rows cs ls outcomes → SomeV2 cs outcomes → ⊥
none_v2 rows [] ls [] r h = h
none_v2 rows [] [] (o ∷ os) r h = r
none_v2 rows [] (l ∷ ls) (o ∷ os) r h = r
none_v2 rows (c ∷ cs) [] os r h = r
none_v2 rows (c ∷ cs) (l ∷ ls) [] r h = r
none_v2 rows (c ∷ cs) (l ∷ ls) ((gives_dictionary n body ∷ os) ∷ others) r h = (placed rows c l (gives_dictionary n body ∷ os) r.0).0.0 tt
none_v2 rows (c ∷ cs) (l ∷ ls) ((gives_page p levels ∷ os) ∷ others) r h = none_v2 rows cs ls others r.1 h
none_v2 rows (c ∷ cs) (l ∷ ls) ((fails e ∷ os) ∷ others) r h = none_v2 rows cs ls others r.1 h
none_v2 rows (c ∷ cs) (l ∷ ls) ([] ∷ others) r h = none_v2 rows cs ls others r.1 h

-- ---- the pages hold the rows

pages_in : (l : Leaf) (levels : Levels) (raws : List RawPage) (pages : List Page) → AllZip (IsPageIn l None) raws pages → ArePagesIn l None (map (λ p. gives_page p levels) raws) pages
pages_in l levels [] [] h = tt
pages_in l levels [] (q ∷ qs) h = absurd h
pages_in l levels (r ∷ rs) [] h = absurd h
pages_in l levels (r ∷ rs) (q ∷ qs) h = (h.0, pages_in l levels rs qs h.1)

holds_given : (l : Leaf) (levels : Levels) (raws : List RawPage) (c : Chunk) → c.entries ≡ None → AllZip (IsPageIn l None) raws c.pages → HoldsChunk l (map (λ p. gives_page p levels) raws) c
holds_given l levels [] c e h = (e, subst (λ (d : Option (List Value)). ArePagesIn l d [] c.pages) (sym e) (pages_in l levels [] c.pages h))
holds_given l levels (r ∷ rs) c e h = (e, subst (λ (d : Option (List Value)). ArePagesIn l d (map (λ p. gives_page p levels) (r ∷ rs)) c.pages) (sym e) (pages_in l levels (r ∷ rs) c.pages h))

holds_column : (rows : List Slot) (c : ArrowColumn) (l : Leaf) (os : List Outcome) → (r : IsReadOf rows c l os) → HoldsColumn rows c l os r.chunk
holds_column rows c l os r = record {
  given = All-from_recursion IsGiven os (everywhere l (leaf_levels l) IsGiven os r.chunk.pages (λ raw q is. tt) r.given);
  holds = subst (λ (xs : List Outcome). HoldsChunk l xs r.chunk) (sym r.given.are) (holds_given l (leaf_levels l) r.given.raws r.chunk r.entries r.given.hold);
  shred = r.shred;
  counted = r.counted;
  inside = subst (λ (d : Option (List Value)). IfSome d (All (λ v. ¬ IsOutside (leaf_type c.data_type) l.physical v))) (sym r.entries) tt;
}

pub hold_columns : (rows : List Slot) (cs : List ArrowColumn) (ls : List Leaf) (outcomes : List (List Outcome)) → AreReadOf rows cs ls outcomes → (chunks : List Chunk) × HoldColumns rows cs ls outcomes chunks
hold_columns rows [] [] [] r = ([], tt)
hold_columns rows [] [] (o ∷ os) r = absurd r
hold_columns rows [] (l ∷ ls) os r = absurd r
hold_columns rows (c ∷ cs) [] os r = absurd r
hold_columns rows (c ∷ cs) (l ∷ ls) [] r = absurd r
hold_columns rows (c ∷ cs) (l ∷ ls) (o ∷ os) r =
    let more = hold_columns rows cs ls os r.1 in
    (r.0.chunk ∷ more.0, (holds_column rows c l o r.0, more.1))
