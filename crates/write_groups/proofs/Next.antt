-- The next page of a column.
use Rattle.std.proofs.Common.{◌≡◌, ◌≤◌, inl, inr, All, List, [], ◌∷◌, length, map, Option, None, Some, Bool, true, false, true≢false, refl, sym, ap, subst, ◌∙◌, arith}
use Rattle.std.specs.Prelude.{Ok, Err, is_some}
use Rattle.std.specs.List.{AllZip, AllByRecursion as Each}
use Rattle.std.proofs.lemmas.List.Elements.{All-from_recursion}
use Rattle.shredding.specs.Shape.{LeafType, Way}
use Rattle.shredding.specs.Shred.{Triple, column}
use Rattle.shredding.specs.Slot.{Slot, Value}
use Rattle.columns_base.specs.declared.error.Error.{Error}
use Rattle.pq_files.specs.Layout.{OutPage, OutChunk, bounded}
use Rattle.pq_files.specs.Page.{Encoding, plain, dictionary, delta, delta_length}
use Rattle.pq_files.specs.Reasons.{AnyOf}
use Rattle.pq_files.specs.Stored.{AreStored, IsStored}
use Rattle.dictionary_pages.specs.Entries.{stored_entry}
use Rattle.page_statistics.specs.Spelled.{HasOwnBytes}
use Rattle.pq_pages.specs.DataPages.{DataPageValue}
use Rattle.pq_pages.specs.Denotes.{IsDictFor, IsPageFor}
use Rattle.pq_pages.specs.declared.page.DictPage.{DictPage}
use Rattle.pq_pages.specs.declared.page.Page.TheVariants.{Data, Dict}
use Rattle.pq_tree.specs.Physical.{Physical}
use Rattle.pq_tree.specs.Tree.{Leaf}
use Rattle.pq_tree.specs.declared.version.Version.{Version}
use Rattle.write_file.specs.Pages.{GivesNext, IsDictionaryOf, IsGiven}
use Rattle.write_pages.specs.Entries.{Entries, IsDictionaryPastRoom, stored_list}
use Rattle.write_pages.specs.Given.{to_give}
use Rattle.write_pages.specs.Holds.{HaveBytes, HoldsRows, ToGive, later}
use Rattle.write_pages.specs.Refused.{Gives, IsPastRoom}
use Rattle.write_values.specs.Deltas.{encoding_name}
use Rattle.write_file.specs.Pages.{encoding_view}
use Rattle.write_pages.specs.declared.pages.PageIter.{PageIter}
use Rattle.write_groups.proofs.Bounded.{one_statistics}
use Rattle.write_groups.specs.Given.{BeginsColumn, GivesChunk, GivesColumn, IsPageOf, RefusesColumn, left_after, left_of, to_come}
use Rattle.write_groups.specs.declared.column.ChunkColumn.{ChunkColumn}

-- a column of one value
abbrev single : Option Value → List Triple
single v = record { repetition = 0; definition = 0; value = v } ∷ []

abbrev given_or : Value → Option Value → Value
given_or d None = d
given_or d (Some v) = v

abbrev first_or : Value → List Triple → Value
first_or d [] = d
first_or d (t ∷ ts) = given_or d t.value

bytes_alone : (t : LeafType) (s : Value) → HasOwnBytes t s → HaveBytes t (single (Some s))
bytes_alone t s h = All-from_recursion (HasOwnBytes t) (s ∷ []) (h, tt)

-- where no column is stored in two ways, no value is
one_once :
    (t : LeafType) (p : Physical) → ((xs ys zs : List Triple) → HaveBytes t ys → HaveBytes t zs → AreStored t p xs ys → AreStored t p xs zs → ys ≡ zs)
    → (v s r : Value) → HasOwnBytes t s → HasOwnBytes t r → IsStored t p v s → IsStored t p v r → s ≡ r
one_once t p once v s r a b h k =
    ap (first_or s) (once (single (Some v)) (single (Some s)) (single (Some r)) (bytes_alone t s a) (bytes_alone t r b) (record { repetition = refl; definition = refl; value = h }, tt) (record { repetition = refl; definition = refl; value = k }, tt))

-- the page holds the rows of the first piece, so it is the first page of the chunk
is_given : (g : ToGive) (piece : List Slot) (o : OutPage) (page : DataPageValue) (version : Version) (l : Leaf) (c : OutChunk) → GivesChunk version l c g → IsPageOf g.options.write_statistics g.encoding g.type g.physical g.way g.entries piece o
    → HoldsRows g.options g.encoding g.type g.node g.physical g.way g.entries piece page → IsGiven version l (stored_list g.type g.physical g.entries) o page
is_given g piece o page version l c k h r =
    let triples = k.once (column g.way piece) r.out.triples o.triples r.have_bytes h.have_bytes r.triples h.triples in
    let encoding = r.encoding ∙ sym h.encoding in
    let statistics = one_statistics g.type g.physical (bounded g.entries (column g.way piece)) g.options.write_statistics (column g.way piece) r.out.statistics o.statistics (one_once g.type g.physical k.once) r.statistics r.exact h.statistics h.exact in
    let same : r.out ≡ o = λ i. record { triples = triples i; encoding = encoding i; statistics = statistics i } in
    record {
      is = subst (λ (v : Version). IsPageFor v l (stored_list g.type g.physical g.entries) o page) k.version_is (subst (λ (x : OutPage). IsPageFor g.options.version l (stored_list g.type g.physical g.entries) x page) same (r.denotes.is l k.leaf));
      some = h.some;
      fits = r.denotes.fits;
    }

given_next : (s : ChunkColumn) (now : PageIter) (page : DataPageValue) (version : Version) (l : Leaf) (c : OutChunk) (piece : List Slot) (rest : List (List Slot)) → to_give now ≡ later (to_come s) rest
    → HoldsRows (to_come s).options (to_come s).encoding (to_come s).type (to_come s).node (to_come s).physical (to_come s).way (to_come s).entries piece page → GivesColumn s version l c → (ps : List OutPage) → c.pages ≡ ps
    → AllZip (IsPageOf (to_come s).options.write_statistics (to_come s).encoding (to_come s).type (to_come s).physical (to_come s).way (to_come s).entries) (piece ∷ rest) ps → GivesNext GivesColumn version l c (Some (Ok page)) (record s { pages = now })
given_next s now page version l c piece rest b r h [] e z = absurd z
given_next s now page version l c piece rest b r h (o ∷ os) e z =
    let k = h.2 in
    let left : OutChunk = record { entries = c.entries; pages = os; statistics = c.statistics } in (
      o,
      left,
      λ i. record { entries = c.entries; pages = e i; statistics = c.statistics },
      subst (λ (es : Option (List Value)). IsGiven version l es o page) (sym k.entries) (is_given (to_come s) piece o page version l c k z.0 r),
      (
        h.0,
        ap (λ (g : ToGive). g.owes_dictionary) b ∙ h.1,
        subst (λ (g : ToGive). GivesChunk version l left g) (sym b) (record {
          version_is = k.version_is;
          leaf = k.leaf;
          once = k.once;
          entries = k.entries;
          statistics = k.statistics;
          pages = z.1;
        }),
      ),
    )

pub next_given : (s : ChunkColumn) (now : PageIter) (page : DataPageValue) (version : Version) (l : Leaf) (c : OutChunk) → Gives (to_come s) (to_give now) (Some (Ok (Data page))) → GivesColumn s version l c → GivesNext GivesColumn version l c (Some (Ok page)) (record s { pages = now })
next_given s now page version l c h k =
    given_next s now page version l c h.0 h.1 h.4 h.5 k c.pages refl
    (subst (λ (ps : List (List Slot)). AllZip (IsPageOf (to_come s).options.write_statistics (to_come s).encoding (to_come s).type (to_come s).physical (to_come s).way (to_come s).entries) ps c.pages) h.3 k.2.pages)

-- ---- what refuses pages that are left

abbrev past : ToGive → List Slot → Type 0
past g piece = IsPastRoom g.type g.physical (column g.way piece)

abbrev dictionary_past : ToGive → Type 0
dictionary_past g = IsDictionaryPastRoom g.type g.physical g.entries

pub next_refused : (s : ChunkColumn) (now : PageIter) (page : DataPageValue) (e : Error) → Gives (to_come s) (to_give now) (Some (Ok (Data page))) → RefusesColumn (record s { pages = now }) e → RefusesColumn s e
next_refused s now page e h (inl m) = inl m
next_refused s now page e h (inr (v, inl d)) = inr (v, inl (subst dictionary_past h.4 d))
next_refused s now page e h (inr (v, inr r)) =
    inr (v, inr (subst (λ (ps : List (List Slot)). AnyOf (past (to_come s)) ps) (sym h.3) (inr (subst (λ (g : ToGive). AnyOf (past g) g.pieces) h.4 r))))

-- an error is one of the reasons, and behind it there are no others
pub error_refuses : (s : ChunkColumn) (now : PageIter) (e : Error) → Gives (to_come s) (to_give now) (Some (Err e)) → RefusesColumn s e
error_refuses s now e h =
    elim h.1 [
      | inl m ↦ inl m
      | inr v ↦ inr (v.0, elim v.1 [ inl d ↦ inl d | inr r ↦ inr (subst (λ (ps : List (List Slot)). AnyOf (past (to_come s)) ps) (sym r.2) (inl r.3)) ])
    ]

pub failed_later : (s : ChunkColumn) (now : PageIter) (x e : Error) → Gives (to_come s) (to_give now) (Some (Err x)) → RefusesColumn (record { pages = now; has_failed = true }) e → RefusesColumn s e
failed_later s now x e h (inl m) = inl m
failed_later s now x e h (inr (v, inl d)) = inr (v, inl (subst dictionary_past h.0 d))
failed_later s now x e h (inr (v, inr r)) = absurd (subst (λ (g : ToGive). AnyOf (past g) g.pieces) h.0 r)

-- ---- the dictionary page

none_is : (es : Entries) → is_some es ≡ false → es ≡ None
none_is None h = refl
none_is (Some es) h = absurd (true≢false h)

-- the chunk has none where none is to come
pub no_dictionary : (s : ChunkColumn) (version : Version) (l : Leaf) (c : OutChunk) → (to_come s).owes_dictionary ≡ false → BeginsColumn s version l c → IsDictionaryOf l c.entries None × GivesColumn s version l c
no_dictionary s version l c h b =
    let g = to_come s in
    let none : c.entries ≡ None = b.2.entries ∙ ap (stored_list g.type g.physical) (none_is g.entries (sym b.1 ∙ h)) in
    (subst (λ (es : Option (List Value)). IsDictionaryOf l es None) (sym none) refl, (b.0, h, b.2))

pub given_dictionary : (s : ChunkColumn) (now : PageIter) (page : DictPage) (version : Version) (l : Leaf) (c : OutChunk) → Gives (to_come s) (to_give now) (Some (Ok (Dict page))) → BeginsColumn s version l c
    → IsDictionaryOf l c.entries (Some page) × GivesColumn (record s { pages = now }) version l c
given_dictionary s now page version l c h b =
    let g = to_come s in
    let k = b.2 in
    let is : IsDictFor g.physical (map (stored_entry g.type g.physical) h.0) page = h.4.is in
    let stored : c.entries ≡ Some (map (stored_entry g.type g.physical) h.0) = k.entries ∙ ap (stored_list g.type g.physical) h.2 in
    let of : IsDictFor l.physical (map (stored_entry g.type g.physical) h.0) page = subst (λ (p : Physical). IsDictFor p (map (stored_entry g.type g.physical) h.0) page) (sym k.leaf.physical) is in (
      subst (λ (es : Option (List Value)). IsDictionaryOf l es (Some page)) (sym stored) (page, refl, of, omega (arith, is.count, h.4.within), omega (arith, is.within, h.4.within)),
      (
        b.0,
        ap (λ (x : ToGive). x.owes_dictionary) h.3,
        subst (λ (x : ToGive). GivesChunk version l c x) (sym h.3) (record {
          version_is = k.version_is;
          leaf = k.leaf;
          once = k.once;
          entries = k.entries;
          statistics = k.statistics;
          pages = k.pages;
        }),
      ),
    )

pub dictionary_refused : (s : ChunkColumn) (now : PageIter) (page : DictPage) (e : Error) → Gives (to_come s) (to_give now) (Some (Ok (Dict page))) → RefusesColumn (record s { pages = now }) e → RefusesColumn s e
dictionary_refused s now page e h (inl m) = inl m
dictionary_refused s now page e h (inr (v, inl d)) = inr (v, inl (subst dictionary_past h.3 d))
dictionary_refused s now page e h (inr (v, inr r)) = inr (v, inr (subst (λ (g : ToGive). AnyOf (past g) g.pieces) h.3 r))

-- no data page goes with it
pub as_many_left : (s : ChunkColumn) (now : PageIter) (page : DictPage) → Gives (to_come s) (to_give now) (Some (Ok (Dict page))) → left_of (record s { pages = now }) ≤ left_of s
as_many_left s now page h =
    let same : left_of (record s { pages = now }) ≡ left_of s = ap (λ (g : ToGive). left_after s.has_failed (length g.pieces)) h.3 in
    omega (arith, same)

-- ---- all pages are in one encoding

-- the encodings of data pages, as a chunk states them
name_is : (x : Encoding) → encoding_view (encoding_name x) ≡ Some x
name_is plain = refl
name_is dictionary = refl
name_is delta = refl
name_is delta_length = refl

each_so : (b : Bool) (x : Encoding) (t : LeafType) (p : Physical) (w : Way) (es : Entries) (pieces : List (List Slot)) (ps : List OutPage) → AllZip (IsPageOf b x t p w es) pieces ps → Each (λ (o : OutPage). encoding_view (encoding_name x) ≡ Some o.encoding) ps
each_so b x t p w es [] [] h = tt
each_so b x t p w es [] (o ∷ ps) h = absurd h
each_so b x t p w es (q ∷ qs) [] h = absurd h
each_so b x t p w es (q ∷ qs) (o ∷ ps) h = (name_is x ∙ ap (λ (e : Encoding). Some e) (sym h.0.encoding), each_so b x t p w es qs ps h.1)

pub all_so : (b : Bool) (x : Encoding) (t : LeafType) (p : Physical) (w : Way) (es : Entries) (pieces : List (List Slot)) (ps : List OutPage) → AllZip (IsPageOf b x t p w es) pieces ps → All (λ (o : OutPage). encoding_view (encoding_name x) ≡ Some o.encoding) ps
all_so b x t p w es pieces ps h = All-from_recursion (λ (o : OutPage). encoding_view (encoding_name x) ≡ Some o.encoding) ps (each_so b x t p w es pieces ps h)
