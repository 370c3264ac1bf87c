-- The pieces of a group, and group after group.
use Rattle.std.proofs.Common.{◌≡◌, ◌+◌, ◌-◌, ◌<◌, ℕ, suc, List, [], ◌∷◌, ◌++◌, length, map, flat_map, Option, refl, sym, ap, subst, ◌∙◌, arith, append_assoc, pos, length-append}
use Rattle.std.proofs.lemmas.List.{map-append, append-nil, length-map}
use Rattle.std.proofs.lemmas.List.Sums.{sum_by-cons}
use Rattle.std.specs.List.{AllZip}
use Rattle.shredding.specs.Cut.{cut}
use Rattle.shredding.specs.Slot.{Slot, Slots, slot_at as row_slot}
use Rattle.columns_core.specs.Tree.{TypeTree, field, FieldTrees, no_fields, more_fields}
use Rattle.columns_slots.specs.Slots.{slots, type_of, tree_len, first_len}
use Rattle.columns_slots.specs.Tree.{ArrayTrees, no_arrays, more_arrays}
use Rattle.pq_metadata.specs.Footer.{ChunkMeta, GroupMeta}
use Rattle.pq_tree.specs.Tree.{Leaf, Schema, columns_of}
use Rattle.pq_files.specs.Carried.{column_in, GroupPages}
use Rattle.pq_files.specs.Layout.{OutGroup}
use Rattle.schema_to_tree.specs.Table.{schema_of}
use Rattle.pq_headline.specs.Columns.{schema_columns}
use Rattle.pq_headline.specs.Lists.{AllZip3}
use Rattle.pq_headline.specs.Opened.{AreOpened, AreItems, AreChunksFrom, AreAssembled, rows_in_chunks}
use Rattle.pq_headline.specs.Arrays.{array_at, rows_of, all_entries, type_in, seen_in}
use Rattle.pq_headline.specs.Openings.{Opening, piece_size}
use Rattle.pq_headline.specs.Output.{IsLaidGroup, all_chosen}
use Rattle.pq_headline.specs.Rewrites.{Asked, Piece, piece_in, all_pieces, IsPieceOut, Converts}
use Rattle.pq_headline.specs.Rows.{AreAllEntries, HoldsRows, Seen, seen_from, field_slots}
use Rattle.pq_headline.specs.Written.{HasRead, IsPieceAs, IsWrittenAs}
use Rattle.pq_headline.specs.Laws.{Steps}
use Rattle.pq_headline.proofs.Cutting.{joined, cut_is}
use Rattle.pq_headline.proofs.Groups.{AreSame, are_same, first_is, first_some, Each, Held, held, long}
use Rattle.pq_headline.proofs.Joined.{zip_append}
use Rattle.pq_headline.proofs.RowsOf.{all_rows, length_rows, field_of, field_of_all}

-- ---- pieces

plus_zero : (k : ℕ) → k + 0 ≡ k
plus_zero k = omega arith

steps : (rows : ℕ) (n : Option ℕ) (before : ℕ) (os : List Opening) (chunks : List ArrayTrees) → 0 < length os → AreSame rows n os → AreChunksFrom before os chunks → before + rows_in_chunks chunks ≡ rows → Steps n (rows - before) (map rows_of chunks)
steps rows n before os [] lt s h e = omega arith
steps rows n before os (cs ∷ chunks) lt s h e =
    let k : length (rows_of cs) ≡ first_len cs = length_rows cs in
    let t : rows_in_chunks (cs ∷ chunks) ≡ first_len cs + rows_in_chunks chunks = sum_by-cons first_len cs chunks in
    let rest : Steps n (rows - (before + first_len cs)) (map rows_of chunks) = steps rows n (before + first_len cs) os chunks lt s h.1 (omega arith) in
    let same : rows - (before + first_len cs) ≡ rows - before - length (rows_of cs) = omega arith in (
      k ∙ first_is rows n before os cs s h.0 lt,
      subst (λ q. 0 < q) (sym k) (first_some before os cs h.0 lt),
      subst (λ q. Steps n q (map rows_of chunks)) same rest,
    )

joined_is : (chunks : List ArrayTrees) → joined (map rows_of chunks) ≡ all_rows chunks
joined_is [] = refl
joined_is (cs ∷ chunks) = ap (λ rs. rows_of cs ++ rs) (joined_is chunks)

less_zero : (k : ℕ) → k - 0 ≡ k
less_zero k = omega arith

pub pieces_are : (rows : ℕ) (n : Option ℕ) (os : List Opening) (chunks : List ArrayTrees) → 0 < length os → AreSame rows n os → AreChunksFrom 0 os chunks → rows_in_chunks chunks ≡ rows → cut (all_rows chunks) n ≡ map rows_of chunks
pieces_are rows n os chunks lt s h e =
    ap (λ rs. cut rs n) (sym (joined_is chunks)) ∙ cut_is n rows (map rows_of chunks) (subst (λ q. Steps n q (map rows_of chunks)) (less_zero rows) (steps rows n 0 os chunks lt s h (omega arith)))

-- ---- what is seen

abbrev AreTypedAs : FieldTrees → ArrayTrees → ℕ → Type 0
AreTypedAs no_fields no_arrays k = Unit {0}
AreTypedAs (more_fields f fs) (more_arrays c cs) k = (type_of c ≡ type_in f) × (tree_len c ≡ k) × AreTypedAs fs cs k
AreTypedAs _ _ k = ⊥

abbrev seen : TypeTree → List Slot → Seen
seen t ss = record { type = t; slots = ss }

typed : (bytes : List ℕ) (place rows : ℕ) (n : Option ℕ) (fs : FieldTrees) (ls : List Leaf) (ms : List ChunkMeta) (os : List Opening) (before k : ℕ) (cs : ArrayTrees) → AreOpened bytes place rows n fs ls ms os → AreItems before os cs → k ≡ piece_size n (rows - before) → AreTypedAs fs cs k
typed bytes place rows n no_fields ls ms [] before k no_arrays o h e = tt
typed bytes place rows n no_fields ls ms [] before k (more_arrays c cs) o h e = absurd h
typed bytes place rows n no_fields ls ms (p ∷ os) before k cs o h e = absurd o
typed bytes place rows n (more_fields f fs) ls ms [] before k cs o h e = absurd o
typed bytes place rows n (more_fields f fs) ls ms (p ∷ os) before k no_arrays o h e = absurd h
typed bytes place rows n (more_fields f fs) ls ms (p ∷ os) before k (more_arrays c cs) o h e = (
  h.0.typed ∙ ap type_in o.6.field,
  h.0.count ∙ ap (λ q. piece_size q (p.rows - before)) o.6.chunk_size_is ∙ ap (λ q. piece_size n (q - before)) o.6.rows_are ∙ sym e,
  typed bytes place rows n fs o.1 o.3 os before k cs o.7 h.1 e,
)

seen_at : (i k : ℕ) (fs : FieldTrees) (cs all : ArrayTrees) → ((j : ℕ) → array_at (i + j) all ≡ array_at j cs) → first_len all ≡ k → AreTypedAs fs cs k → seen_in cs ≡ seen_from i fs (rows_of all)
seen_at i k no_fields no_arrays all g e h = refl
seen_at i k no_fields (more_arrays c cs) all g e h = absurd h
seen_at i k (more_fields f fs) no_arrays all g e h = absurd h
seen_at i k (more_fields (field name t b m) fs) (more_arrays c cs) all g e h =
    let here : array_at i all ≡ c = ap (λ j. array_at j all) (omega arith) ∙ g 0 in
    let own : field_slots i (rows_of all) ≡ slots c = field_of i all (ap tree_len here ∙ h.1 ∙ sym e) ∙ ap slots here in
    let rest : seen_in cs ≡ seen_from (suc i) fs (rows_of all) = seen_at (suc i) k fs cs all (λ j. ap (λ q. array_at q all) (omega arith) ∙ g (suc j)) e h.2 in
    ap (λ (u : TypeTree). seen u (slots c) ∷ seen_in cs) h.0 ∙ ap (λ ss. seen t ss ∷ seen_in cs) (sym own) ∙ ap (λ q. seen t (field_slots i (rows_of all)) ∷ q) rest

pub seen_is : (bytes : List ℕ) (place rows : ℕ) (n : Option ℕ) (fs : FieldTrees) (ls : List Leaf) (ms : List ChunkMeta) (os : List Opening) (before : ℕ) (cs : ArrayTrees) → 0 < length os → AreOpened bytes place rows n fs ls ms os → AreItems before os cs → seen_in cs ≡ seen_from 0 fs (rows_of cs)
seen_is bytes place rows n fs ls ms os before cs lt o h =
    seen_at 0 (first_len cs) fs cs cs (λ j. ap (λ q. array_at q cs) (omega arith)) refl (typed bytes place rows n fs ls ms os before (first_len cs) cs o h (first_is rows n before os cs (are_same bytes place rows n fs ls ms os o) h lt))

all_seen : (bytes : List ℕ) (place rows : ℕ) (n : Option ℕ) (fs : FieldTrees) (ls : List Leaf) (ms : List ChunkMeta) (os : List Opening) (before : ℕ) (chunks : List ArrayTrees) → 0 < length os → AreOpened bytes place rows n fs ls ms os → AreChunksFrom before os chunks → map seen_in chunks ≡ map (seen_from 0 fs) (map rows_of chunks)
all_seen bytes place rows n fs ls ms os before [] lt o h = refl
all_seen bytes place rows n fs ls ms os before (cs ∷ chunks) lt o h =
    ap (λ s. s ∷ map seen_in chunks) (seen_is bytes place rows n fs ls ms os before cs lt o h.0) ∙ ap (λ ss. seen_from 0 fs (rows_of cs) ∷ ss) (all_seen bytes place rows n fs ls ms os (before + first_len cs) chunks lt o h.1)

-- ---- a group that is read

pieces_read : (fs : FieldTrees) (tree : Schema) (g : GroupPages) (chunks : List ArrayTrees) → Each (λ cs. AreAllEntries (schema_columns fs) (columns_of tree) (map column_in g.chunks) (all_entries cs)) chunks → AllZip (IsPieceAs fs tree) (map (piece_in g) (map rows_of chunks)) chunks
pieces_read fs tree g [] d = tt
pieces_read fs tree g (cs ∷ chunks) d = (record { rows_are = refl; entries = d.0 }, pieces_read fs tree g chunks d.1)

map_pieces : (fs : FieldTrees) (g : GroupPages) (rs : List (List Slots)) → map (λ p. seen_from 0 fs p.rows) (map (piece_in g) rs) ≡ map (seen_from 0 fs) rs
map_pieces fs g [] = refl
map_pieces fs g (r ∷ rs) = ap (λ q. seen_from 0 fs r ∷ q) (map_pieces fs g rs)

pub group_of :
    (n : Option ℕ) (fs : FieldTrees) (tree : Schema) (bytes : List ℕ) (place rows : ℕ) (m : GroupMeta) (os : List Opening) (chunks : List ArrayTrees)
    → m.num_rows ≡ pos rows → 0 < length os
    → AreOpened bytes place rows n fs (columns_of tree) m.chunks os → AreChunksFrom 0 os chunks → AreAssembled 0 os chunks → rows_in_chunks chunks ≡ rows
    → HasRead n fs tree bytes place (m ∷ []) chunks
group_of n fs tree bytes place rows m os chunks e lt o c a total =
    let h : Held fs bytes place rows (columns_of tree) m chunks = held bytes place rows n fs (columns_of tree) m os chunks e lt o c a in
    let g : GroupPages = record { rows = rows; chunks = h.gots } in
    let cuts : cut (all_rows chunks) n ≡ map rows_of chunks = pieces_are rows n os chunks lt (are_same bytes place rows n fs (columns_of tree) m.chunks os o) c total in
    let same : map (piece_in g) (map rows_of chunks) ≡ all_pieces n (g ∷ []) (all_rows chunks ∷ []) = ap (map (piece_in g)) (sym cuts) ∙ sym (append-nil (map (piece_in g) (cut (all_rows chunks) n))) in
    record {
      groups = g ∷ [];
      rows = all_rows chunks ∷ [];
      hold = (h.holds, tt);
      pieces = subst (λ (ps : List Piece). AllZip (IsPieceAs fs tree) ps chunks) same (pieces_read fs tree g chunks h.entries);
      shows =
          all_seen bytes place rows n fs (columns_of tree) m.chunks os 0 chunks lt o c
          ∙ sym (map_pieces fs g (map rows_of chunks))
          ∙ ap (map (λ p. seen_from 0 fs p.rows)) same;
    }

-- ---- group after group

pub zip_more : {A B : Type 0} (R : A → B → Type 0) (xs xs' : List A) (ys ys' : List B) → AllZip R xs ys → AllZip R xs' ys' → AllZip R (xs ++ xs') (ys ++ ys')
zip_more R [] xs' [] ys' p q = q
zip_more R [] xs' (y ∷ ys) ys' p q = absurd p
zip_more R (x ∷ xs) xs' [] ys' p q = absurd p
zip_more R (x ∷ xs) xs' (y ∷ ys) ys' p q = (p.0, zip_more R xs xs' ys ys' p.1 q)

all_more : (n : Option ℕ) (R : GroupMeta → GroupPages → List Slots → Type 0) (ms : List GroupMeta) (gs hs : List GroupPages) (rs ts : List (List Slots)) → AllZip3 R ms gs rs → all_pieces n (gs ++ hs) (rs ++ ts) ≡ all_pieces n gs rs ++ all_pieces n hs ts
all_more n R [] [] hs [] ts h = refl
all_more n R [] [] hs (r ∷ rs) ts h = absurd h
all_more n R [] (g ∷ gs) hs rs ts h = absurd h
all_more n R (m ∷ ms) [] hs rs ts h = absurd h
all_more n R (m ∷ ms) (g ∷ gs) hs [] ts h = absurd h
all_more n R (m ∷ ms) (g ∷ gs) hs (r ∷ rs) ts h =
    ap (λ q. map (piece_in g) (cut r n) ++ q) (all_more n R ms gs hs rs ts h.1) ∙ sym (append_assoc (map (piece_in g) (cut r n)) (all_pieces n gs rs) (all_pieces n hs ts))

pub read_none : (n : Option ℕ) (fs : FieldTrees) (tree : Schema) (bytes : List ℕ) (place : ℕ) → HasRead n fs tree bytes place [] []
read_none n fs tree bytes place = record { groups = []; rows = []; hold = tt; pieces = tt; shows = refl }

pub read_more :
    (n : Option ℕ) (fs : FieldTrees) (tree : Schema) (bytes : List ℕ) (place : ℕ) (ms others : List GroupMeta) (chunks next : List ArrayTrees)
    → HasRead n fs tree bytes place ms chunks → HasRead n fs tree bytes place others next → HasRead n fs tree bytes place (ms ++ others) (chunks ++ next)
read_more n fs tree bytes place ms others chunks next c g =
    let e : all_pieces n c.groups c.rows ++ all_pieces n g.groups g.rows ≡ all_pieces n (c.groups ++ g.groups) (c.rows ++ g.rows) =
    sym (all_more n (HoldsRows fs bytes place (columns_of tree)) ms c.groups g.groups c.rows g.rows c.hold) in
    record {
      groups = c.groups ++ g.groups;
      rows = c.rows ++ g.rows;
      hold = zip_append (HoldsRows fs bytes place (columns_of tree)) ms others c.groups g.groups c.rows g.rows c.hold g.hold;
      pieces = subst (λ (ps : List Piece). AllZip (IsPieceAs fs tree) ps (chunks ++ next)) e (zip_more (IsPieceAs fs tree) (all_pieces n c.groups c.rows) (all_pieces n g.groups g.rows) chunks next c.pieces g.pieces);
      shows =
          map-append seen_in chunks next
          ∙ ap (λ q. q ++ map seen_in next) c.shows
          ∙ ap (λ q. map (λ p. seen_from 0 fs p.rows) (all_pieces n c.groups c.rows) ++ q) g.shows
          ∙ sym (map-append (λ p. seen_from 0 fs p.rows) (all_pieces n c.groups c.rows) (all_pieces n g.groups g.rows))
          ∙ ap (map (λ p. seen_from 0 fs p.rows)) e;
    }

-- ---- what is written of it

pub piece_out : (asked : Asked) (fs : FieldTrees) (tree : Schema) (p : Piece) (cs : ArrayTrees) (out : OutGroup) → IsPieceAs fs tree p cs → IsWrittenAs asked fs cs out → IsPieceOut asked fs tree p out
piece_out asked fs tree p cs out h w = record {
  entries = all_entries cs;
  of_source = h.entries;
  laid = subst (λ (rs : List Slots). IsLaidGroup asked.style rs (schema_columns fs) (columns_of (schema_of fs)) (all_chosen asked.delta (schema_columns fs) (columns_of (schema_of fs))) (all_entries cs) out) (sym h.rows_are) w;
}

pub pieces_out : (asked : Asked) (fs : FieldTrees) (tree : Schema) (ps : List Piece) (chunks : List ArrayTrees) (outs : List OutGroup) → AllZip (IsPieceAs fs tree) ps chunks → AllZip (IsWrittenAs asked fs) chunks outs → AllZip (IsPieceOut asked fs tree) ps outs
pieces_out asked fs tree [] [] [] h w = tt
pieces_out asked fs tree [] [] (out ∷ outs) h w = absurd w
pieces_out asked fs tree [] (cs ∷ chunks) outs h w = absurd h
pieces_out asked fs tree (p ∷ ps) [] outs h w = absurd h
pieces_out asked fs tree (p ∷ ps) (cs ∷ chunks) [] h w = absurd w
pieces_out asked fs tree (p ∷ ps) (cs ∷ chunks) (out ∷ outs) h w = (piece_out asked fs tree p cs out h.0 w.0, pieces_out asked fs tree ps chunks outs h.1 w.1)

pub converted :
    (asked : Asked) (fs : FieldTrees) (tree : Schema) (bytes : List ℕ) (place : ℕ) (ms : List GroupMeta) (chunks : List ArrayTrees) (outs : List OutGroup)
    → HasRead asked.chunk_size fs tree bytes place ms chunks → AllZip (IsWrittenAs asked fs) chunks outs → Converts asked fs tree bytes place ms outs (map seen_in chunks)
converted asked fs tree bytes place ms chunks outs h w = record {
  groups = h.groups;
  rows = h.rows;
  hold = h.hold;
  pieces = pieces_out asked fs tree (all_pieces asked.chunk_size h.groups h.rows) chunks outs h.pieces w;
  shows = h.shows;
}

pub converts_none : (asked : Asked) (fs : FieldTrees) (tree : Schema) (bytes : List ℕ) (place : ℕ) → Converts asked fs tree bytes place [] [] []
converts_none asked fs tree bytes place = record { groups = []; rows = []; hold = tt; pieces = tt; shows = refl }

-- ---- chunk after chunk

pub chunks_on : (before : ℕ) (os : List Opening) (chunks : List ArrayTrees) (cs : ArrayTrees) → AreChunksFrom before os chunks → AreItems (before + rows_in_chunks chunks) os cs → AreChunksFrom before os (chunks ++ cs ∷ [])
chunks_on before os [] cs h i = (subst (λ k. AreItems k os cs) (plus_zero before) i, tt)
chunks_on before os (c ∷ chunks) cs h i =
    let t : rows_in_chunks (c ∷ chunks) ≡ first_len c + rows_in_chunks chunks = sum_by-cons first_len c chunks in
    let e : before + rows_in_chunks (c ∷ chunks) ≡ before + first_len c + rows_in_chunks chunks = omega arith in
    (h.0, chunks_on (before + first_len c) os chunks cs h.1 (subst (λ k. AreItems k os cs) e i))

length_all : (chunks : List ArrayTrees) → length (all_rows chunks) ≡ rows_in_chunks chunks
length_all [] = refl
length_all (cs ∷ chunks) = length-append (rows_of cs) (all_rows chunks) ∙ omega (arith, length_rows cs, length_all chunks, sum_by-cons first_len cs chunks)

pub arrays_count : (rows : ℕ) (n : Option ℕ) (os : List Opening) (chunks : List ArrayTrees) (j : ℕ) → AreSame rows n os → AreChunksFrom 0 os chunks → j < length os → length (flat_map slots (map (array_at j) chunks)) ≡ rows_in_chunks chunks
arrays_count rows n os chunks j s h lt =
    ap length (sym (field_of_all j chunks (long rows n 0 os chunks j s h lt))) ∙ length-map (all_rows chunks) (λ row. row_slot row j) ∙ length_all chunks
