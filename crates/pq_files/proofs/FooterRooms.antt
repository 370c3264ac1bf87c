-- The room of a footer doesn't depend on the places that it states.
use Rattle.std.proofs.Common.{◌≡◌, ℕ, suc, ◌+◌, ◌≤◌, pos, Bool, true, false, List, [], ◌∷◌, length, map, All, sym, ap, subst, ◌∙◌, arith}
use Rattle.std.specs.Prelude.{is_some}
use Rattle.std.specs.List.{sum_by}
use Rattle.std.proofs.lemmas.List.Elements.{All-nil, All-cons}
use Rattle.std.proofs.lemmas.List.Sums.{sum_by-cons}
use Rattle.pq_tree.specs.declared.version.Version.{Version}
use Rattle.pq_tree.specs.Tree.{Leaf, columns_of}
use Rattle.pq_files.specs.FooterRecord.{ColumnChunk, RowGroup}
use Rattle.pq_files.specs.FooterRoom.{RoomsArePlanned}
use Rattle.pq_files.specs.Layout.{OutChunk, OutGroup}
use Rattle.pq_files.specs.Packed.{AreChunks, AreGroups}
use Rattle.pq_files.specs.Page.{Encoding, plain, dictionary, delta, delta_length}
use Rattle.pq_files.specs.Room.{chunk_room, group_room, at_start, planned_chunks, planned_group}
use Rattle.pq_files.specs.Written.{encodings_of, encoding_in, chunk_record}

chunks_room : (version : Version) (ls : List Leaf) (cs : List OutChunk) (start : ℕ) (text : List ℕ) (columns : List ColumnChunk) → AreChunks version ls cs start text columns → sum_by chunk_room columns ≡ sum_by chunk_room (planned_chunks ls cs)
chunks_room version [] [] start text columns a = ap (sum_by chunk_room) a.1
chunks_room version [] (c ∷ cs) start text columns a = absurd a
chunks_room version (l ∷ ls) [] start text columns a = absurd a
chunks_room version (l ∷ ls) (c ∷ cs) start text [] a = absurd a
chunks_room version (l ∷ ls) (c ∷ cs) start text (column ∷ columns) a =
    let here : chunk_room column ≡ chunk_room (chunk_record l c at_start) = ap chunk_room a.5 in
    let rest = chunks_room version ls cs (start + length a.0) a.1 columns a.6 in
    sum_by-cons chunk_room column columns ∙ (λ i. here i + rest i) ∙ sym (sum_by-cons chunk_room (chunk_record l c at_start) (planned_chunks ls cs))

groups_room : (version : Version) (ls : List Leaf) (gs : List OutGroup) (i start : ℕ) (text : List ℕ) (row_groups : List RowGroup) → AreGroups version ls gs i start text row_groups → sum_by group_room row_groups ≡ sum_by group_room (map (planned_group ls) gs)
groups_room version ls [] i start text row_groups a = ap (sum_by group_room) a.1
groups_room version ls (g ∷ gs) i start text [] a = absurd a
groups_room version ls (g ∷ gs) i start text (r ∷ row_groups) a =
    let here : group_room r ≡ group_room (planned_group ls g) = ap group_room a.5 ∙ ap (λ (n : ℕ). 64 + n) (chunks_room version ls g.chunks start a.0 a.2 a.4) in
    let rest = groups_room version ls gs (suc i) (start + length a.0) a.1 row_groups a.6 in
    sum_by-cons group_room r row_groups ∙ (λ j. here j + rest j) ∙ sym (sum_by-cons group_room (planned_group ls g) (map (planned_group ls) gs))

-- ---- few encodings

few_encodings : (e : Encoding) (b : Bool) → length (map (λ n. pos n) (encodings_of e b)) ≤ 20
few_encodings plain b = omega arith
few_encodings dictionary true = omega arith
few_encodings dictionary false = omega arith
few_encodings delta true = omega arith
few_encodings delta false = omega arith
few_encodings delta_length true = omega arith
few_encodings delta_length false = omega arith

abbrev IsFew : ColumnChunk → Type 0
IsFew c = length c.meta_data.encodings ≤ 20

chunks_few : (version : Version) (ls : List Leaf) (cs : List OutChunk) (start : ℕ) (text : List ℕ) (columns : List ColumnChunk) → AreChunks version ls cs start text columns → All (λ c. length c.meta_data.encodings ≤ 20) columns
chunks_few version [] [] start text columns a = subst (All IsFew) (sym a.1) (All-nil IsFew)
chunks_few version [] (c ∷ cs) start text columns a = absurd a
chunks_few version (l ∷ ls) [] start text columns a = absurd a
chunks_few version (l ∷ ls) (c ∷ cs) start text [] a = absurd a
chunks_few version (l ∷ ls) (c ∷ cs) start text (column ∷ columns) a =
    All-cons IsFew column columns (subst IsFew (sym a.5) (few_encodings (encoding_in c.pages) (is_some c.entries))) (chunks_few version ls cs (start + length a.0) a.1 columns a.6)

abbrev AreFew : RowGroup → Type 0
AreFew g = All (λ c. length c.meta_data.encodings ≤ 20) g.columns

groups_few : (version : Version) (ls : List Leaf) (gs : List OutGroup) (i start : ℕ) (text : List ℕ) (row_groups : List RowGroup) → AreGroups version ls gs i start text row_groups → All AreFew row_groups
groups_few version ls [] i start text row_groups a = subst (All AreFew) (sym a.1) (All-nil AreFew)
groups_few version ls (g ∷ gs) i start text [] a = absurd a
groups_few version ls (g ∷ gs) i start text (r ∷ row_groups) a =
    All-cons AreFew r row_groups (subst AreFew (sym a.5) (chunks_few version ls g.chunks start a.0 a.2 a.4)) (groups_few version ls gs (suc i) (start + length a.0) a.1 row_groups a.6)

pub rooms_are_planned : RoomsArePlanned
rooms_are_planned tree keys version groups pages row_groups are =
    let groups_are = groups_room version (columns_of tree) groups 0 4 pages row_groups are in (
      omega (arith, groups_are),
      record { author = omega arith; encodings = groups_few version (columns_of tree) groups 0 4 pages row_groups are },
    )
