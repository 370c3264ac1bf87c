-- The fields of a group are opened one after another.
use Rattle.std.proofs.Common.{◌≡◌, ◌⊎◌, inl, inr, ◌+◌, ◌<◌, ◌≤◌, ℕ, zero, suc, ℤ, pos, List, [], ◌∷◌, ◌++◌, length, map, take, drop, get_or, All, Option, Some, None, option_map, ◌≤ℤ◌, ◌<ℤ◌, Vec, refl, sym, ap, subst, ◌∙◌, arith, append_assoc, length-append}
use Rattle.std.specs.Global.{Global}
use Rattle.std.specs.List.{AllZip}
use Rattle.std.specs.Prelude.{IfSome}
use Rattle.std.proofs.lemmas.List.{map-append, take_all}
use Rattle.std.proofs.lemmas.List.Elements.{All-append, All-from_recursion}
use Rattle.std.proofs.lemmas.Bool.{and_parts}
use Rattle.std.proofs.lemmas.Int.{ints}
use Rattle.columns_base.specs.declared.error.Error.{Error}
use Rattle.columns_base.specs.declared.error.Error.TheVariants.{Memory, OutOfSpec, NotYetImplemented}
use Rattle.columns_base.specs.declared.error.S.TheVariants.{S3}
use Rattle.columns_base.specs.declared.error.N.TheVariants.{N4}
use Rattle.columns_core.specs.Tree.{FieldTree, FieldTrees, more_fields}
use Rattle.pq_metadata.specs.Footer.{ChunkMeta}
use Rattle.pq_tree.specs.Columns.{Column, column_of}
use Rattle.pq_tree.specs.Described.{AreDescribed, descriptor_view, column_view}
use Rattle.pq_tree.specs.Tree.{Leaf}
use Rattle.pq_tree.specs.Views.{chunk_view, physical_view, natural_part}
use Rattle.pq_tree.specs.declared.types.ColumnChunkMetaData.{ColumnChunkMetaData}
use Rattle.pq_tree.specs.declared.types.Descriptor.{Descriptor}
use Rattle.pq_tree.specs.declared.types.Encoding.{Encoding}
use Rattle.pq_tree.specs.declared.types.PrimitiveType.{PrimitiveType}
use Rattle.pq_files.specs.Reasons.{IsNegative, LiesOutside}
use Rattle.pq_numbers.specs.Texts.{IsAt}
use Rattle.pq_pages.specs.Opened.{OpensChunk, RefusesChunk}
use Rattle.pq_pages.specs.Outcomes.{Levels, Outcome, gives_page, gives_dictionary, fails, levels_in, HasLevels}
use Rattle.pq_pages.specs.ReadsChunk.{ReadsChunk}
use Rattle.pq_pages.specs.Sources.{Source}
use Rattle.pq_headline.specs.Laws.{LeavesAreAsMany}
use Rattle.pq_headline.specs.Lists.{AllZip3}
use Rattle.pq_headline.specs.Opened.{ChunkIsPlaced, OpensField, Reads, AreOpened}
use Rattle.pq_headline.specs.Openings.{Opening, leaf_levels}
use Rattle.pq_headline.specs.Served.{is_served_field, are_served_fields}
use Rattle.pq_headline.specs.Stages.{AreAllAlike}
use Rattle.read_pieces.specs.Columns.{FailsAs}
use Rattle.assembly.specs.Giving.{FieldReading, IsGiving}
use Rattle.rewrite_whole.specs.Groups.{AreGiving, AreSame}
use Rattle.rewrite_whole.specs.Opening.{AtField, IsChunkOf, IsFieldOf, OpensColumns, OpensOne}

-- ---- one chunk

pos_is : {m n : ℕ} → ◌≡◌ {A = ℤ} (pos m) (pos n) → m ≡ n
pos_is e = cc

some_is : {A : Type 0} {a b : A} → ◌≡◌ {A = Option A} (Some a) (Some b) → a ≡ b
some_is e = cc

levels_of : Column → Levels
levels_of k = record { repetition = natural_part k.max_repetition; definition = natural_part k.max_definition }

-- a descriptor that is the leaf's has its levels
levels_are : (d : Descriptor) (l : Leaf) → column_view d ≡ column_of l → levels_in d ≡ leaf_levels l
unfolding levels_of
levels_are d l e = ap levels_of e

fails_as : (os : List Outcome) → All (λ o. (e : Error) → o ≡ fails e → (e ≡ OutOfSpec S3) ⊎ (e ≡ NotYetImplemented N4)) os → All FailsAs os
fails_as os h = λ k d lt. of (get_or os k d) (h k d lt)
  where
    of : (o : Outcome) → ((e : Error) → o ≡ fails e → (e ≡ OutOfSpec S3) ⊎ (e ≡ NotYetImplemented N4)) → FailsAs o
    of (gives_page p levels) f = tt
    of (gives_dictionary n body) f = tt
    of (fails e) f = f e refl

-- the descriptor of a chunk of a leaf
of_leaf : (c : ColumnChunkMetaData) (d : Descriptor) (l : Leaf) → c.descriptor ≡ Some d → descriptor_view c ≡ Some (column_of l) → column_view d ≡ column_of l
of_leaf c d l e h = some_is (sym (ap (option_map column_view) e) ∙ h)

pub has_levels : (o : Option Descriptor) (l : Leaf) → option_map column_view o ≡ Some (column_of l) → IfSome o HasLevels
has_levels None l e = tt
has_levels (Some d) l e =
    let k : column_view d ≡ column_of l = some_is e in
    record {
      definition = subst (λ (z : ℤ). pos 0 ≤ℤ z) (sym (ap (λ (c : Column). c.max_definition) k)) (omega (arith, ints));
      repetition = subst (λ (z : ℤ). pos 0 ≤ℤ z) (sym (ap (λ (c : Column). c.max_repetition) k)) (omega (arith, ints));
    }

-- ---- no reason of a chunk in its place

not_negative : (z : ℤ) (n : ℕ) → z ≡ pos n → IsNegative z → ⊥
not_negative z n e h = below n (subst (λ (y : ℤ). y <ℤ pos 0) e h)
  where
    below : (n : ℕ) → pos n <ℤ pos 0 → ⊥
    below n h = omega (arith, ints, h)

not_outside : (size place : ℕ) (m : ChunkMeta) (l : Leaf) → place ≤ size → ChunkIsPlaced place m l → LiesOutside size m → ⊥
not_outside size place m l le a (inl low) = below a.start a.behind_magic (subst (λ (z : ℤ). z <ℤ pos 4) a.starts low)
  where
    below : (n : ℕ) → 4 ≤ n → pos n <ℤ pos 4 → ⊥
    below n h k = omega (arith, ints, h, k)
not_outside size place m l le a (inr h) =
    let start : a.start ≡ h.0 = pos_is (sym a.starts ∙ h.2) in
    let long : a.size ≡ h.1 = pos_is (sym a.has_size ∙ h.3) in
    omega (arith, a.before_footer, h.4, start, long, le)

pub only_memory : (size place : ℕ) (c : ColumnChunkMetaData) (l : Leaf) (e : Error) → place ≤ size → IsChunkOf place c l → RefusesChunk size c e → e ≡ Memory
only_memory size place c l e le a (inl m) = m
only_memory size place c l e le a (inr (inl (s, inl none))) = absurd (never (sym a.described ∙ ap (option_map column_view) none))
  where
    never : Some (column_of l) ≡ None → ⊥
    never q = cc
only_memory size place c l e le a (inr (inl (s, inr (inl n)))) = absurd (not_negative c.num_values a.placed.num_values a.placed.has_num_values n)
only_memory size place c l e le a (inr (inl (s, inr (inr (inl n))))) = absurd (not_negative c.total_compressed_size a.placed.size a.placed.has_size n)
only_memory size place c l e le a (inr (inl (s, inr (inr (inr o))))) = absurd (not_outside size place (chunk_view c) l le a.placed o)
only_memory size place c l e le a (inr (inr (inl n))) = absurd (n.1 a.placed.codec)
only_memory size place c l e le a (inr (inr (inr n))) = absurd (n.1 a.placed.here)

-- what is opened of it
pub opens_one : (bytes : List ℕ) (place max : ℕ) (c : ColumnChunkMetaData) (l : Leaf) (r : Source) → IsChunkOf place c l → c.total_compressed_size ≡ pos max → OpensChunk bytes c max r → OpensOne bytes place (chunk_view c) l r.outcomes
opens_one bytes place max c l r a m o =
    let levels : levels_in o.column ≡ leaf_levels l = levels_are o.column l (of_leaf c o.column l o.is_column a.described) in
    let n : o.n ≡ a.placed.num_values = pos_is (sym o.placed.values ∙ a.placed.has_num_values) in
    let start : o.placed.start ≡ a.placed.start = pos_is (sym o.placed.starts ∙ a.placed.starts) in
    let size : o.placed.size ≡ a.placed.size = pos_is (sym o.placed.has_size ∙ a.placed.has_size) in
    let most : max ≡ a.placed.size = pos_is (sym m ∙ a.placed.has_size) in
    let reads : ReadsChunk a.placed.size (leaf_levels l) a.placed.num_values o.text r.outcomes =
    subst (λ (k : ℕ). ReadsChunk k (leaf_levels l) a.placed.num_values o.text r.outcomes) most
    (subst (λ (k : ℕ). ReadsChunk max (leaf_levels l) k o.text r.outcomes) n (subst (λ (v : Levels). ReadsChunk max v o.n o.text r.outcomes) levels o.reads)) in
    record {
      read = record {
        placed = a.placed;
        text = o.text;
        is_there = subst (λ (k : ℕ). IsAt bytes k a.placed.size o.text) start (subst (λ (k : ℕ). IsAt bytes o.placed.start k o.text) size o.placed.is_there);
        reads = reads;
      };
      levels = reads.of_levels;
      failing = fails_as r.outcomes reads.no_other;
    }

-- ---- chunk after chunk

pub leaf_at : (place : ℕ) (cs : List ColumnChunkMetaData) (ls : List Leaf) (i : ℕ) (c : ColumnChunkMetaData) → AllZip (IsChunkOf place) cs ls → i < length cs → c ≡ get_or cs i c → (l : Leaf) × IsChunkOf place c l × (take (i + 1) ls ≡ take i ls ++ l ∷ [])
leaf_at place [] ls i c a lt e = absurd (omega arith)
leaf_at place (d ∷ cs) [] i c a lt e = absurd a
leaf_at place (d ∷ cs) (l ∷ ls) zero c a lt e = (l, subst (λ k. IsChunkOf place k l) (sym e) a.0, refl)
leaf_at place (d ∷ cs) (l ∷ ls) (suc i) c a lt e =
    let r = leaf_at place cs ls i c a.1 (omega arith) e in
    let k : suc i + 1 ≡ suc (i + 1) = omega arith in
    (r.0, r.1, ap (λ n. take n (l ∷ ls)) k ∙ ap (λ q. l ∷ q) r.2)

zip3_more : {A B C : Type 0} (R : A → B → C → Type 0) (xs : List A) (ys : List B) (zs : List C) (x : A) (y : B) (z : C) → AllZip3 R xs ys zs → R x y z → AllZip3 R (xs ++ x ∷ []) (ys ++ y ∷ []) (zs ++ z ∷ [])
zip3_more R [] [] [] x y z h r = (r, tt)
zip3_more R [] [] (c ∷ zs) x y z h r = absurd h
zip3_more R [] (b ∷ ys) zs x y z h r = absurd h
zip3_more R (a ∷ xs) [] zs x y z h r = absurd h
zip3_more R (a ∷ xs) (b ∷ ys) [] x y z h r = absurd h
zip3_more R (a ∷ xs) (b ∷ ys) (c ∷ zs) x y z h r = (h.0, zip3_more R xs ys zs x y z h.1 r)

zip_more : {A B : Type 0} (R : A → B → Type 0) (xs : List A) (ys : List B) (x : A) (y : B) → AllZip R xs ys → R x y → AllZip R (xs ++ x ∷ []) (ys ++ y ∷ [])
zip_more R [] [] x y h r = (r, tt)
zip_more R [] (b ∷ ys) x y h r = absurd h
zip_more R (a ∷ xs) [] x y h r = absurd h
zip_more R (a ∷ xs) (b ∷ ys) x y h r = (h.0, zip_more R xs ys x y h.1 r)

pub opens_more :
    (bytes : List ℕ) (place : ℕ) (ms : List ChunkMeta) (ls : List Leaf) (outcomes : List (List Outcome)) (types : List PrimitiveType) (m : ChunkMeta) (l : Leaf) (os : List Outcome) (t : PrimitiveType)
    → OpensColumns bytes place ms ls outcomes types → OpensOne bytes place m l os → l.physical ≡ physical_view t.physical_type
    → OpensColumns bytes place (ms ++ m ∷ []) (ls ++ l ∷ []) (outcomes ++ os ∷ []) (types ++ t ∷ [])
opens_more bytes place ms ls outcomes types m l os t h o p = record {
  read = zip3_more (Reads bytes place) ms ls outcomes m l os h.read o.read;
  levels = zip_more _ ls outcomes l os h.levels o.levels;
  failing = All-append (All FailsAs) outcomes (os ∷ []) h.failing (All-from_recursion (All FailsAs) (os ∷ []) (o.failing, tt));
  physicals =
      map-append (λ (k : Leaf). k.physical) ls (l ∷ [])
      ∙ ap (λ q. q ++ l.physical ∷ []) h.physicals
      ∙ ap (λ q. map (λ (k : PrimitiveType). physical_view k.physical_type) types ++ q ∷ []) p
      ∙ sym (map-append (λ (k : PrimitiveType). physical_view k.physical_type) types (t ∷ []));
}

-- ---- field after field

pub counted : (place : ℕ) (cs : List ColumnChunkMetaData) (ls : List Leaf) → AllZip (IsChunkOf place) cs ls → length cs ≡ length ls
counted place [] [] h = refl
counted place [] (l ∷ ls) h = absurd h
counted place (c ∷ cs) [] h = absurd h
counted place (c ∷ cs) (l ∷ ls) h = omega (arith, counted place cs ls h.1)

split_zip : (place : ℕ) (cs : List ColumnChunkMetaData) (mine others : List Leaf) → AllZip (IsChunkOf place) cs (mine ++ others) → AllZip (IsChunkOf place) (take (length mine) cs) mine × AllZip (IsChunkOf place) (drop (length mine) cs) others
split_zip place cs [] others h = (tt, h)
split_zip place [] (l ∷ mine) others h = absurd h
split_zip place (c ∷ cs) (l ∷ mine) others h = let r = split_zip place cs mine others h.1 in ((h.0, r.0), r.1)

parts_are : {A : Type 0} (n : ℕ) (xs : List A) → take n xs ++ drop n xs ≡ xs
parts_are zero xs = refl
parts_are (suc n) [] = refl
parts_are (suc n) (x ∷ xs) = ap (λ q. x ∷ q) (parts_are n xs)

-- the next field, with its chunks
pub record Next (place : ℕ) (f : FieldTree) (chunks : List ColumnChunkMetaData) (mine : List Leaf) (count : ℕ) : Type 0 where
  pub as_many : count ≡ length mine
  pub is : IsFieldOf place f (take count chunks) mine
  pub within : count ≤ length chunks

giving_more : (i : ℕ) (os : List Opening) (its : List FieldReading) (o : Opening) (it : FieldReading) → AreGiving i os its [] → IsGiving o [] it → AreGiving i (os ++ o ∷ []) (its ++ it ∷ []) []
giving_more i [] [] o it h g = (g, tt)
giving_more i [] (b ∷ its) o it h g = absurd h
giving_more i (a ∷ os) [] o it h g = absurd h
giving_more i (a ∷ os) (b ∷ its) o it h g = (h.0, giving_more (suc i) os its o it h.1 g)

same_more : (rows : ℕ) (n : Option ℕ) (os : List Opening) (o : Opening) → AreSame rows n os → o.rows ≡ rows → o.chunk_size ≡ n → AreSame rows n (os ++ o ∷ [])
same_more rows n [] o h r c = (r, c, tt)
same_more rows n (a ∷ os) o h r c = (h.0, h.1, same_more rows n os o h.2 r c)

module _ (bytes : List ℕ) (place rows : ℕ) (n : Option ℕ) (fs : FieldTrees) (ls : List Leaf) (ms : List ChunkMeta) where
  pub next_is : (f : FieldTree) (gs : FieldTrees) (others : List Leaf) (chunks : List ColumnChunkMetaData) (es : Vec Encoding Global) (encodings : List (Vec Encoding Global)) (its : List FieldReading)
      → LeavesAreAsMany → (a : AtField bytes place rows n fs ls ms (more_fields f gs) others chunks (es ∷ encodings) its) → Next place f chunks a.alike.0 (length es.items)
  next_is f gs others chunks es encodings its law a =
      let ss = and_parts (is_served_field f) (are_served_fields gs) a.served in
      let many : length es.items ≡ length a.alike.0 =
      a.encodings_are.0 ∙ sym (law f a.alike.0 a.held.0 a.held.1 a.alike.3) in
      let z = split_zip place chunks a.alike.0 a.alike.1 (subst (λ (k : List Leaf). AllZip (IsChunkOf place) chunks k) a.alike.2 a.chunks_are) in
      let long : length chunks ≡ length a.alike.0 + length a.alike.1 = counted place chunks others a.chunks_are ∙ ap length a.alike.2 ∙ length-append a.alike.0 a.alike.1 in
      record {
        as_many = many;
        is = record { chunks_are = subst (λ k. AllZip (IsChunkOf place) (take k chunks) a.alike.0) (sym many) z.0; alike = a.alike.3; served = ss.0; nesting = omega (arith, a.nesting) };
        within = omega (arith, many, long);
      }

  pub field_on : (f : FieldTree) (gs : FieldTrees) (others : List Leaf) (chunks : List ColumnChunkMetaData) (es : Vec Encoding Global) (encodings : List (Vec Encoding Global)) (its : List FieldReading) (it : FieldReading) (o : Opening)
      → (a : AtField bytes place rows n fs ls ms (more_fields f gs) others chunks (es ∷ encodings) its) → (length es.items ≡ length a.alike.0)
      → OpensField bytes place rows n f a.alike.0 (map chunk_view (take (length es.items) chunks)) o → IsGiving o [] it
      → AtField bytes place rows n fs ls ms gs (drop (length es.items) others) (drop (length es.items) chunks) encodings (its ++ it ∷ [])
  field_on f gs others chunks es encodings its it o a many op g =
      let ss = and_parts (is_served_field f) (are_served_fields gs) a.served in
      let k : ℕ = length es.items in
      let rest : drop k others ≡ a.alike.1 = ap (λ q. drop q others) many ∙ ap (drop (length a.alike.0)) a.alike.2 ∙ drop_front a.alike.0 a.alike.1 in
      let z = split_zip place chunks a.alike.0 a.alike.1 (subst (λ (q : List Leaf). AllZip (IsChunkOf place) chunks q) a.alike.2 a.chunks_are) in
      record {
        openings = a.openings ++ o ∷ [];
        opened = λ more h.
            subst (AreOpened bytes place rows n fs ls ms) (sym (append_assoc a.openings (o ∷ []) more))
            (a.opened (o ∷ more) (
              a.alike.0,
              drop k others,
              map chunk_view (take k chunks),
              map chunk_view (drop k chunks),
              a.alike.2 ∙ ap (λ q. a.alike.0 ++ q) (sym rest),
              ap (map chunk_view) (sym (parts_are k chunks)) ∙ map-append chunk_view (take k chunks) (drop k chunks),
              op,
              h,
            ));
        giving = giving_more 0 a.openings its o it a.giving g;
        same = same_more rows n a.openings o a.same op.rows_are op.chunk_size_is;
        alike = subst (AreAllAlike gs) (sym rest) a.alike.4;
        chunks_are = subst (λ q. AllZip (IsChunkOf place) (drop k chunks) q) (sym rest) (subst (λ q. AllZip (IsChunkOf place) (drop q chunks) a.alike.1) (sym many) z.1);
        held = a.held.2;
        served = ss.1;
        nesting = omega (arith, a.nesting);
        encodings_are = a.encodings_are.1;
      }
    where
      drop_front : (xs ys : List Leaf) → drop (length xs) (xs ++ ys) ≡ ys
      drop_front [] ys = refl
      drop_front (x ∷ xs) ys = drop_front xs ys

-- ---- the whole loop

pub opened_on :
    (bytes : List ℕ) (place : ℕ) (ms ms' : List ChunkMeta) (ls ls' : List Leaf) (os os' : List (List Outcome)) (ts ts' : List PrimitiveType)
    → ms' ≡ ms → ls' ≡ ls → os' ≡ os → ts' ≡ ts → OpensColumns bytes place ms ls os ts → OpensColumns bytes place ms' ls' os' ts'
opened_on bytes place ms ms' ls ls' os os' ts ts' a b c d h =
    subst (λ q. OpensColumns bytes place q ls' os' ts') (sym a) (subst (λ q. OpensColumns bytes place ms q os' ts') (sym b) (subst (λ q. OpensColumns bytes place ms ls q ts') (sym c) (subst (λ q. OpensColumns bytes place ms ls os q) (sym d) h)))

-- the chunks of a group, each with its leaf
pub chunks_of : (place : ℕ) (cs : List ColumnChunkMetaData) (ls : List Leaf) → AllZip (ChunkIsPlaced place) (map chunk_view cs) ls → AreDescribed (map column_of ls) cs → AllZip (IsChunkOf place) cs ls
chunks_of place [] [] h d = tt
chunks_of place [] (l ∷ ls) h d = absurd h
chunks_of place (c ∷ cs) [] h d = absurd h
chunks_of place (c ∷ cs) (l ∷ ls) h d = (record { placed = h.0; described = some_is (d 0 (omega arith)) }, chunks_of place cs ls h.1 (λ k lt. d (suc k) (omega (arith, lt))))

pub encodings_on : (xs : List (Vec Encoding Global)) (i : ℕ) (x : Vec Encoding Global) → i < length xs → x ≡ get_or xs i x → drop i xs ≡ x ∷ drop (i + 1) xs
encodings_on [] i x lt e = absurd (omega arith)
encodings_on (y ∷ xs) zero x lt e = ap (λ (z : Vec Encoding Global). z ∷ xs) (sym e)
encodings_on (y ∷ xs) (suc i) x lt e = let k : suc i + 1 ≡ suc (i + 1) = omega arith in encodings_on xs i x (omega arith) e ∙ ap (λ n. x ∷ drop n (y ∷ xs)) (sym k)

pub take_back : {A : Type 0} (n : ℕ) (xs : List A) → length xs ≤ n → xs ≡ take n xs
take_back n xs le = sym (take_all n xs le)
