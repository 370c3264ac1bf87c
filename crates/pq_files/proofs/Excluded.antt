-- Where a reason stands, nothing is carried.
use Rattle.std.proofs.Common.{◌≡◌, ◌≢◌, ◌⊎◌, ℕ, ◌+◌, ◌≤◌, ℤ, pos, List, [], ◌∷◌, length, map, Option, Some, None, nat_eq, cond, refl, sym, ap, subst, ◌∙◌, inl, inr, arith}
use Rattle.std.specs.Prelude.{◌<ℤ◌, count_by, filter_map}
use Rattle.std.specs.List.{AllZip}
use Rattle.std.proofs.lemmas.Int.{ints}
use Rattle.std.proofs.lemmas.List.{length-map}
use Rattle.std.proofs.lemmas.List.Sums.{sum_by-cons}
use Rattle.std.proofs.lemmas.List.Elements.{All-from_recursion}
use Rattle.pq_numbers.specs.Texts.{Begins}
use Rattle.shredding.specs.Shred.{Triple}
use Rattle.shredding.specs.Slot.{Value}
use Rattle.pq_metadata.specs.Footer.{ChunkMeta, GroupMeta, Key, Footer}
use Rattle.pq_metadata.specs.Frame.{IsFramed}
use Rattle.pq_metadata.specs.Header.{Header, data_page, data_page_2, dictionary_page}
use Rattle.pq_tree.specs.Tree.{Leaf, Schema, columns_of, max_definition, max_repetition}
use Rattle.pq_metadata.proofs.Injective.{pos_same}
use Rattle.pq_metadata.specs.Metadata.{IsFooterText}
use Rattle.pq_files.specs.Carried.{IsChunkOf, AreChunks, IsGroup, GroupPages, Group, Carried}
use Rattle.pq_files.specs.Chunk.{Chunk, RawPage, IsDictionary, count_in}
use Rattle.pq_files.specs.Excluded.{Excludes, IsNoPage, ReasonsExclude}
use Rattle.pq_files.specs.Levels.{HasLevels}
use Rattle.pq_files.specs.Page.{Encoding, plain, dictionary, delta, delta_length, HasEncoding, LevelsAreRuns, IsCounted, IsSpelled, IsPage, rows_in}
use Rattle.pq_files.specs.PageReasons.{IsRead, N4Page, ShowsPairs, HasPairs, S4, S6, called_by}
use Rattle.pq_files.specs.Reasons.{AnyOf, AnyZip, IsNegative, LiesOutside, ChunkIsBad, GroupIsBad, S2, N1, N3}
use Rattle.pq_files.specs.RowReasons.{CountsOtherwise, without_value}
use Rattle.pq_files.proofs.CarriedOnce.{frame_same, record_same}
use Rattle.pq_files.proofs.NearFiles.{none_carried}
use Rattle.pq_files.proofs.PageOnce.{encoding_same}
use Rattle.pq_files.proofs.Triples.{IsPresent, count_present}
use Rattle.pq_files.proofs.Unique.{Every, every, split_same, levels_same}

-- ---- the footer

-- the groups that it tells of, as those of a carried file
record Told (bytes : List ℕ) (place : ℕ) (f : Footer) : Type 0 where
  pub groups : List GroupPages
  pub are : AllZip (λ m g. IsGroup bytes place (columns_of f.schema) m g.rows g.chunks) f.groups groups

told : (bytes : List ℕ) (place : ℕ) (footer : List ℕ) (f : Footer) → IsFramed bytes place footer → Begins IsFooterText footer f → (tree : Schema) (keys : List Key) (groups : List Group) → Carried bytes tree keys groups → Told bytes place f
told bytes place footer f framed said tree keys groups c =
    let h = c.1 in
    let frame = frame_same bytes place h.place footer h.footer framed h.framed in
    let same = record_same footer h.footer f (record { schema = tree; groups = h.metas; keys = keys }) frame.footers said h.said in
    let at : AllZip (λ m g. IsGroup bytes place (columns_of tree) m g.rows g.chunks) h.metas c.0 = subst (λ (k : ℕ). AllZip (λ m g. IsGroup bytes k (columns_of tree) m g.rows g.chunks) h.metas c.0) (sym frame.places) h.are in
    record { groups = c.0; are = subst (λ (x : Footer). AllZip (λ m g. IsGroup bytes place (columns_of x.schema) m g.rows g.chunks) x.groups c.0) (sym same) at }

not_negative : (z : ℤ) (n : ℕ) → z ≡ pos n → IsNegative z → ⊥
not_negative z n e h = below n (subst (λ (y : ℤ). y <ℤ pos 0) e h)
  where
    below : (n : ℕ) → pos n <ℤ pos 0 → ⊥
    below n h = omega (arith, ints, h)

as_many : (bytes : List ℕ) (place : ℕ) (ms : List ChunkMeta) (ls : List Leaf) (cs : List Chunk) → AreChunks bytes place ms ls cs → length ms ≡ length ls
as_many bytes place [] [] [] a = refl
as_many bytes place (m ∷ ms) (l ∷ ls) (c ∷ cs) a = omega (arith, as_many bytes place ms ls cs a.1)
as_many bytes place [] [] (c ∷ cs) a = absurd a
as_many bytes place [] (l ∷ ls) cs a = absurd a
as_many bytes place (m ∷ ms) [] cs a = absurd a
as_many bytes place (m ∷ ms) (l ∷ ls) [] a = absurd a

not_outside : (bytes : List ℕ) (place : ℕ) (m : ChunkMeta) (l : Leaf) (c : Chunk) → IsChunkOf bytes place m l c → LiesOutside place m → ⊥
not_outside bytes place m l c a (inl low) = below a.start a.behind_magic (subst (λ (z : ℤ). z <ℤ pos 4) a.starts low)
  where
    below : (n : ℕ) → 4 ≤ n → pos n <ℤ pos 4 → ⊥
    below n h k = omega (arith, ints, h, k)
not_outside bytes place m l c a (inr h) =
    let start = pos_same a.start h.0 (sym a.starts ∙ h.2) in
    let size = pos_same a.size h.1 (sym a.has_size ∙ h.3) in
    omega (arith, a.before_footer, h.4, start, size)

not_bad : (bytes : List ℕ) (place : ℕ) (m : ChunkMeta) (l : Leaf) (c : Chunk) → IsChunkOf bytes place m l c → ChunkIsBad place m l → ⊥
not_bad bytes place m l c a (inl d) = d a.physical
not_bad bytes place m l c a (inr (inl n)) = not_negative m.num_values a.num_values a.has_num_values n
not_bad bytes place m l c a (inr (inr (inl n))) = not_negative m.size a.size a.has_size n
not_bad bytes place m l c a (inr (inr (inr o))) = not_outside bytes place m l c a o

none_bad : (bytes : List ℕ) (place : ℕ) (ms : List ChunkMeta) (ls : List Leaf) (cs : List Chunk) → AreChunks bytes place ms ls cs → AnyZip (ChunkIsBad place) ms ls → ⊥
none_bad bytes place (m ∷ ms) (l ∷ ls) (c ∷ cs) a (inl b) = not_bad bytes place m l c a.0 b
none_bad bytes place (m ∷ ms) (l ∷ ls) (c ∷ cs) a (inr b) = none_bad bytes place ms ls cs a.1 b
none_bad bytes place (m ∷ ms) (l ∷ ls) [] a b = a
none_bad bytes place [] ls cs a b = b
none_bad bytes place (m ∷ ms) [] cs a b = b

good_group : (bytes : List ℕ) (place : ℕ) (ls : List Leaf) (m : GroupMeta) (g : GroupPages) → IsGroup bytes place ls m g.rows g.chunks → GroupIsBad place ls m → ⊥
good_group bytes place ls m g a (inl d) = d (as_many bytes place m.chunks ls g.chunks a.are)
good_group bytes place ls m g a (inr (inl n)) = not_negative m.num_rows g.rows a.has_rows n
good_group bytes place ls m g a (inr (inr b)) = none_bad bytes place m.chunks ls g.chunks a.are b

-- what holds of no group holds of none of them
none_of : {A B : Type 0} (R : A → B → Type 0) (P : A → Type 0) → ((a : A) (b : B) → R a b → P a → ⊥) → (xs : List A) (ys : List B) → AllZip R xs ys → AnyOf P xs → ⊥
none_of R P not [] ys a h = h
none_of R P not (x ∷ xs) [] a h = a
none_of R P not (x ∷ xs) (y ∷ ys) a (inl p) = not x y a.0 p
none_of R P not (x ∷ xs) (y ∷ ys) a (inr p) = none_of R P not xs ys a.1 p

-- nor of the chunks
none_in : (P : ChunkMeta → Type 0) (bytes : List ℕ) (place : ℕ) → ((m : ChunkMeta) (l : Leaf) (c : Chunk) → IsChunkOf bytes place m l c → P m → ⊥) → (ms : List ChunkMeta) (ls : List Leaf) (cs : List Chunk) → AreChunks bytes place ms ls cs → AnyOf P ms → ⊥
none_in P bytes place not [] ls cs a h = h
none_in P bytes place not (m ∷ ms) [] cs a h = a
none_in P bytes place not (m ∷ ms) (l ∷ ls) [] a h = a
none_in P bytes place not (m ∷ ms) (l ∷ ls) (c ∷ cs) a (inl p) = not m l c a.0 p
none_in P bytes place not (m ∷ ms) (l ∷ ls) (c ∷ cs) a (inr p) = none_in P bytes place not ms ls cs a.1 p

s2 : Excludes S2
s2 bytes place footer f framed said h tree keys groups c =
    let t = told bytes place footer f framed said tree keys groups c in
    none_of (λ m g. IsGroup bytes place (columns_of f.schema) m g.rows g.chunks) (GroupIsBad place (columns_of f.schema)) (λ m g a b. good_group bytes place (columns_of f.schema) m g a b) f.groups t.groups t.are h

n1 : Excludes (λ place f. N1 f)
n1 bytes place footer f framed said h tree keys groups c =
    let t = told bytes place footer f framed said tree keys groups c in
    none_of (λ m g. IsGroup bytes place (columns_of f.schema) m g.rows g.chunks) (λ g. AnyOf (λ m. m.codec ≢ pos 0) g.chunks)
    (λ m g a b. none_in (λ x. x.codec ≢ pos 0) bytes place (λ x l y i d. d i.codec) m.chunks (columns_of f.schema) g.chunks a.are b)
    f.groups t.groups t.are h

n3 : Excludes (λ place f. N3 f)
n3 bytes place footer f framed said h tree keys groups c =
    let t = told bytes place footer f framed said tree keys groups c in
    none_of (λ m g. IsGroup bytes place (columns_of f.schema) m g.rows g.chunks) (λ g. AnyOf (λ m. (m.file_path ≢ None) × (m.file_path ≢ Some [])) g.chunks)
    (λ m g a b. none_in (λ x. (x.file_path ≢ None) × (x.file_path ≢ Some [])) bytes place (λ x l y i d. either x d i.here) m.chunks (columns_of f.schema) g.chunks a.are b)
    f.groups t.groups t.are h
  where
    either : (x : ChunkMeta) → (x.file_path ≢ None) × (x.file_path ≢ Some []) → (x.file_path ≡ None) ⊎ (x.file_path ≡ Some []) → ⊥
    either x d (inl e) = d.0 e
    either x d (inr e) = d.1 e

-- ---- pages

spelled_is_read : (l : Leaf) (entries : Option (List Value)) (e : Encoding) (text : List ℕ) (vs : List Value) → IsSpelled e l entries text vs → IsRead l e
spelled_is_read l entries plain text vs s = tt
spelled_is_read l None dictionary text vs s = absurd s
spelled_is_read l (Some es) dictionary text vs s = s.0
spelled_is_read l entries delta text vs s = either s
  where
    either : {A B C D : Type 0} → (A × B) ⊎ (C × D) → A ⊎ C
    either (inl h) = inl h.0
    either (inr h) = inr h.0
spelled_is_read l entries delta_length text vs s = s.0

n4 : (l : Leaf) (entries : Option (List Value)) (p : RawPage) → N4Page l p → IsNoPage l entries p
n4 l entries p (inl h) ts is = either h.1
  where
    either : (((e : Encoding) → HasEncoding p.header e → IsRead l e → ⊥) ⊎ (¬ LevelsAreRuns l p.header)) → ⊥
    either (inl none) = none is.encoding is.has_encoding (spelled_is_read l entries is.encoding is.values.text _ is.values.spells)
    either (inr none) = none is.runs
n4 l entries p (inr h) ts is = no_data p.header h.0 is.has_encoding
  where
    no_data : (h : Header) → IsDictionary h → HasEncoding h is.encoding → ⊥
    no_data (data_page h) d e = d
    no_data (data_page_2 h) d e = d
    no_data (dictionary_page h) d e = e

counted_as : (h : Header) (e : Encoding) (ts : List Triple) → HasEncoding h e → IsCounted h ts → length ts ≡ count_in h
counted_as (data_page h) e ts d c = sym c
counted_as (data_page_2 h) e ts d c = sym c.0
counted_as (dictionary_page h) e ts d c = absurd d

bare : {A : Type 0} (f : Triple → A) → ((t : Triple) → f (without_value t) ≡ f t) → (ts : List Triple) → map f (map without_value ts) ≡ map f ts
bare f h [] = refl
bare f h (t ∷ ts) = ap (λ x. x ∷ map f (map without_value ts)) (h t) ∙ ap (λ xs. f t ∷ xs) (bare f h ts)

none_left : (ts : List Triple) → Every (λ t. t.value ≡ None) (map without_value ts)
none_left [] = tt
none_left (t ∷ ts) = (refl, none_left ts)

-- the pairs of a page
pairs_of : (l : Leaf) (entries : Option (List Value)) (p : RawPage) (ts : List Triple) → IsPage l entries p.header p.body ts → HasPairs l p (map without_value ts)
pairs_of l entries p ts is =
    let n : length (map without_value ts) ≡ count_in p.header = length-map ts without_value ∙ counted_as p.header is.encoding ts is.has_encoding is.counted in (
      record {
        runs = is.runs;
        sections = is.sections;
        split = is.split;
        repetitions = subst (λ (xs : List ℕ). HasLevels (max_repetition l) is.sections.repetition xs) (sym (bare (λ t. t.repetition) (λ t. refl) ts)) is.repetitions;
        definitions = subst (λ (xs : List ℕ). HasLevels (max_definition l) is.sections.definition xs) (sym (bare (λ t. t.definition) (λ t. refl) ts)) is.definitions;
        none = All-from_recursion _ (map without_value ts) (none_left ts);
        few = omega (arith, n);
      },
      n,
    )

s4 : (l : Leaf) (entries : Option (List Value)) (p : RawPage) → S4 l p → IsNoPage l entries p
s4 l entries p h ts is = h.2 (map without_value ts) (pairs_of l entries p ts is)

-- two readings of a page's pairs are one
pub record SamePairs (l : Leaf) (p : RawPage) (ts us : List Triple) (a : ShowsPairs l p ts) (b : ShowsPairs l p us) : Type 0 where
  pub values : a.sections.values ≡ b.sections.values
  pub repetitions : map (λ t. t.repetition) ts ≡ map (λ t. t.repetition) us
  pub definitions : map (λ t. t.definition) ts ≡ map (λ t. t.definition) us

pub same_pairs : (l : Leaf) (p : RawPage) (ts us : List Triple) (a : HasPairs l p ts) (b : HasPairs l p us) → SamePairs l p ts us a.0 b.0
same_pairs l p ts us a b =
    let s = split_same l p.header p.body a.0.sections b.0.sections a.0.split b.0.split in
    let n : length ts ≡ length us = a.1 ∙ sym b.1 in
    let rn : length (map (λ (t : Triple). t.repetition) ts) ≡ length (map (λ (t : Triple). t.repetition) us) = length-map ts (λ (t : Triple). t.repetition) ∙ n ∙ sym (length-map us (λ (t : Triple). t.repetition)) in
    let dn : length (map (λ (t : Triple). t.definition) ts) ≡ length (map (λ (t : Triple). t.definition) us) = length-map ts (λ (t : Triple). t.definition) ∙ n ∙ sym (length-map us (λ (t : Triple). t.definition)) in
    record {
      values = s.values;
      repetitions = levels_same (max_repetition l) a.0.sections.repetition b.0.sections.repetition (map (λ t. t.repetition) ts) (map (λ t. t.repetition) us) s.repetition a.0.repetitions b.0.repetitions rn;
      definitions = levels_same (max_definition l) a.0.sections.definition b.0.sections.definition (map (λ t. t.definition) ts) (map (λ t. t.definition) us) s.definition a.0.definitions b.0.definitions dn;
    }

pub counted_by : (A : Type 0) (f : A → ℕ) (m : ℕ) (xs : List A) → count_by (λ x. nat_eq (f x) m) xs ≡ count_by (λ d. nat_eq d m) (map f xs)
counted_by A f m [] = refl
counted_by A f m (x ∷ xs) =
    sum_by-cons (λ y. cond (nat_eq (f y) m) 1 0) x xs ∙ ap (λ (n : ℕ). cond (nat_eq (f x) m) 1 0 + n) (counted_by A f m xs) ∙ sym (sum_by-cons (λ d. cond (nat_eq d m) 1 0) (f x) (map f xs))

s6 : (l : Leaf) (entries : Option (List Value)) (p : RawPage) → S6 l entries p → IsNoPage l entries p
unfolding pairs_of
s6 l entries p h ts is =
    let ours = pairs_of l entries p ts is in
    let same = same_pairs l p h.pairs (map without_value ts) h.has ours in
    let e : is.encoding ≡ h.encoding = encoding_same p.header is.encoding h.encoding is.has_encoding h.has_encoding in
    let definitions : map (λ t. t.definition) h.pairs ≡ map (λ t. t.definition) ts = same.definitions ∙ bare (λ t. t.definition) (λ t. refl) ts in
    let size : length (filter_map (λ t. t.value) ts) ≡ called_by l h.pairs =
    count_present (max_definition l) ts (every (IsPresent (max_definition l)) ts is.present) ∙ ap (λ (xs : List ℕ). count_by (λ d. nat_eq d (max_definition l)) xs) (sym definitions)
    ∙ sym (counted_by Triple (λ t. t.definition) (max_definition l) h.pairs) in
    h.none (filter_map (λ t. t.value) ts) size
    (subst (λ (s : List ℕ). Begins (IsSpelled h.encoding l entries) s (filter_map (λ t. t.value) ts)) (sym same.values)
    (subst (λ (f : Encoding). Begins (IsSpelled f l entries) is.sections.values (filter_map (λ t. t.value) ts)) e is.values))

-- as many rows begin
rows_by : (ts us : List Triple) → map (λ t. t.repetition) ts ≡ map (λ t. t.repetition) us → rows_in ts ≡ rows_in us
rows_by ts us e = counted_by Triple (λ t. t.repetition) 0 ts ∙ ap (λ (xs : List ℕ). count_by (λ d. nat_eq d 0) xs) e ∙ sym (counted_by Triple (λ t. t.repetition) 0 us)

counts : (l : Leaf) (entries : Option (List Value)) (p : RawPage) (pairs : List Triple) → HasPairs l p pairs → CountsOtherwise p.header pairs → IsNoPage l entries p
counts l entries p pairs h d ts is =
    let same = same_pairs l p pairs (map without_value ts) h (pairs_of l entries p ts is) in
    let rows : rows_in ts ≡ rows_in pairs = sym (rows_by pairs ts (same.repetitions ∙ bare (λ t. t.repetition) (λ t. refl) ts)) in
    otherwise p.header is.counted d rows
  where
    otherwise : (h : Header) → IsCounted h ts → CountsOtherwise h pairs → rows_in ts ≡ rows_in pairs → ⊥
    otherwise (data_page h) c d e = d
    otherwise (data_page_2 h) c d e = d (c.1 ∙ e)
    otherwise (dictionary_page h) c d e = d

pub exclude : ReasonsExclude
exclude = record { s1 = none_carried; s2 = s2; n1 = n1; n3 = n3; n4 = n4; s4 = s4; s6 = s6; counts = counts }
