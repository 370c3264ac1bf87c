-- How much can be read of the pages of a chunk: no more pairs than it has, and no more bytes of texts than its own.
use Rattle.std.proofs.Common.{◌≡◌, ◌⊎◌, ℕ, zero, suc, ◌+◌, ◌*◌, ◌≤◌, true, false, cond, List, [], ◌∷◌, ◌++◌, length, map, take, drop, flat_map, Option, Some, None, sum_by, inl, inr, refl, sym, subst, ap, ◌∙◌, arith}
use Rattle.std.specs.Prelude.{◌==◌}
use Rattle.std.proofs.lemmas.List.{length-append, length-map, take-append-drop}
use Rattle.std.proofs.lemmas.List.Sums.{sum_by-append, sum_by-cons}
use Rattle.columns_core.specs.Shapes.{leaf_type}
use Rattle.pq_files.specs.Chunk.{Pages, RawPage, count_in, here, page}
use Rattle.pq_files.specs.Levels.{IsBehindLength}
use Rattle.pq_files.specs.Page.{Encoding, IsSplit, Sections, plain, dictionary, delta, delta_length, values_in}
use Rattle.pq_files.specs.Plain.{InARow, IsOne, IsPlain}
use Rattle.pq_files.specs.Prefixes.{BeginsValues}
use Rattle.pq_files.specs.RowReasons.{ReadsTriples, without_value}
use Rattle.pq_numbers.specs.Bits.{unpacked}
use Rattle.pq_headline.specs.Columns.{ArrowColumn}
use Rattle.pq_headline.specs.FieldReasons.{IsPieceOf, ReadsFront, ReadsPages, text_size}
use Rattle.pq_metadata.specs.Header.{Header, data_page, data_page_2, dictionary_page}
use Rattle.pq_pages.specs.Outcomes.{Levels, Outcome, gives_page}
use Rattle.pq_tree.specs.Physical.{Physical, boolean, int32, int64, int96, float, double, byte_array, fixed}
use Rattle.pq_tree.specs.Tree.{Leaf, max_definition, max_repetition}
use Rattle.sample_sizes.proofs.Pages.{values-append}
use Rattle.shredding.specs.Laws.{first_rows, starts_row}
use Rattle.shredding.specs.Shape.{LeafType}
use Rattle.shredding.specs.Shred.{Triple}
use Rattle.shredding.specs.Slot.{Value, truth, number, bytes}

-- at most so many triples, whose texts have at most so many bytes
pub record IsBounded (n size : ℕ) (ts : List Triple) : Type 0 where
  pub short : length ts ≤ n
  pub texts : sum_by text_size (values_in ts) ≤ size

-- ---- parts of them
pub texts-append : (xs ys : List Triple) → sum_by text_size (values_in (xs ++ ys)) ≡ sum_by text_size (values_in xs) + sum_by text_size (values_in ys)
texts-append xs ys = ap (sum_by text_size) (values-append xs ys) ∙ sum_by-append text_size (values_in xs) (values_in ys)

part_bounded : (n size : ℕ) (ts before part behind : List Triple) → ts ≡ before ++ (part ++ behind) → IsBounded n size ts → IsBounded n size part
part_bounded n size ts before part behind e b = record {
  short = omega (arith, b.short, ap length e, length-append before (part ++ behind), length-append part behind);
  texts = omega (arith, b.texts, ap (λ xs. sum_by text_size (values_in xs)) e, texts-append before (part ++ behind), texts-append part behind);
}

front : (ts : List Triple) (k : ℕ) → (rest : List Triple) × (ts ≡ first_rows k ts ++ rest)
front [] k = ([], refl)
front (t ∷ ts) zero =
    let more = front ts zero in
    elim (starts_row t) as (λ b. (rest : List Triple) × (t ∷ ts ≡ cond b [] (t ∷ first_rows zero ts) ++ rest)) [ true ↦ (t ∷ ts, refl) | false ↦ (more.0, ap (λ xs. t ∷ xs) more.1) ]
front (t ∷ ts) (suc k) = let more = front ts (cond (starts_row t) k (suc k)) in (more.0, ap (λ xs. t ∷ xs) more.1)

pub piece_bounded : (n size : ℕ) (chunk_size : Option ℕ) (ts piece : List Triple) → IsPieceOf chunk_size ts piece → IsBounded n size ts → IsBounded n size piece
piece_bounded n size None ts piece h b = subst (IsBounded n size) (sym h) b
piece_bounded n size (Some m) ts piece h b =
    let first = first_rows (h.0 * m) ts in
    let behind = drop (length first) ts in
    let own = front behind m in
    let parts : ts ≡ take (length first) ts ++ (first_rows m behind ++ own.0) = sym (take-append-drop (length first) ts) ∙ ap (λ xs. take (length first) ts ++ xs) own.1 in
    subst (IsBounded n size) (sym h.1) (part_bounded n size ts (take (length first) ts) (first_rows m behind) own.0 parts b)

-- ---- texts in a section
one_text : (p : Physical) (s : List ℕ) (v : Value) → IsOne p s v → text_size v ≤ length s
one_text p s (truth b) h = omega arith
one_text p s (number z) h = omega arith
one_text byte_array s (bytes t) h = omega (arith, ap length h.parts, length-append h.head t)
one_text (fixed n) s (bytes t) h = omega (arith, ap length h.1)
one_text boolean s (bytes t) h = absurd h
one_text int32 s (bytes t) h = absurd h
one_text int64 s (bytes t) h = absurd h
one_text int96 s (bytes t) h = absurd h
one_text float s (bytes t) h = absurd h
one_text double s (bytes t) h = absurd h

row_text : (p : Physical) (s : List ℕ) (vs : List Value) → InARow p s vs → sum_by text_size vs ≤ length s
row_text p s [] h = omega arith
row_text p s (v ∷ vs) h = omega (arith, ap length h.4, length-append h.0 h.1, one_text p h.0 v h.2, row_text p h.1 vs h.3, sum_by-cons text_size v vs)

no_text : {A : Type 0} (f : A → Value) (xs : List A) → ((x : A) → text_size (f x) ≡ 0) → sum_by text_size (map f xs) ≡ 0
no_text f [] h = refl
no_text f (x ∷ xs) h = omega (arith, sum_by-cons text_size (f x) (map f xs), h x, no_text f xs h)

plain_text : (p : Physical) (s : List ℕ) (vs : List Value) → IsPlain p s vs → sum_by text_size vs ≤ length s
plain_text boolean s vs h = omega (arith, ap (sum_by text_size) h.1, no_text (λ n. truth (n == 1)) (unpacked 1 (length vs) s) (λ n. refl))
plain_text int32 s vs h = row_text int32 s vs h
plain_text int64 s vs h = row_text int64 s vs h
plain_text int96 s vs h = row_text int96 s vs h
plain_text float s vs h = row_text float s vs h
plain_text double s vs h = row_text double s vs h
plain_text byte_array s vs h = row_text byte_array s vs h
plain_text (fixed n) s vs h = row_text (fixed n) s vs h

strings_text : (ss : List (List ℕ)) → sum_by text_size (map bytes ss) ≡ length (flat_map (λ s. s) ss)
strings_text [] = refl
strings_text (s ∷ ss) = omega (arith, sum_by-cons text_size (bytes s) (map bytes ss), length-append s (flat_map (λ x. x) ss), strings_text ss)

values_text : (e : Encoding) (l : Leaf) (called : ℕ) (section : List ℕ) (vs : List Value) → BeginsValues e l None called section vs → sum_by text_size vs ≤ length section
values_text plain l called section vs h = omega (arith, plain_text l.physical h.1.text vs h.1.spells, ap length h.1.parts, length-append h.1.text h.1.rest)
values_text dictionary l called section vs h = absurd h
values_text delta l called section vs (inl h) = omega (arith, ap (sum_by text_size) h.1.spells.2, no_text number h.1.spells.0 (λ z. refl))
values_text delta l called section vs (inr h) = omega (arith, ap (sum_by text_size) h.1.spells.2, no_text number h.1.spells.0 (λ z. refl))
values_text delta_length l called section vs h =
    let k = h.spells in
    omega (arith, ap (sum_by text_size) k.values, strings_text k.strings, ap length k.parts, length-append k.head (flat_map (λ s. s) k.strings), ap length h.parts, length-append h.text h.rest)

-- ---- a page
behind_short : (max : ℕ) (body section rest : List ℕ) → IsBehindLength max body section rest → length rest ≤ length body
behind_short zero body section rest h = omega (arith, ap length h.1)
behind_short (suc max) body section rest h = omega (arith, ap length h.3, length-append h.0 (section ++ rest), length-append section rest)

section_short : (l : Leaf) (h : Header) (body : List ℕ) (s : Sections) → IsSplit l h body s → length s.values ≤ length body
section_short l (data_page h) body s k = omega (arith, behind_short (max_repetition l) body s.repetition k.behind k.repetition, behind_short (max_definition l) k.behind s.definition s.values k.definition)
section_short l (data_page_2 h) body s k = omega (arith, ap length k.parts, length-append s.repetition (s.definition ++ s.values), length-append s.definition s.values)
section_short l (dictionary_page h) body s k = absurd k

page_bounded : (t : LeafType) (l : Leaf) (p : RawPage) (ts : List Triple) → ReadsTriples t l None p ts → IsBounded (count_in p.header) (length p.body) ts
page_bounded t l p ts h =
    let shows = h.pairs.shows in
    record {
      short = omega (arith, shows.few, length-map ts without_value);
      texts = omega (arith, values_text h.pairs.encoding l h.called shows.sections.values (values_in ts) h.begins, section_short l p.header p.body shows.sections shows.split);
    }

-- ---- all pages
pub pages_bounded : (c : ArrowColumn) (l : Leaf) (levels : Levels) (n m : ℕ) (text surplus : List ℕ) (ps : List RawPage) (ts : List Triple)
    → Pages n text ps m surplus → ReadsPages c l None (map (λ p. gives_page p levels) ps) ts → IsBounded n (length text) ts
pages_bounded c l levels _ _ _ _ _ ts (here m rest) h = record { short = omega (arith, ap length h); texts = omega (arith, ap (λ xs. sum_by text_size (values_in xs)) h) }
pages_bounded c l levels _ _ _ _ _ ts (page n m text later rest p more is is_data some others) h = by (λ behind k. pages_bounded c l levels n m later rest more behind others k) h.1
  where
    size : length p.body + length later ≤ length (text ++ later)
    size = omega (arith, length-append text later, ap length is.parts, length-append is.head p.body)

    by : ((behind : List Triple) → ReadsPages c l None (map (λ q. gives_page q levels) more) behind → IsBounded n (length later) behind)
        → ReadsTriples (leaf_type c.data_type) l None p ts ⊎ ((first : List Triple) × (behind : List Triple) × ReadsTriples (leaf_type c.data_type) l None p first × (length first ≡ count_in p.header) × ReadsPages c l None (map (λ q. gives_page q levels) more) behind × (ts ≡ first ++ behind))
        → IsBounded (count_in p.header + n) (length (text ++ later)) ts
    by others_are (inl k) = let b = page_bounded (leaf_type c.data_type) l p ts k in record { short = omega (arith, b.short); texts = omega (arith, b.texts, size) }
    by others_are (inr k) =
        let b = page_bounded (leaf_type c.data_type) l p k.0 k.2 in
        let rest = others_are k.1 k.4 in
        record {
          short = omega (arith, b.short, rest.short, ap length k.5, length-append k.0 k.1);
          texts = omega (arith, b.texts, rest.texts, size, ap (λ xs. sum_by text_size (values_in xs)) k.5, texts-append k.0 k.1);
        }

pub no_front : (c : ArrowColumn) (l : Leaf) (levels : Levels) (ps : List RawPage) (entries : Option (List Value)) (behind : List Outcome)
    → ReadsFront c l (map (λ p. gives_page p levels) ps) entries behind → (entries ≡ None) × (behind ≡ map (λ p. gives_page p levels) ps)
no_front c l levels [] entries behind h = h
no_front c l levels (p ∷ ps) entries behind h = h
