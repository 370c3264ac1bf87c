-- Of texts and byte strings what can be read of a page is the front of its triples, with their values.
use Rattle.std.proofs.Common.{◌≡◌, ◌^◌, ◌<◌, ◌≤◌, ℕ, zero, suc, ℤ, pos, false, nat_eq, List, [], ◌∷◌, ◌++◌, length, length-append, length-take, map, flat_map, take, drop, take-append-drop, replicate, append_assoc, append-nil, count_by, None, refl, sym, ap, subst, ◌∙◌, inl, inr, arith}
use Rattle.std.specs.Prelude.{sum_by}
use Rattle.std.specs.Int.{w32}
use Rattle.std.specs.List.{AllByRecursion}
use Rattle.std.proofs.lemmas.Grind.{flat_map-append}
use Rattle.std.proofs.lemmas.List.{length-drop, length-map, length-replicate, map-append, take_at}
use Rattle.std.proofs.lemmas.List.Elements.{All-from_recursion, All-take, filter_map-append, recursion_from_All}
use Rattle.std.proofs.lemmas.List.Sums.{sum_by-cons}
use Rattle.std.proofs.lemmas.Simd.{map-map}
use Rattle.shredding.specs.Shape.{LeafType}
use Rattle.shredding.specs.Shred.{Triple}
use Rattle.shredding.specs.Slot.{Value, bytes}
use Rattle.pq_numbers.specs.Texts.{Begins}
use Rattle.pq_runs.specs.Delta.{IsDelta}
use Rattle.pq_tree.specs.Physical.{Physical, byte_array}
use Rattle.pq_tree.specs.Tree.{Leaf, max_definition, max_repetition}
use Rattle.pq_files.proofs.DeltasOnce.{lengths_same}
use Rattle.pq_files.proofs.Excluded.{counted_by}
use Rattle.pq_files.proofs.PageOnce.{encoding_same}
use Rattle.pq_files.proofs.PlainOnce.{plain_same}
use Rattle.pq_files.proofs.Triples.{IsPresent, count_present, triples_same}
use Rattle.pq_files.proofs.Unique.{every, split_same}
use Rattle.pq_files.specs.Chunk.{IsPageIn, Page, RawPage, count_in}
use Rattle.pq_files.specs.Delta.{AreDeltaLengths}
use Rattle.pq_files.specs.Levels.{HasLevels}
use Rattle.pq_files.specs.Page.{Encoding, IsSpelled, delta, delta_length, dictionary, plain, values_in}
use Rattle.pq_files.specs.PageReasons.{HasPairs}
use Rattle.pq_files.specs.Plain.{InARow, IsPlain}
use Rattle.pq_files.specs.Prefixes.{BeginsDeltaLengths, BeginsValues}
use Rattle.pq_files.specs.RowReasons.{ReadsTriples, without_value}
use Rattle.unique_rows.proofs.Parts.{PageFront, bare, page_levels}
use Rattle.unique_rows.proofs.Given.{counted_as}

-- ---- plain

row_front : (p : Physical) (k : ℕ) (text : List ℕ) (ws : List Value) → InARow p text ws → Begins (InARow p) text (take k ws)
row_front p zero text ws h = record { text = []; rest = text; parts = refl; spells = refl }
row_front p (suc k) text [] h = record { text = text; rest = []; parts = sym (append-nil text); spells = h }
row_front p (suc k) text (w ∷ ws) h =
    let b = row_front p k h.1 ws h.3 in
    record { text = h.0 ++ b.text; rest = b.rest; parts = h.4 ∙ ap (λ s. h.0 ++ s) b.parts ∙ sym (append_assoc h.0 b.text b.rest); spells = (h.0, b.text, h.2, b.spells, refl) }

plain_front : (p : Physical) (k : ℕ) (section : List ℕ) (ws : List Value) → p ≡ byte_array → Begins (IsPlain p) section ws → Begins (IsPlain p) section (take k ws)
plain_front byte_array k section ws e b =
    let f = row_front byte_array k b.text ws b.spells in
    record { text = f.text; rest = f.rest ++ b.rest; parts = b.parts ∙ ap (λ s. s ++ b.rest) f.parts ∙ append_assoc f.text f.rest b.rest; spells = f.spells }
plain_front p k section ws e b = absurd (cc e)

-- ---- lengths by deltas, and then the bytes

-- strings of these lengths in front of the bytes
record Strings (lengths text : List ℕ) : Type 0 where
  pub strings : List (List ℕ)
  pub rest : List ℕ
  pub are : map (λ s. length s) strings ≡ lengths
  pub parts : text ≡ flat_map (λ s. s) strings ++ rest

strings_of : (lengths text : List ℕ) → sum_by (λ n. n) lengths ≤ length text → Strings lengths text
strings_of [] text h = record { strings = []; rest = text; are = refl; parts = refl }
strings_of (n ∷ lengths) text h =
    let total = sum_by-cons (λ (k : ℕ). k) n lengths in
    let more = strings_of lengths (drop n text) (omega (arith, h, total, length-drop n text)) in
    let size : length (take n text) ≡ n = omega (arith, h, total, length-take n text) in
    record {
      strings = take n text ∷ more.strings;
      rest = more.rest;
      are = ap (λ k. k ∷ map (λ s. length s) more.strings) size ∙ ap (λ ks. n ∷ ks) more.are;
      parts = sym (take-append-drop n text) ∙ ap (λ s. take n text ++ s) more.parts ∙ sym (append_assoc (take n text) (flat_map (λ s. s) more.strings) more.rest);
    }

short_strings : (strings : List (List ℕ)) → AllByRecursion (λ n. n < 2 ^ 31) (map (λ s. length s) strings) → AllByRecursion (λ s. length s < 2 ^ 31) strings
short_strings [] h = tt
short_strings (s ∷ strings) h = (h.0, short_strings strings h.1)

-- all lengths of the values, and the strings as far as they are there: behind the section any bytes may stand
record Whole (called : ℕ) (section behind : List ℕ) (vs : List Value) : Type 0 where
  pub others : List Value
  pub many : length (vs ++ others) ≡ called
  pub begins : Begins AreDeltaLengths (section ++ behind) (vs ++ others)

abbrev zeros : ℕ → List ℕ
zeros n = replicate n 0

whole_of : (called : ℕ) (section : List ℕ) (vs : List Value) (b : Begins (BeginsDeltaLengths called) section vs) → Whole called section (zeros (sum_by (λ n. n) b.spells.others)) vs
whole_of called section vs b =
    let x = b.spells in
    let z = zeros (sum_by (λ n. n) x.others) in
    let long : sum_by (λ n. n) x.others ≤ length (b.rest ++ z) = omega (arith, length-append b.rest z, length-replicate {A = ℕ} (sum_by (λ n. n) x.others) 0) in
    let more = strings_of x.others (b.rest ++ z) long in
    let all = x.strings ++ more.strings in
    let lengths : x.lengths ≡ map (λ s. length s) all = x.are ∙ ap (λ ks. map (λ s. length s) x.strings ++ ks) (sym more.are) ∙ sym (map-append (λ s. length s) x.strings more.strings) in
    let values : vs ++ map bytes more.strings ≡ map bytes all = ap (λ us. us ++ map bytes more.strings) x.values ∙ sym (map-append bytes x.strings more.strings) in
    let spelled : AreDeltaLengths (x.head ++ flat_map (λ s. s) all) (vs ++ map bytes more.strings) = record {
      strings = all;
      short = All-from_recursion (λ s. length s < 2 ^ 31) all (short_strings all (subst (λ (ks : List ℕ). AllByRecursion (λ n. n < 2 ^ 31) ks) lengths (recursion_from_All (λ n. n < 2 ^ 31) x.lengths x.short)));
      head = x.head;
      lengths = subst (λ (ks : List ℤ). IsDelta w32 false x.head ks) (ap (map (λ n. pos n)) lengths ∙ map-map (λ n. pos n) (λ s. length s) all) x.are_lengths;
      parts = refl;
      are = values;
    } in
    record {
      others = map bytes more.strings;
      many = ap length values ∙ length-map all bytes ∙ sym (length-map all (λ (s : List ℕ). length s)) ∙ ap length (sym lengths) ∙ x.all;
      begins =
          record {
            text = x.head ++ flat_map (λ s. s) all;
            rest = more.rest;
            parts =
                ap (λ s. s ++ z) b.parts ∙ append_assoc b.text b.rest z ∙ ap (λ s. s ++ (b.rest ++ z)) x.parts ∙ ap (λ s. (x.head ++ flat_map (λ s. s) x.strings) ++ s) more.parts
                ∙ sym (append_assoc (x.head ++ flat_map (λ s. s) x.strings) (flat_map (λ s. s) more.strings) more.rest)
                ∙ ap (λ s. s ++ more.rest) (append_assoc x.head (flat_map (λ s. s) x.strings) (flat_map (λ s. s) more.strings) ∙ ap (λ s. x.head ++ s) (sym (flat_map-append (λ s. s) x.strings more.strings)));
            spells = spelled;
          };
    }

lengths_front : (called : ℕ) (section other : List ℕ) (vs ws : List Value) → section ≡ other → Begins (BeginsDeltaLengths called) section vs → Begins AreDeltaLengths other ws → called ≡ length ws → vs ≡ take (length vs) ws
lengths_front called section other vs ws e a b n =
    let whole = whole_of called section vs a in
    let z = zeros (sum_by (λ k. k) a.spells.others) in
    let theirs : Begins AreDeltaLengths (other ++ z) ws = record { text = b.text; rest = b.rest ++ z; parts = ap (λ s. s ++ z) b.parts ∙ append_assoc b.text b.rest z; spells = b.spells } in
    let same = lengths_same (section ++ z) (other ++ z) (vs ++ whole.others) ws (ap (λ s. s ++ z) e) whole.begins theirs (whole.many ∙ n) in
    sym (take_at vs whole.others (length vs) refl) ∙ ap (take (length vs)) same

-- ---- the values of a page

values_front : (l : Leaf) (e : Encoding) (called : ℕ) (section other : List ℕ) (vs ws : List Value) → l.physical ≡ byte_array → section ≡ other → called ≡ length ws → length vs ≤ length ws
    → BeginsValues e l None called section vs → Begins (IsSpelled e l None) other ws → vs ≡ take (length vs) ws
values_front l plain called section other vs ws p e n few a b =
    plain_same l.physical section other vs (take (length vs) ws) e a.1 (plain_front l.physical (length vs) other ws p b) (omega (arith, few, length-take (length vs) ws))
values_front l dictionary called section other vs ws p e n few a b = absurd a
values_front l delta called section other vs ws p e n few (inl a) b = absurd (cc (p, a.0))
values_front l delta called section other vs ws p e n few (inr a) b = absurd (cc (p, a.0))
values_front l delta_length called section other vs ws p e n few a b =
    lengths_front called section other vs ws e a (record { text = b.text; rest = b.rest; parts = b.parts; spells = b.spells.1 }) n

none_left : (ts : List Triple) → AllByRecursion (λ t. t.value ≡ None) (map without_value ts)
none_left [] = tt
none_left (t ∷ ts) = (refl, none_left ts)

pairs_of : (l : Leaf) (raw : RawPage) (q : Page) → IsPageIn l None raw q → HasPairs l raw (map without_value q.triples)
pairs_of l raw q h =
    let is = h.is in
    let n : length (map without_value q.triples) ≡ count_in raw.header = length-map q.triples without_value ∙ counted_as raw.header is.encoding q.triples is.has_encoding is.counted in (
      record {
        runs = is.runs;
        sections = is.sections;
        split = is.split;
        repetitions = subst (λ (xs : List ℕ). HasLevels (max_repetition l) is.sections.repetition xs) (sym (bare (λ t. t.repetition) (λ t. refl) q.triples)) is.repetitions;
        definitions = subst (λ (xs : List ℕ). HasLevels (max_definition l) is.sections.definition xs) (sym (bare (λ t. t.definition) (λ t. refl) q.triples)) is.definitions;
        none = All-from_recursion _ (map without_value q.triples) (none_left q.triples);
        few = omega (arith, n);
      },
      n,
    )

-- as many values as levels call for
called_is : (t : LeafType) (l : Leaf) (raw : RawPage) (q : Page) (ts : List Triple) → IsPageIn l None raw q → (r : ReadsTriples t l None raw ts) → r.called ≡ length (values_in q.triples)
called_is t l raw q ts h r =
    let m = max_definition l in
    let definition : Triple → ℕ = λ x. x.definition in
    r.calls (map without_value q.triples) (pairs_of l raw q h) ∙ counted_by Triple definition m (map without_value q.triples) ∙ ap (λ (ds : List ℕ). count_by (λ d. nat_eq d m) ds) (bare definition (λ x. refl) q.triples)
    ∙ sym (count_present m q.triples (every (IsPresent m) q.triples h.is.present))

pub texts_of_page : (t : LeafType) (l : Leaf) → l.physical ≡ byte_array → PageFront (λ x. x) t l
texts_of_page t l p raw q ts h r =
    let m = max_definition l in
    let x = page_levels t l raw q ts h r in
    let us = take (length ts) q.triples in
    let present = every (IsPresent m) ts r.present in
    let others = every (IsPresent m) us (All-take (IsPresent m) (length ts) q.triples h.is.present) in
    let many : length (values_in ts) ≡ length (values_in us) = count_present m ts present ∙ ap (λ (ds : List ℕ). count_by (λ d. nat_eq d m) ds) x.definitions ∙ sym (count_present m us others) in
    let split : values_in q.triples ≡ values_in us ++ values_in (drop (length ts) q.triples) =
    ap values_in (sym (take-append-drop (length ts) q.triples)) ∙ filter_map-append (λ (y : Triple). y.value) us (drop (length ts) q.triples) in
    let first : take (length (values_in ts)) (values_in q.triples) ≡ values_in us = ap (take (length (values_in ts))) split ∙ take_at (values_in us) (values_in (drop (length ts) q.triples)) (length (values_in ts)) (sym many) in
    let few : length (values_in ts) ≤ length (values_in q.triples) = omega (arith, many, ap length split, length-append (values_in us) (values_in (drop (length ts) q.triples))) in
    let same = split_same l raw.header raw.body r.pairs.shows.sections h.is.sections r.pairs.shows.split h.is.split in
    let encoding : h.is.encoding ≡ r.pairs.encoding = encoding_same raw.header h.is.encoding r.pairs.encoding h.is.has_encoding r.pairs.has_encoding in
    let theirs : Begins (IsSpelled r.pairs.encoding l None) h.is.sections.values (values_in q.triples) = subst (λ (e : Encoding). Begins (IsSpelled e l None) h.is.sections.values (values_in q.triples)) encoding h.is.values in
    let values : values_in ts ≡ values_in us =
    values_front l r.pairs.encoding r.called r.pairs.shows.sections.values h.is.sections.values (values_in ts) (values_in q.triples) p same.values (called_is t l raw q ts h r) few r.begins theirs ∙ first in
    (x.few, ap (map (λ y. y)) (triples_same m ts us present others x.repetitions x.definitions values))
