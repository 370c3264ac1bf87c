-- How long the pages of a column are.
use Rattle.std.proofs.Common.{◌≡◌, ℕ, zero, suc, ◌+◌, ◌*◌, ◌≤◌, pos, List, [], ◌∷◌, ◌++◌, length, map, flat_map, Option, Some, None, sum_by, inl, inr, refl, sym, subst, ap, ◌∙◌, arith}
use Rattle.std.specs.Int.{w32, w64}
use Rattle.std.specs.List.{AllByRecursion}
use Rattle.std.proofs.lemmas.List.{length-append, length-map}
use Rattle.std.proofs.lemmas.List.Sums.{sum_by-append, sum_by-cons}
use Rattle.std.proofs.lemmas.Nat.{mul-le}
use Rattle.pq_numbers.specs.Bits.{bytes_for}
use Rattle.pq_runs.proofs.WrittenLaws.{written_short}
use Rattle.shredding.specs.Shape.{LeafType}
use Rattle.shredding.specs.Shred.{Triple}
use Rattle.shredding.specs.Slot.{Value, bytes, number}
use Rattle.pq_tree.specs.Physical.{Physical, byte_array}
use Rattle.pq_tree.specs.Tree.{Leaf, max_definition, max_repetition}
use Rattle.pq_tree.specs.declared.version.Version.{Version}
use Rattle.pq_tree.specs.declared.version.Version.TheVariants.{V1, V2}
use Rattle.pq_files.specs.Layout.{OutPage, plain_size}
use Rattle.pq_files.specs.Levels.{IsBehindLength}
use Rattle.pq_files.specs.Packed.{AreLevels, ArePages, IsWrittenPage, header_of}
use Rattle.pq_files.specs.Page.{Encoding, plain, dictionary, delta, delta_length, IsSplit, Sections, values_in}
use Rattle.pq_files.specs.WrittenSpelling.{IsWrittenSpelled}
use Rattle.sample_sizes.proofs.Deltas.{deltas_short}
use Rattle.sample_sizes.proofs.Headers.{IsShort, header_short}
use Rattle.sample_sizes.proofs.Stored.{IsLight, few_values}

-- a leaf whose levels have two bits
pub record IsLow (l : Leaf) : Type 0 where
  pub definition : max_definition l ≤ 3
  pub repetition : max_repetition l ≤ 3

-- ---- levels
section_short : (max : ℕ) (section levels : List ℕ) → max ≤ 3 → AreLevels max section levels → length section ≤ 2 * length levels + 7
section_short max section levels few h =
    let narrow : h.width ≤ 2 = h.is_width.least 2 (omega (arith, few)) in
    let byte : bytes_for h.width ≤ 1 = omega (arith, narrow) in
    omega (arith, written_short h.width section levels h.runs, byte, mul-le (bytes_for h.width + 1) (length levels) 2 (length levels) (omega (arith, byte)) (omega arith))

behind_long : (max : ℕ) (body section rest : List ℕ) → IsBehindLength max body section rest → length body ≤ 4 + length section + length rest
behind_long zero body section rest h = omega (arith, ap length h.1)
behind_long (suc max) body section rest h = omega (arith, ap length h.3, length-append h.0 (section ++ rest), length-append section rest, h.1)

split_short : (version : Version) (l : Leaf) (p : OutPage) (definition repetition : ℕ) (body : List ℕ) (s : Sections) → IsSplit l (header_of version p definition repetition) body s → length body ≤ 8 + length s.repetition + length s.definition + length s.values
split_short V1 l p definition repetition body s h = omega (arith, behind_long (max_repetition l) body s.repetition h.behind h.repetition, behind_long (max_definition l) h.behind s.definition s.values h.definition)
split_short V2 l p definition repetition body s h = omega (arith, ap length h.parts, length-append s.repetition (s.definition ++ s.values), length-append s.definition s.values)

-- ---- values
strings_size : (ss : List (List ℕ)) → length (flat_map (λ s. s) ss) ≤ sum_by (plain_size byte_array) (map bytes ss)
strings_size [] = omega arith
strings_size (s ∷ ss) = omega (arith, length-append s (flat_map (λ x. x) ss), strings_size ss, sum_by-cons (plain_size byte_array) (bytes s) (map bytes ss))

values_short : (t : LeafType) (e : Encoding) (l : Leaf) (section : List ℕ) (vs : List Value) → IsLight t l.physical → IsWrittenSpelled e l None section vs → length section ≤ 11 * length vs + 300 + sum_by (plain_size l.physical) vs
values_short t plain l section vs light h = omega (arith, light.plain section vs h)
values_short t dictionary l section vs light h = absurd h
values_short t delta l section vs light (inl h) = omega (arith, deltas_short w32 section h.1.0 (omega arith) h.1.1, ap length h.1.2, length-map h.1.0 number)
values_short t delta l section vs light (inr h) = omega (arith, deltas_short w64 section h.1.0 (omega arith) h.1.1, ap length h.1.2, length-map h.1.0 number)
values_short t delta_length l section vs light h =
    let k = h.1 in
    let own : length section ≤ 11 * length vs + 300 + sum_by (plain_size byte_array) vs =
    omega (arith, ap length k.parts, length-append k.head (flat_map (λ s. s) k.strings), deltas_short w32 k.head (map (λ s. pos (length s)) k.strings) (omega arith) k.lengths, length-map k.strings (λ s. pos (length s)), strings_size k.strings, ap length k.are, length-map k.strings bytes, ap (sum_by (plain_size byte_array)) k.are) in
    subst (λ (p : Physical). length section ≤ 11 * length vs + 300 + sum_by (plain_size p) vs) (sym h.0) own

-- ---- a page
pub page_short : (t : LeafType) (version : Version) (l : Leaf) (p : OutPage) (text : List ℕ) → IsLight t l.physical → IsLow l → IsShort p.statistics → IsWrittenPage version l None p text
    → length text ≤ 600 + 15 * length p.triples + sum_by (plain_size l.physical) (values_in p.triples)
page_short t version l p text light low short h =
    let s = h.page.sections in
    omega (
      arith,
      ap length h.parts,
      length-append h.head h.body,
      header_short version p h.definition h.repetition (length h.body) h.head short h.header,
      split_short version l p h.definition h.repetition h.body s h.page.split,
      section_short (max_repetition l) s.repetition (map (λ t. t.repetition) p.triples) low.repetition h.page.repetitions,
      section_short (max_definition l) s.definition (map (λ t. t.definition) p.triples) low.definition h.page.definitions,
      length-map p.triples (λ (t : Triple). t.repetition),
      length-map p.triples (λ (t : Triple). t.definition),
      values_short t h.page.encoding l s.values (values_in p.triples) light h.page.values,
      few_values p.triples,
    )

-- ---- pages
abbrev pub triples_in : List OutPage → List Triple
triples_in ps = flat_map (λ p. p.triples) ps

pub values-append : (xs ys : List Triple) → values_in (xs ++ ys) ≡ values_in xs ++ values_in ys
values-append [] ys = refl
values-append (x ∷ xs) ys = by x.value refl (values-append xs ys)
  where
    by : (o : Option Value) → x.value ≡ o → values_in (xs ++ ys) ≡ values_in xs ++ values_in ys → values_in (x ∷ (xs ++ ys)) ≡ values_in (x ∷ xs) ++ values_in ys
    by None e rest = rw e rest
    by (Some v) e rest = rw e (ap (λ vs. v ∷ vs) rest)

pub pages_short : (t : LeafType) (version : Version) (l : Leaf) (ps : List OutPage) (text : List ℕ) → IsLight t l.physical → IsLow l → AllByRecursion (λ p. IsShort p.statistics) ps → ArePages version l None ps text
    → length text ≤ 600 * length ps + 15 * length (triples_in ps) + sum_by (plain_size l.physical) (values_in (triples_in ps))
pages_short t version l [] text light low short h = omega (arith, ap length h)
pages_short t version l (p ∷ ps) text light low short h =
    let size = plain_size l.physical in
    let sum : sum_by size (values_in (p.triples ++ triples_in ps)) ≡ sum_by size (values_in p.triples) + sum_by size (values_in (triples_in ps)) = ap (sum_by size) (values-append p.triples (triples_in ps)) ∙ sum_by-append size (values_in p.triples) (values_in (triples_in ps)) in
    omega (arith, ap length h.4, length-append h.0 h.1, page_short t version l p h.0 light low short.0 h.2, pages_short t version l ps h.1 light low short.1 h.3, length-append p.triples (triples_in ps), sum)

-- each has a pair at least
pub few_pages : (version : Version) (l : Leaf) (ps : List OutPage) (text : List ℕ) → ArePages version l None ps text → length ps ≤ length (triples_in ps)
few_pages version l [] text h = omega arith
few_pages version l (p ∷ ps) text h = omega (arith, length-append p.triples (triples_in ps), h.2.some, few_pages version l ps h.1 h.3)
