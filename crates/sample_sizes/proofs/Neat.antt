-- What is known of the sample's columns as they are laid out.
use Rattle.std.proofs.Common.{◌≡◌, ℕ, ◌≤◌, Bool, true, false, List, [], ◌∷◌, All, length, map, Option, Some, None, refl, subst, ap, arith}
use Rattle.std.specs.List.{AllByRecursion, AllZip}
use Rattle.std.proofs.lemmas.List.Elements.{All-contains, All-from_recursion}
use Rattle.shredding.specs.Cut.{cut}
use Rattle.shredding.specs.Shape.{LeafType}
use Rattle.shredding.specs.Shred.{Triple, column}
use Rattle.shredding.specs.Slot.{Slot, Slots, Value, fields}
use Rattle.columns_core.specs.Shapes.{leaf_type}
use Rattle.pq_files.specs.Layout.{AreStoredEntries, OutChunk, OutPage, plain_length, rows_per_page}
use Rattle.pq_files.specs.Packed.{triples_out}
use Rattle.pq_files.specs.Page.{Encoding, values_in}
use Rattle.pq_files.specs.Statistics.{Bounds, HasBounds, HasStatistics, Statistics, has_order}
use Rattle.pq_files.specs.Stored.{AreStored}
use Rattle.pq_headline.specs.Columns.{ArrowColumn}
use Rattle.pq_headline.specs.Output.{AreLaid, IsLaid, IsPageOfRows, Style}
use Rattle.pq_tree.specs.Physical.{Physical}
use Rattle.pq_tree.specs.Tree.{Leaf}
use Rattle.sample_sizes.proofs.Fine.{AreFine, IsFine, IsPart, cut_each}
use Rattle.sample_sizes.proofs.Headers.{AreShortBounds, IsShort}
use Rattle.sample_sizes.proofs.Slim.{IsSlot, triple_weight, values_light, weight}
use Rattle.sample_sizes.proofs.Stored.{IsLight}
use Rattle.unique_rows.proofs.Laid.{laid_triples}

-- ---- bounds
values_each : (n : ℕ) (ts : List Triple) → AllByRecursion (λ t. triple_weight t ≤ n) ts → AllByRecursion (λ v. weight v ≤ n) (values_in ts)
values_each n [] h = tt
values_each n (t ∷ ts) h = by t.value refl (values_each n ts h.1)
  where
    by : (o : Option Value) → t.value ≡ o → AllByRecursion (λ v. weight v ≤ n) (values_in ts) → AllByRecursion (λ v. weight v ≤ n) (values_in (t ∷ ts))
    by None e rest = rw e rest
    by (Some v) e rest =
        let light : weight v ≤ n = subst (λ t. t ≤ n) (ap weigh e) h.0 in
        rw e (light, rest)
      where
        weigh : Option Value → ℕ
        weigh None = 0
        weigh (Some w) = weight w

short_bounds : (t : LeafType) (p : Physical) (ordered : Bool) (b : Option Bounds) (vs : List Value) → IsLight t p → AllByRecursion (λ v. weight v ≤ 24) vs → HasBounds t p ordered b vs → AreShortBounds b
short_bounds t p true (Some b) (v ∷ vs) light w h =
    let all : All (λ v. weight v ≤ 24) (v ∷ vs) = All-from_recursion (λ v. weight v ≤ 24) (v ∷ vs) w in
    let low : weight h.low ≤ 24 = All-contains (λ v. weight v ≤ 24) (v ∷ vs) h.low all h.has_low in
    let high : weight h.high ≤ 24 = All-contains (λ v. weight v ≤ 24) (v ∷ vs) h.high all h.has_high in
    (omega (arith, low, light.bound h.low b.least h.low_text), omega (arith, high, light.bound h.high b.greatest h.high_text))
short_bounds t p true (Some b) [] light w h = absurd h
short_bounds t p true None vs light w h = tt
short_bounds t p false (Some b) vs light w h = absurd h
short_bounds t p false None vs light w h = tt

short_statistics : (wanted : Bool) (t : LeafType) (p : Physical) (o : Option Statistics) (ts : List Triple) (vs : List Value) → IsLight t p → AllByRecursion (λ v. weight v ≤ 24) vs → HasStatistics wanted t p o ts vs → IsShort o
short_statistics true t p (Some s) ts vs light w h = short_bounds t p (has_order t) s.bounds vs light w h.bounds
short_statistics true t p None ts vs light w h = tt
short_statistics false t p (Some s) ts vs light w h = absurd h
short_statistics false t p None ts vs light w h = tt

-- ---- a column
pub record IsNeat (c : ArrowColumn) (l : Leaf) (ss : List Slot) (out : OutChunk) : Type 0 where
  pub entries : out.entries ≡ None
  pub statistics : IsShort out.statistics
  pub pages : AllByRecursion (λ p. IsShort p.statistics) out.pages
  pub stored : AreStored (leaf_type c.data_type) l.physical (column c.way ss) (triples_out out)

no_entries : (t : LeafType) (p : Physical) (o : Option (List Value)) → AreStoredEntries t p None o → o ≡ None
no_entries t p None h = refl
no_entries t p (Some es) h = absurd h

short_pages : (s : Style) (e : Encoding) (c : ArrowColumn) (l : Leaf) (m : ℕ) (parts : List (List Slot)) (pages : List OutPage) → IsFine c l → AllByRecursion (IsPart m) parts
    → AllZip (IsPageOfRows s e (record { arrow = c; physical = l.physical; entries = None })) parts pages → AllByRecursion (λ p. IsShort p.statistics) pages
short_pages s e c l m [] [] f p h = tt
short_pages s e c l m [] (q ∷ qs) f p h = absurd h
short_pages s e c l m (r ∷ rs) [] f p h = absurd h
short_pages s e c l m (r ∷ rs) (q ∷ qs) f p h = (
  short_statistics s.statistics (leaf_type c.data_type) l.physical q.statistics (column c.way r) (values_in (column c.way r)) f.light (values_each 24 (column c.way r) (values_light c.way r f.slim p.0.are)) h.0.statistics,
  short_pages s e c l m rs qs f p.1 h.1,
)

pub neat_column : (s : Style) (e : Encoding) (c : ArrowColumn) (l : Leaf) (d : Option (List (Option Value))) (ss : List Slot) (out : OutChunk) → IsFine c l → AllByRecursion IsSlot ss → d ≡ None
    → IsLaid s e (record { arrow = c; physical = l.physical; entries = d }) ss out → IsNeat c l ss out
neat_column s e c l (Some es) ss out f a n h = absurd (cc n)
neat_column s e c l None ss out f a n h =
    let k = rows_per_page s.page_limit (plain_length l.physical (values_in h.stored)) (length ss) in
    record {
      entries = no_entries (leaf_type c.data_type) l.physical out.entries h.entries;
      statistics = short_statistics s.statistics (leaf_type c.data_type) l.physical out.statistics (column c.way ss) (values_in (column c.way ss)) f.light (values_each 24 (column c.way ss) (values_light c.way ss f.slim a)) h.statistics;
      pages = short_pages s e c l (length ss) (cut ss (Some k)) out.pages f (cut_each (length ss) k ss a (omega arith)) h.pages;
      stored = laid_triples s e c l.physical None ss out refl h;
    }

-- ---- the columns of a group
abbrev pub AreNeat : List Slot → List ArrowColumn → List Leaf → List OutChunk → Type 0
AreNeat ss [] [] [] = Unit {0}
AreNeat ss (c ∷ cs) (l ∷ ls) (out ∷ outs) = IsFine c l × IsNeat c l ss out × AreNeat ss cs ls outs
AreNeat ss _ _ _ = ⊥

pub neat_columns : (s : Style) (rows : List Slots) (cs : List ArrowColumn) (ls : List Leaf) (es : List Encoding) (ds : List (Option (List (Option Value)))) (outs : List OutChunk)
    → AreFine cs ls → AllByRecursion IsSlot (map fields rows) → AllByRecursion (λ d. d ≡ None) ds → AreLaid s rows cs ls es ds outs → AreNeat (map fields rows) cs ls outs
neat_columns s rows [] [] [] [] [] f a n h = tt
neat_columns s rows [] [] [] [] (o ∷ os) f a n h = absurd h
neat_columns s rows [] [] [] (d ∷ ds) os f a n h = absurd h
neat_columns s rows [] [] (e ∷ es) ds os f a n h = absurd h
neat_columns s rows [] (l ∷ ls) es ds os f a n h = absurd f
neat_columns s rows (c ∷ cs) [] es ds os f a n h = absurd f
neat_columns s rows (c ∷ cs) (l ∷ ls) [] ds os f a n h = absurd h
neat_columns s rows (c ∷ cs) (l ∷ ls) (e ∷ es) [] os f a n h = absurd h
neat_columns s rows (c ∷ cs) (l ∷ ls) (e ∷ es) (d ∷ ds) [] f a n h = absurd h
neat_columns s rows (c ∷ cs) (l ∷ ls) (e ∷ es) (d ∷ ds) (o ∷ os) f a n h =
    (f.0, neat_column s e c l d (map fields rows) o f.0 a n.0 h.0, neat_columns s rows cs ls es ds os f.1 a n.1 h.1)
