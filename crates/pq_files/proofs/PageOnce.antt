-- A page has one reading.
use Rattle.std.proofs.Common.{◌≡◌, ◌⊎◌, ℕ, List, map, length, Option, Some, None, nat_eq, sym, ap, subst, ◌∙◌, inl, inr}
use Rattle.std.specs.Prelude.{filter_map, count_by}
use Rattle.std.proofs.lemmas.List.{length-map}
use Rattle.std.proofs.lemmas.Option.{same_Some}
use Rattle.shredding.specs.Slot.{Value}
use Rattle.shredding.specs.Shred.{Triple}
use Rattle.pq_metadata.specs.Header.{Header, data_page, data_page_2, dictionary_page}
use Rattle.pq_files.specs.Indices.{IsIndexed}
use Rattle.pq_files.specs.Page.{IsPage, IsCounted, HasEncoding, Encoding, plain, dictionary, delta, delta_length, IsSpelled}
use Rattle.pq_numbers.specs.Texts.{Begins}
use Rattle.pq_tree.specs.Tree.{Leaf, max_definition, max_repetition}
use Rattle.pq_files.specs.Delta.{AreDeltas}
use Rattle.pq_tree.specs.Physical.{int32, int64}
use Rattle.std.specs.Int.{w32, w64}
use Rattle.pq_files.proofs.DeltasOnce.{deltas_same, lengths_same}
use Rattle.pq_files.proofs.IndicesOnce.{indexed_same}
use Rattle.pq_files.proofs.PlainOnce.{plain_same}
use Rattle.pq_files.proofs.Triples.{IsPresent, count_present, triples_same}
use Rattle.pq_files.proofs.Unique.{Every, every, split_same, levels_same}

counted_same : (h : Header) (ts us : List Triple) → IsCounted h ts → IsCounted h us → length ts ≡ length us
counted_same (data_page h) ts us a b = sym a ∙ b
counted_same (data_page_2 h) ts us a b = sym a.0 ∙ b.0
counted_same (dictionary_page h) ts us a b = absurd a

pub encoding_same : (h : Header) (e f : Encoding) → HasEncoding h e → HasEncoding h f → e ≡ f
encoding_same (data_page h) e f a b = same_Some e f (sym a ∙ b)
encoding_same (data_page_2 h) e f a b = same_Some e f (sym a ∙ b)
encoding_same (dictionary_page h) e f a b = absurd a

without_kind : (l : Leaf) (entries : List Value) (section : List ℕ) (vs : List Value) → Begins (IsSpelled dictionary l (Some entries)) section vs → Begins (IsIndexed entries) section vs
without_kind l entries section vs b = record { text = b.text; rest = b.rest; parts = b.parts; spells = b.spells.1 }

dictionary_same : (l : Leaf) (entries : Option (List Value)) (section section' : List ℕ) (vs ws : List Value) → section ≡ section' → Begins (IsSpelled dictionary l entries) section vs → Begins (IsSpelled dictionary l entries) section' ws → length vs ≡ length ws → vs ≡ ws
dictionary_same l None section section' vs ws e a b n = absurd a.spells
dictionary_same l (Some entries) section section' vs ws e a b n = indexed_same entries section section' vs ws e (without_kind l entries section vs a) (without_kind l entries section' ws b) n

numbers_same : (l : Leaf) (section section' : List ℕ) (vs ws : List Value) (entries : Option (List Value)) → section ≡ section' → Begins (IsSpelled delta l entries) section vs → Begins (IsSpelled delta l entries) section' ws → length vs ≡ length ws → vs ≡ ws
numbers_same l section section' vs ws entries e a b n = either a.spells b.spells
  where
    narrow_is_wide : l.physical ≡ int32 → l.physical ≡ int64 → ⊥
    narrow_is_wide p q = cc (p, q)

    either : ((l.physical ≡ int32) × AreDeltas w32 a.text vs) ⊎ ((l.physical ≡ int64) × AreDeltas w64 a.text vs) → ((l.physical ≡ int32) × AreDeltas w32 b.text ws) ⊎ ((l.physical ≡ int64) × AreDeltas w64 b.text ws) → vs ≡ ws
    either (inl h) (inl k) = deltas_same w32 section section' vs ws e (record { text = a.text; rest = a.rest; parts = a.parts; spells = h.1 }) (record { text = b.text; rest = b.rest; parts = b.parts; spells = k.1 }) n
    either (inr h) (inr k) = deltas_same w64 section section' vs ws e (record { text = a.text; rest = a.rest; parts = a.parts; spells = h.1 }) (record { text = b.text; rest = b.rest; parts = b.parts; spells = k.1 }) n
    either (inl h) (inr k) = absurd (narrow_is_wide h.0 k.0)
    either (inr h) (inl k) = absurd (narrow_is_wide k.0 h.0)

values_same : (l : Leaf) (entries : Option (List Value)) (e : Encoding) (section section' : List ℕ) (vs ws : List Value) → section ≡ section' → Begins (IsSpelled e l entries) section vs → Begins (IsSpelled e l entries) section' ws → length vs ≡ length ws → vs ≡ ws
values_same l entries plain section section' vs ws q a b n = plain_same l.physical section section' vs ws q a b n
values_same l entries dictionary section section' vs ws q a b n = dictionary_same l entries section section' vs ws q a b n
values_same l entries delta section section' vs ws q a b n = numbers_same l section section' vs ws entries q a b n
values_same l entries delta_length section section' vs ws q a b n =
    lengths_same section section' vs ws q (record { text = a.text; rest = a.rest; parts = a.parts; spells = a.spells.1 }) (record { text = b.text; rest = b.rest; parts = b.parts; spells = b.spells.1 }) n

pub page_same : (l : Leaf) (entries : Option (List Value)) (h : Header) (body : List ℕ) (ts us : List Triple) → IsPage l entries h body ts → IsPage l entries h body us → ts ≡ us
page_same l entries h body ts us a b =
    let s = split_same l h body a.sections b.sections a.split b.split in
    let n : length ts ≡ length us = counted_same h ts us a.counted b.counted in
    let rn : length (map (λ (t : Triple). t.repetition) ts) ≡ length (map (λ (t : Triple). t.repetition) us) = length-map ts (λ (t : Triple). t.repetition) ∙ n ∙ sym (length-map us (λ (t : Triple). t.repetition)) in
    let dn : length (map (λ (t : Triple). t.definition) ts) ≡ length (map (λ (t : Triple). t.definition) us) = length-map ts (λ (t : Triple). t.definition) ∙ n ∙ sym (length-map us (λ (t : Triple). t.definition)) in
    let rs = levels_same (max_repetition l) a.sections.repetition b.sections.repetition (map (λ t. t.repetition) ts) (map (λ t. t.repetition) us) s.repetition a.repetitions b.repetitions rn in
    let ds = levels_same (max_definition l) a.sections.definition b.sections.definition (map (λ t. t.definition) ts) (map (λ t. t.definition) us) s.definition a.definitions b.definitions dn in
    let ps : Every (IsPresent (max_definition l)) ts = every (IsPresent (max_definition l)) ts a.present in
    let qs : Every (IsPresent (max_definition l)) us = every (IsPresent (max_definition l)) us b.present in
    let vn : length (filter_map (λ (t : Triple). t.value) ts) ≡ length (filter_map (λ (t : Triple). t.value) us) =
    count_present (max_definition l) ts ps ∙ ap (λ (xs : List ℕ). count_by (λ k. nat_eq k (max_definition l)) xs) ds ∙ sym (count_present (max_definition l) us qs) in
    let e : b.encoding ≡ a.encoding = encoding_same h b.encoding a.encoding b.has_encoding a.has_encoding in
    let bv : Begins (IsSpelled a.encoding l entries) b.sections.values (filter_map (λ (t : Triple). t.value) us) = subst (λ (f : Encoding). Begins (IsSpelled f l entries) b.sections.values (filter_map (λ (t : Triple). t.value) us)) e b.values in
    let vs = values_same l entries a.encoding a.sections.values b.sections.values (filter_map (λ t. t.value) ts) (filter_map (λ t. t.value) us) s.values a.values bv vn in
    triples_same (max_definition l) ts us ps qs rs ds vs
