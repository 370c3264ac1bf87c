-- What passes a footer's numbers, as the loops find it.
use Rattle.std.proofs.Common.{◌≡◌, ◌⊎◌, inl, inr, ℕ, suc, ◌+◌, ◌<◌, List, [], ◌∷◌, ◌++◌, length, take, drop, refl, sym, ap, subst, ◌∙◌, append_assoc, append-nil, arith, Option}
use Rattle.std.specs.Prelude.{sum_by}
use Rattle.std.proofs.lemmas.List.{length-append, take-append-drop}
use Rattle.std.proofs.lemmas.List.Sums.{sum_by-append, sum_by-cons}
use Rattle.shredding.specs.Slot.{Value}
use Rattle.pq_tree.specs.declared.version.Version.{Version}
use Rattle.pq_tree.specs.Tree.{Leaf}
use Rattle.pq_files.specs.FooterRecord.{ColumnChunk}
use Rattle.pq_files.specs.Layout.{OutPage, OutChunk}
use Rattle.pq_files.specs.Packed.{HasDictionary, ArePages, IsWrittenPage}
use Rattle.pq_files.specs.Room.{max_count}
use Rattle.pq_files.specs.Written.{pairs_in}
use Rattle.write_file.proofs.Columns.{Pushed}
use Rattle.write_file.proofs.Going.{Going, pairs_of}
use Rattle.write_file.proofs.Grown.{pages_more}
use Rattle.write_file.specs.Pages.{with_page}
use Rattle.write_counts.specs.Passing.{ColumnPasses, SomeColumnPasses}

-- with the next page the pairs pass
pub pairs_pass : {S : Type 0} (gives : S → Version → Leaf → OutChunk → Type 0) (version : Version) (l : Leaf) (c : OutChunk) (old : S) (before after : Option (List ℕ)) (bytes pairs pages : ℕ) (o : OutPage) (rest : OutChunk) (h : Going gives version l c old before after bytes pairs pages) → h.rest ≡ with_page o rest → max_count < pairs + length o.triples → ColumnPasses version l c 0
pairs_pass gives version l c old before after bytes pairs pages o rest h e p =
    let size : OutPage → ℕ = λ p. length p.triples in
    let all : pairs_in c ≡ pairs_of h.done + (length o.triples + pairs_of rest.pages) =
    ap (sum_by size) (h.whole ∙ ap (λ (r : OutChunk). h.done ++ r.pages) e) ∙ (sum_by-append size h.done (o ∷ rest.pages) ∙ ap (λ (n : ℕ). pairs_of h.done + n) (sum_by-cons size o rest.pages)) in
    inl (omega (arith, p, all, h.pairs_are))

-- with the next page the bytes pass
pub bytes_pass : {S : Type 0} (gives : S → Version → Leaf → OutChunk → Type 0) (version : Version) (l : Leaf) (c : OutChunk) (old : S) (before after : Option (List ℕ)) (bytes pairs pages : ℕ) (o : OutPage) (rest : OutChunk) (t : List ℕ) (h : Going gives version l c old before after bytes pairs pages) → h.rest ≡ with_page o rest → (dictionary : List ℕ) → HasDictionary l c.entries dictionary → IsWrittenPage version l h.rest.entries o t → max_count < bytes + length t → ColumnPasses version l c 0
bytes_pass gives version l c old before after bytes pairs pages o rest t h e dictionary has w p =
    inr (record {
      dictionary = dictionary;
      has_dictionary = has;
      first = h.done ++ (o ∷ []);
      rest = rest.pages;
      parts = h.whole ∙ (ap (λ (r : OutChunk). h.done ++ r.pages) e ∙ sym (append_assoc h.done (o ∷ []) rest.pages));
      text = h.text ++ t;
      are = pages_more version l c.entries h.done o h.text t h.are (subst (λ (es : Option (List Value)). IsWrittenPage version l es o t) h.entries w);
      passes = omega (arith, p, h.bytes_are, length-append h.text t);
    })

-- from a place on as from the first
pub from_place : (version : Version) (l : Leaf) (c : OutChunk) (start : ℕ) → ColumnPasses version l c 0 → ColumnPasses version l c start
from_place version l c start (inl p) = inl p
from_place version l c start (inr h) = inr (record {
  dictionary = h.dictionary;
  has_dictionary = h.has_dictionary;
  first = h.first;
  rest = h.rest;
  parts = h.parts;
  text = h.text;
  are = h.are;
  passes = omega (arith, h.passes);
})

-- ---- the next page of a column

pub page_passes : {S : Type 0} (gives : S → Version → Leaf → OutChunk → Type 0) (version : Version) (l : Leaf) (c : OutChunk) (old : S) (before after : Option (List ℕ)) (bytes pairs pages : ℕ) (o : OutPage) (rest : OutChunk) (h : Going gives version l c old before after bytes pairs pages) → h.rest ≡ with_page o rest → (dictionary : List ℕ) → HasDictionary l c.entries dictionary → (max_count < length o.triples) ⊎ ((t : List ℕ) × IsWrittenPage version l h.rest.entries o t × (max_count < length t)) → ColumnPasses version l c 0
page_passes gives version l c old before after bytes pairs pages o rest h e dictionary has (inl p) = pairs_pass gives version l c old before after bytes pairs pages o rest h e (omega (arith, p))
page_passes gives version l c old before after bytes pairs pages o rest h e dictionary has (inr (t, w, p)) = bytes_pass gives version l c old before after bytes pairs pages o rest t h e dictionary has w (omega (arith, p))

-- with this page the numbers pass
pub sums_pass : {S : Type 0} (gives : S → Version → Leaf → OutChunk → Type 0) (version : Version) (l : Leaf) (c : OutChunk) (old : S) (before after : Option (List ℕ)) (bytes pairs pages more count : ℕ) (o : OutPage) (rest : OutChunk) (t : List ℕ) (h : Going gives version l c old before after bytes pairs pages) → h.rest ≡ with_page o rest → (dictionary : List ℕ) → HasDictionary l c.entries dictionary → more ≡ length t → count ≡ length o.triples → IsWrittenPage version l h.rest.entries o t → (max_count < bytes + more) ⊎ (max_count < pairs + count) → ColumnPasses version l c 0
sums_pass gives version l c old before after bytes pairs pages more count o rest t h e dictionary has n k w (inl p) = bytes_pass gives version l c old before after bytes pairs pages o rest t h e dictionary has w (omega (arith, p, n))
sums_pass gives version l c old before after bytes pairs pages more count o rest t h e dictionary has n k w (inr p) = pairs_pass gives version l c old before after bytes pairs pages o rest h e (omega (arith, p, k))

-- the whole column is in the sink, and its bytes pass
pub whole_passes : (version : Version) (l : Leaf) (c : OutChunk) (start : ℕ) (dictionary text : List ℕ) → HasDictionary l c.entries dictionary → ArePages version l c.entries c.pages text → max_count < start + length dictionary + length text → ColumnPasses version l c start
whole_passes version l c start dictionary text has are p = inr (record {
  dictionary = dictionary;
  has_dictionary = has;
  first = c.pages;
  rest = [];
  parts = sym (append-nil c.pages);
  text = text;
  are = are;
  passes = p;
})

-- the bytes of the dictionary page pass
pub dictionary_passes : (version : Version) (l : Leaf) (c : OutChunk) (start : ℕ) (dictionary : List ℕ) → HasDictionary l c.entries dictionary → max_count < start + length dictionary → ColumnPasses version l c start
dictionary_passes version l c start dictionary has p = inr (record {
  dictionary = dictionary;
  has_dictionary = has;
  first = [];
  rest = c.pages;
  parts = refl;
  text = [];
  are = refl;
  passes = omega (arith, p);
})

-- ---- a column behind others

pub split_at : {A : Type 0} (xs : List A) (i : ℕ) (x : A) → take (suc i) xs ≡ take i xs ++ (x ∷ []) → xs ≡ take i xs ++ (x ∷ drop (suc i) xs)
split_at xs i x e = sym (take-append-drop (suc i) xs) ∙ (ap (λ ys. ys ++ drop (suc i) xs) e ∙ append_assoc (take i xs) (x ∷ []) (drop (suc i) xs))

pub column_passes : (version : Version) (ls : List Leaf) (cs : List OutChunk) (l : Leaf) (c : OutChunk) (i start end pages : ℕ) (before after : Option (List ℕ)) (metas : List ColumnChunk) → Pushed version ls cs i start end pages before after metas → take (suc i) ls ≡ take i ls ++ (l ∷ []) → take (suc i) cs ≡ take i cs ++ (c ∷ []) → ColumnPasses version l c end → SomeColumnPasses version ls cs start
column_passes version ls cs l c i start end pages before after metas h a b p = record {
  first_leaves = take i ls;
  l = l;
  other_leaves = drop (suc i) ls;
  leaves = split_at ls i l a;
  first = take i cs;
  c = c;
  others = drop (suc i) cs;
  chunks = split_at cs i c b;
  text = h.text;
  metas = metas;
  are = h.are;
  passes = subst (λ (n : ℕ). ColumnPasses version l c n) h.end_is p;
}
