-- The columns of a group, one after another.
use Rattle.std.proofs.Common.{◌≡◌, ℕ, zero, suc, ◌+◌, ◌<◌, List, [], ◌∷◌, ◌++◌, length, map, take, refl, sym, ap, subst, ◌∙◌, arith, Option, get_or}
use Rattle.std.specs.Prelude.{sum_by}
use Rattle.std.specs.Io.KnownBytes.{Appends}
use Rattle.std.proofs.KnownBytes.{Appends-trans}
use Rattle.std.proofs.lemmas.List.{length-append}
use Rattle.std.proofs.lemmas.List.Sums.{sum_by-append, sum_by-cons}
use Rattle.pq_tree.specs.Paths.{names_of}
use Rattle.pq_tree.specs.Physical.{Physical}
use Rattle.pq_tree.specs.Tree.{Leaf}
use Rattle.pq_tree.specs.declared.version.Version.{Version}
use Rattle.pq_files.specs.FooterRecord.{ColumnChunk}
use Rattle.pq_files.specs.Layout.{OutChunk}
use Rattle.pq_files.specs.Packed.{AreChunks, IsWrittenChunk}
use Rattle.pq_files.specs.Written.{Place, chunk_record}
use Rattle.write_file.proofs.Grown.{chunks_more}
use Rattle.write_file.specs.Pages.{AllGive}

abbrev pub pages_of : List OutChunk → ℕ
pages_of cs = sum_by (λ c. length c.pages) cs

-- the first columns are in the sink
pub record Pushed (version : Version) (ls : List Leaf) (cs : List OutChunk) (i start end pages : ℕ) (before after : Option (List ℕ)) (metas : List ColumnChunk) : Type 0 where
  pub text : List ℕ
  pub gained : Appends before after text
  pub are : AreChunks version (take i ls) (take i cs) start text metas
  pub end_is : end ≡ start + length text
  pub pages_are : pages ≡ pages_of (take i cs)

-- the leaf, the chunk and the column at a place
pub record At {S : Type 0} (gives : S → Version → Leaf → OutChunk → Type 0) (version : Version) (ls : List Leaf) (cs : List OutChunk) (ss : List S) (i : ℕ) (s : S) : Type 0 where
  pub l : Leaf
  pub c : OutChunk
  pub leaves : take (suc i) ls ≡ take i ls ++ (l ∷ [])
  pub chunks : take (suc i) cs ≡ take i cs ++ (c ∷ [])
  pub gives_it : gives s version l c
  pub some : 0 < length c.pages
  -- what is stated of the leaf there
  pub physical : (y : Physical) → get_or (map (λ (x : Leaf). x.physical) ls) i y ≡ l.physical
  pub names : (y : List (List ℕ)) → get_or (map names_of ls) i y ≡ names_of l

pub at_place : {S : Type 0} (gives : S → Version → Leaf → OutChunk → Type 0) (version : Version) (ls : List Leaf) (cs : List OutChunk) (ss : List S) (i : ℕ) (s : S) → AllGive gives version ls cs ss → i < length ss → s ≡ get_or ss i s → At gives version ls cs ss i s
at_place gives version [] [] [] i s h b e = absurd (omega (arith, b))
at_place gives version [] [] (t ∷ ss) i s h b e = absurd h
at_place gives version [] (c ∷ cs) ss i s h b e = absurd h
at_place gives version (l ∷ ls) [] ss i s h b e = absurd h
at_place gives version (l ∷ ls) (c ∷ cs) [] i s h b e = absurd h
at_place gives version (l ∷ ls) (c ∷ cs) (t ∷ ss) zero s h b e = record {
  l = l;
  c = c;
  leaves = refl;
  chunks = refl;
  gives_it = subst (λ (x : _). gives x version l c) (sym e) h.0;
  some = h.1;
  physical = λ y. refl;
  names = λ y. refl;
}
at_place {S} gives version (l ∷ ls) (c ∷ cs) (t ∷ ss) (suc i) s h b e =
    let r = at_place gives version ls cs ss i s h.2 (omega (arith, b)) e in
    record {
      l = r.l;
      c = r.c;
      leaves = ap (λ (xs : List Leaf). l ∷ xs) r.leaves;
      chunks = ap (λ (xs : List OutChunk). c ∷ xs) r.chunks;
      gives_it = r.gives_it;
      some = r.some;
      physical = r.physical;
      names = r.names;
    }

pub give_lengths : {S : Type 0} (gives : S → Version → Leaf → OutChunk → Type 0) (version : Version) (ls : List Leaf) (cs : List OutChunk) (ss : List S) → AllGive gives version ls cs ss → (length ls ≡ length ss) × (length cs ≡ length ss)
give_lengths gives version [] [] [] h = (refl, refl)
give_lengths gives version [] [] (t ∷ ss) h = absurd h
give_lengths gives version [] (c ∷ cs) ss h = absurd h
give_lengths gives version (l ∷ ls) [] ss h = absurd h
give_lengths gives version (l ∷ ls) (c ∷ cs) [] h = absurd h
give_lengths gives version (l ∷ ls) (c ∷ cs) (t ∷ ss) h = let r = give_lengths gives version ls cs ss h.2 in (ap suc r.0, ap suc r.1)

-- one column more
pub one_more : (version : Version) (ls : List Leaf) (cs : List OutChunk) (l : Leaf) (c : OutChunk) (i start end pages more count : ℕ) (before middle after : Option (List ℕ)) (metas : List ColumnChunk) (meta : ColumnChunk) (t : List ℕ) (w : Place) → Pushed version ls cs i start end pages before middle metas → take (suc i) ls ≡ take i ls ++ (l ∷ []) → take (suc i) cs ≡ take i cs ++ (c ∷ []) → Appends middle after t → w.start ≡ end → IsWrittenChunk version l c w t → meta ≡ chunk_record l c w → more ≡ end + length t → count ≡ length c.pages → Pushed version ls cs (suc i) start more (pages + count) before after (metas ++ (meta ∷ []))
one_more version ls cs l c i start end pages more count before middle after metas meta t w h a b gained place is m n k = record {
  text = h.text ++ t;
  gained = Appends-trans before middle after h.text t h.gained gained;
  are = subst (λ (xs : List Leaf). AreChunks version xs (take (suc i) cs) start (h.text ++ t) (metas ++ (meta ∷ []))) (sym a)
      (subst (λ (xs : List OutChunk). AreChunks version (take i ls ++ (l ∷ [])) xs start (h.text ++ t) (metas ++ (meta ∷ []))) (sym b)
      (chunks_more version (take i ls) (take i cs) l c start h.text t metas meta w h.are (place ∙ h.end_is) is m));
  end_is = omega (arith, n, h.end_is, length-append h.text t);
  pages_are = omega (arith, h.pages_are, k, ap pages_of b, sum_by-append (λ (x : OutChunk). length x.pages) (take i cs) (c ∷ []), sum_by-cons (λ (x : OutChunk). length x.pages) c []);
}
