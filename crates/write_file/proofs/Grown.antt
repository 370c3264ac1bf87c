-- One page, chunk or group more.
use Rattle.std.proofs.Common.{◌≡◌, ℕ, suc, ◌+◌, List, [], ◌∷◌, ◌++◌, length, refl, sym, ap, subst, ◌∙◌, append_assoc, append-nil, arith, Option}
use Rattle.std.proofs.lemmas.List.{length-append}
use Rattle.shredding.specs.Slot.{Value}
use Rattle.pq_tree.specs.declared.version.Version.{Version}
use Rattle.pq_tree.specs.Tree.{Leaf}
use Rattle.pq_files.specs.FooterRecord.{ColumnChunk, RowGroup}
use Rattle.pq_files.specs.Layout.{OutPage, OutChunk, OutGroup}
use Rattle.pq_files.specs.Packed.{ArePages, IsWrittenPage, AreChunks, IsWrittenChunk, AreGroups, HasRows}
use Rattle.pq_files.specs.Written.{Place, chunk_record, group_record}

pub pages_more : (version : Version) (l : Leaf) (entries : Option (List Value)) (ps : List OutPage) (p : OutPage) (text t : List ℕ) → ArePages version l entries ps text → IsWrittenPage version l entries p t → ArePages version l entries (ps ++ (p ∷ [])) (text ++ t)
pages_more version l entries [] p text t h w = (t, [], w, refl, ap (λ (s : List ℕ). s ++ t) h ∙ sym (append-nil t))
pages_more version l entries (q ∷ qs) p text t h w =
    (h.0, h.1 ++ t, h.2, pages_more version l entries qs p h.1 t h.3 w, ap (λ (s : List ℕ). s ++ t) h.4 ∙ append_assoc h.0 h.1 t)

pub chunks_more : (version : Version) (ls : List Leaf) (cs : List OutChunk) (l : Leaf) (c : OutChunk) (start : ℕ) (text t : List ℕ) (ms : List ColumnChunk) (m : ColumnChunk) (w : Place) → AreChunks version ls cs start text ms → w.start ≡ start + length text → IsWrittenChunk version l c w t → m ≡ chunk_record l c w → AreChunks version (ls ++ (l ∷ [])) (cs ++ (c ∷ [])) start (text ++ t) (ms ++ (m ∷ []))
chunks_more version [] [] l c start text t ms m w h e k r =
    let n : w.start ≡ start = e ∙ omega (arith, ap length h.0) in
    let whole : text ++ t ≡ t ++ [] = ap (λ (s : List ℕ). s ++ t) h.0 ∙ sym (append-nil t) in
    subst (λ (xs : List ColumnChunk). AreChunks version (l ∷ []) (c ∷ []) start (text ++ t) (xs ++ (m ∷ []))) (sym h.1) (t, [], w, n, k, r, (refl, refl), whole)
chunks_more version [] (d ∷ cs) l c start text t ms m w h e k r = absurd h
chunks_more version (j ∷ ls) [] l c start text t ms m w h e k r = absurd h
chunks_more version (j ∷ ls) (d ∷ cs) l c start text t [] m w h e k r = absurd h
chunks_more version (j ∷ ls) (d ∷ cs) l c start text t (x ∷ ms) m w h e k r =
    let n : w.start ≡ start + length h.0 + length h.1 = omega (arith, e, ap length h.7, length-append h.0 h.1) in
    (h.0, h.1 ++ t, h.2, h.3, h.4, h.5, chunks_more version ls cs l c (start + length h.0) h.1 t ms m w h.6 n k r, ap (λ (s : List ℕ). s ++ t) h.7 ∙ append_assoc h.0 h.1 t)

pub groups_more : (version : Version) (ls : List Leaf) (gs : List OutGroup) (g : OutGroup) (i start : ℕ) (text t : List ℕ) (rs : List RowGroup) (r : RowGroup) (ms : List ColumnChunk) → AreGroups version ls gs i start text rs → HasRows g → AreChunks version ls g.chunks (start + length text) t ms → r ≡ group_record (i + length gs) ms g.rows (start + length text) (length t) → AreGroups version ls (gs ++ (g ∷ [])) i start (text ++ t) (rs ++ (r ∷ []))
groups_more version ls [] g i start text t rs r ms h rows k e =
    let n : start + length text ≡ start = omega (arith, ap length h.0) in
    let j : i + 0 ≡ i = omega arith in
    let record_is : r ≡ group_record i ms g.rows start (length t) = e ∙ (λ x. group_record (j x) ms g.rows (n x) (length t)) in
    let whole : text ++ t ≡ t ++ [] = ap (λ (s : List ℕ). s ++ t) h.0 ∙ sym (append-nil t) in
    subst (λ (xs : List RowGroup). AreGroups version ls (g ∷ []) i start (text ++ t) (xs ++ (r ∷ []))) (sym h.1)
    (t, [], ms, rows, subst (λ (s : ℕ). AreChunks version ls g.chunks s t ms) n k, record_is, (refl, refl), whole)
groups_more version ls (f ∷ gs) g i start text t [] r ms h rows k e = absurd h
groups_more version ls (f ∷ gs) g i start text t (x ∷ rs) r ms h rows k e =
    let n : start + length text ≡ start + length h.0 + length h.1 = omega (arith, ap length h.7, length-append h.0 h.1) in
    let j : i + suc (length gs) ≡ suc i + length gs = omega arith in
    let record_is : r ≡ group_record (suc i + length gs) ms g.rows (start + length h.0 + length h.1) (length t) = e ∙ (λ y. group_record (j y) ms g.rows (n y) (length t)) in (
      h.0,
      h.1 ++ t,
      h.2,
      h.3,
      h.4,
      h.5,
      groups_more version ls gs g (suc i) (start + length h.0) h.1 t rs r ms h.6 rows (subst (λ (s : ℕ). AreChunks version ls g.chunks s t ms) n k) record_is,
      ap (λ (s : List ℕ). s ++ t) h.7 ∙ append_assoc h.0 h.1 t,
    )
