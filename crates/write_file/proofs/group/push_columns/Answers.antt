use Rattle.std.proofs.Common.{◌≡◌, ◌+◌, ◌∙◌, ◌++◌, ◌∷◌, [], ℕ, suc, List, map, take, get_or, sym, ap, subst, arith}
use Rattle.std.proofs.lemmas.List.{map-append, take_all}
use Rattle.footer_write.specs.FooterView.{chunk_view}
use Rattle.std.proofs.Math.ListN.{get_or-map}
use Rattle.std.specs.Prelude.{string_bytes, Err}
use Rattle.columns_base.specs.declared.error.Error.{Error}
use Rattle.pq_tree.specs.Paths.{names_of, path_view}
use Rattle.pq_tree.specs.Physical.{Physical}
use Rattle.pq_tree.specs.Tree.{Leaf}
use Rattle.pq_tree.specs.Views.{physical_view}
use Rattle.pq_files.specs.Layout.{OutChunk}
use Rattle.pq_files.specs.Packed.{AreChunks}
use Rattle.write_file.proofs.Columns.{at_place, one_more, give_lengths, pages_of}
use Rattle.write_file.proofs.Passed.{column_passes}
use Rattle.write_file.proofs.Places.{first_at, is_within, none_behind, rest_behind, one_fails, one_refuses, same_error}
use Rattle.write_file.proofs.group.push_columns.Goals as goal

pub columns-preserved : goal.columns-preserved
columns-preserved g c =
    let v = c.columns.invariant in
    let i = c.columns.i in
    let s = c.in-Some.column in
    let chunk = c.in-Ok.chunk in
    let left = v.rest ∙ c.in-Some.ensures.items in
    let b = is_within c.args.columns.items _ i s left in
    let item = first_at c.args.columns.items _ i s left in
    let total : c.in-Ok-plus.pages ≡ c.columns.pages + chunk.pages = omega (arith, c.in-Ok-plus.ensures.ok, c.get.ensures.is) in
    record {
      within = omega (arith, b);
      few = omega (arith, v.few, c.in-Ok.ensures.few, total);
      most = c.in-Ok.ensures.most;
      rest = rest_behind c.args.columns.items _ i s left;
      pushed = λ version ls cs metas gives.
          let old = v.pushed version ls cs metas gives in
          let at = at_place g.P.ChunkPages.begins version ls cs c.args.columns.items i s gives b item in
          let kind : physical_view c.index-physical.result.now ≡ at.l.physical =
          ap physical_view c.index-physical.ensures ∙ (sym (get_or-map physical_view c.args.leaves.now.physicals.items i c.index-physical.result.now) ∙ (ap (λ (xs : List Physical). get_or xs i (physical_view c.index-physical.result.now)) metas.physicals ∙ at.physical _)) in
          let names : map string_bytes c.deref.result.now ≡ names_of at.l =
          ap (map string_bytes) c.deref.ensures.value ∙ (ap path_view c.index-path.ensures ∙ (sym (get_or-map path_view c.args.leaves.now.paths.items i c.index-path.result.now) ∙ (ap (λ (xs : List (List (List ℕ))). get_or xs i (path_view c.index-path.result.now)) metas.paths ∙ at.names _))) in
          let p = c.in-Ok.ensures.ok version at.l at.c kind names at.gives_it at.some in
          let items : map chunk_view c.push.new.self.items ≡ map chunk_view c.columns.metas.items ++ (chunk_view chunk.meta ∷ []) = ap (map chunk_view) c.in_ok-push.ensures.items ∙ map-append chunk_view c.columns.metas.items (chunk.meta ∷ []) in
          let n : suc i ≡ i + 1 = omega arith in
          let more = one_more version ls cs at.l at.c i c.args.start c.columns.end c.columns.pages chunk.end chunk.pages (g.W.Sink.taken c.args.sink.now) (g.W.Sink.taken c.columns.sink) (g.W.Sink.taken c.push_chunk.new.sink) (map chunk_view c.columns.metas.items) (chunk_view chunk.meta) p.0 p.1 old at.leaves at.chunks p.2 p.3 p.4 p.5 p.6 p.7 in
          rw (sym n, items, total) more;
      later = omega (arith, v.later, c.push_chunk.ensures.later);
    }

pub returns-clause-ok : goal.returns-clause-ok
returns-clause-ok g c = λ version ls cs metas gives.
    let v = c.columns.invariant in
    let p = v.pushed version ls cs metas gives in
    let n = give_lengths g.P.ChunkPages.begins version ls cs c.args.columns.items gives in
    let all = none_behind c.args.columns.items _ c.columns.i v.rest (omega (arith, c.columns.left.rest.ok.0, c.in_default.ensures.cases.0)) in
    let leaves : take c.columns.i ls ≡ ls = take_all c.columns.i ls (omega (arith, n.0, all)) in
    let chunks : take c.columns.i cs ≡ cs = take_all c.columns.i cs (omega (arith, n.1, all)) in
    let metas_are = map chunk_view c.columns.metas.items in (
      p.text,
      p.gained,
      subst (λ (xs : List Leaf). AreChunks version xs cs c.args.start p.text metas_are) leaves (subst (λ (ys : List OutChunk). AreChunks version (take c.columns.i ls) ys c.args.start p.text metas_are) chunks p.are),
      p.end_is,
      p.pages_are ∙ ap pages_of chunks,
    )

pub returns-in-Err-clause-fault : goal.returns-in-Err-clause-fault
returns-in-Err-clause-fault g c = λ h.
    let v = c.columns.invariant in
    let i = c.columns.i in
    let left = v.rest ∙ c.in-Some.ensures.items in
    one_fails g.P.ChunkPages.refuses c.args.columns.items i _ _ _ _ _ (is_within c.args.columns.items _ i _ left) (first_at c.args.columns.items _ i _ left) v.later (c.in-Err.ensures.fault (ap (λ (e : Error). Err e) (same_error _ _ h)))

pub returns-in-Err-clause-refused : goal.returns-in-Err-clause-refused
returns-in-Err-clause-refused g c =
    let v = c.columns.invariant in
    let i = c.columns.i in
    let s = c.in-Some.column in
    let left = v.rest ∙ c.in-Some.ensures.items in
    let b = is_within c.args.columns.items _ i s left in
    let item = first_at c.args.columns.items _ i s left in
    one_refuses g.P.ChunkPages.refuses c.args.columns.items i _ _ _ _ b item (λ h. (
      h.0,
      λ version ls cs metas gives.
          let at = at_place g.P.ChunkPages.begins version ls cs c.args.columns.items i s gives b item in
          column_passes version ls cs at.l at.c i c.args.start c.columns.end c.columns.pages (g.W.Sink.taken c.args.sink.now) (g.W.Sink.taken c.columns.sink) (map chunk_view c.columns.metas.items) (v.pushed version ls cs metas gives) at.leaves at.chunks (h.1 version at.l at.c at.gives_it),
    )) c.in-Err.ensures.refused

-- no count of pages passes where that of the bytes doesn't
pub returns-in-Err-plus-clause-refused : goal.returns-in-Err-plus-clause-refused
returns-in-Err-plus-clause-refused g c = absurd (omega (arith, c.in-Err-plus.ensures.err.1, c.columns.invariant.few, c.in-Ok.ensures.few, c.get.ensures.is, c.in-Ok.ensures.most))
