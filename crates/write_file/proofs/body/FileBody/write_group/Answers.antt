use Rattle.std.proofs.Common.{◌≡◌, inl, inr, subst, ◌+◌, ◌∙◌, ℕ, length, map, pos, ap, refl, arith, w64, SFits, rules}
use Rattle.std.proofs.lemmas.Int.{to_z-of_z}
use Rattle.footer_write.specs.FooterView.{chunk_view, row_group_view}
use Rattle.pq_tree.specs.Tree.{columns_of}
use Rattle.pq_files.specs.Written.{group_record}
use Rattle.write_file.proofs.Reasons.{third}
use Rattle.write_file.proofs.Whole.{behind_front, grown}
use Rattle.write_counts.specs.Passing.{SomeColumnPasses}
use Rattle.write_file.proofs.body.FileBody.write_group.Goals as goal

pub returns-clause-ok : goal.returns-clause-ok
returns-clause-ok g c = λ before tree version groups k h gives rows count.
    let b = c.in_ok-begin.ensures in
    let old = c.begin.new.self in
    let h' = b.ok before tree version groups h in
    let p = c.in-Ok-push_columns.ensures.ok version _ k.chunks h'.leaves gives in
    let total : c.in-Ok.rows.total ≡ old.rows + k.rows = omega (arith, c.in-Ok.ensures.ok.1, b.kept.3, count) in
    let group_rows : c.in-Ok.rows.group ≡ k.rows = omega (arith, c.in-Ok.ensures.ok.0, count) in
    let place : c.len-place.result ≡ length old.metadata.row_groups.items = omega (arith, c.len-place.ensures, old.metadata.row_groups.ok.0) in
    let told = c.group_from-group.ensures (length p.0) p.3 in
    let fits : SFits w64 c.stated-self.result = search rules in
    grown g.W.Sink.taken before tree version groups k old _ c.group_from-group.result _ p.0 h' b.begun rows p.2 p.1
    (told ∙ (λ i. group_record (place i) (map chunk_view c.in-Ok-push_columns.chunks.metas.items) (group_rows i) old.pushed (length p.0)))
    (record {
      schema = refl;
      number = refl;
      author = refl;
      row_groups = c.in_ok-push.ensures.items;
      stated = to_z-of_z w64 c.stated-self.result fits ∙ (c.stated-self.ensures ∙ ap (λ (n : ℕ). pos n) total);
      version = refl;
      leaves = refl;
      rows_are = total;
      pushed = p.3;
      data_pages_are = omega (arith, c.in-Ok-plus.ensures.ok, c.get.ensures.is, p.4);
    })
    (omega (arith, c.in-Ok-push_columns.ensures.few, p.3, p.4))

pub returns-in-Err-push_columns-clause-refused : goal.returns-in-Err-push_columns-clause-refused
returns-in-Err-push_columns-clause-refused g c = third (λ h. (
  h.0,
  λ before tree version groups k w gives count.
      let b = c.in_ok-begin.ensures in
      let now = b.ok before tree version groups w in
      inr (
        now.pages,
        map row_group_view c.begin.new.self.metadata.row_groups.items,
        now.are,
        subst (λ (n : ℕ). SomeColumnPasses version (columns_of tree) k.chunks n) (behind_front g.W.Sink.taken before tree version groups c.begin.new.self now b.begun)
            (h.1 version (columns_of tree) k.chunks now.leaves gives),
      ),
)) c.in-Err-push_columns.ensures.refused

-- the count of pages passes nothing where that of the bytes does not
pub returns-in-Err-plus-clause-refused : goal.returns-in-Err-plus-clause-refused
returns-in-Err-plus-clause-refused g c = inr (inr (inl (
  c.in-Err-plus.ensures.err.0,
  λ before tree version groups k w gives count.
      let now = c.in_ok-begin.ensures.ok before tree version groups w in
      let chunks = c.in-Ok-push_columns.ensures in
      absurd (omega (arith, c.in-Err-plus.ensures.err.1, c.get.ensures.is, now.few, chunks.few, chunks.most)),
)))
