use Rattle.std.proofs.Common.{◌≡◌, All, Some, sym, subst}
use Rattle.pq_files.specs.Layout.{OutPage}
use Rattle.pq_tree.specs.declared.types.Encoding.{Encoding}
use Rattle.write_file.specs.Pages.{encoding_view}
use Rattle.write_groups.proofs.Next.{all_so}
use Rattle.write_groups.specs.Given.{to_come}
use Rattle.write_groups.proofs.column.ChunkColumnChunkPages.encoding.Goals as goal

pub returns : goal.returns
returns c = λ version l k h.
    let g = to_come c.args.self.now in
    subst (λ (e : Encoding). All (λ (o : OutPage). encoding_view e ≡ Some o.encoding) k.pages) (sym c.encoding.ensures) (all_so g.options.write_statistics g.encoding g.type g.physical g.way g.entries g.pieces k.pages h.2.pages)
