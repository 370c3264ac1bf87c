use Rattle.std.proofs.Common.{◌≡◌, sym, ap, subst, ◌∙◌, rules}
use Rattle.pq_tree.specs.Columns.{Column}
use Rattle.pq_tree.specs.Views.{natural_part}
use Rattle.pq_pages.specs.Outcomes.{Levels, levels_in}
use Rattle.pq_pages.specs.Reading.{at_start, pages_in}
use Rattle.pq_pages.specs.ReadsChunk.{ReadsChunk}
use Rattle.pq_pages.specs.Sources.{Source}
use Rattle.pq_pages.proofs.ChunkRead.{chunk_read}
use Rattle.pq_pages.proofs.chunk.get_page_iterator.Goals as goal

levels_of : Column → Levels
levels_of k = record { repetition = natural_part k.max_repetition; definition = natural_part k.max_definition }

pub returns-in-Ok-clause-ok : goal.returns-in-Ok-clause-ok
unfolding levels_of
returns-in-Ok-clause-ok c =
    let max = c.args.max_header_size in
    let n = c.in-Some-chunk_bytes.num_values in
    let text = c.in-Some-chunk_bytes.bytes.now in
    let levels : levels_in c.in-Ok.descriptor ≡ levels_in c.in-Some.descriptor = ap levels_of c.in-Ok.ensures.same in
    let outcomes : c.new.result.outcomes ≡ pages_in max (levels_in c.in-Some.descriptor) at_start n text =
    ap (λ (s : Source). s.outcomes) c.new.ensures ∙ ap (λ (l : Levels). pages_in max l at_start n text) levels in
    record {
      column = c.in-Some.descriptor;
      is_column = c.in-Some.is;
      here = search rules;
      plain = search rules;
      n = n;
      text = text;
      placed = c.in-Some-chunk_bytes.ensures;
      outcomes = outcomes;
      reads = subst (ReadsChunk max (levels_in c.in-Some.descriptor) n text) (sym outcomes) (chunk_read max (levels_in c.in-Some.descriptor) n text);
      lends_none = ap (λ (s : Source). s.lent) c.new.ensures;
    }
