use Rattle.std.proofs.Common.{refl, sym, ap}
use Rattle.pq_pages.specs.Outcomes.{levels_in}
use Rattle.pq_pages.specs.Sources.{Source}
use Rattle.pq_pages.proofs.Ended.{ended, failed, of_levels}
use Rattle.pq_pages.proofs.reader.PageReaderPages.advance.Goals as goal

pub returns-then-self-eq0 : goal.returns-then-self-eq0
returns-then-self-eq0 c =
    ended c.self.inside.max_header_size (levels_in c.self.inside.descriptor) c.self.inside.place c.self.inside.left c.self.inside.bytes.now c.args.self.now.outcomes (ap (λ (s : Source). s.outcomes) (sym c.self.view_is)) c.if-self-eq0.true

pub returns-in-Err : goal.returns-in-Err
returns-in-Err c = (
  refl,
  failed c.self.inside.max_header_size (levels_in c.self.inside.descriptor) c.self.inside.place c.self.inside.left c.left_after-self-inside.result c.self.inside.bytes.now c.args.self.now.outcomes c.in-Err.error
      (ap (λ (s : Source). s.outcomes) (sym c.self.view_is))
      (of_levels c.self.inside.max_header_size (levels_in c.self.inside.descriptor) c.self.inside.place c.self.inside.left c.self.inside.bytes.now c.in-Err.error c.in-Err.ensures.refused)
      c.left_after-self-inside.ensures,
)
