use Rattle.std.proofs.Common.{◌<◌, ◌∙◌, length, ap, arith, rules}
use Rattle.pq_bitmaps.specs.Filter.{steps_in}
use Rattle.pq_bitmaps.specs.Selected.{Selection}
use Rattle.pq_bitmaps.proofs.Filters.{shorter_part}
use Rattle.pq_bitmaps.proofs.filtered.FilteredHybridRleDecoderIterIterator.next.Goals as goal

pub returns-clause-goes : goal.returns-clause-goes
returns-clause-goes c =
    let same = c.find_interval.ensures.steps ∙ ap (λ (s : Selection). s.steps) c.self.view_is in
    let fewer : length (steps_in c.take_part.new.filter) < length (steps_in c.find_interval.new.filter) = shorter_part _ _ c.take_part.result c.take_part.ensures.steps in
    record { on = λ f. (search rules, search rules, omega (arith, ap length same, fewer)); keeps = search rules; rests = λ f. search rules }
