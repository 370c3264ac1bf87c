use Rattle.std.proofs.Common.{◌≡◌, [], Some, subst}
use Rattle.pq_bitmaps.specs.Called.{Called, GivesRun, bits_called}
use Rattle.pq_bitmaps.proofs.Truths.{ends, gives_run}
use Rattle.pq_bitmaps.proofs.runs.HybridDecoderBitmapIterIterator.next.Goals as goal

pub returns-then-self-eq0-clause-steps : goal.returns-then-self-eq0-clause-steps
returns-then-self-eq0-clause-steps c =
    subst (λ (v : Called). (v.left ≡ 0) × (v.bits ≡ []) × (c.args.self.now ≡ c.args.self.now)) c.self.view_is (ends c.self.inside.cursor.left c.self.inside.cursor.bytes.now c.if-self-eq0.true)

pub returns-clause-steps : goal.returns-clause-steps
returns-clause-steps c =
    subst (λ (v : Called). GivesRun v (Some c.take_part.result) (record { left = c.take_part.new.cursor.left; bits = bits_called c.take_part.new.cursor.left c.take_part.new.cursor.bytes.now })) c.self.view_is
    (gives_run c.self.inside.cursor.left c.take_part.new.cursor.left c.self.inside.cursor.bytes.now c.take_part.new.cursor.bytes.now c.take_part.result c.take_part.ensures.part c.take_part.ensures.ok c.take_part.ensures.err)
