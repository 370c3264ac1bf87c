use Rattle.std.proofs.Common.{List, ℕ, subst}
use Rattle.rewrite_notes.specs.Notes.{Told}
use Rattle.pq_rewrite.proofs.Lines.{lines_are}
use Rattle.pq_rewrite.proofs.sampling.tell_sampled.Goals as goal

pub returns : goal.returns
returns g c =
    subst (λ (text : List ℕ). Told g.M.Sink.taken g.M.Sink.faults g.M.Sink.wants c.args.notes.now c.tell_sample.new.notes text)
    (lines_are c.args.sampled.now.report c.args.sampled.now.items c.args.count c.requires.report c.requires.items c.requires.natural) c.tell_sample.ensures
