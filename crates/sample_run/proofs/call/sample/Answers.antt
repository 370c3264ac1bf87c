use Rattle.std.proofs.Common.{◌≡◌, ◌<◌, ◌^◌, ℕ, pos, ap, subst, sym, ◌∙◌}
use Rattle.rewrite_whole.specs.Asks.{counts_of}
use Rattle.rewrite_whole.specs.Views.{Sees}
use Rattle.sample_rows.specs.Present.{Items, sample_items}
use Rattle.sample_rows.specs.Totals.{totals_view}
use Rattle.sample_run.proofs.Anew.{always, then}
use Rattle.sample_run.proofs.Naturals.{natural_sum}
use Rattle.sample_run.proofs.call.sample.Goals as goal
use Rattle.sample_run.specs.Files.{sample_counts, sample_seen}

pub returns-in-Ok-clause-report : goal.returns-in-Ok-clause-report
returns-in-Ok-clause-report g c =
    then (λ s. s.report ≡ c.in-Ok.report) (λ s. counts_of s.report ≡ sample_counts c.args.count) c.read_sampled.result (λ s e. ap counts_of e ∙ c.in-Ok.ensures.ok.report_is) c.read_sampled.ensures.report

pub returns-in-Ok-clause-natural : goal.returns-in-Ok-clause-natural
returns-in-Ok-clause-natural g c =
    then (λ s. totals_view s.items ≡ sample_items c.args.count) (λ s. (n : ℕ) × (s.items.sum ≡ pos n) × (n < 2 ^ 64)) c.read_sampled.result
    (λ s e. subst (λ (i : Items). (n : ℕ) × (i.sum ≡ pos n) × (n < 2 ^ 64)) (sym e) (natural_sum c.args.count c.requires.few)) c.read_sampled.ensures.items

pub returns-in-Ok-clause-seen : goal.returns-in-Ok-clause-seen
returns-in-Ok-clause-seen g c = always (Sees (g.V.View.seen c.args.view.now) (g.V.View.seen c.rewrite_rows.new.view) (sample_seen c.args.count)) c.read_sampled.result c.in-Ok.ensures.ok.seen
