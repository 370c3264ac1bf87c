use Rattle.std.proofs.Common.{◌≡◌, ap, arith, subst, ◌∙◌}
use Rattle.std.proofs.lemmas.Result.{IfErr-weaker, IfOk-weaker}
use Rattle.read_column.specs.Deltas.{HasFault, present_in}
use Rattle.read_column.specs.Opened.{sections_in}
use Rattle.read_column.proofs.Pairs.{few-present}
use Rattle.read_column.proofs.Widths.{pairs-same}
use Rattle.read_column.proofs.page.OpenPage.present.Goals as goal

pub count_present-requires : goal.count_present-requires
count_present-requires c = let h = few-present c.args.self.now c.in-Ok.pairs c.in-Ok.ensures in omega (arith, h, c.requires.counted)

pub returns-in-Ok-clause-ok : goal.returns-in-Ok-clause-ok
returns-in-Ok-clause-ok c items are =
    let same : c.in-Ok.pairs ≡ items = pairs-same (sections_in c.args.self.now) c.args.self.now.max_repetition c.args.self.now.max_definition c.args.self.now.count c.in-Ok.pairs items c.in-Ok.ensures are in
    IfOk-weaker c.count_present.result _ _ (λ n e. e ∙ ap (present_in c.args.self.now.max_definition) same) c.count_present.ensures.ok

pub returns-in-Ok-clause-err : goal.returns-in-Ok-clause-err
returns-in-Ok-clause-err c items are =
    let same : c.in-Ok.pairs ≡ items = pairs-same (sections_in c.args.self.now) c.args.self.now.max_repetition c.args.self.now.max_definition c.args.self.now.count c.in-Ok.pairs items c.in-Ok.ensures are in
    IfErr-weaker c.count_present.result _ _ (λ e h. (h.0, subst HasFault same h.1)) c.count_present.ensures.err
