use Rattle.std.proofs.lemmas.Result.{on_ok_weaker}
use Rattle.read_state.specs.Kinds.{all_kept}
use Rattle.read_state.proofs.Long.{copies-are-block}
use Rattle.read_state.proofs.block.push_equal.Goals as goal

pub returns-clause-ok : goal.returns-clause-ok
returns-clause-ok g c = on_ok_weaker c.push_to.result (λ e. copies-are-block c.args.count c.args.rep c.args.level (all_kept c.args.parts.now) (all_kept c.push_to.new.parts) c.requires.fits e) c.push_to.ensures.ok
