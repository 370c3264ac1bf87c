use Rattle.rewrite_whole.proofs.Opens.{opens_one}
use Rattle.rewrite_whole.proofs.Wholes.{on_both}
use Rattle.rewrite_whole.proofs.open.open_chunk.Goals as goal

pub returns-clause-ok : goal.returns-clause-ok
returns-clause-ok c = λ place l a. on_both c.get_page_iterator.result _ _ (λ r o. opens_one c.args.input.now place c.size_of-size.result c.args.chunk.now l r a c.size_of-size.ensures o) c.get_page_iterator.ensures.ok
