use Rattle.std.proofs.Common.{true, Option, option_map, subst, arith}
use Rattle.std.proofs.lemmas.List.{length-append}
use Rattle.page_statistics.specs.Stated.{AreStated}
use Rattle.pq_tree.specs.declared.types.Statistics.{Statistics}
use Rattle.pq_tree.specs.Views.{statistics_view}
use Rattle.joined_statistics.proofs.Stated.{is_ordered, none_stated, told}
use Rattle.write_pages.proofs.PageRows.{each_ok}
use Rattle.write_pages.proofs.known_pages.with_statistics.Goals as goal

pub returns-in-Some-clause-ok : goal.returns-in-Some-clause-ok
returns-in-Some-clause-ok c =
    each_ok c.join_statistics.result _ _
    (λ s step t p xs ys o few l r. step t p xs ys o few l
    (told t p ys (statistics_view c.in-Some.second) (is_ordered c.args.order t o) (omega (arith, few, length-append xs ys))
    (subst (λ (x : Option Statistics). AreStated true t p ys (option_map statistics_view x)) c.in-Some.is r))) c.join_statistics.ensures.ok

pub returns-in-None-clause-ok : goal.returns-in-None-clause-ok
returns-in-None-clause-ok c = λ t p xs ys o few l r.
    absurd (none_stated t p ys (omega (arith, few, length-append xs ys)) (subst (λ (x : Option Statistics). AreStated true t p ys (option_map statistics_view x)) c.in-None.is r))
