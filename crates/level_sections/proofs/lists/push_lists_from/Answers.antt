use Rattle.std.proofs.Common.{◌≡◌, ◌==◌, ◌+◌, ◌%◌, ◌∙◌, ap, arith, sym}
use Rattle.std.proofs.lemmas.Nat.Bits.{bit_at_lowest}
use Rattle.shredding.specs.Parts.{is_present}
use Rattle.levels.specs.Sizes.{list_size}
use Rattle.pq_runs.proofs.Steps.{finished}
use Rattle.level_sections.proofs.Told.{lists_first}
use Rattle.level_sections.proofs.lists.push_lists_from.Goals as goal

pub returns-clause-added : goal.returns-clause-added
returns-clause-added g c =
    let list = c.args.list.now in
    let size = list_size list.is_optional list.validity list.offsets in
    let here : c.args.from + 0 ≡ c.args.from = omega arith in
    let there : (c.present_word-word.result % 2 == 1) ≡ is_present list.is_optional list.validity c.args.from =
    ap (λ n. n == 1) (sym (bit_at_lowest c.present_word-word.result)) ∙ (c.present_word-word.ensures 0 (omega arith) ∙ ap (is_present list.is_optional list.validity) here) in
    finished c.push_lists.result
    (λ f start xs k. lists_first start _ _ _ _ _ _ _ _ size c.args.above.rep c.args.above.depth c.args.from c.args.to c.pairs_at-pairs.result xs c.requires.some (c.pairs_at-pairs.ensures.size list.is_optional list.validity there) c.in_ok-push.ensures.added c.in_ok-push-2.ensures.added f k) c.push_lists.ensures.added
