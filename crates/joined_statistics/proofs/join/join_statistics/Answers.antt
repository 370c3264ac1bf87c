use Rattle.std.proofs.Common.{◌≡◌, ◌∙◌, ◌++◌, List, ℕ, pos, Some, ap, option_map, subst, sym}
use Rattle.shredding.specs.Slot.{Value}
use Rattle.pq_files.specs.Page.{values_in}
use Rattle.pq_tree.specs.Views.{bytes_view}
use Rattle.joined_statistics.specs.Told.{IsLeastText, IsGreatestText}
use Rattle.joined_statistics.proofs.Joined.{few_nulls, nulls_joined, values_joined}
use Rattle.joined_statistics.proofs.join.join_statistics.Goals as goal

pub returns-clause-ok : goal.returns-clause-ok
returns-clause-ok c = λ t p xs ys o few h k.
    let e = values_joined xs ys in
    record {
      nulls = c.sum_of-null_count.ensures _ _ h.nulls k.nulls (few_nulls xs ys few) ∙ ap (λ (n : ℕ). Some (pos n)) (sym (nulls_joined xs ys));
      least = subst (λ (vs : List Value). IsLeastText t p vs (option_map bytes_view c.in_ok-min_value.min_value)) (sym e) (c.in_ok-min_value.ensures.ok t p (values_in xs) (values_in ys) o h.least k.least);
      greatest = subst (λ (vs : List Value). IsGreatestText t p vs (option_map bytes_view c.in_ok-max_value.max_value)) (sym e) (c.in_ok-max_value.ensures.ok t p (values_in xs) (values_in ys) o h.greatest k.greatest);
    }
