use Rattle.std.proofs.Common.{ap, sym}
use Rattle.schema_from_tree.proofs.One.{more_info}
use Rattle.schema_from_tree.proofs.info.info_of_item.Goals as goal

pub returns-in-empty-2-clause-name : goal.returns-in-empty-2-clause-name
returns-in-empty-2-clause-name c =
    let g = c.in-GroupType in
    ap (λ i. i.name) (sym (more_info _ g.field_info g.logical_type g.converted_type g.fields _ g.is c.as_slice.ensures.value c.in-empty.len_at_least))

pub returns-in-empty-2-clause-repetition : goal.returns-in-empty-2-clause-repetition
returns-in-empty-2-clause-repetition c =
    let g = c.in-GroupType in
    ap (λ i. i.repetition) (sym (more_info _ g.field_info g.logical_type g.converted_type g.fields _ g.is c.as_slice.ensures.value c.in-empty.len_at_least))
