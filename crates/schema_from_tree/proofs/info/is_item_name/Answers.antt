use Rattle.std.proofs.Common.{sym, ◌∙◌}
use Rattle.schema_from_tree.proofs.Names.{ends_in_tuple, no_tuple}
use Rattle.schema_from_tree.proofs.info.is_item_name.Goals as goal

pub returns-in-Some : goal.returns-in-Some
returns-in-Some c =
    let a = c.in-Some.ensures.cases in
    ends_in_tuple _ _ _ _ _ _ c.as_bytes.ensures.value c.as_bytes-in-Some.ensures.value (sym c.eq.ensures ∙ c.if-eq.false) a.0 a.1 c.eq-in-Some.ensures

pub returns-in-None : goal.returns-in-None
returns-in-None c = no_tuple _ _ _ c.as_bytes.ensures.value (sym c.eq.ensures ∙ c.if-eq.false) c.in-None.ensures.cases
