use Rattle.std.proofs.Common.{refl, sym, inr, subst, map}
use Rattle.std.specs.Prelude.{Option, string_bytes}
use Rattle.std.proofs.lemmas.Result.{err_from_is_err_and}
use Rattle.pq_thrift.specs.Value.{Value, view, values_view, fields_view}
use Rattle.pq_metadata.specs.FlatFooter.{FlatFooter, SpellsFlatFooter}
use Rattle.pq_metadata.specs.Footer.{HasKeys}
use Rattle.pq_tree.specs.Views.{element_view, group_view, key_view}
use Rattle.pq_container.proofs.Eachs.{struct_is}
use Rattle.pq_container.proofs.Parts.{footer_elements_none, footer_groups_none, schema_refused, groups_refused}
use Rattle.pq_container.proofs.footer.footer_from.Goals as goal

pub returns-in_err-elements-clause-refused : goal.returns-in_err-elements-clause-refused
returns-in_err-elements-clause-refused c =
    let p = err_from_is_err_and c.from_residual-in_err-elements.result c.from_residual-in_err-elements.ensures.1 in
    rw (p.1, p.2) (inr (refl, footer_elements_none (view c.args.value.now) (fields_view c.in-Some.fields.now) c.in-Some.ensures c.in_err-elements.ensures.refused))

pub returns-in_err-groups-clause-refused : goal.returns-in_err-groups-clause-refused
returns-in_err-groups-clause-refused c =
    let p = err_from_is_err_and c.from_residual-in_err-groups.result c.from_residual-in_err-groups.ensures.1 in
    rw (p.1, p.2) (inr (refl, footer_groups_none (view c.args.value.now) (fields_view c.in-Some.fields.now) c.in-Some.ensures c.in_err-groups.ensures.refused))

pub returns-in_err-name-clause-refused : goal.returns-in_err-name-clause-refused
returns-in_err-name-clause-refused c =
    let p = err_from_is_err_and c.from_residual-in_err-name.result c.from_residual-in_err-name.ensures.1 in
    rw (p.1, p.2) (schema_refused _ _ (view c.args.value.now) (fields_view c.in-Some.fields.now) (values_view c.in_ok-elements.elements.now) c.in-Some.ensures c.in_ok-elements.ensures.found c.in_err-name.ensures.refused)

pub returns-in_err-row_groups-clause-refused : goal.returns-in_err-row_groups-clause-refused
returns-in_err-row_groups-clause-refused c =
    let p = err_from_is_err_and c.from_residual-in_err-row_groups.result c.from_residual-in_err-row_groups.ensures.1 in
    rw (p.1, p.2) (groups_refused _ _ (view c.args.value.now) (fields_view c.in-Some.fields.now) (values_view c.in_ok-groups.groups.now) c.in-Some.ensures c.in_ok-groups.ensures.found c.in_err-row_groups.ensures.refused)

pub returns-clause-found : goal.returns-clause-found
returns-clause-found c =
    let elements = c.in_ok-elements.ensures.found in
    let groups = c.in_ok-groups.ensures.found in
    let footer : FlatFooter = record {
      name = string_bytes c.in_ok-name.name;
      children = c.in_ok-name.num_children;
      nodes = map element_view c.in_ok-name.elements.items;
      groups = map group_view c.in_ok-row_groups.row_groups.items;
      keys = map key_view c.in_ok-key_value_metadata.key_value_metadata.items;
    } in
    subst
    (λ (v : Value). SpellsFlatFooter v footer)
    (sym (struct_is (view c.args.value.now) (fields_view c.in-Some.fields.now) c.in-Some.ensures))
    record {
      version = (c.in_ok-_version._version, c.in_ok-_version.ensures.found);
      kind = elements.0;
      elements = values_view c.in_ok-elements.elements.now;
      has_elements = elements.1;
      schema = c.in_ok-name.ensures.found;
      num_rows = (c.in_ok-_num_rows._num_rows, c.in_ok-_num_rows.ensures.found);
      group_kind = groups.0;
      groups = values_view c.in_ok-groups.groups.now;
      has_groups = groups.1;
      are = c.in_ok-row_groups.ensures.found;
      keys = subst (λ (o : Option Value). HasKeys o (map key_view c.in_ok-key_value_metadata.key_value_metadata.items)) c.last_with.ensures c.in_ok-key_value_metadata.ensures.found;
      plain = c.in_ok-check_absent.ensures.found;
    }
