use Rattle.std.proofs.Common.{◌≡◌, ◌∙◌, ap, refl, rules, sym, true≢false}
use Rattle.columns_array.specs.Boxed.{boxed}
use Rattle.columns_core.specs.Shapes.{base}
use Rattle.columns_core.specs.Tree.{TypeTree}
use Rattle.columns_slots.specs.Slots.{child_of, type_of}
use Rattle.columns_slots.specs.Tree.{ArrayTree}
use Rattle.pq_tree.specs.Views.{physical_view}
use Rattle.dictionary_pages.specs.Entries.{is_entry}
use Rattle.write_pages.proofs.keyed_fit.check_keyed_fit.Goals as goal

pub returns-clause-ok : goal.returns-clause-ok
returns-clause-ok c =
    let p = physical_view c.args.type_.now.physical_type in
    let entry : c.is_entry.result ≡ is_entry (base (type_of (child_of (boxed c.args.array.now)))) p =
    c.is_entry.ensures ∙ ap (λ (t : TypeTree). is_entry (base t) p) (c.data_type.ensures ∙ (ap type_of c.values.ensures ∙ ap (λ (x : ArrayTree). type_of (child_of x)) c.requires.same)) in
    record {
      in_bounds = search rules;
      array = search rules;
      optional = search rules;
      entries = sym entry ∙ c.if-not-is_entry.false;
    }

pub returns-then-not-is_entry-clause-err : goal.returns-then-not-is_entry-clause-err
returns-then-not-is_entry-clause-err c =
    let p = physical_view c.args.type_.now.physical_type in
    let entry : c.is_entry.result ≡ is_entry (base (type_of (child_of (boxed c.args.array.now)))) p =
    c.is_entry.ensures ∙ ap (λ (t : TypeTree). is_entry (base t) p) (c.data_type.ensures ∙ (ap type_of c.values.ensures ∙ ap (λ (x : ArrayTree). type_of (child_of x)) c.requires.same)) in
    (refl, λ f. true≢false (sym f.entries ∙ (sym entry ∙ c.if-not-is_entry.true)))
