use Rattle.std.proofs.Common.{ℕ}
use Rattle.std.specs.Prelude.{Ok, Err}
use Rattle.columns_base.specs.declared.error.Error.TheVariants.{OutOfSpec}
use Rattle.columns_base.specs.declared.error.S.TheVariants.{S1}
use Rattle.pq_numbers.specs.Texts.{Begins}
use Rattle.pq_thrift.specs.declared.value.Thrift.{Thrift}
use Rattle.pq_thrift.specs.Value.{view}
use Rattle.pq_metadata.specs.FlatFooter.{SpellsFlatFooter, SpellsFlatRecord}
use Rattle.pq_metadata.specs.FooterReads.{RefusesFooter}
use Rattle.pq_tree.specs.Reads.{Refuses}
use Rattle.pq_tree.specs.Views.{flat_view}
use Rattle.pq_container.proofs.FromBytes.{Told, footer_nothing, footer_none, footer_found}
use Rattle.pq_tree.proofs.Refusals.{err_exit, if_ok_more, if_err_more}
use Rattle.pq_container.proofs.footer.read_footer.Goals as goal

pub returns-in_err-value-clause-refused : goal.returns-in_err-value-clause-refused
returns-in_err-value-clause-refused c =
    let told : Told c.args.bytes.now (Err c.in_err-value.field-0.0) = record { complete = c.in_err-value.ensures.complete; only_deep = c.in_err-value.ensures.only_deep; deep = c.in_err-value.ensures.deep; exact = c.in_err-value.ensures.exact } in
    err_exit c.from_residual.result (RefusesFooter c.args.bytes.now) c.in_err-value.field-0.0 c.from_residual.ensures.1 (footer_nothing c.args.bytes.now c.in_err-value.field-0.0 told)

pub returns-clause-found : goal.returns-clause-found
returns-clause-found c =
    let x : Thrift × ℕ = (c.in_ok-value.value, c.in_ok-value.field-0-1) in
    let ok = c.in_ok-value.ensures.ok in
    if_ok_more c.footer_from.result (λ f. SpellsFlatFooter (view x.0) (flat_view f)) (λ f. Begins SpellsFlatRecord c.args.bytes.now (flat_view f)) (λ f h. footer_found c.args.bytes.now x (flat_view f) ok.1 ok.2 h) c.footer_from.ensures.found

pub returns-clause-refused : goal.returns-clause-refused
returns-clause-refused c =
    let x : Thrift × ℕ = (c.in_ok-value.value, c.in_ok-value.field-0-1) in
    let told : Told c.args.bytes.now (Ok x) = record { complete = c.in_ok-value.ensures.complete; only_deep = c.in_ok-value.ensures.only_deep; deep = c.in_ok-value.ensures.deep; exact = c.in_ok-value.ensures.exact } in
    if_err_more c.footer_from.result (Refuses (OutOfSpec S1) (SpellsFlatFooter (view x.0))) (RefusesFooter c.args.bytes.now) (λ e r. footer_none c.args.bytes.now x e told r) c.footer_from.ensures.refused

pub returns-clause-described : goal.returns-clause-described
returns-clause-described c = c.footer_from.ensures.described
