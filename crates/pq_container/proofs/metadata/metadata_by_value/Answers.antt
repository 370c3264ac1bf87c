use Rattle.std.proofs.Common.{◌≡◌, ℕ}
use Rattle.std.specs.Prelude.{Ok, Err}
use Rattle.columns_base.specs.declared.error.Error.{Error}
use Rattle.pq_numbers.specs.Texts.{Begins}
use Rattle.pq_thrift.specs.declared.value.Thrift.{Thrift}
use Rattle.pq_thrift.specs.Value.{view}
use Rattle.pq_metadata.specs.Encrypted.{SaysEncrypted}
use Rattle.pq_metadata.specs.FlatFooter.{flat_form}
use Rattle.pq_tree.specs.Forest.{RefusesTrees}
use Rattle.pq_metadata.specs.Metadata.{IsFooterText, RefusesMetadata}
use Rattle.pq_tree.specs.TreeViews.{metadata_view}
use Rattle.pq_tree.specs.Views.{flat_view}
use Rattle.pq_container.proofs.Encryptions.{if_true, if_false}
use Rattle.pq_container.proofs.FromBytes.{Told}
use Rattle.pq_container.proofs.MetadataReads.{metadata_nothing, metadata_encrypted, metadata_none, metadata_found, metadata_refused}
use Rattle.pq_tree.proofs.Refusals.{err_exit, if_ok_more, if_err_more}
use Rattle.pq_container.proofs.metadata.metadata_by_value.Goals as goal

pub returns-in_err-value-clause-refused : goal.returns-in_err-value-clause-refused
returns-in_err-value-clause-refused c =
    let e = c.in_err-value.field-0.0 in
    let told : Told c.args.bytes.now (Err e) = record { complete = c.in_err-value.ensures.complete; only_deep = c.in_err-value.ensures.only_deep; deep = c.in_err-value.ensures.deep; exact = c.in_err-value.ensures.exact } in
    err_exit c.from_residual.result (RefusesMetadata c.args.bytes.now) e c.from_residual.ensures.1 (metadata_nothing c.args.bytes.now e told c.in_err-value.ensures.only_outside)

pub returns-then-says_encrypted-clause-refused : goal.returns-then-says_encrypted-clause-refused
returns-then-says_encrypted-clause-refused c =
    let x : Thrift × ℕ = (c.in_ok-value.value, c.in_ok-value.field-0-1) in
    let bytes = c.args.bytes.now in
    let ok = c.in_ok-value.ensures.ok in
    let told : Told bytes (Ok x) = record { complete = c.in_ok-value.ensures.complete; only_deep = c.in_ok-value.ensures.only_deep; deep = c.in_ok-value.ensures.deep; exact = c.in_ok-value.ensures.exact } in
    metadata_encrypted bytes x ok.1 ok.2 told (if_true c.says_encrypted.result (SaysEncrypted (view x.0)) (¬ SaysEncrypted (view x.0)) c.if-says_encrypted.true c.says_encrypted.ensures)

pub returns-in_err-footer-clause-refused : goal.returns-in_err-footer-clause-refused
returns-in_err-footer-clause-refused c =
    let x : Thrift × ℕ = (c.in_ok-value.value, c.in_ok-value.field-0-1) in
    let bytes = c.args.bytes.now in
    let ok = c.in_ok-value.ensures.ok in
    let told : Told bytes (Ok x) = record { complete = c.in_ok-value.ensures.complete; only_deep = c.in_ok-value.ensures.only_deep; deep = c.in_ok-value.ensures.deep; exact = c.in_ok-value.ensures.exact } in
    let plain : ¬ SaysEncrypted (view x.0) = if_false c.says_encrypted.result (SaysEncrypted (view x.0)) (¬ SaysEncrypted (view x.0)) c.if-says_encrypted.false c.says_encrypted.ensures in
    let e = c.in_err-footer.field-0.0 in
    err_exit c.from_residual-in_err-footer.result (RefusesMetadata bytes) e c.from_residual-in_err-footer.ensures.1 (metadata_none bytes x ok.1 ok.2 told e plain c.in_err-footer.ensures.refused)

pub returns-clause-found : goal.returns-clause-found
returns-clause-found c =
    let x : Thrift × ℕ = (c.in_ok-value.value, c.in_ok-value.field-0-1) in
    let bytes = c.args.bytes.now in
    let ok = c.in_ok-value.ensures.ok in
    let told : Told bytes (Ok x) = record { complete = c.in_ok-value.ensures.complete; only_deep = c.in_ok-value.ensures.only_deep; deep = c.in_ok-value.ensures.deep; exact = c.in_ok-value.ensures.exact } in
    let flat = flat_view c.in_ok-footer.footer in
    if_ok_more c.metadata_of.result (λ m. flat_form (metadata_view m) ≡ flat) (λ m. Begins IsFooterText bytes (metadata_view m)) (λ m h. metadata_found bytes x ok.1 ok.2 told (metadata_view m) flat c.in_ok-footer.ensures.found h) c.metadata_of.ensures.found

pub returns-clause-refused : goal.returns-clause-refused
returns-clause-refused c =
    let x : Thrift × ℕ = (c.in_ok-value.value, c.in_ok-value.field-0-1) in
    let bytes = c.args.bytes.now in
    let ok = c.in_ok-value.ensures.ok in
    let told : Told bytes (Ok x) = record { complete = c.in_ok-value.ensures.complete; only_deep = c.in_ok-value.ensures.only_deep; deep = c.in_ok-value.ensures.deep; exact = c.in_ok-value.ensures.exact } in
    let plain : ¬ SaysEncrypted (view x.0) = if_false c.says_encrypted.result (SaysEncrypted (view x.0)) (¬ SaysEncrypted (view x.0)) c.if-says_encrypted.false c.says_encrypted.ensures in
    let flat = flat_view c.in_ok-footer.footer in
    if_err_more c.metadata_of.result (RefusesTrees flat.nodes flat.children) (RefusesMetadata bytes) (λ (e : Error) h. metadata_refused bytes x ok.1 ok.2 told flat e plain c.in_ok-footer.ensures.found h) c.metadata_of.ensures.refused
